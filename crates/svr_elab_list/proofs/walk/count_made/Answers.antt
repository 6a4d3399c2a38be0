use Rattle.std.proofs.lemmas.Result.{IfOk-weaker}
use Rattle.svr_tree.specs.ExprTree.{expr_tree}
use Rattle.svr_elab_names.specs.Tables.{space_of}
use Rattle.svr_elab_type.specs.Seen.{constant_part}
use Rattle.svr_elab_list.proofs.Forms.{constant_there}
use Rattle.svr_elab_list.proofs.walk.count_made.Goals as goal

pub returns-clause-value : goal.returns-clause-value
returns-clause-value c =
    IfOk-weaker c.constant_at.result _ _ (λ x h. constant_there (space_of c.with_made-inside.result) _ (expr_tree c.args.count.now) (constant_part x) h c.with_made-inside.ensures.space) c.constant_at.ensures.value
