use Rattle.std.proofs.Common.{Some, None}
use Rattle.svr_token.specs.Names.{name_at}
use Rattle.svr_typed.specs.StmtTerm.{design_term}
use Rattle.svr_tree.specs.ScriptTree.{script_tree}
use Rattle.svr_elab.specs.Promise.{IsAccepted}
use Rattle.svr_elaborate.proofs.Accepted.{has_design, never_without}
use Rattle.svr_elaborate.proofs.design.elaborate.Goals as goal

pub unreachable-requires : goal.unreachable-requires
unreachable-requires c =
    let it : IsAccepted (name_at c.args.text.now c.args.tokens.now) (script_tree c.args.tree.now) None = rw c.in-Ok-None.field-0-is at c.in-Ok-None.ensures.accepted in
    never_without c.args.text.now c.args.tokens.now (name_at c.args.text.now c.args.tokens.now) (script_tree c.args.tree.now) c.requires it

pub returns-in-Ok-Some-clause-accepted : goal.returns-in-Ok-Some-clause-accepted
returns-in-Ok-Some-clause-accepted c =
    let it : IsAccepted (name_at c.args.text.now c.args.tokens.now) (script_tree c.args.tree.now) (Some (design_term c.in-Ok-Some.design)) = rw c.in-Ok-Some.field-0-is at c.in-Ok-Some.ensures.accepted in
    has_design c.args.text.now c.args.tokens.now (name_at c.args.text.now c.args.tokens.now) (script_tree c.args.tree.now) c.requires (design_term c.in-Ok-Some.design) it
