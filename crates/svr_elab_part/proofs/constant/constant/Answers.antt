use Rattle.std.proofs.Common.{◌≡◌, ◌∙◌, rules, SFits}
use Rattle.std.specs.Int.{w128}
use Rattle.std.proofs.lemmas.Int.{to_z-of_z}
use Rattle.svr_typed.specs.ExprTerm.{expr_term, node_term}
use Rattle.svr_elab_part.proofs.Constants.{number_is, own_sign, stored}
use Rattle.svr_elab_part.proofs.constant.constant.Goals as goal

pub returns-clause-value : goal.returns-clause-value
returns-clause-value c =
    let f : SFits w128 c.read.result = search rules in
    to_z-of_z w128 c.read.result f
    ∙ c.read.ensures.value
    ∙ number_is (expr_term c.args.tree.now) c.args.tree.now.signed c.constant_bits-bits.result.value c.constant_bits-bits.result.width
    (own_sign (expr_term c.args.tree.now) c.args.tree.now.width c.args.tree.now.signed (node_term c.args.tree.now.node) (stored c.args.tree.now) c.requires.typed)
    c.constant_bits-bits.ensures.value c.constant_bits-bits.ensures.width
