use Rattle.std.proofs.Common.{◌≡◌, ◌++◌, map, sym, ap, ◌∙◌, subst}
use Rattle.std.specs.Prelude.{OnOk}
use Rattle.svr_typed.specs.ExprTerm.{BoundTerm, expr_term, bound_term}
use Rattle.svr_encode.specs.Parts.{part_term, high_parts}
use Rattle.svr_encode.proofs.TermLemmas.{value_term}
use Rattle.svr_encode.proofs.SetLemmas.{pair_added}
use Rattle.svr_encode.proofs.set.add_high.Goals as goal

pub add_left-requires : goal.add_left-requires
add_left-requires c = c.in_ok-add_member-in-Value.ensures.set (expr_term c.args.left.now) c.requires.set

pub returns-in_ok-add_member-in-Value-clause-parts : goal.returns-in_ok-add_member-in-Value-clause-parts
returns-in_ok-add_member-in-Value-clause-parts c =
    subst (λ (b : BoundTerm). OnOk c.add_left.result (map part_term c.add_left.new.set.parts.items ≡ map part_term c.args.set.now.parts.items ++ high_parts (expr_term c.args.left.now) b)) (sym (ap bound_term c.in-Value.is ∙ value_term c.in-Value.high))
    (pair_added c.add_left.result (map part_term c.args.set.now.parts.items) (map part_term c.add_member.new.set.parts.items) (map part_term c.add_left.new.set.parts.items) c.common_width-width.result c.are_signed-signed.result
    (expr_term c.in-Value.high) (expr_term c.args.left.now) c.common_width-width.ensures c.are_signed-signed.ensures c.in_ok-add_member-in-Value.ensures.parts c.add_left.ensures.parts)
