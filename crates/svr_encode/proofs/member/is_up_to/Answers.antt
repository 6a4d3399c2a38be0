use Rattle.std.proofs.Common.{sym, ap, ◌∙◌, subst, arith}
use Rattle.svr_typed.specs.ExprTerm.{BoundTerm, expr_term, bound_term}
use Rattle.svr_eval.specs.Typed.{BoundIsTyped}
use Rattle.svr_vector.specs.Places.{rows}
use Rattle.svr_inputs.specs.Inputs.{read_at}
use Rattle.svr_encode.specs.Parts.{high_parts}
use Rattle.svr_encode.specs.Given.{AreGiven}
use Rattle.svr_encode.proofs.TermLemmas.{value_term}
use Rattle.svr_encode.proofs.MemberLemmas.{size_some, pair_read, up_to_gives}
use Rattle.svr_encode.proofs.member.is_up_to.Goals as goal

pub returns-in-Value-clause-value : goal.returns-in-Value-clause-value
returns-in-Value-clause-value c =
    let g = c.args.given.now in
    up_to_gives c.args.b.now c.is_no_less.new.b (λ v. read_at g.inputs.now v) g.env.now (expr_term c.args.left.now) (expr_term c.in-Value.high) (bound_term c.args.bound.now) c.args.at c.are_signed.result (rows g.values.now) c.value_at-x.result.now c.value_at-y.result.now c.is_no_less.result
    (ap bound_term c.in-Value.is ∙ value_term c.in-Value.high) c.requires.parts c.value_at-x.ensures c.value_at-y.ensures c.are_signed.ensures c.is_no_less.ensures.extends c.is_no_less.ensures.value

pub is_no_less-requires : goal.is_no_less-requires
is_no_less-requires c =
    let g = c.args.given.now in
    let pair = pair_read c.args.b.now (λ v. read_at g.inputs.now v) g.env.now (expr_term c.in-Value.high) (expr_term c.args.left.now) c.args.at (rows g.values.now) c.value_at-x.result.now c.value_at-y.result.now
    (subst (λ (o : BoundTerm). AreGiven c.args.b.now g c.args.at (high_parts (expr_term c.args.left.now) o)) (ap bound_term c.in-Value.is ∙ value_term c.in-Value.high) c.requires.parts) c.value_at-x.ensures c.value_at-y.ensures in
    record {
      some = omega (arith, pair.0.len, size_some (expr_term c.args.left.now) c.requires.left_typed);
      len = pair.0.len ∙ sym pair.1.len;
      x_within = pair.0.within;
      y_within = pair.1.within;
    }

pub are_signed-requires-clause-x_typed : goal.are_signed-requires-clause-x_typed
are_signed-requires-clause-x_typed c = subst BoundIsTyped (ap bound_term c.in-Value.is ∙ value_term c.in-Value.high) c.requires.typed
