use Rattle.std.proofs.Common.{ap, subst, ℕ, ◌+◌}
use Rattle.svr_typed.specs.ExprTerm.{expr_term, bound_term}
use Rattle.svr_gate.proofs.Circuits.{later}
use Rattle.svr_vector.specs.Places.{rows}
use Rattle.svr_inputs.specs.Inputs.{read_at}
use Rattle.svr_encode.specs.Parts.{low_parts, high_parts}
use Rattle.svr_encode.specs.Given.{AreGiven}
use Rattle.svr_encode.proofs.GivenLemmas.{given_front, given_rest, given_later}
use Rattle.svr_encode.proofs.member.is_between.Goals as goal

pub returns-in_err-to-clause-extends : goal.returns-in_err-to-clause-extends
returns-in_err-to-clause-extends c = search later

pub returns-clause-extends : goal.returns-clause-extends
returns-clause-extends c = search later

pub is_from-requires-clause-parts : goal.is_from-requires-clause-parts
is_from-requires-clause-parts c =
    let g = c.args.given.now in
    let left = expr_term c.args.left.now in
    given_front (rows g.values.now) (λ v. read_at g.inputs.now v) g.env.now c.args.b.now c.args.at (low_parts left (bound_term c.args.low.now)) (high_parts left (bound_term c.args.high.now)) c.requires.parts

pub is_up_to-requires-clause-parts : goal.is_up_to-requires-clause-parts
is_up_to-requires-clause-parts c =
    let g = c.args.given.now in
    let left = expr_term c.args.left.now in
    given_later (rows g.values.now) (λ v. read_at g.inputs.now v) g.env.now c.args.b.now c.is_from.new.b _ (high_parts left (bound_term c.args.high.now)) c.is_from.ensures.extends
    (subst (λ (n : ℕ). AreGiven c.args.b.now g n (high_parts left (bound_term c.args.high.now))) (ap (λ n. c.args.at + n) (c.bound_count.ensures.low left))
    (given_rest (rows g.values.now) (λ v. read_at g.inputs.now v) g.env.now c.args.b.now c.args.at (low_parts left (bound_term c.args.low.now)) (high_parts left (bound_term c.args.high.now)) c.requires.parts))
