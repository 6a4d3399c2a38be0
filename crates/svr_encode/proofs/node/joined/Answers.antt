use Rattle.std.proofs.Common.{◌≡◌, ◌-◌, ◌<◌, ℕ, suc, length, drop, arith, subst}
use Rattle.svr_typed.specs.ExprTerm.{expr_terms}
use Rattle.svr_gate.specs.Circuit.{GivesNumber}
use Rattle.svr_eval.specs.Value.{sizes, joined}
use Rattle.svr_vector.specs.Places.{rows}
use Rattle.svr_inputs.specs.Inputs.{read_at}
use Rattle.svr_encode.specs.Parts.{alone_parts}
use Rattle.svr_encode.proofs.NodeLemmas.{joined_more, joined_none, joined_all, alone_len}
use Rattle.svr_encode.proofs.GivenLemmas.{given_len}
use Rattle.svr_encode.proofs.node.joined.Goals as goal

pub loop-at-init : goal.loop-at-init
loop-at-init c =
    let g = c.args.given.now in
    record { within = omega arith; value = rw c.new-whole.ensures.items (joined_none c.args.b.now (λ v. read_at g.inputs.now v) g.env.now _ c.args.parts.now (omega arith)) }

pub value_at-requires : goal.value_at-requires
value_at-requires c =
    let g = c.args.given.now in
    omega (arith, given_len (rows g.values.now) (λ v. read_at g.inputs.now v) g.env.now c.args.b.now 0 (alone_parts (expr_terms c.args.parts.now)) c.requires.parts, alone_len c.args.parts.now, c.loop-at.invariant.within)

pub loop-at-preserved : goal.loop-at-preserved
loop-at-preserved c =
    let g = c.args.given.now in
    let lt : c.loop-at.at - 1 < length c.args.parts.now = omega (arith, c.loop-at.invariant.within) in
    let up : c.loop-at.at ≡ suc (c.loop-at.at - 1) = omega (arith, c.loop-at-test.true) in
    let behind = subst (λ (n : ℕ). GivesNumber c.args.b.now c.loop-at.whole.items (sizes (expr_terms (drop n c.args.parts.now))) (λ v. joined (read_at g.inputs.now v) g.env.now (expr_terms (drop n c.args.parts.now)))) up c.loop-at.invariant.value in
    record {
      within = omega (arith, lt);
      value = rw (c.in_ok-extend_from_slice.ensures.items, c.value_at.ensures) (joined_more c.args.b.now (rows g.values.now) (λ v. read_at g.inputs.now v) g.env.now c.loop-at.whole.items (c.loop-at.at - 1) c.args.parts.now lt c.requires.parts behind);
    }

pub returns : goal.returns
returns c =
    let g = c.args.given.now in
    joined_all c.args.b.now (λ v. read_at g.inputs.now v) g.env.now c.loop-at.whole.items c.loop-at.at c.args.parts.now (omega arith) c.loop-at.invariant.value
