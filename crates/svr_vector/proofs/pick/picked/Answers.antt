use Rattle.std.proofs.Common.{◌≡◌, ◌<◌, ℕ, length, ap, sym, ◌∙◌, subst, arith}
use Rattle.std.proofs.lemmas.Int.{ints}
use Rattle.svr_chain.specs.Clauses.{AreWithin}
use Rattle.svr_gate.specs.Numbers.{number}
use Rattle.svr_gate.proofs.Circuits.{later, Extends-trans, AreWithin-later}
use Rattle.svr_gate.proofs.Vectors.{GivesNumber-same, GivesNumber-width}
use Rattle.svr_num.specs.Num.{read_of}
use Rattle.svr_vector.specs.Places.{rows, number_at, number_below}
use Rattle.svr_vector.proofs.PickLemmas.{pick_step, number_all, rows_len, row_at, vector_at}
use Rattle.svr_vector.proofs.pick.picked.Goals as goal

pub returns-in_err-is_here-clause-extends : goal.returns-in_err-is_here-clause-extends
returns-in_err-is_here-clause-extends c = search later

pub returns-in_err-picked-2-clause-extends : goal.returns-in_err-picked-2-clause-extends
returns-in_err-picked-2-clause-extends c = search later

pub choose-requires-clause-len : goal.choose-requires-clause-len
choose-requires-clause-len c =
    let lt : c.loop-i.i < length c.args.elements.now = omega (arith, c.loop-i-test.true) in
    let v = vector_at c.args.b.now.vars c.args.width c.args.elements.now c.loop-i.i c.index-elements-i.result lt c.index-elements-i.is c.requires.elements in
    ap length c.deref.ensures.value ∙ v.1 ∙ sym (ap length c.deref-in-loop-i.ensures.value ∙ c.loop-i.invariant.value.len)

pub choose-requires-clause-x_within : goal.choose-requires-clause-x_within
choose-requires-clause-x_within c =
    let lt : c.loop-i.i < length c.args.elements.now = omega (arith, c.loop-i-test.true) in
    let v = vector_at c.args.b.now.vars c.args.width c.args.elements.now c.loop-i.i c.index-elements-i.result lt c.index-elements-i.is c.requires.elements in
    subst (AreWithin c.is_place.new.b.vars) (sym c.deref.ensures.value) (AreWithin-later c.index-elements-i.result.items (Extends-trans c.loop-i.invariant.extends c.is_place.ensures.extends) v.0)

pub loop-i-preserved : goal.loop-i-preserved
loop-i-preserved c =
    let lt : c.loop-i.i < length c.args.elements.now = omega (arith, c.loop-i-test.true) in
    let v = vector_at c.args.b.now.vars c.args.width c.args.elements.now c.loop-i.i c.index-elements-i.result lt c.index-elements-i.is c.requires.elements in
    record {
      extends = search later;
      value =
          pick_step (rows c.args.elements.now) c.args.index.now c.args.signed _ c.loop-i.i c.args.width c.in_ok-is_here.is_here c.deref.result.now c.deref-in-loop-i.result.now c.in_ok-picked-2.picked.items
          c.is_place.ensures.extends c.choose.ensures.extends (c.deref.ensures.value ∙ row_at c.args.elements.now c.loop-i.i c.index-elements-i.result lt c.index-elements-i.is)
          (rw c.deref-in-loop-i.ensures.value c.loop-i.invariant.value) c.in_ok-is_here.ensures.value
          (GivesNumber-width (ap length c.deref.ensures.value ∙ v.1) c.in_ok-picked-2.ensures.value) (omega (arith, ints));
    }

pub returns-clause-value : goal.returns-clause-value
returns-clause-value c =
    let all : c.loop-i.i ≡ length (rows c.args.elements.now) = omega (arith, rows_len c.args.elements.now) in
    GivesNumber-same (λ a. number_at a (rows c.args.elements.now) (read_of c.args.signed (length c.args.index.now) (number a c.args.index.now))) c.loop-i.invariant.value
    (λ a m.
    ap (λ n. number_below n a (rows c.args.elements.now) (read_of c.args.signed (length c.args.index.now) (number a c.args.index.now))) all
    ∙ number_all a (rows c.args.elements.now) (read_of c.args.signed (length c.args.index.now) (number a c.args.index.now)))
