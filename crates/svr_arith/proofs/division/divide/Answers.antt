use Rattle.std.proofs.Common.{◌≡◌, ◌∙◌, ◌+◌, ◌-◌, ◌∷◌, ◌&&◌, ap, subst, sym, ℕ, Bool, ◌<◌, ◌^◌, List, arith, length, take, drop, get_or, cond, leb, eqb, false}
use Rattle.std.proofs.lemmas.List.{length-take-le}
use Rattle.std.proofs.lemmas.List.Elements.{All-cons, All-take}
use Rattle.svr_chain.specs.declared.clause.Lit.{Lit}
use Rattle.svr_chain.specs.Clauses.{IsWithin, AreWithin}
use Rattle.svr_chain.specs.Valuations.{lit_value, Meets}
use Rattle.svr_gate.specs.Numbers.{number}
use Rattle.svr_gate.specs.Circuit.{Tells, GivesNumber}
use Rattle.svr_gate.proofs.Circuits.{later, AreWithin-later, Tells-later, Tells-same, Tells-flipped}
use Rattle.svr_gate.proofs.Vectors.{GivesNumber-width}
use Rattle.svr_arith.specs.Division.{Divides}
use Rattle.svr_arith.proofs.DivisionLemmas.{divides_none, divides_short, divides_step}
use Rattle.svr_arith.proofs.division.divide.Goals as goal

pub loop-i-init : goal.loop-i-init
loop-i-init c = record {
  extends = c.high_zeros.ensures.extends;
  small = c.known_bits-bits.ensures;
  zeros = c.in_ok-zeros.ensures.value;
  divides = rw (c.new-quotient.ensures.items, c.new-rest.ensures.items) (divides_none c.high_zeros.new.b c.args.x.now c.args.y.now);
}

pub returns-in_err-goes-clause-extends : goal.returns-in_err-goes-clause-extends
returns-in_err-goes-clause-extends c = search later

pub returns-in_err-insert-2-clause-extends : goal.returns-in_err-insert-2-clause-extends
returns-in_err-insert-2-clause-extends c = search later

pub returns-in_err-rest-clause-extends : goal.returns-in_err-rest-clause-extends
returns-in_err-rest-clause-extends c = search later

pub loop-i-preserved : goal.loop-i-preserved
loop-i-preserved c = record {
  extends = search later;
  small = λ a m. c.loop-i.invariant.small a (c.step.ensures.extends.keeps a (c.shortened.ensures.extends.keeps a m));
  zeros = λ t e h. Tells-later c.shortened.ensures.extends (Tells-later c.step.ensures.extends (c.loop-i.invariant.zeros t e h));
  divides = rw c.in_ok-insert-2.ensures.items
      (divides_short c.known_bits-bits.result c.shortened.ensures.extends stepped
      (λ a m. c.loop-i.invariant.small a (c.step.ensures.extends.keeps a m))
      c.in_ok-rest.ensures.within (c.in_ok-rest.ensures.len ∙ ap length c.deref-in-loop-i.ensures.value)
      (subst (λ (ls : List Lit). (a : ℕ → Bool) → Meets a c.shortened.new.b.clauses → number a ls < 2 ^ c.known_bits-bits.result → number a c.in_ok-rest.rest.items ≡ number a ls) c.deref-in-loop-i.ensures.value c.in_ok-rest.ensures.value));
} where
  d : Lit
  d = record { var = 0; neg = false }

  place : ℕ
  place = length c.args.x.now - 1 - c.loop-i.i

  fits : Lit
  fits = c.index.result.now

  left : List Lit
  left = c.in_ok-goes.left.items

  low : List Lit
  low = take (c.loop-i.i + 1) c.args.y.now

  dr : c.deref.result.now ≡ get_or c.args.x.now place d ∷ c.loop-i.rest.items
  dr = c.deref.ensures.value ∙ c.in_ok-insert.ensures.items

  len : length c.deref.result.now ≡ c.loop-i.i + 1
  len = ap length dr ∙ omega (arith, c.loop-i.invariant.divides.rest_len)

  stepped : Divides c.step.new.b (c.in_ok-goes.goes ∷ c.loop-i.quotient.items) left (c.loop-i.i + 1) (λ a. number a (drop (length c.args.x.now - (c.loop-i.i + 1)) c.args.x.now)) (λ a. number a c.args.y.now)
  stepped =
      divides_step c.loop-i.b c.step.new.b c.args.x.now c.args.y.now c.loop-i.quotient.items c.loop-i.rest.items left fits c.in_ok-goes.goes d c.loop-i.i c.step.ensures.extends (omega arith) c.requires.len c.loop-i.invariant.divides
      (subst (λ (l : Lit). Tells c.loop-i.b l (λ a. eqb (number a (drop (length c.args.y.now - place) c.args.y.now)) 0)) (sym c.index.ensures) (c.loop-i.invariant.zeros place fits (omega (arith, c.in_ok-zeros.ensures.len, c.requires.len))))
      (subst (λ (ls : List Lit). Tells c.step.new.b c.in_ok-goes.goes (λ a. lit_value a fits && leb (number a low) (number a ls))) dr c.in_ok-goes.ensures.goes)
      (subst (λ (ls : List Lit). GivesNumber c.step.new.b left (c.loop-i.i + 1) (λ a. cond (lit_value a fits && leb (number a low) (number a ls)) (number a ls - number a low) (number a ls))) dr (GivesNumber-width len c.in_ok-goes.ensures.rest))

pub returns-clause-is_defined : goal.returns-clause-is_defined
returns-clause-is_defined c =
    let y = c.args.y.now in
    let zero = c.index-2.result.now in
    let all = subst (λ (l : Lit). Tells c.loop-i.b l (λ a. eqb (number a (drop (length y - length y) y)) 0)) (sym c.index-2.ensures) (c.loop-i.invariant.zeros (length y) zero (omega (arith, c.in_ok-zeros.ensures.len))) in
    let none : length y - length y ≡ 0 = omega arith in
    rw c.flipped-is_defined.ensures (Tells-flipped (Tells-same (λ a. eqb (number a y) 0) all (λ a m. ap (λ k. eqb (number a (drop k y)) 0) none)))

pub index-requires : goal.index-requires
index-requires c = omega (arith, c.in_ok-zeros.ensures.len, c.requires.len)

pub index-requires-2 : goal.index-requires-2
index-requires-2 c = omega (arith, c.in_ok-zeros.ensures.len)

pub step-requires-clause-len : goal.step-requires-clause-len
step-requires-clause-len c =
    ap (λ (ls : List Lit). length ls) (c.deref.ensures.value ∙ c.in_ok-insert.ensures.items)
    ∙ omega (arith, c.loop-i.invariant.divides.rest_len)
    ∙ sym (length-take-le (c.loop-i.i + 1) c.args.y.now (omega (arith, c.requires.len)))

pub step-requires-clause-rest_within : goal.step-requires-clause-rest_within
step-requires-clause-rest_within c =
    let d : Lit = record { var = 0; neg = false } in
    let place = length c.args.x.now - 1 - c.loop-i.i in
    let i = c.loop-i.invariant in
    subst (λ (ls : List Lit). AreWithin c.loop-i.b.vars ls) (sym (c.deref.ensures.value ∙ c.in_ok-insert.ensures.items))
    (All-cons (IsWithin c.loop-i.b.vars) (get_or c.args.x.now place d) c.loop-i.rest.items (AreWithin-later c.args.x.now i.extends c.requires.x_within place d (omega arith)) i.divides.rest_within)

pub step-requires-clause-y_within : goal.step-requires-clause-y_within
step-requires-clause-y_within c =
    All-take (IsWithin c.loop-i.b.vars) (c.loop-i.i + 1) c.args.y.now (AreWithin-later c.args.y.now c.loop-i.invariant.extends c.requires.y_within)

pub step-requires-clause-fits_within : goal.step-requires-clause-fits_within
step-requires-clause-fits_within c =
    subst (λ (l : Lit). IsWithin c.loop-i.b.vars l) (sym c.index.ensures)
    (c.loop-i.invariant.zeros (length c.args.x.now - 1 - c.loop-i.i) c.index.result.now (omega (arith, c.in_ok-zeros.ensures.len, c.requires.len))).within

pub returns-clause-extends : goal.returns-clause-extends
returns-clause-extends c = c.loop-i.invariant.extends

pub returns-clause-divides : goal.returns-clause-divides
returns-clause-divides c =
    let b = c.loop-i.b in
    let x = c.args.x.now in
    let y = c.args.y.now in
    let quotient = c.loop-i.quotient.items in
    let rest = c.loop-i.rest.items in
    let last : c.loop-i.i ≡ length x = omega arith in
    let none : length x - length x ≡ 0 = omega arith in
    subst (λ (k : ℕ). Divides b quotient rest (length x) (λ a. number a (drop k x)) (λ a. number a y)) none
    (subst (λ (k : ℕ). Divides b quotient rest k (λ a. number a (drop (length x - k) x)) (λ a. number a y)) last c.loop-i.invariant.divides)
