use Rattle.std.proofs.Common.{◌≡◌, ◌∙◌, ◌+◌, ◌-◌, ◌*◌, ◌%◌, ◌^◌, ◌∷◌, ap, sym, subst, drop, ℕ, List, arith, length, false}
use Rattle.std.proofs.lemmas.List.{length-take-le}
use Rattle.std.proofs.lemmas.List.Elements.{All-cons, All-take}
use Rattle.svr_chain.specs.declared.clause.Lit.{Lit}
use Rattle.svr_chain.specs.Clauses.{IsWithin, AreWithin}
use Rattle.svr_gate.specs.Numbers.{number}
use Rattle.svr_gate.specs.Circuit.{GivesNumber}
use Rattle.svr_gate.proofs.Circuits.{later, IsWithin-later, AreWithin-later, Extends-trans, Tells-later}
use Rattle.svr_gate.proofs.Vectors.{GivesNumber-width}
use Rattle.svr_num.specs.Num.{add_of}
use Rattle.svr_arith.proofs.ProductLemmas.{product_none, product_step}
use Rattle.svr_arith.proofs.product.mul.Goals as goal

pub loop-i-init : goal.loop-i-init
loop-i-init c = record {
  extends = c.never.ensures.extends;
  zero = c.in_ok-zero.ensures.value;
  value = rw c.new-product.ensures.items (product_none c.never.new.b c.args.x.now c.args.y.now);
}

pub returns-in_err-part-clause-extends : goal.returns-in_err-part-clause-extends
returns-in_err-part-clause-extends c = search later

pub returns-in_err-product-clause-extends : goal.returns-in_err-product-clause-extends
returns-in_err-product-clause-extends c = search later

pub loop-i-preserved : goal.loop-i-preserved
loop-i-preserved c =
    let doubled : c.deref.result.now ≡ c.in_ok-zero.zero ∷ c.loop-i.product.items = c.deref.ensures.value ∙ c.in_ok-insert.ensures.items in
    let len : length c.deref.result.now ≡ c.loop-i.i + 1 = ap length doubled ∙ omega (arith, c.loop-i.invariant.value.len) in
    record {
      extends = search later;
      zero = Tells-later (Extends-trans c.masked.ensures.extends c.add.ensures.extends) c.loop-i.invariant.zero;
      value = product_step c.loop-i.b c.masked.new.b c.add.new.b c.args.x.now c.args.y.now c.loop-i.product.items c.in_ok-part.part.items c.in_ok-product.product.items c.in_ok-zero.zero (record { var = 0; neg = false }) c.loop-i.i
          c.masked.ensures.extends c.add.ensures.extends (omega arith) c.requires.len c.loop-i.invariant.zero c.loop-i.invariant.value
          (GivesNumber-width (length-take-le (c.loop-i.i + 1) c.args.x.now (omega arith)) c.in_ok-part.ensures.value)
          (subst (λ (v : List Lit). GivesNumber c.add.new.b c.in_ok-product.product.items (c.loop-i.i + 1) (λ a. add_of (c.loop-i.i + 1) (number a v) (number a c.in_ok-part.part.items))) doubled
          (subst (λ (v : List Lit). GivesNumber c.add.new.b c.in_ok-product.product.items (c.loop-i.i + 1) (λ a. add_of (c.loop-i.i + 1) (number a c.deref.result.now) (number a v))) c.deref-in-loop-i.ensures.value
          (subst (λ (k : ℕ). GivesNumber c.add.new.b c.in_ok-product.product.items k (λ a. add_of k (number a c.deref.result.now) (number a c.deref-in-loop-i.result.now))) len c.in_ok-product.ensures.value)));
    }

pub bounds-y-y : goal.bounds-y-y
bounds-y-y c = omega (arith, c.requires.len)

pub masked-requires-clause-test_within : goal.masked-requires-clause-test_within
masked-requires-clause-test_within c =
    AreWithin-later c.args.y.now c.loop-i.invariant.extends c.requires.y_within (length c.args.y.now - 1 - c.loop-i.i) (record { var = 0; neg = false }) (omega (arith, c.requires.len))

pub masked-requires-clause-x_within : goal.masked-requires-clause-x_within
masked-requires-clause-x_within c = All-take (IsWithin c.loop-i.b.vars) (c.loop-i.i + 1) c.args.x.now (AreWithin-later c.args.x.now c.loop-i.invariant.extends c.requires.x_within)

pub add-requires-clause-len : goal.add-requires-clause-len
add-requires-clause-len c =
    ap (λ (ls : List Lit). length ls) (c.deref.ensures.value ∙ c.in_ok-insert.ensures.items)
    ∙ omega (arith, c.loop-i.invariant.value.len)
    ∙ sym (ap (λ (ls : List Lit). length ls) c.deref-in-loop-i.ensures.value ∙ c.in_ok-part.ensures.value.len ∙ length-take-le (c.loop-i.i + 1) c.args.x.now (omega arith))

pub add-requires-clause-x_within : goal.add-requires-clause-x_within
add-requires-clause-x_within c =
    let e = c.masked.ensures.extends in
    let i = c.loop-i.invariant in
    subst (λ (ls : List Lit). AreWithin c.masked.new.b.vars ls) (sym (c.deref.ensures.value ∙ c.in_ok-insert.ensures.items))
    (All-cons (IsWithin c.masked.new.b.vars) c.in_ok-zero.zero c.loop-i.product.items (IsWithin-later c.in_ok-zero.zero e i.zero.within) (AreWithin-later c.loop-i.product.items e i.value.within))

pub add-requires-clause-y_within : goal.add-requires-clause-y_within
add-requires-clause-y_within c = subst (λ (ls : List Lit). AreWithin c.masked.new.b.vars ls) (sym c.deref-in-loop-i.ensures.value) c.in_ok-part.ensures.value.within

pub returns-clause-extends : goal.returns-clause-extends
returns-clause-extends c = c.loop-i.invariant.extends

pub returns-clause-value : goal.returns-clause-value
returns-clause-value c =
    let x = c.args.x.now in
    let y = c.args.y.now in
    let last : c.loop-i.i ≡ length x = omega arith in
    let none : length y - length x ≡ 0 = omega (arith, c.requires.len) in
    subst (λ (k : ℕ). GivesNumber c.loop-i.b c.loop-i.product.items (length x) (λ a. (number a x * number a (drop k y)) % 2 ^ length x)) none
    (subst (λ (k : ℕ). GivesNumber c.loop-i.b c.loop-i.product.items k (λ a. (number a x * number a (drop (length y - k) y)) % 2 ^ k)) last c.loop-i.invariant.value)
