use Rattle.std.proofs.Common.{◌≡◌, ◌∙◌, ◌++◌, ◌∷◌, [], ap, sym, subst, List, arith, get_or, ◌-◌, length, false}
use Rattle.std.proofs.lemmas.List.{length_push}
use Rattle.svr_chain.specs.declared.clause.Lit.{Lit}
use Rattle.svr_chain.specs.Clauses.{IsWithin}
use Rattle.svr_gate.specs.Numbers.{number}
use Rattle.svr_gate.specs.Gates.{table_value}
use Rattle.svr_gate.specs.Circuit.{Tells}
use Rattle.svr_gate.proofs.Circuits.{later, IsWithin-later, AreWithin-two}
use Rattle.svr_gate.proofs.TableLemmas.{Tells-always}
use Rattle.svr_arith.proofs.DivisionLemmas.{high_zero_none, high_zeros_none, high_zero_step, high_zeros_push}
use Rattle.svr_arith.proofs.division.high_zeros.Goals as goal

pub loop-i-init : goal.loop-i-init
loop-i-init c =
    let t = Tells-always c.in_ok-are_zero.ensures.value in
    let items : c.push_reserved.new.self.items ≡ [] ++ c.in_ok-are_zero.are_zero ∷ [] = c.push_reserved.ensures.items ∙ ap (λ (v : List Lit). v ++ c.in_ok-are_zero.are_zero ∷ []) c.in_ok-zeros.ensures.items in
    record {
      extends = search later;
      last = high_zero_none c.args.y.now t;
      len = ap length items;
      value = rw items (high_zeros_none c.args.y.now t);
      room = omega (arith, c.in_ok-zeros.ensures.capacity, c.push_reserved.ensures.capacity);
    }

pub returns-in_err-are_zero-2-clause-extends : goal.returns-in_err-are_zero-2-clause-extends
returns-in_err-are_zero-2-clause-extends c = search later

pub loop-i-preserved : goal.loop-i-preserved
loop-i-preserved c =
    let d : Lit = record { var = 0; neg = false } in
    let y = c.args.y.now in
    let next = high_zero_step c.loop-i.b c.define-in-loop-i.new.self y c.loop-i.zeros.items c.loop-i.are_zero c.in_ok-are_zero-2.are_zero d c.loop-i.i c.define-in-loop-i.ensures.extends (omega arith) c.loop-i.invariant.len c.loop-i.invariant.last
    (subst (λ (l : Lit). Tells c.define-in-loop-i.new.self c.in_ok-are_zero-2.are_zero (λ a. table_value 0x8 (number a (c.loop-i.are_zero ∷ l ∷ [])))) c.flipped-is_zero.ensures c.in_ok-are_zero-2.ensures.value) in
    record {
      extends = search later;
      last = next;
      len = ap length c.push_reserved-in-loop-i.ensures.items ∙ omega (arith, length_push c.loop-i.zeros.items c.in_ok-are_zero-2.are_zero, c.loop-i.invariant.len);
      value = rw c.push_reserved-in-loop-i.ensures.items
          (high_zeros_push c.loop-i.b c.define-in-loop-i.new.self y c.loop-i.zeros.items c.loop-i.are_zero c.in_ok-are_zero-2.are_zero d c.loop-i.i c.define-in-loop-i.ensures.extends (omega arith) c.loop-i.invariant.len c.loop-i.invariant.value next);
      room = omega (arith, c.push_reserved-in-loop-i.ensures.capacity, c.loop-i.invariant.room);
    }

pub push_reserved-requires : goal.push_reserved-requires
push_reserved-requires c = omega (arith, c.in_ok-zeros.ensures.len, c.in_ok-zeros.ensures.capacity)

pub push_reserved-requires-in-loop-i : goal.push_reserved-requires-in-loop-i
push_reserved-requires-in-loop-i c = omega (arith, c.loop-i.zeros.ok.0, c.loop-i.invariant.len, c.loop-i.invariant.room, c.loop-i-test.true)

pub returns-clause-extends : goal.returns-clause-extends
returns-clause-extends c = c.loop-i.invariant.extends

pub returns-clause-value : goal.returns-clause-value
returns-clause-value c = c.loop-i.invariant.value

pub define-requires-in-loop-i : goal.define-requires-in-loop-i
define-requires-in-loop-i c =
    let n = c.loop-i.b.vars in
    let place = length c.args.y.now - 1 - c.loop-i.i in
    let lit = get_or c.args.y.now place (record { var = 0; neg = false }) in
    let i = c.loop-i.invariant in
    let flipped = subst (λ (l : Lit). IsWithin n l) (sym c.flipped-is_zero.ensures) (IsWithin-later lit i.extends (c.requires place (record { var = 0; neg = false }) (omega arith))) in
    let w = AreWithin-two c.loop-i.are_zero c.flipped-is_zero.result i.last.within flipped in (omega arith, (omega arith, w))
