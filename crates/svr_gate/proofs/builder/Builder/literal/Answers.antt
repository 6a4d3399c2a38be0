use Rattle.std.proofs.Common.{◌≡◌, ◌∙◌, ◌≤◌, ℕ, Bool, List, length, get_or, Ok, ap, sym, refl, subst, arith}
use Rattle.std.specs.Prelude.{OnOk}
use Rattle.std.proofs.lemmas.Result.{IfOk-weaker}
use Rattle.svr_chain.specs.declared.clause.Lit.{Lit}
use Rattle.svr_chain.specs.Clauses.{IsWithin}
use Rattle.svr_chain.specs.Valuations.{lit_value}
use Rattle.svr_gate.specs.declared.gate.Gate.{Gate}
use Rattle.svr_gate.specs.Keys.{inputs_of, no_input, gate_value, in_order}
use Rattle.svr_gate.specs.Covers.{clause_count}
use Rattle.svr_gate.specs.Folding.{copy_lit}
use Rattle.svr_gate.specs.Circuit.{Circuit, Tells, literal_of}
use Rattle.svr_gate.specs.Answers.{Adds}
use Rattle.svr_gate.proofs.Circuits.{Tells-same}
use Rattle.svr_gate.proofs.OrderLemmas.{IsReordered, in_order_is_reordered}
use Rattle.svr_gate.proofs.FoldLemmas.{length-inputs_of, constant_told, copy_told, copy_lit_within, constant_has, copy_has, proper_has}
use Rattle.svr_gate.proofs.builder.Builder.literal.Goals as goal

ordered : (g h : Gate) → h ≡ in_order g → g.count ≤ 4 → length g.places ≡ 4 → IsReordered g h
ordered g h e few four = subst (λ (x : Gate). IsReordered g x) (sym e) (in_order_is_reordered g few four)

pub shared_gate-requires-clause-few : goal.shared_gate-requires-clause-few
shared_gate-requires-clause-few c = omega (arith, (ordered c.args.gate c.in_order.result c.in_order.ensures c.requires.few (omega arith)).count, c.requires.few)

pub shared_gate-requires-clause-within : goal.shared_gate-requires-clause-within
shared_gate-requires-clause-within c = (ordered c.args.gate c.in_order.result c.in_order.ensures c.requires.few (omega arith)).within c.args.self.now.vars c.requires.within

pub returns-in-Constant-clause-value : goal.returns-in-Constant-clause-value
returns-in-Constant-clause-value c =
    IfOk-weaker c.constant.result
    (λ l. Tells c.constant.new.self l (λ a. c.in-Constant.value))
    (λ l. Tells c.constant.new.self l (gate_value c.args.gate))
    (λ l t. Tells-same (gate_value c.args.gate) t (λ a m. constant_told c.args.gate c.requires.few (omega arith) c.in-Constant.value c.in-Constant.ensures a))
    c.constant.ensures.value

pub returns-in-Constant-clause-again : goal.returns-in-Constant-clause-again
returns-in-Constant-clause-again c = λ l h.
    let o = constant_has c.args.self.now c.args.gate l h c.in-Constant.value c.in-Constant.ensures in
    let known = c.constant.ensures.again o.0 o.1.0 in
    (known.0 ∙ ap Ok (sym o.1.1), known.1)

pub returns-in-Copy-clause-value : goal.returns-in-Copy-clause-value
returns-in-Copy-clause-value c =
    let h = c.in-Copy.ensures in
    let ins = inputs_of c.args.gate in
    record {
      within = subst (λ (l : Lit). IsWithin c.args.self.now.vars l) (sym h.1.1.1) (copy_lit_within c.args.self.now.vars h.1.0 (get_or ins h.0 no_input) (c.requires.within h.0 no_input (omega (arith, length-inputs_of c.args.gate c.requires.few (omega arith), h.1.1.0.0))));
      value = λ a m. ap (λ (l : Lit). lit_value a l) h.1.1.1 ∙ copy_told c.args.gate c.requires.few (omega arith) h.0 h.1.0 h.1.1.0 a;
    }

pub returns-in-Copy-clause-again : goal.returns-in-Copy-clause-again
returns-in-Copy-clause-again c = λ l h.
    let k = c.in-Copy.ensures in
    (ap Ok (k.1.1.1 ∙ sym (copy_has c.args.self.now c.args.gate l h k.0 k.1.0 k.1.1.0)), refl)

pub returns-in-Copy-clause-adds : goal.returns-in-Copy-clause-adds
returns-in-Copy-clause-adds c = λ p. absurd (p.copy c.in-Copy.ensures.0 c.in-Copy.ensures.1.0 c.in-Copy.ensures.1.1.0)

pub returns-in-Proper-clause-value : goal.returns-in-Proper-clause-value
returns-in-Proper-clause-value c =
    IfOk-weaker c.shared_gate.result
    (λ l. Tells c.shared_gate.new.self l (gate_value c.in_order.result))
    (λ l. Tells c.shared_gate.new.self l (gate_value c.args.gate))
    (λ l t. Tells-same (gate_value c.args.gate) t (λ a m. (ordered c.args.gate c.in_order.result c.in_order.ensures c.requires.few (omega arith)).value a))
    c.shared_gate.ensures.value

pub returns-in-Proper-clause-again : goal.returns-in-Proper-clause-again
returns-in-Proper-clause-again c = λ l h.
    c.shared_gate.ensures.again l (ap (literal_of c.args.self.now.gates) c.in_order.ensures ∙ proper_has c.args.self.now c.args.gate l h c.in-Proper.ensures)

pub returns-in-Proper-clause-adds : goal.returns-in-Proper-clause-adds
returns-in-Proper-clause-adds c = λ p none.
    let r = ordered c.args.gate c.in_order.result c.in_order.ensures c.requires.few (omega arith) in
    let count : clause_count c.in_order.result.count c.in_order.result.table ≡ clause_count c.args.gate.count c.args.gate.table =
    ap (λ k. clause_count k c.in_order.result.table) r.count ∙ ap (clause_count c.args.gate.count) r.table in
    subst (λ (n : ℕ). OnOk c.shared_gate.result (Adds c.args.self.now c.shared_gate.new.self n)) count
    (c.shared_gate.ensures.adds (ap (literal_of c.args.self.now.gates) c.in_order.ensures ∙ none))
