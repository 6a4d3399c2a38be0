use Rattle.std.proofs.Common.{◌≡◌, [], subst, sym, ap, true, ◌∙◌, Some, None}
use Rattle.svr_chain.specs.declared.clause.Lit.{Lit}
use Rattle.svr_gate.specs.Numbers.{number}
use Rattle.svr_gate.specs.Gates.{table_value}
use Rattle.svr_gate.specs.Circuit.{Circuit, Tells, Extends}
use Rattle.svr_gate.proofs.NumberLemmas.{number-nil}
use Rattle.svr_gate.proofs.Circuits.{Tells-same}
use Rattle.svr_gate.proofs.builder.Builder.one.Goals as goal

always_tells : (c d : Circuit) (l : Lit) → c ≡ d → Tells d l (λ a. table_value 1 (number a [])) → Tells c l (λ a. true)
always_tells c d l e t = subst (λ (x : Circuit). Tells x l (λ a. true)) (sym e) (Tells-same (λ a. true) t (λ a m. ap (table_value 1) (number-nil a)))

pub invariant_of-self : goal.invariant_of-self
invariant_of-self c =
    let inside = c.self-in-None.inside in
    let before : Circuit = record { inputs = inside.inputs; vars = inside.vars; clauses = inside.clauses.items; one = inside.one; gates = inside.gates.entries } in
    let i = c.self-in-None.invariant in
    let t = always_tells before c.fresh_gate.new.self c.in_ok-made-in-None.made c.self-in-None.view_is c.in_ok-made-in-None.ensures.value in
    record {
      inputs_first = i.inputs_first;
      few_inputs = i.few_inputs;
      few_vars = i.few_vars;
      within = i.within;
      settled = i.settled;
      one = record { within = t.within; value = t.value };
      shared = λ k d lt. let s = i.shared k d lt in record { within = s.within; value = s.value };
    }

pub returns-in_ok-made-in-None-clause-value : goal.returns-in_ok-made-in-None-clause-value
returns-in_ok-made-in-None-clause-value c =
    let inside = c.self-in-None.inside in
    let before : Circuit = record { inputs = inside.inputs; vars = inside.vars; clauses = inside.clauses.items; one = inside.one; gates = inside.gates.entries } in
    let t = always_tells before c.fresh_gate.new.self c.in_ok-made-in-None.made c.self-in-None.view_is c.in_ok-made-in-None.ensures.value in
    record { within = t.within; value = t.value }
