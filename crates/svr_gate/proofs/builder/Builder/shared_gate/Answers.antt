use Rattle.std.proofs.Common.{◌≡◌, ◌∙◌, ap, sym, subst, cond, List, Some, None}
use Rattle.std.specs.List.{All}
use Rattle.svr_chain.specs.declared.clause.Lit.{Lit}
use Rattle.svr_gate.specs.declared.gate.Gate.{Gate}
use Rattle.svr_gate.specs.Keys.{gate_value}
use Rattle.svr_gate.specs.contracts.gate.GatePartialEq.TheImpl.{eq-value}
use Rattle.indexmap.specs.IndexMap.{insert_entry}
use Rattle.svr_gate.specs.Numbers.{number}
use Rattle.svr_gate.specs.Gates.{table_value}
use Rattle.svr_gate.specs.Circuit.{Circuit, IsCircuit, Extends, Tells, literal_of}
use Rattle.svr_gate.proofs.Circuits.{Extends-trans}
use Rattle.svr_gate.proofs.FreshLemmas.{with_gates_extends, with_gates_is_circuit}
use Rattle.svr_gate.proofs.SharedLemmas.{found, inserted, stays}
use Rattle.svr_gate.proofs.builder.Builder.shared_gate.Goals as goal
use Rattle.svr_gate.proofs.builder.Builder.shared_gate.Goals.{In_ok-insert-in-None}

pub returns-in-Some-clause-value : goal.returns-in-Some-clause-value
returns-in-Some-clause-value c =
    let inside = c.self.inside in
    let own : Circuit = record { inputs = inside.inputs; vars = inside.vars; clauses = inside.clauses.items; one = inside.one; gates = inside.gates.entries } in
    subst (λ (x : Circuit). Tells x c.in-Some.lit (gate_value c.args.gate)) c.self.view_is
    (found (λ g l. Tells own l (gate_value g)) c.args.gate own.gates c.in-Some.lit (c.in-Some.ensures ∙ c.get.ensures.value) c.self.invariant.shared)

-- an entry for a gate that was not there
module _ (c : Circuit) (gate : Gate) (made : Lit) (entries : List (Gate × Lit))
    (updates : (q : Gate) → literal_of entries q ≡ cond ((eq-value).it gate q) (Some made) (literal_of c.gates q)) (absent : literal_of c.gates gate ≡ None) where
  entered_extends : Extends c (record c { gates = entries })
  entered_extends = with_gates_extends c entries (stays c.gates entries gate made updates absent)

  entered_is_circuit : IsCircuit c → entries ≡ insert_entry (eq-value).it c.gates gate made → Tells c made (gate_value gate) → IsCircuit (record c { gates = entries })
  entered_is_circuit i e t =
      with_gates_is_circuit c entries entered_extends i
      (subst (λ (es : List (Gate × Lit)). All (λ x. Tells c x.1 (gate_value x.0)) es) (sym e) (inserted (λ g l. Tells c l (gate_value g)) gate made c.gates t i.shared))

abbrev before : In_ok-insert-in-None → Circuit
before c = record { inputs = c.self-in-None.inside.inputs; vars = c.self-in-None.inside.vars; clauses = c.self-in-None.inside.clauses.items; one = c.self-in-None.inside.one; gates = c.self-in-None.inside.gates.entries }

absent : (c : In_ok-insert-in-None) → literal_of (before c).gates c.args.gate ≡ None
absent c =
    ap (λ (x : Circuit). literal_of x.gates c.args.gate) c.self-in-None.view_is
    ∙ ap (λ (es : List (Gate × Lit)). literal_of es c.args.gate) c.in_ok-made-in-None.ensures.kept.1
    ∙ sym (ap (λ (x : Circuit). literal_of x.gates c.args.gate) c.self.view_is)
    ∙ sym (c.in-None.ensures ∙ c.get.ensures.value)

told : (c : In_ok-insert-in-None) → Tells (before c) c.in_ok-made-in-None.made (gate_value c.args.gate)
told c =
    subst (λ (x : Circuit). Tells x c.in_ok-made-in-None.made (gate_value c.args.gate)) (sym c.self-in-None.view_is)
    (subst (λ (ls : List Lit). Tells c.fresh_gate.new.self c.in_ok-made-in-None.made (λ a. table_value c.args.gate.table (number a ls))) c.inputs.ensures c.in_ok-made-in-None.ensures.value)

pub invariant_of-self-in-None : goal.invariant_of-self-in-None
invariant_of-self-in-None c =
    entered_is_circuit (before c) c.args.gate c.in_ok-made-in-None.made c.insert.new.self.entries c.in_ok-insert-in-None.ensures.updates.0 (absent c) c.self-in-None.invariant c.in_ok-insert-in-None.ensures.entries (told c)

pub returns-in_ok-insert-in-None-clause-extends : goal.returns-in_ok-insert-in-None-clause-extends
returns-in_ok-insert-in-None-clause-extends c =
    Extends-trans (subst (λ (x : Circuit). Extends c.args.self.now x) (sym c.self-in-None.view_is) c.in_ok-made-in-None.ensures.extends)
    (entered_extends (before c) c.args.gate c.in_ok-made-in-None.made c.insert.new.self.entries c.in_ok-insert-in-None.ensures.updates.0 (absent c))
