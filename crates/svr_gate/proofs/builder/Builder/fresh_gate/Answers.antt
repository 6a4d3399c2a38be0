use Rattle.std.proofs.Common.{◌≡◌, ◌≤◌, ◌∙◌, ap, sym, subst, ◌++◌, ◌+◌, length, arith}
use Rattle.svr_chain.specs.Clauses.{AreWithin}
use Rattle.svr_gate.specs.Circuit.{Circuit}
use Rattle.svr_gate.specs.Covers.{Defines, clause_count}
use Rattle.svr_gate.proofs.CoverLemmas.{clause_count-pos}
use Rattle.svr_gate.proofs.FreshLemmas.{gate_is_circuit, gate_tells, gate_extends}
use Rattle.svr_gate.proofs.builder.Builder.fresh_gate.Goals as goal
use Rattle.svr_gate.proofs.builder.Builder.fresh_gate.Goals.{After-drop-clauses-2}

-- the circuit before
abbrev before : After-drop-clauses-2 → Circuit
before c = record { inputs = c.self.inside.inputs; vars = c.self.inside.vars; clauses = c.self.inside.clauses.items; one = c.self.inside.one; gates = c.self.inside.gates.entries }

within : (c : After-drop-clauses-2) → AreWithin (before c).vars c.args.ins.now
within c = subst (λ (x : Circuit). AreWithin x.vars c.args.ins.now) (sym c.self.view_is) c.requires.within

some : (c : After-drop-clauses-2) → 1 ≤ length c.in_ok-clauses.clauses.items
some c = omega (arith, c.in_ok-clauses.ensures.count, clause_count-pos (length c.args.ins.now) c.args.table)

pub invariant_of-self-2 : goal.invariant_of-self-2
invariant_of-self-2 c =
    gate_is_circuit (before c) c.args.table c.args.ins.now c.in_ok-clauses.clauses.items c.append.new.self.items c.self.invariant (within c) c.in_ok-clauses.ensures.defines (some c) c.in_ok-append.ensures.items

pub returns-clause-extends : goal.returns-clause-extends
returns-clause-extends c =
    rw (← c.self.view_is)
    (gate_extends (before c) c.args.table c.args.ins.now c.in_ok-clauses.clauses.items c.append.new.self.items c.self.invariant (within c) c.in_ok-clauses.ensures.defines (some c) c.in_ok-append.ensures.items)

pub returns-clause-value : goal.returns-clause-value
returns-clause-value c =
    gate_tells (before c) c.args.table c.args.ins.now c.in_ok-clauses.clauses.items c.append.new.self.items c.self.invariant (within c) c.in_ok-clauses.ensures.defines (some c) c.in_ok-append.ensures.items
