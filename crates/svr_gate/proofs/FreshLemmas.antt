-- A gate more keeps what a circuit is, and what it extends
use Rattle.std.proofs.Common.{◌≡◌, ℕ, ◌+◌, ◌<◌, ◌≤◌, ⊎_elim, Bool, List, ◌++◌, length, refl, sym, ◌∙◌, ap, arith, length-append, subst, Option, Some, None, false, eqb}
use Rattle.std.specs.List.{All}
use Rattle.std.proofs.lemmas.Bool.{cases_eq, cond-false, ne_eqb}
use Rattle.std.proofs.lemmas.List.Elements.{All-append, All-weaker, Contains-append_left, Contains-append_right}
use Rattle.svr_chain.specs.declared.clause.Lit.{Lit}
use Rattle.svr_chain.specs.Clauses.{IsWithin, AreWithin, same_sign}
use Rattle.svr_chain.specs.Settled.{Forces, AreSettled}
use Rattle.svr_chain.specs.Valuations.{Meets, AgreeUpTo}
use Rattle.svr_chain.proofs.ValuationLemmas.{Meets-append, Meets-append_parts, Meets-agree}
use Rattle.svr_gate.specs.declared.gate.Gate.{Gate}
use Rattle.svr_gate.specs.Numbers.{number}
use Rattle.svr_gate.specs.Gates.{table_value}
use Rattle.svr_gate.specs.Keys.{gate_value}
use Rattle.svr_gate.specs.Covers.{Defines}
use Rattle.svr_gate.specs.Circuit.{Circuit, IsCircuit, IsAlwaysTrue, Extends, Tells, known_of, literal_of}
use Rattle.svr_gate.proofs.NumberLemmas.{number-agree, lit_value-positive}
use Rattle.svr_gate.proofs.Circuits.{Tells-later}
use Rattle.svr_gate.proofs.GateLemmas.{with_value, with_value-agree, with_value-at, gate_forces}

pub always_true_later : {c d : Circuit} (o : Option Lit) → Extends c d → IsAlwaysTrue c o → IsAlwaysTrue d o
always_true_later None e h = h
always_true_later (Some l) e h = Tells-later e h

pub shared_later : {c d : Circuit} (gates : List (Gate × Lit)) → Extends c d → All (λ e. Tells c e.1 (gate_value e.0)) gates → All (λ e. Tells d e.1 (gate_value e.0)) gates
shared_later {c} {d} gates x s = All-weaker (λ (e : Gate × Lit). Tells c e.1 (gate_value e.0)) (λ (e : Gate × Lit). Tells d e.1 (gate_value e.0)) (λ e t. Tells-later x t) gates s

module _ (old : Circuit) (table : ℕ) (ins : List Lit) (cs new : List (List Lit)) (c : IsCircuit old) (w : AreWithin old.vars ins) (d : Defines table ins (old.vars + 1) cs) (some : 1 ≤ length cs) (made : new ≡ old.clauses ++ cs) where
  abbrev pub fresh : Circuit
  fresh = record old { vars = old.vars + 1; clauses = new }

  pub gate_extends : Extends old fresh
  gate_extends = record {
    inputs = refl;
    vars = omega arith;
    keeps = λ a m. (Meets-append_parts a old.clauses cs (rw made at m)).0;
    extends = λ a m.
        let v = table_value table (number a ins) in
        let b = with_value a (old.vars + 1) v in
        let g : AgreeUpTo old.vars a b = with_value-agree old.vars a v in
        let at_out : b (old.vars + 1) ≡ table_value table (number b ins) = with_value-at a (old.vars + 1) v ∙ ap (table_value table) (sym (number-agree old.vars a b ins g w)) in
        (b, g, subst (λ (x : List (List Lit)). Meets b x) (sym made) (Meets-append b old.clauses cs (Meets-agree old.vars a b old.clauses g c.within m) (d.holds b at_out)));
    one = λ l e. e;
    known = λ l k. refl;
    gates = λ g l e. e;
  }

  pub gate_tells : Tells fresh (record { var = old.vars + 1; neg = false }) (λ a. table_value table (number a ins))
  gate_tells = record {
    within = (omega arith, omega arith);
    value = λ a m. lit_value-positive a (old.vars + 1) ∙ d.tells a (Meets-append_parts a old.clauses cs (rw made at m)).1;
  }

  pub gate_is_circuit : IsCircuit fresh
  gate_is_circuit = record {
    inputs_first = omega (arith, c.inputs_first);
    few_inputs = c.few_inputs;
    few_vars = omega (arith, c.few_vars, ap length made, length-append old.clauses cs, some);
    within = subst (λ (x : List (List Lit)). All (AreWithin (old.vars + 1)) x) (sym made)
        (All-append (AreWithin (old.vars + 1)) old.clauses cs
        (All-weaker (AreWithin old.vars) (AreWithin (old.vars + 1)) (λ ls k. All-weaker (IsWithin old.vars) (IsWithin (old.vars + 1)) (λ l j. (j.0, omega arith)) ls k) old.clauses c.within)
        (d.within old.vars w (omega arith)));
    settled = subst (λ (x : List (List Lit)). AreSettled old.inputs (old.vars + 1) x) (sym made)
        (λ v low high a.
        ⊎_elim
        (λ (e : v ≡ old.vars + 1).
        let f = gate_forces table ins old.vars cs w d a in
        (f.0, Contains-append_right old.clauses cs f.0 f.1, subst (λ (x : ℕ). Forces a x f.0) (sym e) f.2))
        (λ (e : v ≡ old.vars + 1 → ⊥).
        let earlier = c.settled v low (omega arith) a in
        (earlier.0, Contains-append_left old.clauses cs earlier.0 earlier.1, earlier.2))
        (cases_eq v (old.vars + 1)));
    one = always_true_later old.one gate_extends c.one;
    shared = shared_later old.gates gate_extends c.shared;
  }

-- other gates are kept
pub with_gates_extends : (c : Circuit) (gates : List (Gate × Lit)) → ((g : Gate) (l : Lit) → literal_of c.gates g ≡ Some l → literal_of gates g ≡ Some l) → Extends c (record c { gates = gates })
with_gates_extends c gates h = record {
  inputs = refl;
  vars = omega arith;
  keeps = λ a m. m;
  extends = λ a m. (a, (λ v k. refl), m);
  one = λ l e. e;
  known = λ l k. refl;
  gates = h;
}

pub with_gates_is_circuit : (c : Circuit) (gates : List (Gate × Lit)) → Extends c (record c { gates = gates }) → IsCircuit c → All (λ e. Tells c e.1 (gate_value e.0)) gates → IsCircuit (record c { gates = gates })
with_gates_is_circuit c gates x i s = record {
  inputs_first = i.inputs_first;
  few_inputs = i.few_inputs;
  few_vars = i.few_vars;
  within = i.within;
  settled = i.settled;
  one = always_true_later c.one x i.one;
  shared = shared_later gates x s;
}

-- a new variable becomes the literal that is always true
pub with_one_extends : (c : Circuit) (o : Lit) (old : Circuit) → Extends old c → c.one ≡ old.one → old.one ≡ None → old.vars < o.var → Extends old (record c { one = Some o })
with_one_extends c o old x same none new = record {
  inputs = x.inputs;
  vars = x.vars;
  keeps = x.keeps;
  extends = x.extends;
  one = λ l e. absurd (none_some (sym none ∙ e));
  known = λ l w. cond-false (eqb o.var l.var) (Some (same_sign o.neg l.neg)) None (ne_eqb o.var l.var (λ e. omega arith)) ∙ sym (ap (λ x. known_of x l) none);
  gates = x.gates;
} where
  none_some : {l : Lit} → None ≡ Some l → ⊥
  none_some e = cc
