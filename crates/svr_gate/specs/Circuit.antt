-- Circuits as clauses (G. S. Tseitin, 1968), and the words by which they compose
use Rattle.std.specs.Prelude.{◌≡◌, ◌==◌, ℕ, ◌+◌, ◌^◌, ◌<◌, ◌≤◌, Bool, true, List, length, Option, Some, None, ⊤, if◌then◌else◌}
use Rattle.std.specs.List.{All}
use Rattle.std.specs.Map.{lookup}
use Rattle.svr_chain.specs.declared.clause.Lit.{Lit}
use Rattle.svr_chain.specs.Clauses.{IsWithin, AreWithin, same_sign}
use Rattle.svr_chain.specs.Valuations.{lit_value, Meets, AgreeUpTo}
use Rattle.svr_gate.specs.declared.gate.Gate.{Gate}
use Rattle.svr_gate.specs.contracts.gate.GatePartialEq.TheImpl.{eq-value}
use Rattle.svr_gate.specs.Numbers.{number}
use Rattle.svr_gate.specs.Keys.{gate_value}
use Rattle.svr_chain.specs.Settled.{AreSettled}

-- inputs, the variables 1 to inputs; gates, the variables after them to vars; their clauses; a literal that is always true, where there is one yet; and the gates that are shared, with their literals
pub record Circuit : Type 0 where
  pub inputs : ℕ
  pub vars : ℕ
  pub clauses : List (List Lit)
  pub one : Option Lit
  pub gates : List (Gate × Lit)

-- the literal of a gate, where it is among these
abbrev pub literal_of : List (Gate × Lit) → Gate → Option Lit
literal_of gates g = lookup ((eq-value).it g) gates

-- what a literal always is, given one that is always true
abbrev pub known_of : Option Lit → Lit → Option Bool
known_of None l = None
known_of (Some one) l = if one.var == l.var then Some (same_sign one.neg l.neg) else None

-- the literal is this test of the valuation, wherever that meets the clauses
pub record Tells (c : Circuit) (l : Lit) (f : (ℕ → Bool) → Bool) : Type 0 where
  pub within : IsWithin c.vars l
  pub value : (a : ℕ → Bool) → Meets a c.clauses → lit_value a l ≡ f a

-- the literals, least bit first, read as this number of the valuation, wherever that meets the clauses
pub record GivesNumber (c : Circuit) (ls : List Lit) (width : ℕ) (f : (ℕ → Bool) → ℕ) : Type 0 where
  pub within : AreWithin c.vars ls
  pub len : length ls ≡ width
  pub value : (a : ℕ → Bool) → Meets a c.clauses → number a ls ≡ f a

-- whatever meets the new clauses meets the old ones, and every valuation that meets the old ones extends to one that meets the new ones; what is known of the old variables and what is shared stays
pub record Extends (old new : Circuit) : Type 0 where
  pub inputs : new.inputs ≡ old.inputs
  pub vars : old.vars ≤ new.vars
  pub keeps : (a : ℕ → Bool) → Meets a new.clauses → Meets a old.clauses
  pub extends : (a : ℕ → Bool) → Meets a old.clauses → (b : ℕ → Bool) × AgreeUpTo old.vars a b × Meets b new.clauses
  pub one : (l : Lit) → old.one ≡ Some l → new.one ≡ Some l
  pub known : (l : Lit) → IsWithin old.vars l → known_of new.one l ≡ known_of old.one l
  pub gates : (g : Gate) (l : Lit) → literal_of old.gates g ≡ Some l → literal_of new.gates g ≡ Some l

abbrev pub IsAlwaysTrue : Circuit → Option Lit → Type 0
IsAlwaysTrue c None = ⊤
IsAlwaysTrue c (Some l) = Tells c l (λ a. true)

-- each variable after the inputs is a gate of variables below it
pub record IsCircuit (c : Circuit) : Type 0 where
  pub inputs_first : c.inputs ≤ c.vars
  pub few_inputs : c.inputs < 2 ^ 32
  pub few_vars : c.vars ≤ c.inputs + length c.clauses
  pub within : All (AreWithin c.vars) c.clauses
  pub settled : AreSettled c.inputs c.vars c.clauses
  pub one : IsAlwaysTrue c c.one
  pub shared : All (λ e. Tells c e.1 (gate_value e.0)) c.gates
