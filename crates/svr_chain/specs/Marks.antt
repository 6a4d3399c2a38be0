-- Literals with a table of where each of them stands
use Rattle.std.specs.Prelude.{◌≡◌, ℕ, ◌+◌, ◌-◌, ◌<◌, ◌/◌, nat_lt, Bool, false, List, length, if◌then◌else◌, Option, Some, None, Result, Ok, Err, slice_index, slice_index_or}
use Rattle.svr_chain.specs.declared.clause.Lit.{Lit}
use Rattle.svr_chain.specs.declared.log.Reason.{Reason}
use Rattle.svr_chain.specs.Clauses.{same_lit}
use Rattle.svr_chain.specs.Lists.{list_number}

-- where the table says that a literal stands: it has no place for variables from its middle on
abbrev pub noted : List ℕ → Lit → Option ℕ
noted places l = if nat_lt l.var (length places / 2) then Some (slice_index places (list_number (length places) l)) else None

-- each literal is there once, and where the table says it stands, if the table has a place for it
pub record AreMarked (places : List ℕ) (lits : List Lit) : Type 0 where
  pub placed : (i : ℕ) (d : Lit) → i < length lits → (p : ℕ) → noted places (slice_index_or lits i d) ≡ Some p → p ≡ i
  pub once : (i j : ℕ) (d : Lit) → i < length lits → j < length lits → slice_index_or lits i d ≡ slice_index_or lits j d → i ≡ j

-- the table says of the literal that it stands at p, and of the others what it said before
pub record IsNoted (old new : List ℕ) (l : Lit) (p : ℕ) : Type 0 where
  pub here : (q : ℕ) → noted new l ≡ Some q → q ≡ p
  pub others : (x : Lit) → (x ≡ l → ⊥) → noted new x ≡ noted old x

-- the literal at place p was taken out, and the last one stands there now
pub record IsSwapped (old new : List Lit) (p : ℕ) : Type 0 where
  pub within : p < length old
  pub shorter : length new + 1 ≡ length old
  pub moved : (d : Lit) → p + 1 < length old → slice_index_or new p d ≡ slice_index_or old (length old - 1) d
  pub stays : (k : ℕ) (d : Lit) → (k ≡ p → ⊥) → k + 1 < length old → slice_index_or new k d ≡ slice_index_or old k d

-- there is a literal, and it is l
abbrev pub is_same : Lit → Option Lit → Bool
is_same l None = false
is_same l (Some x) = same_lit x l

-- the literals that are held, if there was no fault
abbrev pub held : Result (Unit {0}) Reason → List Lit → Result (List Lit) Reason
held (Ok u) c = Ok c
held (Err e) c = Err e
