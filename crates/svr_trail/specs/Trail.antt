-- Trails: literals set in order, each decided or forced by a clause
use Rattle.std.specs.Prelude.{◌≡◌, ℕ, ◌≤◌, ◌<◌, Bool, true, false, ◌||◌, not, nat_eq, List, [], ◌∷◌, length, if◌then◌else◌, Option, Some, None, slice_index_or, take, MatchOption, IsSome}
use Rattle.std.specs.Option.{option_map}
use Rattle.std.specs.List.{list_all, All}
use Rattle.svr_chain.specs.declared.clause.Lit.{Lit}
use Rattle.svr_trail.specs.declared.Entry.{Entry}
use Rattle.svr_chain.specs.Clauses.{same_sign, same_lit, has}
use Rattle.svr_chain.specs.Log.{named}

-- what contracts see of a trail
pub record TrailView : Type 0 where
  pub vars : ℕ
  pub entries : List Entry

-- the sign under which a variable was set
abbrev pub sign_at : List Entry → ℕ → Option Bool
sign_at [] v = None
sign_at (e ∷ es) v = if nat_eq e.lit.var v then Some e.lit.neg else sign_at es v

-- the value of a literal, `None` where it is open
abbrev pub value_in : List Entry → Lit → Option Bool
value_in es l = option_map (λ n. same_sign n l.neg) (sign_at es l.var)

abbrev pub is_false : Option Bool → Bool
is_false None = false
is_false (Some b) = not b

-- each literal of the clause is false
abbrev pub is_falsified : List Entry → List Lit → Bool
is_falsified es c = list_all (λ x. is_false (value_in es x)) c

-- each literal of the clause is p or is false
abbrev pub is_false_but : List Entry → Lit → List Lit → Bool
is_false_but es p c = list_all (λ x. same_lit x p || is_false (value_in es x)) c

-- the clause is not false, and not with one open literal and the rest false
abbrev pub IsQuiet : List Entry → List Lit → Type 0
IsQuiet es c = (p : Lit) → is_false_but es p c ≡ true → value_in es p ≡ Some true

-- no clause is false or a unit clause: unit propagation has nothing to set
abbrev pub IsClosed : List Entry → List (List Lit) → Type 0
IsClosed es ks = All (IsQuiet es) ks

-- a unit clause: p is open, and the other literals are false
abbrev pub IsUnit : List Entry → List Lit → Lit → Type 0
IsUnit es c p = (value_in es p ≡ None) × (has c p ≡ true) × (is_false_but es p c ≡ true)

-- P holds of each entry and those before it
abbrev pub Each : (List Entry → Entry → Type 0) → List Entry → Type 0
Each P es = (i : ℕ) (e : Entry) → i < length es → P (take i es) (slice_index_or es i e)

-- the variable of an entry was open before it
abbrev pub WasOpen : List Entry → Entry → Type 0
WasOpen es e = sign_at es e.lit.var ≡ None

-- the clause of that number has the literal, and its other literals are false
abbrev pub Forces : List (List Lit) → List Entry → Lit → ℕ → Type 0
Forces ks es l n = (c : List Lit) × (named ks n ≡ Some c) × (has c l ≡ true) × (is_false_but es l c ≡ true)

-- an entry with a reason is forced by it
abbrev pub HasReason : List (List Lit) → List Entry → Entry → Type 0
HasReason ks es e = MatchOption e.reason (Unit {0}) (Forces ks es e.lit)

-- the clause of that number is false
abbrev pub IsFault : List (List Lit) → List Entry → ℕ → Type 0
IsFault ks es n = (c : List Lit) × (named ks n ≡ Some c) × (is_falsified es c ≡ true)

-- the later entries stand after the earlier ones, and each of them is forced by a clause
pub record IsGrown (ks : List (List Lit)) (old new : List Entry) : Type 0 where
  pub longer : length old ≤ length new
  pub same : take (length old) new ≡ old
  pub forced : (i : ℕ) (e : Entry) → length old ≤ i → i < length new → IsSome (slice_index_or new i e).reason
  pub reasons : Each (HasReason ks) new

-- the number of the clause that set the literal, `None` where it was decided or is not true
abbrev pub reason_in : List Entry → Lit → Option ℕ
reason_in [] l = None
reason_in (e ∷ es) l = if same_lit e.lit l then e.reason else reason_in es l
