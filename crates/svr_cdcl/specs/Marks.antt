-- The literals seen in an analysis, by their variables
use Rattle.std.specs.Prelude.{◌≡◌, ℕ, Bool, true, false, ◌&&◌, ◌||◌, not, nat_eq, nat_lt, is_some, List, [], ◌∷◌, Option, None, Some, take, if◌then◌else◌}
use Rattle.std.specs.List.{list_all, list_any}
use Rattle.svr_chain.specs.declared.clause.Lit.{Lit}
use Rattle.svr_chain.specs.Clauses.{has, same_lit}
use Rattle.svr_trail.specs.declared.Entry.{Entry}
use Rattle.svr_trail.specs.Trail.{Each, is_false, sign_at, value_in}
use Rattle.svr_cdcl.specs.Learned.{is_kept}

-- the variable is marked
abbrev pub is_marked : List Entry → ℕ → Bool
is_marked ms v = is_some (sign_at ms v)

-- each marked literal is false
abbrev pub AreFalse : List Entry → List Entry → Type 0
AreFalse es ms = Each (λ _ m. is_false (value_in es m.lit) ≡ true) ms

-- each literal is the kept one or is false
abbrev pub is_false_besides : List Entry → Option Lit → List Lit → Bool
is_false_besides es keep c = list_all (λ x. is_kept keep x || is_false (value_in es x)) c

-- the literal is of the variable, and is not the kept one
abbrev pub is_touched : Option Lit → Lit → ℕ → Bool
is_touched keep x v = not (is_kept keep x) && nat_eq x.var v

-- one of the literals but the kept one is of the variable
abbrev pub touches : Option Lit → List Lit → ℕ → Bool
touches keep c v = list_any (λ x. is_touched keep x v) c

-- the variables of the literals but the kept one are marked besides
abbrev pub Marks : List Entry → List Entry → Option Lit → List Lit → Type 0
Marks old new keep c = (v : ℕ) → is_marked new v ≡ (is_marked old v || touches keep c v)

-- no marked literal but the pivot is false by the first `left` entries and not by the first `base`
abbrev pub is_last : List Entry → ℕ → ℕ → Lit → List Entry → Bool
is_last es base left p ms = list_all (λ m. same_lit m.lit p || (is_false (value_in (take base es) m.lit) || not (is_false (value_in (take left es) m.lit)))) ms

-- no marked literal is false by the first `place` entries
abbrev pub are_passed : List Entry → ℕ → List Entry → Bool
are_passed es place ms = list_all (λ m. not (is_false (value_in (take place es) m.lit))) ms

-- each marked literal that is false by the first `high` entries is so by the first `low` ones
abbrev pub none_between : List Entry → ℕ → ℕ → List Entry → Bool
none_between es low high ms = list_all (λ m. is_false (value_in (take low es) m.lit) || not (is_false (value_in (take high es) m.lit))) ms

-- the variables of the literals but the kept one are marked
abbrev pub are_marked : List Entry → Option Lit → List Lit → Bool
are_marked ms keep c = list_all (λ x. is_kept keep x || is_marked ms x.var) c

-- each literal but the pivot is marked, and false by the first entries
abbrev pub are_below : List Entry → ℕ → Lit → List Entry → List Lit → Bool
are_below es place p ms c = list_all (λ x. same_lit x p || (is_false (value_in (take place es) x) && is_marked ms x.var)) c

-- the last place, if there is one, is below h
abbrev pub is_before : Option ℕ → ℕ → Bool
is_before None h = true
is_before (Some at) h = nat_lt at h

-- what an explanation begins with: the kept literal, if the clause has it
abbrev pub begun : Option Lit → List Lit → List Lit
begun None c = []
begun (Some p) c = if has c p then p ∷ [] else []

-- the kept literal is not false
abbrev pub IsKept : List Entry → Option Lit → Type 0
IsKept es None = Unit {0}
IsKept es (Some p) = is_false (value_in es p) ≡ false
