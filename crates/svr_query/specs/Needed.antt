-- A log without the steps that its goal does not need
use Rattle.std.specs.Prelude.{◌≡◌, ℕ, ◌+◌, ◌<◌, ◌≤◌, Bool, false, List, [], ◌∷◌, length, Some, Ok, ◌⊎◌, slice_index_or}
use Rattle.std.specs.List.{list_any}
use Rattle.svr_chain.specs.declared.clause.Lit.{Lit}
use Rattle.svr_chain.specs.declared.log.Link.{Link}
use Rattle.svr_chain.specs.Views.{StepView}
use Rattle.svr_chain.specs.Log.{named, after_steps}

-- the number that a clause has there: those of the formula, which are the first m, keep theirs, and that of the kept step i, which stood at a place of the whole log, is m + i + 1
abbrev pub IsNumberOf : ℕ → List ℕ → ℕ → ℕ → Type 0
IsNumberOf m places n o =
    ((n ≤ m) × (o ≡ n)) ⊎ ((i : ℕ) × (i < length places) × (n ≡ m + slice_index_or places i 0 + 1) × (o ≡ m + i + 1))

-- the links by these numbers
abbrev pub AreLinksIn : ℕ → List ℕ → List Link → List Link → Type 0
AreLinksIn m places [] [] = Unit {0}
AreLinksIn m places [] (y ∷ ys) = ⊥
AreLinksIn m places (x ∷ xs) [] = ⊥
AreLinksIn m places (x ∷ xs) (y ∷ ys) = (y.pivot ≡ x.pivot) × IsNumberOf m places x.clause y.clause × AreLinksIn m places xs ys

-- the step by these numbers
pub record IsStepIn (m : ℕ) (places : List ℕ) (s t : StepView) : Type 0 where
  pub start : IsNumberOf m places s.start t.start
  pub links : AreLinksIn m places s.links t.links

-- the clause of the kept step i is that of the step at its place
abbrev pub IsSameClause : ℕ → List ℕ → List (List Lit) → List (List Lit) → ℕ → Type 0
IsSameClause m places ks part i =
    (c : List Lit) × (named ks (m + slice_index_or places i 0 + 1) ≡ Some c) × (named part (m + i + 1) ≡ Some c)

-- the first m clauses, and those of the steps at these places
pub record IsPartOf (m : ℕ) (places : List ℕ) (ks part : List (List Lit)) : Type 0 where
  pub long : m ≤ length ks
  pub count : length part ≡ m + length places
  pub first : (n : ℕ) (c : List Lit) → n ≤ m → named ks n ≡ Some c → named part n ≡ Some c
  pub there : (i : ℕ) → i < length places → IsSameClause m places ks part i
  pub among : (P : List Lit → Bool) → list_any P ks ≡ false → list_any P part ≡ false

-- where the log is accepted so far, so are the steps that were kept of it, those at these places
abbrev pub IsKept : List (List Lit) → List StepView → List StepView → List ℕ → Type 0
IsKept cnf ss ts places =
    (known : List (List Lit)) → after_steps cnf 1 ss ≡ Ok known
    → (part : List (List Lit)) × (after_steps cnf 1 ts ≡ Ok part) × IsPartOf (length cnf) places known part
