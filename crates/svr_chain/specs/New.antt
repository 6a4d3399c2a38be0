-- Clauses that are new
use Rattle.std.specs.Prelude.{◌≡◌, ℕ, ◌<◌, ◌≤◌, false, List, length, Ok, Some}
use Rattle.std.specs.List.{slice_get}
use Rattle.svr_chain.specs.declared.clause.Lit.{Lit}
use Rattle.svr_chain.specs.Views.{StepView}
use Rattle.svr_chain.specs.Clauses.{is_within}
use Rattle.svr_chain.specs.Log.{after_steps}

-- no clause from place n on has an earlier one as a part: so those are pairwise different, as sets of literals
abbrev pub AreNewFrom : ℕ → List (List Lit) → Type 0
AreNewFrom n ks = (i j : ℕ) (c d : List Lit) → i < j → n ≤ j → slice_get ks i ≡ Some c → slice_get ks j ≡ Some d → is_within c d ≡ false

-- the steps derive clauses, each of which is new
abbrev pub DeriveNew : List (List Lit) → List StepView → Type 0
DeriveNew ks steps = (known : List (List Lit)) × (after_steps ks 1 steps ≡ Ok known) × AreNewFrom (length ks) known
