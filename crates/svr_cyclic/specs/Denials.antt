-- Single literals of a property, and those that no assignment has
use Rattle.std.specs.Prelude.{◌≡◌, ℕ, ◌<◌, ◌^◌, true, List, [], ◌∷◌, ◌++◌}
use Rattle.std.specs.List.{All}
use Rattle.svr_chain.specs.declared.clause.Lit.{Lit}
use Rattle.svr_chain.specs.Clauses.{has}
use Rattle.svr_frame.specs.Frame.{frame_term, width_of}
use Rattle.svr_phase.specs.Proof.{fixed_lits}
use Rattle.svr_query.specs.Answer.{IsRefutation}
use Rattle.svr_cyclic.specs.declared.ask.Asking.{Asking}
use Rattle.svr_cyclic.specs.declared.ask.Sought.{Sought}
use Rattle.svr_cyclic.specs.declared.single.Denied.{Denied}
use Rattle.svr_cyclic.specs.Questions.{front_of}

-- literals of a value of the property that is within its width
abbrev pub AreOwn : Asking → ℕ → List Lit → Type 0
AreOwn a prop own = (v : ℕ) × (v < 2 ^ width_of (frame_term a.frame.now) prop) × (own ≡ fixed_lits a.layout.now ((prop, v) ∷ []))

-- one of them
abbrev pub IsOwn : Asking → ℕ → Lit → Type 0
IsOwn a prop l = (own : List Lit) × AreOwn a prop own × (has own l ≡ true)

-- the refutation shows that the literal cannot hold behind those in front
abbrev pub IsDenied : List (List Lit) → List Lit → Denied → Type 0
IsDenied ks front d = IsRefutation ks (front ++ d.lit ∷ []) d.refutation

-- behind those of the hard items and of the chosen values
abbrev pub AreDenied : Asking → Sought → List (List Lit) → List Denied → Type 0
AreDenied a s ks ds = All (IsDenied ks (front_of a.layout.now s.chosen.now)) ds
