-- Values that are tried for a property, up to the first that fits
use Rattle.std.specs.Prelude.{◌≡◌, ℕ, nat_lt, ◌⊎◌, List, [], ◌∷◌, ◌++◌, filter}
use Rattle.std.specs.List.{All}
use Rattle.svr_frame.specs.Frame.{FrameTerm}
use Rattle.svr_phase.specs.declared.proof.Proof.{Proof}
use Rattle.svr_phase.specs.declared.proof.ProofReason.{ProofReason}
use Rattle.svr_phase.specs.declared.proof.ProofReason.TheVariants.{Cycle, Randc}
use Rattle.svr_cyclic.specs.declared.look.Among.{Among}
use Rattle.svr_cyclic.specs.declared.look.Among.TheVariants as among
use Rattle.svr_cyclic.specs.declared.look.Fit.{Fit}
use Rattle.svr_cyclic.specs.declared.look.Fit.TheVariants as fit
use Rattle.svr_cyclic.specs.declared.look.Looked.{Looked}
use Rattle.svr_cyclic.specs.declared.look.Looked.TheVariants as looked
use Rattle.svr_cyclic.specs.declared.property.ValueEnd.{ValueEnd}
use Rattle.svr_cyclic.specs.declared.property.ValueEnd.TheVariants as end
use Rattle.svr_cyclic.specs.Questions.{CanBe, Over, IsRefuted, IsGivenUp}

-- ---- used values beside one that joins them

abbrev pub lower : ℕ → List ℕ → List ℕ
lower v used = filter (λ u. nat_lt u v) used

abbrev pub higher : ℕ → List ℕ → List ℕ
higher v used = filter (λ u. nat_lt v u) used

-- ---- what fits

abbrev pub CanTake : FrameTerm → List (ℕ × ℕ) → ℕ → ℕ → Type 0
CanTake f chosen prop v = CanBe f (chosen ++ (prop, v) ∷ [])

abbrev pub CannotTake : FrameTerm → List (ℕ × ℕ) → ℕ → ℕ → Type 0
CannotTake f chosen prop v = CanTake f chosen prop v → ⊥

-- whether a value fits, without a proof where it does not
abbrev pub IsFit : Over → List (ℕ × ℕ) → Fit → Type 0
IsFit o fixed fit.Can = CanBe o.frame fixed
IsFit o fixed fit.Cannot = CanBe o.frame fixed → ⊥
IsFit o fixed (fit.Spent log first) = IsGivenUp o log first

-- the first of the values that fits
pub record IsFirstOf (f : FrameTerm) (chosen : List (ℕ × ℕ)) (prop : ℕ) (vs : List ℕ) (v : ℕ) : Type 0 where
  pub refused : List ℕ
  pub later : List ℕ
  pub split : vs ≡ refused ++ v ∷ later
  pub none : All (CannotTake f chosen prop) refused
  pub one : CanTake f chosen prop v

-- one of the values is still to be tried, and those before it do not fit
pub record IsTryingOf (f : FrameTerm) (chosen : List (ℕ × ℕ)) (prop : ℕ) (vs : List ℕ) : Type 0 where
  pub refused : List ℕ
  pub next : ℕ
  pub later : List ℕ
  pub split : vs ≡ refused ++ next ∷ later
  pub none : All (CannotTake f chosen prop) refused

-- ---- proofs

abbrev pub reason_of : Among → ℕ → ℕ → ProofReason
reason_of among.Unused prop v = Cycle prop v
reason_of among.Domain prop v = Randc prop v

-- one proof for each of the values, in their order
abbrev pub AreRefuted : Over → List (ℕ × ℕ) → ℕ → (ℕ → ProofReason) → List ℕ → List Proof → Type 0
AreRefuted o chosen prop cause [] [] = Unit {0}
AreRefuted o chosen prop cause [] (p ∷ ps) = ⊥
AreRefuted o chosen prop cause (v ∷ vs) [] = ⊥
AreRefuted o chosen prop cause (v ∷ vs) (p ∷ ps) = IsRefuted o (chosen ++ (prop, v) ∷ []) (cause v) p × AreRefuted o chosen prop cause vs ps

-- ---- how it ends

-- over one list of values
abbrev pub IsLooked : Over → List (ℕ × ℕ) → ℕ → (ℕ → ProofReason) → List ℕ → Looked → Type 0
IsLooked o chosen prop cause vs (looked.Found v) = IsFirstOf o.frame chosen prop vs v
IsLooked o chosen prop cause vs (looked.NoneFits ps) = All (CannotTake o.frame chosen prop) vs × AreRefuted o chosen prop cause vs ps
IsLooked o chosen prop cause vs (looked.Spent log first) = IsTryingOf o.frame chosen prop vs × IsGivenUp o log first

-- over the unused values, and then the domain
abbrev pub IsValueEnd : Over → List (ℕ × ℕ) → ℕ → List ℕ → List ℕ → ValueEnd → Type 0
IsValueEnd o chosen prop left whole (end.Going v) = IsFirstOf o.frame chosen prop left v
IsValueEnd o chosen prop left whole (end.Begun v ps) =
    All (CannotTake o.frame chosen prop) left × AreRefuted o chosen prop (Cycle prop) left ps × IsFirstOf o.frame chosen prop whole v
IsValueEnd o chosen prop left whole (end.NoneFits ps) =
    All (CannotTake o.frame chosen prop) left × All (CannotTake o.frame chosen prop) whole × AreRefuted o chosen prop (Randc prop) whole ps
IsValueEnd o chosen prop left whole (end.Spent log first) =
    (IsTryingOf o.frame chosen prop left ⊎ (All (CannotTake o.frame chosen prop) left × IsTryingOf o.frame chosen prop whole)) × IsGivenUp o log first

-- the end behind unused values none of which fits, as these proofs show
abbrev pub EndsBehind : Over → List (ℕ × ℕ) → ℕ → List Proof → List ℕ → ValueEnd → Type 0
EndsBehind o chosen prop proofs whole e =
    (left : List ℕ) → All (CannotTake o.frame chosen prop) left → AreRefuted o chosen prop (Cycle prop) left proofs → IsValueEnd o chosen prop left whole e
