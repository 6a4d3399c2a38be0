-- What the proofs that an answer carries have to show
use Rattle.std.specs.Prelude.{◌≡◌, ◌==◌, ◌≤◌, ⊤, ℕ, ◌-◌, ◌/◌, ◌%◌, Bool, true, false, if◌then◌else◌, List, [], ◌∷◌, ◌++◌, Option, None, Some, length, take, drop, slice_get, option_to_list}
use Rattle.std.specs.List.{flat_map}
use Rattle.svr_chain.specs.declared.clause.Lit.{Lit}
use Rattle.svr_chain.specs.Clauses.{flip}
use Rattle.svr_vector.specs.Places.{rows}
use Rattle.svr_frame.specs.declared.part.Part.{Part}
use Rattle.svr_frame.specs.declared.part.Part.TheVariants.{Sizes, All, Randc}
use Rattle.svr_frame.specs.Frame.{FrameTerm}
use Rattle.svr_frame.specs.Occurrences.{Occurrence}
use Rattle.svr_frame.specs.Phases.{hard_of, capped_hard_of, live_of}
use Rattle.svr_frame.specs.Satisfaction.{is_at}
use Rattle.svr_encoded.specs.declared.encoded.Encoded.{Encoded}
use Rattle.svr_encoded.specs.Slots.{bits_where}
use Rattle.svr_phase.specs.declared.proof.Proof.{Proof}
use Rattle.svr_phase.specs.declared.proof.ProofReason.{ProofReason}
use Rattle.svr_phase.specs.declared.proof.ProofReason.TheVariants as why
use Rattle.svr_phase.specs.Spent.{IsRefutation, EncodesItems}

-- ---- fixed values as literals

-- the literals that say that the bits spell the number, the least bit first
abbrev pub spelling : List Lit → ℕ → List Lit
spelling [] n = []
spelling (l ∷ ls) n = (if n % 2 == 0 then flip l else l) ∷ spelling ls (n / 2)

abbrev pub spelling_at : Option (List Lit) → ℕ → List Lit
spelling_at None n = []
spelling_at (Some ls) n = spelling ls n

-- the bits of scalar properties with these values
abbrev pub fixed_lits : Encoded → List (ℕ × ℕ) → List Lit
fixed_lits e fixed = flat_map (λ c. spelling_at (bits_where (is_at c.0 0) e.slots.items (rows e.bits.items)) c.1) fixed

abbrev pub hard_roots : Encoded → List Occurrence → List Lit
hard_roots e hard = take (length hard) e.roots.items

abbrev pub soft_roots : Encoded → List Occurrence → List Lit
soft_roots e hard = drop (length hard) e.roots.items

-- the sizes that a phase looks for have all bits of a size
abbrev pub SizesAreWhole : Part → ℕ → Type 0
SizesAreWhole Randc size_bits = ⊤
SizesAreWhole Sizes size_bits = 31 ≤ size_bits
SizesAreWhole All size_bits = ⊤

-- ---- proofs

-- The proof names an encoding of these items, the first of which are the hard ones, and refutes these hard items under these fixed values together with what else is assumed.
pub record Stands (f : FrameTerm) (part : Part) (sizes : List ℕ) (size_bits : ℕ) (fixed : List (ℕ × ℕ)) (hard soft : List Occurrence) (also : Encoded → List Lit)
    (encodings : List Encoded) (p : Proof) : Type 0 where
  pub encoding : Encoded
  pub named : slice_get encodings p.encoding ≡ Some encoding
  pub encodes : EncodesItems f part sizes size_bits (hard ++ soft) encoding
  pub assumes : p.assume ≡ fixed_lits encoding fixed ++ hard_roots encoding hard ++ also encoding
  pub refutes : IsRefutation encoding.cnf.clauses.items p.assume p.refutation

abbrev pub no_lits : Encoded → List Lit
no_lits e = []

-- a value of a cyclic property cannot be, with the earlier ones chosen
abbrev pub StandsForValue : FrameTerm → List (ℕ × ℕ) → ℕ → ℕ → List Encoded → Proof → Type 0
StandsForValue f chosen prop value encodings p =
    (k : ℕ) × Stands f Randc f.state.sizes k (chosen ++ (prop, value) ∷ []) (hard_of f Randc f.state.sizes) [] no_lits encodings p

-- no sizes up to 2 ^ 31 - 1
abbrev pub StandsForNoSizes : FrameTerm → List (ℕ × ℕ) → List Encoded → Proof → Type 0
StandsForNoSizes f chosen encodings p =
    (p.reason ≡ why.Size) × Stands f Sizes f.state.sizes 32 chosen (hard_of f Sizes f.state.sizes) [] no_lits encodings p

-- no sizes up to the cap, which has so many bits
abbrev pub StandsForCap : FrameTerm → ℕ → ℕ → List (ℕ × ℕ) → List Encoded → Proof → Type 0
StandsForCap f cap cap_bits chosen encodings p =
    (p.reason ≡ why.Size) × Stands f Sizes f.state.sizes cap_bits chosen (capped_hard_of f cap f.state.sizes) [] no_lits encodings p

-- the hard items cannot be met at these sizes
abbrev pub StandsForHard : FrameTerm → List ℕ → List (ℕ × ℕ) → List Encoded → Proof → Type 0
StandsForHard f sizes chosen encodings p =
    (k : ℕ) × (p.reason ≡ why.Hard) × Stands f All sizes k chosen (hard_of f All sizes) (live_of f All sizes) no_lits encodings p

-- the literals of the places that a list of fates keeps
abbrev pub kept_lits : List Bool → List Lit → List Lit
kept_lits [] ls = []
kept_lits (b ∷ bs) [] = []
kept_lits (true ∷ bs) (l ∷ ls) = l ∷ kept_lits bs ls
kept_lits (false ∷ bs) (l ∷ ls) = kept_lits bs ls

-- the soft items that are kept above this rank, and the one of this rank
abbrev pub down_to : List Bool → ℕ → List Lit → List Lit
down_to fates rank roots = kept_lits (take (rank - 1) fates) roots ++ option_to_list (slice_get roots (rank - 1))

-- the soft item of this rank cannot be met with the hard items and those kept above it
abbrev pub StandsForDrop : FrameTerm → List ℕ → List (ℕ × ℕ) → List Bool → ℕ → List Encoded → Proof → Type 0
StandsForDrop f sizes chosen fates rank encodings p =
    (k : ℕ) × (p.reason ≡ why.Drop rank)
    × Stands f All sizes k chosen (hard_of f All sizes) (live_of f All sizes) (λ e. down_to fates rank (soft_roots e (hard_of f All sizes))) encodings p

-- one proof for each of these values of a cyclic property, in their order
abbrev pub ProveValues : FrameTerm → List (ℕ × ℕ) → ℕ → (ℕ → ProofReason) → List ℕ → List Encoded → List Proof → Type 0
ProveValues f chosen prop reason [] encodings [] = Unit {0}
ProveValues f chosen prop reason [] encodings (p ∷ ps) = ⊥
ProveValues f chosen prop reason (v ∷ vs) encodings [] = ⊥
ProveValues f chosen prop reason (v ∷ vs) encodings (p ∷ ps) =
    (p.reason ≡ reason v) × StandsForValue f chosen prop v encodings p × ProveValues f chosen prop reason vs encodings ps
