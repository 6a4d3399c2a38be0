-- No array has more than 2,048 elements, and used values rise.
use Rattle.std.proofs.Common.{ℕ, zero, suc, arith, List, [], ◌∷◌, map, slice_index_or}
use Rattle.std.specs.List.{All}
use Rattle.std.specs.List.Sorted.{IsStrictlyIncreasing}
use Rattle.std.proofs.lemmas.List.{length-replicate}
use Rattle.std.proofs.lemmas.List.Elements.{All-weaker}
use Rattle.std.proofs.lemmas.List.Elements.{All-nil, All-cons, All-head, All-tail, All-set}
use Rattle.svr_typed.specs.declared.class.Prop.{Prop}
use Rattle.svr_typed.specs.declared.class.ArrayKind.{ArrayKind}
use Rattle.svr_typed.specs.declared.class.ArrayKind.TheVariants.{Scalar, Fixed, Dynamic}
use Rattle.svr_world.specs.declared.change.Replacement.{Replacement}
use Rattle.svr_world.specs.declared.change.Change.{Change}
use Rattle.svr_typed.specs.ClassTerm.{FlatTerm}
use Rattle.svr_world.specs.World.{initial_numbers, with_lists}
use Rattle.svr_world.specs.Fits.{IsShort, AreShort, IsSmall, AreSmall, FitsPlace, FitsChange}

pub initial_short : (a : ArrayKind) (first : ℕ) → IsSmall a → IsShort (initial_numbers a first)
initial_short Scalar first small = omega arith
initial_short (Fixed m) first small = rw length-replicate small
initial_short Dynamic first small = omega arith

pub all_initial_short : (ps : List Prop) → AreSmall ps → All IsShort (map (λ p. initial_numbers p.array p.first) ps)
all_initial_short [] small = All-nil IsShort
all_initial_short (p ∷ ps) small =
    All-cons IsShort (initial_numbers p.array p.first) (map (λ q. initial_numbers q.array q.first) ps)
    (initial_short p.array p.first (All-head (λ q. IsSmall q.array) p ps small))
    (all_initial_short ps (All-tail (λ q. IsSmall q.array) p ps small))

pub none_rises : IsStrictlyIncreasing []
none_rises k less = absurd (omega arith)

pub none_used : (ps : List Prop) → All IsStrictlyIncreasing (map (λ p. []) ps)
none_used [] = All-nil IsStrictlyIncreasing
none_used (p ∷ ps) = All-cons IsStrictlyIncreasing [] (map (λ q. []) ps) none_rises (none_used ps)

pub rising_at : (lists : List (List ℕ)) (i : ℕ) → All IsStrictlyIncreasing lists → IsStrictlyIncreasing (slice_index_or lists i [])
rising_at [] i all = none_rises
rising_at (l ∷ lists) zero all = All-head IsStrictlyIncreasing l lists all
rising_at (l ∷ lists) (suc i) all = rising_at lists i (All-tail IsStrictlyIncreasing l lists all)

-- a fact of all lists is one of the lists with others in their places
pub with_lists_all : (P : List ℕ → Type 0) (lists : List (List ℕ)) (rs : List Replacement) → All P lists → All (λ r. P r.numbers) rs → All P (with_lists lists rs)
with_lists_all P lists [] old new = old
with_lists_all P lists (r ∷ rs) old new =
    All-set P (with_lists lists rs) r.prop r.numbers
    (All-head (λ q. P q.numbers) r rs new)
    (with_lists_all P lists rs old (All-tail (λ q. P q.numbers) r rs new))

pub change_short : (flat : FlatTerm) (c : Change) → FitsChange flat c → AreShort c.values
change_short flat c fits = All-weaker (FitsPlace flat.props) (λ r. IsShort r.numbers) (λ r place. place.2.short) c.values fits.values
