-- What a change of one object leaves as it is.
use Rattle.std.proofs.Common.{◌≡◌, ◌≢◌, ◌<◌, ℕ, zero, suc, arith, List, [], ◌∷◌, ◌++◌, Option, Some, None, length, refl, sym, ap, ◌∙◌, slice_index_or, slice_set, unwrap_or}
use Rattle.std.proofs.Math.Seq.{get_or-set_same, get_or-set_other}
use Rattle.std.specs.List.{All}
use Rattle.std.proofs.lemmas.List.Elements.{All-head, All-tail}
use Rattle.svr_world.specs.declared.change.Replacement.{Replacement}
use Rattle.svr_world.specs.declared.change.Change.{Change}
use Rattle.svr_world.specs.World.{ObjectTerm, WorldTerm, no_object, found_object, object_of, numbers_of, with_object, with_lists, object_with, with_change}
use Rattle.svr_world.specs.Fits.{props_of}

pub other_found : (w : WorldTerm) (o q : ℕ) (x : ObjectTerm) → q ≢ o → found_object (with_object w o x) q ≡ found_object w q
other_found w o q x apart = get_or-set_other w.objects o q (Some x) None apart

-- every other object stays
pub other_kept : (w : WorldTerm) (o q : ℕ) (c : Change) → q ≢ o → object_of (with_change w o c) q ≡ object_of w q
other_kept w o q c apart = ap (λ (m : Option ObjectTerm). unwrap_or m no_object) (other_found w o q (object_with (object_of w o) c) apart)

-- the object is the object_with one
pub this_object : (w : WorldTerm) (o : ℕ) (c : Change) → o < length w.objects → object_of (with_change w o c) o ≡ object_with (object_of w o) c
this_object w o c less = ap (λ (m : Option ObjectTerm). unwrap_or m no_object) (get_or-set_same w.objects o (Some (object_with (object_of w o) c)) None less)

-- a list that is not named stays
pub not_named : (lists : List (List ℕ)) (rs : List Replacement) (p : ℕ) → All (λ q. p ≢ q) (props_of rs) → slice_index_or (with_lists lists rs) p [] ≡ slice_index_or lists p []
not_named lists [] p none = refl
not_named lists (r ∷ rs) p none =
    get_or-set_other (with_lists lists rs) r.prop p r.numbers [] (All-head (λ q. p ≢ q) r.prop (props_of rs) none)
    ∙ not_named lists rs p (All-tail (λ q. p ≢ q) r.prop (props_of rs) none)

-- the lists of the last name are with_lists first
pub with_lists_last : (lists : List (List ℕ)) (rs : List Replacement) (r : Replacement) → with_lists lists (rs ++ r ∷ []) ≡ with_lists (slice_set lists r.prop r.numbers) rs
with_lists_last lists [] r = refl
with_lists_last lists (q ∷ rs) r = ap (λ ls. slice_set ls q.prop q.numbers) (with_lists_last lists rs r)

-- so do the numbers of a property that a change does not name, the modes and the class
pub numbers_kept : (w : WorldTerm) (o : ℕ) (c : Change) (p : ℕ) → o < length w.objects → All (λ q. p ≢ q) (props_of c.values)
    → numbers_of (object_of (with_change w o c) o) p ≡ numbers_of (object_of w o) p
numbers_kept w o c p less none =
    ap (λ (x : ObjectTerm). numbers_of x p) (this_object w o c less) ∙ not_named (object_of w o).values c.values p none

pub modes_kept : (w : WorldTerm) (o : ℕ) (c : Change) → o < length w.objects → (object_of (with_change w o c) o).rand_modes ≡ (object_of w o).rand_modes
modes_kept w o c less = ap (λ (x : ObjectTerm). x.rand_modes) (this_object w o c less)

pub script_kept : (w : WorldTerm) (o : ℕ) (c : Change) → (with_change w o c).script ≡ w.script
script_kept w o c = refl

-- ---- a change that names nothing

put_back : {A : Type 0} (xs : List A) (i : ℕ) (d : A) → i < length xs → slice_set xs i (slice_index_or xs i d) ≡ xs
put_back [] i d less = absurd (omega arith)
put_back (x ∷ xs) zero d less = refl
put_back (x ∷ xs) (suc i) d less = ap (λ ys. x ∷ ys) (put_back xs i d (omega arith))

abbrev pub no_change : Change
no_change = record { values = []; used = [] }

-- it leaves the world as it was
pub nothing_changes : (w : WorldTerm) (o : ℕ) (x : ObjectTerm) → o < length w.objects → found_object w o ≡ Some x → with_change w o no_change ≡ w
nothing_changes w o x less found =
    let same : Some (object_of w o) ≡ found_object w o = ap (λ (m : Option ObjectTerm). Some (unwrap_or m no_object)) found ∙ sym found in
    ap (λ os. record w { objects = os }) (ap (λ (m : Option ObjectTerm). slice_set w.objects o m) same ∙ put_back w.objects o None less)
