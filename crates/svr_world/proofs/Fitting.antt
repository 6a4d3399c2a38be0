-- Each call keeps a world fitting the classes of its objects.
use Rattle.std.proofs.Common.{◌≡◌, ◌≤◌, ◌<◌, ◌^◌, ℕ, zero, suc, ◌-◌, Bool, arith, List, [], ◌∷◌, Option, Some, None, IsSome, length, map, take, replicate, refl, sym, ◌∙◌, subst, true, slice_get, slice_index, slice_index_or, slice_set, unwrap_or}
use Rattle.std.specs.List.{All}
use Rattle.std.specs.List.Sorted.{IsStrictlyIncreasing}
use Rattle.std.proofs.lemmas.List.{length-set, length-map, length-append, length-take, length-replicate}
use Rattle.std.proofs.lemmas.List.Elements.{All-nil, All-cons, All-head, All-tail, All-set, All-append, All-take, All-replicate}
use Rattle.svr_limits.specs.declared.limit.TheConstants.{ELEMENT_LIMIT}
use Rattle.svr_typed.specs.declared.class.Prop.{Prop}
use Rattle.svr_typed.specs.declared.class.ArrayKind.{ArrayKind}
use Rattle.svr_typed.specs.declared.class.ArrayKind.TheVariants.{Scalar, Fixed, Dynamic}
use Rattle.svr_typed.specs.ClassTerm.{FlatTerm}
use Rattle.svr_world.specs.declared.change.Replacement.{Replacement}
use Rattle.svr_world.specs.declared.change.Change.{Change}
use Rattle.svr_world.specs.World.{ObjectTerm, WorldTerm, no_object, found_object, object_of, IsMade, numbers_of, initial_numbers, new_object, with_length, with_mode, with_lists, object_with, with_object, with_numbers, with_number, with_new_object, with_size, with_rand_mode, with_block_mode, with_script, with_change}
use Rattle.svr_world.specs.Fits.{IsSize, IsSmall, AreSmall, FirstFits, FirstsFit, FitsProp, FitProps, FitsClass, FitsIfMade, IsWorldOf, FitsPlace, FitsChange}
use Rattle.svr_world.proofs.Short.{initial_short, none_used, with_lists_all}

-- ---- numbers of a property

some_power : (w : ℕ) → 0 < 2 ^ w
some_power zero = omega arith
some_power (suc w) = let h : 0 < 2 ^ w = some_power w in omega arith

initial_size : (a : ArrayKind) (first : ℕ) → IsSize a (length (initial_numbers a first))
initial_size Scalar first = refl
initial_size (Fixed m) first = length-replicate m 0
initial_size Dynamic first = tt

initial_within : (a : ArrayKind) (first bound : ℕ) → first < bound → 0 < bound → All (λ v. v < bound) (initial_numbers a first)
initial_within Scalar first bound less some = All-cons (λ v. v < bound) first [] less (All-nil (λ v. v < bound))
initial_within (Fixed m) first bound less some = All-replicate (λ v. v < bound) m 0 some
initial_within Dynamic first bound less some = All-nil (λ v. v < bound)

pub initial_fits : (p : Prop) → IsSmall p.array → FirstFits p → FitsProp p (initial_numbers p.array p.first)
initial_fits p small first = record {
  size = initial_size p.array p.first;
  short = initial_short p.array p.first small;
  within = initial_within p.array p.first (2 ^ p.kind.width) first (some_power p.kind.width);
}

pub number_fits : (p : Prop) (numbers : List ℕ) (i v : ℕ) → FitsProp p numbers → v < 2 ^ p.kind.width → FitsProp p (slice_set numbers i v)
number_fits p numbers i v fits less = record {
  size = rw (length-set numbers i v) fits.size;
  short = rw (length-set numbers i v) fits.short;
  within = All-set (λ u. u < 2 ^ p.kind.width) numbers i v less fits.within;
}

cut_length : (n : ℕ) (numbers : List ℕ) → length (with_length n numbers) ≤ n
cut_length n numbers = rw (length-append (take n numbers) (replicate (n - length numbers) 0), length-take n numbers, length-replicate {A = ℕ} (n - length numbers) 0) (omega arith)

dynamic_size : (a : ArrayKind) (n : ℕ) → a ≡ Dynamic → IsSize a n
dynamic_size a n is = rw is tt

pub cut_fits : (p : Prop) (n : ℕ) (numbers : List ℕ) → p.array ≡ Dynamic → n ≤ ELEMENT_LIMIT → FitsProp p numbers → FitsProp p (with_length n numbers)
cut_fits p n numbers dynamic limit fits = record {
  size = dynamic_size p.array (length (with_length n numbers)) dynamic;
  short = let h : length (with_length n numbers) ≤ n = cut_length n numbers in omega arith;
  within = All-append (λ u. u < 2 ^ p.kind.width) (take n numbers) (replicate (n - length numbers) 0)
      (All-take (λ u. u < 2 ^ p.kind.width) n numbers fits.within)
      (All-replicate (λ u. u < 2 ^ p.kind.width) (n - length numbers) 0 (some_power p.kind.width));
}

-- ---- the properties of an object

new_props : (ps : List Prop) → AreSmall ps → FirstsFit ps → FitProps ps (map (λ p. initial_numbers p.array p.first) ps)
new_props [] small first = tt
new_props (p ∷ ps) small first = (
  initial_fits p (All-head (λ q. IsSmall q.array) p ps small) (All-head FirstFits p ps first),
  new_props ps (All-tail (λ q. IsSmall q.array) p ps small) (All-tail FirstFits p ps first),
)

-- what a property has fits it
pub prop_fits : (ps : List Prop) (ls : List (List ℕ)) (i : ℕ) (p : Prop) → FitProps ps ls → slice_get ps i ≡ Some p → FitsProp p (slice_index_or ls i [])
prop_fits [] ls i p fit at = absurd (cc)
prop_fits (q ∷ ps) [] i p fit at = absurd fit
prop_fits (q ∷ ps) (l ∷ ls) zero p fit at = let P : Option Prop → Type 0 = λ o. FitsProp (unwrap_or o q) l in subst P at fit.0
prop_fits (q ∷ ps) (l ∷ ls) (suc i) p fit at = prop_fits ps ls i p fit.1 at

pub numbers_fit : (ps : List Prop) (ls : List (List ℕ)) (i : ℕ) (p : Prop) (numbers : List ℕ) → FitProps ps ls → slice_get ps i ≡ Some p → FitsProp p numbers → FitProps ps (slice_set ls i numbers)
numbers_fit [] ls i p numbers fit at fits = absurd (cc)
numbers_fit (q ∷ ps) [] i p numbers fit at fits = absurd fit
numbers_fit (q ∷ ps) (l ∷ ls) zero p numbers fit at fits = let P : Option Prop → Type 0 = λ o. FitsProp (unwrap_or o q) numbers in (subst P (sym at) fits, fit.1)
numbers_fit (q ∷ ps) (l ∷ ls) (suc i) p numbers fit at fits = (fit.0, numbers_fit ps ls i p numbers fit.1 at fits)

places_fit : (ps : List Prop) (ls : List (List ℕ)) (rs : List Replacement) → FitProps ps ls → All (FitsPlace ps) rs → FitProps ps (with_lists ls rs)
places_fit ps ls [] fit places = fit
places_fit ps ls (r ∷ rs) fit places =
    let place : FitsPlace ps r = All-head (FitsPlace ps) r rs places in
    numbers_fit ps (with_lists ls rs) r.prop place.0 r.numbers (places_fit ps ls rs fit (All-tail (FitsPlace ps) r rs places)) place.1 place.2

with_lists_length : (ls : List (List ℕ)) (rs : List Replacement) → length (with_lists ls rs) ≡ length ls
with_lists_length ls [] = refl
with_lists_length ls (r ∷ rs) = length-set (with_lists ls rs) r.prop r.numbers ∙ with_lists_length ls rs

-- ---- objects

pub new_object_fits : (class : ℕ) (flat : FlatTerm) → AreSmall flat.props → FirstsFit flat.props → FitsClass flat (new_object class flat)
new_object_fits class flat small first = record {
  values = new_props flat.props small first;
  rand_modes = length-map flat.props (λ p. true);
  block_modes = length-map flat.blocks (λ b. true);
  used = length-map flat.props (λ p. []);
  rising = none_used flat.props;
}

pub object_with_fits : (flat : FlatTerm) (x : ObjectTerm) (c : Change) → FitsClass flat x → FitsChange flat c → FitsClass flat (object_with x c)
object_with_fits flat x c fits change = record {
  values = places_fit flat.props x.values c.values fits.values change.values;
  rand_modes = fits.rand_modes;
  block_modes = fits.block_modes;
  used = with_lists_length x.used c.used ∙ fits.used;
  rising = with_lists_all IsStrictlyIncreasing x.used c.used fits.rising change.rising;
}

with_mode_length : (modes : List Bool) (at : Option ℕ) (on : Bool) → length (with_mode modes at on) ≡ length modes
with_mode_length modes None on = length-map modes (λ m. on)
with_mode_length modes (Some k) on = length-set modes k on

-- ---- worlds

-- an object of the class that it has
abbrev pub HasClass : List FlatTerm → FlatTerm → ObjectTerm → Type 0
HasClass classes flat x = (slice_get classes x.class ≡ Some flat) × FitsClass flat x

all_found : (classes : List FlatTerm) (objects : List (Option ObjectTerm)) (o : ℕ) → All (FitsIfMade classes) objects → FitsIfMade classes (slice_index_or objects o None)
all_found classes [] o all = tt
all_found classes (x ∷ objects) zero all = All-head (FitsIfMade classes) x objects all
all_found classes (x ∷ objects) (suc o) all = all_found classes objects o (All-tail (FitsIfMade classes) x objects all)

found_has : (classes : List FlatTerm) (m : Option ObjectTerm) → IsSome m → FitsIfMade classes m → (flat : FlatTerm) × HasClass classes flat (unwrap_or m no_object)
found_has classes None is fits = absurd (cc)
found_has classes (Some x) is fits = (fits.0, (fits.1, fits.2))

-- the object that a variable holds fits its class
pub object_fits : (classes : List FlatTerm) (w : WorldTerm) (o : ℕ) → IsWorldOf classes w → IsMade w o → (flat : FlatTerm) × HasClass classes flat (object_of w o)
object_fits classes w o all made = found_has classes (found_object w o) made (all_found classes w.objects o all)

with_fits : (classes : List FlatTerm) (w : WorldTerm) (o : ℕ) (flat : FlatTerm) (x : ObjectTerm) → IsWorldOf classes w → HasClass classes flat x → IsWorldOf classes (with_object w o x)
with_fits classes w o flat x all has = All-set (FitsIfMade classes) w.objects o (Some x) (flat, has.0, has.1) all

pub with_new_object_fits : (classes : List FlatTerm) (w : WorldTerm) (o : ℕ) (flat : FlatTerm) → IsWorldOf classes w → slice_get classes (slice_index w.declared o) ≡ Some flat
    → AreSmall flat.props → FirstsFit flat.props → IsWorldOf classes (with_new_object w o flat)
with_new_object_fits classes w o flat all class small first =
    with_fits classes w o flat (new_object (slice_index w.declared o) flat) all (class, new_object_fits (slice_index w.declared o) flat small first)

pub with_numbers_fits : (classes : List FlatTerm) (w : WorldTerm) (o : ℕ) (flat : FlatTerm) (i : ℕ) (p : Prop) (numbers : List ℕ) → IsWorldOf classes w → HasClass classes flat (object_of w o)
    → slice_get flat.props i ≡ Some p → FitsProp p numbers → IsWorldOf classes (with_numbers w o i numbers)
with_numbers_fits classes w o flat i p numbers all has at fits =
    let x = object_of w o in
    with_fits classes w o flat (record x { values = slice_set x.values i numbers }) all (
      has.0,
      record {
        values = numbers_fit flat.props x.values i p numbers has.1.values at fits;
        rand_modes = has.1.rand_modes;
        block_modes = has.1.block_modes;
        used = has.1.used;
        rising = has.1.rising;
      },
    )

pub with_number_fits : (classes : List FlatTerm) (w : WorldTerm) (o : ℕ) (flat : FlatTerm) (i : ℕ) (p : Prop) (k v : ℕ) → IsWorldOf classes w → HasClass classes flat (object_of w o)
    → slice_get flat.props i ≡ Some p → v < 2 ^ p.kind.width → IsWorldOf classes (with_number w o i k v)
with_number_fits classes w o flat i p k v all has at less =
    with_numbers_fits classes w o flat i p (slice_set (numbers_of (object_of w o) i) k v) all has at
    (number_fits p (numbers_of (object_of w o) i) k v (prop_fits flat.props (object_of w o).values i p has.1.values at) less)

pub with_size_fits : (classes : List FlatTerm) (w : WorldTerm) (o : ℕ) (flat : FlatTerm) (i : ℕ) (p : Prop) (n : ℕ) → IsWorldOf classes w → HasClass classes flat (object_of w o)
    → slice_get flat.props i ≡ Some p → p.array ≡ Dynamic → n ≤ ELEMENT_LIMIT → IsWorldOf classes (with_size w o i n)
with_size_fits classes w o flat i p n all has at dynamic limit =
    with_numbers_fits classes w o flat i p (with_length n (numbers_of (object_of w o) i)) all has at
    (cut_fits p n (numbers_of (object_of w o) i) dynamic limit (prop_fits flat.props (object_of w o).values i p has.1.values at))

pub with_rand_mode_fits : (classes : List FlatTerm) (w : WorldTerm) (o : ℕ) (flat : FlatTerm) (p : Option ℕ) (on : Bool) → IsWorldOf classes w → HasClass classes flat (object_of w o)
    → IsWorldOf classes (with_rand_mode w o p on)
with_rand_mode_fits classes w o flat p on all has =
    let x = object_of w o in
    with_fits classes w o flat (record x { rand_modes = with_mode x.rand_modes p on }) all (
      has.0,
      record {
        values = has.1.values;
        rand_modes = with_mode_length x.rand_modes p on ∙ has.1.rand_modes;
        block_modes = has.1.block_modes;
        used = has.1.used;
        rising = has.1.rising;
      },
    )

pub with_block_mode_fits : (classes : List FlatTerm) (w : WorldTerm) (o : ℕ) (flat : FlatTerm) (b : Option ℕ) (on : Bool) → IsWorldOf classes w → HasClass classes flat (object_of w o)
    → IsWorldOf classes (with_block_mode w o b on)
with_block_mode_fits classes w o flat b on all has =
    let x = object_of w o in
    with_fits classes w o flat (record x { block_modes = with_mode x.block_modes b on }) all (
      has.0,
      record {
        values = has.1.values;
        rand_modes = has.1.rand_modes;
        block_modes = with_mode_length x.block_modes b on ∙ has.1.block_modes;
        used = has.1.used;
        rising = has.1.rising;
      },
    )

pub with_script_fits : (classes : List FlatTerm) (w : WorldTerm) (v n : ℕ) → IsWorldOf classes w → IsWorldOf classes (with_script w v n)
with_script_fits classes w v n all = all

pub with_change_fits : (classes : List FlatTerm) (w : WorldTerm) (o : ℕ) (flat : FlatTerm) (c : Change) → IsWorldOf classes w → HasClass classes flat (object_of w o)
    → FitsChange flat c → IsWorldOf classes (with_change w o c)
with_change_fits classes w o flat c all has change =
    with_fits classes w o flat (object_with (object_of w o) c) all (has.0, object_with_fits flat (object_of w o) c has.1 change)
