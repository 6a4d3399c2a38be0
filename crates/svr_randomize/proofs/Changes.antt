-- The numbers of an assignment of the last phase are a change that fits objects of the class.
use Rattle.std.proofs.Common.{◌≡◌, ◌<◌, ◌≤◌, ◌+◌, ◌^◌, ℕ, zero, suc, Bool, true, false, refl, sym, ap, subst, List, [], ◌∷◌, map, length, Option, None, Some, IsSome, arith}
use Rattle.std.specs.Prelude.{filter, slice_get, slice_index, slice_index_or}
use Rattle.std.specs.List.{All, range_with_len}
use Rattle.std.proofs.lemmas.List.Elements.{All-nil, All-cons}
use Rattle.std.proofs.lemmas.List.FromFn.{length-map-range_with_len}
use Rattle.svr_limits.specs.declared.limit.TheConstants.{ELEMENT_LIMIT}
use Rattle.svr_typed.specs.declared.class.ArrayKind.{ArrayKind}
use Rattle.svr_typed.specs.declared.class.ArrayKind.TheVariants as array
use Rattle.svr_typed.specs.declared.class.Prop.{Prop}
use Rattle.svr_typed.specs.ClassTerm.{FlatTerm}
use Rattle.svr_eval.specs.Reading.{Reading}
use Rattle.svr_world.specs.declared.change.Change.{Change}
use Rattle.svr_world.specs.declared.change.Replacement.{Replacement}
use Rattle.svr_world.specs.World.{ObjectTerm, WorldTerm, IsMade, object_of}
use Rattle.svr_world.specs.Fits.{IsSize, FitsProp, FitsClass, FitsPlace, AreDistinct, FitsChange}
use Rattle.svr_world.specs.Fits as fitting
use Rattle.svr_world.proofs.Kept.{this_object}
use Rattle.svr_world.proofs.Short.{change_short}
use Rattle.svr_world.proofs.Fitting.{object_with_fits}
use Rattle.svr_frame.specs.declared.part.Part.TheVariants.{All as Whole}
use Rattle.svr_frame.specs.Frame.{FrameTerm, is_dynamic_kind, is_random, has_free_size}
use Rattle.svr_frame.specs.Satisfaction.{IsAssignment}
use Rattle.svr_frame.specs.Sound.{SizeIsOf, IsSound, SizesFit}
use Rattle.svr_frame_laws.proofs.Answers.{any_prop, found}
use Rattle.svr_frame_laws.proofs.Readable.{number_fits}
use Rattle.svr_call.specs.Call.{numbers_read, random_props}
use Rattle.svr_cyclic.specs.Ends.{UsedFit}
use Rattle.svr_randomize.specs.Answers.{changed, FitsIfChanged, CanBeWritten}

-- ---- properties by their places

width_at : (xs : List Prop) (p : ℕ) → p < length xs → slice_index (map (λ (x : Prop). x.kind.width) xs) p ≡ (slice_index_or xs p any_prop).kind.width
width_at [] p h = absurd (omega (arith, h))
width_at (x ∷ xs) zero h = refl
width_at (x ∷ xs) (suc p) h = width_at xs p (omega (arith, h))

there : (xs : List Prop) (p : ℕ) → p < length xs → slice_get xs p ≡ Some (slice_index_or xs p any_prop)
there [] p h = absurd (omega (arith, h))
there (x ∷ xs) zero h = refl
there (x ∷ xs) (suc p) h = there xs p (omega (arith, h))

kind_size : (k : ArrayKind) (n : ℕ) → SizeIsOf k n → IsSize k n
kind_size array.Scalar n h = h
kind_size (array.Fixed m) n h = h.0
kind_size array.Dynamic n h = tt

dynamic_size : (k : ArrayKind) (n : ℕ) → is_dynamic_kind k ≡ true → IsSize k n
dynamic_size array.Scalar n h = absurd (cc)
dynamic_size (array.Fixed m) n h = absurd (cc)
dynamic_size array.Dynamic n h = tt

-- ---- those of a range that pass a test

above : (t : ℕ → Bool) (p k n : ℕ) → p < k → All (λ q. p ≡ q → ⊥) (filter t (range_with_len k n))
above t p k zero lt = All-nil (λ q. p ≡ q → ⊥)
above t p k (suc n) lt = by_test (t k) refl (above t p (k + 1) n (omega (arith, lt)))
  where
    by_test : (b : Bool) → t k ≡ b → All (λ q. p ≡ q → ⊥) (filter t (range_with_len (k + 1) n)) → All (λ q. p ≡ q → ⊥) (filter t (range_with_len k (suc n)))
    by_test true e rest = rw e (All-cons (λ q. p ≡ q → ⊥) k (filter t (range_with_len (k + 1) n)) (λ s. absurd (omega (arith, lt, s))) rest)
    by_test false e rest = rw e rest

once : (t : ℕ → Bool) (k n : ℕ) → AreDistinct (filter t (range_with_len k n))
once t k zero = tt
once t k (suc n) = by_test (t k) refl (once t (k + 1) n)
  where
    by_test : (b : Bool) → t k ≡ b → AreDistinct (filter t (range_with_len (k + 1) n)) → AreDistinct (filter t (range_with_len k (suc n)))
    by_test true e rest = rw e (above t k (k + 1) n (omega arith), rest)
    by_test false e rest = rw e rest

-- ---- the rows of an assignment

module _ (f : FrameTerm) (ns : List ℕ) (sound : IsSound f) (fit : SizesFit f ns) (fixed : List (ℕ × ℕ)) (a : Reading) (is : IsAssignment f Whole ns fixed a) where
  abbrev row : ℕ → List ℕ
  row p = map (λ i. a.element p i) (range_with_len 0 (slice_index ns p))

  size_of_row : (p : ℕ) → p < length f.class.props → IsSize (slice_index_or f.class.props p any_prop).array (slice_index ns p)
  size_of_row p lt = by_test (has_free_size f p) refl
    where
      by_test : (b : Bool) → has_free_size f p ≡ b → IsSize (slice_index_or f.class.props p any_prop).array (slice_index ns p)
      by_test true e = dynamic_size (slice_index_or f.class.props p any_prop).array (slice_index ns p) (found (λ (x : Prop). is_dynamic_kind x.array) f.class.props p (sound.free p e).1).1
      by_test false e =
          kind_size (slice_index_or f.class.props p any_prop).array (slice_index ns p)
          (subst (λ (n : ℕ). SizeIsOf (slice_index_or f.class.props p any_prop).array n) (sym (fit.same p e)) (sound.state.of_kind p any_prop lt))

  numbers_below : (w p k n : ℕ) → ((i : ℕ) → a.element p i < 2 ^ w) → All (λ v. v < 2 ^ w) (map (λ i. a.element p i) (range_with_len k n))
  numbers_below w p k zero h = All-nil (λ v. v < 2 ^ w)
  numbers_below w p k (suc n) h = All-cons (λ v. v < 2 ^ w) (a.element p k) (map (λ i. a.element p i) (range_with_len (k + 1) n)) (h k) (numbers_below w p (k + 1) n h)

  row_fits : (p : ℕ) → p < length f.class.props → FitsPlace f.class.props (record { prop = p; numbers = row p })
  row_fits p lt = (
    slice_index_or f.class.props p any_prop,
    there f.class.props p lt,
    record {
      size = subst (λ (n : ℕ). IsSize (slice_index_or f.class.props p any_prop).array n) (sym long) (size_of_row p lt);
      short = subst (λ (n : ℕ). n ≤ ELEMENT_LIMIT) (sym long) (fit.most p);
      within =
          numbers_below (slice_index_or f.class.props p any_prop).kind.width p 0 (slice_index ns p)
          (λ i. subst (λ (w : ℕ). a.element p i < 2 ^ w) (width_at f.class.props p lt) (number_fits f a ns sound fit Whole fixed is p i));
    },
  )
    where
      long : length (row p) ≡ slice_index ns p
      long = length-map-range_with_len (λ i. a.element p i) 0 (slice_index ns p)

  rows_fit : (t : ℕ → Bool) (k n : ℕ) → k + n ≤ length f.class.props → All (FitsPlace f.class.props) (numbers_read ns a (filter t (range_with_len k n)))
  rows_fit t k zero le = All-nil (FitsPlace f.class.props)
  rows_fit t k (suc n) le = by_test (t k) refl (rows_fit t (k + 1) n (omega (arith, le)))
    where
      by_test : (b : Bool) → t k ≡ b → All (FitsPlace f.class.props) (numbers_read ns a (filter t (range_with_len (k + 1) n))) → All (FitsPlace f.class.props) (numbers_read ns a (filter t (range_with_len k (suc n))))
      by_test true e rest = rw e (All-cons (FitsPlace f.class.props) (record { prop = k; numbers = row k }) (numbers_read ns a (filter t (range_with_len (k + 1) n))) (row_fits k (omega (arith, le))) rest)
      by_test false e rest = rw e rest

  -- ---- each property once

  props_read : (ps : List ℕ) → fitting.props_of (numbers_read ns a ps) ≡ ps
  props_read [] = refl
  props_read (p ∷ ps) = ap (λ (qs : List ℕ). p ∷ qs) (props_read ps)

  pub numbers_fit : (used : List Replacement) → UsedFit f.class used → FitsChange f.class (record { values = numbers_read ns a (random_props f); used = used })
  numbers_fit used h = record {
    values = rows_fit (is_random f) 0 (length f.class.props) (omega arith);
    values_once = subst AreDistinct (sym (props_read (random_props f))) (once (is_random f) 0 (length f.class.props));
    used = h.props;
    rising = h.rising;
    used_once = h.once;
  }

-- ---- a change that fits can be written

pub can_be_written : (flat : FlatTerm) (change : Option Change) → FitsIfChanged flat change → CanBeWritten change
can_be_written flat None h = tt
can_be_written flat (Some change) h = (change_short flat change h, h.rising)

-- ---- the object behind a change

there_is : (objects : List (Option ObjectTerm)) (o : ℕ) → IsSome (slice_index_or objects o None) → o < length objects
there_is [] o h = absurd (cc)
there_is (x ∷ objects) zero h = omega arith
there_is (x ∷ objects) (suc o) h = let rest = there_is objects o h in omega (arith, rest)

pub changed_fits : (flat : FlatTerm) (w : WorldTerm) (o : ℕ) (change : Option Change) → IsMade w o → FitsIfChanged flat change → FitsClass flat (object_of w o) → FitsClass flat (object_of (changed w o change) o)
changed_fits flat w o None made h fits = fits
changed_fits flat w o (Some change) made h fits =
    subst (FitsClass flat) (sym (this_object w o change (there_is w.objects o made))) (object_with_fits flat (object_of w o) change fits h)
