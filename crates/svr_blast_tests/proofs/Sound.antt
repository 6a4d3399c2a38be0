-- The sample can be a call.
use Rattle.std.proofs.Common.{◌≡◌, ◌<◌, ◌≤◌, ◌^◌, ℕ, zero, suc, Bool, true, false, refl, List, [], ◌∷◌, length, arith, lit<, lit≤}
use Rattle.std.specs.Prelude.{⊤, slice_index, slice_index_or}
use Rattle.std.proofs.lemmas.List.Elements.{All-nil, All-cons}
use Rattle.svr_typed.specs.declared.class.Prop.{Prop}
use Rattle.svr_eval.specs.Reading.{reading_of}
use Rattle.svr_frame.specs.Frame.{is_random, is_dynamic, can_be_random, has_free_size, width_of}
use Rattle.svr_frame.specs.Sound.{IsEnum, IsProp, SizeIsOf, IsSound, SizesFit}
use Rattle.svr_blast_tests.specs.Sample.{scalar_prop, row_prop, table_prop, dynamic_prop, sample_sizes, sample_frame}

can_vary : (p : ℕ) → is_random sample_frame p ≡ true → can_be_random sample_frame p ≡ true
can_vary zero h = refl
can_vary (suc zero) h = refl
can_vary (suc (suc zero)) h = refl
can_vary (suc (suc (suc zero))) h = refl
can_vary (suc (suc (suc (suc zero)))) h = refl
can_vary (suc (suc (suc (suc (suc zero))))) h = refl
can_vary (suc (suc (suc (suc (suc (suc p)))))) h = cc

is_free : (p : ℕ) → has_free_size sample_frame p ≡ true → (is_random sample_frame p ≡ true) × (is_dynamic sample_frame p ≡ true)
is_free zero h = absurd (cc)
is_free (suc zero) h = absurd (cc)
is_free (suc (suc zero)) h = absurd (cc)
is_free (suc (suc (suc zero))) h = absurd (cc)
is_free (suc (suc (suc (suc zero)))) h = absurd (cc)
is_free (suc (suc (suc (suc (suc zero))))) h = (refl, refl)
is_free (suc (suc (suc (suc (suc (suc p)))))) h = absurd (cc)

long : (p : ℕ) → length (slice_index_or sample_frame.state.values p []) ≡ slice_index sample_frame.state.sizes p
long zero = refl
long (suc zero) = refl
long (suc (suc zero)) = refl
long (suc (suc (suc zero))) = refl
long (suc (suc (suc (suc zero)))) = refl
long (suc (suc (suc (suc (suc zero))))) = refl
long (suc (suc (suc (suc (suc (suc p)))))) = refl

of_kind : (p : ℕ) (d : Prop) → p < length sample_frame.class.props → SizeIsOf (slice_index_or sample_frame.class.props p d).array (slice_index sample_frame.state.sizes p)
of_kind zero d h = refl
of_kind (suc zero) d h = refl
of_kind (suc (suc zero)) d h = refl
of_kind (suc (suc (suc zero))) d h = (refl, lit≤ tt)
of_kind (suc (suc (suc (suc zero)))) d h = (refl, lit≤ tt)
of_kind (suc (suc (suc (suc (suc zero))))) d h = lit≤ tt
of_kind (suc (suc (suc (suc (suc (suc p)))))) d h = absurd (omega arith)

zero_below : (w i : ℕ) → 0 < w → slice_index (0 ∷ []) i < w
zero_below w zero h = h
zero_below w (suc i) h = h

row_below : (i : ℕ) → slice_index (1 ∷ 2 ∷ 3 ∷ []) i < 4
row_below zero = lit< tt
row_below (suc zero) = lit< tt
row_below (suc (suc zero)) = lit< tt
row_below (suc (suc (suc i))) = lit< tt

table_below : (i : ℕ) → slice_index (0 ∷ 0 ∷ 0 ∷ 0 ∷ []) i < 2
table_below zero = lit< tt
table_below (suc zero) = lit< tt
table_below (suc (suc zero)) = lit< tt
table_below (suc (suc (suc zero))) = lit< tt
table_below (suc (suc (suc (suc i)))) = lit< tt

pub below : (p i : ℕ) → (reading_of sample_frame.state).element p i < 2 ^ width_of sample_frame p
below zero i = zero_below 16 i (lit< tt)
below (suc zero) i = zero_below 16 i (lit< tt)
below (suc (suc zero)) i = zero_below 16 i (lit< tt)
below (suc (suc (suc zero))) i = row_below i
below (suc (suc (suc (suc zero)))) i = table_below i
below (suc (suc (suc (suc (suc zero))))) i = lit< tt
below (suc (suc (suc (suc (suc (suc p)))))) i = lit< tt

scalar_is : IsProp [] scalar_prop
scalar_is = record { inner = lit≤ tt; wide = (lit≤ tt, lit≤ tt); named = tt; cyclic = λ h. cc }

row_is : IsProp [] row_prop
row_is = record { inner = lit≤ tt; wide = (lit≤ tt, lit≤ tt); named = tt; cyclic = λ h. cc }

table_is : IsProp [] table_prop
table_is = record { inner = lit≤ tt; wide = (lit≤ tt, lit≤ tt); named = tt; cyclic = λ h. cc }

dynamic_is : IsProp [] dynamic_prop
dynamic_is = record { inner = lit≤ tt; wide = (lit≤ tt, lit≤ tt); named = tt; cyclic = λ h. cc }

pub sample_is_sound : IsSound sample_frame
sample_is_sound = record {
  properties = lit≤ tt;
  arrays = lit≤ tt;
  types = All-nil IsEnum;
  props = All-cons (IsProp []) scalar_prop (scalar_prop ∷ scalar_prop ∷ row_prop ∷ table_prop ∷ dynamic_prop ∷ []) scalar_is
      (All-cons (IsProp []) scalar_prop (scalar_prop ∷ row_prop ∷ table_prop ∷ dynamic_prop ∷ []) scalar_is
      (All-cons (IsProp []) scalar_prop (row_prop ∷ table_prop ∷ dynamic_prop ∷ []) scalar_is
      (All-cons (IsProp []) row_prop (table_prop ∷ dynamic_prop ∷ []) row_is
      (All-cons (IsProp []) table_prop (dynamic_prop ∷ []) table_is
      (All-cons (IsProp []) dynamic_prop [] dynamic_is (All-nil (IsProp [])))))));
  random = refl;
  can = can_vary;
  free_size = refl;
  free = is_free;
  state = record { values = refl; sizes = refl; long = long; of_kind = of_kind; below = below };
  typed = tt;
  read = tt;
  targets = tt;
  items = tt;
}

most : (p : ℕ) → slice_index sample_sizes p ≤ 2048
most zero = lit≤ tt
most (suc zero) = lit≤ tt
most (suc (suc zero)) = lit≤ tt
most (suc (suc (suc zero))) = lit≤ tt
most (suc (suc (suc (suc zero)))) = lit≤ tt
most (suc (suc (suc (suc (suc zero))))) = lit≤ tt
most (suc (suc (suc (suc (suc (suc p)))))) = lit≤ tt

pub sample_sizes_fit : SizesFit sample_frame sample_sizes
sample_sizes_fit = record { long = refl; most = most; same = λ p h. refl }
