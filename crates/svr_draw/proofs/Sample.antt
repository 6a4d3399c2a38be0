-- The frame of the tests is sound, and sizes that leave its scalar alone fit it.
use Rattle.std.proofs.Common.{◌≡◌, ◌<◌, ◌≤◌, ◌^◌, ℕ, zero, suc, true, false, refl, List, [], ◌∷◌, length, arith, lit<, lit≤}
use Rattle.std.specs.Prelude.{slice_index, slice_index_or}
use Rattle.std.proofs.lemmas.List.Elements.{All-nil, All-cons}
use Rattle.svr_typed.specs.declared.class.Prop.{Prop}
use Rattle.svr_eval.specs.Reading.{reading_of}
use Rattle.svr_frame.specs.Frame.{width_of, is_random, can_be_random, has_free_size, is_dynamic, state_sizes}
use Rattle.svr_frame.specs.Sound.{IsEnum, IsProp, SizeIsOf, StateIsSound, IsSound, SizesFit}
use Rattle.svr_frame.specs.Examples.{rand_of, dynamic_of}
use Rattle.svr_draw.specs.Examples.{sample_frame}

can_vary : (p : ℕ) → is_random sample_frame p ≡ true → can_be_random sample_frame p ≡ true
can_vary zero h = refl
can_vary (suc zero) h = refl
can_vary (suc (suc p)) h = cc

is_free : (p : ℕ) → has_free_size sample_frame p ≡ true → (is_random sample_frame p ≡ true) × (is_dynamic sample_frame p ≡ true)
is_free zero h = cc
is_free (suc zero) h = (refl, refl)
is_free (suc (suc p)) h = absurd (cc)

long : (p : ℕ) → length (slice_index_or sample_frame.state.values p []) ≡ slice_index sample_frame.state.sizes p
long zero = refl
long (suc zero) = refl
long (suc (suc p)) = refl

of_kind : (p : ℕ) (d : Prop) → p < length sample_frame.class.props → SizeIsOf (slice_index_or sample_frame.class.props p d).array (slice_index sample_frame.state.sizes p)
of_kind zero d h = refl
of_kind (suc zero) d h = lit≤ tt
of_kind (suc (suc p)) d h = absurd (omega arith)

below : (p i : ℕ) → (reading_of sample_frame.state).element p i < 2 ^ width_of sample_frame p
below zero zero = lit< tt
below zero (suc i) = lit< tt
below (suc zero) i = lit< tt
below (suc (suc p)) i = lit< tt

scalar_is : IsProp [] (rand_of 8)
scalar_is = record { inner = lit≤ tt; wide = (lit≤ tt, lit≤ tt); named = tt; cyclic = λ h. cc }

array_is : IsProp [] (dynamic_of 8)
array_is = record { inner = lit≤ tt; wide = (lit≤ tt, lit≤ tt); named = tt; cyclic = λ h. cc }

pub sample_is_sound : IsSound sample_frame
sample_is_sound = record {
  properties = lit≤ tt;
  arrays = lit≤ tt;
  types = All-nil IsEnum;
  props = All-cons (IsProp []) (rand_of 8) (dynamic_of 8 ∷ []) scalar_is (All-cons (IsProp []) (dynamic_of 8) [] array_is (All-nil (IsProp [])));
  random = refl;
  can = can_vary;
  free_size = refl;
  free = is_free;
  state = record { values = refl; sizes = refl; long = long; of_kind = of_kind; below = below };
  typed = tt;
  read = tt;
  targets = tt;
  items = tt;
}

most : (n : ℕ) → n ≤ 2048 → (p : ℕ) → slice_index (1 ∷ n ∷ []) p ≤ 2048
most n h zero = lit≤ tt
most n h (suc zero) = h
most n h (suc (suc p)) = lit≤ tt

same : (n p : ℕ) → has_free_size sample_frame p ≡ false → slice_index (1 ∷ n ∷ []) p ≡ slice_index (state_sizes sample_frame) p
same n zero h = refl
same n (suc zero) h = cc
same n (suc (suc p)) h = refl

pub sample_sizes_fit : (n : ℕ) → n ≤ 2048 → SizesFit sample_frame (1 ∷ n ∷ [])
sample_sizes_fit n h = record { long = refl; most = most n h; same = same n }
