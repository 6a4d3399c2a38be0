-- The sample can be a call.
use Rattle.std.proofs.Common.{◌≡◌, ◌<◌, ◌≤◌, ◌^◌, ℕ, zero, suc, true, refl, [], ◌∷◌, length, arith, inl, lit<, lit≤}
use Rattle.std.specs.Prelude.{slice_index, slice_index_or}
use Rattle.std.proofs.lemmas.List.Elements.{All-nil, All-cons}
use Rattle.svr_typed.specs.declared.class.Prop.{Prop}
use Rattle.svr_eval.specs.Reading.{reading_of}
use Rattle.svr_eval.specs.Typed.{IsTyped}
use Rattle.svr_eval.specs.Examples.{int}
use Rattle.svr_eval.specs.Holds.{ItemsAreTyped, ItemsCanRead}
use Rattle.svr_frame.specs.Frame.{is_random, is_dynamic, can_be_random, has_free_size, width_of}
use Rattle.svr_frame.specs.Sound.{IsEnum, IsProp, SizeIsOf, ItemsAreIn, IsSound, SizesFit}
use Rattle.svr_frame.specs.Examples.{at_, equal, k0}
use Rattle.svr_expand_tests.specs.Sample.{sample_prop, sample_frame}

can_vary : (p : ℕ) → is_random sample_frame p ≡ true → can_be_random sample_frame p ≡ true
can_vary zero h = refl
can_vary (suc p) h = cc

is_free : (p : ℕ) → has_free_size sample_frame p ≡ true → (is_random sample_frame p ≡ true) × (is_dynamic sample_frame p ≡ true)
is_free zero h = absurd (cc)
is_free (suc p) h = absurd (cc)

long : (p : ℕ) → length (slice_index_or sample_frame.state.values p []) ≡ slice_index sample_frame.state.sizes p
long zero = refl
long (suc p) = refl

of_kind : (p : ℕ) (d : Prop) → p < length sample_frame.class.props → SizeIsOf (slice_index_or sample_frame.class.props p d).array (slice_index sample_frame.state.sizes p)
of_kind zero d h = (refl, lit≤ tt)
of_kind (suc p) d h = absurd (omega arith)

zeros_below : (w i : ℕ) → 0 < w → slice_index (0 ∷ 0 ∷ 0 ∷ []) i < w
zeros_below w zero h = h
zeros_below w (suc zero) h = h
zeros_below w (suc (suc zero)) h = h
zeros_below w (suc (suc (suc i))) h = h

below : (p i : ℕ) → (reading_of sample_frame.state).element p i < 2 ^ width_of sample_frame p
below zero i = zeros_below 4 i (lit< tt)
below (suc p) i = lit< tt

array_is : IsProp [] sample_prop
array_is = record { inner = lit≤ tt; wide = (lit≤ tt, lit≤ tt); named = tt; cyclic = λ h. cc }

equal_typed : IsTyped (equal (at_ 2 0 k0) (int 0))
equal_typed = (lit≤ tt, lit≤ tt, refl, refl, ((lit≤ tt, lit≤ tt, refl, refl, (lit≤ tt, lit≤ tt, refl, refl, tt)), (lit≤ tt, lit≤ tt, refl, refl, lit< tt)))

typed : ItemsAreTyped sample_frame.items
typed = (((lit≤ tt, lit≤ tt, refl, refl, tt), tt), ((lit≤ tt, inl refl, ((equal_typed, tt), tt)), tt))

read : ItemsCanRead (reading_of sample_frame.state) 0 sample_frame.items
read = ((below 0, tt), ((lit≤ tt, ((((lit< tt, below 0), tt), tt), tt)), tt))

inside : ItemsAreIn sample_frame sample_frame.items
inside = ((((lit< tt, refl, refl), λ h. refl), tt), ((lit< tt, refl, refl, (((((lit< tt, refl, refl), refl, tt), tt), tt), tt)), tt))

pub sample_is_sound : IsSound sample_frame
sample_is_sound = record {
  properties = lit≤ tt;
  arrays = lit≤ tt;
  types = All-nil IsEnum;
  props = All-cons (IsProp []) sample_prop [] array_is (All-nil (IsProp []));
  random = refl;
  can = can_vary;
  free_size = refl;
  free = is_free;
  state = record { values = refl; sizes = refl; long = long; of_kind = of_kind; below = below };
  typed = typed;
  read = read;
  targets = (tt, ((tt, tt), tt));
  items = inside;
}

most : (p : ℕ) → slice_index (3 ∷ []) p ≤ 2048
most zero = lit≤ tt
most (suc p) = lit≤ tt

pub sample_sizes_fit : SizesFit sample_frame (3 ∷ [])
sample_sizes_fit = record { long = refl; most = most; same = λ p h. refl }
