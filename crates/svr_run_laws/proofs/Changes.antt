-- What an answer 1 changes fits objects of the class: numbers fit their properties, and used values rise.
use Rattle.std.proofs.Common.{◌≡◌, ◌<◌, ◌≤◌, ◌+◌, ℕ, zero, suc, Bool, true, false, cond, refl, sym, subst, List, [], ◌∷◌, ◌++◌, length, arith}
use Rattle.std.specs.Prelude.{filter, nat_lt, slice_index, slice_index_or, ⊤}
use Rattle.std.specs.List.{All, range_with_len}
use Rattle.std.specs.List.Sorted.{IsStrictlyIncreasing}
use Rattle.std.proofs.lemmas.Bool.{ltb-true}
use Rattle.std.proofs.lemmas.List.Elements.{All-nil, All-cons, All-head, All-tail, All-append}
use Rattle.std.proofs.lemmas.List.Kept.{IsStrictlyIncreasing-filter}
use Rattle.svr_eval.specs.Reading.{Reading}
use Rattle.svr_world.specs.declared.change.Change.{Change}
use Rattle.svr_world.specs.declared.change.Replacement.{Replacement}
use Rattle.svr_world.specs.Fits.{FitsPlace, AreDistinct, AreRising, FitsChange}
use Rattle.svr_world.specs.Fits as fitting
use Rattle.svr_world.proofs.Short.{none_rises, rising_at}
use Rattle.svr_frame.specs.declared.part.Part.TheVariants as part
use Rattle.svr_frame.specs.Frame.{FrameTerm, is_cyclic}
use Rattle.svr_frame.specs.Satisfaction.{IsAssignment}
use Rattle.svr_frame.specs.Sound.{IsSound, SizesFit}
use Rattle.svr_encoded.specs.declared.encoded.Encoded.{Encoded}
use Rattle.svr_phase.specs.declared.choice.Choice.{Choice}
use Rattle.svr_phase.specs.declared.proof.Renewed.{Renewed}
use Rattle.svr_phase.specs.Cyclic.{fixed_of, inserted, used_after}
use Rattle.svr_phase.specs.Ends.{Call, cyclic_props, cycles_of}
use Rattle.svr_phase.proofs.Preferred.{preferred_with_is}
use Rattle.svr_phase.proofs.Allowed.{has_sizes_fit}
use Rattle.svr_call.specs.declared.outcome.Dropped.{Dropped}
use Rattle.svr_call.specs.Call.{numbers_read, random_props, preferred, new_used, Gives, as_preferred, as_solved, IsOne}
use Rattle.svr_call.proofs.Changes.{passed, replaces_cyclic}
use Rattle.svr_cyclic.specs.Ends.{UsedFit}
use Rattle.svr_randomize.proofs.Changes.{numbers_fit}
use Rattle.svr_run_laws.proofs.Classes.{all_to}

-- ---- lists that rise

abbrev Rises : List ℕ → Type 0
Rises [] = ⊤
Rises (x ∷ xs) = All (λ y. x < y) xs × Rises xs

behind_first : (x y : ℕ) (ys : List ℕ) → IsStrictlyIncreasing (x ∷ y ∷ ys) → IsStrictlyIncreasing (y ∷ ys)
behind_first x y ys h k less =
    let e : suc k + 1 ≡ suc (k + 1) = omega arith in
    subst (λ (n : ℕ). slice_index (y ∷ ys) k < slice_index (x ∷ y ∷ ys) n) e (h (suc k) (omega (arith, less)))

greater : (x y : ℕ) (ys : List ℕ) → x < y → All (λ z. y < z) ys → All (λ z. x < z) ys
greater x y ys h all = all_to (λ z. y < z) (λ z. x < z) (λ z k. omega (arith, h, k)) ys all

to_rises : (xs : List ℕ) → IsStrictlyIncreasing xs → Rises xs
to_rises [] h = tt
to_rises (x ∷ []) h = (All-nil (λ y. x < y), tt)
to_rises (x ∷ y ∷ ys) h =
    let rest : Rises (y ∷ ys) = to_rises (y ∷ ys) (behind_first x y ys h) in
    let less : x < y = h 0 (omega arith) in
    (All-cons (λ z. x < z) y ys less (greater x y ys less rest.0), rest)

from_rises : (xs : List ℕ) → Rises xs → IsStrictlyIncreasing xs
from_rises [] h k less = absurd (omega (arith, less))
from_rises (x ∷ []) h k less = absurd (omega (arith, less))
from_rises (x ∷ y ∷ ys) h zero less = All-head (λ z. x < z) y ys h.0
from_rises (x ∷ y ∷ ys) h (suc k) less =
    let e : suc (k + 1) ≡ suc k + 1 = omega arith in
    subst (λ (n : ℕ). slice_index (y ∷ ys) k < slice_index (x ∷ y ∷ ys) n) e (from_rises (y ∷ ys) h.1 k (omega (arith, less)))

joined : (xs : List ℕ) (v : ℕ) (ys : List ℕ) → Rises xs → All (λ u. u < v) xs → Rises ys → All (λ u. v < u) ys → Rises (xs ++ v ∷ ys)
joined [] v ys rx low ry high = (high, ry)
joined (x ∷ xs) v ys rx low ry high =
    let less : x < v = All-head (λ u. u < v) x xs low in (
      All-append (λ u. x < u) xs (v ∷ ys) rx.0 (All-cons (λ u. x < u) v ys less (greater x v ys less high)),
      joined xs v ys rx.1 (All-tail (λ u. u < v) x xs low) ry high,
    )

passing : (t : ℕ → Bool) (P : ℕ → Type 0) → ((u : ℕ) → t u ≡ true → P u) → (us : List ℕ) → All P (filter t us)
passing t P f [] = All-nil P
passing t P f (u ∷ us) = by_test (t u) refl (passing t P f us)
  where
    by_test : (b : Bool) → t u ≡ b → All P (filter t us) → All P (filter t (u ∷ us))
    by_test true e rest = rw e (All-cons P u (filter t us) (f u e) rest)
    by_test false e rest = rw e rest

inserted_rises : (v : ℕ) (vs : List ℕ) → IsStrictlyIncreasing vs → IsStrictlyIncreasing (inserted v vs)
inserted_rises v vs h =
    let below : List ℕ = filter (λ u. nat_lt u v) vs in
    let above : List ℕ = filter (λ u. nat_lt v u) vs in
    from_rises (inserted v vs)
    (joined below v above (to_rises below (IsStrictlyIncreasing-filter (λ u. nat_lt u v) vs h)) (passing (λ u. nat_lt u v) (λ u. u < v) (λ u e. ltb-true u v e) vs)
    (to_rises above (IsStrictlyIncreasing-filter (λ u. nat_lt v u) vs h)) (passing (λ u. nat_lt v u) (λ u. v < u) (λ u e. ltb-true v u e) vs))

used_rises : (used : List ℕ) (x : Choice) → IsStrictlyIncreasing used → IsStrictlyIncreasing (used_after used x)
used_rises used x h = inserted_rises x.value (cond x.cycle [] used) (either x.cycle)
  where
    either : (b : Bool) → IsStrictlyIncreasing (cond b [] used)
    either true = none_rises
    either false = h

-- ---- the places of a range that pass a test

above_all : (t : ℕ → Bool) (p k n : ℕ) → p < k → All (λ q. p ≡ q → ⊥) (filter t (range_with_len k n))
above_all t p k zero less = All-nil (λ q. p ≡ q → ⊥)
above_all t p k (suc n) less = by_test (t k) refl (above_all t p (k + 1) n (omega (arith, less)))
  where
    by_test : (b : Bool) → t k ≡ b → All (λ q. p ≡ q → ⊥) (filter t (range_with_len (k + 1) n)) → All (λ q. p ≡ q → ⊥) (filter t (range_with_len k (suc n)))
    by_test true e rest = rw e (All-cons (λ q. p ≡ q → ⊥) k (filter t (range_with_len (k + 1) n)) (λ s. absurd (omega (arith, less, s))) rest)
    by_test false e rest = rw e rest

once : (t : ℕ → Bool) (k n : ℕ) → AreDistinct (filter t (range_with_len k n))
once t k zero = tt
once t k (suc n) = by_test (t k) refl (once t (k + 1) n)
  where
    by_test : (b : Bool) → t k ≡ b → AreDistinct (filter t (range_with_len (k + 1) n)) → AreDistinct (filter t (range_with_len k (suc n)))
    by_test true e rest = rw e (above_all t k (k + 1) n (omega arith), rest)
    by_test false e rest = rw e rest

in_range : (t : ℕ → Bool) (k n m : ℕ) → k + n ≤ m → All (λ q. q < m) (filter t (range_with_len k n))
in_range t k zero m le = All-nil (λ q. q < m)
in_range t k (suc n) m le = by_test (t k) refl (in_range t (k + 1) n m (omega (arith, le)))
  where
    by_test : (b : Bool) → t k ≡ b → All (λ q. q < m) (filter t (range_with_len (k + 1) n)) → All (λ q. q < m) (filter t (range_with_len k (suc n)))
    by_test true e rest = rw e (All-cons (λ q. q < m) k (filter t (range_with_len (k + 1) n)) (omega (arith, le)) rest)
    by_test false e rest = rw e rest

props_below : (m : ℕ) (rs : List Replacement) → All (λ q. q < m) (fitting.props_of rs) → All (λ (r : Replacement). r.prop < m) rs
props_below m [] h = All-nil (λ (r : Replacement). r.prop < m)
props_below m (r ∷ rs) h = All-cons (λ (r : Replacement). r.prop < m) r rs (All-head (λ q. q < m) r.prop (fitting.props_of rs) h) (props_below m rs (All-tail (λ q. q < m) r.prop (fitting.props_of rs) h))

new_used_rise : (c : Call) (xs : List Choice) → All IsStrictlyIncreasing c.used → AreRising (new_used c xs)
new_used_rise c [] h = All-nil (λ (r : Replacement). IsStrictlyIncreasing r.numbers)
new_used_rise c (x ∷ xs) h =
    All-cons (λ (r : Replacement). IsStrictlyIncreasing r.numbers) (record { prop = x.prop; numbers = used_after (slice_index_or c.used x.prop []) x }) (new_used c xs)
    (used_rises (slice_index_or c.used x.prop []) x (rising_at c.used x.prop h)) (new_used_rise c xs h)

-- ---- the change

module _ (c : Call) (sound : IsSound c.frame) (le : c.cap ≤ 2048) where
  abbrev f : FrameTerm
  f = c.frame

  none_used : UsedFit f.class []
  none_used = record {
    props = All-nil (λ (r : Replacement). r.prop < length f.class.props);
    rising = All-nil (λ (r : Replacement). IsStrictlyIncreasing r.numbers);
    once = tt;
  }

  -- the numbers are those of an assignment
  abbrev HasNumbers : Change → Type 0
  HasNumbers change = (All (FitsPlace f.class.props) change.values) × AreDistinct (fitting.props_of change.values)

  read_fits : (change : Change) (sizes : List ℕ) (fixed : List (ℕ × ℕ)) (a : Reading) → SizesFit f sizes → IsAssignment f part.All sizes fixed a → change.values ≡ numbers_read sizes a (random_props f) → HasNumbers change
  read_fits change sizes fixed a fit is e =
      let h = numbers_fit f sizes sound fit fixed a is [] none_used in (
        subst (λ (rs : List Replacement). All (FitsPlace f.class.props) rs) (sym e) h.values,
        subst (λ (rs : List Replacement). AreDistinct (fitting.props_of rs)) (sym e) h.values_once,
      )

  given_fits : (change : Change) (choices : List Choice) (sizes : List ℕ) (fates : List Bool) → SizesFit f sizes
      → IsAssignment f part.All sizes (fixed_of choices) (preferred c choices sizes) → Gives c choices sizes fates change.values → HasNumbers change
  given_fits change choices sizes fates fit wanted (as_preferred fits kept numbers) = read_fits change sizes (fixed_of choices) (preferred c choices sizes) fit wanted numbers
  given_fits change choices sizes fates fit wanted (as_solved misses a solution numbers) = read_fits change sizes (fixed_of choices) a fit solution.fits numbers

  pub one_fits : (kept : List ℕ) (dropped : List Dropped) (cycles : List Renewed) (encodings : List Encoded) (change : Change) → All IsStrictlyIncreasing c.used → IsOne c kept dropped cycles encodings change → FitsChange f.class change
  one_fits kept dropped cycles encodings change rising is =
      let fit = has_sizes_fit c is.choices is.sizes sound le is.reached.sized in
      let chosen = (passed c is.choices is.sizes is.reached.sized).chosen in
      let wanted = preferred_with_is f is.sizes sound fit c.cap le c.words (cycles_of c) is.choices chosen in
      let values = given_fits change is.choices is.sizes is.fates fit wanted is.gives in
      let cyclic : fitting.props_of change.used ≡ cyclic_props f = replaces_cyclic c kept dropped cycles encodings change is in
      record {
        values = values.0;
        values_once = values.1;
        used = props_below (length f.class.props) change.used
            (subst (λ (ps : List ℕ). All (λ q. q < length f.class.props) ps) (sym cyclic) (in_range (is_cyclic f) 0 (length f.class.props) (length f.class.props) (omega arith)));
        rising = subst AreRising (sym is.uses) (new_used_rise c is.choices rising);
        used_once = subst AreDistinct (sym cyclic) (once (is_cyclic f) 0 (length f.class.props));
      }
