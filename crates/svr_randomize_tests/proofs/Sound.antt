-- The samples can be calls.
use Rattle.std.proofs.Common.{◌≡◌, ◌<◌, ◌≤◌, ◌^◌, ℕ, zero, suc, Bool, true, false, ◌⊎◌, inl, inr, refl, List, [], ◌∷◌, length, None, replicate, arith, lit<, lit≤}
use Rattle.std.specs.Prelude.{⊤, slice_index, slice_index_or}
use Rattle.std.specs.List.{All}
use Rattle.std.proofs.lemmas.List.Elements.{All-nil, All-cons}
use Rattle.svr_operator.specs.declared.BinOp.{BinOp}
use Rattle.svr_operator.specs.declared.BinOp.TheVariants as bin
use Rattle.svr_typed.specs.declared.class.Prop.{Prop}
use Rattle.svr_typed.specs.ExprTerm.{ExprTerm, typed, binary}
use Rattle.svr_typed.specs.ItemTerm.{ItemTerms, plain, items_of}
use Rattle.svr_eval.specs.Reading.{reading_of}
use Rattle.svr_eval.specs.Typed.{IsTyped, CanRead}
use Rattle.svr_eval.specs.Holds.{ItemsAreTyped, ItemsCanRead}
use Rattle.svr_frame.specs.Frame.{FrameTerm, is_random, is_dynamic, can_be_random, has_free_size, width_of}
use Rattle.svr_frame.specs.Sound.{IsEnum, IsProp, SizeIsOf, ExprIsIn, TargetsCanRead, ItemsAreIn, IsSound}
use Rattle.svr_randomize_tests.specs.declared.form.Form.{Form}
use Rattle.svr_randomize_tests.specs.declared.form.Form.TheVariants as form
use Rattle.svr_randomize_tests.specs.Sample.{byte_prop, row_prop, cyclic_prop, list_prop, byte, length_of, applied, bits, compared, items_for, frame_for}

zeros_below : (n w i : ℕ) → 0 < w → slice_index (replicate n 0) i < w
zeros_below zero w i h = h
zeros_below (suc n) w zero h = h
zeros_below (suc n) w (suc i) h = zeros_below n w i h

zero_below : (w i : ℕ) → 0 < w → slice_index (0 ∷ []) i < w
zero_below w zero h = h
zero_below w (suc i) h = h

module _ (x : Form) where
  abbrev f : FrameTerm
  f = frame_for x

  can_vary : (p : ℕ) → is_random f p ≡ true → can_be_random f p ≡ true
  can_vary zero h = refl
  can_vary (suc zero) h = refl
  can_vary (suc (suc zero)) h = absurd (cc)
  can_vary (suc (suc (suc zero))) h = refl
  can_vary (suc (suc (suc (suc zero)))) h = refl
  can_vary (suc (suc (suc (suc (suc p))))) h = absurd (cc)

  is_free : (p : ℕ) → has_free_size f p ≡ true → (is_random f p ≡ true) × (is_dynamic f p ≡ true)
  is_free zero h = absurd (cc)
  is_free (suc zero) h = absurd (cc)
  is_free (suc (suc zero)) h = absurd (cc)
  is_free (suc (suc (suc zero))) h = absurd (cc)
  is_free (suc (suc (suc (suc zero)))) h = (h, refl)
  is_free (suc (suc (suc (suc (suc p))))) h = absurd (cc)

  long : (p : ℕ) → length (slice_index_or f.state.values p []) ≡ slice_index f.state.sizes p
  long zero = refl
  long (suc zero) = refl
  long (suc (suc zero)) = refl
  long (suc (suc (suc zero))) = refl
  long (suc (suc (suc (suc zero)))) = refl
  long (suc (suc (suc (suc (suc p))))) = refl

  of_kind : (p : ℕ) (d : Prop) → p < length f.class.props → SizeIsOf (slice_index_or f.class.props p d).array (slice_index f.state.sizes p)
  of_kind zero d h = refl
  of_kind (suc zero) d h = refl
  of_kind (suc (suc zero)) d h = (refl, lit≤ tt)
  of_kind (suc (suc (suc zero))) d h = refl
  of_kind (suc (suc (suc (suc zero)))) d h = lit≤ tt
  of_kind (suc (suc (suc (suc (suc p))))) d h = absurd (omega arith)

  below : (p i : ℕ) → (reading_of f.state).element p i < 2 ^ width_of f p
  below zero i = zero_below 256 i (lit< tt)
  below (suc zero) i = zero_below 256 i (lit< tt)
  below (suc (suc zero)) i = zeros_below 200 2 i (lit< tt)
  below (suc (suc (suc zero))) i = zero_below 4 i (lit< tt)
  below (suc (suc (suc (suc zero)))) i = lit< tt
  below (suc (suc (suc (suc (suc p))))) i = lit< tt

  -- ---- expressions

  record IsAsked (e : ExprTerm) : Type 0 where
    pub typed : IsTyped e
    pub inside : ExprIsIn f false e
    pub readable : (depth : ℕ) → CanRead (reading_of f.state) depth e

  first_asked : IsAsked (byte 0)
  first_asked = record { typed = (lit≤ tt, lit≤ tt, refl, refl, tt); inside = ((lit< tt, refl, refl), λ e. e); readable = λ d. below 0 }

  second_asked : IsAsked (byte 1)
  second_asked = record { typed = (lit≤ tt, lit≤ tt, refl, refl, tt); inside = ((lit< tt, refl, refl), λ e. e); readable = λ d. below 1 }

  bits_asked : (w v : ℕ) → 1 ≤ w → w ≤ 64 → v < 2 ^ w → IsAsked (bits w v)
  bits_asked w v low high lt = record { typed = (low, high, refl, refl, lt); inside = tt; readable = λ d. tt }

  length_asked : IsAsked length_of
  length_asked = record { typed = (lit≤ tt, lit≤ tt, refl, refl, lit≤ tt); inside = (lit< tt, refl, refl); readable = λ d. lit< tt }

  sum_asked : IsAsked (applied bin.Add)
  sum_asked = record {
    typed = (lit≤ tt, lit≤ tt, refl, refl, (first_asked.typed, second_asked.typed));
    inside = (first_asked.inside, second_asked.inside);
    readable = λ d. (first_asked.readable d, second_asked.readable d);
  }

  product_asked : IsAsked (applied bin.Multiply)
  product_asked = record {
    typed = (lit≤ tt, lit≤ tt, refl, refl, (first_asked.typed, second_asked.typed));
    inside = (first_asked.inside, second_asked.inside);
    readable = λ d. (first_asked.readable d, second_asked.readable d);
  }

  equal_asked : (l r : ExprTerm) → IsAsked l → IsAsked r → IsAsked (compared bin.Equal l r)
  equal_asked l r h k = record {
    typed = (lit≤ tt, lit≤ tt, refl, refl, (h.typed, k.typed));
    inside = (h.inside, k.inside);
    readable = λ d. (h.readable d, k.readable d);
  }

  unequal_asked : (l r : ExprTerm) → IsAsked l → IsAsked r → IsAsked (compared bin.NotEqual l r)
  unequal_asked l r h k = record {
    typed = (lit≤ tt, lit≤ tt, refl, refl, (h.typed, k.typed));
    inside = (h.inside, k.inside);
    readable = λ d. (h.readable d, k.readable d);
  }

  -- ---- the item

  record AreAsked (is : ItemTerms) : Type 0 where
    pub typed : ItemsAreTyped is
    pub read : ItemsCanRead (reading_of f.state) 0 is
    pub targets : TargetsCanRead (reading_of f.state) 0 is
    pub items : ItemsAreIn f is

  of_sum : IsAsked (compared bin.Equal (applied bin.Add) (bits 16 300))
  of_sum = equal_asked (applied bin.Add) (bits 16 300) sum_asked (bits_asked 16 300 (lit≤ tt) (lit≤ tt) (lit< tt))

  of_product : IsAsked (compared bin.Equal (applied bin.Multiply) (bits 16 257))
  of_product = equal_asked (applied bin.Multiply) (bits 16 257) product_asked (bits_asked 16 257 (lit≤ tt) (lit≤ tt) (lit< tt))

  of_long_product : IsAsked (compared bin.Equal (applied bin.Multiply) (bits 64 257))
  of_long_product = equal_asked (applied bin.Multiply) (bits 64 257) product_asked (bits_asked 64 257 (lit≤ tt) (lit≤ tt) (lit< tt))

  of_first : IsAsked (compared bin.Equal (byte 0) (byte 0))
  of_first = equal_asked (byte 0) (byte 0) first_asked first_asked

  of_none : IsAsked (compared bin.NotEqual (byte 0) (byte 0))
  of_none = unequal_asked (byte 0) (byte 0) first_asked first_asked

  is_number : (v : ℕ) → v < 2 ^ 8 → IsAsked (compared bin.Equal (byte 0) (bits 8 v))
  is_number v lt = equal_asked (byte 0) (bits 8 v) first_asked (bits_asked 8 v (lit≤ tt) (lit≤ tt) lt)

  is_long : (n : ℕ) → n < 2 ^ 32 → IsAsked (compared bin.Equal length_of (bits 32 n))
  is_long n lt = equal_asked length_of (bits 32 n) length_asked (bits_asked 32 n (lit≤ tt) (lit≤ tt) lt)

  of_no_length : IsAsked (compared bin.NotEqual length_of length_of)
  of_no_length = unequal_asked length_of length_of length_asked length_asked

  -- a plain item alone
  one_asked : (soft : Bool) (e : ExprTerm) → IsAsked e → AreAsked (items_of (plain soft e None ∷ []))
  one_asked soft e h = record { typed = ((h.typed, tt), tt); read = ((h.readable 0, tt), tt); targets = (tt, tt); items = ((h.inside, tt), tt) }

  two_asked : (soft : Bool) (e d : ExprTerm) → IsAsked e → IsAsked d → AreAsked (items_of (plain soft e None ∷ plain soft d None ∷ []))
  two_asked soft e d h k = record {
    typed = ((h.typed, tt), ((k.typed, tt), tt));
    read = ((h.readable 0, tt), ((k.readable 0, tt), tt));
    targets = (tt, (tt, tt));
    items = ((h.inside, tt), ((k.inside, tt), tt));
  }

  items_asked : (y : Form) → AreAsked (items_of (items_for y))
  items_asked form.Free = one_asked false (compared bin.Equal (byte 0) (byte 0)) of_first
  items_asked form.Sum = one_asked false (compared bin.Equal (applied bin.Add) (bits 16 300)) of_sum
  items_asked form.Never = one_asked false (compared bin.NotEqual (byte 0) (byte 0)) of_none
  items_asked form.Product = one_asked false (compared bin.Equal (applied bin.Multiply) (bits 16 257)) of_product
  items_asked form.Heavy = record {
    typed = ((lit≤ tt, inl refl, ((of_long_product.typed, tt), tt)), tt);
    read = ((lit≤ tt, ((of_long_product.readable 1, tt), tt)), tt);
    targets = ((tt, tt), tt);
    items = ((lit< tt, refl, refl, ((of_long_product.inside, tt), tt)), tt);
  }
  items_asked form.Soft = one_asked true (compared bin.Equal (byte 0) (bits 8 1)) (is_number 1 (lit< tt))
  items_asked form.Overruled = two_asked true (compared bin.Equal (byte 0) (bits 8 1)) (compared bin.Equal (byte 0) (bits 8 2)) (is_number 1 (lit< tt)) (is_number 2 (lit< tt))
  items_asked form.Cyclic = one_asked false (compared bin.Equal (byte 0) (byte 0)) of_first
  items_asked form.Sized = one_asked false (compared bin.Equal length_of (bits 32 3)) (is_long 3 (lit< tt))
  items_asked form.NoSize = one_asked false (compared bin.NotEqual length_of length_of) of_no_length
  items_asked form.Large = one_asked false (compared bin.Equal length_of (bits 32 17)) (is_long 17 (lit< tt))

  -- ---- the call

  byte_is : IsProp [] byte_prop
  byte_is = record { inner = lit≤ tt; wide = (lit≤ tt, lit≤ tt); named = tt; cyclic = λ h. cc }

  row_is : IsProp [] row_prop
  row_is = record { inner = lit≤ tt; wide = (lit≤ tt, lit≤ tt); named = tt; cyclic = λ h. cc }

  cyclic_is : IsProp [] cyclic_prop
  cyclic_is = record { inner = lit≤ tt; wide = (lit≤ tt, lit≤ tt); named = tt; cyclic = λ h. refl }

  list_is : IsProp [] list_prop
  list_is = record { inner = lit≤ tt; wide = (lit≤ tt, lit≤ tt); named = tt; cyclic = λ h. cc }

  last_are : All (IsProp []) (cyclic_prop ∷ list_prop ∷ [])
  last_are = All-cons (IsProp []) cyclic_prop (list_prop ∷ []) cyclic_is (All-cons (IsProp []) list_prop [] list_is (All-nil (IsProp [])))

  others_are : All (IsProp []) (byte_prop ∷ row_prop ∷ cyclic_prop ∷ list_prop ∷ [])
  others_are = All-cons (IsProp []) byte_prop (row_prop ∷ cyclic_prop ∷ list_prop ∷ []) byte_is (All-cons (IsProp []) row_prop (cyclic_prop ∷ list_prop ∷ []) row_is last_are)

  pub sample_is_sound : IsSound f
  sample_is_sound = record {
    properties = lit≤ tt;
    arrays = lit≤ tt;
    types = All-nil IsEnum;
    props = All-cons (IsProp []) byte_prop (byte_prop ∷ row_prop ∷ cyclic_prop ∷ list_prop ∷ []) byte_is others_are;
    random = refl;
    can = can_vary;
    free_size = refl;
    free = is_free;
    state = record { values = refl; sizes = refl; long = long; of_kind = of_kind; below = below };
    typed = (items_asked x).typed;
    read = (items_asked x).read;
    targets = (items_asked x).targets;
    items = (items_asked x).items;
  }
