-- Marking one property after the other, in place.
use Rattle.std.proofs.Common.{◌≡◌, ℕ, zero, suc, ◌+◌, List, [], ◌∷◌, map, length, Some, refl, sym, ap, ◌∙◌, arith}
use Rattle.std.specs.Prelude.{slice_get}
use Rattle.std.specs.Map.{values_of}
use Rattle.std.proofs.lemmas.List.{length-map}
use Rattle.indexmap.specs.Layout.{set_value_at, length-set_value_at}
use Rattle.svr_elab_names.specs.declared.PropEntry.{PropEntry}
use Rattle.svr_elab_names.specs.Names.{PropName}
use Rattle.svr_elab_names.specs.declared.Property.{Property}
use Rattle.svr_elab_names.specs.Tables.{Key, prop_of}
use Rattle.svr_elab_random.specs.declared.random.Home.{Home}
use Rattle.svr_elab_random.specs.Random.{listed, with_list}

module _ (f : PropName → PropName) where
  -- the first of them marked, the others as they were
  abbrev pub first_marked : ℕ → List PropName → List PropName
  first_marked zero ps = ps
  first_marked (suc i) [] = []
  first_marked (suc i) (p ∷ ps) = f p ∷ first_marked i ps

  pub all_marked : (n : ℕ) (ps : List PropName) → n ≡ length ps → first_marked n ps ≡ map f ps
  all_marked zero [] h = refl
  all_marked zero (p ∷ ps) h = absurd (omega (arith, h))
  all_marked (suc n) [] h = absurd (omega (arith, h))
  all_marked (suc n) (p ∷ ps) h = ap (λ (ps : List PropName). f p ∷ ps) (all_marked n ps (omega (arith, h)))

  abbrev Turns : PropEntry → PropEntry → Type 0
  Turns v w = (k : Key) → prop_of (k, w) ≡ f (prop_of (k, v))

  some_is : {A : Type 0} (x y : A) → Some x ≡ Some y → x ≡ y
  some_is {A = A} x y h = cc

  no_cons : (p : PropName) (ps : List PropName) → p ∷ ps ≡ [] → ⊥
  no_cons p ps h = cc

  head_is : (p q : PropName) (ps qs : List PropName) → p ∷ ps ≡ q ∷ qs → p ≡ q
  head_is p q ps qs h = cc

  tail_is : (p q : PropName) (ps qs : List PropName) → p ∷ ps ≡ q ∷ qs → ps ≡ qs
  tail_is p q ps qs h = cc

  -- one more is marked
  pub next_marked : (i : ℕ) (es : List (Key × PropEntry)) (ps : List PropName) (v w : PropEntry)
      → map prop_of es ≡ first_marked i ps → slice_get (values_of es) i ≡ Some v → Turns v w → map prop_of (set_value_at es i w) ≡ first_marked (suc i) ps
  next_marked i [] ps v w h g t = absurd (let e : slice_get [] i ≡ Some v = g in cc)
  next_marked zero (e ∷ es) ps v w h g t =
      ap (λ (p : PropName). p ∷ map prop_of es) (t e.0 ∙ ap (λ (v : PropEntry). f (prop_of (e.0, v))) (sym (some_is e.1 v g)))
      ∙ ap (λ (ps : List PropName). first_marked (suc zero) ps) h
  next_marked (suc i) (e ∷ es) [] v w h g t = absurd (no_cons (prop_of e) (map prop_of es) h)
  next_marked (suc i) (e ∷ es) (p ∷ ps) v w h g t =
      ap (λ (q : PropName). q ∷ map prop_of (set_value_at es i w)) (head_is (prop_of e) (f p) (map prop_of es) (first_marked i ps) h)
      ∙ ap (λ (qs : List PropName). f p ∷ qs) (next_marked i es ps v w (tail_is (prop_of e) (f p) (map prop_of es) (first_marked i ps) h) g t)

turned : (hs : List Home) (v w : PropEntry) → w.property ≡ listed hs v.property → w.first ≡ v.first → (k : Key) → prop_of (k, w) ≡ with_list hs (prop_of (k, v))
turned hs v w e f k =
    ap (λ (p : Property). record { name = k.now; property = p; first = w.first }) e
    ∙ ap (λ (n : ℕ). record { name = k.now; property = listed hs v.property; first = n }) f

pub marked_more : (hs : List Home) (i : ℕ) (es ds : List (Key × PropEntry)) (ps : List PropName) (v w : PropEntry)
    → map prop_of es ≡ first_marked (with_list hs) i ps → slice_get (values_of es) i ≡ Some v → w.property ≡ listed hs v.property → w.first ≡ v.first
    → ds ≡ set_value_at es i w → map prop_of ds ≡ first_marked (with_list hs) (i + 1) ps
marked_more hs i es ds ps v w h g e f d =
    ap (λ (es : List (Key × PropEntry)). map prop_of es) d
    ∙ next_marked (with_list hs) i es ps v w h g (turned hs v w e f)
    ∙ ap (λ (n : ℕ). first_marked (with_list hs) n ps) (let e : suc i ≡ i + 1 = omega arith in e)

pub as_many : (i : ℕ) (es ds : List (Key × PropEntry)) (w : PropEntry) (n : ℕ) → ds ≡ set_value_at es i w → length es ≡ n → length ds ≡ n
as_many i es ds w n d h = ap (λ (es : List (Key × PropEntry)). length es) d ∙ length-set_value_at es i w ∙ h

pub marked_all : (hs : List Home) (n : ℕ) (es fs : List (Key × PropEntry)) → n ≡ length fs → map prop_of es ≡ first_marked (with_list hs) n (map prop_of fs)
    → map prop_of es ≡ map (with_list hs) (map prop_of fs)
marked_all hs n es fs h m = m ∙ all_marked (with_list hs) n (map prop_of fs) (h ∙ sym (length-map fs prop_of))
