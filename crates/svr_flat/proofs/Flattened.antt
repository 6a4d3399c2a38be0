-- The class of a number is that class over its base.
use Rattle.std.proofs.Common.{◌≡◌, ◌<◌, ◌≤◌, ℕ, zero, suc, ◌+◌, Bool, true, false, List, [], ◌∷◌, ◌++◌, Option, Some, None, length, refl, sym, ap, ◌∙◌, subst, arith, slice_get, slice_index_or, length-append, nat_lt, if◌then◌else◌}
use Rattle.std.proofs.lemmas.Bool.Decides.{nat_tests}
use Rattle.svr_typed.specs.ClassTerm.{FlatTerm, ClassTerm}
use Rattle.svr_flat.specs.Flat.{no_class, derived_class, base_of, flat_after, flat_class_of}
use Rattle.svr_flat.specs.Known.{knows, unknown, AreKnown}
use Rattle.svr_flat.specs.Lineage.{below, class_base, base_before, derived_if, class_over, classes_over, flat_if, count_to}

-- ---- places of lists

pub at_front : {A : Type 0} (xs ys : List A) (i : ℕ) (d : A) → i < length xs → slice_index_or (xs ++ ys) i d ≡ slice_index_or xs i d
at_front [] ys i d less = absurd (omega arith)
at_front (x ∷ xs) ys zero d less = refl
at_front (x ∷ xs) ys (suc i) d less = at_front xs ys i d (omega arith)

pub at_end : {A : Type 0} (xs : List A) (y : A) (ys : List A) (d : A) → slice_index_or (xs ++ y ∷ ys) (length xs) d ≡ y
at_end [] y ys d = refl
at_end (x ∷ xs) y ys d = at_end xs y ys d

pub at_outside : {A : Type 0} (xs : List A) (i : ℕ) (d : A) → length xs ≤ i → slice_index_or xs i d ≡ d
at_outside [] i d over = refl
at_outside (x ∷ xs) zero d over = absurd (omega arith)
at_outside (x ∷ xs) (suc i) d over = at_outside xs i d (omega arith)

-- ---- what stands in the list of flat classes

-- what stands before stays
pub stays : (earlier : List FlatTerm) (cs : List ClassTerm) (i : ℕ) → i < length earlier
    → slice_index_or (flat_after earlier cs) i no_class ≡ slice_index_or earlier i no_class
stays earlier [] i less = refl
stays earlier (c ∷ cs) i less =
    let longer : i < length (earlier ++ derived_class (base_of earlier c.base) c ∷ []) = rw length-append (omega arith) in
    stays (earlier ++ derived_class (base_of earlier c.base) c ∷ []) cs i longer
    ∙ at_front earlier (derived_class (base_of earlier c.base) c ∷ []) i no_class less

-- the class behind the earlier ones is over its base
pub next_is : (earlier : List FlatTerm) (c : ClassTerm) (cs : List ClassTerm)
    → slice_index_or (flat_after earlier (c ∷ cs)) (length earlier) no_class ≡ derived_class (base_of earlier c.base) c
next_is earlier c cs =
    let longer : length earlier < length (earlier ++ derived_class (base_of earlier c.base) c ∷ []) = rw length-append (omega arith) in
    stays (earlier ++ derived_class (base_of earlier c.base) c ∷ []) cs (length earlier) longer
    ∙ at_end earlier (derived_class (base_of earlier c.base) c) [] no_class

-- a base that stands before
abbrev pub found_in : List FlatTerm → Option ℕ → FlatTerm
found_in flats None = no_class
found_in flats (Some b) = slice_index_or flats b no_class

tested : (earlier : List FlatTerm) (c : ClassTerm) (cs : List ClassTerm) (b : ℕ) (test : Bool) → nat_lt b (length earlier) ≡ test
    → found_in (flat_after earlier (c ∷ cs)) (if test then Some b else None) ≡ slice_index_or earlier b no_class
tested earlier c cs b true is = stays earlier (c ∷ cs) b (grind (arith, nat_tests))
tested earlier c cs b false is = sym (at_outside earlier b no_class (grind (arith, nat_tests)))

base_found : (earlier : List FlatTerm) (c : ClassTerm) (cs : List ClassTerm) (base : Option ℕ)
    → found_in (flat_after earlier (c ∷ cs)) (below (length earlier) base) ≡ base_of earlier base
base_found earlier c cs None = refl
base_found earlier c cs (Some b) = tested earlier c cs b (nat_lt b (length earlier)) refl

-- each class stands at its number, over its base
pub stands : (earlier : List FlatTerm) (cs : List ClassTerm) (k n : ℕ) → n ≡ length earlier + k
    → slice_index_or (flat_after earlier cs) n no_class ≡ derived_if (found_in (flat_after earlier cs) (below n (class_base (slice_get cs k)))) (slice_get cs k)
stands earlier [] k n at = at_outside earlier n no_class (omega arith)
stands earlier (c ∷ cs) zero n at =
    let here : n ≡ length earlier = omega arith in
    ap (λ m. slice_index_or (flat_after earlier (c ∷ cs)) m no_class) here
    ∙ next_is earlier c cs
    ∙ ap (λ f. derived_class f c) (sym (base_found earlier c cs c.base))
    ∙ ap (λ m. derived_class (found_in (flat_after earlier (c ∷ cs)) (below m c.base)) c) (sym here)
stands earlier (c ∷ cs) (suc k) n at =
    let longer : n ≡ length (earlier ++ derived_class (base_of earlier c.base) c ∷ []) + k = rw length-append (omega arith) in
    stands (earlier ++ derived_class (base_of earlier c.base) c ∷ []) cs k n longer

found_is : (cs : List ClassTerm) (base : Option ℕ) → found_in (flat_after [] cs) base ≡ flat_if cs base
unfolding flat_class_of
found_is cs None = refl
found_is cs (Some b) = refl

pub flat_class_of_is : (cs : List ClassTerm) (n : ℕ) → flat_class_of cs n ≡ class_over cs (flat_if cs (base_before cs n)) n
unfolding flat_class_of
flat_class_of_is cs n =
    stands [] cs n n (omega arith) ∙ ap (λ f. derived_if f (slice_get cs n)) (found_is cs (base_before cs n))

-- ---- a lineage

pub classes_over-push : (cs : List ClassTerm) (ns : List ℕ) (n : ℕ) (base : FlatTerm) → classes_over cs (ns ++ n ∷ []) base ≡ classes_over cs ns (class_over cs base n)
classes_over-push cs [] n base = refl
classes_over-push cs (m ∷ ns) n base = ap (λ f. class_over cs f m) (classes_over-push cs ns n base)

-- one class more
pub lineage_more : (cs : List ClassTerm) (ns : List ℕ) (n : ℕ) → classes_over cs (ns ++ n ∷ []) (flat_if cs (base_before cs n)) ≡ classes_over cs ns (flat_class_of cs n)
lineage_more cs ns n = classes_over-push cs ns n (flat_if cs (base_before cs n)) ∙ ap (classes_over cs ns) (sym (flat_class_of_is cs n))

tested_count : (b n : ℕ) (test : Bool) → nat_lt b n ≡ test → count_to (if test then Some b else None) ≤ n
tested_count b n true is = grind (arith, nat_tests)
tested_count b n false is = omega arith

pub below_count : (n : ℕ) (o : Option ℕ) → count_to (below n o) ≤ n
below_count n None = omega arith
below_count n (Some b) = tested_count b n (nat_lt b n) refl

-- what goes on is there, and each step goes further up
pub unknown_some : (count : ℕ) (marks : List Bool) (o : Option ℕ) (b : ℕ) → unknown count marks o ≡ Some b → o ≡ Some b
unknown_some count marks None b h = absurd (cc)
unknown_some count marks (Some a) b h = either (knows count marks a) h
  where
    either : (t : Bool) → (if t then None else Some a) ≡ Some b → Some a ≡ Some b
    either true e = absurd (cc)
    either false e = e

pub fewer : (cs : List ClassTerm) (n : ℕ) (here above : Option ℕ) → here ≡ Some n → above ≡ base_before cs n → count_to above < count_to here
fewer cs n here above is next =
    let less = below_count n (class_base (slice_get cs n)) in
    subst (λ (o : Option ℕ). count_to above < count_to o) (sym is) (subst (λ (o : Option ℕ). count_to o < n + 1) (sym next) (omega (arith, less)))

-- where the lineage ends, it ends at no class or at one that is known
pub base_is : (cs : List ClassTerm) (flats : List FlatTerm) (marks : List Bool) (o : Option ℕ) → AreKnown cs flats marks → unknown (length flats) marks o ≡ None → base_of flats o ≡ flat_if cs o
base_is cs flats marks None known ended = refl
base_is cs flats marks (Some b) known ended = either (knows (length flats) marks b) refl ended
  where
    either : (t : Bool) → knows (length flats) marks b ≡ t → (if t then None else Some b) ≡ None → base_of flats (Some b) ≡ flat_if cs (Some b)
    either true is e = known b is
    either false is e = absurd (cc)

-- a step of the loop that goes up
pub lineage_step : (cs : List ClassTerm) (old new : List ℕ) (n : ℕ) (here above : Option ℕ) (whole : FlatTerm) → new ≡ old ++ n ∷ [] → above ≡ base_before cs n → here ≡ Some n
    → classes_over cs old (flat_if cs here) ≡ whole → classes_over cs new (flat_if cs above) ≡ whole
lineage_step cs old new n here above whole pushed base found told =
    (λ i. classes_over cs (pushed i) (flat_if cs (base i))) ∙ lineage_more cs old n ∙ sym (ap (λ o. classes_over cs old (flat_if cs o)) found) ∙ told

-- ---- laws of the definition

is_below : (n b : ℕ) → b < n → below n (Some b) ≡ Some b
is_below n b less = by (nat_lt b n) refl
  where
    by : (test : Bool) → nat_lt b n ≡ test → (if test then Some b else None) ≡ Some b
    by true is = refl
    by false is = absurd (grind (arith, nat_tests))

pub over_base : (cs : List ClassTerm) (n b : ℕ) (c : ClassTerm) → slice_get cs n ≡ Some c → c.base ≡ Some b → b < n → flat_class_of cs n ≡ derived_class (flat_class_of cs b) c
over_base cs n b c at base less =
    let above : base_before cs n ≡ Some b = ap (λ o. below n (class_base o)) at ∙ ap (below n) base ∙ is_below n b less in
    flat_class_of_is cs n ∙ (λ i. derived_if (flat_if cs (above i)) (at i))

pub over_none : (cs : List ClassTerm) (n : ℕ) (c : ClassTerm) → slice_get cs n ≡ Some c → c.base ≡ None → flat_class_of cs n ≡ record { props = c.props; blocks = c.blocks }
over_none cs n c at base =
    let above : base_before cs n ≡ None = ap (λ o. below n (class_base o)) at ∙ ap (below n) base in
    flat_class_of_is cs n ∙ (λ i. derived_if (flat_if cs (above i)) (at i))
