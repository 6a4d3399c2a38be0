-- Rows of texts, of which the first have gone.
use Rattle.std.proofs.Common.{◌≡◌, ◌<◌, ◌≤◌, ◌+◌, ◌-◌, ℕ, zero, suc, sym, ap, ◌∙◌, subst, List, [], ◌∷◌, ◌++◌, length, get_or, take, drop, drop-cons, add-one, refl, arith}
use Rattle.std.proofs.lemmas.List.{at_drop_all, at_drop_more, take_rest}
use Rattle.svr_stream.specs.Puts.{Place, Puts}
use Rattle.svr_stream.proofs.Putting.{puts_then, puts_none, puts_as}

-- Of a text a front has gone from the first place to this one: what is left makes it whole.
pub record HasLeft (first now : Place) (all left : List ℕ) : Type 0 where
  pub rest : (end : Place) → Puts now end left → Puts first end all

pub left_all : {a : Place} {text : List ℕ} → HasLeft a a text text
left_all = record { rest = λ end h. h }

-- one text of the row more
pub left_more : {a b c : Place} {all left s t : List ℕ} → HasLeft a b all left → Puts b c s → left ≡ s ++ t → HasLeft a c all t
left_more h k split = record { rest = λ end m. h.rest end (puts_as (puts_then k m) (sym split)) }

-- none is left
pub left_none : {a b : Place} {all left : List ℕ} → HasLeft a b all left → left ≡ [] → Puts a b all
left_none {b = b} h none = h.rest b (puts_as puts_none (sym none))

-- ---- the element at a place

pub front_at : {A : Type 0} (xs : List A) (i : ℕ) (x : A) → i < length xs → x ≡ get_or xs i x → drop i xs ≡ x ∷ drop (i + 1) xs
front_at xs i x less is = drop-cons xs i x less ∙ ap (λ y. y ∷ drop (suc i) xs) (sym is) ∙ ap (λ n. x ∷ drop n xs) (sym (add-one i))

-- one text more of a row that is made of the elements of a list
pub row_more : {A : Type 0} (F : List A → List ℕ) {a b c : Place} {all s : List ℕ} (xs : List A) (i : ℕ) (x : A) → HasLeft a b all (F (drop i xs)) → Puts b c s
    → i < length xs → x ≡ get_or xs i x → F (x ∷ drop (i + 1) xs) ≡ s ++ F (drop (i + 1) xs) → HasLeft a c all (F (drop (i + 1) xs))
row_more F xs i x h k less is split = left_more h k (ap F (front_at xs i x less is) ∙ split)

pub row_none : {A : Type 0} (F : List A → List ℕ) {a b : Place} {all : List ℕ} (xs : List A) (i : ℕ) → HasLeft a b all (F (drop i xs)) → length xs ≤ i → F [] ≡ [] → Puts a b all
row_none F xs i h end none = left_none h (at_drop_all F xs i end ∙ none)

-- the same of elements that are copied
pub row_copy : {A : Type 0} (F : List A → List ℕ) {a b c : Place} {all s : List ℕ} (xs : List A) (i : ℕ) (d : A) → HasLeft a b all (F (drop i xs)) → Puts b c s
    → i < length xs → F (get_or xs i d ∷ drop (i + 1) xs) ≡ s ++ F (drop (i + 1) xs) → HasLeft a c all (F (drop (i + 1) xs))
row_copy F xs i d h k less split = left_more h k (at_drop_more F xs i d less ∙ split)

-- ---- the first element, and what a slice pattern leaves behind it

pub first_is : {A : Type 0} (xs : List A) (x : A) → 1 ≤ length xs → x ≡ get_or xs 0 x → xs ≡ x ∷ take (length xs - 1) (drop 1 xs)
first_is [] x some is = absurd (omega arith)
first_is (y ∷ ys) x some is = ap (λ z. z ∷ ys) (sym is) ∙ ap (λ zs. x ∷ zs) (sym (take_rest (y ∷ ys) 1))

-- the same of an element that is copied
pub first_copy : {A : Type 0} (xs : List A) (d : A) → 1 ≤ length xs → xs ≡ get_or xs 0 d ∷ take (length xs - 1) (drop 1 xs)
first_copy [] d some = absurd (omega arith)
first_copy (y ∷ ys) d some = ap (λ zs. y ∷ zs) (sym (take_rest (y ∷ ys) 1))

pub empty_is : {A : Type 0} (xs : List A) → length xs < 1 → xs ≡ []
empty_is [] none = refl
empty_is (x ∷ xs) none = absurd (omega arith)

-- a text of two lists, and of three
pub two_as : {A B : Type 0} (F : A → B → List ℕ) (x u : A) (y v : B) → x ≡ u → y ≡ v → F x y ≡ F u v
two_as F x u y v e h = ap (λ t. F t y) e ∙ ap (λ t. F u t) h

pub three_as : {A B C : Type 0} (F : A → B → C → List ℕ) (x u : A) (y v : B) (z w : C) → x ≡ u → y ≡ v → z ≡ w → F x y z ≡ F u v w
three_as F x u y v z w e h k = ap (λ t. F t y z) e ∙ two_as (F u) y v z w h k
