-- The first of all refusals is the first of the first ones of the parts, and it is first among them all.
use Rattle.std.proofs.Common.{◌≡◌, ℕ, Bool, true, false, List, [], ◌∷◌, ◌++◌, Option, None, Some, inl, inr, refl, sym, ap, subst, ◌∙◌, arith, if◌then◌else◌, is_none, ⊎_elim, nat_lt, nat_le, ◌==◌, ◌&&◌, ◌||◌}
use Rattle.svr_elab_fault.specs.declared.fault.Fault.{Fault}
use Rattle.svr_refusal.specs.declared.Refusal.{Refusal}
use Rattle.svr_refusal.specs.Numbers.{number_of}
use Rattle.svr_elab_fault.specs.Refusals.{all, first_one, when, earlier, least, comes_first, list_is_empty, IsFirst, FirstOf}

-- ---- places and numbers in order

abbrev before : ℕ → ℕ → ℕ → ℕ → Bool
before t n u m = nat_lt t u || (t == u && nat_le n m)

before-trans : (t n u m v k : ℕ) → before t n u m ≡ true → before u m v k ≡ true → before t n v k ≡ true
before-trans t n u m v k h i = grind (arith, h, i)

before-after : (t n u m v k : ℕ) → before t n u m ≡ false → before u m v k ≡ false → before t n v k ≡ false
before-after t n u m v k h i = grind (arith, h, i)

before-total : (t n u m : ℕ) → before t n u m ≡ false → before u m t n ≡ true
before-total t n u m h = grind (arith, h)

before-own : (t n : ℕ) → before t n t n ≡ true
before-own t n = grind arith

pub comes_first-trans : (x y z : Fault) → comes_first x y ≡ true → comes_first y z ≡ true → comes_first x z ≡ true
comes_first-trans x y z h k = before-trans x.token (number_of x.refusal) y.token (number_of y.refusal) z.token (number_of z.refusal) h k

comes_first-after : (x y z : Fault) → comes_first x y ≡ false → comes_first y z ≡ false → comes_first x z ≡ false
comes_first-after x y z h k = before-after x.token (number_of x.refusal) y.token (number_of y.refusal) z.token (number_of z.refusal) h k

pub earlier_none : (x : Option Fault) → earlier x None ≡ x
earlier_none None = refl
earlier_none (Some x) = refl

some_assoc : (x y z : Fault) (a b c : Bool) → comes_first x y ≡ a → comes_first y z ≡ b → comes_first x z ≡ c
    → earlier (earlier (Some x) (Some y)) (Some z) ≡ earlier (Some x) (earlier (Some y) (Some z))
some_assoc x y z true true c p q r = let s = comes_first-trans x y z p q in simp (p, q, s) refl
some_assoc x y z true false c p q r = simp (p, q) refl
some_assoc x y z false true c p q r = simp (p, q) refl
some_assoc x y z false false c p q r = let s = comes_first-after x y z p q in simp (p, q, s) refl

pub earlier_assoc : (x y z : Option Fault) → earlier (earlier x y) z ≡ earlier x (earlier y z)
earlier_assoc None y z = refl
earlier_assoc (Some x) None z = refl
earlier_assoc (Some x) (Some y) None = earlier_none (earlier (Some x) (Some y))
earlier_assoc (Some x) (Some y) (Some z) =
    some_assoc x y z (comes_first x y) (comes_first y z) (comes_first x z) refl refl refl

pub least_append : (xs ys : List Fault) → least (xs ++ ys) ≡ earlier (least xs) (least ys)
least_append [] ys = refl
least_append (x ∷ xs) ys = ap (earlier (Some x)) (least_append xs ys) ∙ sym (earlier_assoc (Some x) (least xs) (least ys))

pub least_when : (b : Bool) (token : ℕ) (r : Refusal) → least (when all b token r) ≡ when first_one b token r
least_when true token r = refl
least_when false token r = refl

earlier_some : (x : Fault) (y : Option Fault) → is_none (earlier (Some x) y) ≡ false
earlier_some x None = refl
earlier_some x (Some y) = elim (comes_first x y) as (λ b. is_none (if b then Some x else Some y) ≡ false) [ true ↦ refl | false ↦ refl ]

pub is_none-least : (xs : List Fault) → is_none (least xs) ≡ list_is_empty xs
is_none-least [] = refl
is_none-least (x ∷ xs) = earlier_some x (least xs)

-- ---- the least of a list is first in it

true_false : true ≡ false → ⊥
true_false h = cc

same_first : (x : Fault) → comes_first x x ≡ true
same_first x = before-own x.token (number_of x.refusal)

total : (x y : Fault) → comes_first x y ≡ false → comes_first y x ≡ true
total x y h = before-total x.token (number_of x.refusal) y.token (number_of y.refusal) h

none_left : (xs : List Fault) → least xs ≡ None → xs ≡ []
none_left [] h = refl
none_left (x ∷ xs) h = absurd (true_false (sym (ap is_none h) ∙ is_none-least (x ∷ xs)))

alone : (x : Fault) → IsFirst (x ∷ []) x
alone x = record {
  among = inl refl;
  first = λ g h. ⊎_elim (λ e. ap (comes_first x) e ∙ same_first x) (λ n. absurd n) h;
}

earlier_one : (x y : Fault) (xs : List Fault) → IsFirst xs y → comes_first x y ≡ true → IsFirst (x ∷ xs) x
earlier_one x y xs r h = record {
  among = inl refl;
  first = λ g k. ⊎_elim (λ e. ap (comes_first x) e ∙ same_first x) (λ n. comes_first-trans x y g h (r.first g n)) k;
}

later_one : (x y : Fault) (xs : List Fault) → IsFirst xs y → comes_first x y ≡ false → IsFirst (x ∷ xs) y
later_one x y xs r h = record {
  among = inr r.among;
  first = λ g k. ⊎_elim (λ e. ap (comes_first y) e ∙ total x y h) (λ n. r.first g n) k;
}

chosen : (x y : Fault) (xs : List Fault) → IsFirst xs y → (b : Bool) → comes_first x y ≡ b → FirstOf (x ∷ xs) (if b then Some x else Some y)
chosen x y xs r true h = earlier_one x y xs r h
chosen x y xs r false h = later_one x y xs r h

with_rest : (x : Fault) (xs : List Fault) (o : Option Fault) → FirstOf xs o → FirstOf (x ∷ xs) (earlier (Some x) o)
with_rest x xs None h = let P : List Fault → Type 0 = λ ys. IsFirst (x ∷ ys) x in subst P (sym h) (alone x)
with_rest x xs (Some y) h = chosen x y xs h (comes_first x y) refl

pub least_first : (xs : List Fault) → FirstOf xs (least xs)
least_first [] = refl
least_first (x ∷ xs) = with_rest x xs (least xs) (least_first xs)
