-- Loops over groups, parts and `bins`: what is refused on the way
use Rattle.std.proofs.Common.{◌≡◌, ℕ, suc, ◌+◌, List, [], ◌∷◌, ◌++◌, length, None, Some, sym, ap, ◌∙◌, subst, arith, add-one}
use Rattle.svr_cover_checked.specs.declared.fault.CoverFault.{CoverFault}
use Rattle.svr_cover_checked.specs.declared.fault.CoverFault.TheVariants as e
use Rattle.svr_cover_checked.specs.Numbers.{first_of}
use Rattle.svr_cover_checked.specs.Refusals.{IsFirst}

pub first-append : (xs ys : List CoverFault) (r : CoverFault) → first_of xs ≡ Some r → first_of (xs ++ ys) ≡ Some r
first-append [] ys r h = absurd (let z : None ≡ Some r = h in cc)
first-append (x ∷ xs) ys r h = h

-- the first of a front is the first of all
pub first-front : (x : CoverFault) (all front back : List CoverFault) → all ≡ front ++ back → IsFirst x front → IsFirst x all
first-front (e.Refused n t) all front back h k = ap first_of h ∙ first-append front back (e.Refused n t) k
first-front e.NoMemory all front back h k = tt

pub first-some : (x : CoverFault) (all front back : List CoverFault) → all ≡ front ++ back → first_of front ≡ Some x → IsFirst x all
first-some (e.Refused n t) all front back h k = ap first_of h ∙ first-append front back (e.Refused n t) k
first-some e.NoMemory all front back h k = tt

-- the first behind a front in which nothing is refused
pub first-back : (x : CoverFault) (all front back : List CoverFault) → all ≡ front ++ back → front ≡ [] → IsFirst x back → IsFirst x all
first-back (e.Refused n t) all front back h f k = ap first_of (h ∙ ap (λ z. z ++ back) f) ∙ k
first-back e.NoMemory all front back h f k = tt

pub first-memory : (x : CoverFault) (all : List CoverFault) → x ≡ e.NoMemory → IsFirst x all
first-memory x all h = subst (λ z. IsFirst z all) (sym h) tt

-- ---- a walk whose state is a number beside the place: `at n t xs` is what is refused, or what is counted, from the one of number n on

-- one step, in which nothing is refused
pub next-refused : {X : Type 0} (at : ℕ → ℕ → List X → List CoverFault) (all here : List CoverFault) (n t u v : ℕ) (left : List X) (x : X) (others : List X)
    → left ≡ x ∷ others → at n t (x ∷ others) ≡ here ++ at (suc n) v others → u ≡ v → all ≡ at n t left → here ≡ [] → all ≡ at (n + 1) u others
next-refused at all here n t u v left x others l s e h f =
    h ∙ ap (at n t) l ∙ s ∙ ap (λ z. z ++ at (suc n) v others) f ∙ ap (λ k. at k v others) (sym (add-one n)) ∙ ap (λ k. at (n + 1) k others) (sym e)

-- one step that counts
pub next-counted : {X T : Type 0} (at : ℕ → ℕ → List X → T) (all : T) (n t u v : ℕ) (left : List X) (x : X) (others : List X)
    → left ≡ x ∷ others → at n t (x ∷ others) ≡ at (suc n) v others → u ≡ v → all ≡ at n t left → all ≡ at (n + 1) u others
next-counted at all n t u v left x others l s e h =
    h ∙ ap (at n t) l ∙ s ∙ ap (λ k. at k v others) (sym (add-one n)) ∙ ap (λ k. at (n + 1) k others) (sym e)

-- it stops where something is refused
pub stop-refused : {X : Type 0} (at : List X → List CoverFault) (all here rest : List CoverFault) (left : List X) (x : X) (others : List X) (fault : CoverFault)
    → left ≡ x ∷ others → at (x ∷ others) ≡ here ++ rest → all ≡ at left → IsFirst fault here → IsFirst fault all
stop-refused at all here rest left x others fault l s h k = first-front fault all here rest (h ∙ ap at l ∙ s) k

-- the place behind one step
pub next-place : {X : Type 0} (n m : ℕ) (left : List X) (x : X) (others : List X) → left ≡ x ∷ others → n + length left ≡ m → (n + 1) + length others ≡ m
next-place n m left x others l h = let e : length left ≡ suc (length others) = ap length l in omega (arith, e, h)

pub stop-first : {X : Type 0} (at : List X → List CoverFault) (all here rest : List CoverFault) (left : List X) (x : X) (others : List X) (fault : CoverFault)
    → left ≡ x ∷ others → at (x ∷ others) ≡ here ++ rest → all ≡ at left → first_of here ≡ Some fault → first_of all ≡ Some fault
stop-first at all here rest left x others fault l s h k = ap first_of (h ∙ ap at l ∙ s) ∙ first-append here rest fault k

-- it is at its end
pub at-end : {X T : Type 0} (at : List X → T) (all end : T) (left : List X) → left ≡ [] → at [] ≡ end → all ≡ at left → all ≡ end
at-end at all end left l s h = h ∙ ap at l ∙ s
