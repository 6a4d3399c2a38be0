-- Loops over parts, rules, productions and pieces: what is refused and what is made on the way
use Rattle.std.proofs.Common.{◌≡◌, ℕ, suc, ◌+◌, List, [], ◌∷◌, ◌++◌, map, length, None, Some, sym, ap, ◌∙◌, subst, arith, append_assoc, append-nil}
use Rattle.std.proofs.lemmas.List.{length-append, map-append}
use Rattle.svr_seq_made.specs.declared.fault.SeqFault.{SeqFault}
use Rattle.svr_seq_made.specs.declared.fault.SeqFault.TheVariants as e
use Rattle.svr_seq_made.specs.Refusals.{IsFirst, first_of}

first-append : (xs ys : List SeqFault) (r : SeqFault) → first_of xs ≡ Some r → first_of (xs ++ ys) ≡ Some r
first-append [] ys r h = absurd (let z : None ≡ Some r = h in cc)
first-append (x ∷ xs) ys r h = h

-- the first of a front is the first of all
pub first-front : (x : SeqFault) (all front back : List SeqFault) → all ≡ front ++ back → IsFirst x front → IsFirst x all
first-front (e.Refused n t) all front back h k = ap first_of h ∙ first-append front back (e.Refused n t) k
first-front e.NoMemory all front back h k = tt

pub first-some : (x : SeqFault) (all front back : List SeqFault) → all ≡ front ++ back → first_of front ≡ Some x → IsFirst x all
first-some (e.Refused n t) all front back h k = ap first_of h ∙ first-append front back (e.Refused n t) k
first-some e.NoMemory all front back h k = tt

-- the first behind a front in which nothing is refused
pub first-back : (x : SeqFault) (all front back : List SeqFault) → all ≡ front ++ back → front ≡ [] → IsFirst x back → IsFirst x all
first-back (e.Refused n t) all front back h f k = ap first_of (h ∙ ap (λ z. z ++ back) f) ∙ k
first-back e.NoMemory all front back h f k = tt

pub first-memory : (x : SeqFault) (all : List SeqFault) → x ≡ e.NoMemory → IsFirst x all
first-memory x all h = subst (λ z. IsFirst z all) (sym h) tt

-- a list walked to its end: what is made of all is what was made
pub all-made : {X Y T : Type 0} (f : X → T) (g : Y → T) (all left : List X) (done : List Y) → left ≡ [] → map f all ≡ map g done ++ map f left → map g done ≡ map f all
all-made f g all left done l h = sym (h ∙ ap (λ z. map g done ++ map f z) l ∙ append-nil (map g done))

pub one-made : {X Y T : Type 0} (f : X → T) (g : Y → T) (all left : List X) (done : List Y) (x : X) (others : List X) (y : Y)
    → left ≡ x ∷ others → g y ≡ f x → map f all ≡ map g done ++ map f left → map f all ≡ map g (done ++ y ∷ []) ++ map f others
one-made f g all left done x others y l s h =
    h ∙ ap (λ z. map g done ++ map f z) l ∙ ap (λ z. map g done ++ z ∷ map f others) (sym s) ∙ sym (append_assoc (map g done) (g y ∷ []) (map f others))
    ∙ ap (λ z. z ++ map f others) (sym (map-append g done (y ∷ [])))

length-more : {Y : Type 0} (done : List Y) (y : Y) → length (done ++ y ∷ []) ≡ suc (length done)
length-more done y = let h : length (done ++ y ∷ []) ≡ length done + 1 = length-append done (y ∷ []) in omega arith

-- one step of a walk that counts: `all` is what is refused from the first on, `at n xs` from the one of number n on
pub next-refused : {X Y : Type 0} (at : ℕ → List X → List SeqFault) (all here : List SeqFault) (left : List X) (x : X) (others : List X) (done : List Y) (y : Y)
    → left ≡ x ∷ others → at (length done) (x ∷ others) ≡ here ++ at (suc (length done)) others → all ≡ at (length done) left → here ≡ [] → all ≡ at (length (done ++ y ∷ [])) others
next-refused at all here left x others done y l s h n =
    h ∙ ap (at (length done)) l ∙ s ∙ ap (λ z. z ++ at (suc (length done)) others) n ∙ ap (λ k. at k others) (sym (length-more done y))

pub stop-refused : {X : Type 0} (at : ℕ → List X → List SeqFault) (all here : List SeqFault) (n : ℕ) (left : List X) (x : X) (others : List X) (fault : SeqFault)
    → left ≡ x ∷ others → at n (x ∷ others) ≡ here ++ at (suc n) others → all ≡ at n left → IsFirst fault here → IsFirst fault all
stop-refused at all here n left x others fault l s h k = first-front fault all here (at (suc n) others) (h ∙ ap (at n) l ∙ s) k

pub end-refused : {X : Type 0} (at : ℕ → List X → List SeqFault) (all : List SeqFault) (n : ℕ) (left : List X) → left ≡ [] → at n [] ≡ [] → all ≡ at n left → all ≡ []
end-refused at all n left l s h = h ∙ ap (at n) l ∙ s
