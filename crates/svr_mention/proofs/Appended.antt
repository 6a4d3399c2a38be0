-- Lists that are put together piece by piece.
use Rattle.svr_frame.specs.Reads.{turns}
use Rattle.std.proofs.Common.{◌≡◌, zero, suc, max, arith, ℕ, ◌+◌, add-one, refl, sym, ◌∙◌, ap, List, [], ◌∷◌, ◌++◌, map, append_assoc}
use Rattle.svr_frame.specs.Occurrences.{each_below}
use Rattle.std.proofs.lemmas.List.{map-append}

-- one piece after the other
pub then : {A B : Type 0} (m : A → B) (old mid new : List B) (xs ys : List A) → mid ≡ old ++ map m xs → new ≡ mid ++ map m ys → new ≡ old ++ map m (xs ++ ys)
then m old mid new xs ys h k = k ∙ ap (λ zs. zs ++ map m ys) h ∙ append_assoc old (map m xs) (map m ys) ∙ ap (λ zs. old ++ zs) (sym (map-append m xs ys))

-- what is left after a piece
pub after : {A B : Type 0} (m : A → B) (old mid : List B) (xs ys : List A) → mid ≡ old ++ map m xs → mid ++ map m ys ≡ old ++ map m (xs ++ ys)
after m old mid xs ys h = ap (λ zs. zs ++ map m ys) h ∙ append_assoc old (map m xs) (map m ys) ∙ ap (λ zs. old ++ zs) (sym (map-append m xs ys))

-- one turn more of a loop
pub turned_more : {A B : Type 0} (m : A → B) (old mid new : List B) (n : ℕ) (h : ℕ → List A) → mid ≡ old ++ map m (each_below n h) → new ≡ mid ++ map m (h n) → new ≡ old ++ map m (each_below (n + 1) h)
turned_more m old mid new n h before turn = rw (add-one n) (then m old mid new (each_below n h) (h n) before turn)

pub turns_most : (n : ℕ) → max n 1 ≡ turns n
turns_most zero = refl
turns_most (suc n) = omega arith

-- an item and then a piece
pub pushed_then : {A B : Type 0} (m : A → B) (old mid new : List B) (x : A) (ys : List A) → mid ≡ old ++ m x ∷ [] → new ≡ mid ++ map m ys → new ≡ old ++ map m (x ∷ ys)
pushed_then m old mid new x ys h k = k ∙ ap (λ zs. zs ++ map m ys) h ∙ append_assoc old (m x ∷ []) (map m ys)
