-- Lists that are put together piece by piece, where each item gives several.
use Rattle.std.proofs.Common.{◌≡◌, ℕ, ◌+◌, add-one, sym, ◌∙◌, ap, List, [], ◌++◌, map, append_assoc}
use Rattle.std.specs.List.{flat_map}
use Rattle.std.proofs.lemmas.Grind.{flat_map-append}
use Rattle.std.proofs.lemmas.List.{map-append}
use Rattle.svr_frame.specs.Occurrences.{each_below}

pub found_then : {A B : Type 0} (g : A → List B) (old mid new : List B) (xs ys : List A) → mid ≡ old ++ flat_map g xs → new ≡ mid ++ flat_map g ys → new ≡ old ++ flat_map g (xs ++ ys)
found_then g old mid new xs ys h k = k ∙ ap (λ zs. zs ++ flat_map g ys) h ∙ append_assoc old (flat_map g xs) (flat_map g ys) ∙ ap (λ zs. old ++ zs) (sym (flat_map-append g xs ys))

pub found_after : {A B : Type 0} (g : A → List B) (old mid : List B) (xs ys : List A) → mid ≡ old ++ flat_map g xs → mid ++ flat_map g ys ≡ old ++ flat_map g (xs ++ ys)
found_after g old mid xs ys h = ap (λ zs. zs ++ flat_map g ys) h ∙ append_assoc old (flat_map g xs) (flat_map g ys) ∙ ap (λ zs. old ++ zs) (sym (flat_map-append g xs ys))

pub found_more : {A B : Type 0} (g : A → List B) (old mid new : List B) (n : ℕ) (h : ℕ → List A) → mid ≡ old ++ flat_map g (each_below n h) → new ≡ mid ++ flat_map g (h n) → new ≡ old ++ flat_map g (each_below (n + 1) h)
found_more g old mid new n h before turn = rw (add-one n) (found_then g old mid new (each_below n h) (h n) before turn)

pub found_pairs : {A B C : Type 0} (g : A → List B) (h : C → A) (old mid : List B) (xs ys : List C) → mid ≡ old ++ flat_map g (map h xs) → mid ++ flat_map g (map h ys) ≡ old ++ flat_map g (map h (xs ++ ys))
found_pairs g h old mid xs ys k = found_after g old mid (map h xs) (map h ys) k ∙ ap (λ zs. old ++ flat_map g zs) (sym (map-append h xs ys))

-- two pieces, one after the other, on an empty list
pub three : {A : Type 0} (mid new xs ys : List A) → mid ≡ [] ++ xs → new ≡ mid ++ ys → new ≡ xs ++ ys
three mid new xs ys h k = k ∙ ap (λ zs. zs ++ ys) h
