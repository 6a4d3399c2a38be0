-- What is told of the element of a list at a place, where one stands there and where none does.
use Rattle.std.proofs.Common.{◌≡◌, ◌≤◌, ℕ, true, false, List, length, map, get_or, sym, ap, subst, ◌∙◌}
use lib.Dec.{ltb}
use Rattle.std.proofs.lemmas.Bool.{ltb-true, ltb-false}
use Rattle.std.proofs.lemmas.List.{get_or-map, get_or_past, length-map}

module _ {A B : Type 0} (f : A → B) (xs ys : List A) (i : ℕ) (d : B) where
  pub there : (x : A) (y : B) → ys ≡ xs → true ≡ ltb i (length ys) → x ≡ get_or ys i x → y ≡ f x → y ≡ get_or (map f xs) i d
  there x y same within at told =
      told ∙ ap f at ∙ sym (get_or-map f ys i x d (ltb-true i (length ys) (sym within))) ∙ ap (λ (zs : List A). get_or (map f zs) i d) same

  pub missing : ys ≡ xs → false ≡ ltb i (length ys) → d ≡ get_or (map f xs) i d
  missing same past =
      sym (get_or_past (map f ys) i d (subst (λ n. n ≤ i) (sym (length-map ys f)) (ltb-false i (length ys) (sym past)))) ∙ ap (λ (zs : List A). get_or (map f zs) i d) same
