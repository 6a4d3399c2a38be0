-- Texts that grow part by part
use Rattle.std.proofs.Common.{◌≡◌, ℕ, List, [], ◌∷◌, ◌++◌, flat_map, sym, ap, ◌∙◌, append_assoc}
use Rattle.std.proofs.lemmas.List.Concat.{flat_map-cons}

-- one text of a list more
pub one_more : {A : Type 0} (g : A → List ℕ) (text : List ℕ) (x : A) (xs : List A) → (text ++ g x) ++ flat_map g xs ≡ text ++ flat_map g (x ∷ xs)
one_more g text x xs = append_assoc text (g x) (flat_map g xs) ∙ ap (λ (t : List ℕ). text ++ t) (sym (flat_map-cons g x xs))

pub two : (old a b t u : List ℕ) → t ≡ old ++ a → u ≡ t ++ b → u ≡ old ++ (a ++ b)
two old a b t u e f = f ∙ ap (λ (z : List ℕ). z ++ b) e ∙ append_assoc old a b

pub three : (old a b c t u v : List ℕ) → t ≡ old ++ a → u ≡ t ++ b → v ≡ u ++ c → v ≡ old ++ (a ++ (b ++ c))
three old a b c t u v e f g = two old a (b ++ c) t v e (two t b c u v f g)

pub four : (old a b c d t u v w : List ℕ) → t ≡ old ++ a → u ≡ t ++ b → v ≡ u ++ c → w ≡ v ++ d → w ≡ old ++ (a ++ (b ++ (c ++ d)))
four old a b c d t u v w e f g h = two old a (b ++ (c ++ d)) t w e (three t b c d u v w f g h)

-- from nothing
pub all_three : (old a b c t u v : List ℕ) → old ≡ [] → t ≡ old ++ a → u ≡ t ++ b → v ≡ u ++ c → v ≡ a ++ (b ++ c)
all_three old a b c t u v z e f g = three old a b c t u v e f g ∙ ap (λ (y : List ℕ). y ++ (a ++ (b ++ c))) z
