-- Lists that grew, seen as plain data.
use Rattle.std.proofs.Common.{◌≡◌, List, Option, None, Some, map, option_map, refl, ap, ◌∙◌}
use Rattle.std.proofs.lemmas.List.{map_push}
use Rattle.svr_elab_part.specs.Shapes.{and_more}

grown : {A B : Type 0} (f : A → B) (xs : Option (List A)) (x : Option A) → option_map (map f) (and_more xs x) ≡ and_more (option_map (map f) xs) (option_map f x)
grown f None x = refl
grown f (Some xs) None = refl
grown f (Some xs) (Some x) = ap Some (map_push f xs x)

-- one more in a list is one more in what is seen of it
pub more_seen : {A B : Type 0} (f : A → B) (xs zs : Option (List A)) (x : Option A) (y : Option B)
    → zs ≡ and_more xs x → option_map f x ≡ y → option_map (map f) zs ≡ and_more (option_map (map f) xs) y
more_seen f xs zs x y h e = ap (option_map (map f)) h ∙ grown f xs x ∙ ap (and_more (option_map (map f) xs)) e
