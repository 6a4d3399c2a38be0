-- What the bodies make is what the definitions say.
use Rattle.std.proofs.Common.{◌≡◌, ◌<◌, ℕ, zero, suc, ◌+◌, Bool, true, List, [], ◌∷◌, ◌++◌, Option, Some, None, length, map, take, drop, refl, sym, ap, ◌∙◌, slice_set, slice_index_or}
use Rattle.std.proofs.lemmas.List.{set-set, set-get_or, map_more}
use Rattle.std.proofs.lemmas.List.Edits.{map_over_more}
use Rattle.svr_typed.specs.declared.class.Prop.{Prop}
use Rattle.svr_typed.specs.declared.class.TBlock.{TBlock}
use Rattle.svr_typed.specs.declared.class.FlatClass.{FlatClass}
use Rattle.svr_typed.specs.ClassTerm.{block_term, block_terms, flat_term}
use Rattle.svr_typed.specs.declared.stmt.TVar.{TVar}
use Rattle.svr_world.specs.World.{ObjectTerm, WorldTerm, found_object, with_object, without_object, kind_class, declared_classes, blank_world, initial_numbers, new_object}

-- ---- a step of a loop that switches all modes

read_again : {A : Type 0} (ys : List A) (i : ℕ) (d : A) → slice_index_or ys i d ≡ slice_index_or ys i (slice_index_or ys i d)
read_again [] i d = refl
read_again (y ∷ ys) zero d = refl
read_again (y ∷ ys) (suc i) d = read_again ys i d

pub with_mode_more : (on : Bool) (xs ys : List Bool) (i : ℕ) → i < length xs → ys ≡ map (λ m. on) (take i xs) ++ drop i xs
    → slice_set ys i on ≡ map (λ m. on) (take (i + 1) xs) ++ drop (i + 1) xs
with_mode_more on xs ys i less so_far = map_over_more (λ m. on) xs ys i (slice_index_or ys i on) less so_far (read_again ys i on)

-- ---- a step of a loop that makes one value of each element

pub one_more : {X Y : Type 0} (f : X → Y) (xs : List X) (made next : List Y) (i : ℕ) (x : X) (y : Y)
    → i < length xs → x ≡ slice_index_or xs i x → next ≡ made ++ y ∷ [] → made ≡ map f (take i xs) → y ≡ f x → next ≡ map f (take (i + 1) xs)
one_more f xs made next i x y less at grown so_far is =
    grown ∙ (λ k. so_far k ++ is k ∷ []) ∙ ap (λ z. map f (take i xs) ++ f z ∷ []) at ∙ sym (map_more f xs i x less)

-- ---- a new object

pub map_twice : {A B C : Type 0} (c : C) (f : A → B) (xs : List A) → map (λ x. c) xs ≡ map (λ y. c) (map f xs)
map_twice c f [] = refl
map_twice c f (x ∷ xs) = ap (λ ys. c ∷ ys) (map_twice c f xs)

pub new_object_is : (class : ℕ) (flat : FlatClass) (props : List Prop) (blocks : List TBlock) (values : List (List ℕ)) (rand_modes block_modes : List Bool) (used : List (List ℕ))
    → props ≡ flat.props → blocks ≡ flat.blocks
    → values ≡ map (λ p. initial_numbers p.array p.first) props → rand_modes ≡ map (λ p. true) props
    → block_modes ≡ map (λ b. true) blocks → used ≡ map (λ p. []) props
    → ◌≡◌ {A = ObjectTerm} (record { class = class; values = values; rand_modes = rand_modes; block_modes = block_modes; used = used }) (new_object class (flat_term flat))
new_object_is class flat props blocks values rand_modes block_modes used ps bs vs rs ms us =
    let m : block_modes ≡ map (λ b. true) (block_terms flat.blocks) = ms ∙ ap (λ xs. map (λ b. true) xs) bs ∙ map_twice true block_term flat.blocks in
    rw (vs, rs, m, us, ps) refl

-- ---- a world without objects

pub blank_is : (vars vs : List TVar) (declared : List ℕ) (objects : List (Option ObjectTerm)) (script : List ℕ)
    → vs ≡ vars → declared ≡ declared_classes vs → objects ≡ map (λ v. None) vs → script ≡ map (λ v. 0) vs
    → ◌≡◌ {A = WorldTerm} (record { declared = declared; objects = objects; script = script }) (blank_world (declared_classes vars))
blank_is vars vs declared objects script same ds os ss =
    let o : objects ≡ map (λ c. None) (declared_classes vs) = os ∙ map_twice None (λ (v : TVar). kind_class v.kind) vs in
    let n : script ≡ map (λ c. 0) (declared_classes vs) = ss ∙ map_twice 0 (λ (v : TVar). kind_class v.kind) vs in
    rw (ds, o, n, same) refl

-- ---- an object in its place

pub put_back : (w : WorldTerm) (o : ℕ) (x : ObjectTerm) → with_object (without_object w o) o x ≡ with_object w o x
put_back w o x = ap (λ os. record w { objects = os }) (set-set w.objects o None (Some x))

-- what was found, put in its place again
pub put_same : (w : WorldTerm) (o : ℕ) (x : ObjectTerm) → Some x ≡ found_object w o → with_object w o x ≡ w
put_same w o x found = ap (λ os. record w { objects = os }) (ap (λ m. slice_set w.objects o m) found ∙ set-get_or w.objects o None)
