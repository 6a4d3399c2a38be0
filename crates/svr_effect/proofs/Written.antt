-- What is written to objects.
use Rattle.std.proofs.Common.{◌≡◌, ◌≤◌, ℕ, ℤ, pos, negsuc, refl, ◌∙◌, ap, List, [], Option, None, Some, IsSome, slice_set, unwrap_or}
use Rattle.std.proofs.lemmas.List.{set_past, set-get_or}
use Rattle.svr_world.specs.World.{ObjectTerm, WorldTerm, no_object, found_object, object_of, IsMade, numbers_of, size_of, with_object, with_numbers, with_number}
use Rattle.svr_script.specs.Statement.{written_at}
use Rattle.svr_effect.specs.Objects.{placed, placed_at}

pub written_is : (w : WorldTerm) (o p : ℕ) (z : ℤ) (v : ℕ) → placed_at w o p (placed z) v ≡ written_at w o p z v
written_is w o p (pos i) v = refl
written_is w o p (negsuc i) v = refl

-- ---- a place outside

some_of : (m : Option ObjectTerm) → IsSome m → Some (unwrap_or m no_object) ≡ m
some_of None h = absurd (cc)
some_of (Some x) h = refl

pub nothing_outside : (w : WorldTerm) (o p i v : ℕ) → IsMade w o → size_of (object_of w o) p ≤ i → with_number w o p i v ≡ w
nothing_outside w o p i v made far =
    let x = object_of w o in
    ap (λ (ns : List ℕ). with_numbers w o p ns) (set_past (numbers_of x p) i v far)
    ∙ ap (λ (vs : List (List ℕ)). with_object w o (record (object_of w o) { values = vs })) (set-get_or x.values p [])
    ∙ ap (λ (os : List (Option ObjectTerm)). record w { objects = os }) (ap (λ (m : Option ObjectTerm). slice_set w.objects o m) (some_of (found_object w o) made) ∙ set-get_or w.objects o None)
