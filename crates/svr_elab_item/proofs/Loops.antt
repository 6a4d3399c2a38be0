-- What a place inside of loops keeps from the place around them.
use Rattle.std.proofs.Common.{◌≡◌, ℕ, List, subst}
use Rattle.svr_elab_names.specs.Names.{Space, Loop, with_loops, in_loop}

-- loops around a place take the place of those that were there
pub one_more : (n m : Space) (outer inner : List Loop) (name : ℕ) → m ≡ with_loops n outer → with_loops m inner ≡ in_loop m name
    → with_loops n inner ≡ in_loop (with_loops n outer) name
one_more n m outer inner name e h = let P : Space → Type 0 = λ s. with_loops s inner ≡ in_loop s name in subst P e h
