-- Clauses by number, and lists under a function
use Rattle.std.proofs.Common.{◌≡◌, ℕ, suc, zero, ◌-◌, ◌<◌, Bool, ◌||◌, List, [], ◌∷◌, length, refl, ap, arith, map, get_or}
use Rattle.std.specs.Prelude.{IsSome}
use Rattle.std.proofs.lemmas.Bool.{false≢true}
use Rattle.std.specs.List.{slice_get, list_any}
use Rattle.svr_chain.specs.declared.clause.Lit.{Lit}
use Rattle.svr_chain.specs.Log.{named}
use Rattle.svr_watch.specs.declared.store.Held.{Held}

pub any-map : {A B : Type 0} (p : B → Bool) (f : A → B) (xs : List A) → list_any p (map f xs) ≡ list_any (λ x. p (f x)) xs
any-map p f [] = refl
any-map p f (x ∷ xs) = ap (λ z. p (f x) || z) (any-map p f xs)

get-in : (f : Held → List Lit) (hs : List Held) (i : ℕ) → IsSome (slice_get (map f hs) i) → i < length hs
get-in f [] i h = absurd (false≢true h)
get-in f (x ∷ hs) zero h = omega arith
get-in f (x ∷ hs) (suc i) h = let r = get-in f hs i h in omega arith

-- a number that names a clause
pub number-in : (f : Held → List Lit) (hs : List Held) (n : ℕ) → IsSome (named (map f hs) n) → (0 < n) × (n - 1 < length hs)
number-in f hs zero h = absurd (false≢true h)
number-in f hs (suc n) h = (omega arith, (let r = get-in f hs n h in omega arith))

pub get_or-map : {A B : Type 0} (f : A → B) (xs : List A) (i : ℕ) (d : A) (e : B) → i < length xs → get_or (map f xs) i e ≡ f (get_or xs i d)
get_or-map f [] i d e h = absurd (omega arith)
get_or-map f (x ∷ xs) zero d e h = refl
get_or-map f (x ∷ xs) (suc i) d e h = get_or-map f xs i d e (omega arith)
