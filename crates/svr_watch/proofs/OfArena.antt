-- The clauses of a search and those of its arena
use Rattle.std.proofs.Common.{◌≡◌, ℕ, suc, zero, true, false, List, [], ◌∷◌, refl, ap, sym, ◌∙◌, Some, None, map, inl, inr}
use Rattle.std.specs.List.{slice_get}
use Rattle.std.proofs.lemmas.Bool.{both_ways}
use Rattle.svr_arena.specs.Layout.{names, is_in}
use Rattle.svr_arena.specs.Arena.{body}
use Rattle.svr_chain.specs.declared.clause.Lit.{Lit}
use Rattle.svr_chain.specs.Clauses.{is_tautology}
use Rattle.svr_watch.specs.declared.store.Held.{Held}
use Rattle.svr_watch.specs.declared.store.Held.TheVariants.{Watched, Apart}
use Rattle.svr_watch.specs.Codes.{lit_of}
use Rattle.svr_watch.specs.Store.{StoreView, IsStore, is_short, clauses_of, held_lits}
use Rattle.svr_watch.specs.ArenaOf.{IsArenaOf}

pub get-over : (f : Held → List Lit) (hs : List Held) (i : ℕ) (h : Held) → slice_get hs i ≡ Some h → slice_get (map f hs) i ≡ Some (f h)
get-over f [] i h e = absurd (let z : None ≡ Some h = e in cc)
get-over f (x ∷ hs) zero h e = let q : x ≡ h = (let z : Some x ≡ Some h = e in cc) in ap (λ z. Some (f z)) q
get-over f (x ∷ hs) (suc i) h e = get-over f hs i h e

get-back : (f : Held → List Lit) (hs : List Held) (i : ℕ) (k : List Lit) → slice_get (map f hs) i ≡ Some k → (h : Held) × (slice_get hs i ≡ Some h) × (f h ≡ k)
get-back f [] i k e = absurd (let z : None ≡ Some k = e in cc)
get-back f (x ∷ hs) zero k e = (x, refl, (let z : Some (f x) ≡ Some k = e in cc))
get-back f (x ∷ hs) (suc i) k e = get-back f hs i k e

pub arena-of : (s : StoreView) → IsStore s → IsArenaOf (clauses_of s) s.arena
arena-of s st = record {
  known = st.arena;
  attached = st.attached;
  held = λ c i. let z = st.held_at c i in (z.0, get-over (held_lits s.arena) s.held z.0 (Watched c) z.1);
  all = λ i k e t h. let z = get-back (held_lits s.arena) s.held i k e in goes i k t h z.0 z.1 z.2;
}
  where
    goes : (i : ℕ) (k : List Lit) → is_tautology k ≡ false → is_short k ≡ false → (h : Held) → slice_get s.held i ≡ Some h → held_lits s.arena h ≡ k
        → (c : ℕ) × (is_in c (names s.arena) ≡ true) × (k ≡ map lit_of (body s.arena c))
    goes i k t h (Watched c) e q = (c, st.placed i c e, sym q)
    goes i k t h (Apart d) e q =
        elim (st.apart i d e) [
          | inl y ↦ absurd (both_ways (is_tautology k) t (ap is_tautology (sym q) ∙ y))
          | inr y ↦ absurd (both_ways (is_short k) h (ap is_short (sym q) ∙ y))
        ]
