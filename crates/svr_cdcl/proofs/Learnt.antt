-- A search with one clause more
use Rattle.std.proofs.Common.{◌≡◌, ℕ, ◌+◌, ◌*◌, ◌<◌, List, [], ◌∷◌, ◌++◌, length, map, refl, ap, sym, subst, ◌∙◌, Option, Some, None, get_or, take}
use Rattle.std.specs.Prelude.{IfSome, IfNone}
use Rattle.std.proofs.lemmas.List.{length-map}
use Rattle.svr_arena.specs.Arena.{AreLits}
use Rattle.svr_chain.specs.declared.clause.Lit.{Lit}
use Rattle.svr_chain.specs.Clauses.{AreWithin, has}
use Rattle.svr_chain.specs.Log.{named}
use Rattle.svr_chain.specs.Same.{SameLits}
use Rattle.svr_chain.proofs.ClauseLemmas.{named-last}
use Rattle.svr_trail.specs.Trail.{Forces, IsGrown, IsQuiet, IsUnit}
use Rattle.svr_trail.proofs.Grown.{grown-none, grown-push}
use Rattle.svr_trail.proofs.Trails.{same-quiet}
use Rattle.svr_watch.specs.Codes.{lit_of}
use Rattle.svr_watch.specs.Store.{StoreView, clauses_of, held_lits}
use Rattle.svr_watch.specs.Watch.{after_force}
use Rattle.svr_watch.proofs.Learned.{lits-within}
use Rattle.svr_cdcl.specs.Search.{SearchView, IsSearch}
use Rattle.svr_cdcl.proofs.Levels.{kept-clause, kept-force}

-- the number that the next clause of a store has
pub next-number : (a : StoreView) (n : ℕ) → n ≡ length a.held + 1 → n ≡ length (clauses_of a) + 1
next-number a n e = e ∙ ap (λ z. z + 1) (sym (length-map a.held (held_lits a.arena)))

-- the literals of a clause in the order in which they are watched, by their numbers
pub record Ranked (s : SearchView) (ys xs : List ℕ) : Type 0 where
  pub lits : AreLits (2 * s.vars) xs
  pub same : SameLits (map lit_of xs) (map lit_of ys)
  pub within : AreWithin s.vars (map lit_of xs)
  pub quiet : (j : ℕ) → j < length s.ends → IsQuiet (take (get_or s.ends j 0) s.entries) (map lit_of xs)

pub ranked : (s : SearchView) (ys zs xs : List ℕ) → zs ≡ ys → ((n : ℕ) → AreLits n zs → AreLits n xs) → SameLits (map lit_of xs) (map lit_of zs) → AreLits (2 * s.vars) ys
    → ((j : ℕ) → j < length s.ends → IsQuiet (take (get_or s.ends j 0) s.entries) (map lit_of ys)) → Ranked s ys xs
ranked s ys zs xs e l m a q = record {
  lits = kept;
  same = alike;
  within = lits-within s.vars (2 * s.vars) xs refl kept.below;
  quiet = λ j h. same-quiet (take (get_or s.ends j 0) s.entries) (map lit_of ys) (map lit_of xs) (λ x. sym (alike x)) (q j h);
}
  where
    kept : AreLits (2 * s.vars) xs
    kept = l (2 * s.vars) (subst (AreLits (2 * s.vars)) (sym e) a)

    alike : SameLits (map lit_of xs) (map lit_of ys)
    alike x = m x ∙ ap (λ z. has (map lit_of z) x) e

-- a clause that joins a search: its number, and the literal that it forces
pub record Joins (s : SearchView) (c : List Lit) (forced : Option Lit) (n : ℕ) : Type 0 where
  pub number : n ≡ length s.clauses + 1
  pub within : AreWithin s.vars c
  pub quiet : (j : ℕ) → j < length s.ends → IsQuiet (take (get_or s.ends j 0) s.entries) c
  pub some : IfSome forced (IsUnit s.entries c)
  pub none : IfNone forced ((p : Lit) → IsUnit s.entries c p → ⊥)

-- a clause more, and the literal that it forces
module _ (s : SearchView) (k : IsSearch s) (c : List Lit) (forced : Option Lit) (n : ℕ) (t : Joins s c forced n) where
  more : IsSearch (record s { clauses = s.clauses ++ c ∷ [] })
  more = kept-clause s c k t.within t.quiet

  forces : (p : Lit) → IsUnit s.entries c p → Forces (s.clauses ++ c ∷ []) s.entries p n
  forces p u = (c, ap (named (s.clauses ++ c ∷ [])) t.number ∙ named-last s.clauses c, u.1, u.2)

  pub learned-search : IsSearch (record s { clauses = s.clauses ++ c ∷ []; entries = after_force s.entries forced n })
  learned-search = goes forced t.some
    where
      goes : (o : Option Lit) → IfSome o (IsUnit s.entries c) → IsSearch (record s { clauses = s.clauses ++ c ∷ []; entries = after_force s.entries o n })
      goes None u = more
      goes (Some p) u = kept-force (record s { clauses = s.clauses ++ c ∷ [] }) p n more (forces p u)

  pub learned-grown : IsGrown (s.clauses ++ c ∷ []) s.entries (after_force s.entries forced n)
  learned-grown = goes forced t.some
    where
      goes : (o : Option Lit) → IfSome o (IsUnit s.entries c) → IsGrown (s.clauses ++ c ∷ []) s.entries (after_force s.entries o n)
      goes None u = grown-none (s.clauses ++ c ∷ []) s.entries more.reasons
      goes (Some p) u = grown-push (s.clauses ++ c ∷ []) s.entries s.entries p n (grown-none (s.clauses ++ c ∷ []) s.entries more.reasons) (forces p u)
