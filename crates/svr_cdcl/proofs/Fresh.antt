-- A search with no literal set
use Rattle.std.proofs.Common.{◌≡◌, ℕ, List, [], sym, subst, arith}
use Rattle.std.specs.List.{All}
use Rattle.svr_chain.specs.declared.clause.Lit.{Lit}
use Rattle.svr_chain.specs.Clauses.{AreWithin}
use Rattle.svr_chain.specs.Same.{SameClauses}
use Rattle.svr_chain.proofs.Same.{same-back}
use Rattle.svr_trail.specs.Trail.{TrailView}
use Rattle.svr_trail.proofs.Trails.{same-are_in}
use Rattle.svr_watch.specs.Store.{StoreView, clauses_of}
use Rattle.svr_watch.specs.Watch.{IsWatchedSearch}
use Rattle.svr_watch.proofs.Fresh.{fresh-watched}
use Rattle.svr_cdcl.specs.Search.{IsSearch}

pub fresh-search : (s : StoreView) (vars : ℕ) (ks : List (List Lit)) (t : TrailView) (ends heads : List ℕ) → t ≡ record { vars = vars; entries = [] } → ends ≡ [] → heads ≡ []
    → SameClauses (clauses_of s) ks → All (AreWithin vars) ks
    → IsSearch (record { vars = t.vars; clauses = clauses_of s; entries = t.entries; ends = ends }) × IsWatchedSearch s t.entries ends heads 0 0
fresh-search s vars ks t ends heads e p q m w =
    subst (λ (z : TrailView). IsSearch (record { vars = z.vars; clauses = clauses_of s; entries = z.entries; ends = ends }) × IsWatchedSearch s z.entries ends heads 0 0) (sym e)
    (subst (λ z. IsSearch (record { vars = vars; clauses = clauses_of s; entries = []; ends = z }) × IsWatchedSearch s [] z heads 0 0) (sym p)
    (subst (λ z. IsSearch (record { vars = vars; clauses = clauses_of s; entries = []; ends = [] }) × IsWatchedSearch s [] [] z 0 0) (sym q) (a, fresh-watched s)))
  where
    a : IsSearch (record { vars = vars; clauses = clauses_of s; entries = []; ends = [] })
    a = record {
      within = same-are_in vars ks (clauses_of s) (same-back (clauses_of s) ks m) w;
      reasons = λ i d h. absurd (omega arith);
      short = λ j h. absurd (omega arith);
      rising = λ j k h o. absurd (omega arith);
      above = λ j h. absurd (omega arith);
      decided = λ j d h. absurd (omega arith);
      starts = λ i d h. absurd (omega arith);
      closed = λ j h. absurd (omega arith);
    }
