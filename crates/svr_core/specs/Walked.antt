-- How far the walk from the last group to the first has come
use Rattle.std.specs.Prelude.{◌≡◌, ℕ, ◌≤◌, List, [], length}
use Rattle.std.specs.List.{All}
use Rattle.svr_chain.specs.declared.clause.Lit.{Lit}
use Rattle.svr_chain.specs.Views.{RefutationView}
use Rattle.svr_query.specs.Answer.{SolverView, IsModel, IsRefutation}
use Rattle.svr_core.specs.declared.search.Needed.{Needed}
use Rattle.svr_core.specs.Groups.{asked, others}
use Rattle.svr_core.specs.Cores.{IsCore, CanHold, ArePlaces, places_of}

-- the values of each group meet the groups before place n too
abbrev pub AreNeededFrom : ℕ → List (List Lit) → List Lit → List (List Lit) → ℕ → List Needed → Type 0
AreNeededFrom vars ks base groups n core = All (λ (c : Needed). (length c.values ≡ vars) × IsModel ks (asked base groups n (others c.place (places_of core))) c.values) core

-- the groups from place n on were looked at, and those of the core are needed; the log refutes what is left
pub record IsWalked (s : SolverView) (base : List Lit) (groups : List (List Lit)) (n : ℕ) (core : List Needed) (log : RefutationView) : Type 0 where
  pub low : n ≤ length groups
  pub places : ArePlaces n (length groups) (places_of core)
  pub looked : (all : List ℕ) → IsCore (CanHold s.clauses base groups) n (places_of core) all → IsCore (CanHold s.clauses base groups) (length groups) [] all
  pub needed : AreNeededFrom s.vars s.clauses base groups n core
  pub refuted : IsRefutation s.clauses (asked base groups n (places_of core)) log
