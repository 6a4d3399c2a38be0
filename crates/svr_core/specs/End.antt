-- What the search for a core comes to
use Rattle.std.specs.Prelude.{◌≡◌, ℕ, ◌≤◌, ◌++◌, List, [], length}
use Rattle.svr_chain.specs.declared.clause.Lit.{Lit}
use Rattle.svr_query.specs.Answer.{SolverView, IsModel, IsRefutation, SpendsBudget, MaySpend}
use Rattle.svr_core.specs.declared.search.CoreEnd.{CoreEnd}
use Rattle.svr_core.specs.declared.search.CoreEnd.TheVariants.{Met, Refuted, Spent}
use Rattle.svr_core.specs.Groups.{lits_of, with_groups}
use Rattle.svr_core.specs.Cores.{IsCore, CanHold, ArePlaces, AreNeeded, places_of}

abbrev pub IsCoreEnd : SolverView → List Lit → List (List Lit) → ℕ → CoreEnd → Type 0
IsCoreEnd s base groups budget (Met values) = (length values.items ≡ s.vars) × IsModel s.clauses (base ++ lits_of groups) values.items
IsCoreEnd s base groups budget (Refuted core refutation) =
    ArePlaces 0 (length groups) (places_of core.items)
    × IsCore (CanHold s.clauses base groups) (length groups) [] (places_of core.items)
    × AreNeeded s.vars s.clauses base groups core.items
    × IsRefutation s.clauses (with_groups base groups (places_of core.items)) refutation
IsCoreEnd s base groups budget (Spent log first) = SpendsBudget s.clauses budget first log × (length s.steps ≤ first) × MaySpend s budget
