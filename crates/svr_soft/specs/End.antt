-- What the pass comes to
use Rattle.std.specs.Prelude.{◌≡◌, ℕ, ◌-◌, ◌<◌, ◌≤◌, Bool, List, [], Option, Some, None, length}
use Rattle.svr_chain.specs.declared.clause.Lit.{Lit}
use Rattle.svr_chain.specs.Valuations.{HaveNoValuation}
use Rattle.svr_query.specs.Answer.{SolverView, IsModel, IsRefutation, SpendsBudget, MaySpend}
use Rattle.svr_soft.specs.declared.priority.PassEnd.{PassEnd}
use Rattle.svr_soft.specs.declared.priority.PassEnd.TheVariants.{Done, BaseRefuted, Spent}
use Rattle.svr_soft.specs.Kept.{HaveValuation, with_kept, IsKept, AreDropped}

-- the question of that rank comes next, that of the base alone where there is none
abbrev pub IsReached : List (List Lit) → List Lit → List Lit → Option ℕ → Type 0
IsReached ks base soft None = Unit {0}
IsReached ks base soft (Some rank) = (0 < rank) × (rank ≤ length soft) × HaveValuation ks base × ((kept : List ℕ) × IsKept ks base soft (rank - 1) kept)

abbrev pub IsPassEnd : SolverView → List Lit → List Lit → ℕ → PassEnd → Type 0
IsPassEnd s base soft budget (Done kept dropped values) =
    IsKept s.clauses base soft (length soft) kept.items
    × AreDropped s.clauses base soft (length soft) kept.items dropped.items
    × (length values.items ≡ s.vars)
    × IsModel s.clauses (with_kept base soft kept.items) values.items
IsPassEnd s base soft budget (BaseRefuted log) = HaveNoValuation s.clauses base × IsRefutation s.clauses base log
IsPassEnd s base soft budget (Spent rank log first) =
    IsReached s.clauses base soft rank
    × SpendsBudget s.clauses budget first log
    × (length s.steps ≤ first)
    × MaySpend s budget

-- all literals are kept, and the values are these
abbrev pub AllKeptBy : List Bool → PassEnd → Type 0
AllKeptBy wishes (Done kept dropped values) = (dropped.items ≡ []) × (values.items ≡ wishes)
AllKeptBy wishes (BaseRefuted log) = ⊥
AllKeptBy wishes (Spent rank log first) = ⊥
