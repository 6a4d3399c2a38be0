-- Answers of a solver
use Rattle.std.specs.Prelude.{◌≡◌, ℕ, ◌+◌, ◌≤◌, Bool, true, List, [], Option, None, length, take, IsSome}
use Rattle.std.specs.List.{list_all}
use Rattle.svr_chain.specs.declared.clause.Lit.{Lit}
use Rattle.svr_chain.specs.declared.log.Verdict.TheVariants.{Accepted}
use Rattle.svr_chain.specs.Views.{StepView, RefutationView}
use Rattle.svr_chain.specs.Log.{verdict_of}
use Rattle.svr_chain.specs.Valuations.{lit_value, Meets}
use Rattle.svr_query.specs.declared.solver.Answer.{Answer}
use Rattle.svr_query.specs.declared.solver.Answer.TheVariants.{Satisfied, Refuted, Spent}
use Rattle.svr_query.specs.Logged.{valuation_of}
use Rattle.svr_query.specs.Bits.{AreMany}

-- what contracts see of a solver: its formula, the steps that it derived, and how many bits it was given, where it was
pub record SolverView : Type 0 where
  pub vars : ℕ
  pub clauses : List (List Lit)
  pub steps : List StepView
  pub bits : Option ℕ

-- a solver with so many variables, over these clauses
abbrev pub solver_of : ℕ → List (List Lit) → List StepView → Option ℕ → SolverView
solver_of vars clauses steps bits = record { vars = vars; clauses = clauses; steps = steps; bits = bits }

-- the log refutes: it has a goal, and is accepted with it
abbrev pub IsRefutation : List (List Lit) → List Lit → RefutationView → Type 0
IsRefutation ks assume log = IsSome log.goal × (verdict_of ks assume log.steps log.goal ≡ Accepted)

-- the log spends the budget from place `first` on: it is accepted without a goal, and has that many steps more
pub record SpendsBudget (ks : List (List Lit)) (budget first : ℕ) (log : RefutationView) : Type 0 where
  pub none : log.goal ≡ None
  pub accepted : verdict_of ks [] log.steps None ≡ Accepted
  pub spent : first + budget ≤ length log.steps

-- a question to the solver may be given up
abbrev pub MaySpend : SolverView → ℕ → Type 0
MaySpend s budget = AreMany s.bits budget

-- the values meet the clauses and the assumed literals
abbrev pub IsModel : List (List Lit) → List Lit → List Bool → Type 0
IsModel ks assume values = Meets (valuation_of values) ks × (list_all (lit_value (valuation_of values)) assume ≡ true)

-- the answer is these values
abbrev pub AreGiven : List Bool → Answer → Type 0
AreGiven values (Satisfied vs) = vs.items ≡ values
AreGiven values (Refuted log) = ⊥
AreGiven values (Spent log first) = ⊥

-- what an answer says of the solver as it was and the question
abbrev pub IsAnswer : SolverView → List Lit → ℕ → Answer → Type 0
IsAnswer s assume budget (Satisfied values) =
    (length values.items ≡ s.vars) × IsModel s.clauses assume values.items
IsAnswer s assume budget (Refuted log) = IsRefutation s.clauses assume log
IsAnswer s assume budget (Spent log first) =
    SpendsBudget s.clauses budget first log
    × (first ≡ length s.steps)
    × (take first log.steps ≡ s.steps)
    × MaySpend s budget
