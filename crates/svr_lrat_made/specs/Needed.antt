-- The steps of a log on which its goal depends
use Rattle.std.specs.Prelude.{ℕ, ◌+◌, Bool, false, ◌&&◌, ◌||◌, nat_eq, List, [], ◌∷◌}
use Rattle.std.specs.List.{list_any}
use Rattle.svr_chain.specs.declared.log.Link.{Link}
use Rattle.svr_chain.specs.Views.{StepView}

-- a step uses a clause where it starts from it or links it
abbrev pub uses : StepView → ℕ → Bool
uses s n = nat_eq s.start n || list_any (λ (l : Link). nat_eq l.clause n) s.links

-- one of the marked steps uses it
abbrev pub is_used : List StepView → List Bool → ℕ → Bool
is_used [] marks n = false
is_used (s ∷ steps) [] n = false
is_used (s ∷ steps) (m ∷ marks) n = (m && uses s n) || is_used steps marks n

-- the clause is the goal, or one of the marked steps behind uses it
abbrev pub is_needed : ℕ → List StepView → List Bool → ℕ → Bool
is_needed goal steps marks n = nat_eq goal n || is_used steps marks n

-- which steps are needed, the first of which has the clause n: those with the goal, and those that a needed step behind uses
abbrev pub needed : ℕ → ℕ → List StepView → List Bool
needed goal n [] = []
needed goal n (s ∷ steps) = is_needed goal steps (needed goal (n + 1) steps) n ∷ needed goal (n + 1) steps
