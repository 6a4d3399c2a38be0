-- Two logs, and the lines that they make, as worked out by hand
use Rattle.std.specs.Prelude.{ℕ, true, false, List, [], ◌∷◌}
use Rattle.svr_chain.specs.declared.clause.Lit.{Lit}
use Rattle.svr_chain.specs.declared.log.Link.{Link}
use Rattle.svr_chain.specs.Views.{StepView}
use Rattle.svr_lrat_file.specs.declared.file.Line.{Line}
use Rattle.svr_lrat_file.specs.declared.file.Line.TheVariants as l
use Rattle.svr_lrat_made.specs.Made.{hint}

abbrev pub pos : ℕ → Lit
pos v = record { var = v; neg = false }

abbrev pub neg : ℕ → Lit
neg v = record { var = v; neg = true }

abbrev pub link : Lit → ℕ → Link
link p n = record { pivot = p; clause = n }

abbrev pub step : ℕ → List Link → StepView
step n links = record { start = n; links = links }

-- 1: a or b, 2: not a or b, 3: not b
abbrev pub clauses : List (List Lit)
clauses = (pos 1 ∷ pos 2 ∷ []) ∷ (neg 1 ∷ pos 2 ∷ []) ∷ (neg 2 ∷ []) ∷ []

-- 4: b, 5: nothing is left
abbrev pub steps : List StepView
steps = step 1 (link (pos 1) 2 ∷ []) ∷ step 4 (link (pos 2) 3 ∷ []) ∷ []

abbrev pub lines : List Line
lines = l.Lemma 4 (pos 2 ∷ []) (hint 2 ∷ hint 1 ∷ []) ∷ l.Lemma 5 [] (hint 3 ∷ hint 4 ∷ []) ∷ []

-- 1: a or b, 2: not a or b, 3: a or c. The negation of b is assumed
abbrev pub open_clauses : List (List Lit)
open_clauses = (pos 1 ∷ pos 2 ∷ []) ∷ (neg 1 ∷ pos 2 ∷ []) ∷ (pos 1 ∷ pos 3 ∷ []) ∷ []

-- 4: b or c, on which nothing depends, and 5: b, the goal
abbrev pub open_steps : List StepView
open_steps = step 3 (link (pos 1) 2 ∷ []) ∷ step 1 (link (pos 1) 2 ∷ []) ∷ []

-- clause 4 of the file is the unit clause of what is assumed
abbrev pub open_lines : List Line
open_lines = l.Lemma 5 (pos 2 ∷ []) (hint 2 ∷ hint 1 ∷ []) ∷ l.Lemma 6 [] (hint 4 ∷ hint 5 ∷ []) ∷ []
