-- The hinted derivation that a log is
use Rattle.std.specs.Prelude.{ℕ, ◌+◌, ◌-◌, Bool, true, false, nat_le, List, [], ◌∷◌, ◌++◌, length, map, fold, reverse, slice_index, unwrap_or, if◌then◌else◌}
use Rattle.std.specs.List.{position_or_len}
use Rattle.svr_chain.specs.declared.clause.Lit.{Lit}
use Rattle.svr_chain.specs.declared.log.Link.{Link}
use Rattle.svr_chain.specs.Clauses.{same_lit, flip, resolvent}
use Rattle.svr_chain.specs.Views.{StepView}
use Rattle.svr_chain.specs.Log.{named}
use Rattle.svr_lrat_file.specs.declared.file.Number.{Number}
use Rattle.svr_lrat_file.specs.declared.file.Line.{Line}
use Rattle.svr_lrat_file.specs.declared.file.Line.TheVariants as l
use Rattle.svr_lrat_file.specs.Views.{FileView}
use Rattle.svr_lrat_judge.specs.Verdict.{is_nil}
use Rattle.svr_lrat_made.specs.Needed.{needed}

-- ---- clauses

-- the clause of a number, empty where there is none
abbrev pub clause_at : List (List Lit) → ℕ → List Lit
clause_at ks n = unwrap_or (named ks n) []

abbrev pub with_link : List (List Lit) → List Lit → Link → List Lit
with_link ks c l = resolvent c l.pivot (clause_at ks l.clause)

-- what a chain derives, link by link
abbrev pub resolved : List (List Lit) → StepView → List Lit
resolved ks s = fold (with_link ks) (clause_at ks s.start) s.links

abbrev pub with_step : List (List Lit) → StepView → List (List Lit)
with_step ks s = ks ++ resolved ks s ∷ []

-- the clauses of the formula and those of the steps
abbrev pub with_steps : List (List Lit) → List StepView → List (List Lit)
with_steps ks steps = fold with_step ks steps

-- ---- numbers

-- the needed steps are numbered on from the last number: which is the last behind each step
abbrev pub numbered : ℕ → List Bool → List ℕ
numbered last [] = []
numbered last (true ∷ marks) = (last + 1) ∷ numbered (last + 1) marks
numbered last (false ∷ marks) = last ∷ numbered last marks

-- the number in the file of a clause of the log. One of the formula keeps its own, so many of which there are
abbrev pub new_number : ℕ → List ℕ → ℕ → ℕ
new_number inputs ids n = if nat_le n inputs then n else slice_index ids (n - inputs - 1)

-- ---- lines

abbrev pub hint : ℕ → Number
hint n = record { negative = false; size = n }

abbrev pub link_hint : (ℕ → ℕ) → Link → Number
link_hint number l = hint (number l.clause)

-- the linked clauses from the last to the first, and then the start
abbrev pub hints_of : (ℕ → ℕ) → StepView → List Number
hints_of number s = map (link_hint number) (reverse s.links) ++ hint (number s.start) ∷ []

-- the line of a step whose clause is this one, of this number in the log
abbrev pub lemma_of : (ℕ → ℕ) → ℕ → List Lit → StepView → Line
lemma_of number n c s = l.Lemma (number n) c (hints_of number s)

-- the line of a step behind these clauses
abbrev pub line_of : (ℕ → ℕ) → List (List Lit) → StepView → Line
line_of number ks s = lemma_of number (length ks + 1) (resolved ks s) s

abbrev pub if_needed : Bool → Line → List Line
if_needed true x = x ∷ []
if_needed false x = []

-- the lines of the needed steps
abbrev pub lines_of : (ℕ → ℕ) → List (List Lit) → List Bool → List StepView → List Line
lines_of number ks marks [] = []
lines_of number ks [] (s ∷ steps) = []
lines_of number ks (m ∷ marks) (s ∷ steps) = if_needed m (line_of number ks s) ++ lines_of number (with_step ks s) marks steps

-- the place of the first literal of its kind
abbrev pub place_of : List Lit → Lit → ℕ
place_of assume x = position_or_len (λ y. same_lit y x) assume

-- the number of the unit clause that denies a literal, behind the clauses of the formula
abbrev pub denying : ℕ → List Lit → Lit → ℕ
denying inputs assume x = inputs + place_of assume (flip x) + 1

abbrev pub denying_hint : ℕ → List Lit → Lit → Number
denying_hint inputs assume x = hint (denying inputs assume x)

-- the units that deny the literals of the goal, and the goal
abbrev pub last_hints : ℕ → List Lit → ℕ → List Lit → List Number
last_hints inputs assume goal c = map (denying_hint inputs assume) c ++ hint goal ∷ []

-- a line with no literal, where the clause of the goal has some
abbrev pub last_line : ℕ → ℕ → List Lit → ℕ → List Lit → List Line
last_line id inputs assume goal c = if is_nil c then [] else l.Lemma id [] (last_hints inputs assume goal c) ∷ []

-- ---- files

abbrev pub unit_of : Lit → List Lit
unit_of x = x ∷ []

-- the clauses of the formula, and a unit clause for each assumed literal
abbrev pub with_units : List (List Lit) → List Lit → List (List Lit)
with_units ks assume = ks ++ map unit_of assume

-- which steps of a log over these clauses are needed for its goal
abbrev pub marks_of : List (List Lit) → List StepView → ℕ → List Bool
marks_of ks steps goal = needed goal (length ks + 1) steps

abbrev pub number_of : List (List Lit) → List Lit → List StepView → ℕ → ℕ → ℕ
number_of ks assume steps goal = new_number (length ks) (numbered (length ks + length assume) (marks_of ks steps goal))

abbrev pub step_lines : List (List Lit) → List Lit → List StepView → ℕ → List Line
step_lines ks assume steps goal = lines_of (number_of ks assume steps goal) ks (marks_of ks steps goal) steps

-- the line behind so many lines
abbrev pub goal_line : List (List Lit) → List Lit → List StepView → ℕ → ℕ → List Line
goal_line ks assume steps goal count =
    last_line (length ks + length assume + count + 1) (length ks) assume (number_of ks assume steps goal goal) (clause_at (with_steps ks steps) goal)

-- the lines of the needed steps, and a last one where the goal is not empty
abbrev pub all_lines : List (List Lit) → List Lit → List StepView → ℕ → List Line
all_lines ks assume steps goal = step_lines ks assume steps goal ++ goal_line ks assume steps goal (length (step_lines ks assume steps goal))

-- the derivation from the clauses and the assumed literals that the steps up to the goal are
abbrev pub file_of : ℕ → List (List Lit) → List Lit → List StepView → ℕ → FileView
file_of vars ks assume steps goal = record { vars = vars; clauses = with_units ks assume; lines = all_lines ks assume steps goal }
