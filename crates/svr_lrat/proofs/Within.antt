-- The derivation of a log within the limits is within the limits
use Rattle.std.proofs.Common.{◌≡◌, ℕ, ◌+◌, ◌<◌, ◌≤◌, Bool, true, false, not, ◌&&◌, nat_lt, nat_le, List, [], ◌∷◌, length, map, Option, Some, None, Ok, All, refl, ap, ◌∙◌, arith, unwrap_or, IsSome}
use Rattle.std.specs.List.{list_all}
use Rattle.std.proofs.lemmas.Bool.{and_parts, and_from, lt-ltb, le-leb, leb-true, false≢true}
use Rattle.std.proofs.lemmas.List.{length-append, length-map}
use Rattle.std.proofs.lemmas.List.Folds.{list_all-append}
use Rattle.std.proofs.lemmas.List.Elements.{All-head, All-tail, All-push}
use Rattle.svr_chain.specs.declared.clause.Lit.{Lit}
use Rattle.svr_chain.specs.declared.log.Verdict.TheVariants as log_is
use Rattle.svr_chain.specs.Views.{StepView}
use Rattle.svr_chain.specs.Clauses.{IsWithin, AreWithin}
use Rattle.svr_chain.specs.Log as chain
use Rattle.svr_chain.specs.Log.{after_steps}
use Rattle.svr_chain.proofs.ClauseLemmas.{within-derived}
use Rattle.svr_lrat_file.specs.declared.file.Number.{Number}
use Rattle.svr_lrat_file.specs.declared.file.Line.{Line}
use Rattle.svr_lrat_file.specs.declared.file.Line.TheVariants as l
use Rattle.svr_lrat_text.specs.declared.limits.TheConstants.{MOST_COUNT, MOST_ID}
use Rattle.svr_lrat_text.specs.File.{lit_number, unsigned, fits, is_form, is_entry, is_lit, is_clause, is_id, is_line, is_file}
use Rattle.svr_lrat_made.specs.Made.{resolved, with_step, line_of, if_needed, lines_of, last_line, unit_of, with_units, with_steps, clause_at, marks_of, number_of, step_lines, goal_line, all_lines, file_of}
use Rattle.svr_lrat_made.specs.Leads.{is_counted, is_numbered}
use Rattle.svr_lrat_made.proofs.Accepted.{steps-on, Refutes, refutes, numbered_file}
use Rattle.svr_lrat.specs.Limits.{AreWithinLimits}

-- ---- literals

module _ (vars : ℕ) where
  lit-within : (x : Lit) → IsWithin vars x → is_lit true vars x ≡ true
  lit-within x w =
      and_from (is_form true (lit_number x)) (fits true x.var vars) (and_from (nat_lt 0 x.var) true (lt-ltb 0 x.var w.0) refl) (le-leb x.var vars w.1)

  clause-within : (c : List Lit) → AreWithin vars c → is_clause true vars c ≡ true
  clause-within [] w = refl
  clause-within (x ∷ c) w =
      and_from (is_lit true vars x) (is_clause true vars c) (lit-within x (All-head (IsWithin vars) x c w)) (clause-within c (All-tail (IsWithin vars) x c w))

  clauses-within : (ks : List (List Lit)) → All (AreWithin vars) ks → list_all (is_clause true vars) ks ≡ true
  clauses-within [] w = refl
  clauses-within (c ∷ ks) w =
      and_from (is_clause true vars c) (list_all (is_clause true vars) ks) (clause-within c (All-head (AreWithin vars) c ks w)) (clauses-within ks (All-tail (AreWithin vars) c ks w))

  units-within : (assume : List Lit) → AreWithin vars assume → list_all (is_clause true vars) (map unit_of assume) ≡ true
  units-within [] w = refl
  units-within (x ∷ assume) w =
      and_from (is_clause true vars (unit_of x)) (list_all (is_clause true vars) (map unit_of assume))
      (and_from (is_lit true vars x) true (lit-within x (All-head (IsWithin vars) x assume w)) refl)
      (units-within assume (All-tail (IsWithin vars) x assume w))

  -- ---- lines

  -- a lemma over the variables
  abbrev is_over : Line → Bool
  is_over (l.Lemma id lits hints) = is_clause true vars lits
  is_over (l.Delete id ids) = true

  steps-over : (number : ℕ → ℕ) (steps : List StepView) (ks : List (List Lit)) (i : ℕ) (marks : List Bool) (known : List (List Lit)) → All (AreWithin vars) ks → after_steps ks i steps ≡ Ok known
      → list_all is_over (lines_of number ks marks steps) ≡ true
  steps-over number [] ks i marks known w g = refl
  steps-over number (s ∷ steps) ks i [] known w g = refl
  steps-over number (s ∷ steps) ks i (m ∷ marks) known w g =
      let on = steps-on ks i s steps known g in
      let over : AreWithin vars (resolved ks s) = within-derived vars ks s (resolved ks s) w on.here in
      list_all-append is_over (if_needed m (line_of number ks s)) (lines_of number (with_step ks s) marks steps)
      ∙ and_from (list_all is_over (if_needed m (line_of number ks s))) (list_all is_over (lines_of number (with_step ks s) marks steps)) (one m over)
      (steps-over number steps (with_step ks s) (i + 1) marks known (All-push (AreWithin vars) ks (resolved ks s) w over) on.rest)
    where
      one : (b : Bool) → AreWithin vars (resolved ks s) → list_all is_over (if_needed b (line_of number ks s)) ≡ true
      one true o = and_from (is_clause true vars (resolved ks s)) true (clause-within (resolved ks s) o) refl
      one false o = refl

  last-over : (id inputs : ℕ) (assume : List Lit) (goal : ℕ) (c : List Lit) → list_all is_over (last_line id inputs assume goal c) ≡ true
  last-over id inputs assume goal [] = refl
  last-over id inputs assume goal (x ∷ c) = refl

  hints-within : (most : ℕ) (ns : List Number) → most ≤ MOST_ID → list_all (is_counted most) ns ≡ true → list_all (is_entry true MOST_ID true) ns ≡ true
  hints-within most [] h e = refl
  hints-within most (n ∷ ns) h e =
      let p = and_parts (is_counted most n) (list_all (is_counted most) ns) e in
      let q = and_parts (not n.negative) (nat_lt 0 n.size && nat_le n.size most) p.0 in
      let r = and_parts (nat_lt 0 n.size) (nat_le n.size most) q.1 in
      let k : n.size ≤ most = leb-true n.size most r.1 in
      and_from (is_entry true MOST_ID true n) (list_all (is_entry true MOST_ID true) ns)
      (and_from (is_form true n) (fits true n.size MOST_ID) (and_from (nat_lt 0 n.size) true r.0 refl) (le-leb n.size MOST_ID (omega arith)))
      (hints-within most ns h p.1)

  lines-within : (most : ℕ) (lines : List Line) → most ≤ MOST_ID → list_all (is_numbered most) lines ≡ true → list_all is_over lines ≡ true → list_all (is_line true vars) lines ≡ true
  lines-within most [] h e o = refl
  lines-within most (l.Delete id ids ∷ lines) h e o = absurd (false≢true e)
  lines-within most (l.Lemma id lits hints ∷ lines) h e o =
      let p = and_parts ((nat_lt 0 id && nat_le id most) && list_all (is_counted most) hints) (list_all (is_numbered most) lines) e in
      let q = and_parts (nat_lt 0 id && nat_le id most) (list_all (is_counted most) hints) p.0 in
      let r = and_parts (nat_lt 0 id) (nat_le id most) q.0 in
      let k : id ≤ most = leb-true id most r.1 in
      let x = and_parts (is_clause true vars lits) (list_all is_over lines) o in
      and_from (is_line true vars (l.Lemma id lits hints)) (list_all (is_line true vars) lines)
      (and_from (is_id true id) (is_clause true vars lits && list_all (is_entry true MOST_ID true) hints)
      (and_from (is_form false (unsigned id)) (fits true id MOST_ID) (and_from (nat_lt 0 id) true r.0 refl) (le-leb id MOST_ID (omega arith)))
      (and_from (is_clause true vars lits) (list_all (is_entry true MOST_ID true) hints) x.0 (hints-within most hints h q.1)))
      (lines-within most lines h p.1 x.1)

-- ---- how many lines there are

length-marked : (number : ℕ → ℕ) (steps : List StepView) (ks : List (List Lit)) (marks : List Bool) → length (lines_of number ks marks steps) ≤ length steps
length-marked number [] ks marks = omega arith
length-marked number (s ∷ steps) ks [] = omega arith
length-marked number (s ∷ steps) ks (true ∷ marks) = let h : length (lines_of number (with_step ks s) marks steps) ≤ length steps = length-marked number steps (with_step ks s) marks in omega arith
length-marked number (s ∷ steps) ks (false ∷ marks) = let h : length (lines_of number (with_step ks s) marks steps) ≤ length steps = length-marked number steps (with_step ks s) marks in omega arith

length-last : (id inputs : ℕ) (assume : List Lit) (goal : ℕ) (c : List Lit) → length (last_line id inputs assume goal c) ≤ 1
length-last id inputs assume goal [] = omega arith
length-last id inputs assume goal (x ∷ c) = omega arith

module _ (vars : ℕ) (ks : List (List Lit)) (assume : List Lit) (steps : List StepView) where
  few-lines : (goal : ℕ) → length (all_lines ks assume steps goal) ≤ length steps + 1
  few-lines goal =
      let number : ℕ → ℕ = number_of ks assume steps goal in
      let a : length (step_lines ks assume steps goal) ≤ length steps = length-marked number steps ks (marks_of ks steps goal) in
      let b : length (goal_line ks assume steps goal (length (step_lines ks assume steps goal))) ≤ 1 =
      length-last (length ks + length assume + length (step_lines ks assume steps goal) + 1) (length ks) assume (number goal) (clause_at (with_steps ks steps) goal) in
      let c : length (all_lines ks assume steps goal) ≡ length (step_lines ks assume steps goal) + length (goal_line ks assume steps goal (length (step_lines ks assume steps goal))) =
      length-append (step_lines ks assume steps goal) (goal_line ks assume steps goal (length (step_lines ks assume steps goal))) in
      omega arith

  length-all : length (with_units ks assume) ≡ length ks + length assume
  length-all = length-append ks (map unit_of assume) ∙ ap (λ n. length ks + n) (length-map assume unit_of)

  lines-over : (goal : ℕ) → Refutes ks assume steps goal → AreWithinLimits vars ks assume steps → list_all (is_over vars) (all_lines ks assume steps goal) ≡ true
  lines-over goal r w =
      list_all-append (is_over vars) (step_lines ks assume steps goal) (goal_line ks assume steps goal (length (step_lines ks assume steps goal)))
      ∙ and_from (list_all (is_over vars) (step_lines ks assume steps goal)) (list_all (is_over vars) (goal_line ks assume steps goal (length (step_lines ks assume steps goal))))
      (steps-over vars (number_of ks assume steps goal) steps ks 1 (marks_of ks steps goal) r.known w.clauses_over r.derives)
      (last-over vars (length ks + length assume + length (step_lines ks assume steps goal) + 1) (length ks) assume (number_of ks assume steps goal goal) (clause_at (with_steps ks steps) goal))

  within-goal : (goal : ℕ) → chain.verdict_of ks assume steps (Some goal) ≡ log_is.Accepted → AreWithinLimits vars ks assume steps → is_file true (file_of vars ks assume steps goal) ≡ true
  within-goal goal e w =
      let long : length (with_units ks assume) ≡ length ks + length assume = length-all in
      let few : length (all_lines ks assume steps goal) ≤ length steps + 1 = few-lines goal in
      let vars_few : vars ≤ MOST_COUNT = w.few_vars in
      let clauses_few : length ks + length assume ≤ MOST_COUNT = w.few_clauses in
      let steps_few : length ks + length assume + length steps < MOST_ID = w.few_steps in
      and_from (fits true vars MOST_COUNT && fits true (length (with_units ks assume)) MOST_COUNT) (list_all (is_clause true vars) (with_units ks assume) && list_all (is_line true vars) (all_lines ks assume steps goal))
      (and_from (fits true vars MOST_COUNT) (fits true (length (with_units ks assume)) MOST_COUNT) (le-leb vars MOST_COUNT vars_few) (le-leb (length (with_units ks assume)) MOST_COUNT (omega arith)))
      (and_from (list_all (is_clause true vars) (with_units ks assume)) (list_all (is_line true vars) (all_lines ks assume steps goal))
      (list_all-append (is_clause true vars) ks (map unit_of assume)
      ∙ and_from (list_all (is_clause true vars) ks) (list_all (is_clause true vars) (map unit_of assume)) (clauses-within vars ks w.clauses_over) (units-within vars assume w.assume_over))
      (lines-within vars (length (with_units ks assume) + length (all_lines ks assume steps goal)) (all_lines ks assume steps goal) (omega arith)
      (numbered_file ks assume steps (Some goal) refl e) (lines-over goal (refutes ks assume steps goal e) w)))

-- the file of a log that is accepted with its goal is within the limits
pub file_within : (vars : ℕ) (ks : List (List Lit)) (assume : List Lit) (steps : List StepView) (goal : Option ℕ) → IsSome goal → chain.verdict_of ks assume steps goal ≡ log_is.Accepted
    → AreWithinLimits vars ks assume steps → is_file true (file_of vars ks assume steps (unwrap_or goal 0)) ≡ true
file_within vars ks assume steps None s e w = absurd (false≢true s)
file_within vars ks assume steps (Some goal) s e w = within-goal vars ks assume steps goal e w
