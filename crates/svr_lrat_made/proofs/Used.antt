-- Each line but the last is a hint of a later one
use Rattle.std.proofs.Common.{◌≡◌, ℕ, ◌+◌, ◌<◌, Bool, true, false, ◌||◌, nat_eq, List, [], ◌∷◌, ◌++◌, length, map, refl, sym, ap, ◌∙◌, inl, inr, arith}
use mathlib.Core.List.{reverse_aux}
use Rattle.std.specs.Prelude.{◌⊎◌}
use Rattle.std.specs.List.{list_any}
use Rattle.std.proofs.lemmas.Bool.{and_from, or_cases, or_left, or_right, or_from, eq-eqb, eqb-true, ne_eqb, false≢true}
use Rattle.std.proofs.lemmas.List.{length_push}
use Rattle.std.proofs.lemmas.List.Folds.{list_any-append}
use Rattle.svr_chain.specs.declared.clause.Lit.{Lit}
use Rattle.svr_chain.specs.declared.log.Link.{Link}
use Rattle.svr_chain.specs.Views.{StepView}
use Rattle.svr_lrat_file.specs.declared.file.Line.{Line}
use Rattle.svr_lrat_made.specs.Needed.{uses, is_used, is_needed, needed}
use Rattle.svr_lrat_made.specs.Made.{resolved, with_step, with_steps, clause_at, hint, link_hint, line_of, if_needed, lines_of, denying_hint, last_line, number_of, step_lines, goal_line, all_lines}
use Rattle.svr_lrat_made.specs.Leads.{names, has_hint, is_hint_of, is_last, each_leads_on}

any-right : {A : Type 0} (p : A → Bool) (xs ys : List A) → list_any p ys ≡ true → list_any p (xs ++ ys) ≡ true
any-right p xs ys e = list_any-append p xs ys ∙ or_right (list_any p xs) (list_any p ys) e

any-left : {A : Type 0} (p : A → Bool) (xs ys : List A) → list_any p xs ≡ true → list_any p (xs ++ ys) ≡ true
any-left p xs ys e = list_any-append p xs ys ∙ or_left (list_any p xs) (list_any p ys) e

module _ (number : ℕ → ℕ) where
  -- ---- the hints of a step

  renamed : (k n : ℕ) → nat_eq k n ≡ true → names (number n) (hint (number k)) ≡ true
  renamed k n e = eq-eqb (number k) (number n) (ap number (eqb-true k n e))

  kept-hint : (n : ℕ) (ls acc : List Link) → list_any (names (number n)) (map (link_hint number) acc) ≡ true → list_any (names (number n)) (map (link_hint number) (reverse_aux ls acc)) ≡ true
  kept-hint n [] acc e = e
  kept-hint n (x ∷ ls) acc e = kept-hint n ls (x ∷ acc) (or_right (names (number n) (link_hint number x)) (list_any (names (number n)) (map (link_hint number) acc)) e)

  link-hinted : (n : ℕ) (ls acc : List Link) → list_any (λ (x : Link). nat_eq x.clause n) ls ≡ true → list_any (names (number n)) (map (link_hint number) (reverse_aux ls acc)) ≡ true
  link-hinted n [] acc e = absurd (false≢true e)
  link-hinted n (x ∷ ls) acc e =
      elim (or_cases (nat_eq x.clause n) (list_any (λ (y : Link). nat_eq y.clause n) ls) e) [
        | inl a ↦ kept-hint n ls (x ∷ acc) (or_left (names (number n) (link_hint number x)) (list_any (names (number n)) (map (link_hint number) acc)) (renamed x.clause n a))
        | inr a ↦ link-hinted n ls (x ∷ acc) a
      ]

  -- a clause that a step uses is a hint of its line
  hinted : (n : ℕ) (ks : List (List Lit)) (s : StepView) → uses s n ≡ true → has_hint (number n) (line_of number ks s) ≡ true
  hinted n ks s e =
      elim (or_cases (nat_eq s.start n) (list_any (λ (x : Link). nat_eq x.clause n) s.links) e) [
        | inl a ↦ any-right (names (number n)) (map (link_hint number) (reverse_aux s.links [])) (hint (number s.start) ∷ []) (or_left (names (number n) (hint (number s.start))) false (renamed s.start n a))
        | inr a ↦ any-left (names (number n)) (map (link_hint number) (reverse_aux s.links [])) (hint (number s.start) ∷ []) (link-hinted n s.links [] a)
      ]

  -- a clause that a marked step uses is a hint of one of the lines
  used-hinted : (n : ℕ) (steps : List StepView) (marks : List Bool) (ks : List (List Lit)) → is_used steps marks n ≡ true → list_any (has_hint (number n)) (lines_of number ks marks steps) ≡ true
  used-hinted n [] marks ks e = absurd (false≢true e)
  used-hinted n (s ∷ steps) [] ks e = absurd (false≢true e)
  used-hinted n (s ∷ steps) (false ∷ marks) ks e = used-hinted n steps marks (with_step ks s) e
  used-hinted n (s ∷ steps) (true ∷ marks) ks e =
      elim (or_cases (uses s n) (is_used steps marks n) e) [
        | inl a ↦ or_left (has_hint (number n) (line_of number ks s)) (list_any (has_hint (number n)) (lines_of number (with_step ks s) marks steps)) (hinted n ks s a)
        | inr a ↦ or_right (has_hint (number n) (line_of number ks s)) (list_any (has_hint (number n)) (lines_of number (with_step ks s) marks steps)) (used-hinted n steps marks (with_step ks s) a)
      ]

-- ---- behind the goal no step is needed

abbrev IsNone : List Bool → Type 0
IsNone [] = Unit {0}
IsNone (m ∷ marks) = (m ≡ false) × IsNone marks

none-used : (steps : List StepView) (marks : List Bool) (n : ℕ) → IsNone marks → is_used steps marks n ≡ false
none-used [] marks n z = refl
none-used (s ∷ steps) [] n z = refl
none-used (s ∷ steps) (true ∷ marks) n z = absurd (false≢true (sym z.0))
none-used (s ∷ steps) (false ∷ marks) n z = none-used steps marks n z.1

none-behind : (goal : ℕ) (steps : List StepView) (n : ℕ) → goal < n → IsNone (needed goal n steps)
none-behind goal [] n h = tt
none-behind goal (s ∷ steps) n h =
    let rest : IsNone (needed goal (n + 1) steps) = none-behind goal steps (n + 1) (omega arith) in
    (or_from (nat_eq goal n) (is_used steps (needed goal (n + 1) steps) n) (ne_eqb goal n (λ e. absurd (omega arith))) (none-used steps (needed goal (n + 1) steps) n rest), rest)

none-lines : (number : ℕ → ℕ) (steps : List StepView) (marks : List Bool) (ks : List (List Lit)) → IsNone marks → lines_of number ks marks steps ≡ []
none-lines number [] marks ks z = refl
none-lines number (s ∷ steps) [] ks z = refl
none-lines number (s ∷ steps) (true ∷ marks) ks z = absurd (false≢true (sym z.0))
none-lines number (s ∷ steps) (false ∷ marks) ks z = none-lines number steps marks (with_step ks s) z.1

-- ---- all lines

module _ (number : ℕ → ℕ) (goal : ℕ) (last : List Line) where
  -- there is no last line, or it has the goal as a hint
  abbrev Closes : Type 0
  Closes = (last ≡ []) ⊎ ((list_any (has_hint (number goal)) last ≡ true) × (each_leads_on last ≡ true))

  closed : Closes → each_leads_on last ≡ true
  closed c = elim c [ inl e ↦ ap each_leads_on e | inr p ↦ p.1 ]

  by-hint : (n : ℕ) (ks : List (List Lit)) (s : StepView) (ls : List Line) → n ≡ length ks + 1 → list_any (has_hint (number n)) ls ≡ true → (is_last ls || is_hint_of (line_of number ks s) ls) ≡ true
  by-hint n ks s ls q e = or_right (is_last ls) (list_any (has_hint (number (length ks + 1))) ls) (ap (λ k. list_any (has_hint (number k)) ls) (sym q) ∙ e)

  at-goal : (n : ℕ) (ks : List (List Lit)) (s : StepView) (rest : List Line) → n ≡ length ks + 1 → goal ≡ n → rest ≡ [] → Closes → (is_last (rest ++ last) || is_hint_of (line_of number ks s) (rest ++ last)) ≡ true
  at-goal n ks s rest q e none (inl z) = or_left (is_last (rest ++ last)) (is_hint_of (line_of number ks s) (rest ++ last)) (ap (λ xs. is_last (xs ++ last)) none ∙ ap is_last z)
  at-goal n ks s rest q e none (inr p) = by-hint n ks s (rest ++ last) q (any-right (has_hint (number n)) rest last (ap (λ k. list_any (has_hint (number k)) last) (sym e) ∙ p.0))

  lead-one : (m : Bool) (n : ℕ) (ks : List (List Lit)) (s : StepView) (steps : List StepView) → is_needed goal steps (needed goal (n + 1) steps) n ≡ m → n ≡ length ks + 1 → Closes
      → each_leads_on (lines_of number (with_step ks s) (needed goal (n + 1) steps) steps ++ last) ≡ true
      → each_leads_on ((if_needed m (line_of number ks s) ++ lines_of number (with_step ks s) (needed goal (n + 1) steps) steps) ++ last) ≡ true
  lead-one false n ks s steps m q c h = h
  lead-one true n ks s steps m q c h =
      let rest : List Line = lines_of number (with_step ks s) (needed goal (n + 1) steps) steps in
      let here : (is_last (rest ++ last) || is_hint_of (line_of number ks s) (rest ++ last)) ≡ true =
      elim (or_cases (nat_eq goal n) (is_used steps (needed goal (n + 1) steps) n) m) [
        | inl e ↦
            let g : goal ≡ n = eqb-true goal n e in
            at-goal n ks s rest q g (none-lines number steps (needed goal (n + 1) steps) (with_step ks s) (none-behind goal steps (n + 1) (omega arith))) c
        | inr e ↦ by-hint n ks s (rest ++ last) q (any-left (has_hint (number n)) rest last (used-hinted number n steps (needed goal (n + 1) steps) (with_step ks s) e))
      ] in
      and_from (is_last (rest ++ last) || is_hint_of (line_of number ks s) (rest ++ last)) (each_leads_on (rest ++ last)) here h

  lead : (steps : List StepView) (n : ℕ) (ks : List (List Lit)) → n ≡ length ks + 1 → Closes → each_leads_on (lines_of number ks (needed goal n steps) steps ++ last) ≡ true
  lead [] n ks q c = closed c
  lead (s ∷ steps) n ks q c =
      let long : length (with_step ks s) ≡ length ks + 1 = length_push ks (resolved ks s) in
      lead-one (is_needed goal steps (needed goal (n + 1) steps) n) n ks s steps refl q c (lead steps (n + 1) (with_step ks s) (omega arith) c)

line-closes : (number : ℕ → ℕ) (goal id inputs : ℕ) (assume c : List Lit) → Closes number goal (last_line id inputs assume (number goal) c)
line-closes number goal id inputs assume [] = inl refl
line-closes number goal id inputs assume (x ∷ c) =
    inr (
      or_left (list_any (names (number goal)) (map (denying_hint inputs assume) (x ∷ c) ++ hint (number goal) ∷ [])) false
          (any-right (names (number goal)) (map (denying_hint inputs assume) (x ∷ c)) (hint (number goal) ∷ []) (or_left (names (number goal) (hint (number goal))) false (eq-eqb (number goal) (number goal) refl))),
      refl,
    )

-- each line of a log's file but the last is a hint of a later one
pub each_leads : (ks : List (List Lit)) (assume : List Lit) (steps : List StepView) (goal : ℕ) → each_leads_on (all_lines ks assume steps goal) ≡ true
each_leads ks assume steps goal =
    lead (number_of ks assume steps goal) goal (goal_line ks assume steps goal (length (step_lines ks assume steps goal))) steps (length ks + 1) ks refl
    (line-closes (number_of ks assume steps goal) goal (length ks + length assume + length (step_lines ks assume steps goal) + 1) (length ks) assume (clause_at (with_steps ks steps) goal))
