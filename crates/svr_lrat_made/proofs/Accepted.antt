-- The verdict on the lines that an accepted log makes
use Rattle.std.proofs.Common.{◌≡◌, ℕ, suc, zero, ◌+◌, ◌-◌, ◌<◌, ◌≤◌, Bool, true, false, ◌&&◌, ◌||◌, not, nat_eq, nat_lt, nat_le, cond, List, [], ◌∷◌, ◌++◌, length, map, fold, drop, get_or, Option, Some, None, Result, Ok, Err, refl, sym, ap, ◌∙◌, subst, inl, inr, arith, unwrap_or, IsSome, slice_index}
use Rattle.std.specs.List.{list_all, slice_get}
use Rattle.std.proofs.lemmas.Bool.{cases_Bool, cases_eq, cond-true, cond-false, and_parts, or_cases, or_left, or_right, eq-eqb, le-leb, lt-ltb, lt-leb, and_from, leb-true, not_from_true, not_from_false, false≢true, both_ways}
use Rattle.std.proofs.lemmas.List.{length_push, length-append, length-map, get_or-drop, drop-drop}
use Rattle.std.proofs.lemmas.List.Folds.{list_all-append}
use Rattle.std.proofs.lemmas.Option.{none-some, slice_get_within}
use Rattle.svr_chain.specs.declared.clause.Lit.{Lit}
use Rattle.svr_chain.specs.declared.log.Reason.{Reason}
use Rattle.svr_chain.specs.declared.log.Reason.TheVariants.{Tautology, Repeated, NotGoal}
use Rattle.svr_chain.specs.declared.log.Verdict.TheVariants as log_is
use Rattle.svr_chain.specs.Views.{StepView}
use Rattle.svr_chain.specs.Clauses.{same_lit, flip, has, is_tautology}
use Rattle.svr_chain.specs.Log as chain
use Rattle.svr_chain.specs.Log.{named, derived, judged, is_repeated, step_result, after_steps, are_denied, is_denied, goal_verdict}
use Rattle.svr_chain.proofs.Sound.{same_lit-true}
use Rattle.svr_chain.proofs.ClauseLemmas.{named-last}
use Rattle.svr_lrat_file.specs.declared.file.Number.{Number}
use Rattle.svr_lrat_file.specs.declared.file.Line.{Line}
use Rattle.svr_lrat_file.specs.declared.file.Line.TheVariants as l
use Rattle.svr_lrat_judge.specs.declared.verdict.LratVerdict.TheVariants as says
use Rattle.svr_lrat_judge.specs.Verdict as judge
use Rattle.svr_lrat_judge.specs.Verdict.{State, start, with_input, after_line, hints_fault, verdict_at}
use Rattle.svr_lrat_made.specs.Needed.{uses, is_used, is_needed, needed}
use Rattle.svr_lrat_made.specs.Made.{clause_at, resolved, with_step, with_steps, numbered, new_number, hint, hints_of, line_of, if_needed, lines_of, place_of, denying, denying_hint, last_hints, last_line, unit_of, with_units, marks_of, number_of, step_lines, goal_line, all_lines, file_of}
use Rattle.svr_lrat_made.specs.Leads.{is_counted, is_numbered}
use Rattle.svr_lrat_made.proofs.Chains.{Denies, shown, one-left, has-longer, has-last, resolved-step, step-shown, uses-named, all-hints}
use Rattle.svr_lrat_made.proofs.Tables.{IsTable, named-before, named-kept, last-is, table-formula, table-line, denies-self}

-- ---- what an accepted log says

judged-ok : (ks : List (List Lit)) (c : List Lit) (r : Result (List Lit) Reason) → judged ks r ≡ Ok c → r ≡ Ok c
judged-ok ks c (Err e) g = g
judged-ok ks c (Ok d) g = goes (is_tautology d) (is_repeated ks d) g
  where
    goes : (a b : Bool) → cond a (Err Tautology) (cond b (Err Repeated) (Ok d)) ≡ Ok c → ◌≡◌ {A = Result (List Lit) Reason} (Ok d) (Ok c)
    goes true b k = absurd (let z : Err Tautology ≡ Ok c = k in cc)
    goes false true k = absurd (let z : Err Repeated ≡ Ok c = k in cc)
    goes false false k = k

-- the first step derives its clause, and the rest goes on from there
pub record StepsOn (ks : List (List Lit)) (i : ℕ) (s : StepView) (steps : List StepView) (known : List (List Lit)) : Type 0 where
  pub here : derived ks s ≡ Ok (resolved ks s)
  pub rest : after_steps (with_step ks s) (i + 1) steps ≡ Ok known

pub steps-on : (ks : List (List Lit)) (i : ℕ) (s : StepView) (steps : List StepView) (known : List (List Lit)) → after_steps ks i (s ∷ steps) ≡ Ok known → StepsOn ks i s steps known
steps-on ks i s steps known g = goes (step_result ks s) (λ c e. judged-ok ks c (derived ks s) e) g
  where
    goes : (r : Result (List Lit) Reason) → ((c : List Lit) → r ≡ Ok c → derived ks s ≡ Ok c)
        → ◌≡◌ {A = Result (List (List Lit)) (ℕ × Reason)} (elim r [ Ok c ↦ after_steps (ks ++ c ∷ []) (i + 1) steps | Err e ↦ Err (i, e) ]) (Ok known) → StepsOn ks i s steps known
    goes (Err e) f k = absurd (let z : Err (i, e) ≡ Ok known = k in cc)
    goes (Ok c) f k =
        let w : c ≡ resolved ks s = resolved-step ks c s (f c refl) in
        record {
          here = f c refl ∙ ap (λ z. Ok z) w;
          rest = subst (λ z. after_steps (ks ++ z ∷ []) (i + 1) steps ≡ Ok known) w k;
        }

with-steps-known : (steps : List StepView) (ks : List (List Lit)) (i : ℕ) (known : List (List Lit)) → after_steps ks i steps ≡ Ok known → with_steps ks steps ≡ known
with-steps-known [] ks i known g = let w : ks ≡ known = cc in w
with-steps-known (s ∷ steps) ks i known g = with-steps-known steps (with_step ks s) (i + 1) known (steps-on ks i s steps known g).rest

-- ---- numbers

-- the number of each needed step is one more than the last
abbrev Fits : (ℕ → ℕ) → ℕ → ℕ → List Bool → Type 0
Fits number n last [] = Unit {0}
Fits number n last (true ∷ marks) = (number n ≡ last + 1) × Fits number (n + 1) (last + 1) marks
Fits number n last (false ∷ marks) = Fits number (n + 1) last marks

module _ (inputs : ℕ) (ids : List ℕ) where
  behind-rest : (j x : ℕ) (xs : List ℕ) → drop j ids ≡ x ∷ xs → drop (j + 1) ids ≡ xs
  behind-rest j x xs h = sym (drop-drop 1 j ids) ∙ ap (drop 1) h

  number-at : (n j x : ℕ) (xs : List ℕ) → n ≡ inputs + j + 1 → drop j ids ≡ x ∷ xs → new_number inputs ids n ≡ x
  number-at n j x xs q h =
      let past : nat_le n inputs ≡ false = lt-leb n inputs (omega arith) in
      let place : n - inputs - 1 ≡ j = omega arith in
      let same : j ≡ j + 0 = omega arith in
      cond-false (nat_le n inputs) n (slice_index ids (n - inputs - 1)) past
      ∙ ap (λ k. get_or ids k 0) (place ∙ same)
      ∙ sym (get_or-drop j ids 0 0)
      ∙ ap (λ xs. get_or xs 0 0) h

  pub numbers-fit : (marks : List Bool) (n j last : ℕ) → n ≡ inputs + j + 1 → drop j ids ≡ numbered last marks → Fits (new_number inputs ids) n last marks
  numbers-fit [] n j last q h = tt
  numbers-fit (true ∷ marks) n j last q h = (
    number-at n j (last + 1) (numbered (last + 1) marks) q h,
    numbers-fit marks (n + 1) (j + 1) (last + 1) (omega arith) (behind-rest j (last + 1) (numbered (last + 1) marks) h),
  )
  numbers-fit (false ∷ marks) n j last q h =
      numbers-fit marks (n + 1) (j + 1) last (omega arith) (behind-rest j last (numbered last marks) h)

-- ---- clauses that stand there

named-within : (ks : List (List Lit)) (n : ℕ) (c : List Lit) → named ks n ≡ Some c → n ≤ length ks
named-within ks zero c e = absurd (none-some c e)
named-within ks (suc n) c e = let h : n < length ks = slice_get_within ks n c e in omega arith

named-positive : (ks : List (List Lit)) (n : ℕ) (c : List Lit) → named ks n ≡ Some c → 0 < n
named-positive ks zero c e = absurd (none-some c e)
named-positive ks (suc n) c e = omega arith

-- their numbers are counted
counted : (fs : List (List Lit)) (n : ℕ) (c : List Lit) (most : ℕ) → length fs ≤ most → named fs n ≡ Some c → is_counted most (hint n) ≡ true
counted fs n c most h e =
    let low : 0 < n = named-positive fs n c e in
    let high : n ≤ length fs = named-within fs n c e in
    and_from (nat_lt 0 n) (nat_le n most) (lt-ltb 0 n low) (le-leb n most (omega arith))

-- ---- the lines of the steps

module _ (number : ℕ → ℕ) (goal : ℕ) where
  -- the clauses that are needed stand in the file under their new numbers
  abbrev Follows : List (List Lit) → List (List Lit) → List StepView → List Bool → Type 0
  Follows ks fs steps marks = (k : ℕ) (c : List Lit) → is_needed goal steps marks k ≡ true → named ks k ≡ Some c → named fs (number k) ≡ Some c

  -- the lines are run through, and the goal is reached
  pub record Runs (known fs : List (List Lit)) (s : State) (lines : List Line) : Type 0 where
    pub clauses : List (List Lit)
    pub table : IsTable s clauses
    pub reached : (c : List Lit) → named known goal ≡ Some c → named clauses (number goal) ≡ Some c
    pub kept : (n : ℕ) (c : List Lit) → named fs n ≡ Some c → named clauses n ≡ Some c
    pub long : length clauses ≡ length fs + length lines
    pub small : list_all (is_numbered (length clauses)) lines ≡ true

  module _ (ks fs : List (List Lit)) (s : StepView) (steps : List StepView) (marks : List Bool) (n : ℕ) where
    -- a step that is not needed
    follows-unmarked : n ≡ length ks + 1 → is_needed goal steps marks n ≡ false → Follows ks fs (s ∷ steps) (false ∷ marks) → Follows (with_step ks s) fs steps marks
    follows-unmarked q m f k c e g =
        elim (cases_eq (length ks + 1) k) [
          | inl i ↦ absurd (both_ways (is_needed goal steps marks k) (ap (is_needed goal steps marks) (sym (q ∙ i)) ∙ m) e)
          | inr ne ↦ f k c e (named-before ks (resolved ks s) k c g ne)
        ]

    needed-behind : (k : ℕ) → is_needed goal steps marks k ≡ true → is_needed goal (s ∷ steps) (true ∷ marks) k ≡ true
    needed-behind k e =
        elim (or_cases (nat_eq goal k) (is_used steps marks k) e) [
          | inl a ↦ or_left (nat_eq goal k) (uses s k || is_used steps marks k) a
          | inr a ↦ or_right (nat_eq goal k) (uses s k || is_used steps marks k) (or_right (uses s k) (is_used steps marks k) a)
        ]

    needed-by : (k : ℕ) → uses s k ≡ true → is_needed goal (s ∷ steps) (true ∷ marks) k ≡ true
    needed-by k e = or_right (nat_eq goal k) (uses s k || is_used steps marks k) (or_left (uses s k) (is_used steps marks k) e)

    follows-marked : n ≡ length ks + 1 → number n ≡ length fs + 1 → Follows ks fs (s ∷ steps) (true ∷ marks) → Follows (with_step ks s) (fs ++ resolved ks s ∷ []) steps marks
    follows-marked q m f k c e g =
        elim (cases_eq (length ks + 1) k) [
          | inl i ↦
              ap (named (fs ++ resolved ks s ∷ [])) (ap number (sym (q ∙ i)) ∙ m) ∙ named-last fs (resolved ks s) ∙ ap (λ z. Some z) (last-is ks (resolved ks s) k c i g)
          | inr ne ↦ named-kept fs (resolved ks s ∷ []) (number k) c (f k c (needed-behind k e) (named-before ks (resolved ks s) k c g ne))
        ]

  -- the hints of a step are the numbers of clauses that stand there
  hints-counted : (ks fs : List (List Lit)) (s : StepView) (most : ℕ) → derived ks s ≡ Ok (resolved ks s) → length fs ≤ most
      → ((k : ℕ) (c : List Lit) → uses s k ≡ true → named ks k ≡ Some c → named fs (number k) ≡ Some c) → list_all (is_counted most) (hints_of number s) ≡ true
  hints-counted ks fs s most d h f =
      all-hints (is_counted most) number s (λ k u. let e = uses-named ks (resolved ks s) s d k u in counted fs (number k) e.0 most h (f k e.0 u e.1))

  -- one more step, where the rest runs through
  module _ (known ks fs : List (List Lit)) (s : StepView) (steps : List StepView) (marks : List Bool) (n : ℕ) (st : State) where
    run-needed : n ≡ length ks + 1 → derived ks s ≡ Ok (resolved ks s)
        → number n ≡ length fs + 1 → ((k : ℕ) (c : List Lit) → uses s k ≡ true → named ks k ≡ Some c → named fs (number k) ≡ Some c)
        → Runs known (fs ++ resolved ks s ∷ []) (fold after_line (after_line st (line_of number ks s)) (lines_of number (with_step ks s) marks steps)) (lines_of number (with_step ks s) marks steps)
        → Runs known fs (fold after_line (after_line st (line_of number ks s)) (lines_of number (with_step ks s) marks steps)) (line_of number ks s ∷ lines_of number (with_step ks s) marks steps)
    run-needed q d m f r =
        let a : length (fs ++ resolved ks s ∷ []) ≡ length fs + 1 = length_push fs (resolved ks s) in
        let b : length r.clauses ≡ length (fs ++ resolved ks s ∷ []) + length (lines_of number (with_step ks s) marks steps) = r.long in
        let id : number (length ks + 1) ≡ length fs + 1 = ap number (sym q) ∙ m in
        record {
          clauses = r.clauses;
          table = r.table;
          reached = r.reached;
          kept = λ k c e. r.kept k c (named-kept fs (resolved ks s ∷ []) k c e);
          long = omega arith;
          small = and_from (is_numbered (length r.clauses) (line_of number ks s)) (list_all (is_numbered (length r.clauses)) (lines_of number (with_step ks s) marks steps))
              (and_from (nat_lt 0 (number (length ks + 1)) && nat_le (number (length ks + 1)) (length r.clauses)) (list_all (is_counted (length r.clauses)) (hints_of number s))
              (and_from (nat_lt 0 (number (length ks + 1))) (nat_le (number (length ks + 1)) (length r.clauses)) (lt-ltb 0 (number (length ks + 1)) (omega arith)) (le-leb (number (length ks + 1)) (length r.clauses) (omega arith)))
              (hints-counted ks fs s (length r.clauses) d (omega arith) f))
              r.small;
        }

    run-one : (m : Bool) → is_needed goal steps marks n ≡ m → n ≡ length ks + 1 → derived ks s ≡ Ok (resolved ks s) → IsTable st fs
        → Fits number n (length fs) (m ∷ marks) → Follows ks fs (s ∷ steps) (m ∷ marks)
        → ((gs : List (List Lit)) (u : State) → IsTable u gs → Fits number (n + 1) (length gs) marks → Follows (with_step ks s) gs steps marks
        → Runs known gs (fold after_line u (lines_of number (with_step ks s) marks steps)) (lines_of number (with_step ks s) marks steps))
        → Runs known fs (fold after_line st (if_needed m (line_of number ks s) ++ lines_of number (with_step ks s) marks steps)) (if_needed m (line_of number ks s) ++ lines_of number (with_step ks s) marks steps)
    run-one false m q d t fit f go = go fs st t fit (follows-unmarked ks fs s steps marks n q m f)
    run-one true m q d t fit f go =
        let used : (k : ℕ) (c : List Lit) → uses s k ≡ true → named ks k ≡ Some c → named fs (number k) ≡ Some c = λ k c u g. f k c (needed-by ks fs s steps marks n k u) g in
        let hinted : hints_fault st.live (map flip (resolved ks s)) (hints_of number s) ≡ None =
        step-shown ks (resolved ks s) st.live number s (map flip (resolved ks s)) d (λ k c u g. t.live (number k) c (used k c u g)) (denies-self (resolved ks s)) in
        run-needed q d fit.0 used
        (go (fs ++ resolved ks s ∷ []) (after_line st (line_of number ks s))
        (table-line st fs (number (length ks + 1)) (resolved ks s) (hints_of number s) (ap number (sym q) ∙ fit.0) hinted t)
        (subst (λ z. Fits number (n + 1) z marks) (sym (length_push fs (resolved ks s))) fit.1)
        (follows-marked ks fs s steps marks n q fit.0 f))

  pub run : (known : List (List Lit)) (steps : List StepView) (ks fs : List (List Lit)) (n i : ℕ) (st : State) → n ≡ length ks + 1 → after_steps ks i steps ≡ Ok known → IsTable st fs
      → Fits number n (length fs) (needed goal n steps) → Follows ks fs steps (needed goal n steps)
      → Runs known fs (fold after_line st (lines_of number ks (needed goal n steps) steps)) (lines_of number ks (needed goal n steps) steps)
  run known [] ks fs n i st q g t fit f =
      let w : ks ≡ known = cc in
      record {
        clauses = fs;
        table = t;
        reached = λ c e. f goal c (or_left (nat_eq goal goal) false (eq-eqb goal goal refl)) (ap (λ z. named z goal) w ∙ e);
        kept = λ m c e. e;
        long = omega arith;
        small = refl;
      }
  run known (s ∷ steps) ks fs n i st q g t fit f =
      let on = steps-on ks i s steps known g in
      let long : length (with_step ks s) ≡ length ks + 1 = length_push ks (resolved ks s) in
      run-one known ks fs s steps (needed goal (n + 1) steps) n st (is_needed goal steps (needed goal (n + 1) steps) n) refl q on.here t fit f
      (λ gs u tu fitu fu. run known steps (with_step ks s) gs (n + 1) (i + 1) u (omega arith) on.rest tu fitu fu)

-- ---- the beginning

number-kept : (inputs : ℕ) (ids : List ℕ) (n : ℕ) → n ≤ inputs → new_number inputs ids n ≡ n
number-kept inputs ids n h = cond-true (nat_le n inputs) n (slice_index ids (n - inputs - 1)) (le-leb n inputs h)

length-units : (ks : List (List Lit)) (assume : List Lit) → length (with_units ks assume) ≡ length ks + length assume
length-units ks assume = length-append ks (map unit_of assume) ∙ ap (λ n. length ks + n) (length-map assume unit_of)

follows-formula : (ks : List (List Lit)) (assume : List Lit) (ids : List ℕ) (goal : ℕ) (steps : List StepView) (marks : List Bool)
    → Follows (new_number (length ks) ids) goal ks (with_units ks assume) steps marks
follows-formula ks assume ids goal steps marks k c e g =
    ap (named (with_units ks assume)) (number-kept (length ks) ids k (named-within ks k c g)) ∙ named-kept ks (map unit_of assume) k c g

-- ---- the end

get-behind : (ks gs : List (List Lit)) (p : ℕ) → slice_get (ks ++ gs) (length ks + p) ≡ slice_get gs p
get-behind [] gs p = ap (slice_get gs) (let e : zero + p ≡ p = omega arith in e)
get-behind (k ∷ ks) gs p = ap (slice_get ((k ∷ ks) ++ gs)) (let e : suc (length ks) + p ≡ suc (length ks + p) = omega arith in e) ∙ get-behind ks gs p

unit-found : (assume : List Lit) (x : Lit) → has assume x ≡ true → slice_get (map unit_of assume) (place_of assume x) ≡ Some (unit_of x)
unit-found [] x h = absurd (false≢true h)
unit-found (y ∷ assume) x h =
    elim (cases_Bool (same_lit y x)) [
      | inl e ↦
          ap (slice_get (map unit_of (y ∷ assume))) (cond-false (not (same_lit y x)) (1 + place_of assume x) 0 (not_from_true (same_lit y x) e))
          ∙ ap (λ z. Some (unit_of z)) (same_lit-true y x e)
      | inr e ↦
          elim (or_cases (same_lit y x) (has assume x) h) [
            | inl a ↦ absurd (both_ways (same_lit y x) e a)
            | inr a ↦
                ap (slice_get (map unit_of (y ∷ assume))) (cond-true (not (same_lit y x)) (1 + place_of assume x) 0 (not_from_false (same_lit y x) e) ∙ (let k : 1 + place_of assume x ≡ suc (place_of assume x) = omega arith in k))
                ∙ unit-found assume x a
          ]
    ]

unit-named : (ks : List (List Lit)) (assume : List Lit) (x : Lit) → has assume (flip x) ≡ true → named (with_units ks assume) (denying (length ks) assume x) ≡ Some (unit_of (flip x))
unit-named ks assume x h =
    ap (named (with_units ks assume)) (let k : denying (length ks) assume x ≡ suc (length ks + place_of assume (flip x)) = omega arith in k)
    ∙ get-behind ks (map unit_of assume) (place_of assume (flip x))
    ∙ unit-found assume (flip x) h

module _ (live : ℕ → Option (List Lit)) (inputs : ℕ) (assume : List Lit) (tail : List Number) where
  -- the units make the literals of a clause false, one by one
  denied : (todo known : List Lit) → list_all (λ x. has assume (flip x)) todo ≡ true
      → ((x : Lit) → has assume (flip x) ≡ true → live (denying inputs assume x) ≡ Some (unit_of (flip x)))
      → ((z : List Lit) → ((x : Lit) → has known x ≡ true → has z x ≡ true) → Denies z todo → hints_fault live z tail ≡ None)
      → hints_fault live known (map (denying_hint inputs assume) todo ++ tail) ≡ None
  denied [] known a f go = go known (λ x e. e) (λ x e. absurd (false≢true e))
  denied (x ∷ todo) known a f go =
      let p = and_parts (has assume (flip x)) (list_all (λ y. has assume (flip y)) todo) a in
      one-left live known (denying inputs assume x) (unit_of (flip x)) (flip x) (map (denying_hint inputs assume) todo ++ tail) (f x p.0)
      (λ y e g. only y e)
      (denied todo (known ++ flip x ∷ []) p.1 f
      (λ z sub dz. go z (λ y e. sub y (has-longer known (flip x) y e)) (λ y e. falls z sub dz y e)))
    where
      only : (y : Lit) → has (unit_of (flip x)) y ≡ true → same_lit (flip x) y ≡ true
      only y e = elim (or_cases (same_lit (flip x) y) false e) [ inl s ↦ s | inr s ↦ absurd (false≢true s) ]

      falls : (z : List Lit) → ((y : Lit) → has (known ++ flip x ∷ []) y ≡ true → has z y ≡ true) → Denies z todo → Denies z (x ∷ todo)
      falls z sub dz y e =
          elim (or_cases (same_lit x y) (has todo y) e) [
            | inl s ↦ ap (λ w. has z (flip w)) (sym (same_lit-true x y s)) ∙ sub (flip x) (has-last known (flip x))
            | inr s ↦ dz y s
          ]

fold-lines : (xs ys : List Line) (s : State) → fold after_line s (xs ++ ys) ≡ fold after_line (fold after_line s xs) ys
fold-lines [] ys s = refl
fold-lines (x ∷ xs) ys s = fold-lines xs ys (after_line s x)

-- no line is at fault, one of the clauses is empty, and lines so far are numbered up to a number
pub record Ends (s : State) (most : ℕ) (lines : List Line) : Type 0 where
  pub accepted : verdict_at s.fault s.has_empty ≡ says.Accepted
  pub small : list_all (is_numbered most) lines ≡ true

good : (s : State) → s.fault ≡ None → s.has_empty ≡ true → verdict_at s.fault s.has_empty ≡ says.Accepted
good s f e = ap (λ z. verdict_at z s.has_empty) f ∙ ap (verdict_at None) e

all-denying : (p : Number → Bool) (inputs : ℕ) (assume c : List Lit) → are_denied assume c ≡ true → ((x : Lit) → has assume (flip x) ≡ true → p (denying_hint inputs assume x) ≡ true)
    → list_all p (map (denying_hint inputs assume) c) ≡ true
all-denying p inputs assume [] a f = refl
all-denying p inputs assume (x ∷ c) a f =
    let q = and_parts (has assume (flip x)) (list_all (λ y. has assume (flip y)) c) a in
    and_from (p (denying_hint inputs assume x)) (list_all p (map (denying_hint inputs assume) c)) (f x q.0) (all-denying p inputs assume c q.1 f)

-- behind the lines of the steps, the last one
module _ (inputs : ℕ) (assume : List Lit) (goal id : ℕ) (s : State) (fs : List (List Lit)) where
  last-counted : (c : List Lit) (most : ℕ) → length fs ≤ most → named fs goal ≡ Some c → are_denied assume c ≡ true
      → ((x : Lit) → has assume (flip x) ≡ true → named fs (denying inputs assume x) ≡ Some (unit_of (flip x)))
      → list_all (is_counted most) (last_hints inputs assume goal c) ≡ true
  last-counted c most h g a f =
      list_all-append (is_counted most) (map (denying_hint inputs assume) c) (hint goal ∷ [])
      ∙ and_from (list_all (is_counted most) (map (denying_hint inputs assume) c)) (is_counted most (hint goal) && true)
      (all-denying (is_counted most) inputs assume c a (λ x e. counted fs (denying inputs assume x) (unit_of (flip x)) most h (f x e)))
      (and_from (is_counted most (hint goal)) true (counted fs goal c most h g) refl)

  ends-well : (c : List Lit) (most : ℕ) → IsTable s fs → id ≡ length fs + 1 → most ≡ length fs + length (last_line id inputs assume goal c) → named fs goal ≡ Some c → are_denied assume c ≡ true
      → ((x : Lit) → has assume (flip x) ≡ true → named fs (denying inputs assume x) ≡ Some (unit_of (flip x)))
      → Ends (fold after_line s (last_line id inputs assume goal c)) most (last_line id inputs assume goal c)
  ends-well [] most t i k g a f = record { accepted = good s t.fault (t.empty goal g); small = refl }
  ends-well (x ∷ c) most t i k g a f =
      let hinted : hints_fault s.live [] (last_hints inputs assume goal (x ∷ c)) ≡ None =
      denied s.live inputs assume (hint goal ∷ []) (x ∷ c) [] a (λ y e. t.live (denying inputs assume y) (unit_of (flip y)) (f y e))
      (λ z sub dz. shown s.live z goal (x ∷ c) [] (t.live goal (x ∷ c) g) dz) in
      let u : IsTable (after_line s (l.Lemma id [] (last_hints inputs assume goal (x ∷ c)))) (fs ++ [] ∷ []) = table-line s fs id [] (last_hints inputs assume goal (x ∷ c)) i hinted t in
      let one : most ≡ length fs + 1 = k in
      record {
        accepted = good (after_line s (l.Lemma id [] (last_hints inputs assume goal (x ∷ c)))) u.fault (u.empty (length fs + 1) (named-last fs []));
        small = and_from (is_numbered most (l.Lemma id [] (last_hints inputs assume goal (x ∷ c)))) true
            (and_from (nat_lt 0 id && nat_le id most) (list_all (is_counted most) (last_hints inputs assume goal (x ∷ c)))
            (and_from (nat_lt 0 id) (nat_le id most) (lt-ltb 0 id (omega arith)) (le-leb id most (omega arith)))
            (last-counted (x ∷ c) most (omega arith) g a f))
            refl;
      }

-- numbers up to one are numbers up to a greater one
counted-more : (most more : ℕ) (ns : List Number) → most ≤ more → list_all (is_counted most) ns ≡ true → list_all (is_counted more) ns ≡ true
counted-more most more [] h e = refl
counted-more most more (n ∷ ns) h e =
    let p = and_parts (is_counted most n) (list_all (is_counted most) ns) e in
    let q = and_parts (not n.negative) (nat_lt 0 n.size && nat_le n.size most) p.0 in
    let r = and_parts (nat_lt 0 n.size) (nat_le n.size most) q.1 in
    let k : n.size ≤ most = leb-true n.size most r.1 in
    and_from (is_counted more n) (list_all (is_counted more) ns)
    (and_from (not n.negative) (nat_lt 0 n.size && nat_le n.size more) q.0 (and_from (nat_lt 0 n.size) (nat_le n.size more) r.0 (le-leb n.size more (omega arith))))
    (counted-more most more ns h p.1)

numbered-more : (most more : ℕ) (lines : List Line) → most ≤ more → list_all (is_numbered most) lines ≡ true → list_all (is_numbered more) lines ≡ true
numbered-more most more [] h e = refl
numbered-more most more (l.Delete id ids ∷ lines) h e = absurd (false≢true e)
numbered-more most more (l.Lemma id lits hints ∷ lines) h e =
    let p = and_parts ((nat_lt 0 id && nat_le id most) && list_all (is_counted most) hints) (list_all (is_numbered most) lines) e in
    let q = and_parts (nat_lt 0 id && nat_le id most) (list_all (is_counted most) hints) p.0 in
    let r = and_parts (nat_lt 0 id) (nat_le id most) q.0 in
    let k : id ≤ most = leb-true id most r.1 in
    and_from ((nat_lt 0 id && nat_le id more) && list_all (is_counted more) hints) (list_all (is_numbered more) lines)
    (and_from (nat_lt 0 id && nat_le id more) (list_all (is_counted more) hints) (and_from (nat_lt 0 id) (nat_le id more) r.0 (le-leb id more (omega arith))) (counted-more most more hints h q.1))
    (numbered-more most more lines h p.1)

id-next : (a b c d e : ℕ) → d ≡ a + b → e ≡ d + c → a + b + c + 1 ≡ e + 1
id-next a b c d e p q = omega arith

-- lines that are numbered up to what stands there, and the last ones behind them
ends-join : (s : State) (lines last : List Line) (base mid : ℕ) → mid ≡ base + length lines → list_all (is_numbered mid) lines ≡ true
    → Ends (fold after_line (fold after_line s lines) last) (mid + length last) last → Ends (fold after_line s (lines ++ last)) (base + length (lines ++ last)) (lines ++ last)
ends-join s lines last base mid h small ends =
    let total : length (lines ++ last) ≡ length lines + length last = length-append lines last in
    record {
      accepted = subst (λ z. verdict_at z.fault z.has_empty ≡ says.Accepted) (sym (fold-lines lines last s)) ends.accepted;
      small = list_all-append (is_numbered (base + length (lines ++ last))) lines last
          ∙ and_from (list_all (is_numbered (base + length (lines ++ last))) lines) (list_all (is_numbered (base + length (lines ++ last))) last)
          (numbered-more mid (base + length (lines ++ last)) lines (omega arith) small)
          (numbered-more (mid + length last) (base + length (lines ++ last)) last (omega arith) ends.small);
    }

-- ---- files

-- the steps derive these clauses, and those of the goal are denied
pub record Refutes (ks : List (List Lit)) (assume : List Lit) (steps : List StepView) (goal : ℕ) : Type 0 where
  pub known : List (List Lit)
  pub derives : after_steps ks 1 steps ≡ Ok known
  pub clause : List Lit
  pub there : named known goal ≡ Some clause
  pub against : are_denied assume clause ≡ true

pub refutes : (ks : List (List Lit)) (assume : List Lit) (steps : List StepView) (goal : ℕ) → chain.verdict_of ks assume steps (Some goal) ≡ log_is.Accepted → Refutes ks assume steps goal
refutes ks assume steps goal e = whole (after_steps ks 1 steps) refl e
  where
    of-goal : (known : List (List Lit)) → after_steps ks 1 steps ≡ Ok known → (o : Option (List Lit)) → named known goal ≡ o → is_denied assume o ≡ true → Refutes ks assume steps goal
    of-goal known d None n h = absurd (false≢true h)
    of-goal known d (Some c) n h = record { known = known; derives = d; clause = c; there = n; against = h }

    passes : (b : Bool) → cond b log_is.Accepted (log_is.Rejected (length steps + 1) NotGoal) ≡ log_is.Accepted → b ≡ true
    passes true h = refl
    passes false h = absurd (let z : log_is.Rejected (length steps + 1) NotGoal ≡ log_is.Accepted = h in cc)

    whole : (r : Result (List (List Lit)) (ℕ × Reason)) → after_steps ks 1 steps ≡ r
        → elim r [ Ok known ↦ goal_verdict known (length steps + 1) assume (Some goal) | Err f ↦ log_is.Rejected f.0 f.1 ] ≡ log_is.Accepted → Refutes ks assume steps goal
    whole (Ok known) d h = of-goal known d (named known goal) refl (passes (is_denied assume (named known goal)) h)
    whole (Err f) d h = absurd (let z : log_is.Rejected f.0 f.1 ≡ log_is.Accepted = h in cc)

module _ (ks : List (List Lit)) (assume : List Lit) (steps : List StepView) (goal : ℕ) where
  steps-run : (r : Refutes ks assume steps goal)
      → Runs (number_of ks assume steps goal) goal r.known (with_units ks assume) (fold after_line (fold with_input start (with_units ks assume)) (step_lines ks assume steps goal)) (step_lines ks assume steps goal)
  steps-run r =
      run (number_of ks assume steps goal) goal r.known steps ks (with_units ks assume) (length ks + 1) 1 (fold with_input start (with_units ks assume)) refl r.derives (table-formula (with_units ks assume))
      (subst (λ n. Fits (number_of ks assume steps goal) (length ks + 1) n (marks_of ks steps goal)) (sym (length-units ks assume))
      (numbers-fit (length ks) (numbered (length ks + length assume) (marks_of ks steps goal)) (marks_of ks steps goal) (length ks + 1) 0 (length ks + length assume) (omega arith) refl))
      (follows-formula ks assume (numbered (length ks + length assume) (marks_of ks steps goal)) goal steps (marks_of ks steps goal))

  -- the lines behind the formula and the units
  pub lines-end : Refutes ks assume steps goal
      → Ends (fold after_line (fold with_input start (with_units ks assume)) (all_lines ks assume steps goal)) (length (with_units ks assume) + length (all_lines ks assume steps goal)) (all_lines ks assume steps goal)
  lines-end r =
      let runs = steps-run r in
      let clause : clause_at (with_steps ks steps) goal ≡ r.clause = ap (λ z. clause_at z goal) (with-steps-known steps ks 1 r.known r.derives) ∙ ap (λ z. unwrap_or z []) r.there in
      ends-join (fold with_input start (with_units ks assume)) (step_lines ks assume steps goal) (goal_line ks assume steps goal (length (step_lines ks assume steps goal)))
      (length (with_units ks assume)) (length runs.clauses) runs.long runs.small
      (ends-well (length ks) assume (number_of ks assume steps goal goal) (length ks + length assume + length (step_lines ks assume steps goal) + 1)
      (fold after_line (fold with_input start (with_units ks assume)) (step_lines ks assume steps goal)) runs.clauses (clause_at (with_steps ks steps) goal)
      (length runs.clauses + length (goal_line ks assume steps goal (length (step_lines ks assume steps goal)))) runs.table
      (id-next (length ks) (length assume) (length (step_lines ks assume steps goal)) (length (with_units ks assume)) (length runs.clauses) (length-units ks assume) runs.long) refl
      (runs.reached r.clause r.there ∙ ap (λ z. Some z) (sym clause)) (ap (are_denied assume) clause ∙ r.against)
      (λ x e. runs.kept (denying (length ks) assume x) (unit_of (flip x)) (unit-named ks assume x e)))

-- the file of a log that is accepted with its goal is accepted
pub accepted_file : (vars : ℕ) (ks : List (List Lit)) (assume : List Lit) (steps : List StepView) (goal : Option ℕ)
    → IsSome goal → chain.verdict_of ks assume steps goal ≡ log_is.Accepted → judge.verdict_of (file_of vars ks assume steps (unwrap_or goal 0)) ≡ says.Accepted
accepted_file vars ks assume steps None s e = absurd (false≢true s)
accepted_file vars ks assume steps (Some goal) s e = (lines-end ks assume steps goal (refutes ks assume steps goal e)).accepted

-- and its lines are numbered
pub numbered_file : (ks : List (List Lit)) (assume : List Lit) (steps : List StepView) (goal : Option ℕ)
    → IsSome goal → chain.verdict_of ks assume steps goal ≡ log_is.Accepted
    → list_all (is_numbered (length (with_units ks assume) + length (all_lines ks assume steps (unwrap_or goal 0)))) (all_lines ks assume steps (unwrap_or goal 0)) ≡ true
numbered_file ks assume steps None s e = absurd (false≢true s)
numbered_file ks assume steps (Some goal) s e = (lines-end ks assume steps goal (refutes ks assume steps goal e)).small
