-- Chains over clauses that are held as sets of literals
use Rattle.std.proofs.Common.{◌≡◌, ℕ, ◌+◌, ◌<◌, ◌≤◌, Bool, true, false, cond, List, ◌∷◌, ◌++◌, [], length, get_or, drop, refl, ap, sym, ◌∙◌, subst, drop_of_length-le, Option, Some, None, Result, Ok, Err, IfOk}
use Rattle.svr_chain.specs.declared.clause.Lit.{Lit}
use Rattle.svr_chain.specs.declared.log.Link.{Link}
use Rattle.svr_chain.specs.declared.log.Reason.{Reason}
use Rattle.svr_chain.specs.declared.log.Reason.TheVariants.{NoSuchClause, PivotNotThere, PivotNotHere, NotGoal}
use Rattle.svr_chain.specs.declared.log.Verdict.{Verdict}
use Rattle.svr_chain.specs.declared.log.Verdict.TheVariants.{Accepted, Rejected}
use Rattle.svr_chain.specs.Views.{StepView}
use Rattle.svr_chain.specs.Clauses.{flip, has, resolvent}
use Rattle.svr_chain.specs.Log.{named, after_link, after_links, started, judged, step_result, after_steps, is_denied, goal_verdict, verdict_of}
use Rattle.svr_chain.specs.Marks.{held}
use Rattle.svr_chain.specs.Same.{SameLits, SameClauses, SameResult}
use Rattle.svr_chain.proofs.Same.{err-same, ok-same, same-goal, same-judged, same-link, same-links, same-option, same-push, same-results, same-self, same-step}
use Rattle.svr_chain.proofs.Turns.{links-more, links-fault, steps-more, steps-fault, steps-done}

-- ---- one link

pub link-none : (c : List Lit) (p : Lit) (o : Option (List Lit)) → None ≡ o → SameResult (Err NoSuchClause) (after_link c p o)
link-none c p o e = subst (λ z. SameResult (Err NoSuchClause) (after_link c p z)) e refl

module _ (c d : List Lit) (p : Lit) (o : Option (List Lit)) (is : Some d ≡ o) where
  abbrev tested : Bool → Bool → Result (List Lit) Reason
  tested a b = cond a (cond b (Ok (resolvent c p d)) (Err PivotNotThere)) (Err PivotNotHere)

  linked : (r : Result (List Lit) Reason) (a b : Bool) → a ≡ has c p → b ≡ has d (flip p) → SameResult r (tested a b) → SameResult r (after_link c p o)
  linked r a b f g t =
      subst (λ z. SameResult r (after_link c p z)) is
      (subst (λ z. SameResult r (tested z (has d (flip p)))) f (subst (λ z. SameResult r (tested a z)) g t))

  pub link-not_here : (a : Bool) → a ≡ has c p → a ≡ false → SameResult (Err PivotNotHere) (after_link c p o)
  link-not_here a f h = linked (Err PivotNotHere) false (has d (flip p)) (sym h ∙ f) refl refl

  pub link-not_there : (a b : Bool) → a ≡ has c p → a ≡ true → b ≡ has d (flip p) → b ≡ false → SameResult (Err PivotNotThere) (after_link c p o)
  link-not_there a b f h g k = linked (Err PivotNotThere) true false (sym h ∙ f) (sym k ∙ g) refl

  pub link-done : (m : List Lit) (a b : Bool) → a ≡ has c p → a ≡ true → b ≡ has d (flip p) → b ≡ true → SameLits m (resolvent c p d) → SameResult (Ok m) (after_link c p o)
  link-done m a b f h g k s = linked (Ok m) true true (sym h ∙ f) (sym k ∙ g) s

pub held-ok : (r : Result (Unit {0}) Reason) (u : Unit {0}) (m : List Lit) (q : Result (List Lit) Reason) → r ≡ Ok u → SameResult (held r m) q → SameResult (Ok m) q
held-ok r u m q e t = subst (λ z. SameResult (held z m) q) e t

pub held-err : (r : Result (Unit {0}) Reason) (f : Reason) (m : List Lit) (q : Result (List Lit) Reason) → r ≡ Err f → SameResult (held r m) q → SameResult (Err f) q
held-err r f m q e t = subst (λ z. SameResult (held z m) q) e t

-- ---- all links in turn: the clause that is held is that of the chain, as a set

pub record Follows (ks : List (List Lit)) (start : List Lit) (links : List Link) (i : ℕ) (m : List Lit) : Type 0 where
  pub clause : List Lit
  pub same : SameLits m clause
  pub left : after_links ks (Ok clause) (drop i links) ≡ after_links ks (Ok start) links

pub follows-none : (ks : List (List Lit)) (start : List Lit) (links : List Link) → Follows ks start links 0 start
follows-none ks start links = record { clause = start; same = λ x. refl; left = refl }

pub follows-done : (ks : List (List Lit)) (start : List Lit) (links : List Link) (i : ℕ) (m : List Lit) → length links ≤ i → Follows ks start links i m → SameResult (Ok m) (after_links ks (Ok start) links)
follows-done ks start links i m h f =
    let e : Ok f.clause ≡ after_links ks (Ok start) links = sym (ap (after_links ks (Ok f.clause)) (drop_of_length-le links h)) ∙ f.left in
    subst (λ z. SameResult (Ok m) z) e f.same

module _ (ks : List (List Lit)) (start : List Lit) (links : List Link) (i : ℕ) (d : Link) (m : List Lit) (h : i < length links) (f : Follows ks start links i m) where
  abbrev linked_to : Option (List Lit)
  linked_to = named ks (get_or links i d).clause

  -- what the link makes of the clause of the chain
  through : (r : Result (List Lit) Reason) → SameResult r (after_link m (get_or links i d).pivot linked_to) → SameResult r (after_link f.clause (get_or links i d).pivot linked_to)
  through r s =
      same-results r (after_link m (get_or links i d).pivot linked_to) (after_link f.clause (get_or links i d).pivot linked_to) s
      (same-link m f.clause (get_or links i d).pivot linked_to linked_to f.same (same-option linked_to))

  pub follows-more : (new : List Lit) → SameResult (Ok new) (after_link m (get_or links i d).pivot linked_to) → Follows ks start links (i + 1) new
  follows-more new s =
      let t = ok-same (Ok new) (after_link f.clause (get_or links i d).pivot linked_to) new (through (Ok new) s) refl in
      record {
        clause = t.0;
        same = t.2;
        left = links-more ks f.clause start links i d (after_link f.clause (get_or links i d).pivot linked_to) h t.0 refl t.1 f.left;
      }

  pub follows-fault : (e : Reason) → SameResult (Err e) (after_link m (get_or links i d).pivot linked_to) → SameResult (Err e) (after_links ks (Ok start) links)
  follows-fault e s =
      let t = err-same (Err e) (after_link f.clause (get_or links i d).pivot linked_to) e (through (Err e) s) refl in
      subst (λ z. SameResult (Err e) z)
      (links-fault ks f.clause start links i d (after_link f.clause (get_or links i d).pivot linked_to) h e refl t f.left) refl

-- ---- one step

pub step-none : (ks : List (List Lit)) (s : StepView) → None ≡ named ks s.start → SameResult (Err NoSuchClause) (step_result ks s)
step-none ks s e =
    subst (λ z. SameResult (Err NoSuchClause) (judged ks (after_links ks (started z) s.links))) e (ends s.links)
  where
    ends : (ls : List Link) → SameResult (Err NoSuchClause) (judged ks (after_links ks (Err NoSuchClause) ls))
    ends [] = refl
    ends (l ∷ ls) = refl

module _ (ks : List (List Lit)) (s : StepView) (d m : List Lit) (is : Some d ≡ named ks s.start) (begun : SameLits m d) where
  -- the chain from the clause that is held, and the chain of the step
  chained : SameResult (after_links ks (Ok m) s.links) (after_links ks (started (named ks s.start)) s.links)
  chained = subst (λ z. SameResult (after_links ks (Ok m) s.links) (after_links ks (started z) s.links)) is (same-links ks ks (same-self ks) (Ok m) (Ok d) s.links begun)

  pub step-judged : (r q : Result (List Lit) Reason) → SameResult q (after_links ks (Ok m) s.links) → r ≡ judged ks q → SameResult r (step_result ks s)
  step-judged r q t e =
      subst (λ z. SameResult z (step_result ks s)) (sym e)
      (same-judged ks ks (same-self ks) q (after_links ks (started (named ks s.start)) s.links)
      (same-results q (after_links ks (Ok m) s.links) (after_links ks (started (named ks s.start)) s.links) t chained))

  pub step-made : {E : Type 0} (j : Result (Result (List Lit) Reason) E) (c : List Lit) → SameResult (Ok c) (after_links ks (Ok m) s.links) → IfOk j (λ r. r ≡ judged ks (Ok c))
      → IfOk j (λ r. SameResult r (step_result ks s))
  step-made (Err x) c t e = tt
  step-made (Ok r) c t e = step-judged r (Ok c) t e

-- ---- all steps in turn: the clauses that are known are those of the log, as sets

pub record Derives (all : List (List Lit)) (steps : List StepView) (i n : ℕ) (known : List (List Lit)) : Type 0 where
  pub clauses : List (List Lit)
  pub same : SameClauses known clauses
  pub number : n ≡ i + 1
  pub left : after_steps clauses n (drop i steps) ≡ after_steps all 1 steps

pub derives-none : (all : List (List Lit)) (steps : List StepView) → Derives all steps 0 1 all
derives-none all steps = record { clauses = all; same = same-self all; number = refl; left = refl }

module _ (all known : List (List Lit)) (steps : List StepView) (i n : ℕ) (f : Derives all steps i n known) where
  module _ (s : StepView) (h : i < length steps) (at : s ≡ get_or steps i s) where
    through_step : (r : Result (List Lit) Reason) → SameResult r (step_result known s) → SameResult r (step_result f.clauses s)
    through_step r t = same-results r (step_result known s) (step_result f.clauses s) t (same-step known f.clauses s f.same)

    pub derives-more : (c : List Lit) (more : List (List Lit)) → SameResult (Ok c) (step_result known s) → more ≡ known ++ c ∷ [] → Derives all steps (i + 1) (n + 1) more
    derives-more c more t m =
        let r = ok-same (Ok c) (step_result f.clauses s) c (through_step (Ok c) t) refl in
        record {
          clauses = f.clauses ++ r.0 ∷ [];
          same = subst (λ z. SameClauses z (f.clauses ++ r.0 ∷ [])) (sym m) (same-push known f.clauses c r.0 f.same r.2);
          number = ap (λ z. z + 1) f.number;
          left = steps-more f.clauses all n steps i s (step_result f.clauses s) h at r.0 (f.clauses ++ r.0 ∷ []) refl r.1 refl f.left;
        }

    pub derives-fault : (e : Reason) (assume : List Lit) (goal : Option ℕ) → SameResult (Err e) (step_result known s) → Rejected n e ≡ verdict_of all assume steps goal
    derives-fault e assume goal t =
        let r = err-same (Err e) (step_result f.clauses s) e (through_step (Err e) t) refl in
        steps-fault f.clauses all n steps i s (step_result f.clauses s) h at e assume goal refl r f.left

  pub derives-done : (v : Verdict) (assume : List Lit) (goal : Option ℕ) → length steps ≤ i → i ≤ length steps → v ≡ goal_verdict known n assume goal → v ≡ verdict_of all assume steps goal
  derives-done v assume goal past within e =
      steps-done f.clauses all n i steps assume goal v past within f.number (e ∙ same-goal known f.clauses n assume assume goal f.same (λ x. refl)) f.left

  pub derives-told : {E : Type 0} (j : Result Verdict E) (assume : List Lit) (goal : Option ℕ) → length steps ≤ i → i ≤ length steps → IfOk j (λ v. v ≡ goal_verdict known n assume goal)
      → IfOk j (λ v. v ≡ verdict_of all assume steps goal)
  derives-told (Err x) assume goal past within e = tt
  derives-told (Ok v) assume goal past within e = derives-done v assume goal past within e

-- ---- the goal

pub goal-told : (ks : List (List Lit)) (n : ℕ) (m assume : List Lit) (g : ℕ) (b t : Bool) → SameLits m assume → b ≡ is_denied m (named ks g) → b ≡ t
    → cond t Accepted (Rejected n NotGoal) ≡ goal_verdict ks n assume (Some g)
goal-told ks n m assume g b t s f e = ap (λ z. cond z Accepted (Rejected n NotGoal)) (sym e ∙ f) ∙ same-goal ks ks n m assume (Some g) (same-self ks) s
