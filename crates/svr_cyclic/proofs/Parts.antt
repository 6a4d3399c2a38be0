-- Literals that are among others: what holds of the others holds of them, and an answer does not depend on the order of what is assumed.
use Rattle.std.proofs.Common.{◌≡◌, ℕ, ◌+◌, Bool, true, false, ◌&&◌, ◌||◌, List, [], ◌∷◌, ◌++◌, get_or, length, Option, Some, None, Result, Ok, Err, refl, sym, ◌∙◌, inl, inr}
use Rattle.std.specs.Prelude.{if◌then◌else◌}
use Rattle.std.specs.List.{list_all}
use Rattle.std.proofs.lemmas.Bool.{and_parts, or_cases, or_left, or_right, both_ways, false_from_ne_true, cond-true}
use Rattle.std.proofs.lemmas.List.Folds.{list_any-append, list_all-append}
use Rattle.svr_chain.specs.declared.clause.Lit.{Lit}
use Rattle.svr_chain.specs.declared.log.Reason.{Reason}
use Rattle.svr_chain.specs.declared.log.Reason.TheVariants.{NotGoal}
use Rattle.svr_chain.specs.declared.log.Verdict.{Verdict}
use Rattle.svr_chain.specs.declared.log.Verdict.TheVariants.{Accepted, Rejected}
use Rattle.svr_chain.specs.Views.{RefutationView}
use Rattle.svr_chain.specs.Clauses.{flip, same_lit, has, IsWithin, AreWithin, is_tautology}
use Rattle.svr_chain.specs.Log.{named, after_steps, are_denied, is_denied, goal_verdict}
use Rattle.svr_chain.specs.Valuations.{lit_value}
use Rattle.svr_chain.proofs.ClauseLemmas.{All-has, all-weaker}
use Rattle.svr_chain.proofs.Same.{any-has, any-some, has-at}
use Rattle.svr_query.specs.declared.solver.Answer.{Answer}
use Rattle.svr_query.specs.declared.solver.Answer.TheVariants.{Satisfied, Refuted, Spent}
use Rattle.svr_query.specs.Answer.{SolverView, IsAnswer, IsRefutation}
use Rattle.svr_query.specs.Logged.{valuation_of}

-- ---- a part of literals

abbrev pub IsPart : List Lit → List Lit → Type 0
IsPart xs ys = (x : Lit) → has xs x ≡ true → has ys x ≡ true

pub both : (xs ys : List Lit) (x : Lit) → has (xs ++ ys) x ≡ (has xs x || has ys x)
both xs ys x = list_any-append (λ y. same_lit y x) xs ys

pub part_within : (n : ℕ) (xs ys : List Lit) → IsPart xs ys → AreWithin n ys → AreWithin n xs
part_within n xs ys p w = λ i d h. All-has (IsWithin n) ys (get_or xs i d) w (p (get_or xs i d) (has-at xs i d h))

pub part_apart : (xs ys : List Lit) → IsPart xs ys → is_tautology ys ≡ false → is_tautology xs ≡ false
part_apart xs ys p t =
    false_from_ne_true (is_tautology xs) (λ h.
    let r = any-some (λ x. has xs (flip x)) xs h in
    both_ways (is_tautology ys) t (any-has (λ x. has ys (flip x)) ys r.0 (p r.0 r.1) (p (flip r.0) r.2)))

-- ---- what is refuted under some literals is so under more

module _ (a b : List Lit) (p : IsPart a b) (n : ℕ) where
  goal_more : (known : List (List Lit)) (goal : Option ℕ) → goal_verdict known n a goal ≡ Accepted → goal_verdict known n b goal ≡ Accepted
  goal_more known None e = refl
  goal_more known (Some g) e = by_named (named known g) e
    where
      by_test : (c : List Lit) (t : Bool) → are_denied a c ≡ t → (if t then Accepted else Rejected n NotGoal) ≡ Accepted → (if are_denied b c then Accepted else Rejected n NotGoal) ≡ Accepted
      by_test c true q e = cond-true _ _ _ (all-weaker (λ x. has a (flip x)) (λ x. has b (flip x)) c (λ x h. p (flip x) h) q)
      by_test c false q e = cc

      by_named : (o : Option (List Lit)) → (if is_denied a o then Accepted else Rejected n NotGoal) ≡ Accepted → (if is_denied b o then Accepted else Rejected n NotGoal) ≡ Accepted
      by_named None e = cc
      by_named (Some c) e = by_test c (are_denied a c) refl e

  verdict_more : (r : Result (List (List Lit)) (ℕ × Reason)) (goal : Option ℕ)
      → (elim r as (λ w. Verdict) [ Ok known ↦ goal_verdict known n a goal | Err f ↦ Rejected f.0 f.1 ]) ≡ Accepted
      → (elim r as (λ w. Verdict) [ Ok known ↦ goal_verdict known n b goal | Err f ↦ Rejected f.0 f.1 ]) ≡ Accepted
  verdict_more (Ok known) goal e = goal_more known goal e
  verdict_more (Err f) goal e = cc

pub refutes_more : (ks : List (List Lit)) (a b : List Lit) (log : RefutationView) → IsPart a b → IsRefutation ks a log → IsRefutation ks b log
refutes_more ks a b log p h = (h.0, verdict_more a b p (length log.steps + 1) (after_steps ks 1 log.steps) log.goal h.1)

-- ---- two parts in the other order

pub swapped : (xs ys : List Lit) → IsPart (xs ++ ys) (ys ++ xs)
swapped xs ys x e =
    elim (or_cases (has xs x) (has ys x) (sym (both xs ys x) ∙ e)) [
      | inl q ↦ both ys xs x ∙ or_right (has ys x) (has xs x) q
      | inr q ↦ both ys xs x ∙ or_left (has ys x) (has xs x) q
    ]

all_swapped : (p : Lit → Bool) (xs ys : List Lit) → list_all p (xs ++ ys) ≡ true → list_all p (ys ++ xs) ≡ true
all_swapped p xs ys h =
    let parts = and_parts (list_all p xs) (list_all p ys) (sym (list_all-append p xs ys) ∙ h) in
    list_all-append p ys xs ∙ (λ i. parts.1 i && parts.0 i)

pub answer_swapped : (s : SolverView) (xs ys : List Lit) (budget : ℕ) (told : Answer) → IsAnswer s (xs ++ ys) budget told → IsAnswer s (ys ++ xs) budget told
answer_swapped s xs ys budget (Satisfied values) h = (h.0, (h.1.0, all_swapped (lit_value (valuation_of values.items)) xs ys h.1.1))
answer_swapped s xs ys budget (Refuted log) h = refutes_more s.clauses (xs ++ ys) (ys ++ xs) log (swapped xs ys) h
answer_swapped s xs ys budget (Spent log first) h = h
