-- What one more turn of a loop adds
use Rattle.std.proofs.Common.{◌≡◌, ℕ, ◌+◌, ◌<◌, ◌≤◌, Bool, true, false, ◌&&◌, not, cond, nat_eq, List, [], ◌∷◌, ◌++◌, length, take, drop, get_or, fold, refl, ap, sym, ◌∙◌, arith, append-nil, drop_of_length-le, Option, Result, Ok, Err, if◌then◌else◌}
use mathlib.Core.Bool.{beq}
use Rattle.std.proofs.lemmas.List.{at_drop_more}
use Rattle.std.proofs.lemmas.List.Elements.{filter_more}
use Rattle.std.proofs.lemmas.List.Sums.{fold_more}
use Rattle.std.proofs.lemmas.Bool.{false≢true}
use Rattle.svr_chain.specs.declared.clause.Lit.{Lit}
use Rattle.svr_chain.specs.declared.log.Link.{Link}
use Rattle.svr_chain.specs.declared.log.Reason.{Reason}
use Rattle.svr_chain.specs.declared.log.Verdict.{Verdict}
use Rattle.svr_chain.specs.declared.log.Verdict.TheVariants.{Rejected}
use Rattle.svr_chain.specs.Views.{StepView}
use Rattle.svr_chain.specs.Clauses.{same_sign, same_lit, has, without, add_unless}
use Rattle.svr_chain.specs.Log.{named, after_link, after_links, step_result, after_steps, goal_verdict, verdict_of}
use Rattle.svr_chain.proofs.Sound.{after_links-fault}

-- literals are compared field by field
pub differ : (x p : Lit) (r : Bool) → r ≡ not (nat_eq x.var p.var && beq x.neg p.neg) → not (same_lit x p) ≡ r
differ x p r e = ap not (goes x.neg p.neg (nat_eq x.var p.var)) ∙ sym e
  where
    goes : (a b n : Bool) → (same_sign a b && n) ≡ (n && beq a b)
    goes true true true = refl
    goes true true false = refl
    goes true false true = refl
    goes true false false = refl
    goes false true true = refl
    goes false true false = refl
    goes false false true = refl
    goes false false false = refl

module _ (p : Lit) (xs : List Lit) (i : ℕ) (d : Lit) (h : i < length xs) where
  one-more : (b : Bool) → not (same_lit (get_or xs i d) p) ≡ b → without p (take i xs) ++ cond b (get_or xs i d ∷ []) [] ≡ without p (take (i + 1) xs)
  one-more b t =
      ap (λ (z : Bool). without p (take i xs) ++ cond z (get_or xs i d ∷ []) []) (sym t)
      ∙ sym (filter_more (λ x. not (same_lit x p)) xs i d h)

  pub without-kept : not (same_lit (get_or xs i d) p) ≡ true → without p (take i xs) ++ get_or xs i d ∷ [] ≡ without p (take (i + 1) xs)
  without-kept t = one-more true t

  pub without-left : not (same_lit (get_or xs i d) p) ≡ false → without p (take i xs) ≡ without p (take (i + 1) xs)
  without-left t = sym (append-nil (without p (take i xs))) ∙ one-more false t

added : (q x : Lit) (c : List Lit) (n h : Bool) → n ≡ true → h ≡ false → c ++ x ∷ [] ≡ (if (n && not h) then c ++ x ∷ [] else c)
added q x c true false a b = refl
added q x c true true a b = absurd (false≢true (sym b))
added q x c false h a b = absurd (false≢true a)

there : (q x : Lit) (c : List Lit) (n h : Bool) → h ≡ true → c ≡ (if (n && not h) then c ++ x ∷ [] else c)
there q x c true true b = refl
there q x c false true b = refl
there q x c n false b = absurd (false≢true b)

module _ (q : Lit) (a ys : List Lit) (i : ℕ) (d : Lit) (h : i < length ys) where
  folded : (c : List Lit) → c ≡ fold (add_unless q) a (take i ys) → add_unless q c (get_or ys i d) ≡ fold (add_unless q) a (take (i + 1) ys)
  folded c e = ap (λ z. add_unless q z (get_or ys i d)) e ∙ sym (fold_more (add_unless q) a ys i d h)

  pub joined-new : (c : List Lit) → c ≡ fold (add_unless q) a (take i ys) → not (same_lit (get_or ys i d) q) ≡ true → has c (get_or ys i d) ≡ false
      → c ++ get_or ys i d ∷ [] ≡ fold (add_unless q) a (take (i + 1) ys)
  joined-new c e n t = added q (get_or ys i d) c (not (same_lit (get_or ys i d) q)) (has c (get_or ys i d)) n t ∙ folded c e

  pub joined-there : (c : List Lit) → c ≡ fold (add_unless q) a (take i ys) → has c (get_or ys i d) ≡ true → c ≡ fold (add_unless q) a (take (i + 1) ys)
  joined-there c e t = there q (get_or ys i d) c (not (same_lit (get_or ys i d) q)) (has c (get_or ys i d)) t ∙ folded c e

  pub joined-left : (c : List Lit) → c ≡ fold (add_unless q) a (take i ys) → not (same_lit (get_or ys i d) q) ≡ false → c ≡ fold (add_unless q) a (take (i + 1) ys)
  joined-left c e n = sym (ap (λ (z : Bool). if (z && not (has c (get_or ys i d))) then c ++ get_or ys i d ∷ [] else c) n) ∙ folded c e

module _ (ks : List (List Lit)) (c start : List Lit) (links : List Link) (i : ℕ) (d : Link) (r : Result (List Lit) Reason) (h : i < length links) where
  pub links-more : (next : List Lit) → r ≡ after_link c (get_or links i d).pivot (named ks (get_or links i d).clause) → r ≡ Ok next
      → after_links ks (Ok c) (drop i links) ≡ after_links ks (Ok start) links → after_links ks (Ok next) (drop (i + 1) links) ≡ after_links ks (Ok start) links
  links-more next e is inv =
      ap (λ z. after_links ks z (drop (i + 1) links)) (sym is ∙ e)
      ∙ sym (at_drop_more (after_links ks (Ok c)) links i d h)
      ∙ inv

  pub links-fault : (f : Reason) → r ≡ after_link c (get_or links i d).pivot (named ks (get_or links i d).clause) → r ≡ Err f
      → after_links ks (Ok c) (drop i links) ≡ after_links ks (Ok start) links → Err f ≡ after_links ks (Ok start) links
  links-fault f e is inv = sym (after_links-fault ks c links i d f h (sym e ∙ is)) ∙ inv

next-step : (ks : List (List Lit)) (n : ℕ) (s : StepView) (ss : List StepView) (c : List Lit) → step_result ks s ≡ Ok c → after_steps ks n (s ∷ ss) ≡ after_steps (ks ++ c ∷ []) (n + 1) ss
next-step ks n s ss c e = rw (e, after_steps) refl

fault-step : (ks : List (List Lit)) (n : ℕ) (s : StepView) (ss : List StepView) (f : Reason) → step_result ks s ≡ Err f → after_steps ks n (s ∷ ss) ≡ Err (n, f)
fault-step ks n s ss f e = rw (e, after_steps) refl

module _ (ks all : List (List Lit)) (n : ℕ) (steps : List StepView) (i : ℕ) (s : StepView) (r : Result (List Lit) Reason) (h : i < length steps) (at : s ≡ get_or steps i s) where
  pub steps-more : (c : List Lit) (more : List (List Lit)) → r ≡ step_result ks s → r ≡ Ok c → more ≡ ks ++ c ∷ []
      → after_steps ks n (drop i steps) ≡ after_steps all 1 steps → after_steps more (n + 1) (drop (i + 1) steps) ≡ after_steps all 1 steps
  steps-more c more e is m inv =
      ap (λ z. after_steps z (n + 1) (drop (i + 1) steps)) m
      ∙ sym (next-step ks n s (drop (i + 1) steps) c (sym e ∙ is))
      ∙ ap (λ z. after_steps ks n (z ∷ drop (i + 1) steps)) at
      ∙ sym (at_drop_more (after_steps ks n) steps i s h)
      ∙ inv

  pub steps-fault : (f : Reason) (assume : List Lit) (goal : Option ℕ) → r ≡ step_result ks s → r ≡ Err f
      → after_steps ks n (drop i steps) ≡ after_steps all 1 steps → Rejected n f ≡ verdict_of all assume steps goal
  steps-fault f assume goal e is inv =
      let q : after_steps all 1 steps ≡ Err (n, f) =
      sym inv ∙ at_drop_more (after_steps ks n) steps i s h
      ∙ ap (λ z. after_steps ks n (z ∷ drop (i + 1) steps)) (sym at)
      ∙ fault-step ks n s (drop (i + 1) steps) f (sym e ∙ is) in
      rw (q, verdict_of) refl

pub steps-done : (ks all : List (List Lit)) (n i : ℕ) (steps : List StepView) (assume : List Lit) (goal : Option ℕ) (v : Verdict)
    → length steps ≤ i → i ≤ length steps → n ≡ i + 1 → v ≡ goal_verdict ks n assume goal
    → after_steps ks n (drop i steps) ≡ after_steps all 1 steps → v ≡ verdict_of all assume steps goal
steps-done ks all n i steps assume goal v past within m e inv =
    let q : after_steps all 1 steps ≡ Ok ks = sym inv ∙ ap (after_steps ks n) (drop_of_length-le steps past) in
    let k : n ≡ length steps + 1 = omega (arith, past, within, m) in
    e ∙ ap (λ z. goal_verdict ks z assume goal) k ∙ rw (q, verdict_of) refl
