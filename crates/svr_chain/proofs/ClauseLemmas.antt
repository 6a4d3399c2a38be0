-- Literals, clauses and what chains derive from them
use Rattle.std.proofs.Common.{◌≡◌, ℕ, suc, zero, ◌+◌, Bool, true, false, ◌&&◌, ◌||◌, not, cond, List, [], ◌∷◌, ◌++◌, length, refl, sym, ◌∙◌, subst, add-one, Option, Some, None, Result, Ok, Err, All, IfOk, get_or, inl, inr}
use Rattle.std.specs.List.{list_all, slice_get}
use Rattle.std.proofs.lemmas.Bool.{and_parts, and_from, or_cases}
use Rattle.std.proofs.lemmas.List.Elements.{All-head, All-tail}
use Rattle.std.proofs.lemmas.Option.{slice_get_within, get_or_from_slice_get}
use Rattle.svr_chain.specs.declared.clause.Lit.{Lit}
use Rattle.svr_chain.specs.declared.log.Link.{Link}
use Rattle.svr_chain.specs.declared.log.Reason.{Reason}
use Rattle.svr_chain.specs.declared.log.Reason.TheVariants.{PivotNotThere, PivotNotHere}
use Rattle.svr_chain.specs.Views.{StepView}
use Rattle.svr_chain.specs.Clauses.{same_lit, flip, has, resolvent, IsWithin, AreWithin}
use Rattle.svr_chain.specs.Log.{named, started, after_link, after_links, derived}
use Rattle.svr_chain.proofs.Sound.{same_lit-true}
use Rattle.svr_chain.proofs.Same.{has-at, has-resolvent}

pub all-weaker : (p q : Lit → Bool) (c : List Lit) → ((x : Lit) → p x ≡ true → q x ≡ true) → list_all p c ≡ true → list_all q c ≡ true
all-weaker p q [] w a = refl
all-weaker p q (x ∷ c) w a = let b = and_parts (p x) (list_all p c) a in and_from (q x) (list_all q c) (w x b.0) (all-weaker p q c w b.1)

pub flip-flip : (l : Lit) → flip (flip l) ≡ l
flip-flip l = twice l.var l.neg
  where
    twice : (v : ℕ) (n : Bool) → ◌≡◌ {A = Lit} (record { var = v; neg = not (not n) }) (record { var = v; neg = n })
    twice v true = refl
    twice v false = refl

-- what holds of each literal holds of one that is there
pub All-has : (P : Lit → Type 0) (c : List Lit) (x : Lit) → All P c → has c x ≡ true → P x
All-has P [] x a h = cc
All-has P (y ∷ c) x a h =
    elim (or_cases (same_lit y x) (has c x) h) [
      | inl e ↦ subst P (same_lit-true y x e) (All-head P y c a)
      | inr e ↦ All-has P c x (All-tail P y c a) e
    ]

pub named-last : (ks : List (List Lit)) (c : List Lit) → named (ks ++ c ∷ []) (length ks + 1) ≡ Some c
named-last ks c = rw add-one (at_last ks)
  where
    at_last : (xs : List (List Lit)) → slice_get (xs ++ c ∷ []) (length xs) ≡ Some c
    at_last [] = refl
    at_last (x ∷ xs) = at_last xs

pub named-all : (P : List Lit → Type 0) (ks : List (List Lit)) (n : ℕ) (c : List Lit) → All P ks → named ks n ≡ Some c → P c
named-all P ks zero c a e = cc
named-all P ks (suc n) c a e = subst P (get_or_from_slice_get ks n c c e) (a n c (slice_get_within ks n c e))

within-resolvent : (n : ℕ) (c : List Lit) (p : Lit) (d : List Lit) → AreWithin n c → AreWithin n d → AreWithin n (resolvent c p d)
within-resolvent n c p d v w k e h =
    let x : Lit = get_or (resolvent c p d) k e in
    let m : ((has c x && not (same_lit x p)) || (has d x && not (same_lit x (flip p)))) ≡ true = sym (has-resolvent c p d x) ∙ has-at (resolvent c p d) k e h in
    elim (or_cases (has c x && not (same_lit x p)) (has d x && not (same_lit x (flip p))) m) [
      | inl a ↦ All-has (IsWithin n) c x v (and_parts (has c x) (not (same_lit x p)) a).0
      | inr a ↦ All-has (IsWithin n) d x w (and_parts (has d x) (not (same_lit x (flip p))) a).0
    ]

within-link : (n : ℕ) (c : List Lit) (p : Lit) (o : Option (List Lit)) → AreWithin n c → ((d : List Lit) → o ≡ Some d → AreWithin n d) → IfOk (after_link c p o) (λ d. AreWithin n d)
within-link n c p None v w = tt
within-link n c p (Some d) v w = goes (has c p) (has d (flip p))
  where
    goes : (a b : Bool) → IfOk (cond a (cond b (Ok (resolvent c p d)) (Err PivotNotThere)) (Err PivotNotHere)) (λ d. AreWithin n d)
    goes true true = within-resolvent n c p d v (w d refl)
    goes true false = tt
    goes false b = tt

within-links : (n : ℕ) (ks : List (List Lit)) (r : Result (List Lit) Reason) (ls : List Link) → All (λ d. AreWithin n d) ks → IfOk r (λ d. AreWithin n d)
    → IfOk (after_links ks r ls) (λ d. AreWithin n d)
within-links n ks r [] a h = h
within-links n ks (Err e) (l ∷ ls) a h = tt
within-links n ks (Ok c) (l ∷ ls) a h =
    within-links n ks (after_link c l.pivot (named ks l.clause)) ls a
    (within-link n c l.pivot (named ks l.clause) h (λ d e. named-all (λ z. AreWithin n z) ks l.clause d a e))

-- what a chain derives names the variables that the clauses name
pub within-derived : (n : ℕ) (ks : List (List Lit)) (s : StepView) (c : List Lit) → All (λ d. AreWithin n d) ks → derived ks s ≡ Ok c → AreWithin n c
within-derived n ks s c a e =
    of-ok (derived ks s) (within-links n ks (started (named ks s.start)) s.links a (begins (named ks s.start) (λ d f. named-all (λ z. AreWithin n z) ks s.start d a f))) e
  where
    begins : (o : Option (List Lit)) → ((d : List Lit) → o ≡ Some d → AreWithin n d) → IfOk (started o) (λ d. AreWithin n d)
    begins None f = tt
    begins (Some d) f = f d refl

    of-ok : (r : Result (List Lit) Reason) → IfOk r (λ d. AreWithin n d) → r ≡ Ok c → AreWithin n c
    of-ok (Ok b) h e = let w : b ≡ c = cc in subst (λ z. AreWithin n z) w h
    of-ok (Err f) h e = absurd (let z : Err f ≡ Ok c = e in cc)
