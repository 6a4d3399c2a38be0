-- What is kept of an accepted log is accepted
use Rattle.std.proofs.Common.{◌≡◌, ℕ, zero, suc, ◌+◌, ◌<◌, ◌≤◌, Bool, true, false, ◌||◌, cond, List, [], ◌∷◌, ◌++◌, length, refl, ap, sym, ◌∙◌, subst, arith, Option, Some, None, Result, Ok, Err, get_or, take, drop, ◌⊎◌, inl, inr}
use Rattle.std.specs.Prelude.{IfSome, IfOk}
use Rattle.std.specs.List.{list_any, slice_get}
use Rattle.std.proofs.lemmas.Bool.{cases_lt, cond-false}
use Rattle.std.proofs.lemmas.List.{append-nil, append_assoc, get_or_append_left, get_or_push, length-take-le, length_push, take-append-drop, take-take, take_more}
use Rattle.std.proofs.lemmas.List.Folds.{list_any-append}
use Rattle.svr_chain.specs.declared.clause.Lit.{Lit}
use Rattle.svr_chain.specs.declared.log.Link.{Link}
use Rattle.svr_chain.specs.declared.log.Reason.{Reason}
use Rattle.svr_chain.specs.declared.log.Reason.TheVariants.{NoSuchClause, Tautology, Repeated}
use Rattle.svr_chain.specs.declared.log.Verdict.{Verdict}
use Rattle.svr_chain.specs.declared.log.Verdict.TheVariants.{Accepted, Rejected}
use Rattle.svr_chain.specs.Views.{StepView, RefutationView}
use Rattle.svr_chain.specs.Clauses.{is_tautology}
use Rattle.svr_chain.specs.Log.{named, started, after_link, after_links, derived, is_repeated, judged, step_result, after_steps, is_denied, goal_verdict, verdict_of}
use Rattle.svr_chain.proofs.ClauseLemmas.{named-last}
use Rattle.svr_chain.proofs.Indexed.{get-push}
use Rattle.svr_chain.proofs.Sound.{after_links-err}
use Rattle.svr_query.specs.Answer.{IsRefutation}
use Rattle.svr_query.specs.Needed.{IsNumberOf, AreLinksIn, IsStepIn, IsPartOf, IsKept}
use Rattle.svr_query.proofs.Steps.{after_steps-push, accepted-goal}

-- ---- what an accepted step says

record IsMade (ks : List (List Lit)) (s : StepView) (c : List Lit) : Type 0 where
  derives : derived ks s ≡ Ok c
  apart : is_tautology c ≡ false
  new : is_repeated ks c ≡ false

made-ok : (ks : List (List Lit)) (s : StepView) (c : List Lit) (r : Result (List Lit) Reason) → derived ks s ≡ r → judged ks r ≡ Ok c → IsMade ks s c
made-ok ks s c (Err e) d g = absurd (let z : Err e ≡ Ok c = g in cc)
made-ok ks s c (Ok x) d g = goes (is_tautology x) (is_repeated ks x) refl refl g
  where
    goes : (a b : Bool) → is_tautology x ≡ a → is_repeated ks x ≡ b → cond a (Err Tautology) (cond b (Err Repeated) (Ok x)) ≡ Ok c → IsMade ks s c
    goes true b p q k = absurd (let z : Err Tautology ≡ Ok c = k in cc)
    goes false true p q k = absurd (let z : Err Repeated ≡ Ok c = k in cc)
    goes false false p q k =
        let w : x ≡ c = (let z : Ok x ≡ Ok c = k in cc) in
        record { derives = d ∙ ap (λ z. Ok z) w; apart = subst (λ z. is_tautology z ≡ false) w p; new = subst (λ z. is_repeated ks z ≡ false) w q }

made-step : (ks : List (List Lit)) (s : StepView) (c : List Lit) → IsMade ks s c → step_result ks s ≡ Ok c
made-step ks s c m = ap (judged ks) m.derives ∙ (cond-false _ _ _ m.apart ∙ cond-false _ _ _ m.new)

-- the last step of an accepted log
record AfterLast (ks : List (List Lit)) (ss : List StepView) (n : ℕ) (s : StepView) (known : List (List Lit)) : Type 0 where
  before : List (List Lit)
  clause : List Lit
  first : after_steps ks n ss ≡ Ok before
  last : step_result before s ≡ Ok clause
  all : before ++ clause ∷ [] ≡ known

after-last : (ss : List StepView) (ks : List (List Lit)) (n : ℕ) (s : StepView) (known : List (List Lit)) → after_steps ks n (ss ++ s ∷ []) ≡ Ok known → AfterLast ks ss n s known
after-last [] ks n s known e = goes (step_result ks s) refl e
  where
    goes : (r : Result (List Lit) Reason) → step_result ks s ≡ r
        → (elim r as (λ w. Result (List (List Lit)) (ℕ × Reason)) [ Ok c ↦ Ok (ks ++ c ∷ []) | Err f ↦ Err (n, f) ]) ≡ Ok known → AfterLast ks [] n s known
    goes (Err f) q h = absurd (let z : Err (n, f) ≡ Ok known = h in cc)
    goes (Ok c) q h = record { before = ks; clause = c; first = refl; last = q; all = (let w : ks ++ c ∷ [] ≡ known = cc in w) }
after-last (x ∷ ss) ks n s known e = goes (step_result ks x) refl (λ c g. after-last ss (ks ++ c ∷ []) (n + 1) s known g) e
  where
    goes : (r : Result (List Lit) Reason) → step_result ks x ≡ r
        → ((c : List Lit) → after_steps (ks ++ c ∷ []) (n + 1) (ss ++ s ∷ []) ≡ Ok known → AfterLast (ks ++ c ∷ []) ss (n + 1) s known)
        → (elim r as (λ w. Result (List (List Lit)) (ℕ × Reason)) [ Ok c ↦ after_steps (ks ++ c ∷ []) (n + 1) (ss ++ s ∷ []) | Err f ↦ Err (n, f) ]) ≡ Ok known
        → AfterLast ks (x ∷ ss) n s known
    goes (Err f) q g h = absurd (let z : Err (n, f) ≡ Ok known = h in cc)
    goes (Ok c) q g h =
        let r = g c h in
        record {
          before = r.before;
          clause = r.clause;
          first = ap (λ (z : Result (List Lit) Reason). elim z as (λ w. Result (List (List Lit)) (ℕ × Reason)) [ Ok d ↦ after_steps (ks ++ d ∷ []) (n + 1) ss | Err f ↦ Err (n, f) ]) q ∙ r.first;
          last = r.last;
          all = r.all;
        }

-- ---- clauses by their numbers

named-more : (ks : List (List Lit)) (d c : List Lit) (n : ℕ) → named ks n ≡ Some c → named (ks ++ d ∷ []) n ≡ Some c
named-more ks d c zero e = absurd (let z : None ≡ Some c = e in cc)
named-more ks d c (suc n) e = goes ks n e
  where
    goes : (xs : List (List Lit)) (i : ℕ) → slice_get xs i ≡ Some c → slice_get (xs ++ d ∷ []) i ≡ Some c
    goes [] i h = absurd (let z : None ≡ Some c = h in cc)
    goes (x ∷ xs) zero h = h
    goes (x ∷ xs) (suc i) h = goes xs i h

named-split : (ks : List (List Lit)) (d c : List Lit) (n : ℕ) → named (ks ++ d ∷ []) n ≡ Some c → (named ks n ≡ Some c) ⊎ ((n ≡ length ks + 1) × (d ≡ c))
named-split ks d c zero e = absurd (let z : None ≡ Some c = e in cc)
named-split ks d c (suc n) e = elim (get-push ks d c n e) [ inl h ↦ inl h | inr h ↦ inr (omega (arith, h.0), h.1) ]

both-false : (a b : Bool) → (a || b) ≡ false → (a ≡ false) × (b ≡ false)
both-false true b h = absurd (let z : true ≡ false = h in cc)
both-false false b h = (refl, h)

any-push : (P : List Lit → Bool) (ks : List (List Lit)) (c : List Lit) → list_any P (ks ++ c ∷ []) ≡ false → (list_any P ks ≡ false) × (list_any P (c ∷ []) ≡ false)
any-push P ks c h = both-false (list_any P ks) (list_any P (c ∷ [])) (sym (list_any-append P ks (c ∷ [])) ∙ h)

-- ---- numbers

part-none : (cnf : List (List Lit)) → IsPartOf (length cnf) [] cnf cnf
part-none cnf = record {
  long = omega arith;
  count = omega arith;
  first = λ n c w e. e;
  there = λ i h. absurd (omega (arith, h));
  among = λ P h. h;
}

module _ (m : ℕ) (ps : List ℕ) (ks part : List (List Lit)) (i : IsPartOf m ps ks part) where
  first-more : (c : List Lit) (n : ℕ) (d : List Lit) → n ≤ m → named (ks ++ c ∷ []) n ≡ Some d → named part n ≡ Some d
  first-more c n d w h =
      elim (named-split ks c d n h) [
        | inl g ↦ i.first n d w g
        | inr g ↦ (let q : n ≡ length ks + 1 = g.0 in absurd (omega (arith, q, w, i.long)))
      ]

  among-more : (c : List Lit) (P : List Lit → Bool) → list_any P (ks ++ c ∷ []) ≡ false → (list_any P part ≡ false) × (list_any P (c ∷ []) ≡ false)
  among-more c P h = let b = any-push P ks c h in (i.among P b.0, b.1)

  -- a step that is kept
  part-more : (c : List Lit) (p : ℕ) → length ks ≡ m + p → IsPartOf m (ps ++ p ∷ []) (ks ++ c ∷ []) (part ++ c ∷ [])
  part-more c p e = record {
    long = omega (arith, length_push ks c, i.long);
    count = omega (arith, length_push part c, length_push ps p, i.count);
    first = λ n d w h. named-more part c d n (first-more c n d w h);
    there = λ j h. elim (cases_lt j (length ps)) [
      | inl l ↦ rw (get_or_append_left ps (p ∷ []) 0 j l) (let t = i.there j l in (t.0, named-more ks c t.0 (m + get_or ps j 0 + 1) t.1, named-more part c t.0 (m + j + 1) t.2))
      | inr l ↦
          let q : length ps ≡ j = omega (arith, l, h, length_push ps p) in
          let k : length ks + 1 ≡ m + p + 1 = omega (arith, e) in
          let o : length part + 1 ≡ m + j + 1 = omega (arith, i.count, q) in
          rw (get_or_push ps p 0 j q) (c, ap (named (ks ++ c ∷ [])) (sym k) ∙ named-last ks c, ap (named (part ++ c ∷ [])) (sym o) ∙ named-last part c)
    ];
    among = λ P h. let b = among-more c P h in list_any-append P part (c ∷ []) ∙ (ap (λ z. z || list_any P (c ∷ [])) b.0 ∙ b.1);
  }

  -- one that is left out
  part-less : (c : List Lit) → IsPartOf m ps (ks ++ c ∷ []) part
  part-less c = record {
    long = omega (arith, length_push ks c, i.long);
    count = i.count;
    first = first-more c;
    there = λ j h. let t = i.there j h in (t.0, named-more ks c t.0 (m + get_or ps j 0 + 1) t.1, t.2);
    among = λ P h. (among-more c P h).0;
  }

  -- the clause of a number
  part-clause : (n o : ℕ) (c : List Lit) → IsNumberOf m ps n o → named ks n ≡ Some c → named part o ≡ Some c
  part-clause n o c a e =
      elim a [
        | inl h ↦ ap (named part) h.1 ∙ i.first n c h.0 e
        | inr h ↦
            let t = i.there h.0 h.1 in
            ap (named part) h.3 ∙ (t.2 ∙ (sym t.1 ∙ (ap (named ks) (sym h.2) ∙ e)))
      ]

  -- ---- a step by the new numbers derives the same clause

  err-apart : (e : Reason) (xs : List Link) (c : List Lit) → after_links ks (Err e) xs ≡ Ok c → ⊥
  err-apart e xs c h = let z : Err e ≡ Ok c = sym (after_links-err ks e xs) ∙ h in cc

  links-in : (d c : List Lit) (xs ys : List Link) → AreLinksIn m ps xs ys → after_links ks (Ok d) xs ≡ Ok c → after_links part (Ok d) ys ≡ Ok c
  links-in d c [] [] a e = e
  links-in d c [] (y ∷ ys) a e = absurd a
  links-in d c (x ∷ xs) [] a e = absurd a
  links-in d c (x ∷ xs) (y ∷ ys) a e = goes (named ks x.clause) refl (λ f h. links-in f c xs ys a.2 h) e
    where
      after : (r : Result (List Lit) Reason) → ((f : List Lit) → after_links ks (Ok f) xs ≡ Ok c → after_links part (Ok f) ys ≡ Ok c)
          → after_links ks r xs ≡ Ok c → after_links part r ys ≡ Ok c
      after (Ok f) g h = g f h
      after (Err q) g h = absurd (err-apart q xs c h)

      goes : (o : Option (List Lit)) → named ks x.clause ≡ o → ((f : List Lit) → after_links ks (Ok f) xs ≡ Ok c → after_links part (Ok f) ys ≡ Ok c)
          → after_links ks (after_link d x.pivot o) xs ≡ Ok c → after_links part (after_link d y.pivot (named part y.clause)) ys ≡ Ok c
      goes None q g h = absurd (err-apart NoSuchClause xs c h)
      goes (Some f) q g h =
          ap (λ z. after_links part (after_link d y.pivot z) ys) (part-clause x.clause y.clause f a.1 q)
          ∙ (ap (λ z. after_links part (after_link d z (Some f)) ys) a.0 ∙ after (after_link d x.pivot (Some f)) g h)

  derived-in : (s t : StepView) (c : List Lit) → IsStepIn m ps s t → derived ks s ≡ Ok c → derived part t ≡ Ok c
  derived-in s t c a e = goes (named ks s.start) refl e
    where
      goes : (o : Option (List Lit)) → named ks s.start ≡ o → after_links ks (started o) s.links ≡ Ok c → after_links part (started (named part t.start)) t.links ≡ Ok c
      goes None q h = absurd (err-apart NoSuchClause s.links c h)
      goes (Some f) q h = ap (λ z. after_links part (started z) t.links) (part-clause s.start t.start f a.start q) ∙ links-in f c s.links t.links a.links h

  step-in : (s t : StepView) (c : List Lit) → IsStepIn m ps s t → step_result ks s ≡ Ok c → step_result part t ≡ Ok c
  step-in s t c a e =
      let b = made-ok ks s c (derived ks s) refl e in
      made-step part t c (record { derives = derived-in s t c a b.derives; apart = b.apart; new = i.among _ b.new })

-- ---- logs

pub kept-none : (cnf : List (List Lit)) → IsKept cnf [] [] []
kept-none cnf = λ known e. let w : cnf ≡ known = cc in (cnf, refl, subst (λ z. IsPartOf (length cnf) [] z cnf) w (part-none cnf))

-- each step of an accepted log adds a clause
steps-length : (ss : List StepView) (ks : List (List Lit)) (n : ℕ) (known : List (List Lit)) → after_steps ks n ss ≡ Ok known → length known ≡ length ks + length ss
steps-length [] ks n known e =
    let w : ks ≡ known = cc in
    let q : length ks ≡ length known = ap (λ (z : List (List Lit)). length z) w in
    omega (arith, q)
steps-length (x ∷ ss) ks n known e = goes (step_result ks x) (λ c g. steps-length ss (ks ++ c ∷ []) (n + 1) known g) e
  where
    goes : (r : Result (List Lit) Reason) → ((c : List Lit) → after_steps (ks ++ c ∷ []) (n + 1) ss ≡ Ok known → length known ≡ length (ks ++ c ∷ []) + length ss)
        → (elim r as (λ w. Result (List (List Lit)) (ℕ × Reason)) [ Ok c ↦ after_steps (ks ++ c ∷ []) (n + 1) ss | Err f ↦ Err (n, f) ]) ≡ Ok known
        → length known ≡ length ks + length (x ∷ ss)
    goes (Err f) g h = absurd (let z : Err (n, f) ≡ Ok known = h in cc)
    goes (Ok c) g h = let q = g c h in omega (arith, q, length_push ks c)

module _ (cnf : List (List Lit)) (ts : List StepView) (ps : List ℕ) where
  pub kept-more : (ss : List StepView) (s t : StepView) → IsStepIn (length cnf) ps s t → IsKept cnf ss ts ps → IsKept cnf (ss ++ s ∷ []) (ts ++ t ∷ []) (ps ++ length ss ∷ [])
  kept-more ss s t a k = λ known h.
      let l = after-last ss cnf 1 s known h in
      let r = k l.before l.first in
      let x : step_result r.0 t ≡ Ok l.clause = step-in (length cnf) ps l.before r.0 r.2 s t l.clause a l.last in (
        r.0 ++ l.clause ∷ [],
        after_steps-push ts cnf 1 t r.0 l.clause r.1 x,
        subst (λ z. IsPartOf (length cnf) (ps ++ length ss ∷ []) z (r.0 ++ l.clause ∷ [])) l.all
            (part-more (length cnf) ps l.before r.0 r.2 l.clause (length ss) (steps-length ss cnf 1 l.before l.first)),
      )

  pub kept-less : (ss : List StepView) (s : StepView) → IsKept cnf ss ts ps → IsKept cnf (ss ++ s ∷ []) ts ps
  kept-less ss s k = λ known h.
      let l = after-last ss cnf 1 s known h in
      let r = k l.before l.first in
      (r.0, r.1, subst (λ z. IsPartOf (length cnf) ps z r.0) l.all (part-less (length cnf) ps l.before r.0 r.2 l.clause))

  -- steps that are left out
  kept-later : (more ss : List StepView) → IsKept cnf ss ts ps → IsKept cnf (ss ++ more) ts ps
  kept-later [] ss k = subst (λ (z : List StepView). IsKept cnf z ts ps) (sym (append-nil ss)) k
  kept-later (x ∷ more) ss k = subst (λ (z : List StepView). IsKept cnf z ts ps) (append_assoc ss (x ∷ []) more) (kept-later more (ss ++ x ∷ []) (kept-less ss x k))

  -- up to a later place
  pub kept-up_to : (ss : List StepView) (i j : ℕ) → i ≤ j → IsKept cnf (take i ss) ts ps → IsKept cnf (take j ss) ts ps
  kept-up_to ss i j o k =
      let e : take i ss ++ drop i (take j ss) ≡ take j ss = ap (λ (z : List StepView). z ++ drop i (take j ss)) (sym (take-take i j ss o)) ∙ take-append-drop i (take j ss) in
      subst (λ (z : List StepView). IsKept cnf z ts ps) e (kept-later (drop i (take j ss)) (take i ss) k)

  -- up to the end
  pub kept-whole : (ss : List StepView) (i : ℕ) → IsKept cnf (take i ss) ts ps → IsKept cnf ss ts ps
  kept-whole ss i k = subst (λ (z : List StepView). IsKept cnf z ts ps) (take-append-drop i ss) (kept-later (drop i ss) (take i ss) k)

-- the goal of what was kept
pub kept-goal : (cnf : List (List Lit)) (assume : List Lit) (ss ts : List StepView) (ps : List ℕ) (n o : ℕ) → IsKept cnf ss ts ps → IsNumberOf (length cnf) ps n o
    → verdict_of cnf assume ss (Some n) ≡ Accepted → verdict_of cnf assume ts (Some o) ≡ Accepted
kept-goal cnf assume ss ts ps n o k a v = whole (after_steps cnf 1 ss) refl v
  where
    there : (known : List (List Lit)) → after_steps cnf 1 ss ≡ Ok known → (c : Option (List Lit)) → named known n ≡ c → (b : Bool) → is_denied assume c ≡ b
        → cond b Accepted (Rejected (length ss + 1) Reason.NotGoal) ≡ Accepted → verdict_of cnf assume ts (Some o) ≡ Accepted
    there known e None q b d h = absurd (let w : b ≡ false = sym d in let z : Rejected (length ss + 1) Reason.NotGoal ≡ Accepted = subst (λ x. cond x Accepted (Rejected (length ss + 1) Reason.NotGoal) ≡ Accepted) w h in cc)
    there known e (Some c) q false d h = absurd (let z : Rejected (length ss + 1) Reason.NotGoal ≡ Accepted = h in cc)
    there known e (Some c) q true d h =
        let r = k known e in
        accepted-goal cnf assume ts r.0 o c r.1 (part-clause (length cnf) ps known r.0 r.2 n o c a q) d

    whole : (r : Result (List (List Lit)) (ℕ × Reason)) → after_steps cnf 1 ss ≡ r
        → ◌≡◌ {A = Verdict} (elim r [ Ok known ↦ goal_verdict known (length ss + 1) assume (Some n) | Err f ↦ Rejected f.0 f.1 ]) Accepted → verdict_of cnf assume ts (Some o) ≡ Accepted
    whole (Err f) e h = absurd (let z : Rejected f.0 f.1 ≡ Accepted = h in cc)
    whole (Ok known) e h = there known e (named known n) refl (is_denied assume (named known n)) refl h

-- ---- what the code finds

pub number-low : (m : ℕ) (ps : List ℕ) (n : ℕ) → n ≤ m → IsNumberOf m ps n n
number-low m ps n l = inl (l, refl)

pub number-there : (m : ℕ) (ps : List ℕ) (n p i : ℕ) (r : Option ℕ) → n ≡ m + p + 1 → (i < length ps) × (get_or ps i 0 ≡ p) → IfSome r (λ o. o ≡ m + i + 1) → IfSome r (IsNumberOf m ps n)
number-there m ps n p i None e h q = tt
number-there m ps n p i (Some o) e h q = inr (i, h.0, e ∙ ap (λ z. m + z + 1) (sym h.1), q)

pub links-more : (m : ℕ) (ps : List ℕ) (xs ys : List Link) (x y : Link) → AreLinksIn m ps xs ys → y.pivot ≡ x.pivot → IsNumberOf m ps x.clause y.clause
    → AreLinksIn m ps (xs ++ x ∷ []) (ys ++ y ∷ [])
links-more m ps [] [] x y a p n = (p, n, tt)
links-more m ps [] (z ∷ ys) x y a p n = absurd a
links-more m ps (z ∷ xs) [] x y a p n = absurd a
links-more m ps (z ∷ xs) (w ∷ ys) x y a p n = (a.0, a.1, links-more m ps xs ys x y a.2 p n)

-- a step that is kept
pub keep_more : (m : ℕ) (ts us : List StepView) (ps qs : List ℕ) (s t : StepView) (p : ℕ) → us ≡ ts ++ t ∷ [] → qs ≡ ps ++ p ∷ [] → IsStepIn m ps s t
    → (cnf : List (List Lit)) (ss : List StepView) → length cnf ≡ m → length ss ≡ p → IsKept cnf ss ts ps → IsKept cnf (ss ++ s ∷ []) us qs
keep_more m ts us ps qs s t p u v a cnf ss l e k =
    let b : IsStepIn (length cnf) ps s t = subst (λ z. IsStepIn z ps s t) (sym l) a in
    let w : IsKept cnf (ss ++ s ∷ []) (ts ++ t ∷ []) (ps ++ length ss ∷ []) = kept-more cnf ts ps ss s t b k in
    let x : IsKept cnf (ss ++ s ∷ []) (ts ++ t ∷ []) qs = subst (λ z. IsKept cnf (ss ++ s ∷ []) (ts ++ t ∷ []) z) (ap (λ (z : ℕ). ps ++ z ∷ []) e ∙ sym v) w in
    subst (λ z. IsKept cnf (ss ++ s ∷ []) z qs) (sym u) x

-- and that at a place, behind those that were left out
pub keep_behind : (cnf : List (List Lit)) (ss ts us : List StepView) (ps qs : List ℕ) (s : StepView) (i p : ℕ) → i ≤ p → p < length ss → s ≡ get_or ss p s
    → (length (take p ss) ≡ p → IsKept cnf (take p ss) ts ps → IsKept cnf (take p ss ++ s ∷ []) us qs) → IsKept cnf (take i ss) ts ps → IsKept cnf (take (p + 1) ss) us qs
keep_behind cnf ss ts us ps qs s i p o l g f k =
    let w : IsKept cnf (take p ss ++ s ∷ []) us qs = f (length-take-le p ss (omega (arith, l))) (kept-up_to cnf ts ps ss i p o k) in
    subst (λ (z : List StepView). IsKept cnf z us qs) (sym (take_more ss p s l ∙ ap (λ (z : StepView). take p ss ++ z ∷ []) (sym g))) w

-- what was kept refutes as all did
pub kept_refutes : (m : ℕ) (ss ts : List StepView) (ps : List ℕ) (n o : ℕ) → ((cnf : List (List Lit)) → length cnf ≡ m → IsKept cnf ss ts ps) → IsNumberOf m ps n o
    → (cnf : List (List Lit)) (assume : List Lit) → length cnf ≡ m → verdict_of cnf assume ss (Some n) ≡ Accepted → IsRefutation cnf assume (record { steps = ts; goal = Some o })
kept_refutes m ss ts ps n o k a cnf assume l v = (refl, kept-goal cnf assume ss ts ps n o (k cnf l) (subst (λ z. IsNumberOf z ps n o) (sym l) a) v)

pub refutes_by : {E : Type 0} (r : Result RefutationView E) (m : ℕ) (ss : List StepView) (n : ℕ) (cnf : List (List Lit)) (assume : List Lit)
    → IfOk r (λ x. (ks : List (List Lit)) (ls : List Lit) → length ks ≡ m → verdict_of ks ls ss (Some n) ≡ Accepted → IsRefutation ks ls x)
    → verdict_of cnf assume ss (Some n) ≡ Accepted → length cnf ≡ m → IfOk r (IsRefutation cnf assume)
refutes_by (Err e) m ss n cnf assume h v l = tt
refutes_by (Ok x) m ss n cnf assume h v l = h cnf assume l v
