-- Unit propagation over the clauses of a chain, from the last to the first
use Rattle.std.proofs.Common.{◌≡◌, ℕ, Bool, true, false, ◌&&◌, ◌||◌, not, nat_eq, cond, List, [], ◌∷◌, ◌++◌, map, fold, Option, Some, None, Ok, Err, refl, sym, ap, ◌∙◌, subst, inl, inr}
use mathlib.Core.List.{reverse_aux}
use Rattle.std.specs.Prelude.{◌⊎◌, unwrap_or}
use Rattle.std.specs.List.{list_any, list_all}
use Rattle.std.proofs.lemmas.Bool.{cases_Bool, cond_both, cond-false, and_parts, and_from, or_cases, or_left, or_right, eqb-true, eq-eqb, false≢true, not-true, not_from_true, not_from_false, both_ways}
use Rattle.std.proofs.lemmas.List.Folds.{list_any-append, list_all-append}
use Rattle.svr_chain.specs.declared.clause.Lit.{Lit}
use Rattle.svr_chain.specs.declared.log.Link.{Link}
use Rattle.svr_chain.specs.declared.log.Reason.TheVariants.{NoSuchClause, PivotNotHere, PivotNotThere}
use Rattle.svr_chain.specs.Views.{StepView}
use Rattle.svr_chain.specs.Clauses.{same_lit, flip, has, resolvent}
use Rattle.svr_chain.specs.Log.{named, after_link, after_links, started, derived}
use Rattle.svr_chain.proofs.Sound.{same_lit-true, after_links-err}
use Rattle.svr_chain.proofs.Same.{lit-self, has-resolvent}
use Rattle.svr_lrat_file.specs.declared.file.Number.{Number}
use Rattle.svr_lrat_judge.specs.Verdict.{left, what_left, left_of, of_hint, hinted, hints_fault}
use Rattle.svr_lrat_made.specs.Needed.{uses}
use Rattle.svr_lrat_made.specs.Made.{with_link, resolved, hint, link_hint, hints_of}

-- each literal of the clause is false where these are true
abbrev pub Denies : List Lit → List Lit → Type 0
Denies known c = (x : Lit) → has c x ≡ true → has known (flip x) ≡ true

has-first : (x : Lit) (c : List Lit) → has (x ∷ c) x ≡ true
has-first x c = or_left (same_lit x x) (has c x) (lit-self x)

has-behind : (y : Lit) (c : List Lit) (x : Lit) → has c x ≡ true → has (y ∷ c) x ≡ true
has-behind y c x e = or_right (same_lit y x) (has c x) e

-- ---- what is left of a clause

-- nothing, where it is denied
none_left : (known c : List Lit) → Denies known c → left known c ≡ []
none_left known [] d = refl
none_left known (y ∷ c) d =
    cond-false (not (has known (flip y))) (y ∷ left known c) (left known c) (not_from_true (has known (flip y)) (d y (has-first y c)))
    ∙ none_left known c (λ x e. d x (has-behind y c x e))

-- at most one literal, where each that is not false is this one
left_few : (q : Lit) (known c : List Lit) → ((x : Lit) → has c x ≡ true → has known (flip x) ≡ false → same_lit q x ≡ true) → list_all (same_lit q) (left known c) ≡ true
left_few q known [] f = refl
left_few q known (y ∷ c) f =
    let rest : list_all (same_lit q) (left known c) ≡ true = left_few q known c (λ x e g. f x (has-behind y c x e) g) in
    cond_both (not (has known (flip y))) (y ∷ left known c) (left known c) (λ z. list_all (same_lit q) z ≡ true)
    (λ e. and_from (same_lit q y) (list_all (same_lit q) (left known c)) (f y (has-first y c) (not-true (has known (flip y)) e)) rest)
    (λ e. rest)

few_left : (q : Lit) (c : List Lit) → list_all (same_lit q) c ≡ true → (c ≡ []) ⊎ ((xs : List Lit) × (c ≡ q ∷ xs) × (list_all (same_lit q) xs ≡ true))
few_left q [] a = inl refl
few_left q (x ∷ c) a =
    let p = and_parts (same_lit q x) (list_all (same_lit q) c) a in
    inr (c, ap (λ z. z ∷ c) (sym (same_lit-true q x p.0)), p.1)

-- ---- one hint

module _ (live : ℕ → Option (List Lit)) where
  -- a clause that is denied shows the lemma
  pub shown : (known : List Lit) (n : ℕ) (c : List Lit) (ns : List Number) → live n ≡ Some c → Denies known c → hints_fault live known (hint n ∷ ns) ≡ None
  shown known n c ns g d =
      let e : left known c ≡ [] = none_left known c d in
      rw (g, e, hints_fault, hinted, of_hint, left_of, what_left) refl

  -- where one literal is left at most, it becomes true
  pub one-left : (known : List Lit) (n : ℕ) (c : List Lit) (q : Lit) (ns : List Number) → live n ≡ Some c
      → ((x : Lit) → has c x ≡ true → has known (flip x) ≡ false → same_lit q x ≡ true)
      → hints_fault live (known ++ q ∷ []) ns ≡ None → hints_fault live known (hint n ∷ ns) ≡ None
  one-left known n c q ns g f e =
      elim (few_left q (left known c) (left_few q known c f)) [
        | inl a ↦ rw (g, a, hints_fault, hinted, of_hint, left_of, what_left) refl
        | inr s ↦ let a : left known c ≡ q ∷ s.0 = s.1 in let b : list_all (same_lit q) s.0 ≡ true = s.2 in rw (g, a, b, hints_fault, hinted, of_hint, left_of, what_left) e
      ]

pub has-longer : (known : List Lit) (q x : Lit) → has known x ≡ true → has (known ++ q ∷ []) x ≡ true
has-longer known q x e = list_any-append (λ y. same_lit y x) known (q ∷ []) ∙ or_left (has known x) (same_lit q x || false) e

pub has-last : (known : List Lit) (q : Lit) → has (known ++ q ∷ []) q ≡ true
has-last known q = list_any-append (λ y. same_lit y q) known (q ∷ []) ∙ or_right (has known q) (same_lit q q || false) (or_left (same_lit q q) false (lit-self q))

-- ---- one link

module _ (known c : List Lit) (p : Lit) (d : List Lit) where
  -- where the resolvent is denied, only the pivot's negation can be left of the linked clause
  only-pivot : Denies known (resolvent c p d) → (x : Lit) → has d x ≡ true → has known (flip x) ≡ false → same_lit (flip p) x ≡ true
  only-pivot k x e g =
      elim (cases_Bool (same_lit x (flip p))) [
        | inl s ↦ ap (same_lit (flip p)) (same_lit-true x (flip p) s) ∙ lit-self (flip p)
        | inr s ↦
            let t : has (resolvent c p d) x ≡ true = has-resolvent c p d x ∙ or_right (has c x && not (same_lit x p)) (has d x && not (same_lit x (flip p))) (and_from (has d x) (not (same_lit x (flip p))) e (not_from_false (same_lit x (flip p)) s)) in
            absurd (both_ways (has known (flip x)) g (k x t))
      ]

  -- and with it the clause before is denied
  denied-before : Denies known (resolvent c p d) → Denies (known ++ flip p ∷ []) c
  denied-before k x e =
      elim (cases_Bool (same_lit x p)) [
        | inl s ↦ ap (λ z. has (known ++ flip p ∷ []) (flip z)) (same_lit-true x p s) ∙ has-last known (flip p)
        | inr s ↦
            let t : has (resolvent c p d) x ≡ true = has-resolvent c p d x ∙ or_left (has c x && not (same_lit x p)) (has d x && not (same_lit x (flip p))) (and_from (has c x) (not (same_lit x p)) e (not_from_false (same_lit x p) s)) in
            has-longer known (flip p) (flip x) (k x t)
      ]

-- ---- chains

module _ (ks : List (List Lit)) (d : List Lit) where
  linked-ok : (c : List Lit) (p : Lit) (ls : List Link) (o : Option (List Lit)) → after_links ks (after_link c p o) ls ≡ Ok d
      → (e : List Lit) × (o ≡ Some e) × (after_links ks (Ok (resolvent c p e)) ls ≡ Ok d)
  linked-ok c p ls None g = absurd (let z : Err NoSuchClause ≡ Ok d = sym (after_links-err ks NoSuchClause ls) ∙ g in cc)
  linked-ok c p ls (Some e) g = (e, refl, goes (has c p) (has e (flip p)) g)
    where
      goes : (a b : Bool) → after_links ks (cond a (cond b (Ok (resolvent c p e)) (Err PivotNotThere)) (Err PivotNotHere)) ls ≡ Ok d → after_links ks (Ok (resolvent c p e)) ls ≡ Ok d
      goes true true k = k
      goes true false k = absurd (let z : Err PivotNotThere ≡ Ok d = sym (after_links-err ks PivotNotThere ls) ∙ k in cc)
      goes false b k = absurd (let z : Err PivotNotHere ≡ Ok d = sym (after_links-err ks PivotNotHere ls) ∙ k in cc)

  started-ok : (ls : List Link) (o : Option (List Lit)) → after_links ks (started o) ls ≡ Ok d → (c : List Lit) × (o ≡ Some c) × (after_links ks (Ok c) ls ≡ Ok d)
  started-ok ls None g = absurd (let z : Err NoSuchClause ≡ Ok d = sym (after_links-err ks NoSuchClause ls) ∙ g in cc)
  started-ok ls (Some c) g = (c, refl, g)

  -- what a chain derives is what its links resolve
  resolved-links : (c : List Lit) (ls : List Link) → after_links ks (Ok c) ls ≡ Ok d → d ≡ fold (with_link ks) c ls
  resolved-links c [] g = let w : c ≡ d = cc in sym w
  resolved-links c (l ∷ ls) g =
      let r = linked-ok c l.pivot ls (named ks l.clause) g in
      resolved-links (resolvent c l.pivot r.0) ls r.2
      ∙ ap (λ z. fold (with_link ks) (resolvent c l.pivot (unwrap_or z [])) ls) (sym r.1)

  pub resolved-step : (s : StepView) → derived ks s ≡ Ok d → d ≡ resolved ks s
  resolved-step s g =
      let r = started-ok s.links (named ks s.start) g in
      resolved-links r.0 s.links r.2 ∙ ap (λ z. fold (with_link ks) (unwrap_or z []) s.links) (sym r.1)

  links-named : (c : List Lit) (ls : List Link) → after_links ks (Ok c) ls ≡ Ok d → (n : ℕ) → list_any (λ (l : Link). nat_eq l.clause n) ls ≡ true → (e : List Lit) × (named ks n ≡ Some e)
  links-named c [] g n u = absurd (false≢true u)
  links-named c (l ∷ ls) g n u =
      let r = linked-ok c l.pivot ls (named ks l.clause) g in
      elim (or_cases (nat_eq l.clause n) (list_any (λ (x : Link). nat_eq x.clause n) ls) u) [
        | inl a ↦ (r.0, ap (named ks) (sym (eqb-true l.clause n a)) ∙ r.1)
        | inr a ↦ links-named (resolvent c l.pivot r.0) ls r.2 n a
      ]

  -- the clauses that a good step uses are there
  pub uses-named : (s : StepView) → derived ks s ≡ Ok d → (n : ℕ) → uses s n ≡ true → (e : List Lit) × (named ks n ≡ Some e)
  uses-named s g n u =
      let r = started-ok s.links (named ks s.start) g in
      elim (or_cases (nat_eq s.start n) (list_any (λ (x : Link). nat_eq x.clause n) s.links) u) [
        | inl a ↦ (r.0, ap (named ks) (sym (eqb-true s.start n a)) ∙ r.1)
        | inr a ↦ links-named r.0 s.links r.2 n a
      ]

  module _ (live : ℕ → Option (List Lit)) (number : ℕ → ℕ) where
    chain-shown : (ls acc : List Link) (tail : List Number) (c known : List Lit) → after_links ks (Ok c) ls ≡ Ok d
        → ((n : ℕ) (e : List Lit) → list_any (λ (l : Link). nat_eq l.clause n) ls ≡ true → named ks n ≡ Some e → live (number n) ≡ Some e)
        → Denies known d
        → ((k : List Lit) → Denies k c → hints_fault live k (map (link_hint number) acc ++ tail) ≡ None)
        → hints_fault live known (map (link_hint number) (reverse_aux ls acc) ++ tail) ≡ None
    chain-shown [] acc tail c known g f k go = let w : c ≡ d = cc in go known (subst (λ z. Denies known z) (sym w) k)
    chain-shown (l ∷ ls) acc tail c known g f k go =
        let r = linked-ok c l.pivot ls (named ks l.clause) g in
        let here : live (number l.clause) ≡ Some r.0 = f l.clause r.0 (or_left (nat_eq l.clause l.clause) _ (eq-eqb l.clause l.clause refl)) r.1 in
        chain-shown ls (l ∷ acc) tail (resolvent c l.pivot r.0) known r.2
        (λ n e u m. f n e (or_right (nat_eq l.clause n) _ u) m) k
        (λ z dz.
        one-left live z (number l.clause) r.0 (flip l.pivot) (map (link_hint number) acc ++ tail) here
        (only-pivot z c l.pivot r.0 dz)
        (go (z ++ flip l.pivot ∷ []) (denied-before z c l.pivot r.0 dz)))

    -- the hints of a step show its clause, where the clauses that it uses are live under their new numbers
    pub step-shown : (s : StepView) (known : List Lit) → derived ks s ≡ Ok d
        → ((n : ℕ) (e : List Lit) → uses s n ≡ true → named ks n ≡ Some e → live (number n) ≡ Some e)
        → Denies known d → hints_fault live known (hints_of number s) ≡ None
    step-shown s known g f k =
        let r = started-ok s.links (named ks s.start) g in
        let here : live (number s.start) ≡ Some r.0 = f s.start r.0 (or_left (nat_eq s.start s.start) _ (eq-eqb s.start s.start refl)) r.1 in
        chain-shown s.links [] (hint (number s.start) ∷ []) r.0 known r.2
        (λ n e u m. f n e (or_right (nat_eq s.start n) _ u) m) k
        (λ z dz. shown live z (number s.start) r.0 [] here dz)

-- ---- the hints of a step are the numbers of the clauses that it uses

module _ (p : Number → Bool) (number : ℕ → ℕ) where
  all-links : (ls acc : List Link) → ((n : ℕ) → list_any (λ (l : Link). nat_eq l.clause n) ls ≡ true → p (hint (number n)) ≡ true)
      → list_all p (map (link_hint number) acc) ≡ true → list_all p (map (link_hint number) (reverse_aux ls acc)) ≡ true
  all-links [] acc f a = a
  all-links (l ∷ ls) acc f a =
      all-links ls (l ∷ acc) (λ n e. f n (or_right (nat_eq l.clause n) (list_any (λ (x : Link). nat_eq x.clause n) ls) e))
      (and_from (p (link_hint number l)) (list_all p (map (link_hint number) acc)) (f l.clause (or_left (nat_eq l.clause l.clause) (list_any (λ (x : Link). nat_eq x.clause l.clause) ls) (eq-eqb l.clause l.clause refl))) a)

  pub all-hints : (s : StepView) → ((n : ℕ) → uses s n ≡ true → p (hint (number n)) ≡ true) → list_all p (hints_of number s) ≡ true
  all-hints s f =
      list_all-append p (map (link_hint number) (reverse_aux s.links [])) (hint (number s.start) ∷ [])
      ∙ and_from (list_all p (map (link_hint number) (reverse_aux s.links []))) (p (hint (number s.start)) && true)
      (all-links s.links [] (λ n e. f n (or_right (nat_eq s.start n) (list_any (λ (x : Link). nat_eq x.clause n) s.links) e)) refl)
      (and_from (p (hint (number s.start))) true (f s.start (or_left (nat_eq s.start s.start) (list_any (λ (x : Link). nat_eq x.clause s.start) s.links) (eq-eqb s.start s.start refl))) refl)
