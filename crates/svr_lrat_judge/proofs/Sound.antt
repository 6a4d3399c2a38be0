-- An accepted file has no valuation
use Rattle.std.proofs.Common.{◌≡◌, ℕ, ◌+◌, Bool, true, false, not, cond, nat_eq, nat_le, List, [], ◌∷◌, ◌++◌, map, fold, Option, None, Some, refl, sym, ap, ◌∙◌, subst, inl, inr}
use Rattle.std.specs.List.{list_any, list_all}
use Rattle.std.proofs.lemmas.Bool.{and_parts, and_from, or_cases, or_left, or_right, or_parts, or_from, cases_Bool, cond_both, both_ways, false≢true, not-true, not-false}
use Rattle.std.proofs.lemmas.List.Folds.{list_all-append}
use Rattle.svr_chain.specs.declared.clause.Lit.{Lit}
use Rattle.svr_chain.specs.Clauses.{same_lit, flip, has, is_tautology}
use Rattle.svr_chain.specs.Valuations.{lit_value, clause_value, Meets, HaveNoValuation}
use Rattle.svr_chain.proofs.Same.{lit-self}
use Rattle.svr_chain.proofs.Sound.{same_lit-true, true-has}
use Rattle.svr_lrat_file.specs.declared.file.Number.{Number}
use Rattle.svr_lrat_file.specs.declared.file.Line.{Line}
use Rattle.svr_lrat_file.specs.declared.file.Line.TheVariants as l
use Rattle.svr_lrat_file.specs.Views.{FileView}
use Rattle.svr_lrat_judge.specs.declared.verdict.LratReason.{LratReason}
use Rattle.svr_lrat_judge.specs.declared.verdict.LratReason.TheVariants as reason
use Rattle.svr_lrat_judge.specs.declared.verdict.LratVerdict.TheVariants as v
use Rattle.svr_lrat_judge.specs.declared.hints.Hinted.{Hinted}
use Rattle.svr_lrat_judge.specs.declared.hints.Hinted.TheVariants as h
use Rattle.svr_lrat_judge.specs.declared.derivation.Fault.{Fault}
use Rattle.svr_lrat_judge.specs.Verdict.{left, what_left, of_hint, hinted, hints_fault, literals_fault, lemma_fault, with_clause, without, without_number, deleted, State, is_nil, start, with_new, with_input, with_lemma, with_line, unless_faulty, after_line, verdict_at, state_of, verdict_of}

module _ (a : ℕ → Bool) where
  value-flip : (x : Lit) → lit_value a (flip x) ≡ not (lit_value a x)
  unfolding lit_value
  value-flip x = flips x.neg (a x.var)
    where
      flips : (n b : Bool) → cond (not n) (not b) b ≡ not (cond n (not b) b)
      flips true true = refl
      flips true false = refl
      flips false b = refl

  nil-false : clause_value a [] ≡ false
  unfolding clause_value
  nil-false = refl

  -- a true clause has a literal, of which what follows is said
  clause-cases : (x : Lit) (c : List Lit) (P : Type 0) → (lit_value a x ≡ true → P) → (clause_value a c ≡ true → P) → clause_value a (x ∷ c) ≡ true → P
  unfolding clause_value
  clause-cases x c P f g t = elim (or_cases (lit_value a x) (clause_value a c) t) [ inl e ↦ f e | inr e ↦ g e ]

  clause-left : (x : Lit) (c : List Lit) → lit_value a x ≡ true → clause_value a (x ∷ c) ≡ true
  unfolding clause_value
  clause-left x c t = or_left (lit_value a x) (clause_value a c) t

  clause-right : (x : Lit) (c : List Lit) → clause_value a c ≡ true → clause_value a (x ∷ c) ≡ true
  unfolding clause_value
  clause-right x c t = or_right (lit_value a x) (clause_value a c) t

  clause-parts : (x : Lit) (c : List Lit) → clause_value a (x ∷ c) ≡ false → (lit_value a x ≡ false) × (clause_value a c ≡ false)
  unfolding clause_value
  clause-parts x c t = or_parts (lit_value a x) (clause_value a c) t

  abbrev AreTrue : List Lit → Type 0
  AreTrue known = list_all (lit_value a) known ≡ true

  true-known : (known : List Lit) (x : Lit) → AreTrue known → has known x ≡ true → lit_value a x ≡ true
  true-known [] x t h = absurd (false≢true h)
  true-known (y ∷ known) x t h =
      let p = and_parts (lit_value a y) (list_all (lit_value a) known) t in
      elim (or_cases (same_lit y x) (has known x) h) [
        | inl e ↦ sym (ap (lit_value a) (same_lit-true y x e)) ∙ p.0
        | inr e ↦ true-known known x p.1 e
      ]

  false-flipped : (x : Lit) → lit_value a (flip x) ≡ true → lit_value a x ≡ false
  false-flipped x t = not-true (lit_value a x) (sym (value-flip x) ∙ t)

  true-flipped : (x : Lit) → lit_value a x ≡ false → lit_value a (flip x) ≡ true
  true-flipped x t = value-flip x ∙ ap not t

  -- a true clause stays true without its false literals
  left-true : (known c : List Lit) → AreTrue known → clause_value a c ≡ true → clause_value a (left known c) ≡ true
  left-true known [] k t = t
  left-true known (x ∷ c) k t =
      cond_both (not (has known (flip x))) (x ∷ left known c) (left known c) (λ d. clause_value a d ≡ true)
      (λ e. clause-cases x c (clause_value a (x ∷ left known c) ≡ true) (λ f. clause-left x (left known c) f) (λ f. clause-right x (left known c) (left-true known c k f)) t)
      (λ e.
      let f : lit_value a x ≡ false = false-flipped x (true-known known (flip x) k (not-false (has known (flip x)) e)) in
      clause-cases x c (clause_value a (left known c) ≡ true) (λ g. absurd (both_ways (lit_value a x) f g)) (λ g. left-true known c k g) t)

  all-same : (x : Lit) (c : List Lit) → list_all (same_lit x) c ≡ true → clause_value a c ≡ true → lit_value a x ≡ true
  all-same x [] s t = absurd (both_ways (clause_value a []) nil-false t)
  all-same x (y ∷ c) s t =
      let p = and_parts (same_lit x y) (list_all (same_lit x) c) s in
      clause-cases y c (lit_value a x ≡ true) (λ e. ap (lit_value a) (same_lit-true x y p.0) ∙ e) (λ e. all-same x c p.1 e) t

  -- what a hint says is true
  abbrev IsTrueHint : Hinted → Type 0
  IsTrueHint h.Shown = ⊥
  IsTrueHint (h.Unit x) = lit_value a x ≡ true
  IsTrueHint (h.Fault r) = Unit {0}

  what_left-true : (c : List Lit) → clause_value a c ≡ true → IsTrueHint (what_left c)
  what_left-true [] t = both_ways (clause_value a []) nil-false t
  what_left-true (x ∷ c) t =
      cond_both (list_all (same_lit x) c) (h.Unit x) (h.Fault reason.TwoLeft) IsTrueHint
      (λ e. clause-cases x c (lit_value a x ≡ true) (λ f. f) (λ f. all-same x c e f) t)
      (λ e. tt)

  abbrev AreTrueClauses : (ℕ → Option (List Lit)) → Type 0
  AreTrueClauses live = (i : ℕ) (c : List Lit) → live i ≡ Some c → clause_value a c ≡ true

  of_hint-true : (known : List Lit) (o : Option (List Lit)) → AreTrue known → ((c : List Lit) → o ≡ Some c → clause_value a c ≡ true) → IsTrueHint (of_hint known o)
  of_hint-true known None k f = tt
  of_hint-true known (Some c) k f = what_left-true (left known c) (left-true known c k (f c refl))

  hinted-true : (live : ℕ → Option (List Lit)) (known : List Lit) (n : Number) → AreTrueClauses live → AreTrue known → IsTrueHint (hinted live known n)
  hinted-true live known n m k =
      cond_both n.negative (h.Fault reason.Negative) (of_hint known (live n.size)) IsTrueHint (λ e. tt) (λ e. of_hint-true known (live n.size) k (λ c f. m n.size c f))

  known-more : (known : List Lit) (x : Lit) → AreTrue known → lit_value a x ≡ true → AreTrue (known ++ x ∷ [])
  known-more known x k t = list_all-append (lit_value a) known (x ∷ []) ∙ and_from _ _ k (and_from (lit_value a x) true t refl)

  -- hints without a fault show that not all of the known literals are true
  hints-show : (live : ℕ → Option (List Lit)) (ns : List Number) (known : List Lit) → AreTrueClauses live → AreTrue known → hints_fault live known ns ≡ None → ⊥
  hints-show live [] known m k e = absurd (let z : Some reason.Short ≡ None = e in cc)
  hints-show live (n ∷ ns) known m k e = goes (hinted live known n) (hinted-true live known n m k) (λ x t f. hints-show live ns (known ++ x ∷ []) m (known-more known x k t) f) e
    where
      goes : (o : Hinted) → IsTrueHint o → ((x : Lit) → lit_value a x ≡ true → hints_fault live (known ++ x ∷ []) ns ≡ None → ⊥)
          → ◌≡◌ {A = Option LratReason} (elim o [ h.Shown ↦ None | h.Unit x ↦ hints_fault live (known ++ x ∷ []) ns | h.Fault r ↦ Some r ]) None → ⊥
      goes h.Shown t f e = t
      goes (h.Unit x) t f e = f x t e
      goes (h.Fault r) t f e = absurd (let z : Some r ≡ None = e in cc)

  flips-true : (c : List Lit) → clause_value a c ≡ false → AreTrue (map flip c)
  flips-true [] f = refl
  flips-true (x ∷ c) f = let p = clause-parts x c f in and_from _ _ (true-flipped x p.0) (flips-true c p.1)

  -- one of two opposites is true
  opposites-true : (c d : List Lit) → list_any (λ x. has c (flip x)) d ≡ true → ((x : Lit) → has d x ≡ true → has c x ≡ true) → clause_value a c ≡ true
  opposites-true c [] t w = absurd (false≢true t)
  opposites-true c (x ∷ d) t w =
      elim (or_cases (has c (flip x)) (list_any (λ y. has c (flip y)) d) t) [
        | inl e ↦ elim (cases_Bool (lit_value a x)) [
          | inl f ↦ true-has a c x (w x (or_left (same_lit x x) (has d x) (lit-self x))) f
          | inr f ↦ true-has a c (flip x) e (true-flipped x f)
        ]
        | inr e ↦ opposites-true c d e (λ y g. w y (or_right (same_lit x y) (has d y) g))
      ]

  lemma-true : (live : ℕ → Option (List Lit)) (lits : List Lit) (ns : List Number) → AreTrueClauses live → literals_fault live lits ns ≡ None → clause_value a lits ≡ true
  lemma-true live lits ns m e =
      elim (cases_Bool (clause_value a lits)) [
        | inl t ↦ t
        | inr f ↦ elim (cases_Bool (is_tautology lits)) [
          | inl t ↦ opposites-true lits lits t (λ x g. g)
          | inr g ↦ absurd (hints-show live ns (map flip lits) m (flips-true lits f) (rw g at e))
        ]
      ]

  -- ---- states

  record IsTrueState (s : State) : Type 0 where
    pub clauses : AreTrueClauses s.live
    pub no_empty : s.has_empty ≡ false

  none-some : {A : Type 0} (x : A) → None ≡ Some x → ⊥
  none-some x e = cc

  clauses-more : (live : ℕ → Option (List Lit)) (id : ℕ) (c : List Lit) → AreTrueClauses live → clause_value a c ≡ true → AreTrueClauses (with_clause live id c)
  clauses-more live id c m t i d e =
      elim (cases_Bool (nat_eq id i)) [
        | inl q ↦ let z : Some c ≡ Some d = rw q at e in let s : c ≡ d = cc in subst (λ y. clause_value a y ≡ true) s t
        | inr q ↦ m i d (rw q at e)
      ]

  clauses-less : (live : ℕ → Option (List Lit)) (id : ℕ) → AreTrueClauses live → AreTrueClauses (without live id)
  clauses-less live id m i d e =
      elim (cases_Bool (nat_eq id i)) [
        | inl q ↦ absurd (none-some d (rw q at e))
        | inr q ↦ m i d (rw q at e)
      ]

  clauses-deleted : (ns : List Number) (live : ℕ → Option (List Lit)) → AreTrueClauses live → AreTrueClauses (deleted live ns)
  clauses-deleted [] live m = m
  clauses-deleted (n ∷ ns) live m = clauses-deleted ns (without_number live n) (clauses-less live n.size m)

  not-nil : (c : List Lit) → clause_value a c ≡ true → is_nil c ≡ false
  not-nil [] t = absurd (both_ways (clause_value a []) nil-false t)
  not-nil (x ∷ c) t = refl

  state-new : (s : State) (id : ℕ) (c : List Lit) → IsTrueState s → clause_value a c ≡ true → IsTrueState (with_new s id c)
  state-new s id c m t = record { clauses = clauses-more s.live id c m.clauses t; no_empty = or_from s.has_empty (is_nil c) m.no_empty (not-nil c t) }

  state-lemma : (s : State) (id : ℕ) (c : List Lit) (f : Option LratReason) → IsTrueState s → (f ≡ None → clause_value a c ≡ true) → IsTrueState (with_lemma s id c f)
  state-lemma s id c None m t = state-new s id c m (t refl)
  state-lemma s id c (Some r) m t = record { clauses = m.clauses; no_empty = m.no_empty }

  fault-passes : (b : Bool) (o : Option LratReason) → cond b (Some reason.Order) o ≡ None → o ≡ None
  fault-passes true o e = absurd (let z : Some reason.Order ≡ None = e in cc)
  fault-passes false o e = e

  state-line : (s : State) (x : Line) → IsTrueState s → IsTrueState (with_line s x)
  state-line s (l.Lemma id lits hints) m =
      state-lemma s id lits (lemma_fault s.live s.last id lits hints) m
      (λ e. lemma-true s.live lits hints m.clauses (fault-passes (nat_le id s.last) (literals_fault s.live lits hints) e))
  state-line s (l.Delete id ids) m = record { clauses = clauses-deleted ids s.live m.clauses; no_empty = m.no_empty }

  state-unless : (o : Option Fault) (s t : State) → IsTrueState s → IsTrueState t → IsTrueState (unless_faulty o s t)
  state-unless None s t m n = n
  state-unless (Some f) s t m n = m

  state-lines : (ls : List Line) (s : State) → IsTrueState s → IsTrueState (fold after_line s ls)
  state-lines [] s m = m
  state-lines (x ∷ ls) s m = state-lines ls (after_line s x) (state-unless s.fault s (with_line s x) m (state-line s x m))

  state-inputs : (cs : List (List Lit)) (s : State) → IsTrueState s → list_all (clause_value a) cs ≡ true → IsTrueState (fold with_input s cs)
  state-inputs [] s m t = m
  state-inputs (c ∷ cs) s m t =
      let p = and_parts (clause_value a c) (list_all (clause_value a) cs) t in
      state-inputs cs (with_input s c) (state-new s (s.last + 1) c m p.0) p.1

  state-start : IsTrueState start
  state-start = record { clauses = λ i c e. absurd (none-some c e); no_empty = refl }

  state-file : (f : FileView) → Meets a f.clauses → IsTrueState (state_of f)
  unfolding Meets
  state-file f m = state-lines f.lines (fold with_input start f.clauses) (state-inputs f.clauses start state-start m)

not-accepted : (o : Option Fault) (b : Bool) → b ≡ false → verdict_at o b ≡ v.Accepted → ⊥
not-accepted (Some f) b e t = absurd (let z : v.Rejected f.id f.reason ≡ v.Accepted = t in cc)
not-accepted None true e t = false≢true (sym e)
not-accepted None false e t = absurd (let z : v.Rejected 0 reason.Unfinished ≡ v.Accepted = t in cc)

-- the clauses of an accepted file have no valuation
pub no_valuation : (f : FileView) → verdict_of f ≡ v.Accepted → HaveNoValuation f.clauses []
no_valuation f e a m assume = not-accepted (state_of f).fault (state_of f).has_empty (state-file a f m).no_empty e

pub ruleset sound_verdict = (no_valuation)
