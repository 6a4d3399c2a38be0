-- The clauses of a file under their numbers, line by line
use Rattle.std.proofs.Common.{◌≡◌, ℕ, suc, zero, ◌+◌, true, false, nat_eq, nat_le, List, [], ◌∷◌, ◌++◌, length, map, fold, Some, None, refl, sym, ap, ◌∙◌, subst, inl, inr, arith, append_assoc, append-nil}
use Rattle.std.specs.List.{slice_get}
use Rattle.std.proofs.lemmas.Bool.{cases_eq, cond_both, cond-true, cond-false, or_left, or_right, eq-eqb, ne_eqb, lt-leb}
use Rattle.std.proofs.lemmas.List.{length_push}
use Rattle.std.proofs.lemmas.Option.{none-some, same_Some}
use Rattle.svr_chain.specs.declared.clause.Lit.{Lit}
use Rattle.svr_chain.specs.Clauses.{flip, has, is_tautology}
use Rattle.svr_chain.specs.Log.{named}
use Rattle.svr_chain.proofs.ClauseLemmas.{named-last, flip-flip}
use Rattle.svr_lrat_file.specs.declared.file.Number.{Number}
use Rattle.svr_lrat_file.specs.declared.file.Line.TheVariants as l
use Rattle.svr_lrat_judge.specs.declared.verdict.LratReason.TheVariants as reason
use Rattle.svr_lrat_judge.specs.Verdict.{State, start, hints_fault, literals_fault, lemma_fault, is_nil, with_new, with_input, with_lemma, with_line, unless_faulty, after_line}
use Rattle.svr_lrat_judge.proofs.Opposites.{has_flip}
use Rattle.svr_lrat_made.proofs.Chains.{Denies}

-- ---- clauses by number

get-before : (fs : List (List Lit)) (c : List Lit) (k : ℕ) (d : List Lit) → slice_get (fs ++ c ∷ []) k ≡ Some d → (length fs ≡ k → ⊥) → slice_get fs k ≡ Some d
get-before [] c zero d e ne = absurd (ne refl)
get-before [] c (suc k) d e ne = e
get-before (f ∷ fs) c zero d e ne = e
get-before (f ∷ fs) c (suc k) d e ne = get-before fs c k d e (λ q. ne (ap suc q))

pub named-before : (fs : List (List Lit)) (c : List Lit) (n : ℕ) (d : List Lit) → named (fs ++ c ∷ []) n ≡ Some d → (length fs + 1 ≡ n → ⊥) → named fs n ≡ Some d
named-before fs c zero d e ne = e
named-before fs c (suc n) d e ne = get-before fs c n d e (λ (q : length fs ≡ n). ne (omega arith))

get-kept : (fs gs : List (List Lit)) (k : ℕ) (d : List Lit) → slice_get fs k ≡ Some d → slice_get (fs ++ gs) k ≡ Some d
get-kept [] gs k d e = absurd (none-some d e)
get-kept (f ∷ fs) gs zero d e = e
get-kept (f ∷ fs) gs (suc k) d e = get-kept fs gs k d e

pub named-kept : (fs gs : List (List Lit)) (n : ℕ) (d : List Lit) → named fs n ≡ Some d → named (fs ++ gs) n ≡ Some d
named-kept fs gs zero d e = absurd (none-some d e)
named-kept fs gs (suc n) d e = get-kept fs gs n d e

-- the clause that was put last
pub last-is : (fs : List (List Lit)) (c : List Lit) (n : ℕ) (d : List Lit) → length fs + 1 ≡ n → named (fs ++ c ∷ []) n ≡ Some d → c ≡ d
last-is fs c n d q e = same_Some c d (sym (ap (named (fs ++ c ∷ [])) (sym q) ∙ named-last fs c) ∙ e)

nothing-named : (n : ℕ) (d : List Lit) → named [] n ≡ Some d → ⊥
nothing-named zero d e = none-some d e
nothing-named (suc n) d e = none-some d e

-- ---- states

-- these clauses are live under their numbers, and no line is at fault
pub record IsTable (s : State) (fs : List (List Lit)) : Type 0 where
  pub live : (n : ℕ) (c : List Lit) → named fs n ≡ Some c → s.live n ≡ Some c
  pub last : s.last ≡ length fs
  pub fault : s.fault ≡ None
  pub empty : (n : ℕ) → named fs n ≡ Some [] → s.has_empty ≡ true

table-start : IsTable start []
table-start = record {
  live = λ n c e. absurd (nothing-named n c e);
  last = refl;
  fault = refl;
  empty = λ n e. absurd (nothing-named n [] e);
}

table-new : (s : State) (fs : List (List Lit)) (id : ℕ) (c : List Lit) → id ≡ length fs + 1 → IsTable s fs → IsTable (with_new s id c) (fs ++ c ∷ [])
table-new s fs id c i t = record {
  live = λ n d e.
      elim (cases_eq id n) [
        | inl q ↦ cond-true (nat_eq id n) (Some c) (s.live n) (eq-eqb id n q) ∙ ap (λ z. Some z) (last-is fs c n d (sym i ∙ q) e)
        | inr ne ↦ cond-false (nat_eq id n) (Some c) (s.live n) (ne_eqb id n ne) ∙ t.live n d (named-before fs c n d e (λ q. ne (i ∙ q)))
      ];
  last = i ∙ sym (length_push fs c);
  fault = t.fault;
  empty = λ n e.
      elim (cases_eq id n) [
        | inl q ↦ or_right s.has_empty (is_nil c) (ap is_nil (last-is fs c n [] (sym i ∙ q) e))
        | inr ne ↦ or_left s.has_empty (is_nil c) (t.empty n (named-before fs c n [] e (λ q. ne (i ∙ q))))
      ];
}

table-inputs : (cs : List (List Lit)) (s : State) (fs : List (List Lit)) → IsTable s fs → IsTable (fold with_input s cs) (fs ++ cs)
table-inputs [] s fs t = subst (IsTable s) (sym (append-nil fs)) t
table-inputs (c ∷ cs) s fs t =
    subst (IsTable (fold with_input (with_input s c) cs)) (append_assoc fs (c ∷ []) cs)
    (table-inputs cs (with_input s c) (fs ++ c ∷ []) (table-new s fs (s.last + 1) c (ap (λ n. n + 1) t.last) t))

pub table-formula : (cs : List (List Lit)) → IsTable (fold with_input start cs) cs
table-formula cs = table-inputs cs start [] table-start

-- ---- lines

-- the literals of a lemma are taken for false
pub denies-self : (c : List Lit) → Denies (map flip c) c
denies-self c x e = has_flip c (flip x) ∙ ap (has c) (flip-flip x) ∙ e

-- one more lemma
pub table-line : (s : State) (fs : List (List Lit)) (id : ℕ) (c : List Lit) (hints : List Number) → id ≡ length fs + 1
    → hints_fault s.live (map flip c) hints ≡ None → IsTable s fs → IsTable (after_line s (l.Lemma id c hints)) (fs ++ c ∷ [])
table-line s fs id c hints i g t =
    let shown : literals_fault s.live c hints ≡ None = cond_both (is_tautology c) None (hints_fault s.live (map flip c) hints) (λ z. z ≡ None) (λ e. refl) (λ e. g) in
    let later : nat_le id s.last ≡ false = lt-leb id s.last (let k : s.last ≡ length fs = t.last in omega arith) in
    let none : lemma_fault s.live s.last id c hints ≡ None = cond-false (nat_le id s.last) (Some reason.Order) (literals_fault s.live c hints) later ∙ shown in
    let same : after_line s (l.Lemma id c hints) ≡ with_new s id c = ap (λ f. unless_faulty f s (with_line s (l.Lemma id c hints))) t.fault ∙ ap (with_lemma s id c) none in
    subst (λ z. IsTable z (fs ++ c ∷ [])) (sym same) (table-new s fs id c i t)
