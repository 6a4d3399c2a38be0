-- Roots and bits in a row
use Rattle.std.proofs.Common.{◌≡◌, ℕ, zero, suc, ◌+◌, ◌<◌, ◌≤◌, Bool, false, List, [], ◌∷◌, ◌++◌, length, map, take, get_or, sum, refl, sym, ap, ◌∙◌, arith, subst, add-one, None}
use Rattle.std.specs.List.{All, Contains}
use Rattle.std.proofs.lemmas.List.{take_more, map_push}
use Rattle.std.proofs.lemmas.List.Elements.{All-nil, All-cons}
use Rattle.std.proofs.lemmas.List.Sums.{sum_by-cons}
use Rattle.svr_typed.specs.declared.expr.TExpr.{TExpr}
use Rattle.svr_typed.specs.ExprTerm.{ExprTerm, expr_term}
use Rattle.svr_chain.specs.declared.clause.Lit.{Lit}
use Rattle.svr_chain.specs.Clauses.{IsWithin, AreWithin}
use Rattle.svr_chain.specs.Valuations.{lit_value, Meets}
use Rattle.svr_chain.proofs.ValuationLemmas.{Meets-nil}
use Rattle.svr_chain.specs.Settled.{AreSettled}
use Rattle.svr_gate.specs.Circuit.{Circuit, Extends, Tells}
use Rattle.svr_eval.specs.Reading.{Reading}
use Rattle.svr_vector.specs.Places.{rows}
use Rattle.svr_encoded.specs.Slots.{positives, positive_bits, reading_at}
use Rattle.svr_encoded.specs.Encodes.{AreRising, TellItems, holds, EncodesOver}
use Rattle.svr_encoded.specs.declared.encoded.Encoded.{Encoded}

pub positives-push : (n w : ℕ) → positives n (suc w) ≡ positives n w ++ record { var = n + 1 + w; neg = false } ∷ []
positives-push n zero = ap (λ k. record { var = k; neg = false } ∷ []) (omega arith)
positives-push n (suc w) =
    ap (λ ls. record { var = suc n; neg = false } ∷ ls) (positives-push (suc n) w ∙ ap (λ k. positives (suc n) w ++ record { var = k; neg = false } ∷ []) (omega arith))

pub rising_more : (n top : ℕ) (ls : List Lit) (l : Lit) (more : ℕ) → AreRising n ls top → top < l.var → l.var ≤ more → AreRising n (ls ++ l ∷ []) more
rising_more n top [] l more r h k = (omega arith, k)
rising_more n top (m ∷ ls) l more r h k = (r.0, rising_more m.var top ls l more r.1 h k)

pub tells_more : {c d e : Circuit} (read : (ℕ → Bool) → Reading) (items : List TExpr) (i : ℕ) (x : TExpr) (roots : List Lit) (told root : Lit) → i < length items → x ≡ get_or items i x → Extends c d → Extends d e
    → TellItems c.clauses roots read (map expr_term (take i items)) → Tells d told (λ v. holds (read v) (expr_term x)) → Tells e root (λ a. lit_value a told)
    → TellItems e.clauses (roots ++ root ∷ []) read (map expr_term (take (i + 1) items))
tells_more read items i x roots told root h same p q r t u = λ v m.
    let f : ExprTerm → Bool = λ e. holds (read v) e in
    map_push (lit_value v) roots root
    ∙ ap (λ bs. bs ++ lit_value v root ∷ []) (r v (p.keeps v (q.keeps v m)))
    ∙ ap (λ b. map f (map expr_term (take i items)) ++ b ∷ []) (u.value v m ∙ t.value v (q.keeps v m))
    ∙ sym (map_push f (map expr_term (take i items)) (expr_term x))
    ∙ ap (map f) (sym (map_push expr_term (take i items) x))
    ∙ ap (λ y. map f (map expr_term (take i items ++ y ∷ []))) same
    ∙ ap (λ xs. map f (map expr_term xs)) (sym (take_more items i x h))

-- the bits are of the first variables
pub positives_within : (n w top : ℕ) → n + w ≤ top → AreWithin top (positives n w)
positives_within n zero top h = All-nil (IsWithin top)
positives_within n (suc w) top h = All-cons (IsWithin top) (record { var = suc n; neg = false }) (positives (suc n) w) (omega arith, omega arith) (positives_within (suc n) w top (omega arith))

pub bits_within : (n top : ℕ) (widths : List ℕ) → n + sum widths ≤ top → All (AreWithin top) (positive_bits n widths)
bits_within n top [] h = All-nil (AreWithin top)
bits_within n top (w ∷ widths) h =
    All-cons (AreWithin top) (positives n w) (positive_bits (n + w) widths) (positives_within n w top (omega (arith, h, sum_by-cons (λ (x : ℕ). x) w widths)))
    (bits_within (n + w) top widths (omega (arith, h, sum_by-cons (λ (x : ℕ). x) w widths)))

pub length-positive_bits : (n : ℕ) (widths : List ℕ) → length (positive_bits n widths) ≡ length widths
length-positive_bits n [] = refl
length-positive_bits n (w ∷ widths) = ap suc (length-positive_bits (n + w) widths)

-- what a finished circuit gives
pub encoded : (st : Reading) (e : Encoded) (widths : List ℕ) (asked : List ExprTerm) (n : ℕ) (first last : Circuit) → map expr_term e.items.items ≡ asked
    → rows e.bits.items ≡ positive_bits 0 widths → n ≡ sum widths → first.inputs ≡ n → first.vars ≡ n → first.clauses ≡ [] → Extends first last
    → TellItems last.clauses e.roots.items (λ v. reading_at st e.slots.items (rows e.bits.items) v) asked → AreRising first.vars e.roots.items last.vars
    → e.cnf.clauses.items ≡ last.clauses → e.cnf.vars ≡ last.vars → All (AreWithin last.vars) last.clauses → AreSettled last.inputs last.vars last.clauses → EncodesOver st e.slots.items widths asked e
encoded st e widths asked n first last items bits count ins vars none p roots rising cs top within settled = record {
  items = items;
  slots = refl;
  bits = bits;
  extends = λ v.
      let b = p.extends v (subst (λ (x : List (List Lit)). Meets v x) (sym none) (Meets-nil v)) in
      (b.0, (λ i h. b.1 i (subst (λ (k : ℕ). i ≤ k) (sym (vars ∙ count)) h)), subst (λ (x : List (List Lit)). Meets b.0 x) (sym cs) b.2);
  roots = λ v m.
      roots v (subst (λ (x : List (List Lit)). Meets v x) cs m) ∙ ap (λ x. map (λ i. holds (reading_at st e.slots.items x v) i) asked) bits;
  apart = subst (λ (k : ℕ). AreRising k e.roots.items e.cnf.vars) (vars ∙ count) (subst (λ (k : ℕ). AreRising first.vars e.roots.items k) (sym top) rising);
  settled = λ v low high a.
      let s = settled v (subst (λ (k : ℕ). k < v) (sym (p.inputs ∙ ins ∙ count)) low) (subst (λ (k : ℕ). v ≤ k) top high) a in
      (s.0, subst (λ (x : List (List Lit)). Contains x s.0) (sym cs) s.1, s.2);
  within = subst (λ (k : ℕ). All (AreWithin k) e.cnf.clauses.items) (sym top) (subst (λ (x : List (List Lit)). All (AreWithin last.vars) x) (sym cs) within);
}
