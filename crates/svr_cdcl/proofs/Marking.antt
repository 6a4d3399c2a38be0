-- The walk back to one literal of the level, and the literals that are left
use Rattle.std.proofs.Common.{◌≡◌, ℕ, suc, zero, ◌+◌, ◌-◌, ◌<◌, Bool, true, false, ◌&&◌, ◌||◌, not, nat_eq, List, [], ◌∷◌, ◌++◌, length, refl, ap, sym, ◌∙◌, subst, arith, Option, Some, None, Ok, get_or, take, inl, inr}
use Rattle.std.specs.Prelude.{is_some, IsSome}
use Rattle.std.specs.Option.{option_map}
use Rattle.std.proofs.lemmas.Bool.{and_parts, and_from, or_cases, or_left, or_right, not-true, both_ways, cases_Bool, cases_lt, cond-true, cond-false, eq-eqb, eqb-true, false≢true, false_from_ne_true}
use Rattle.svr_chain.specs.declared.clause.Lit.{Lit}
use Rattle.svr_chain.specs.declared.log.Link.{Link}
use Rattle.svr_chain.specs.Clauses.{same_sign, same_lit, flip, has, resolvent}
use Rattle.svr_chain.specs.Same.{SameLits, SameResult}
use Rattle.svr_chain.proofs.Sound.{same_lit-true}
use Rattle.svr_chain.proofs.Same.{iff_eq, lit-self, all-has, all-from, all-same, has-resolvent}
use Rattle.svr_chain.proofs.ClauseLemmas.{flip-flip, named-all}
use Rattle.svr_trail.specs.declared.Entry.{Entry}
use Rattle.svr_trail.specs.Trail.{sign_at, value_in, is_false, is_false_but, is_falsified, Each, Forces, HasReason, IsClosed, IsFault, IsQuiet, IsUnit, WasOpen}
use Rattle.svr_trail.proofs.Trails.{quiet-not_false}
use Rattle.svr_trail.proofs.TableLemmas.{sign_at-take_none}
use Rattle.svr_watch.proofs.Values.{false-later, false-whole}
use Rattle.svr_watch.proofs.Learned.{unit-same}
use Rattle.svr_cdcl.specs.Learned.{Accepts, Derives}
use Rattle.svr_cdcl.proofs.Asserting.{accepted-from}
use Rattle.svr_cdcl.specs.Marks.{AreFalse, Marks, are_below, is_last, is_marked}
use Rattle.svr_cdcl.proofs.Chains.{false-less}
use Rattle.svr_cdcl.specs.Walk.{Walk}
use Rattle.svr_cdcl.proofs.Walk.{walk-begins, walk-skips, walk-resolves, walk-decides, begins-clause, skips-clause, resolves-clause}
use Rattle.svr_cdcl.proofs.Step.{step-false, step-forced}
use Rattle.svr_cdcl.proofs.Apart.{last-to}
use Rattle.svr_cdcl.proofs.Needless.{needless-false, needless-unit}

-- what the walk back to one literal of the level keeps
pub record AnalysisKeeps (ks : List (List Lit)) (es : List Entry) (base number : ℕ) (ms : List Entry) (links : List Link) (left : ℕ) : Type 0 where
  pub walk : Walk ks es number ms [] links left
  pub here : is_falsified (take base es) walk.clause ≡ false

left-false : (ks : List (List Lit)) (es : List Entry) (number : ℕ) (ms : List Entry) (links : List Link) (left : ℕ) (w : Walk ks es number ms [] links left) (x : Lit) → has w.clause x ≡ true
    → (is_false (value_in (take left es) x) ≡ true) × (is_marked ms x.var ≡ true)
left-false ks es number ms links left w x h = and_parts (is_false (value_in (take left es) x)) (is_marked ms x.var) (sym (w.same x) ∙ h)

-- the walk has not come to the start of the level
pub above_base : {ks : List (List Lit)} {es : List Entry} {base number : ℕ} {ms : List Entry} {links : List Link} {left : ℕ} → AnalysisKeeps ks es base number ms links left → base < left
above_base {ks} {es} {base} {number} {ms} {links} {left} k =
    elim (cases_lt base left) [
      | inl h ↦ h
      | inr h ↦ absurd (both_ways (is_falsified (take base es) k.walk.clause) k.here
          (all-from (λ x. is_false (value_in (take base es) x)) k.walk.clause (λ x g. false-later es left base x h (left-false ks es number ms links left k.walk x g).0)))
    ]

pub analysis-begins : (ks : List (List Lit)) (es ms : List Entry) (base number : ℕ) → IsClosed (take base es) ks → (f : IsFault ks es number) → AreFalse es ms → Marks [] ms None f.0
    → AnalysisKeeps ks es base number ms [] (length es)
analysis-begins ks es ms base number q f a m = record {
  walk = walk-begins ks es ms number None f.0 f.1 f.2 tt a m;
  here = ap (is_falsified (take base es)) (begins-clause ks es ms number None f.0 f.1 f.2 tt a m) ∙ false_from_ne_true (is_falsified (take base es) f.0) (λ t. quiet-not_false (take base es) f.0 (named-all (IsQuiet (take base es)) ks number f.0 q f.1) t);
}

module _ {ks : List (List Lit)} {es : List Entry} {base number : ℕ} {ms : List Entry} {links : List Link} {left : ℕ} {e : Entry} {l : Lit}
    (k : AnalysisKeeps ks es base number ms links left) (a : Each WasOpen es) (g : e ≡ get_or es (left - 1) e) (q : l ≡ flip e.lit) where
  above : base < left
  above = above_base k

  in_range : left - 1 < length es
  in_range = let z = k.walk.within in omega (arith, above)

  some : 0 < left
  some = omega (arith, above)

  o : WasOpen (take (left - 1) es) e
  o = rw (← g) at (a (left - 1) e in_range)

  met : {b : Bool} → is_marked ms l.var ≡ b → is_marked ms e.lit.var ≡ b
  met m = ap (λ (z : Lit). is_marked ms z.var) (sym q) ∙ m

  abbrev pub p : Lit
  p = flip e.lit

  pub analysis-skips : is_marked ms l.var ≡ false → AnalysisKeeps ks es base number ms links (left - 1)
  analysis-skips m = record {
    walk = walk-skips ks es ms number [] links left e k.walk some g o (met m);
    here = ap (is_falsified (take base es)) (skips-clause ks es ms number [] links left e k.walk some g o (met m)) ∙ k.here;
  }

  open_below : value_in (take base es) e.lit ≡ None
  open_below = ap (option_map (λ n. same_sign n e.lit.neg)) (sign_at-take_none es base (left - 1) e.lit.var (omega (arith, above)) o)

  -- the clause of its reason forced it
  pub analysis-forced : Each (HasReason ks) es → (n : ℕ) → e.reason ≡ Some n → Forces ks (take (left - 1) es) e.lit n
  analysis-forced h n r = step-forced k.walk some a g q h n r

  resolved : (n : ℕ) (ns : List Entry) → is_marked ms l.var ≡ true → (f : Forces ks (take (left - 1) es) e.lit n) → AreFalse es ns → Marks ms ns (Some e.lit) f.0 → IsClosed (take base es) ks
      → AnalysisKeeps ks es base number ns (links ++ record { pivot = p; clause = n } ∷ []) (left - 1)
  resolved n ns m f b u r = record {
    walk = walk-resolves ks es ms number [] links left e k.walk some g o n ns f.0 (met m) f f.1 b u;
    here = ap (is_falsified (take base es)) (resolves-clause ks es ms number [] links left e k.walk some g o n ns f.0 (met m) f f.1 b u)
        ∙ false_from_ne_true (is_falsified (take base es) (resolvent k.walk.clause p f.0)) (λ t.
        let y : is_false_but (take base es) e.lit f.0 ≡ true
        = all-from (λ x. same_lit x e.lit || is_false (value_in (take base es) x)) f.0
        (λ x h. elim (cases_Bool (same_lit x e.lit)) [
          | inl s ↦ or_left (same_lit x e.lit) (is_false (value_in (take base es) x)) s
          | inr s ↦
              let z : has (resolvent k.walk.clause p f.0) x ≡ true
              = has-resolvent k.walk.clause p f.0 x ∙ or_right (has k.walk.clause x && not (same_lit x p)) (has f.0 x && not (same_lit x (flip p)))
              (and_from (has f.0 x) (not (same_lit x (flip p))) h (ap not (ap (same_lit x) (flip-flip e.lit) ∙ s))) in
              or_right (same_lit x e.lit) (is_false (value_in (take base es) x)) (all-has (λ w. is_false (value_in (take base es) w)) (resolvent k.walk.clause p f.0) x t z)
        ]) in
        let v : value_in (take base es) e.lit ≡ Some true = named-all (IsQuiet (take base es)) ks n f.0 r f.1 e.lit y in
        let w : None ≡ Some true = sym open_below ∙ v in
        cc);
  }

  pub analysis-resolves : (n : ℕ) (ns : List Entry) → is_marked ms l.var ≡ true → (f : Forces ks (take (left - 1) es) e.lit n) → AreFalse es ns → Marks ms ns (Some e.lit) f.0 → IsClosed (take base es) ks
      → AnalysisKeeps ks es base number ns (links ++ record { pivot = l; clause = n } ∷ []) (left - 1)
  analysis-resolves n ns m f b u r = rw q (resolved n ns m f b u r)

  -- at the decision of the level no other literal of the level is left
  pub last-decision : ((i : ℕ) (d : Entry) → base < i → i < length es → IsSome (get_or es i d).reason) → e.reason ≡ None → is_last es base left p ms ≡ true
  last-decision f n =
      last-to es base left p ms (λ x m h.
      let c : has k.walk.clause x ≡ true = k.walk.same x ∙ and_from (is_false (value_in (take left es) x)) (is_marked ms x.var) h m in
      elim (cases_lt base (left - 1)) [
        | inl q ↦
            let s : IsSome (get_or es (left - 1) e).reason = f (left - 1) e q in_range in
            let r : IsSome e.reason = ap (λ z. is_some z.reason) g ∙ s in
            absurd (none-some e.reason r n)
        | inr q ↦
            let b : left - 1 ≡ base = omega (arith, above) in
            let w : (same_lit x p || is_false (value_in (take (left - 1) es) x)) ≡ true = false-step x h in
            ap (λ z. same_lit x p || is_false (value_in (take z es) x)) (sym b) ∙ w
      ])
    where
      none-some : (r : Option ℕ) → IsSome r → r ≡ None → ⊥
      none-some None a b = cc
      none-some (Some x) a b = cc

      false-step : (x : Lit) → is_false (value_in (take left es) x) ≡ true → (same_lit x p || is_false (value_in (take (left - 1) es) x)) ≡ true
      false-step x h =
          let n : left - 1 + 1 ≡ left = omega (arith, above) in
          false-less es (left - 1) e x in_range g o (ap (λ z. is_false (value_in (take z es) x)) n ∙ h)

  -- where the pivot is the last literal of the level
  module _ (m : is_marked ms l.var ≡ true) (z : is_last es base left p ms ≡ true) where
    pub minimized-begins : Walk ks es number ms (l ∷ []) links (left - 1)
    minimized-begins = rw q (walk-decides ks es ms number [] links left e k.walk some g o (met m))

    last : is_last es base left l ms ≡ true
    last = rw q z

    pivot-open : value_in (take base es) l ≡ None
    pivot-open =
        let n : sign_at (take base es) e.lit.var ≡ None = sign_at-take_none es base (left - 1) e.lit.var (omega (arith, above)) o in
        rw q (ap (option_map (λ b. same_sign b (not e.lit.neg))) n)

    pivot-false : is_false (value_in es l) ≡ true
    pivot-false = false-whole es left l (step-false k.walk some a g q)

    module _ (c : List Lit) (h : has c l ≡ true) (b : are_below es (left - 1) l ms c ≡ true) where
      pub lits-false : is_falsified es c ≡ true
      lits-false = needless-false es base left l ms c k.walk.marks last some h pivot-open pivot-false b

      pub lits-unit : IsUnit (take base es) c l
      lits-unit = needless-unit es base left l ms c k.walk.marks last some h pivot-open pivot-false b

      pub lits-accepted : (ls : List Link) → IsClosed (take base es) ks → Derives ks (record { start = number; links = ls }) c → Accepts ks (record { start = number; links = ls }) c
      lits-accepted ls r d = accepted-from ks es base (record { start = number; links = ls }) c d lits-false r (l, lits-unit)
