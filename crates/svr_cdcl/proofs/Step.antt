-- One step of a walk back, by what the code knows of the entry that it comes to
use Rattle.std.proofs.Common.{◌≡◌, ℕ, ◌-◌, ◌<◌, Bool, true, false, List, [], ◌∷◌, ◌++◌, length, ap, sym, ◌∙◌, arith, Some, None, get_or, take}
use Rattle.svr_chain.specs.declared.clause.Lit.{Lit}
use Rattle.svr_chain.specs.declared.log.Link.{Link}
use Rattle.svr_chain.specs.Clauses.{flip}
use Rattle.svr_chain.proofs.ClauseLemmas.{flip-flip}
use Rattle.svr_trail.specs.declared.Entry.{Entry}
use Rattle.svr_trail.specs.Trail.{Each, Forces, HasReason, WasOpen, is_false, value_in}
use Rattle.svr_cdcl.specs.Learned.{is_decided}
use Rattle.svr_cdcl.specs.Marks.{AreFalse, Marks, is_marked}
use Rattle.svr_cdcl.specs.Walk.{Walk}
use Rattle.svr_cdcl.proofs.Chains.{decided-at, reason-forces}
use Rattle.svr_cdcl.proofs.Walk.{own, walk-decides, walk-resolves, walk-skips}

module _ {ks : List (List Lit)} {es ms : List Entry} {number : ℕ} {out : List Lit} {links : List Link} {left : ℕ} {e : Entry} {l : Lit}
    (w : Walk ks es number ms out links left) (t : 0 < left) (a : Each WasOpen es) (g : e ≡ get_or es (left - 1) e) (q : l ≡ flip e.lit) where
  in_range : left - 1 < length es
  in_range = let z = w.within in omega (arith, t)

  free : WasOpen (take (left - 1) es) e
  free = rw (← g) at (a (left - 1) e in_range)

  met : {b : Bool} → is_marked ms l.var ≡ b → is_marked ms e.lit.var ≡ b
  met m = ap (λ (z : Lit). is_marked ms z.var) (sym q) ∙ m

  -- the clause of its reason forced it
  pub step-forced : Each (HasReason ks) es → (n : ℕ) → e.reason ≡ Some n → Forces ks (take (left - 1) es) e.lit n
  step-forced h n r = reason-forces ks (take (left - 1) es) e n (rw (← g) at (h (left - 1) e in_range)) r

  -- without a reason it was decided
  pub step-decided : e.reason ≡ None → is_decided es (flip l) ≡ true
  step-decided r = rw q (ap (is_decided es) (flip-flip e.lit) ∙ decided-at es (left - 1) e in_range g r)

  -- it made the literal false
  pub step-false : is_false (value_in (take left es) l) ≡ true
  step-false = rw q (own ks es ms number out links left e w t g free)

  pub step-skips : is_marked ms l.var ≡ false → Walk ks es number ms out links (left - 1)
  step-skips m = walk-skips ks es ms number out links left e w t g free (met m)

  pub step-decides : is_marked ms l.var ≡ true → Walk ks es number ms (out ++ l ∷ []) links (left - 1)
  step-decides m = rw q (walk-decides ks es ms number out links left e w t g free (met m))

  pub step-resolves : (n : ℕ) (ns : List Entry) → is_marked ms l.var ≡ true → (f : Forces ks (take (left - 1) es) e.lit n) → AreFalse es ns → Marks ms ns (Some e.lit) f.0
      → Walk ks es number ns out (links ++ record { pivot = l; clause = n } ∷ []) (left - 1)
  step-resolves n ns m f b u = rw q (walk-resolves ks es ms number out links left e w t g free n ns f.0 (met m) f f.1 b u)
