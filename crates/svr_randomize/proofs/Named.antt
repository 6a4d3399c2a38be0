-- What names an encoding of a list names it in a longer one, and where it stands alone.
use Rattle.std.proofs.Common.{◌≡◌, ℕ, zero, suc, refl, subst, List, [], ◌∷◌, ◌++◌, length, Some}
use Rattle.std.specs.Prelude.{slice_get}
use Rattle.svr_chain.specs.declared.clause.Lit.{Lit}
use Rattle.svr_frame.specs.declared.part.Part.{Part}
use Rattle.svr_frame.specs.Frame.{FrameTerm}
use Rattle.svr_frame.specs.Occurrences.{Occurrence}
use Rattle.svr_encoded.specs.declared.encoded.Encoded.{Encoded}
use Rattle.svr_phase.specs.declared.proof.Proof.{Proof}
use Rattle.svr_phase.specs.declared.proof.ProofReason.{ProofReason}
use Rattle.svr_phase.specs.declared.proof.Renewed.{Renewed}
use Rattle.svr_phase.specs.Spent.{IsRefutation, EncodesItems}
use Rattle.svr_phase.specs.Proof.{Stands, StandsForHard, ProveValues, fixed_lits, hard_roots}
use Rattle.svr_phase.specs.Ends.{Call, Renewal, CyclesAreProved}
use Rattle.svr_question.specs.Ends.{IsNamed}
use Rattle.svr_randomize.specs.Placed.{at_first}

got_front : {A : Type 0} (xs ys : List A) (k : ℕ) (x : A) → slice_get xs k ≡ Some x → slice_get (xs ++ ys) k ≡ Some x
got_front [] ys k x h = absurd (cc)
got_front (z ∷ xs) ys zero x h = h
got_front (z ∷ xs) ys (suc k) x h = got_front xs ys k x h

-- the one behind a list has its length as its place
pub got_last : {A : Type 0} (xs : List A) (y : A) → slice_get (xs ++ y ∷ []) (length xs) ≡ Some y
got_last [] y = refl
got_last (x ∷ xs) y = got_last xs y

stands_longer : (f : FrameTerm) (part : Part) (sizes : List ℕ) (k : ℕ) (fixed : List (ℕ × ℕ)) (hard soft : List Occurrence) (also : Encoded → List Lit) (es more : List Encoded) (p : Proof)
    → Stands f part sizes k fixed hard soft also es p → Stands f part sizes k fixed hard soft also (es ++ more) p
stands_longer f part sizes k fixed hard soft also es more p h = record {
  encoding = h.encoding;
  named = got_front es more p.encoding h.encoding h.named;
  encodes = h.encodes;
  assumes = h.assumes;
  refutes = h.refutes;
}

module _ (f : FrameTerm) (es more : List Encoded) where
  values_longer : (chosen : List (ℕ × ℕ)) (prop : ℕ) (reason : ℕ → ProofReason) (vs : List ℕ) (ps : List Proof) → ProveValues f chosen prop reason vs es ps → ProveValues f chosen prop reason vs (es ++ more) ps
  values_longer chosen prop reason [] [] h = tt
  values_longer chosen prop reason [] (p ∷ ps) h = absurd h
  values_longer chosen prop reason (v ∷ vs) [] h = absurd h
  values_longer chosen prop reason (v ∷ vs) (p ∷ ps) h = (
    h.0,
    (h.1.0, stands_longer f _ _ _ _ _ _ _ es more p h.1.1),
    values_longer chosen prop reason vs ps h.2,
  )

pub cycles_longer : (c : Call) (es more : List Encoded) (xs : List Renewal) (rs : List Renewed) → CyclesAreProved c es xs rs → CyclesAreProved c (es ++ more) xs rs
cycles_longer c es more [] [] h = tt
cycles_longer c es more [] (r ∷ rs) h = absurd h
cycles_longer c es more (x ∷ xs) [] h = absurd h
cycles_longer c es more (x ∷ xs) (r ∷ rs) h = (h.0, values_longer c.frame es more _ _ _ _ _ h.1, cycles_longer c es more xs rs h.2)

-- ---- where it stands alone

-- one more than n copies
abbrev copies : ℕ → Encoded → List Encoded
copies zero e = e ∷ []
copies (suc n) e = e ∷ copies n e

last_copy : (n : ℕ) (e : Encoded) → slice_get (copies n e) n ≡ Some e
last_copy zero e = refl
last_copy (suc n) e = last_copy n e

each_copy : (n : ℕ) (e : Encoded) (k : ℕ) (x : Encoded) → slice_get (copies n e) k ≡ Some x → x ≡ e
each_copy zero e zero x got = cc
each_copy zero e (suc k) x got = absurd (cc)
each_copy (suc n) e zero x got = cc
each_copy (suc n) e (suc k) x got = each_copy n e k x got

-- whichever of the copies is named, the proof stands over one of them
stands_alone : (f : FrameTerm) (part : Part) (sizes : List ℕ) (k : ℕ) (fixed : List (ℕ × ℕ)) (hard soft : List Occurrence) (also : Encoded → List Lit) (n : ℕ) (e : Encoded) (p : Proof)
    → Stands f part sizes k fixed hard soft also (copies n e) p → Stands f part sizes k fixed hard soft also (e ∷ []) (at_first p)
stands_alone f part sizes k fixed hard soft also n e p h =
    let same : h.encoding ≡ e = each_copy n e p.encoding h.encoding h.named in
    record {
      encoding = e;
      named = refl;
      encodes = subst (λ (x : Encoded). EncodesItems f part sizes k (hard ++ soft) x) same h.encodes;
      assumes = subst (λ (x : Encoded). p.assume ≡ fixed_lits x fixed ++ hard_roots x hard ++ also x) same h.assumes;
      refutes = subst (λ (x : Encoded). IsRefutation x.cnf.clauses.items p.assume p.refutation) same h.refutes;
    }

pub hard_alone : (f : FrameTerm) (sizes : List ℕ) (chosen : List (ℕ × ℕ)) (n : ℕ) (e : Encoded) (p : Proof) → ((es : List Encoded) → IsNamed n e es → StandsForHard f sizes chosen es p) → StandsForHard f sizes chosen (e ∷ []) (at_first p)
hard_alone f sizes chosen n e p h =
    let stands = h (copies n e) (last_copy n e) in
    (stands.0, stands.1, stands_alone f _ _ _ _ _ _ _ n e p stands.2)
