-- The used values of a choice fit a change of its object.
use Rattle.std.proofs.Common.{◌≡◌, ◌<◌, ◌≤◌, ◌+◌, ℕ, zero, suc, Bool, true, false, List, [], ◌∷◌, map, length, refl, sym, ap, ◌∙◌, subst, arith}
use Rattle.std.specs.Prelude.{filter}
use Rattle.std.specs.List.{All, range_with_len}
use Rattle.std.proofs.lemmas.List.Elements.{All-nil, All-cons, All-head, All-tail, All-filter}
use Rattle.svr_world.specs.declared.change.Replacement.{Replacement}
use Rattle.svr_world.specs.Fits.{AreRising, AreDistinct, props_of}
use Rattle.svr_frame.specs.Frame.{is_cyclic}
use Rattle.svr_phase.specs.declared.choice.Choice.{Choice}
use Rattle.svr_phase.specs.Cyclic.{AreChosen}
use Rattle.svr_phase.specs.Ends.{Call, cyclic_props, cycles_of}
use Rattle.svr_phase.proofs.Fresh.{chosen_props}
use Rattle.svr_call.specs.Call.{new_used}
use Rattle.svr_cyclic.specs.Ends.{UsedFit}

-- ---- numbers of a range

above : (t : ℕ → Bool) (p a n : ℕ) → p < a → All (λ q. p ≡ q → ⊥) (filter t (range_with_len a n))
above t p a n lt = All-filter t (λ q. p ≡ q → ⊥) (range_with_len a n) (all_above p a n lt)
  where
    all_above : (p a n : ℕ) → p < a → All (λ q. p ≡ q → ⊥) (range_with_len a n)
    all_above p a zero lt = All-nil (λ q. p ≡ q → ⊥)
    all_above p a (suc n) lt = All-cons (λ q. p ≡ q → ⊥) a (range_with_len (a + 1) n) (λ e. absurd (omega (arith, lt, e))) (all_above p (a + 1) n (omega (arith, lt)))

once : (t : ℕ → Bool) (a n : ℕ) → AreDistinct (filter t (range_with_len a n))
once t a zero = tt
once t a (suc n) = by_test (t a) refl (once t (a + 1) n)
  where
    by_test : (b : Bool) → t a ≡ b → AreDistinct (filter t (range_with_len (a + 1) n)) → AreDistinct (filter t (range_with_len a (suc n)))
    by_test true e rest = rw e (above t a (a + 1) n (omega arith), rest)
    by_test false e rest = rw e rest

all_within : (top a n : ℕ) → a + n ≤ top → All (λ p. p < top) (range_with_len a n)
all_within top a zero le = All-nil (λ p. p < top)
all_within top a (suc n) le = All-cons (λ p. p < top) a (range_with_len (a + 1) n) (omega (arith, le)) (all_within top (a + 1) n (omega (arith, le)))

-- ---- the used values

used_props : (c : Call) (xs : List Choice) → props_of (new_used c xs) ≡ map (λ (x : Choice). x.prop) xs
used_props c [] = refl
used_props c (x ∷ xs) = ap (λ (ps : List ℕ). x.prop ∷ ps) (used_props c xs)

props_within : (n : ℕ) (rs : List Replacement) → All (λ p. p < n) (props_of rs) → All (λ (r : Replacement). r.prop < n) rs
props_within n [] h = All-nil (λ (r : Replacement). r.prop < n)
props_within n (r ∷ rs) h = All-cons (λ (x : Replacement). x.prop < n) r rs (All-head (λ p. p < n) r.prop (props_of rs) h) (props_within n rs (All-tail (λ p. p < n) r.prop (props_of rs) h))

pub used_fit : (c : Call) (choices : List Choice) (used : List Replacement) → AreChosen c.frame (cycles_of c) [] (cyclic_props c.frame) choices → used ≡ new_used c choices → AreRising used → UsedFit c.frame.class used
used_fit c choices used chosen is rises =
    let props : props_of used ≡ cyclic_props c.frame = ap props_of is ∙ used_props c choices ∙ chosen_props c.frame (cycles_of c) [] (cyclic_props c.frame) choices chosen in
    record {
      props =
          props_within (length c.frame.class.props) used
          (subst (λ (ps : List ℕ). All (λ p. p < length c.frame.class.props) ps) (sym props)
          (All-filter (is_cyclic c.frame) (λ p. p < length c.frame.class.props) (range_with_len 0 (length c.frame.class.props)) (all_within (length c.frame.class.props) 0 (length c.frame.class.props) (omega arith))));
      rising = rises;
      once = subst AreDistinct (sym props) (once (is_cyclic c.frame) 0 (length c.frame.class.props));
    }
