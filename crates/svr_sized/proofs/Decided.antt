-- How the phase ends by what its questions came to.
use Rattle.std.proofs.Common.{◌≡◌, ◌≤◌, ℕ, Bool, true, false, ◌&&◌, List, [], ◌∷◌, ◌++◌, map, refl, sym, ap, ◌∙◌, subst, arith, append-nil, inl, inr}
use Rattle.std.specs.List.{list_all}
use Rattle.std.proofs.lemmas.Bool.{and_parts}
use Rattle.std.proofs.lemmas.List.Folds.{list_all-append}
use Rattle.svr_chain.specs.Views.{RefutationView}
use Rattle.svr_typed.specs.ExprTerm.{ExprTerm}
use Rattle.svr_eval.specs.Reading.{Reading}
use Rattle.svr_frame.specs.declared.part.Part.TheVariants.{Sizes}
use Rattle.svr_frame.specs.Frame.{FrameTerm, state_at}
use Rattle.svr_frame.specs.Occurrences.{Occurrence, is_true, all_true, closed_of}
use Rattle.svr_frame.specs.Phases.{hard_of, capped_hard_of}
use Rattle.svr_frame.specs.Satisfaction.{IsAssignment, kept_of}
use Rattle.svr_frame.specs.Sound.{IsSound}
use Rattle.svr_encoded.specs.declared.encoded.Encoded.{Encoded}
use Rattle.svr_encoded.specs.Encodes.{holds}
use Rattle.svr_phase.specs.declared.proof.Proof.{Proof}
use Rattle.svr_phase.specs.Chosen.{AreCyclicValues}
use Rattle.svr_phase.specs.Spent.{IsSpent, closed_at}
use Rattle.svr_phase.specs.Sizes.{Asked, sizes_read, meets_all, fits_preferred, preferred_with}
use Rattle.svr_phase.specs.Ends.{with_soft, hard_alone, beyond}
use Rattle.svr_phase.proofs.Preferred.{state_sizes_fit}
use Rattle.svr_clauses.specs.Encodable.{AreEncodable}
use Rattle.svr_clauses.proofs.Encodable.{capped_under, live_under}
use Rattle.svr_sized.specs.declared.scope.Scope.{Scope}
use Rattle.svr_sized.specs.declared.scope.Scope.TheVariants.{Wished, Capped, Uncapped}
use Rattle.svr_sized.specs.declared.found.Found.TheVariants as found
use Rattle.svr_sized.specs.declared.choose.SizesEnd.TheVariants as end
use Rattle.svr_sized.specs.Questions.{hard_over, soft_over, bits_over}
use Rattle.svr_sized.specs.Ends.{SomeMeets, IsProved, IsFound, SizesEnds}
use Rattle.svr_sized.proofs.Truths.{over_same}
use Rattle.svr_sized.proofs.Wish.{wish_is}

-- ---- what each question came to

module _ (f : FrameTerm) (cap : ℕ) (chosen : List (ℕ × ℕ)) (budget : ℕ) where
  -- the hard items are met where sizes were found
  pub some_met : (scope : Scope) (sizes : List ℕ) → IsFound f cap chosen budget scope (found.Met sizes) → SomeMeets f chosen (hard_over f cap scope)
  some_met scope sizes m =
      let hard = hard_over f cap scope in
      let kept = kept_of (soft_over f scope) m.fates in
      (m.values, m.fits, (and_parts (all_true m.values hard) (all_true m.values kept) (sym (list_all-append (is_true m.values) hard kept) ∙ m.meets)).0)

  module _ (words : ℕ → ℕ) where
    abbrev q : Asked
    q = record { cap = cap; words = words; chosen = chosen }

    pub wished_met : (sizes : List ℕ) → fits_preferred f q ≡ false → IsFound f cap chosen budget Wished (found.Met sizes) → SizesEnds f q budget (end.Chosen sizes)
    wished_met sizes fails m = inr (fails, record { fates = m.fates; keeps = m.keeps; values = m.values; fits = m.fits; meets = m.meets; sized = m.sized })

    pub wished_spent : (e : Encoded) (log : RefutationView) (first : ℕ) → fits_preferred f q ≡ false → IsFound f cap chosen budget Wished (found.Spent e log first) → SizesEnds f q budget (end.Spent e log first)
    wished_spent e log first fails h = (fails, with_soft h)

    pub capped_spent : (e : Encoded) (log : RefutationView) (first : ℕ) → fits_preferred f q ≡ false → IsFound f cap chosen budget Capped (found.Spent e log first) → SizesEnds f q budget (end.Spent e log first)
    capped_spent e log first fails h =
        (fails, hard_alone (subst (λ (os : List Occurrence). IsSpent f budget Sizes f.state.sizes (bits_over cap Capped) os e log first) (append-nil (capped_hard_of f cap f.state.sizes)) h))

    module _ (none : SomeMeets f chosen (hard_over f cap Capped) → ⊥) where
      pub beyond_met : (sizes : List ℕ) (e : Encoded) (p : Proof) → IsProved f cap chosen Capped e p → IsFound f cap chosen budget Uncapped (found.Met sizes) → SizesEnds f q budget (end.BeyondCap sizes p e)
      unfolding some_met
      beyond_met sizes e p proved m = (
        record {
          none = none;
          values = m.values;
          fits = m.fits;
          meets = (some_met Uncapped sizes m).2;
          sized = m.sized;
        },
        proved,
      )

      pub beyond_spent : (e : Encoded) (log : RefutationView) (first : ℕ) → fits_preferred f q ≡ false → IsFound f cap chosen budget Uncapped (found.Spent e log first) → SizesEnds f q budget (end.Spent e log first)
      beyond_spent e log first fails h =
          (fails, beyond none (subst (λ (os : List Occurrence). IsSpent f budget Sizes f.state.sizes (bits_over cap Uncapped) os e log first) (append-nil (hard_of f Sizes f.state.sizes)) h))

    pub none_found : (e : Encoded) (p : Proof) → IsFound f cap chosen budget Uncapped (found.Refuted p e) → SizesEnds f q budget (end.None p e)
    none_found e p h = (h.0, h.1 refl)

-- the proof of the first question, where there were no soft items
pub proved_alone : (f : FrameTerm) (cap : ℕ) (chosen : List (ℕ × ℕ)) (budget : ℕ) (e : Encoded) (p : Proof) → closed_at f f.state.sizes (soft_over f Wished) ≡ [] → IsFound f cap chosen budget Wished (found.Refuted p e) → IsProved f cap chosen Capped e p
proved_alone f cap chosen budget e p none h = h.1 (nothing (soft_over f Wished) none)
  where
    nothing : (os : List Occurrence) → closed_at f f.state.sizes os ≡ [] → os ≡ []
    nothing [] e = refl
    nothing (o ∷ os) e = absurd (cc)

-- ---- the preferred sizes

module _ (f : FrameTerm) (sound : IsSound f) (cap : ℕ) (le : cap ≤ 2048) (words : ℕ → ℕ) (chosen : List (ℕ × ℕ)) (cyclic : AreCyclicValues f chosen) (a : Reading)
    (wish : a ≡ preferred_with f Sizes f.state.sizes cap words chosen) where
  is : IsAssignment f Sizes f.state.sizes [] a
  is = subst (IsAssignment f Sizes f.state.sizes []) (sym wish) (wish_is f Sizes f.state.sizes sound (state_sizes_fit f sound) cap le words chosen cyclic)

  pub hard_encodable : AreEncodable f Sizes a (state_at f f.state.sizes) (hard_over f cap Wished)
  hard_encodable = capped_under f f.state.sizes sound (state_sizes_fit f sound) [] a is cap (omega (arith, le))

  pub soft_encodable : AreEncodable f Sizes a (state_at f f.state.sizes) (soft_over f Wished)
  soft_encodable = live_under f Sizes f.state.sizes sound (state_sizes_fit f sound) [] a is

  -- whether they fit
  pub fit_told : (hard soft : List ExprTerm) → hard ≡ closed_at f f.state.sizes (hard_over f cap Wished) → soft ≡ closed_at f f.state.sizes (soft_over f Wished)
      → (list_all (holds a) hard && list_all (holds a) soft) ≡ fits_preferred f (record { cap = cap; words = words; chosen = chosen })
  fit_told hard soft first rest =
      (λ i. list_all (holds a) (first i) && list_all (holds a) (rest i))
      ∙ sym (list_all-append (holds a) (closed_at f f.state.sizes (hard_over f cap Wished)) (closed_at f f.state.sizes (soft_over f Wished)))
      ∙ ap (list_all (holds a)) (sym (map_both (hard_over f cap Wished) (soft_over f Wished)))
      ∙ as_items (hard_over f cap Wished ++ soft_over f Wished) (over_same f sound cap [] a is Wished)
      ∙ ap (λ (r : Reading). meets_all r (hard_over f cap Wished ++ soft_over f Wished)) wish
    where
      map_both : (os ps : List Occurrence) → closed_at f f.state.sizes (os ++ ps) ≡ closed_at f f.state.sizes os ++ closed_at f f.state.sizes ps
      map_both [] ps = refl
      map_both (o ∷ os) ps = λ i. closed_of (state_at f f.state.sizes) o ∷ map_both os ps i

      heads : {b c : Bool} {xs ys : List Bool} → b ∷ xs ≡ c ∷ ys → b ≡ c
      heads e = cc

      tails : {b c : Bool} {xs ys : List Bool} → b ∷ xs ≡ c ∷ ys → xs ≡ ys
      tails e = cc

      as_items : (os : List Occurrence) → map (λ o. holds a (closed_of (state_at f f.state.sizes) o)) os ≡ map (is_true a) os → list_all (holds a) (closed_at f f.state.sizes os) ≡ meets_all a os
      as_items [] same = refl
      as_items (o ∷ os) same = λ i. heads same i && as_items os (tails same) i

  pub preferred_fit : (sizes : List ℕ) → fits_preferred f (record { cap = cap; words = words; chosen = chosen }) ≡ true → sizes ≡ sizes_read f a → (budget : ℕ) → SizesEnds f (record { cap = cap; words = words; chosen = chosen }) budget (end.Chosen sizes)
  preferred_fit sizes fits read budget = inl (fits, read ∙ ap (sizes_read f) wish)
