-- What keeps a world fitting its design.
use Rattle.std.proofs.Common.{◌≡◌, ◌==◌, ◌<◌, ◌^◌, ℕ, zero, suc, Bool, true, false, refl, sym, ◌∙◌, subst, List, [], ◌∷◌, map, length, Option, None, Some, IsSome}
use Rattle.std.specs.Prelude.{slice_get, slice_index, slice_index_or, slice_set, unwrap_or}
use Rattle.std.proofs.Math.Seq.{get_or-set_same}
use Rattle.std.proofs.lemmas.Bool.{eqb-true, eqb-false}
use Rattle.std.proofs.lemmas.Nat.{pow_pos}
use Rattle.std.proofs.lemmas.List.{length-set, length-map}
use Rattle.svr_typed.specs.declared.Prop.{Prop}
use Rattle.svr_typed.specs.StmtTerm.{DesignTerm}
use Rattle.svr_world.specs.World.{ObjectTerm, WorldTerm, no_object, found_object, object_of, IsMade, declared_classes, blank_world, with_object, with_numbers, with_mode, with_rand_mode, with_block_mode, with_script}
use Rattle.svr_world.specs.Fits.{FitsProp, FitsClass}
use Rattle.svr_world.proofs.Kept.{other_found}
use Rattle.svr_world.proofs.Fitting.{numbers_fit}
use Rattle.svr_script.specs.Statement.{flat_of_var, width_of_var}
use Rattle.svr_run_laws.proofs.Fit.{IsFit}

-- ---- the first world

abbrev not_yet : ℕ → Option ObjectTerm
not_yet c = None

no_one : (xs : List ℕ) (o : ℕ) → slice_index_or (map not_yet xs) o None ≡ None
no_one [] o = refl
no_one (x ∷ xs) zero = refl
no_one (x ∷ xs) (suc o) = no_one xs o

no_number : (xs : List ℕ) (v : ℕ) → slice_index (map (λ c. 0) xs) v ≡ 0
no_number [] v = refl
no_number (x ∷ xs) zero = refl
no_number (x ∷ xs) (suc v) = no_number xs v

module _ (d : DesignTerm) where
  pub blank_made : (o : ℕ) → IsMade (blank_world (declared_classes d.vars)) o → ⊥
  blank_made o made = let none : false ≡ true = subst IsSome (no_one (declared_classes d.vars) o) made in absurd (cc)

  pub blank_fits : IsFit d (blank_world (declared_classes d.vars))
  blank_fits = record {
    declared = refl;
    objects = length-map (declared_classes d.vars) not_yet ∙ length-map d.vars _;
    script = length-map (declared_classes d.vars) (λ c. 0) ∙ length-map d.vars _;
    fits = λ o made. absurd (blank_made o made);
    below = λ v. subst (λ (n : ℕ). n < 2 ^ width_of_var d v) (sym (no_number (declared_classes d.vars) v)) (pow_pos (width_of_var d v));
  }

  -- ---- one object

  -- the world still fits, and what was made is
  pub record Keeps (w v : WorldTerm) : Type 0 where
    pub fit : IsFit d v
    pub made : (q : ℕ) → IsMade w q → IsMade v q

  pub nothing_changed : (w : WorldTerm) → IsFit d w → Keeps w w
  nothing_changed w fit = record { fit = fit; made = λ q h. h }

  pub in_turn : (w v u : WorldTerm) → Keeps w v → Keeps v u → Keeps w u
  in_turn w v u h k = record { fit = k.fit; made = λ q m. k.made q (h.made q m) }

  module _ (w : WorldTerm) (fit : IsFit d w) (o : ℕ) (less : o < length d.vars) (x : ObjectTerm) (fits : FitsClass (flat_of_var d o) x) where
    abbrev next : WorldTerm
    next = with_object w o x

    here : found_object next o ≡ Some x
    here = get_or-set_same w.objects o (Some x) None (subst (λ (n : ℕ). o < n) (sym fit.objects) less)

    pub this_made : IsMade next o
    this_made = subst IsSome (sym here) refl

    all_made : (q : ℕ) → IsMade w q → IsMade next q
    all_made q made = by_test (q == o) refl
      where
        by_test : (b : Bool) → (q == o) ≡ b → IsMade next q
        by_test true e = subst (λ (n : ℕ). IsMade next n) (sym (eqb-true q o e)) this_made
        by_test false e = subst IsSome (sym (other_found w o q x (eqb-false q o e))) made

    all_fit : (q : ℕ) → IsMade next q → FitsClass (flat_of_var d q) (object_of next q)
    all_fit q made = by_test (q == o) refl
      where
        this_fits : FitsClass (flat_of_var d o) (object_of next o)
        this_fits = subst (λ (m : Option ObjectTerm). FitsClass (flat_of_var d o) (unwrap_or m no_object)) (sym here) fits

        by_test : (b : Bool) → (q == o) ≡ b → FitsClass (flat_of_var d q) (object_of next q)
        by_test true e = subst (λ (n : ℕ). FitsClass (flat_of_var d n) (object_of next n)) (sym (eqb-true q o e)) this_fits
        by_test false e =
            let same = other_found w o q x (eqb-false q o e) in
            subst (λ (m : Option ObjectTerm). FitsClass (flat_of_var d q) (unwrap_or m no_object)) (sym same) (fit.fits q (subst IsSome same made))

    pub object_kept : Keeps w next
    object_kept = record {
      fit = record { declared = fit.declared; objects = length-set w.objects o (Some x) ∙ fit.objects; script = fit.script; fits = all_fit; below = fit.below };
      made = all_made;
    }

  -- ---- an object that is there

  module _ (w : WorldTerm) (fit : IsFit d w) (o : ℕ) (less : o < length d.vars) (made : IsMade w o) where
    abbrev old : ObjectTerm
    old = object_of w o

    old_fits : FitsClass (flat_of_var d o) old
    old_fits = fit.fits o made

    pub numbers_kept : (p : ℕ) (t : Prop) (numbers : List ℕ) → slice_get (flat_of_var d o).props p ≡ Some t → FitsProp t numbers → Keeps w (with_numbers w o p numbers)
    numbers_kept p t numbers at h = object_kept w fit o less (record old { values = slice_set old.values p numbers }) (record {
      values = numbers_fit (flat_of_var d o).props old.values p t numbers old_fits.values at h;
      rand_modes = old_fits.rand_modes;
      block_modes = old_fits.block_modes;
      used = old_fits.used;
      rising = old_fits.rising;
    })

    mode_length : (modes : List Bool) (at : Option ℕ) (on : Bool) → length (with_mode modes at on) ≡ length modes
    mode_length modes None on = length-map modes (λ m. on)
    mode_length modes (Some k) on = length-set modes k on

    pub rand_mode_kept : (p : Option ℕ) (on : Bool) → Keeps w (with_rand_mode w o p on)
    rand_mode_kept p on = object_kept w fit o less (record old { rand_modes = with_mode old.rand_modes p on }) (record {
      values = old_fits.values;
      rand_modes = mode_length old.rand_modes p on ∙ old_fits.rand_modes;
      block_modes = old_fits.block_modes;
      used = old_fits.used;
      rising = old_fits.rising;
    })

    pub block_mode_kept : (b : Option ℕ) (on : Bool) → Keeps w (with_block_mode w o b on)
    block_mode_kept b on = object_kept w fit o less (record old { block_modes = with_mode old.block_modes b on }) (record {
      values = old_fits.values;
      rand_modes = old_fits.rand_modes;
      block_modes = mode_length old.block_modes b on ∙ old_fits.block_modes;
      used = old_fits.used;
      rising = old_fits.rising;
    })

  -- ---- a script variable

  set_below : (bound : ℕ → ℕ) (xs : List ℕ) (v n u : ℕ) → ((i : ℕ) → slice_index xs i < bound i) → n < bound v → slice_index (slice_set xs v n) u < bound u
  set_below bound [] v n u h less = h u
  set_below bound (x ∷ xs) zero n zero h less = less
  set_below bound (x ∷ xs) zero n (suc u) h less = h (suc u)
  set_below bound (x ∷ xs) (suc v) n zero h less = h zero
  set_below bound (x ∷ xs) (suc v) n (suc u) h less = set_below (λ i. bound (suc i)) xs v n u (λ i. h (suc i)) less

  pub script_kept : (w : WorldTerm) → IsFit d w → (v n : ℕ) → n < 2 ^ width_of_var d v → Keeps w (with_script w v n)
  script_kept w fit v n less = record {
    fit = record {
      declared = fit.declared;
      objects = fit.objects;
      script = length-set w.script v n ∙ fit.script;
      fits = fit.fits;
      below = λ u. set_below (λ i. 2 ^ width_of_var d i) w.script v n u fit.below less;
    };
    made = λ q h. h;
  }
