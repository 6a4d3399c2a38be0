-- Worlds that fit a design: objects are of their variables' classes, and each number is within its width.
use Rattle.std.proofs.Common.{◌≡◌, ◌<◌, ◌≤◌, ◌^◌, ◌*◌, ◌+◌, ◌/◌, ◌%◌, ℕ, zero, suc, Bool, refl, sym, ◌∙◌, ap, subst, List, [], ◌∷◌, length, Option, None, Some, IsSome, arith}
use Rattle.std.specs.Prelude.{slice_get, slice_index, slice_index_or, unwrap_or}
use Rattle.std.specs.List.{All}
use Rattle.std.proofs.lemmas.Nat.{pow_pos}
use Rattle.std.proofs.Math.ListN.{get_or-map}
use Rattle.std.proofs.lemmas.List.Elements.{All-head, All-tail}
use Rattle.std.proofs.lemmas.Option.{slice_get_within}
use Rattle.svr_typed.specs.declared.Prop.{Prop}
use Rattle.svr_typed.specs.declared.TVar.{TVar}
use Rattle.svr_typed.specs.ClassTerm.{FlatTerm}
use Rattle.svr_typed.specs.StmtTerm.{DesignTerm}
use Rattle.svr_world.specs.World.{ObjectTerm, WorldTerm, no_object, found_object, object_of, IsMade, numbers_of, number_at, declared_classes}
use Rattle.svr_world.specs.World as world
use Rattle.svr_world.specs.Fits.{FitProps, FitsClass}
use Rattle.svr_world.proofs.Fitting.{prop_fits}
use Rattle.svr_frame_of.specs.Callable.{state_from}
use Rattle.svr_script.specs.Numbered.{place_of, reading_of_world}
use Rattle.svr_script.specs.Statement.{flat_of_var, kind_width, width_of_var}
use Rattle.svr_design.specs.Types.{VariableIs}
use Rattle.svr_run_laws.proofs.Found.{mapped_at, variable_there}

pub record IsFit (d : DesignTerm) (w : WorldTerm) : Type 0 where
  pub declared : w.declared ≡ declared_classes d.vars
  pub objects : length w.objects ≡ length d.vars
  pub script : length w.script ≡ length d.vars
  pub fits : (o : ℕ) → IsMade w o → FitsClass (flat_of_var d o) (object_of w o)
  pub below : (v : ℕ) → slice_index w.script v < 2 ^ width_of_var d v

-- ---- the numbers of an object

pub below_at : (n : ℕ) (numbers : List ℕ) (i : ℕ) → All (λ v. v < 2 ^ n) numbers → slice_index numbers i < 2 ^ n
below_at n [] i h = pow_pos n
below_at n (x ∷ xs) zero h = All-head (λ v. v < 2 ^ n) x xs h
below_at n (x ∷ xs) (suc i) h = below_at n xs i (All-tail (λ v. v < 2 ^ n) x xs h)

short_at : (ps : List Prop) (ls : List (List ℕ)) (p : ℕ) → FitProps ps ls → length (slice_index_or ls p []) ≤ 2048
short_at [] [] p h = omega arith
short_at [] (l ∷ ls) p h = absurd h
short_at (x ∷ ps) [] p h = absurd h
short_at (x ∷ ps) (l ∷ ls) zero h = h.0.short
short_at (x ∷ ps) (l ∷ ls) (suc p) h = short_at ps ls p h.1

-- those of a property are within its width
pub number_below : (flat : FlatTerm) (x : ObjectTerm) (p : ℕ) (t : Prop) → FitsClass flat x → slice_get flat.props p ≡ Some t → (i : ℕ) → number_at x p i < 2 ^ t.kind.width
number_below flat x p t h at i = below_at t.kind.width (slice_index_or x.values p []) i (prop_fits flat.props x.values p t h.values at).within

pub size_below : (flat : FlatTerm) (x : ObjectTerm) (p : ℕ) → FitsClass flat x → length (slice_index_or x.values p []) < 2 ^ 32
size_below flat x p h = let short = short_at flat.props x.values p h.values in omega (arith, short)

-- in the state of a call
pub state_size_below : (flat : FlatTerm) (x : ObjectTerm) (script : List ℕ) (p : ℕ) → FitsClass flat x → slice_index (state_from x script).sizes p < 2 ^ 32
state_size_below flat x script p h = subst (λ (n : ℕ). n < 2 ^ 32) (sym (get_or-map length x.values p [])) (size_below flat x p h)

module _ (d : DesignTerm) (w : WorldTerm) (fit : IsFit d w) where
  -- ---- script variables

  pub script_below : (v n : ℕ) (s : Bool) → VariableIs (slice_get d.vars v) n s → (v < length w.script) × (slice_index w.script v < 2 ^ n)
  script_below v n s h =
      let x = variable_there (slice_get d.vars v) n s h in
      let wide : width_of_var d v ≡ n = mapped_at (λ (y : TVar). kind_width y.kind) 0 d.vars v x.0 x.2 ∙ ap kind_width x.3 ∙ x.4.0 in
      let inside : v < length d.vars = slice_get_within d.vars v x.0 x.2 in (
        subst (λ (m : ℕ). v < m) (sym fit.script) inside,
        subst (λ (m : ℕ). slice_index w.script v < 2 ^ m) wide (fit.below v),
      )

  -- ---- all objects together, those that are not made too

  by_object : (P : ObjectTerm → Type 0) (o : ℕ) → P no_object → (IsMade w o → P (object_of w o)) → P (object_of w o)
  by_object P o none some = by_found (found_object w o) refl
    where
      by_found : (m : Option ObjectTerm) → found_object w o ≡ m → P (object_of w o)
      by_found None e = subst P (sym (ap (λ (m : Option ObjectTerm). unwrap_or m no_object) e)) none
      by_found (Some x) e = some (subst IsSome (sym e) refl)

  nothing : (p i n : ℕ) → number_at no_object p i < 2 ^ n
  nothing p i n = pow_pos n

  pub read_number : (o p : ℕ) (t : Prop) → slice_get (flat_of_var d o).props p ≡ Some t → p < 1024 → (i : ℕ) → (reading_of_world w).element (place_of o p) i < 2 ^ t.kind.width
  read_number o p t at less i =
      let object : (o * 1024 + p) / 1024 ≡ o = omega (arith, less) in
      let place : (o * 1024 + p) % 1024 ≡ p = omega (arith, less) in
      subst (λ (n : ℕ). number_at (object_of w n) ((o * 1024 + p) % 1024) i < 2 ^ t.kind.width) (sym object)
      (subst (λ (n : ℕ). number_at (object_of w o) n i < 2 ^ t.kind.width) (sym place)
      (by_object (λ (x : ObjectTerm). number_at x p i < 2 ^ t.kind.width) o (nothing p i t.kind.width) (λ made. number_below (flat_of_var d o) (object_of w o) p t (fit.fits o made) at i)))

  pub read_size : (q : ℕ) → (reading_of_world w).size q < 2 ^ 32
  read_size q =
      by_object (λ (x : ObjectTerm). world.size_of x (q % 1024) < 2 ^ 32) (q / 1024) (let e : 0 < 2 ^ 32 = omega arith in e)
      (λ made. size_below (flat_of_var d (q / 1024)) (object_of w (q / 1024)) (q % 1024) (fit.fits (q / 1024) made))
