-- Scalars of a sound frame have the size 1 at sizes that fit
use Rattle.std.proofs.Common.{◌≡◌, ℕ, zero, suc, ◌<◌, Bool, true, false, List, [], ◌∷◌, length, map, refl, sym, ◌∙◌, arith, subst}
use Rattle.std.specs.Prelude.{slice_index, slice_index_or}
use Rattle.std.specs.List.{All}
use Rattle.std.proofs.lemmas.Bool.{and_parts}
use Rattle.std.proofs.lemmas.List.Elements.{All-head, All-tail}
use Rattle.svr_typed.specs.declared.class.ArrayKind.{ArrayKind}
use Rattle.svr_typed.specs.declared.class.ArrayKind.TheVariants as array
use Rattle.svr_typed.specs.declared.class.Prop.{Prop}
use Rattle.svr_typed.specs.declared.class.EnumType.{EnumType}
use Rattle.svr_frame.specs.Frame.{FrameTerm, is_scalar_kind, is_dynamic_kind, is_randc, is_scalar, is_dynamic, is_random, is_cyclic, has_free_size, state_sizes}
use Rattle.svr_frame.specs.Sound.{SizeIsOf, IsProp, IsSound, SizesFit}

-- a property that is a scalar is there, and is no dynamic array
scalar_there : (props : List Prop) (q : ℕ) → slice_index_or (map (λ (x : Prop). is_scalar_kind x.array) props) q false ≡ true → (x : Prop) × (q < length props) × ((d : Prop) → slice_index_or props q d ≡ x) × (is_scalar_kind x.array ≡ true)
    × (slice_index_or (map (λ (x : Prop). is_dynamic_kind x.array) props) q false ≡ false)
scalar_there [] q h = cc
scalar_there (x ∷ props) zero h = (x, omega arith, λ d. refl, h, no_dynamic x.array h) where
  no_dynamic : (k : ArrayKind) → is_scalar_kind k ≡ true → is_dynamic_kind k ≡ false
  no_dynamic array.Scalar e = refl
  no_dynamic (array.Fixed n) e = refl
  no_dynamic array.Dynamic e = cc
scalar_there (x ∷ props) (suc q) h = let r = scalar_there props q h in (r.0, omega (arith, r.1), r.2, r.3, r.4)

one_of : (k : ArrayKind) (n : ℕ) → is_scalar_kind k ≡ true → SizeIsOf k n → n ≡ 1
one_of array.Scalar n e h = h
one_of (array.Fixed m) n e h = cc
one_of array.Dynamic n e h = cc

pub scalar_size : (f : FrameTerm) (ns : List ℕ) → IsSound f → SizesFit f ns → (q : ℕ) → is_scalar f q ≡ true → 0 < slice_index ns q
scalar_size f ns sound fit q h =
    let r = scalar_there f.class.props q h in
    let size : slice_index (state_sizes f) q ≡ 1 =
    one_of r.0.array (slice_index (state_sizes f) q) r.3 (subst (λ (x : Prop). SizeIsOf x.array (slice_index (state_sizes f) q)) (r.2 r.0) (sound.state.of_kind q r.0 r.1)) in
    let kept = fit.same q (not_free (has_free_size f q) refl r.4) in
    omega (arith, kept, size) where
      not_free : (b : Bool) → has_free_size f q ≡ b → is_dynamic f q ≡ false → has_free_size f q ≡ false
      not_free true e still = let t : true ≡ false = sym (sound.free q e).1 ∙ still in cc
      not_free false e still = e

-- a cyclic property is a scalar
cyclic_scalar : (ts : List EnumType) (props : List Prop) (q : ℕ) → All (IsProp ts) props → slice_index_or (map (λ (x : Prop). is_randc x.rand) props) q false ≡ true → slice_index_or (map (λ (x : Prop). is_scalar_kind x.array) props) q false ≡ true
cyclic_scalar ts [] q a h = cc
cyclic_scalar ts (x ∷ props) zero a h = (All-head (IsProp ts) x props a).cyclic h
cyclic_scalar ts (x ∷ props) (suc q) a h = cyclic_scalar ts props q (All-tail (IsProp ts) x props a) h

pub cyclic_size : (f : FrameTerm) (ns : List ℕ) → IsSound f → SizesFit f ns → (q : ℕ) → is_cyclic f q ≡ true → 0 < slice_index ns q
cyclic_size f ns sound fit q h =
    scalar_size f ns sound fit q (cyclic_scalar f.enums f.class.props q sound.props (and_parts (is_random f q) (slice_index_or (map (λ (x : Prop). is_randc x.rand) f.class.props) q false) h).1)
