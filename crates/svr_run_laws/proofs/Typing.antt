-- Lawful types, enums and properties are those that a frame asks for.
use Rattle.std.proofs.Common.{◌≡◌, ◌<◌, ◌≤◌, ◌^◌, ℕ, suc, ◌+◌, Bool, true, false, not, refl, sym, ◌∙◌, ap, subst, List, [], ◌∷◌, map, length, Option, None, Some, arith}
use Rattle.std.specs.Prelude.{slice_get, filter, nat_eq}
use Rattle.std.specs.List.{All, list_any, range_with_len}
use Rattle.std.proofs.lemmas.Nat.{pow_pos}
use Rattle.std.proofs.lemmas.Option.{slice_get_within}
use Rattle.std.proofs.lemmas.List.Elements.{All-nil, All-cons}
use Rattle.svr_operator.specs.declared.Rand.{Rand}
use Rattle.svr_operator.specs.declared.Rand.TheVariants as rand
use Rattle.svr_typed.specs.declared.NumType.{NumType}
use Rattle.svr_typed.specs.declared.ArrayKind.{ArrayKind}
use Rattle.svr_typed.specs.declared.ArrayKind.TheVariants as array
use Rattle.svr_typed.specs.declared.Prop.{Prop}
use Rattle.svr_typed.specs.declared.EnumMember.{EnumMember}
use Rattle.svr_typed.specs.declared.EnumType.{EnumType}
use Rattle.svr_world.specs.Fits.{IsSmall, FirstFits}
use Rattle.svr_frame.specs.Frame.{is_scalar_kind, is_randc}
use Rattle.svr_frame.specs.Sound as sound
use Rattle.svr_frame.specs.Sound.{are_apart}
use Rattle.svr_design.specs.Types as types
use Rattle.svr_design.specs.Types.{AllDiffer, AllBelow, NamesEnum, HasSize, HasInner, CycleFits, StartsAt, is_array}
use Rattle.svr_design.specs.Lawful.{arrays_in}
use Rattle.svr_run_laws.proofs.Ways.{both_true}
use Rattle.svr_run_laws.proofs.Found.{mapped_at}

-- ---- enums

apart : (xs : List ℕ) → AllDiffer xs → are_apart xs ≡ true
apart [] h = refl
apart (x ∷ xs) h = both_true (not (list_any (nat_eq x) xs)) (are_apart xs) (ap not h.0) (apart xs h.1)

all_below : (n : ℕ) (ms : List EnumMember) → AllBelow n (map (λ (m : EnumMember). m.value) ms) → All (λ (m : EnumMember). m.value < n) ms
all_below n [] h = All-nil (λ (m : EnumMember). m.value < n)
all_below n (m ∷ ms) h = All-cons (λ (m : EnumMember). m.value < n) m ms h.0 (all_below n ms h.1)

pub enum_is : (e : EnumType) → types.IsEnum e → sound.IsEnum e
enum_is e h = record {
  wide = (h.low, h.high);
  some = h.some;
  apart = apart (map (λ (m : EnumMember). m.value) e.members) h.differ;
  below = all_below (2 ^ e.base.width) e.members h.fit;
}

-- ---- properties

inner_some : (a : ArrayKind) (m : ℕ) → HasInner a m → 1 ≤ m
inner_some array.Scalar m h = omega (arith, h)
inner_some (array.Fixed n) m h = h.0
inner_some array.Dynamic m h = omega (arith, h)

of_enum : (es : List EnumType) (k : NumType) (e : ℕ) (o : Option EnumType) → slice_get es e ≡ o → types.IsOfEnum k o → sound.IsOfEnum es k (Some e)
of_enum es k e None at h = absurd h
of_enum es k e (Some t) at h = (
  slice_get_within es e t at,
  mapped_at (λ (t : EnumType). t.base.width) 0 es e t at ∙ sym h.0,
  mapped_at (λ (t : EnumType). t.base.signed) false es e t at ∙ sym h.1,
)

named : (es : List EnumType) (k : NumType) (m : Option ℕ) → NamesEnum es k m → sound.IsOfEnum es k m
named es k None h = tt
named es k (Some e) h = of_enum es k e (slice_get es e) refl h

scalar_kind : (a : ArrayKind) → is_array a ≡ false → is_scalar_kind a ≡ true
scalar_kind array.Scalar h = refl
scalar_kind (array.Fixed n) h = cc
scalar_kind array.Dynamic h = cc

cyclic : (es : List EnumType) (x : Prop) (r : Rand) → CycleFits es x r → is_randc r ≡ true → is_scalar_kind x.array ≡ true
cyclic es x rand.State h k = cc
cyclic es x rand.Rand h k = cc
cyclic es x rand.Randc h k = scalar_kind x.array h.0

pub prop_is : (es : List EnumType) (x : Prop) → types.IsProp es x → sound.IsProp es x
prop_is es x h = record {
  inner = inner_some x.array x.inner h.inner;
  wide = (h.kind.low, h.kind.high);
  named = named es x.kind x.kind.members h.kind.members;
  cyclic = cyclic es x x.rand h.cycle;
}

small_kind : (a : ArrayKind) → HasSize a → IsSmall a
small_kind array.Scalar h = tt
small_kind (array.Fixed n) h = h.1
small_kind array.Dynamic h = tt

pub small_is : (es : List EnumType) (x : Prop) → types.IsProp es x → IsSmall x.array
small_is es x h = small_kind x.array h.size

first_below : (a : ArrayKind) (w v : ℕ) → StartsAt a w v → v < 2 ^ w
first_below array.Scalar w v h = h
first_below (array.Fixed n) w v h = subst (λ (u : ℕ). u < 2 ^ w) (sym h) (pow_pos w)
first_below array.Dynamic w v h = subst (λ (u : ℕ). u < 2 ^ w) (sym h) (pow_pos w)

pub first_is : (es : List EnumType) (x : Prop) → types.IsProp es x → FirstFits x
first_is es x h = first_below x.array x.kind.width x.first h.first

-- ---- arrays are counted alike

pub kind_array : (k : ArrayKind) → not (is_scalar_kind k) ≡ is_array k
kind_array array.Scalar = refl
kind_array (array.Fixed n) = refl
kind_array array.Dynamic = refl

pub arrays_counted : (t : ℕ → Bool) (k : ℕ) (xs : List Prop) → ((i : ℕ) (x : Prop) → slice_get xs i ≡ Some x → t (k + i) ≡ is_array x.array) → length (filter t (range_with_len k (length xs))) ≡ arrays_in xs
arrays_counted t k [] h = refl
arrays_counted t k (x ∷ xs) h = by_test (is_array x.array) (here ∙ h 0 x refl) refl (arrays_counted t (k + 1) xs (λ i y at. moved i ∙ h (suc i) y at))
  where
    here : t k ≡ t (k + 0)
    here = ap t (omega arith)

    moved : (i : ℕ) → t (k + 1 + i) ≡ t (k + suc i)
    moved i = ap t (omega arith)

    by_test : (b : Bool) → t k ≡ b → is_array x.array ≡ b → length (filter t (range_with_len (k + 1) (length xs))) ≡ arrays_in xs → length (filter t (range_with_len k (suc (length xs)))) ≡ arrays_in (x ∷ xs)
    by_test true e g rest = rw (e, g) (let r = rest in omega (arith, r))
    by_test false e g rest = rw (e, g) rest
