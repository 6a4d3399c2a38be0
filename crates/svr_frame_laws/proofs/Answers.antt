-- An assignment of the last phase meets the hard items exactly where it meets the domains and the active items.
use Rattle.std.proofs.Common.{◌≡◌, ◌<◌, ◌≤◌, ◌^◌, ◌==◌, ℕ, zero, suc, ◌+◌, pos, Bool, true, false, not, ◌&&◌, ◌||◌, refl, sym, ◌∙◌, ap, List, [], ◌∷◌, ◌++◌, map, length, Option, None, Some, arith}
use Rattle.std.specs.Prelude.{filter, slice_index, slice_index_or}
use Rattle.std.specs.List.{list_all, list_any, flat_map, range_with_len}
use Rattle.std.proofs.lemmas.List.Folds.{list_all-append, list_any-append}
use Rattle.std.proofs.lemmas.List.Concat.{flat_map-cons}
use Rattle.svr_operator.specs.declared.Rand.TheVariants as rand
use Rattle.svr_typed.specs.declared.class.ArrayKind.{ArrayKind}
use Rattle.svr_typed.specs.declared.class.ArrayKind.TheVariants as array
use Rattle.svr_typed.specs.declared.class.Prop.{Prop}
use Rattle.svr_eval.specs.Reading.{Reading}
use Rattle.svr_eval.specs.Holds.{all_hold}
use Rattle.svr_frame.specs.declared.part.Part.TheVariants.{Randc, Sizes, All}
use Rattle.svr_frame.specs.declared.slot.Slot.{Slot}
use Rattle.svr_frame.specs.declared.slot.Slot.TheVariants.{Scalar, Element, Size}
use Rattle.svr_frame.specs.Frame.{FrameTerm, is_scalar_kind, is_dynamic_kind, is_scalar, is_array, is_dynamic, has_free_size, is_random, is_cyclic, props_of, state_sizes}
use Rattle.svr_frame.specs.Occurrences.{Occurrence, Shape, is_true, all_true, is_hard, occurrences}
use Rattle.svr_frame.specs.Phases.{cyclic_slots, scalar_slots, element_slots, is_random_array, unknowns_of, domain_items, shape_at, active_at, asked_of, hard_of}
use Rattle.svr_frame.specs.Satisfaction.{IsAssignment, is_size_of}
use Rattle.svr_frame.specs.Sound.{SizeIsOf, IsSound, StateIsSound, SizesFit}
use Rattle.svr_frame_laws.proofs.Truth.{HasSizes, items_hold}

-- ---- properties by their places

pub any_prop : Prop
any_prop = record { name = []; kind = record { width = 1; signed = false; members = None }; rand = rand.State; array = array.Scalar; first = 0; low = pos 0; can = false; inner = 1 }

pub found : (test : Prop → Bool) (xs : List Prop) (p : ℕ) → slice_index_or (map test xs) p false ≡ true → (p < length xs) × (test (slice_index_or xs p any_prop) ≡ true)
found test [] p h = cc
found test (x ∷ xs) zero h = (omega arith, h)
found test (x ∷ xs) (suc p) h = let rest = found test xs p h in (omega (arith, rest.0), rest.1)

scalar_size : (k : ArrayKind) (n : ℕ) → is_scalar_kind k ≡ true → SizeIsOf k n → n ≡ 1
scalar_size array.Scalar n h s = s
scalar_size (array.Fixed m) n h s = cc
scalar_size array.Dynamic n h s = cc

not_both : (k : ArrayKind) → is_scalar_kind k ≡ true → is_dynamic_kind k ≡ true → ⊥
not_both array.Scalar h d = cc
not_both (array.Fixed m) h d = cc
not_both array.Dynamic h d = cc

not_false : (b : Bool) → not b ≡ false → b ≡ true
not_false true h = refl
not_false false h = cc

-- ---- no size is sought in the last phase

pub no_size_scalar : (p : ℕ) (xs : List ℕ) → list_any (is_size_of p) (map Scalar xs) ≡ false
no_size_scalar p [] = refl
no_size_scalar p (x ∷ xs) = no_size_scalar p xs

no_size_element : (p q : ℕ) (is : List ℕ) → list_any (is_size_of p) (map (Element q) is) ≡ false
no_size_element p q [] = refl
no_size_element p q (i ∷ is) = no_size_element p q is

no_size_elements : (p : ℕ) (f : ℕ → List ℕ) (qs : List ℕ) → list_any (is_size_of p) (flat_map (λ q. map (Element q) (f q)) qs) ≡ false
no_size_elements p f [] = refl
no_size_elements p f (q ∷ qs) =
    ap (list_any (is_size_of p)) (flat_map-cons (λ q. map (Element q) (f q)) q qs)
    ∙ list_any-append (is_size_of p) (map (Element q) (f q)) (flat_map (λ q. map (Element q) (f q)) qs)
    ∙ rw (no_size_element p q (f q), no_size_elements p f qs) refl

module _ (f : FrameTerm) (ns : List ℕ) where
  pub no_size : (p : ℕ) → list_any (is_size_of p) (unknowns_of f All ns) ≡ false
  no_size p =
      list_any-append (is_size_of p) (cyclic_slots f ++ scalar_slots f) (element_slots f ns)
      ∙ ap (λ b. b || list_any (is_size_of p) (element_slots f ns))
      (list_any-append (is_size_of p) (cyclic_slots f) (scalar_slots f)
      ∙ ap (λ b. b || list_any (is_size_of p) (scalar_slots f)) (no_size_scalar p (filter (is_cyclic f) (props_of f)))
      ∙ no_size_scalar p (filter (λ q. is_random f q && not (is_array f q) && not (is_cyclic f q)) (props_of f)))
      ∙ no_size_elements p (λ q. range_with_len 0 (slice_index ns q)) (filter (is_random_array f) (props_of f))

  module _ (sound : IsSound f) (fit : SizesFit f ns) where
    pub scalar_not_free : (p : ℕ) → is_array f p ≡ false → has_free_size f p ≡ false
    scalar_not_free p h = not_free (has_free_size f p) refl (found (λ (x : Prop). is_scalar_kind x.array) f.class.props p (not_false (is_scalar f p) h)).1
      where
        not_free : (b : Bool) → has_free_size f p ≡ b → is_scalar_kind (slice_index_or f.class.props p any_prop).array ≡ true → has_free_size f p ≡ false
        not_free true e k = absurd (not_both (slice_index_or f.class.props p any_prop).array k (found (λ (x : Prop). is_dynamic_kind x.array) f.class.props p ((sound.free p e).1)).1)
        not_free false e k = e

    pub scalar_one : (p : ℕ) → is_array f p ≡ false → slice_index ns p ≡ 1
    scalar_one p h =
        let s = found (λ (x : Prop). is_scalar_kind x.array) f.class.props p (not_false (is_scalar f p) h) in
        fit.same p (scalar_not_free p h) ∙ scalar_size (slice_index_or f.class.props p any_prop).array (slice_index f.state.sizes p) s.1 (sound.state.of_kind p any_prop s.0)

    module _ (fixed : List (ℕ × ℕ)) (a : Reading) (is : IsAssignment f All ns fixed a) where
      pub sized : HasSizes (shape_at f ns) a
      sized = record { same = λ p. is.same_sizes p (no_size p); below = λ p. omega (arith, fit.most p); scalar = scalar_one }

      and_true : (b : Bool) → (b && true) ≡ b
      and_true true = refl
      and_true false = refl

      asked_all : (os : List Occurrence) → filter (λ o. is_hard o && true) os ≡ filter is_hard os
      asked_all os = ap (λ (t : Occurrence → Bool). filter t os) (λ k o. and_true (is_hard o) k)

      -- the answer meets all hard occurrences exactly where it meets the domains and all active items
      pub answer_holds : all_true a (hard_of f All ns) ≡ (all_true a (domain_items f All ns) && all_hold a [] f.items)
      answer_holds =
          list_all-append (is_true a) (domain_items f All ns ++ []) (asked_of f All ns)
          ∙ ap (λ b. b && all_true a (asked_of f All ns)) (list_all-append (is_true a) (domain_items f All ns) [] ∙ and_true (all_true a (domain_items f All ns)))
          ∙ ap (λ b. all_true a (domain_items f All ns) && b) (ap (all_true a) (asked_all (active_at f ns)) ∙ items_hold a (shape_at f ns) sized f.items)
