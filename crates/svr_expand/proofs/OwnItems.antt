-- The items of the unknowns themselves are the domain items and those of sizes.
use Rattle.std.proofs.Common.{◌≡◌, ℕ, refl, sym, ◌∙◌, ap, List, [], ◌∷◌, ◌++◌, map, Option, None, Some}
use Rattle.std.specs.Prelude.{false}
use Rattle.std.specs.List.{flat_map}
use Rattle.std.proofs.lemmas.List.{map-append}
use Rattle.std.proofs.lemmas.List.Concat.{flat_map-cons}
use Rattle.svr_typed.specs.ExprTerm.{ExprTerm, typed, NodeTerm, prop, element, inside, more_ranges}
use Rattle.svr_eval.specs.Reading.{Reading}
use Rattle.svr_frame.specs.declared.part.Part.{Part}
use Rattle.svr_frame.specs.declared.part.Part.TheVariants.{Randc, Sizes, All}
use Rattle.svr_frame.specs.declared.slot.Slot.{Slot}
use Rattle.svr_frame.specs.declared.slot.Slot.TheVariants.{Scalar, Element, Size}
use Rattle.std.specs.Prelude.{filter}
use Rattle.svr_frame.specs.Frame.{FrameTerm, members_of, has_free_size, props_of}
use Rattle.svr_frame.specs.Closed.{index_number, closed, closed_ranges}
use Rattle.svr_frame.specs.Occurrences.{Occurrence, closed_of}
use Rattle.svr_frame.specs.Phases.{number_of, among_members, domain_item, domain_items, not_negative, size_items, unknowns_of}
use Rattle.svr_expand.specs.Domains.{member_range, member_ranges, among_exprs, slot_exprs, all_slot_exprs, not_negative_expr, size_exprs_of}

module _ (f : FrameTerm) (a : Reading) where
  ranges_closed : (p : ℕ) (vs : List ℕ) → closed_ranges [] 0 (member_ranges f p vs) ≡ member_ranges f p vs
  ranges_closed p [] = refl
  ranges_closed p (v ∷ vs) = ap (more_ranges (member_range f p v)) (ranges_closed p vs)

  -- of a node that is closed
  among_is : (p : ℕ) (n : NodeTerm) (vs : Option (List ℕ)) → closed [] (number_of f p n) ≡ number_of f p n → map (closed_of a) (among_members f p n vs) ≡ among_exprs f p n vs
  among_is p n None h = refl
  among_is p n (Some vs) h = λ k. typed 1 false (inside (h k) (ranges_closed p vs k)) ∷ []

  slot_is : (s : Slot) → map (closed_of a) (domain_item f s) ≡ slot_exprs f s
  slot_is (Scalar p) = among_is p (prop p) (members_of f p) refl
  slot_is (Element p i) = among_is p (element p (index_number i)) (members_of f p) refl
  slot_is (Size p) = refl

  slots_are : (ss : List Slot) → map (closed_of a) (flat_map (domain_item f) ss) ≡ all_slot_exprs f ss
  slots_are [] = refl
  slots_are (s ∷ ss) =
      ap (map (closed_of a)) (flat_map-cons (domain_item f) s ss)
      ∙ map-append (closed_of a) (domain_item f s) (flat_map (domain_item f) ss)
      ∙ (λ k. slot_is s k ++ slots_are ss k)
      ∙ sym (flat_map-cons (slot_exprs f) s ss)

  sizes_are : (ps : List ℕ) → map (closed_of a) (map (not_negative f) ps) ≡ map not_negative_expr ps
  sizes_are [] = refl
  sizes_are (p ∷ ps) = ap (λ es. not_negative_expr p ∷ es) (sizes_are ps)

  size_items_are : (part : Part) → map (closed_of a) (size_items f part) ≡ size_exprs_of f part
  size_items_are Randc = refl
  size_items_are Sizes = sizes_are (filter (has_free_size f) (props_of f))
  size_items_are All = refl

  pub own_are : (part : Part) (ns : List ℕ) → map (closed_of a) (domain_items f part ns ++ size_items f part) ≡ all_slot_exprs f (unknowns_of f part ns) ++ size_exprs_of f part
  own_are part ns = map-append (closed_of a) (domain_items f part ns) (size_items f part) ∙ (λ k. slots_are (unknowns_of f part ns) k ++ size_items_are part k)

  -- the own items and those that the walk finds
  pub hard_are : (part : Part) (ns : List ℕ) (os : List Occurrence) (own asked new : List ExprTerm) → own ≡ all_slot_exprs f (unknowns_of f part ns) ++ size_exprs_of f part → asked ≡ map (closed_of a) os → new ≡ own ++ asked
      → new ≡ map (closed_of a) (domain_items f part ns ++ size_items f part ++ os)
  hard_are part ns os own asked new h k t =
      t ∙ (λ i. h i ++ k i) ∙ ap (λ es. es ++ map (closed_of a) os) (sym (own_are part ns)) ∙ sym (map-append (closed_of a) (domain_items f part ns ++ size_items f part) os)
