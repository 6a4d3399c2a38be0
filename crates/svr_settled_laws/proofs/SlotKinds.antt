-- What each unknown of the last phase is: a scalar, or an element of an array. And its own item, which looks at its number alone.
use Rattle.std.proofs.Common.{◌≡◌, ◌<◌, ◌^◌, ◌&&◌, not, ℕ, zero, suc, Bool, true, false, cond, refl, sym, ap, ◌∙◌, List, [], ◌∷◌, ◌++◌, map, Option, None, Some, arith, pos, negsuc, ◌-◌}
use Rattle.std.specs.Prelude.{⊤, filter, if◌then◌else◌, slice_index, slice_index_or}
use Rattle.std.specs.List.{flat_map, range_with_len, All}
use Rattle.std.proofs.Math.Nat.{mod-eq_of_lt}
use Rattle.std.proofs.lemmas.Bool.{and_parts, lt-ltb}
use Rattle.svr_num.specs.Num.{residue, read_of}
use Rattle.std.proofs.lemmas.List.Elements.{All-nil, All-cons, All-append, All-head, All-tail}
use Rattle.svr_typed.specs.declared.class.Prop.{Prop}
use Rattle.svr_typed.specs.declared.class.EnumType.{EnumType}
use Rattle.svr_typed.specs.ExprTerm.{typed, NodeTerm, number, prop, element, inside, one, ranges_of}
use Rattle.svr_eval.specs.Reading.{Reading}
use Rattle.svr_eval.specs.Value.{element_at, index_read}
use Rattle.svr_frame.specs.declared.part.Part.TheVariants.{All as Whole}
use Rattle.svr_frame.specs.declared.slot.Slot.{Slot}
use Rattle.svr_frame.specs.declared.slot.Slot.TheVariants.{Scalar, Element, Size}
use Rattle.svr_frame.specs.Frame.{FrameTerm, is_scalar_kind, is_randc, is_array, is_random, is_cyclic, props_of, members_of}
use Rattle.svr_frame.specs.Closed.{index_number}
use Rattle.svr_frame.specs.Occurrences.{all_true}
use Rattle.svr_frame.specs.Reads.{Read, of_scalar, of_elements, reads, ranges_read}
use Rattle.svr_frame.specs.Phases.{cyclic_slots, scalar_slots, element_slots, is_random_array, unknowns_of, shape_at, number_of, fact_item, among_members, domain_item}
use Rattle.svr_frame.specs.Satisfaction.{IsAssignment, value_at}
use Rattle.svr_frame.specs.Sound.{IsProp, IsSound, SizesFit}
use Rattle.svr_frame_laws.proofs.Answers.{sized}
use Rattle.svr_frame_laws.proofs.Mentions.{AllSame, SameAround, same_truth}

-- a cyclic property is a scalar (18.4.2)
cyclic_scalar : (ts : List EnumType) (props : List Prop) (q : ℕ) → All (IsProp ts) props → slice_index_or (map (λ (x : Prop). is_randc x.rand) props) q false ≡ true → slice_index_or (map (λ (x : Prop). is_scalar_kind x.array) props) q false ≡ true
cyclic_scalar ts [] q a h = cc
cyclic_scalar ts (x ∷ props) zero a h = (All-head (IsProp ts) x props a).cyclic h
cyclic_scalar ts (x ∷ props) (suc q) a h = cyclic_scalar ts props q (All-tail (IsProp ts) x props a) h

-- a constant index is the number that it is
pub constant_index : (a : Reading) (i : ℕ) → i < 2 ^ 31 → index_read a [] (index_number i) ≡ pos i
constant_index a i lt = ap (read_of true 32) (ap (residue 32) as_signed ∙ mod-eq_of_lt (omega (arith, lt))) ∙ as_signed
  where
    as_signed : read_of true 32 i ≡ pos i
    as_signed = ap (λ b. cond b (pos i) (negsuc (2 ^ 32 - suc i))) (lt-ltb i (2 ^ 31) lt)

-- an index that a loop variable can be
abbrev pub IsLow : Slot → Type 0
IsLow (Scalar p) = ⊤
IsLow (Element p i) = i < 2 ^ 31
IsLow (Size p) = ⊤

-- a scalar, or an element of an array; no size
abbrev pub IsKind : FrameTerm → Slot → Type 0
IsKind f (Scalar p) = is_array f p ≡ false
IsKind f (Element p i) = is_array f p ≡ true
IsKind f (Size p) = ⊥

module _ (f : FrameTerm) (ns : List ℕ) (sound : IsSound f) where
  scalars_are : (g : ℕ → Bool) → ((p : ℕ) → g p ≡ true → is_array f p ≡ false) → (ps : List ℕ) → All (IsKind f) (map Scalar (filter g ps))
  scalars_are g h [] = All-nil (IsKind f)
  scalars_are g h (p ∷ ps) = either (g p) refl (scalars_are g h ps)
    where
      either : (b : Bool) → g p ≡ b → All (IsKind f) (map Scalar (filter g ps)) → All (IsKind f) (map Scalar (cond b (p ∷ filter g ps) (filter g ps)))
      either true e rest = All-cons (IsKind f) (Scalar p) (map Scalar (filter g ps)) (h p e) rest
      either false e rest = rest

  elements_of_one : (p : ℕ) → is_array f p ≡ true → (is : List ℕ) → All (IsKind f) (map (Element p) is)
  elements_of_one p h [] = All-nil (IsKind f)
  elements_of_one p h (i ∷ is) = All-cons (IsKind f) (Element p i) (map (Element p) is) h (elements_of_one p h is)

  abbrev elements_in : List ℕ → List Slot
  elements_in qs = flat_map (λ p. map (Element p) (range_with_len 0 (slice_index ns p))) qs

  elements_are : (ps : List ℕ) → All (IsKind f) (elements_in (filter (is_random_array f) ps))
  elements_are [] = All-nil (IsKind f)
  elements_are (p ∷ ps) = either (is_random_array f p) refl (elements_are ps)
    where
      either : (b : Bool) → is_random_array f p ≡ b → All (IsKind f) (elements_in (filter (is_random_array f) ps)) → All (IsKind f) (elements_in (cond b (p ∷ filter (is_random_array f) ps) (filter (is_random_array f) ps)))
      either true e rest =
          All-append (IsKind f) (map (Element p) (range_with_len 0 (slice_index ns p))) (elements_in (filter (is_random_array f) ps))
          (elements_of_one p (and_parts (is_random f p) (is_array f p) e).1 (range_with_len 0 (slice_index ns p))) rest
      either false e rest = rest

  not_array : (a b c : Bool) → (a && not b && c) ≡ true → b ≡ false
  not_array true true c h = cc
  not_array true false c h = refl
  not_array false b c h = cc

  pub drawn_kinds : All (IsKind f) (scalar_slots f ++ element_slots f ns)
  drawn_kinds =
      All-append (IsKind f) (scalar_slots f) (element_slots f ns)
      (scalars_are (λ p. is_random f p && not (is_array f p) && not (is_cyclic f p)) (λ p h. not_array (is_random f p) (is_array f p) (not (is_cyclic f p)) h) (props_of f)) (elements_are (props_of f))

  pub cyclic_kinds : All (IsKind f) (cyclic_slots f)
  cyclic_kinds =
      scalars_are (is_cyclic f) (λ p h. ap not (cyclic_scalar f.enums f.class.props p sound.props (and_parts (is_random f p) (slice_index_or (map (λ (x : Prop). is_randc x.rand) f.class.props) p false) h).1)) (props_of f)

  pub kinds : All (IsKind f) (unknowns_of f Whole ns)
  kinds =
      All-append (IsKind f) (cyclic_slots f ++ scalar_slots f) (element_slots f ns)
      (All-append (IsKind f) (cyclic_slots f) (scalar_slots f) cyclic_kinds
      (scalars_are (λ p. is_random f p && not (is_array f p) && not (is_cyclic f p)) (λ p h. not_array (is_random f p) (is_array f p) (not (is_cyclic f p)) h) (props_of f))) (elements_are (props_of f))

  -- ---- the item of an unknown

  module _ (fit : SizesFit f ns) (a b : Reading) (is_a : IsAssignment f Whole ns [] a) (is_b : IsAssignment f Whole ns [] b) where
    around : SameAround (shape_at f ns) a b
    around =
        let x = sized f ns sound fit [] a is_a in
        let y = sized f ns sound fit [] b is_b in
        record { script = λ v. is_a.same_script v ∙ sym (is_b.same_script v); scalar = λ p h. (x.same p ∙ x.scalar p h, y.same p ∙ y.scalar p h) }

    AllSame-append : (xs ys : List Read) → AllSame (shape_at f ns) a b xs → AllSame (shape_at f ns) a b ys → AllSame (shape_at f ns) a b (xs ++ ys)
    AllSame-append [] ys h k = k
    AllSame-append (x ∷ xs) ys h k = (h.0, AllSame-append xs ys h.1 k)

    none_read : (p : ℕ) (vs : List ℕ) → AllSame (shape_at f ns) a b (ranges_read (shape_at f ns) [] (ranges_of (map (λ v. one (number_of f p (number v false))) vs)))
    none_read p [] = tt
    none_read p (v ∷ vs) = none_read p vs

    among_same : (p : ℕ) (n : NodeTerm) → AllSame (shape_at f ns) a b (reads (shape_at f ns) [] (number_of f p n)) → (m : Option (List ℕ)) → all_true a (among_members f p n m) ≡ all_true b (among_members f p n m)
    among_same p n same None = refl
    among_same p n same (Some vs) =
        ap (λ x. x && true)
        (same_truth (shape_at f ns) a b around (fact_item f (typed 1 false (inside (number_of f p n) (ranges_of (map (λ v. one (number_of f p (number v false))) vs)))))
        (AllSame-append (reads (shape_at f ns) [] (number_of f p n) ++ ranges_read (shape_at f ns) [] (ranges_of (map (λ v. one (number_of f p (number v false))) vs)) ++ []) []
        (AllSame-append (reads (shape_at f ns) [] (number_of f p n) ++ ranges_read (shape_at f ns) [] (ranges_of (map (λ v. one (number_of f p (number v false))) vs))) []
        (AllSame-append (reads (shape_at f ns) [] (number_of f p n)) (ranges_read (shape_at f ns) [] (ranges_of (map (λ v. one (number_of f p (number v false))) vs))) same (none_read p vs)) tt) tt))

    scalar_read : (p : ℕ) (c : Bool) → c ≡ false → a.element p 0 ≡ b.element p 0 → AllSame (shape_at f ns) a b ((if c then of_elements p else of_scalar p) ∷ [])
    scalar_read p true h same = cc
    scalar_read p false h same = (same, tt)

    element_read : (p i : ℕ) → i < 2 ^ 31 → a.element p i ≡ b.element p i → element_at a p (index_read a [] (index_number i)) ≡ element_at b p (index_read a [] (index_number i))
    element_read p i lt same = ap (element_at a p) (constant_index a i lt) ∙ same ∙ sym (ap (element_at b p) (constant_index a i lt))

    pub own_item : (s : Slot) → IsKind f s → IsLow s → value_at a s ≡ value_at b s → all_true a (domain_item f s) ≡ all_true b (domain_item f s)
    own_item (Scalar p) k low same = among_same p (prop p) (scalar_read p (is_array f p) k same) (members_of f p)
    own_item (Element p i) k low same = among_same p (element p (index_number i)) (element_read p i low same, tt) (members_of f p)
    own_item (Size p) k low same = refl
