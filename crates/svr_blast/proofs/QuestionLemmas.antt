-- Inputs with a table of the slots of a phase are inputs that serve the items of the phase
use Rattle.std.proofs.Common.{◌≡◌, ℕ, zero, suc, ◌<◌, ◌≤◌, true, false, inl, inr, List, [], ◌∷◌, length, map, sum, get_or, None, refl, sym, ap, ◌∙◌, arith, subst}
use Rattle.std.specs.Prelude.{slice_index, slice_index_or, nat_lt, if◌then◌else◌}
use Rattle.std.specs.List.{All, list_any}
use Rattle.std.proofs.lemmas.List.{length-map}
use Rattle.std.proofs.lemmas.List.Elements.{All-head, All-tail}
use Rattle.svr_typed.specs.declared.expr.TExpr.{TExpr}
use Rattle.svr_typed.specs.declared.class.Prop.{Prop}
use Rattle.svr_typed.specs.declared.class.EnumType.{EnumType}
use Rattle.svr_typed.specs.ExprTerm.{ExprTerm, typed, binary, size, expr_term}
use Rattle.svr_chain.specs.declared.clause.Lit.{Lit}
use Rattle.svr_chain.specs.Clauses.{AreWithin}
use Rattle.svr_eval.specs.declared.assign.Assign.{Assign}
use Rattle.svr_eval.specs.Reading.{Reading, reading_of}
use Rattle.svr_eval.specs.Typed.{IsTyped, CanRead}
use Rattle.svr_frame.specs.declared.part.Part.{Part}
use Rattle.svr_frame.specs.declared.slot.Slot.{Slot}
use Rattle.svr_frame.specs.Frame.{FrameTerm, inner_of, state_at}
use Rattle.svr_frame.specs.Closed.{index_number}
use Rattle.svr_frame.specs.Phases.{unknowns_of, sought_sizes, size_expr}
use Rattle.svr_frame.specs.Satisfaction.{is_at, is_size_of}
use Rattle.svr_frame.specs.Sound.{IsProp, IsSound, SizesFit}
use Rattle.svr_vector.specs.Places.{rows}
use Rattle.svr_inputs.specs.declared.inputs.Inputs.{Inputs}
use Rattle.svr_inputs.specs.Inputs.{AreInputs, read_at, state_of, number_bits, size_bits, number_row, size_row}
use Rattle.svr_inputs.specs.Served.{IsServed}
use Rattle.svr_encoded.specs.Fixed.{IsFixed}
use Rattle.svr_encoded.specs.Slots.{place_where, positive_bits, widths_of, bits_of_slot, bits_where, reading_at}
use Rattle.svr_encoded.specs.Encodes.{TellItems, holds}
use Rattle.svr_encoded.proofs.SlotLemmas.{number_bits_are, size_bits_are, reads_slots}
use Rattle.svr_encoded.proofs.EncodedLemmas.{bits_within, length-positive_bits}
use Rattle.svr_encoded.proofs.BridgeLemmas.{none_where}
use Rattle.svr_encoded.proofs.UnknownLemmas.{none_past, none_unsought}
use Rattle.svr_encoded.proofs.ServedLemmas.{served}
use Rattle.svr_blast.specs.Standing.{IsBound, StandsIn}
use Rattle.svr_blast.proofs.FrameLemmas.{scalar_size, cyclic_size}

-- a row has some element
inner_in : (ts : List EnumType) (props : List Prop) (p : ℕ) → All (IsProp ts) props → p < length props → 1 ≤ slice_index_or (map (λ (x : Prop). x.inner) props) p 1
inner_in ts [] p h lt = omega arith
inner_in ts (x ∷ props) zero h lt = (All-head (IsProp ts) x props h).inner
inner_in ts (x ∷ props) (suc p) h lt = inner_in ts props p (All-tail (IsProp ts) x props h) (omega (arith, lt))

some_inner : (f : FrameTerm) → IsSound f → (p : ℕ) → p < length f.class.props → 1 ≤ inner_of f p
some_inner f sound p lt = inner_in f.enums f.class.props p sound.props lt

module _ (i : Inputs) (f : FrameTerm) (part : Part) (slots : List Slot) (sb : ℕ) (sound : IsSound f) (fit : SizesFit f i.sizes.now) (are : slots ≡ unknowns_of f part i.sizes.now) (state : i.state.now ≡ f.state)
    (nums : (p j : ℕ) → number_row i.table.now p j ≡ place_where (is_at p j) 0 slots) (szs : (p : ℕ) → size_row i.table.now p ≡ place_where (is_size_of p) 0 slots) (bits : rows i.bits.now ≡ positive_bits 0 (widths_of f sb slots)) where
  len : length slots ≡ length (rows i.bits.now)
  len = sym (ap length bits ∙ length-positive_bits 0 (widths_of f sb slots) ∙ length-map slots (bits_of_slot f sb))

  numbers : (p j : ℕ) → number_bits i p j ≡ bits_where (is_at p j) slots (positive_bits 0 (widths_of f sb slots))
  numbers p j = number_bits_are i slots len nums szs p j ∙ ap (bits_where (is_at p j) slots) bits

  sizes : (p : ℕ) → size_bits i p ≡ bits_where (is_size_of p) slots (positive_bits 0 (widths_of f sb slots))
  sizes p = size_bits_are i slots len nums szs p ∙ ap (bits_where (is_size_of p) slots) bits

  past : (p j : ℕ) → slice_index i.sizes.now p ≤ j → number_bits i p j ≡ None
  past p j h =
      numbers p j
      ∙ none_where (is_at p j) 0 slots (widths_of f sb slots)
      (ap (list_any (is_at p j)) are ∙ none_past f i.sizes.now (cyclic_size f i.sizes.now sound fit) (scalar_size f i.sizes.now sound fit) p j h part)

  unsought : (p : ℕ) → sought_sizes f part p ≡ false → size_bits i p ≡ None
  unsought p h = sizes p ∙ none_where (is_size_of p) 0 slots (widths_of f sb slots) (ap (list_any (is_size_of p)) are ∙ none_unsought f i.sizes.now p part h)

  pub are_inputs : i.count ≡ sum (widths_of f sb slots) → AreInputs i
  are_inputs n = record {
    within = subst (λ (xs : List (List Lit)). All (AreWithin i.count) xs) (sym bits) (bits_within 0 i.count (widths_of f sb slots) (omega (arith, n)));
    bounded = past;
  }

  -- a bound is served as one of the rows of its array would be
  bound_served : 1 ≤ sb → sb ≤ 32 → (e : ExprTerm) → IsBound f e → IsTyped e → CanRead (reading_of f.state) 0 e → IsServed i 0 e
  bound_served low high e b t r =
      let own : ExprTerm = typed 1 false (binary b.0 (size_expr f b.1) (index_number b.2)) in
      let u : IsTyped own = subst IsTyped b.5 t in
      let s : CanRead (reading_of f.state) 0 own = subst (CanRead (reading_of f.state) 0) b.5 r in
      subst (IsServed i 0) (sym b.5)
      (served i f slots sb low high state sound fit numbers sizes (sought_sizes f part) unsought 0 (typed 1 false (binary b.0 (typed 32 true (size b.1 (inner_of f b.1))) (index_number b.2))) false
      (u.0, u.1, u.2, u.3, ((u.4.0.0, u.4.0.1, u.4.0.2, u.4.0.3, some_inner f sound b.1 b.3), u.4.1)) ((b.3, b.4, refl), tt) (s.0, tt) (tt, tt))

  one_served : 1 ≤ sb → sb ≤ 32 → (e : ExprTerm) → IsTyped e → StandsIn f e → CanRead (reading_of f.state) 0 e → IsFixed (sought_sizes f part) e → IsServed i 0 e
  one_served low high e t (inl h) r k = served i f slots sb low high state sound fit numbers sizes (sought_sizes f part) unsought 0 e false t h r k
  one_served low high e t (inr h) r k = bound_served low high e h t r

  pub all_served : 1 ≤ sb → sb ≤ 32 → (items : List TExpr) → All (λ e. IsTyped (expr_term e)) items → All (λ e. StandsIn f (expr_term e)) items → All (λ e. CanRead (reading_of f.state) 0 (expr_term e)) items
      → All (λ e. IsFixed (sought_sizes f part) (expr_term e)) items → All (λ e. IsServed i 0 (expr_term e)) items
  all_served low high items t h r k = λ n d lt. one_served low high (expr_term (get_or items n d)) (t n d lt) (h n d lt) (r n d lt) (k n d lt)

  abbrev state_with : Assign → Reading
  state_with a = record {
    element = λ p j. if nat_lt j (slice_index i.sizes.now p) then (reading_of a).element p j else 0;
    size = λ p. slice_index i.sizes.now p;
    script = λ v. (reading_of a).script v;
  }

  same_state : state_of i ≡ state_at f i.sizes.now
  same_state = ap state_with state

  -- the literals tell the items by what the bits of the slots read as
  pub tells : (cs : List (List Lit)) (roots : List Lit) (asked : List ExprTerm) → TellItems cs roots (λ v. read_at i v) asked → TellItems cs roots (λ v. reading_at (state_at f i.sizes.now) slots (rows i.bits.now) v) asked
  tells cs roots asked h = λ v m.
      h v m
      ∙ ap (λ r. map (λ e. holds r e) asked) (reads_slots i slots len nums szs v)
      ∙ ap (λ s. map (λ e. holds (reading_at s slots (rows i.bits.now) v) e) asked) same_state
