-- Inputs with the bits of the unknowns of the last phase, and what values say of chosen values and of items.
use Rattle.std.proofs.Common.{◌≡◌, ◌<◌, ◌≤◌, ℕ, zero, suc, Bool, true, false, not, ◌&&◌, List, [], ◌∷◌, ◌++◌, length, map, refl, sym, ap, ◌∙◌, arith, subst, None}
use Rattle.std.specs.Prelude.{if◌then◌else◌, nat_lt, slice_index, slice_index_or}
use Rattle.std.specs.List.{All, list_any, list_all}
use Rattle.std.proofs.lemmas.Bool.{and_parts}
use Rattle.std.proofs.lemmas.List.Folds.{list_all-append}
use Rattle.std.proofs.lemmas.List.{length-map}
use Rattle.std.proofs.lemmas.List.Elements.{All-head, All-tail}
use Rattle.svr_limits.specs.declared.limit.TheConstants.{PROPERTY_LIMIT}
use Rattle.svr_typed.specs.declared.class.Prop.{Prop}
use Rattle.svr_typed.specs.declared.class.EnumType.{EnumType}
use Rattle.svr_chain.specs.Valuations.{lit_value}
use Rattle.svr_query.specs.Answer.{IsModel}
use Rattle.svr_query.specs.Logged.{valuation_of}
use Rattle.svr_eval.specs.declared.assign.Assign.{Assign}
use Rattle.svr_eval.specs.Reading.{Reading, reading_of}
use Rattle.svr_frame.specs.declared.part.Part.TheVariants.{All as Whole}
use Rattle.svr_frame.specs.declared.slot.Slot.{Slot}
use Rattle.svr_frame.specs.Frame.{FrameTerm, is_scalar_kind, is_randc, is_scalar, is_random, is_cyclic, state_at}
use Rattle.svr_frame.specs.Occurrences.{Occurrence, all_true, closed_of}
use Rattle.svr_frame.specs.Phases.{unknowns_of, hard_of, live_of}
use Rattle.svr_frame.specs.Satisfaction.{is_at, is_size_of, IsAssignment, kept_of}
use Rattle.svr_frame.specs.Sound.{IsProp, IsSound, SizesFit}
use Rattle.svr_frame_laws.proofs.Answers.{scalar_one}
use Rattle.svr_vector.specs.Places.{rows}
use Rattle.svr_inputs.specs.declared.inputs.Inputs.{Inputs}
use Rattle.svr_inputs.specs.Inputs.{read_at, number_bits, size_bits, number_row, size_row}
use Rattle.svr_encoded.specs.declared.encoded.Encoded.{Encoded}
use Rattle.svr_encoded.specs.Slots.{place_where, positive_bits, widths_of, bits_of_slot, bits_where, reading_at}
use Rattle.svr_encoded.specs.Encodes.{holds}
use Rattle.svr_encoded.proofs.SlotLemmas.{number_bits_are, size_bits_are, reads_slots}
use Rattle.svr_encoded.proofs.EncodedLemmas.{length-positive_bits}
use Rattle.svr_encoded.proofs.BridgeLemmas.{none_where, read_of_phase, read_is_assignment}
use Rattle.svr_encoded.proofs.UnknownLemmas.{none_past, none_unsought}
use Rattle.svr_encoded.proofs.ServedLemmas.{found, at_width}
use Rattle.svr_phase.specs.Spent.{closed_at}
use Rattle.svr_phase.specs.Proof.{fixed_lits, hard_roots, soft_roots, kept_lits}
use Rattle.svr_phase.specs.Chosen.{AreCyclicValues}
use Rattle.svr_phase.proofs.Refutes.{hard_held}
use Rattle.svr_phase.proofs.KeptItems.{both_hold, kept_held}
use Rattle.svr_question.specs.Ends.{EncodesCall, kept_literals}
use Rattle.svr_question.proofs.Chosen.{read_with_chosen, all_in_order, all_members}
use Rattle.svr_found.specs.Listed.{AreShort}

-- ---- properties of a sound frame

width_most : (ts : List EnumType) (props : List Prop) (p : ℕ) → All (IsProp ts) props → slice_index (map (λ (x : Prop). x.kind.width) props) p ≤ 64
width_most ts [] p h = omega arith
width_most ts (x ∷ props) zero h = (All-head (IsProp ts) x props h).wide.1
width_most ts (x ∷ props) (suc p) h = width_most ts props p (All-tail (IsProp ts) x props h)

-- a cyclic property is a scalar (18.4.2)
cyclic_scalar : (ts : List EnumType) (props : List Prop) (q : ℕ) → All (IsProp ts) props → slice_index_or (map (λ (x : Prop). is_randc x.rand) props) q false ≡ true → slice_index_or (map (λ (x : Prop). is_scalar_kind x.array) props) q false ≡ true
cyclic_scalar ts [] q a h = cc
cyclic_scalar ts (x ∷ props) zero a h = (All-head (IsProp ts) x props a).cyclic h
cyclic_scalar ts (x ∷ props) (suc q) a h = cyclic_scalar ts props q (All-tail (IsProp ts) x props a) h

-- a scalar has the size 1
scalar_size : (f : FrameTerm) (ns : List ℕ) → IsSound f → SizesFit f ns → (q : ℕ) → is_scalar f q ≡ true → 0 < slice_index ns q
scalar_size f ns sound fit q h = let one : slice_index ns q ≡ 1 = scalar_one f ns sound fit q (ap not h) in omega (arith, one)

cyclic_size : (f : FrameTerm) (ns : List ℕ) → IsSound f → SizesFit f ns → (q : ℕ) → is_cyclic f q ≡ true → 0 < slice_index ns q
cyclic_size f ns sound fit q h =
    scalar_size f ns sound fit q (cyclic_scalar f.enums f.class.props q sound.props (and_parts (is_random f q) (slice_index_or (map (λ (x : Prop). is_randc x.rand) f.class.props) q false) h).1)

-- ---- inputs with the bits of the unknowns

module _ (i : Inputs) (f : FrameTerm) (slots : List Slot) (sound : IsSound f) (fit : SizesFit f i.sizes.now) (are : slots ≡ unknowns_of f Whole i.sizes.now) (state : i.state.now ≡ f.state)
    (nums : (p j : ℕ) → number_row i.table.now p j ≡ place_where (is_at p j) 0 slots) (szs : (p : ℕ) → size_row i.table.now p ≡ place_where (is_size_of p) 0 slots) (bits : rows i.bits.now ≡ positive_bits 0 (widths_of f 1 slots)) where
  len : length slots ≡ length (rows i.bits.now)
  len = sym (ap length bits ∙ length-positive_bits 0 (widths_of f 1 slots) ∙ length-map slots (bits_of_slot f 1))

  numbers : (p j : ℕ) → number_bits i p j ≡ bits_where (is_at p j) slots (positive_bits 0 (widths_of f 1 slots))
  numbers p j = number_bits_are i slots len nums szs p j ∙ ap (bits_where (is_at p j) slots) bits

  sizes : (p : ℕ) → size_bits i p ≡ bits_where (is_size_of p) slots (positive_bits 0 (widths_of f 1 slots))
  sizes p = size_bits_are i slots len nums szs p ∙ ap (bits_where (is_size_of p) slots) bits

  -- nothing past a size has bits, and no size has any
  pub past : (p j : ℕ) → slice_index i.sizes.now p ≤ j → number_bits i p j ≡ None
  past p j h =
      numbers p j
      ∙ none_where (is_at p j) 0 slots (widths_of f 1 slots)
      (ap (list_any (is_at p j)) are ∙ none_past f i.sizes.now (cyclic_size f i.sizes.now sound fit) (scalar_size f i.sizes.now sound fit) p j h Whole)

  pub unsought : (p : ℕ) → size_bits i p ≡ None
  unsought p = sizes p ∙ none_where (is_size_of p) 0 slots (widths_of f 1 slots) (ap (list_any (is_size_of p)) are ∙ none_unsought f i.sizes.now p Whole refl)

  -- the numbers have at most 64 bits
  pub short : AreShort i
  short p j ls e =
      let s = found f 1 (is_at p j) 0 slots ls (sym (numbers p j) ∙ e) in
      omega (arith, s.2, at_width f 1 p j s.0 s.1, width_most f.enums f.class.props p sound.props)

  pub few : length i.sizes.now ≤ PROPERTY_LIMIT
  few = omega (arith, fit.long, sound.properties)

  abbrev state_with : Assign → Reading
  state_with a = record {
    element = λ p j. if nat_lt j (slice_index i.sizes.now p) then (reading_of a).element p j else 0;
    size = λ p. slice_index i.sizes.now p;
    script = λ v. (reading_of a).script v;
  }

  -- they read as the bits of the slots do, beside the state
  pub read_as : (v : ℕ → Bool) → read_at i v ≡ reading_at (state_at f i.sizes.now) slots (rows i.bits.now) v
  read_as v = reads_slots i slots len nums szs v ∙ ap (λ a. reading_at (state_with a) slots (rows i.bits.now) v) state

-- ---- values that make literals of chosen values, and roots, true

module _ (f : FrameTerm) (ns : List ℕ) (sound : IsSound f) (fit : SizesFit f ns) (e : Encoded) (encodes : EncodesCall f ns e) (values : List Bool) where
  abbrev hard : List Occurrence
  hard = hard_of f Whole ns

  abbrev soft : List Occurrence
  soft = live_of f Whole ns

  abbrev v : ℕ → Bool
  v = valuation_of values

  as_phase : reading_at (state_at f ns) e.slots.items (rows e.bits.items) v ≡ read_of_phase f Whole ns 1 v
  as_phase = λ k. reading_at (state_at f ns) (encodes.slots k) (encodes.bits k) v

  free : IsAssignment f Whole ns [] (read_of_phase f Whole ns 1 v)
  free = read_is_assignment f Whole ns 1 (omega arith) sound fit v

  -- the chosen values are fixed where their literals are true
  pub is_assignment : (a : Reading) → a ≡ reading_at (state_at f ns) e.slots.items (rows e.bits.items) v → (chosen : List (ℕ × ℕ)) → AreCyclicValues f chosen → list_all (lit_value v) (fixed_lits e chosen) ≡ true
      → IsAssignment f Whole ns chosen a
  is_assignment a is chosen cyclic spelled =
      subst (IsAssignment f Whole ns chosen) (sym (is ∙ as_phase))
      (read_with_chosen f Whole ns 1 (closed_at f ns (hard ++ soft)) e encodes chosen [] (all_in_order f chosen cyclic) (omega arith) sound fit (all_members f chosen cyclic) v spelled)

  -- the hard items and the kept soft ones hold where their roots are true
  pub meets_kept : (a : Reading) → a ≡ reading_at (state_at f ns) e.slots.items (rows e.bits.items) v → (chosen : List (ℕ × ℕ)) (fates : List Bool) → IsModel e.cnf.clauses.items (kept_literals f ns chosen fates e) values
      → all_true a (hard_of f Whole ns ++ kept_of (live_of f Whole ns) fates) ≡ true
  meets_kept a is chosen fates model =
      let t = lit_value v in
      let asked = fixed_lits e chosen ++ hard_roots e hard in
      let kept = kept_lits fates (soft_roots e hard) in
      let both = and_parts (list_all t asked) (list_all t kept) (sym (list_all-append t asked kept) ∙ model.1) in
      let first = and_parts (list_all t (fixed_lits e chosen)) (list_all t (hard_roots e hard)) (sym (list_all-append t (fixed_lits e chosen) (hard_roots e hard)) ∙ both.0) in
      let hard_ones = hard_held f Whole ns 1 hard soft e encodes v model.0 first.1 in
      let kept_ones = kept_held f Whole ns 1 hard soft e encodes v model.0 fates both.1 in
      ap (λ (r : Reading). all_true r (hard ++ kept_of soft fates)) (is ∙ as_phase)
      ∙ sym (both_hold f Whole ns sound fit [] (read_of_phase f Whole ns 1 v) free fates)
      ∙ list_all-append (λ o. holds (read_of_phase f Whole ns 1 v) (closed_of (state_at f ns) o)) hard (kept_of soft fates)
      ∙ (λ k. hard_ones k && kept_ones k)
