-- What is kept of a call are the items of each later one in its frame that reads the same numbers.
use Rattle.std.proofs.Common.{◌≡◌, ℕ, Bool, false, refl, sym, ◌∙◌, ap, subst, List, [], ◌++◌, map, length, Option, None, Some, arith}
use Rattle.std.specs.Prelude.{slice_index, slice_index_or}
use Rattle.std.proofs.lemmas.List.{length-append, map-append}
use Rattle.svr_chain.specs.declared.clause.Lit.{Lit}
use Rattle.svr_typed.specs.ExprTerm.{ExprTerm, expr_term}
use Rattle.svr_eval.specs.declared.assign.Assign.{Assign}
use Rattle.svr_frame.specs.declared.part.Part.TheVariants.{All as Whole}
use Rattle.svr_frame.specs.declared.slot.Slot.{Slot}
use Rattle.svr_frame.specs.declared.slot.Slot.TheVariants.{Scalar, Element, Size}
use Rattle.svr_frame.specs.Frame.{FrameTerm, state_at}
use Rattle.svr_frame.specs.Occurrences.{closed_of}
use Rattle.svr_frame.specs.Phases.{unknowns_of, hard_of, live_of}
use Rattle.svr_frame.specs.Satisfaction.{is_at}
use Rattle.svr_frame.specs.Sound.{IsSound, SizesFit}
use Rattle.svr_inputs.specs.Inputs.{read_or}
use Rattle.svr_encoded.specs.declared.encoded.Encoded.{Encoded}
use Rattle.svr_encoded.specs.Slots.{positive_bits, bits_of_slot, widths_of, bits_where, reading_at}
use Rattle.svr_encoded.specs.Encodes.{holds, EncodesOver}
use Rattle.svr_phase.specs.Spent.{closed_at}
use Rattle.svr_phase.proofs.Fitting.{none_any}
use Rattle.svr_question.specs.Ends.{EncodesCall}
use Rattle.svr_randomize.specs.declared.kept.Form.{Form}
use Rattle.svr_randomize.specs.declared.kept.Form.TheVariants.{Expressions, Clauses}
use Rattle.svr_randomize.specs.declared.kept.Last.{Last}
use Rattle.svr_randomize.specs.declared.kept.Kept.{Kept}
use Rattle.svr_randomize.specs.Kept.{hard_in, soft_in, AreItemsIn, IsLeft, Reads, AreLast, with_state, IsLast, IsKept, last_of}
use Rattle.svr_randomize.proofs.Items.{same_length}
use Rattle.svr_randomize.proofs.Readings.{settled, hard_closed, live_closed, live_there, hard_there}

-- ---- how many items there are

module _ (f : FrameTerm) (ns : List ℕ) where
  pub hard_many : (x : Form) → AreItemsIn f ns x → hard_in x ≡ length (hard_of f Whole ns)
  hard_many (Expressions x) h = same_length expr_term (closed_of (state_at f ns)) x.hard (hard_of f Whole ns) h.hard
  hard_many (Clauses hard e) h = h.0

  pub soft_many : (x : Form) → AreItemsIn f ns x → soft_in x ≡ length (live_of f Whole ns)
  soft_many (Expressions x) h = same_length expr_term (closed_of (state_at f ns)) x.soft (live_of f Whole ns) h.soft
  soft_many (Clauses hard e) h =
      let all : length e.items.items ≡ length (hard_of f Whole ns ++ live_of f Whole ns) = same_length expr_term (closed_of (state_at f ns)) e.items.items (hard_of f Whole ns ++ live_of f Whole ns) h.1.items in
      omega (arith, all, h.0, length-append (hard_of f Whole ns) (live_of f Whole ns))

-- ---- in another state

module _ (f : FrameTerm) (s : Assign) (free : List Bool) (ns : List ℕ) (sound : IsSound f) (fit : SizesFit f ns) (there : IsSound (with_state f s free))
    (numbers : (p : ℕ) → slice_index_or f.random p false ≡ false → slice_index_or s.values p [] ≡ slice_index_or f.state.values p []) (scripts : s.script ≡ f.state.script) where
  abbrev g : FrameTerm
  g = with_state f s free

  hard_again : closed_at f ns (hard_of f Whole ns) ≡ closed_at g ns (hard_of g Whole ns)
  hard_again = hard_closed f s free ns sound fit there numbers scripts ∙ ap (map (closed_of (state_at g ns))) (sym (hard_there f s free ns sound fit there numbers scripts))

  live_again : closed_at f ns (live_of f Whole ns) ≡ closed_at g ns (live_of g Whole ns)
  live_again = live_closed f s free ns sound fit there numbers scripts ∙ ap (map (closed_of (state_at g ns))) (sym (live_there f s free ns sound fit there numbers scripts))

  all_again : closed_at f ns (hard_of f Whole ns ++ live_of f Whole ns) ≡ closed_at g ns (hard_of g Whole ns ++ live_of g Whole ns)
  all_again =
      map-append (closed_of (state_at f ns)) (hard_of f Whole ns) (live_of f Whole ns) ∙ (λ k. hard_again k ++ live_again k)
      ∙ sym (map-append (closed_of (state_at g ns)) (hard_of g Whole ns) (live_of g Whole ns))

  -- ---- what the bits of the unknowns read as

  abbrev slots : List Slot
  slots = unknowns_of f Whole ns

  abbrev widths : List ℕ
  widths = widths_of f 1 slots

  same_number : (v : ℕ → Bool) (p i : ℕ) → read_or ((state_at f ns).element p i) v (bits_where (is_at p i) slots (positive_bits 0 widths)) ≡ read_or ((state_at g ns).element p i) v (bits_where (is_at p i) slots (positive_bits 0 widths))
  same_number v p i = by_bits (bits_where (is_at p i) slots (positive_bits 0 widths)) refl
    where
      by_bits : (o : Option (List Lit)) → bits_where (is_at p i) slots (positive_bits 0 widths) ≡ o → read_or ((state_at f ns).element p i) v o ≡ read_or ((state_at g ns).element p i) v o
      by_bits None e = sym (settled f s free ns sound fit there numbers scripts p i (none_any f 1 (is_at p i) 0 slots e))
      by_bits (Some ls) e = refl

  same_reading : (v : ℕ → Bool) → reading_at (state_at f ns) slots (positive_bits 0 widths) v ≡ reading_at (state_at g ns) slots (positive_bits 0 widths) v
  same_reading v = λ k. record {
    element = λ p i. same_number v p i k;
    size = (reading_at (state_at f ns) slots (positive_bits 0 widths) v).size;
    script = λ x. slice_index (sym scripts k) x;
  }

  width_there : (x : Slot) → bits_of_slot f 1 x ≡ bits_of_slot g 1 x
  width_there (Scalar p) = refl
  width_there (Element p i) = refl
  width_there (Size p) = refl

  widths_there : widths ≡ widths_of g 1 slots
  widths_there = λ k. map (λ (x : Slot). width_there x k) slots

  clauses_again : (e : Encoded) → EncodesCall f ns e → EncodesCall g ns e
  clauses_again e h =
      subst (λ (ws : List ℕ). EncodesOver (state_at g ns) slots ws (closed_at g ns (hard_of g Whole ns ++ live_of g Whole ns)) e) widths_there
      (record {
        items = h.items ∙ all_again;
        slots = h.slots;
        bits = h.bits;
        extends = h.extends;
        roots = λ v meets. h.roots v meets ∙ (λ k. map (λ (x : ExprTerm). holds (same_reading v k) x) (all_again k));
        apart = h.apart;
        settled = h.settled;
        within = h.within;
      })

  pub items_again : (x : Form) → AreItemsIn f ns x → AreItemsIn g ns x
  items_again (Expressions x) h = record { hard = h.hard ∙ hard_again; soft = h.soft ∙ live_again }
  items_again (Clauses hard e) h = (h.0 ∙ ap length (sym (hard_there f s free ns sound fit there numbers scripts)), clauses_again e h.1)

-- ---- what is kept

-- what an answer leaves
pub left_is_kept : (f : FrameTerm) (read : Assign) (left : Option Form) → IsSound f → SizesFit f read.sizes → Reads f read → IsLeft f read.sizes left → IsLast f (last_of read left)
left_is_kept f read None sound fit reads h = tt
left_is_kept f read (Some items) sound fit reads h = λ s free there fits again.
    items_again f s free read.sizes sound fit there (λ p r. again.numbers p r ∙ sym (reads.numbers p r)) (again.script ∙ sym reads.script) items h

-- what is kept, in a frame that reads the same numbers
pub kept_is_last : (f : FrameTerm) (ns : List ℕ) (last : Last) → IsSound f → SizesFit f ns → last.read.sizes ≡ ns → Reads f last.read → IsLast f (Some last) → AreLast f ns last
kept_is_last f ns last sound fit same reads h = record {
  sizes = same;
  read = reads;
  items = subst (λ (sizes : List ℕ). AreItemsIn f sizes last.items) same (h f.state f.free_size sound (subst (SizesFit f) (sym same) fit) reads);
}

-- after an answer
pub kept_behind : (f : FrameTerm) (ns : List ℕ) (read : Assign) (left : Option Form) (kept : Kept) → IsSound f → SizesFit f ns → read.sizes ≡ ns → Reads f read → IsLeft f ns left → kept ≡ record { last = last_of read left } → IsKept f kept
kept_behind f ns read left kept sound fit same reads h is =
    subst (IsKept f) (sym is) (left_is_kept f read left sound (subst (SizesFit f) (sym same) fit) reads (subst (λ (sizes : List ℕ). IsLeft f sizes left) (sym same) h))

-- in a frame that differs in the state alone
pub kept_in : (f g : FrameTerm) → ((s : Assign) (free : List Bool) → with_state g s free ≡ with_state f s free) → (kept : Kept) → IsKept f kept → IsKept g kept
kept_in f g same kept h = by_last kept.last h
  where
    by_last : (x : Option Last) → IsLast f x → IsLast g x
    by_last None k = tt
    by_last (Some last) k = λ s free.
        subst (λ (x : FrameTerm). IsSound x → SizesFit x last.read.sizes → Reads x last.read → AreItemsIn x last.read.sizes last.items) (sym (same s free)) (k s free)
