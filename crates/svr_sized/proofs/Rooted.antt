-- What the search asks of the bits of an encoding of any items of a phase, of its roots, and of the literals of chosen values.
use Rattle.std.proofs.Common.{◌≡◌, ◌≤◌, ◌+◌, ℕ, false, List, [], ◌++◌, length, take, drop, sym, ap, ◌∙◌, subst, arith, append_assoc}
use Rattle.std.specs.List.{flat_map}
use Rattle.std.proofs.lemmas.List.{take-append-drop}
use Rattle.svr_chain.specs.declared.clause.Lit.{Lit}
use Rattle.svr_chain.specs.Clauses.{AreWithin, is_tautology}
use Rattle.svr_chain.specs.Settled.{AreSettled}
use Rattle.svr_query.specs.Bits.{AreFirst}
use Rattle.svr_typed.specs.ExprTerm.{ExprTerm}
use Rattle.svr_frame.specs.declared.part.Part.{Part}
use Rattle.svr_frame.specs.Frame.{FrameTerm}
use Rattle.svr_frame.specs.Phases.{unknowns_of}
use Rattle.svr_vector.specs.Places.{rows}
use Rattle.svr_encoded.specs.declared.encoded.Encoded.{Encoded}
use Rattle.svr_encoded.specs.Slots.{positives, widths_of}
use Rattle.svr_encoded.specs.Encodes.{AreRising, Encodes}
use Rattle.svr_phase.specs.Chosen.{AreCyclicValues}
use Rattle.svr_phase.specs.Proof.{fixed_lits}
use Rattle.svr_phase.specs.Spent.{bit_count}
use Rattle.svr_question.proofs.Chosen.{rising_join, chosen_rising, all_in_order}
use Rattle.svr_question.proofs.Roots.{bits_joined, positives_long, bits_first, bits_within, rising_below, rising_within, rising_apart}

module _ (f : FrameTerm) (part : Part) (sizes : List ℕ) (k : ℕ) (asked : List ExprTerm) (e : Encoded) (encodes : Encodes f part sizes k asked e) where
  abbrev count : ℕ
  count = bit_count f part sizes k

  abbrev pub row : List Lit
  row = flat_map (λ ls. ls) (rows e.bits.items)

  row_is : row ≡ positives 0 count
  row_is = ap (flat_map (λ ls. ls)) encodes.bits ∙ bits_joined 0 (widths_of f k (unknowns_of f part sizes))

  pub row_long : length row ≡ count
  row_long = ap length row_is ∙ positives_long 0 count

  below : count ≤ e.cnf.vars
  below = rising_below count e.roots.items e.cnf.vars encodes.apart

  row_within : AreWithin e.cnf.vars row
  row_within = subst (AreWithin e.cnf.vars) (sym row_is) (bits_within 0 count e.cnf.vars (omega (arith, below)))

  row_first : AreFirst row
  row_first = subst AreFirst (sym row_is) (bits_first count)

  row_settled : AreSettled (length row) e.cnf.vars e.cnf.clauses.items
  row_settled = subst (λ (n : ℕ). AreSettled n e.cnf.vars e.cnf.clauses.items) (sym row_long) encodes.settled

  -- the literals of the chosen values and all roots behind them are of rising variables
  all_rising : (chosen : List (ℕ × ℕ)) → AreCyclicValues f chosen → AreRising 0 (fixed_lits e chosen ++ e.roots.items) e.cnf.vars
  all_rising chosen cyclic = rising_join 0 (fixed_lits e chosen) count e.roots.items e.cnf.vars (chosen_rising f part sizes k asked e encodes chosen [] (all_in_order f chosen cyclic)) encodes.apart

  -- what the search asks of a list that is the row
  pub row_asked : (ls : List Lit) → ls ≡ row → AreWithin e.cnf.vars ls × AreFirst ls × AreSettled (length ls) e.cnf.vars e.cnf.clauses.items
  row_asked ls is = subst (λ (xs : List Lit). AreWithin e.cnf.vars xs × AreFirst xs × AreSettled (length xs) e.cnf.vars e.cnf.clauses.items) (sym is) (row_within, row_first, row_settled)

  -- and of the literals of the chosen values and all roots, wherever these are cut
  pub roots_asked : (chosen : List (ℕ × ℕ)) → AreCyclicValues f chosen → (n : ℕ) (base soft : List Lit) → base ≡ fixed_lits e chosen ++ take n e.roots.items → soft ≡ drop n e.roots.items
      → AreWithin e.cnf.vars (base ++ soft) × (is_tautology (base ++ soft) ≡ false)
  roots_asked chosen cyclic n base soft first behind =
      let same : base ++ soft ≡ fixed_lits e chosen ++ e.roots.items
      = (λ i. first i ++ behind i)
      ∙ append_assoc (fixed_lits e chosen) (take n e.roots.items) (drop n e.roots.items)
      ∙ ap (λ (ls : List Lit). fixed_lits e chosen ++ ls) (take-append-drop n e.roots.items) in
      subst (λ (xs : List Lit). AreWithin e.cnf.vars xs × (is_tautology xs ≡ false)) (sym same)
      (rising_within 0 (fixed_lits e chosen ++ e.roots.items) e.cnf.vars (all_rising chosen cyclic), rising_apart 0 (fixed_lits e chosen ++ e.roots.items) e.cnf.vars (all_rising chosen cyclic))
