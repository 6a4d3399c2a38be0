-- What the end of the pass over the roots of a question says of sizes.
use Rattle.std.proofs.Common.{◌≡◌, ◌<◌, ◌≤◌, ◌+◌, ◌^◌, ℕ, suc, Bool, true, List, [], ◌++◌, map, length, Some, refl, sym, ap, ◌∙◌, subst, arith, append-nil}
use Rattle.std.specs.List.{list_all}
use Rattle.std.proofs.lemmas.Bool.{and_parts}
use Rattle.std.proofs.lemmas.List.Folds.{list_all-append}
use Rattle.svr_chain.specs.declared.clause.Lit.{Lit}
use Rattle.svr_chain.specs.Valuations.{lit_value, Meets}
use Rattle.svr_query.specs.Answer.{SolverView}
use Rattle.svr_query.specs.Logged.{valuation_of}
use Rattle.svr_eval.specs.Reading.{Reading}
use Rattle.svr_frame.specs.declared.part.Part.TheVariants.{Sizes}
use Rattle.svr_frame.specs.Frame.{FrameTerm, state_at}
use Rattle.svr_frame.specs.Occurrences.{Occurrence, is_true, all_true, closed_of}
use Rattle.svr_frame.specs.Phases.{unknowns_of, hard_of}
use Rattle.svr_frame.specs.Satisfaction.{IsAssignment}
use Rattle.svr_frame.specs.Sound.{IsSound}
use Rattle.svr_vector.specs.Places.{rows}
use Rattle.svr_encoded.specs.declared.encoded.Encoded.{Encoded}
use Rattle.svr_encoded.specs.Slots.{reading_at, widths_of}
use Rattle.svr_encoded.specs.Encodes.{holds}
use Rattle.svr_encoded.specs.Fits.{FitsIn}
use Rattle.svr_encoded.proofs.BridgeLemmas.{read_of_phase}
use Rattle.svr_phase.specs.Chosen.{AreCyclicValues}
use Rattle.svr_phase.specs.Spent.{bit_count, closed_at, EncodesItems}
use Rattle.svr_phase.specs.Proof.{fixed_lits, hard_roots, soft_roots, kept_lits}
use Rattle.svr_phase.specs.Sizes.{sizes_read, cap_bits}
use Rattle.svr_phase.proofs.Refutes.{hard_held}
use Rattle.svr_soft.specs.declared.priority.PassEnd.{PassEnd}
use Rattle.svr_soft.specs.declared.priority.PassEnd.TheVariants as passed
use Rattle.svr_soft.specs.Kept.{with_kept}
use Rattle.svr_soft.specs.End.{IsPassEnd}
use Rattle.svr_question.proofs.Chosen.{all_in_order, all_members, chosen_read}
use Rattle.svr_question.proofs.Ranks.{Rises, ranks_rise, some_fates, with_kept_is}
use Rattle.svr_sized.specs.declared.scope.Scope.{Scope}
use Rattle.svr_sized.specs.declared.scope.Scope.TheVariants.{Wished, Capped, Uncapped}
use Rattle.svr_sized.specs.declared.found.Found.{Found}
use Rattle.svr_sized.specs.Questions.{hard_over, soft_over, bits_over}
use Rattle.svr_sized.specs.Ends.{IsFound, Becomes}
use Rattle.svr_sized.proofs.Widths.{bits_some, bits_few}
use Rattle.svr_sized.proofs.Truths.{over_same}
use Rattle.svr_sized.proofs.Within.{within_bits}
use Rattle.svr_sized.proofs.Readings.{small_below, held_below, read_is}
use Rattle.svr_sized.proofs.Bridge.{met_by, unmet_hard, keeps_items}

-- ---- how many bits a size has

pub few_over : (cap : ℕ) → cap ≤ 2048 → (scope : Scope) → bits_over cap scope ≤ 32
few_over cap le Wished = let few = bits_few cap le in omega (arith, few)
few_over cap le Capped = let few = bits_few cap le in omega (arith, few)
few_over cap le Uncapped = omega arith

pub some_over : (cap : ℕ) → 1 ≤ cap → (scope : Scope) → 1 ≤ bits_over cap scope
some_over cap le Wished = bits_some cap le
some_over cap le Capped = bits_some cap le
some_over cap le Uncapped = omega arith

module _ (f : FrameTerm) (sound : IsSound f) (cap : ℕ) (le : cap ≤ 2048) (chosen : List (ℕ × ℕ)) (cyclic : AreCyclicValues f chosen) where
  abbrev ns : List ℕ
  ns = f.state.sizes

  -- ---- what the bits of a question read as

  -- each size is below 2 ^ 31
  all_below : (scope : Scope) (e : Encoded) → EncodesItems f Sizes ns (bits_over cap scope) (hard_over f cap scope ++ soft_over f scope) e → (v : ℕ → Bool) → Meets v e.cnf.clauses.items
      → list_all (lit_value v) (hard_roots e (hard_over f cap scope)) ≡ true → (p : ℕ) → (read_of_phase f Sizes ns (bits_over cap scope) v).size p < 2 ^ 31
  all_below Wished e encodes v meets h p = small_below f sound (cap_bits cap) (few_over cap le Wished) v (let few = bits_few cap le in omega (arith, few)) p
  all_below Capped e encodes v meets h p = small_below f sound (cap_bits cap) (few_over cap le Capped) v (let few = bits_few cap le in omega (arith, few)) p
  all_below Uncapped e encodes v meets h p = held_below f sound 32 (omega arith) v (hard_held f Sizes ns 32 (hard_of f Sizes ns) [] e encodes v meets h) p

  reads_over : (scope : Scope) (e : Encoded) → EncodesItems f Sizes ns (bits_over cap scope) (hard_over f cap scope ++ soft_over f scope) e → (v : ℕ → Bool) → Meets v e.cnf.clauses.items
      → list_all (lit_value v) (fixed_lits e chosen ++ hard_roots e (hard_over f cap scope)) ≡ true → IsAssignment f Sizes ns chosen (read_of_phase f Sizes ns (bits_over cap scope) v)
  reads_over scope e encodes v meets h =
      let k = bits_over cap scope in
      let parts = and_parts (list_all (lit_value v) (fixed_lits e chosen)) (list_all (lit_value v) (hard_roots e (hard_over f cap scope))) (sym (list_all-append (lit_value v) (fixed_lits e chosen) (hard_roots e (hard_over f cap scope))) ∙ h) in
      let is = read_is f sound (bits_over cap scope) (few_over cap le scope) v (all_below scope e encodes v meets parts.1) in
      record {
        fits = is.fits;
        same_numbers = is.same_numbers;
        same_sizes = is.same_sizes;
        same_script = is.same_script;
        chosen = chosen_read f Sizes ns (bits_over cap scope) (closed_at f ns (hard_over f cap scope ++ soft_over f scope)) e encodes chosen [] (all_in_order f chosen cyclic) sound (all_members f chosen cyclic) v parts.0;
      }

  -- ---- the end of a pass

  module _ (scope : Scope) (e : Encoded) (encodes : EncodesItems f Sizes ns (bits_over cap scope) (hard_over f cap scope ++ soft_over f scope) e) (budget : ℕ) where
    abbrev k : ℕ
    k = bits_over cap scope

    abbrev hard : List Occurrence
    hard = hard_over f cap scope

    abbrev soft : List Occurrence
    soft = soft_over f scope

    abbrev base : List Lit
    base = fixed_lits e chosen ++ hard_roots e hard

    abbrev softs : List Lit
    softs = soft_roots e hard

    truths : (a : Reading) → IsAssignment f Sizes ns chosen a → map (λ o. holds a (closed_of (state_at f ns) o)) (hard ++ soft) ≡ map (is_true a) (hard ++ soft)
    truths a is = over_same f sound cap chosen a is scope

    within : (a : Reading) → IsAssignment f Sizes ns chosen a → all_true a hard ≡ true → FitsIn (state_at f ns) (unknowns_of f Sizes ns) (widths_of f k (unknowns_of f Sizes ns)) a
    within a is meets = within_bits f sound cap le chosen a is scope meets

    reads : (v : ℕ → Bool) → Meets v e.cnf.clauses.items → list_all (lit_value v) base ≡ true → IsAssignment f Sizes ns chosen (read_of_phase f Sizes ns k v)
    reads v meets h = reads_over scope e encodes v meets h

    as_phase : (v : ℕ → Bool) → reading_at (state_at f ns) e.slots.items (rows e.bits.items) v ≡ read_of_phase f Sizes ns k v
    as_phase v = λ i. reading_at (state_at f ns) (encodes.slots i) (encodes.bits i) v

    abbrev solver : SolverView
    solver = record { vars = e.cnf.vars; clauses = e.cnf.clauses.items; steps = []; bits = Some (bit_count f Sizes ns k) }

    pub ended : (over : PassEnd) (r : Found) → IsPassEnd solver base softs budget over → Becomes f e base over r → IsFound f cap chosen budget scope r
    ended (passed.Done kept dropped values) r h b =
        let up : suc (length softs) ≡ 1 + length softs = omega arith in
        let made = some_fates 1 (length softs) kept.items (subst (λ (u : ℕ). Rises 1 u kept.items) up (ranks_rise (length softs) kept.items h.0.ranks)) in
        let literals : with_kept base softs kept.items ≡ base ++ kept_lits made.0 softs
        = ap (with_kept base softs) (sym made.2) ∙ with_kept_is base softs made.0 (omega (arith, made.1)) in
        let met = met_by f Sizes ns k chosen hard soft e encodes truths within reads (valuation_of values.items) h.3.0 made.0 (sym (ap (list_all (lit_value (valuation_of values.items))) literals) ∙ h.3.1) in
        subst (IsFound f cap chosen budget scope) (sym b.1) (record {
          fates = made.0;
          keeps = keeps_items f Sizes ns k chosen hard soft e encodes truths within reads kept.items made.0 h.0 made.1 made.2;
          values = read_of_phase f Sizes ns k (valuation_of values.items);
          fits = met.0;
          meets = met.1;
          sized = b.2 ∙ ap (sizes_read f) (as_phase (valuation_of values.items));
        })
    ended (passed.BaseRefuted log) r h b =
        subst (IsFound f cap chosen budget scope) (sym b) (
          unmet_hard f Sizes ns k chosen hard soft e encodes truths within reads h.0,
          λ alone. (
            refl,
            record {
              encoding = e;
              named = refl;
              encodes = subst (λ (os : List Occurrence). EncodesItems f Sizes ns k (hard ++ os) e) alone encodes;
              assumes = sym (append-nil base);
              refutes = h.1;
            },
          ),
        )
    ended (passed.Spent rank log first) r h b =
        subst (IsFound f cap chosen budget scope) (sym b)
        (record { encodes = encodes; spends = record { none = h.1.none; accepted = h.1.accepted; spent = h.1.spent }; many = h.3 })
