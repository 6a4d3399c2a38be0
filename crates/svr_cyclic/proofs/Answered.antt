-- What an answer of the search says of a value that is tried.
use Rattle.std.proofs.Common.{◌≡◌, ℕ, suc, Bool, false, List, [], ◌∷◌, ◌++◌, map, length, Option, Some, refl, sym, ap, ◌∙◌, subst, arith, append-nil, take_all}
use Rattle.std.specs.List.{list_all, flat_map}
use Rattle.std.proofs.lemmas.Bool.{and_parts}
use Rattle.std.proofs.lemmas.List.{length-map}
use Rattle.std.proofs.lemmas.List.Folds.{list_all-append}
use Rattle.svr_chain.specs.declared.clause.Lit.{Lit}
use Rattle.svr_chain.specs.declared.clause.Cnf.{Cnf}
use Rattle.svr_chain.specs.Views.{RefutationView}
use Rattle.svr_chain.specs.Clauses.{AreWithin, is_tautology}
use Rattle.svr_chain.specs.Settled.{AreSettled}
use Rattle.svr_chain.specs.Valuations.{lit_value}
use Rattle.svr_chain.proofs.Sound.{no_valuation-from_accepted}
use Rattle.svr_query.specs.declared.solver.Answer.{Answer}
use Rattle.svr_query.specs.declared.solver.Answer.TheVariants.{Satisfied, Refuted, Spent}
use Rattle.svr_query.specs.Answer.{SolverView, IsAnswer, IsModel, IsRefutation}
use Rattle.svr_query.specs.Bits.{AreFirst, AreMany}
use Rattle.svr_query.specs.Logged.{valuation_of}
use Rattle.svr_frame.specs.declared.part.Part.TheVariants.{Randc}
use Rattle.svr_frame.specs.Frame.{FrameTerm, frame_term, state_at}
use Rattle.svr_frame.specs.Occurrences.{Occurrence, closed_of}
use Rattle.svr_frame.specs.Phases.{unknowns_of}
use Rattle.svr_frame.specs.Satisfaction.{AreFixed, IsAssignment}
use Rattle.svr_frame.specs.Sound.{IsSound}
use Rattle.svr_vector.specs.Places.{rows}
use Rattle.svr_encoded.specs.declared.encoded.Encoded.{Encoded}
use Rattle.svr_encoded.specs.Slots.{positives, positive_bits, widths_of}
use Rattle.svr_encoded.proofs.BridgeLemmas.{read_of_phase, read_is_assignment}
use Rattle.svr_phase.specs.declared.proof.ProofReason.{ProofReason}
use Rattle.svr_phase.specs.Spent.{EncodesItems, closed_at}
use Rattle.svr_phase.specs.Proof.{fixed_lits, hard_roots}
use Rattle.svr_phase.specs.Ends.{cyclic_props}
use Rattle.svr_phase.proofs.Refutes.{closed_hold, hard_held, none_meets}
use Rattle.svr_phase.proofs.Preferred.{state_sizes_fit}
use Rattle.svr_question.proofs.Kept.{given_back}
use Rattle.svr_question.proofs.Roots.{bits_joined, positives_long, bits_first, bits_within, rising_below}
use Rattle.svr_cyclic.specs.declared.ask.Asking.{Asking}
use Rattle.svr_cyclic.specs.Questions.{hard_items, EncodesCyclic, CanBe, bits_of_phase, HasClausesOf, CanAsk, CanBeFixed, tried_of, IsTried}
use Rattle.svr_cyclic.proofs.Rows.{lits_at, assumed_fit}
use Rattle.svr_cyclic.proofs.Parts.{swapped, part_within, part_apart, answer_swapped}
use Rattle.svr_cyclic.proofs.Spelled.{front_read}

-- ---- roots

same_length : {A B C : Type 0} (f : A → C) (g : B → C) (xs : List A) (ys : List B) → map f xs ≡ map g ys → length xs ≡ length ys
same_length f g [] [] e = refl
same_length f g [] (y ∷ ys) e = absurd (cc)
same_length f g (x ∷ xs) [] e = absurd (cc)
same_length f g (x ∷ xs) (y ∷ ys) e = let rest : map f xs ≡ map g ys = cc in ap (λ (n : ℕ). suc n) (same_length f g xs ys rest)

module _ (f : FrameTerm) (e : Encoded) (encodes : EncodesCyclic f e) where
  -- each root is one of a hard item
  pub all_roots : hard_roots e (hard_items f) ≡ e.roots.items
  all_roots =
      let b = encodes.extends (λ v. false) in
      let long : length e.roots.items ≡ length (hard_items f)
      = same_length (lit_value b.0) _ e.roots.items (closed_at f f.state.sizes (hard_items f)) (encodes.roots b.0 b.2) ∙ length-map (hard_items f) (closed_of (state_at f f.state.sizes)) in
      take_all (length (hard_items f)) e.roots.items (omega (arith, long))

  -- ---- bits

  abbrev pub row : List Lit
  row = flat_map (λ ls. ls) (rows e.bits.items)

  row_is : row ≡ positives 0 (bits_of_phase f)
  row_is = ap (flat_map (λ ls. ls)) encodes.bits ∙ bits_joined 0 (widths_of f 1 (unknowns_of f Randc f.state.sizes))

  row_long : length row ≡ bits_of_phase f
  row_long = ap length row_is ∙ positives_long 0 (bits_of_phase f)

  -- what a solver asks of the bits in a row
  pub row_fits : (ls : List Lit) → ls ≡ row → AreWithin e.cnf.vars ls × AreFirst ls × AreSettled (length ls) e.cnf.vars e.cnf.clauses.items × (length ls ≡ bits_of_phase f)
  row_fits ls is =
      let below = rising_below (bits_of_phase f) e.roots.items e.cnf.vars encodes.apart in
      subst (λ (xs : List Lit). AreWithin e.cnf.vars xs × AreFirst xs × AreSettled (length xs) e.cnf.vars e.cnf.clauses.items × (length xs ≡ bits_of_phase f)) (sym is) (
        subst (AreWithin e.cnf.vars) (sym row_is) (bits_within 0 (bits_of_phase f) e.cnf.vars (omega (arith, below))),
        subst AreFirst (sym row_is) (bits_first (bits_of_phase f)),
        subst (λ (n : ℕ). AreSettled n e.cnf.vars e.cnf.clauses.items) (sym row_long) encodes.settled,
        row_long,
      )

  -- ---- what can be, and what cannot

  alone : EncodesItems f Randc f.state.sizes 1 (hard_items f ++ []) e
  alone = subst (λ (os : List Occurrence). EncodesItems f Randc f.state.sizes 1 os e) (sym (append-nil (hard_items f))) encodes

  module _ (sound : IsSound f) (fixed : List (ℕ × ℕ)) where
    lits_are : fixed_lits e fixed ≡ flat_map (lits_at (unknowns_of f Randc f.state.sizes) (positive_bits 0 (widths_of f 1 (unknowns_of f Randc f.state.sizes)))) fixed
    lits_are = λ i. flat_map (lits_at (encodes.slots i) (encodes.bits i)) fixed

    pub can_be : CanBeFixed f fixed → (values : List Bool) → IsModel e.cnf.clauses.items (fixed_lits e fixed ++ hard_roots e (hard_items f)) values → CanBe f fixed
    can_be can values model =
        let fit = state_sizes_fit f sound in
        let a = read_of_phase f Randc f.state.sizes 1 (valuation_of values) in
        let plain = read_is_assignment f Randc f.state.sizes 1 (omega arith) sound fit (valuation_of values) in
        let parts = and_parts (list_all (lit_value (valuation_of values)) (fixed_lits e fixed)) (list_all (lit_value (valuation_of values)) (hard_roots e (hard_items f)))
        (sym (list_all-append (lit_value (valuation_of values)) (fixed_lits e fixed) (hard_roots e (hard_items f))) ∙ model.1) in
        let has : AreFixed f (read_of_phase f Randc f.state.sizes 1 (valuation_of values)) fixed
        = front_read f (state_at f f.state.sizes) (cyclic_props f) (valuation_of values) fixed can.others can.front can.below (sym (ap (list_all (lit_value (valuation_of values))) lits_are) ∙ parts.0) in
        let is : IsAssignment f Randc f.state.sizes fixed (read_of_phase f Randc f.state.sizes 1 (valuation_of values))
        = record { fits = plain.fits; same_numbers = plain.same_numbers; same_sizes = plain.same_sizes; same_script = plain.same_script; chosen = has } in
        (a, is, sym (closed_hold f Randc f.state.sizes sound fit fixed a is) ∙ hard_held f Randc f.state.sizes 1 (hard_items f) [] e alone (valuation_of values) model.0 parts.1)

    pub cannot_be : (log : RefutationView) → IsRefutation e.cnf.clauses.items (fixed_lits e fixed ++ hard_roots e (hard_items f)) log → CanBe f fixed → ⊥
    cannot_be log h =
        none_meets f Randc f.state.sizes sound (state_sizes_fit f sound) fixed 1 tt [] e alone
        (λ v meets ones. no_valuation-from_accepted e.cnf.clauses.items (fixed_lits e fixed ++ hard_roots e (hard_items f)) log.steps log.goal h.1 h.0 v meets ones)

-- ---- an answer

module _ (f : FrameTerm) (sound : IsSound f) (layout : Encoded) (s : SolverView) (has : HasClausesOf f layout s) (budget : ℕ) (fixed : List (ℕ × ℕ)) (can : CanBeFixed f fixed) where
  abbrev encoding : Encoded
  encoding = record layout { cnf = has.cnf }

  abbrev lits : List Lit
  lits = fixed_lits layout fixed ++ hard_roots layout (hard_items f)

  asked : (ls : List Lit) → ls ≡ fixed_lits layout fixed ++ layout.roots.items → ls ≡ lits
  asked ls is = is ∙ ap (λ (xs : List Lit). fixed_lits layout fixed ++ xs) (sym (all_roots f encoding has.encodes))

  asked_fit : (ls : List Lit) → ls ≡ fixed_lits layout fixed ++ layout.roots.items → AreWithin s.vars ls × (is_tautology ls ≡ false)
  asked_fit ls is =
      let two = assumed_fit f encoding has.encodes fixed can ls is in
      (subst (λ (n : ℕ). AreWithin n ls) (sym has.vars) two.0, two.1)

  tried_with : (cause : ProofReason) (answer : Answer) → IsAnswer s lits budget answer → IsTried (record { frame = f; layout = layout; clauses = s.clauses; budget = budget }) fixed cause (tried_of answer lits cause)
  tried_with cause (Satisfied values) h = can_be f encoding has.encodes sound fixed can values.items (subst (λ (ks : List (List Lit)). IsModel ks lits values.items) has.clauses h.1)
  tried_with cause (Refuted log) h =
      (cannot_be f encoding has.encodes sound fixed log (subst (λ (ks : List (List Lit)). IsRefutation ks lits log) has.clauses h), record { place = refl; reason = refl; assumes = refl; refutes = h })
  tried_with cause (Spent log first) h = record {
    spends = record { none = h.0.none; accepted = h.0.accepted; spent = h.0.spent };
    many = subst (λ (b : Option ℕ). AreMany b budget) has.bits h.3;
  }

  tried : (cause : ProofReason) (ls : List Lit) → ls ≡ fixed_lits layout fixed ++ layout.roots.items → (answer : Answer) → IsAnswer s ls budget answer
      → IsTried (record { frame = f; layout = layout; clauses = s.clauses; budget = budget }) fixed cause (tried_of answer ls cause)
  tried cause ls is answer h =
      let same = asked ls is in
      subst (λ (xs : List Lit). IsTried (record { frame = f; layout = layout; clauses = s.clauses; budget = budget }) fixed cause (tried_of answer xs cause)) (sym same)
      (tried_with cause answer (subst (λ (xs : List Lit). IsAnswer s xs budget answer) same h))

  -- ---- with the roots in front

  pub front_fit : (ls : List Lit) → ls ≡ layout.roots.items ++ fixed_lits layout fixed → AreWithin s.vars ls × (is_tautology ls ≡ false)
  front_fit ls is =
      let two = asked_fit (fixed_lits layout fixed ++ layout.roots.items) refl in
      let p = swapped layout.roots.items (fixed_lits layout fixed) in
      subst (λ (xs : List Lit). AreWithin s.vars xs × (is_tautology xs ≡ false)) (sym is) (
        part_within s.vars (layout.roots.items ++ fixed_lits layout fixed) (fixed_lits layout fixed ++ layout.roots.items) p two.0,
        part_apart (layout.roots.items ++ fixed_lits layout fixed) (fixed_lits layout fixed ++ layout.roots.items) p two.1,
      )

  pub tried_front : (cause : ProofReason) (ls : List Lit) → ls ≡ layout.roots.items ++ fixed_lits layout fixed → (answer : Answer) → IsAnswer s ls budget answer
      → IsTried (record { frame = f; layout = layout; clauses = s.clauses; budget = budget }) fixed cause (tried_of answer (fixed_lits layout fixed ++ layout.roots.items) cause)
  tried_front cause ls is answer h =
      tried cause (fixed_lits layout fixed ++ layout.roots.items) refl answer
      (answer_swapped s layout.roots.items (fixed_lits layout fixed) budget answer (subst (λ (xs : List Lit). IsAnswer s xs budget answer) is h))

-- ---- a solver that has made more steps

pub still_has : (f : FrameTerm) (layout : Encoded) (s t : SolverView) → t.vars ≡ s.vars → t.clauses ≡ s.clauses → t.bits ≡ s.bits → HasClausesOf f layout s → HasClausesOf f layout t
still_has f layout s t vars clauses bits h = record { cnf = h.cnf; vars = vars ∙ h.vars; clauses = clauses ∙ h.clauses; bits = bits ∙ h.bits; encodes = h.encodes }

pub can_still : (a : Asking) (s t : SolverView) → t.vars ≡ s.vars → t.clauses ≡ s.clauses → t.bits ≡ s.bits → CanAsk a s → CanAsk a t
can_still a s t vars clauses bits h = record { sound = h.sound; has = still_has (frame_term a.frame.now) a.layout.now s t vars clauses bits h.has; shared = h.shared; wishes = h.wishes ∙ sym vars; some = h.some }

-- the clauses are given back
pub given_whole : (f : FrameTerm) (layout : Encoded) (s : SolverView) (has : HasClausesOf f layout s) (cnf : Cnf) → cnf.vars ≡ s.vars → cnf.clauses.items ≡ s.clauses → EncodesCyclic f (record layout { cnf = cnf })
given_whole f layout s has cnf vars clauses =
    given_back (state_at f f.state.sizes) (unknowns_of f Randc f.state.sizes) (widths_of f 1 (unknowns_of f Randc f.state.sizes)) (closed_at f f.state.sizes (hard_items f)) (record layout { cnf = has.cnf }) cnf
    (vars ∙ has.vars) (clauses ∙ has.clauses) has.encodes

-- and before they were taken out
pub taken_out : (f : FrameTerm) (layout : Encoded) (cnf : Cnf) → EncodesCyclic f (record layout { cnf = cnf }) → (bits : ℕ) → bits ≡ bits_of_phase f → (s : SolverView) → s.vars ≡ cnf.vars → s.clauses ≡ cnf.clauses.items → s.bits ≡ Some bits → HasClausesOf f layout s
taken_out f layout cnf encodes bits count s vars clauses known = record { cnf = cnf; vars = vars; clauses = clauses; bits = known ∙ ap (λ (n : ℕ). Some n) count; encodes = encodes }
