-- From literals to items: what a valuation that makes the roots of the hard items and of some soft ones true reads as meets these items, and where there is none, no assignment does.
use Rattle.std.proofs.Common.{◌≡◌, ◌<◌, ◌+◌, ℕ, Bool, true, false, ◌&&◌, List, [], ◌∷◌, ◌++◌, map, length, take, drop, get_or, refl, sym, ap, ◌∙◌, subst, arith, append-nil}
use Rattle.std.specs.List.{list_all, flat_map}
use Rattle.std.proofs.lemmas.Bool.{and_parts, and_from}
use Rattle.std.proofs.lemmas.List.{take-map, drop-map, take_at, drop_at, take_all, length-append, length-drop}
use Rattle.std.proofs.lemmas.List.Folds.{list_all-append}
use Rattle.svr_chain.specs.declared.clause.Lit.{Lit}
use Rattle.svr_chain.specs.Lists.{is_among}
use Rattle.svr_chain.specs.Valuations.{lit_value, Meets, HaveNoValuation}
use Rattle.svr_typed.specs.ExprTerm.{ExprTerm}
use Rattle.svr_eval.specs.Reading.{Reading}
use Rattle.svr_frame.specs.declared.part.Part.{Part}
use Rattle.svr_frame.specs.declared.slot.Slot.{Slot}
use Rattle.svr_frame.specs.Frame.{FrameTerm, state_at}
use Rattle.svr_frame.specs.Occurrences.{Occurrence, is_true, all_true, closed_of}
use Rattle.svr_frame.specs.Phases.{unknowns_of}
use Rattle.svr_frame.specs.Satisfaction.{is_at, IsAssignment, Sat, Keeps, kept_of, kept_ranks}
use Rattle.svr_vector.specs.Places.{rows}
use Rattle.svr_encoded.specs.declared.encoded.Encoded.{Encoded}
use Rattle.svr_encoded.specs.Slots.{bits_where, positive_bits, widths_of}
use Rattle.svr_encoded.specs.Encodes.{holds}
use Rattle.svr_encoded.specs.Fits.{FitsIn}
use Rattle.svr_encoded.proofs.Reached.{reached}
use Rattle.svr_encoded.proofs.BridgeLemmas.{read_of_phase}
use Rattle.svr_phase.specs.Spent.{closed_at, EncodesItems}
use Rattle.svr_phase.specs.Proof.{spelling_at, fixed_lits, hard_roots, soft_roots, kept_lits}
use Rattle.svr_phase.proofs.Refutes.{all_spelled}
use Rattle.svr_soft.specs.Kept.{HaveValuation, assumed_at, IsKept}
use Rattle.svr_question.proofs.Bridge.{none_kept, roots_long}
use Rattle.svr_question.proofs.Ranks.{fate_is, assumed_next}
use Rattle.svr_question.proofs.Fated.{fated}

-- ---- lists with the same truths

heads : {a b : Bool} {xs ys : List Bool} → a ∷ xs ≡ b ∷ ys → a ≡ b
heads e = cc

tails : {a b : Bool} {xs ys : List Bool} → a ∷ xs ≡ b ∷ ys → xs ≡ ys
tails e = cc

same_all : (g : Lit → Bool) (h : Occurrence → Bool) (ls : List Lit) (os : List Occurrence) → map g ls ≡ map h os → list_all g ls ≡ list_all h os
same_all g h [] [] same = refl
same_all g h [] (o ∷ os) same = cc
same_all g h (l ∷ ls) [] same = cc
same_all g h (l ∷ ls) (o ∷ os) same = λ i. heads same i && same_all g h ls os (tails same) i

same_kept : (g : Lit → Bool) (h : Occurrence → Bool) (fates : List Bool) (ls : List Lit) (os : List Occurrence) → map g ls ≡ map h os → list_all g (kept_lits fates ls) ≡ list_all h (kept_of os fates)
same_kept g h [] ls [] same = refl
same_kept g h [] ls (o ∷ os) same = refl
same_kept g h (b ∷ fates) [] [] same = refl
same_kept g h (b ∷ fates) [] (o ∷ os) same = cc
same_kept g h (b ∷ fates) (l ∷ ls) [] same = cc
same_kept g h (true ∷ fates) (l ∷ ls) (o ∷ os) same = λ i. heads same i && same_kept g h fates ls os (tails same) i
same_kept g h (false ∷ fates) (l ∷ ls) (o ∷ os) same = same_kept g h fates ls os (tails same)

map_closed : (g : ExprTerm → Bool) (state : Reading) (os : List Occurrence) → map g (map (closed_of state) os) ≡ map (λ (o : Occurrence). g (closed_of state o)) os
map_closed g state [] = refl
map_closed g state (o ∷ os) = λ i. g (closed_of state o) ∷ map_closed g state os i

-- ---- clauses that encode hard items, and behind them soft ones

-- The closed expressions have the truths of the items; an assignment that meets the hard items is within the bits; and what the bits read as is one, where the fixed values and the roots of the hard items are true.
module _ (f : FrameTerm) (part : Part) (sizes : List ℕ) (k : ℕ) (fixed : List (ℕ × ℕ)) (hard soft : List Occurrence) (e : Encoded) (encodes : EncodesItems f part sizes k (hard ++ soft) e)
    (truths : (a : Reading) → IsAssignment f part sizes fixed a → map (λ o. holds a (closed_of (state_at f sizes) o)) (hard ++ soft) ≡ map (is_true a) (hard ++ soft))
    (within : (a : Reading) → IsAssignment f part sizes fixed a → all_true a hard ≡ true → FitsIn (state_at f sizes) (unknowns_of f part sizes) (widths_of f k (unknowns_of f part sizes)) a)
    (reads : (v : ℕ → Bool) → Meets v e.cnf.clauses.items → list_all (lit_value v) (fixed_lits e fixed ++ hard_roots e hard) ≡ true → IsAssignment f part sizes fixed (read_of_phase f part sizes k v)) where
  abbrev widths : List ℕ
  widths = widths_of f k (unknowns_of f part sizes)

  abbrev pub base : List Lit
  base = fixed_lits e fixed ++ hard_roots e hard

  abbrev pub softs : List Lit
  softs = soft_roots e hard

  -- the roots tell the items under what the bits read as
  truths_are : (v : ℕ → Bool) → Meets v e.cnf.clauses.items → (a : Reading) → read_of_phase f part sizes k v ≡ a → IsAssignment f part sizes fixed a → map (lit_value v) e.roots.items ≡ map (is_true a) (hard ++ soft)
  truths_are v meets a same is =
      encodes.roots v meets
      ∙ ap (λ (r : Reading). map (λ x. holds r x) (closed_at f sizes (hard ++ soft))) same
      ∙ map_closed (holds a) (state_at f sizes) (hard ++ soft)
      ∙ truths a is

  module _ (v : ℕ → Bool) (a : Reading) (same : map (lit_value v) e.roots.items ≡ map (is_true a) (hard ++ soft)) where
    hard_told : list_all (lit_value v) (hard_roots e hard) ≡ all_true a hard
    hard_told =
        same_all (lit_value v) (is_true a) (hard_roots e hard) hard
        (sym (take-map (lit_value v) (length hard) e.roots.items)
        ∙ ap (take (length hard)) same
        ∙ take-map (is_true a) (length hard) (hard ++ soft)
        ∙ ap (map (is_true a)) (take_at hard soft (length hard) refl))

    soft_told : (fates : List Bool) → list_all (lit_value v) (kept_lits fates softs) ≡ all_true a (kept_of soft fates)
    soft_told fates =
        same_kept (lit_value v) (is_true a) fates softs soft
        (sym (drop-map (lit_value v) (length hard) e.roots.items)
        ∙ ap (drop (length hard)) same
        ∙ drop-map (is_true a) (length hard) (hard ++ soft)
        ∙ ap (map (is_true a)) (drop_at hard soft (length hard) refl))

  -- such a valuation reads as an assignment that has the values and meets these items
  pub met_by : (v : ℕ → Bool) → Meets v e.cnf.clauses.items → (fates : List Bool) → list_all (lit_value v) (base ++ kept_lits fates softs) ≡ true
      → IsAssignment f part sizes fixed (read_of_phase f part sizes k v) × (all_true (read_of_phase f part sizes k v) (hard ++ kept_of soft fates) ≡ true)
  met_by v meets fates all =
      let a = read_of_phase f part sizes k v in
      let outer = and_parts (list_all (lit_value v) base) (list_all (lit_value v) (kept_lits fates softs)) (sym (list_all-append (lit_value v) base (kept_lits fates softs)) ∙ all) in
      let inner = and_parts (list_all (lit_value v) (fixed_lits e fixed)) (list_all (lit_value v) (hard_roots e hard)) (sym (list_all-append (lit_value v) (fixed_lits e fixed) (hard_roots e hard)) ∙ outer.0) in
      let is = reads v meets outer.0 in
      let same = truths_are v meets a refl is in (
        is,
        list_all-append (is_true a) hard (kept_of soft fates) ∙ and_from (all_true a hard) (all_true a (kept_of soft fates)) (sym (hard_told v a same) ∙ inner.1) (sym (soft_told v a same fates) ∙ outer.1),
      )

  -- where there is none, no assignment with the values meets these items
  pub unmet_by : (fates : List Bool) → HaveNoValuation e.cnf.clauses.items (base ++ kept_lits fates softs) → Sat f part sizes fixed (hard ++ kept_of soft fates) → ⊥
  unmet_by fates none sat =
      let a = sat.0 in
      let slots = unknowns_of f part sizes in
      let parts = and_parts (all_true a hard) (all_true a (kept_of soft fates)) (sym (list_all-append (is_true a) hard (kept_of soft fates)) ∙ sat.2) in
      let b = reached (state_at f sizes) slots widths (closed_at f sizes (hard ++ soft)) e a encodes (within a sat.1 parts.0) in
      let same = truths_are b.0 b.1 a b.2 sat.1 in
      let spelled : list_all (lit_value b.0) (fixed_lits e fixed) ≡ true
      = subst (λ (xs : List Slot). list_all (lit_value b.0) (flat_map (λ (c : ℕ × ℕ). spelling_at (bits_where (is_at c.0 0) xs (rows e.bits.items)) c.1) fixed) ≡ true) (sym encodes.slots)
      (subst (λ (xs : List (List Lit)). list_all (lit_value b.0) (flat_map (λ (c : ℕ × ℕ). spelling_at (bits_where (is_at c.0 0) slots xs) c.1) fixed) ≡ true) (sym encodes.bits)
      (all_spelled (state_at f sizes) a slots (positive_bits 0 widths) b.0 f fixed b.2 sat.1.chosen)) in
      let first : list_all (lit_value b.0) base ≡ true
      = list_all-append (lit_value b.0) (fixed_lits e fixed) (hard_roots e hard)
      ∙ and_from (list_all (lit_value b.0) (fixed_lits e fixed)) (list_all (lit_value b.0) (hard_roots e hard)) spelled (hard_told b.0 a same ∙ parts.0) in
      none b.0 b.1
      (list_all-append (lit_value b.0) base (kept_lits fates softs)
      ∙ and_from (list_all (lit_value b.0) base) (list_all (lit_value b.0) (kept_lits fates softs)) first (soft_told b.0 a same fates ∙ parts.1))

  -- the hard items alone
  pub unmet_hard : HaveNoValuation e.cnf.clauses.items base → Sat f part sizes fixed hard → ⊥
  unmet_hard none sat =
      unmet_by [] (subst (HaveNoValuation e.cnf.clauses.items) (sym (append-nil base)) none)
      (subst (Sat f part sizes fixed) (sym (ap (λ (os : List Occurrence). hard ++ os) (none_kept soft) ∙ append-nil hard)) sat)

  -- one root for each soft item
  pub softs_long : length softs ≡ length soft
  softs_long = omega (arith, length-drop (length hard) e.roots.items, roots_long f part sizes k (hard ++ soft) e encodes, length-append hard soft)

  -- the fates of the soft items, by what the pass keeps
  pub keeps_items : (kept : List ℕ) (fates : List Bool) → IsKept e.cnf.clauses.items base softs (length softs) kept → length fates ≡ length softs → kept_ranks 1 fates ≡ kept → Keeps (Sat f part sizes fixed) hard soft fates
  keeps_items kept fates is long ranks =
      subst (λ (os : List Occurrence). Keeps (Sat f part sizes fixed) hard os fates) (take_all (length fates) soft (omega (arith, long, softs_long)))
      (fated (Sat f part sizes fixed) hard soft fates hold fail (omega (arith, long, softs_long)))
    where
      among : (i : ℕ) → i < length fates → is_among (i + 1) kept ≡ get_or fates i false
      among i lt =
          let up : i + 1 ≡ 1 + i = omega arith in
          ap (λ (r : ℕ). is_among r kept) up ∙ ap (is_among (1 + i)) (sym ranks) ∙ fate_is 1 fates i lt

      next : (i : ℕ) → i < length fates → assumed_at base softs kept (i + 1) ≡ base ++ kept_lits (take i fates ++ true ∷ []) softs
      next i lt = ap (λ (xs : List ℕ). assumed_at base softs xs (i + 1)) (sym ranks) ∙ assumed_next base softs fates i lt (omega (arith, long))

      hold : (i : ℕ) → i < length fates → get_or fates i false ≡ true → Sat f part sizes fixed (hard ++ kept_of soft (take i fates ++ true ∷ []))
      hold i lt t =
          let v : HaveValuation e.cnf.clauses.items (base ++ kept_lits (take i fates ++ true ∷ []) softs)
          = subst (HaveValuation e.cnf.clauses.items) (next i lt) (is.stands (i + 1) (omega arith) (omega (arith, lt, long)) (among i lt ∙ t)) in
          let met = met_by v.0 v.1 (take i fates ++ true ∷ []) v.2 in
          (read_of_phase f part sizes k v.0, met.0, met.1)

      fail : (i : ℕ) → i < length fates → get_or fates i false ≡ false → Sat f part sizes fixed (hard ++ kept_of soft (take i fates ++ true ∷ [])) → ⊥
      fail i lt t = unmet_by (take i fates ++ true ∷ []) (subst (HaveNoValuation e.cnf.clauses.items) (next i lt) (is.falls (i + 1) (omega arith) (omega (arith, lt, long)) (among i lt ∙ t)))
