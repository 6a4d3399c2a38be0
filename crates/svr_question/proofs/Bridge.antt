-- From literals to items: what a valuation that makes the roots of the hard items and of some soft ones true reads as meets these items, and where there is none, no assignment does.
use Rattle.std.proofs.Common.{◌≡◌, ◌≤◌, ℕ, Bool, true, false, ◌&&◌, List, [], ◌∷◌, ◌++◌, map, length, take, drop, refl, sym, ap, ◌∙◌, subst}
use Rattle.std.specs.List.{All, list_all, flat_map}
use Rattle.std.proofs.lemmas.Bool.{and_parts, and_from}
use Rattle.std.proofs.lemmas.List.{map-append, take-map, drop-map, take_at, drop_at, length-map}
use Rattle.std.proofs.lemmas.List.Folds.{list_all-append}
use Rattle.svr_chain.specs.declared.clause.Lit.{Lit}
use Rattle.svr_chain.specs.Valuations.{lit_value, Meets, HaveNoValuation}
use Rattle.svr_typed.specs.ExprTerm.{ExprTerm}
use Rattle.svr_eval.specs.Reading.{Reading}
use Rattle.svr_frame.specs.declared.part.Part.{Part}
use Rattle.svr_frame.specs.declared.slot.Slot.{Slot}
use Rattle.svr_frame.specs.Frame.{FrameTerm, state_at}
use Rattle.svr_frame.specs.Occurrences.{Occurrence, is_true, all_true, closed_of}
use Rattle.svr_frame.specs.Phases.{unknowns_of, hard_of, live_of}
use Rattle.svr_frame.specs.Satisfaction.{is_at, IsAssignment, Sat, kept_of}
use Rattle.svr_frame.specs.Sound.{IsSound, SizesFit}
use Rattle.svr_frame_laws.proofs.Expressions.{hard_truths, live_truths}
use Rattle.svr_vector.specs.Places.{rows}
use Rattle.svr_encoded.specs.declared.encoded.Encoded.{Encoded}
use Rattle.svr_encoded.specs.Slots.{bits_where, positive_bits, widths_of}
use Rattle.svr_encoded.specs.Encodes.{holds}
use Rattle.svr_encoded.proofs.Reached.{reached}
use Rattle.svr_encoded.proofs.BridgeLemmas.{read_of_phase}
use Rattle.svr_phase.specs.Ends.{cyclic_props}
use Rattle.svr_phase.specs.Spent.{closed_at, EncodesItems}
use Rattle.svr_phase.specs.Proof.{spelling_at, fixed_lits, hard_roots, soft_roots, kept_lits, SizesAreWhole}
use Rattle.svr_phase.proofs.Fitting.{fits_in}
use Rattle.svr_phase.proofs.Refutes.{all_spelled}
use Rattle.svr_question.proofs.Chosen.{props_in, IsMember, read_with_chosen}

-- ---- lists with the same truths

heads : {a b : Bool} {xs ys : List Bool} → a ∷ xs ≡ b ∷ ys → a ≡ b
heads e = cc

tails : {a b : Bool} {xs ys : List Bool} → a ∷ xs ≡ b ∷ ys → xs ≡ ys
tails e = cc

same_all : (g : Lit → Bool) (h : Occurrence → Bool) (ls : List Lit) (os : List Occurrence) → map g ls ≡ map h os → list_all g ls ≡ list_all h os
same_all g h [] [] same = refl
same_all g h [] (o ∷ os) same = cc
same_all g h (l ∷ ls) [] same = cc
same_all g h (l ∷ ls) (o ∷ os) same = λ i. heads same i && same_all g h ls os (tails same) i

same_kept : (g : Lit → Bool) (h : Occurrence → Bool) (fates : List Bool) (ls : List Lit) (os : List Occurrence) → map g ls ≡ map h os → list_all g (kept_lits fates ls) ≡ list_all h (kept_of os fates)
same_kept g h [] ls [] same = refl
same_kept g h [] ls (o ∷ os) same = refl
same_kept g h (b ∷ fates) [] [] same = refl
same_kept g h (b ∷ fates) [] (o ∷ os) same = cc
same_kept g h (b ∷ fates) (l ∷ ls) [] same = cc
same_kept g h (true ∷ fates) (l ∷ ls) (o ∷ os) same = λ i. heads same i && same_kept g h fates ls os (tails same) i
same_kept g h (false ∷ fates) (l ∷ ls) (o ∷ os) same = same_kept g h fates ls os (tails same)

map_closed : (g : ExprTerm → Bool) (state : Reading) (os : List Occurrence) → map g (map (closed_of state) os) ≡ map (λ (o : Occurrence). g (closed_of state o)) os
map_closed g state [] = refl
map_closed g state (o ∷ os) = λ i. g (closed_of state o) ∷ map_closed g state os i

pub none_kept : (os : List Occurrence) → kept_of os [] ≡ []
none_kept [] = refl
none_kept (o ∷ os) = refl

-- ---- clauses that encode the hard items of a phase and behind them the live soft ones, and values of its first cyclic properties

module _ (f : FrameTerm) (part : Part) (sizes : List ℕ) (k : ℕ) (whole : SizesAreWhole part k) (high : k ≤ 31) (sound : IsSound f) (fit : SizesFit f sizes) (e : Encoded) (encodes : EncodesItems f part sizes k (hard_of f part sizes ++ live_of f part sizes) e)
    (fixed : List (ℕ × ℕ)) (later : List ℕ) (order : props_in fixed ++ later ≡ cyclic_props f) (members : All (IsMember f) fixed) where
  abbrev hard : List Occurrence
  hard = hard_of f part sizes

  abbrev live : List Occurrence
  live = live_of f part sizes

  abbrev widths : List ℕ
  widths = widths_of f k (unknowns_of f part sizes)

  -- the literals that are assumed where these soft items are kept
  abbrev pub assumed_with : List Bool → List Lit
  assumed_with fates = (fixed_lits e fixed ++ hard_roots e hard) ++ kept_lits fates (soft_roots e hard)

  -- the roots tell the items under what the bits read as
  truths_are : (v : ℕ → Bool) → Meets v e.cnf.clauses.items → (a : Reading) → read_of_phase f part sizes k v ≡ a → IsAssignment f part sizes fixed a → map (lit_value v) e.roots.items ≡ map (is_true a) (hard ++ live)
  truths_are v meets a reads is =
      encodes.roots v meets
      ∙ ap (λ (r : Reading). map (λ x. holds r x) (closed_at f sizes (hard ++ live))) reads
      ∙ map_closed (holds a) (state_at f sizes) (hard ++ live)
      ∙ map-append (λ (o : Occurrence). holds a (closed_of (state_at f sizes) o)) hard live
      ∙ (λ i. hard_truths f sizes sound fit part fixed a is i ++ live_truths f sizes sound fit part fixed a is i)
      ∙ sym (map-append (is_true a) hard live)

  module _ (v : ℕ → Bool) (a : Reading) (same : map (lit_value v) e.roots.items ≡ map (is_true a) (hard ++ live)) where
    hard_told : list_all (lit_value v) (hard_roots e hard) ≡ all_true a hard
    hard_told =
        same_all (lit_value v) (is_true a) (hard_roots e hard) hard
        (sym (take-map (lit_value v) (length hard) e.roots.items)
        ∙ ap (take (length hard)) same
        ∙ take-map (is_true a) (length hard) (hard ++ live)
        ∙ ap (map (is_true a)) (take_at hard live (length hard) refl))

    soft_told : (fates : List Bool) → list_all (lit_value v) (kept_lits fates (soft_roots e hard)) ≡ all_true a (kept_of live fates)
    soft_told fates =
        same_kept (lit_value v) (is_true a) fates (soft_roots e hard) live
        (sym (drop-map (lit_value v) (length hard) e.roots.items)
        ∙ ap (drop (length hard)) same
        ∙ drop-map (is_true a) (length hard) (hard ++ live)
        ∙ ap (map (is_true a)) (drop_at hard live (length hard) refl))

  -- such a valuation reads as an assignment that has the values and meets these items
  pub met_by : (v : ℕ → Bool) → Meets v e.cnf.clauses.items → (fates : List Bool) → list_all (lit_value v) (assumed_with fates) ≡ true → Sat f part sizes fixed (hard ++ kept_of live fates)
  met_by v meets fates all =
      let a = read_of_phase f part sizes k v in
      let outer = and_parts (list_all (lit_value v) (fixed_lits e fixed ++ hard_roots e hard)) (list_all (lit_value v) (kept_lits fates (soft_roots e hard)))
      (sym (list_all-append (lit_value v) (fixed_lits e fixed ++ hard_roots e hard) (kept_lits fates (soft_roots e hard))) ∙ all) in
      let inner = and_parts (list_all (lit_value v) (fixed_lits e fixed)) (list_all (lit_value v) (hard_roots e hard)) (sym (list_all-append (lit_value v) (fixed_lits e fixed) (hard_roots e hard)) ∙ outer.0) in
      let is : IsAssignment f part sizes fixed a = read_with_chosen f part sizes k (closed_at f sizes (hard ++ live)) e encodes fixed later order high sound fit members v inner.0 in
      let same = truths_are v meets a refl is in (
        a,
        is,
        list_all-append (is_true a) hard (kept_of live fates) ∙ and_from (all_true a hard) (all_true a (kept_of live fates)) (sym (hard_told v a same) ∙ inner.1) (sym (soft_told v a same fates) ∙ outer.1),
      )

  -- where there is none, no assignment with the values meets these items
  pub unmet_by : (fates : List Bool) → HaveNoValuation e.cnf.clauses.items (assumed_with fates) → Sat f part sizes fixed (hard ++ kept_of live fates) → ⊥
  unmet_by fates none sat =
      let a = sat.0 in
      let slots = unknowns_of f part sizes in
      let b = reached (state_at f sizes) slots widths (closed_at f sizes (hard ++ live)) e a encodes (fits_in f part sizes k whole fixed a sat.1) in
      let same = truths_are b.0 b.1 a b.2 sat.1 in
      let spelled : list_all (lit_value b.0) (fixed_lits e fixed) ≡ true
      = subst (λ (xs : List Slot). list_all (lit_value b.0) (flat_map (λ (c : ℕ × ℕ). spelling_at (bits_where (is_at c.0 0) xs (rows e.bits.items)) c.1) fixed) ≡ true) (sym encodes.slots)
      (subst (λ (xs : List (List Lit)). list_all (lit_value b.0) (flat_map (λ (c : ℕ × ℕ). spelling_at (bits_where (is_at c.0 0) slots xs) c.1) fixed) ≡ true) (sym encodes.bits)
      (all_spelled (state_at f sizes) a slots (positive_bits 0 widths) b.0 f fixed b.2 sat.1.chosen)) in
      let parts = and_parts (all_true a hard) (all_true a (kept_of live fates)) (sym (list_all-append (is_true a) hard (kept_of live fates)) ∙ sat.2) in
      let base : list_all (lit_value b.0) (fixed_lits e fixed ++ hard_roots e hard) ≡ true
      = list_all-append (lit_value b.0) (fixed_lits e fixed) (hard_roots e hard)
      ∙ and_from (list_all (lit_value b.0) (fixed_lits e fixed)) (list_all (lit_value b.0) (hard_roots e hard)) spelled (hard_told b.0 a same ∙ parts.0) in
      none b.0 b.1
      (list_all-append (lit_value b.0) (fixed_lits e fixed ++ hard_roots e hard) (kept_lits fates (soft_roots e hard))
      ∙ and_from (list_all (lit_value b.0) (fixed_lits e fixed ++ hard_roots e hard)) (list_all (lit_value b.0) (kept_lits fates (soft_roots e hard))) base (soft_told b.0 a same fates ∙ parts.1))

-- there is a root for each item
pub roots_long : (f : FrameTerm) (part : Part) (sizes : List ℕ) (k : ℕ) (os : List Occurrence) (e : Encoded) → EncodesItems f part sizes k os e → length e.roots.items ≡ length os
roots_long f part sizes k os e encodes =
    let b = encodes.extends (λ n. false) in
    let v = b.0 in
    sym (length-map e.roots.items (lit_value v))
    ∙ ap length (encodes.roots v b.2)
    ∙ length-map (closed_at f sizes os) (λ x. holds (read_of_phase f part sizes k v) x)
    ∙ length-map os (closed_of (state_at f sizes))
