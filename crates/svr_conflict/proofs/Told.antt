-- From literals to items: what the roots of items can be is what the items can be.
use Rattle.std.proofs.Common.{◌≡◌, ◌≤◌, ℕ, zero, suc, Bool, true, false, ◌&&◌, List, [], ◌∷◌, ◌++◌, map, length, take, drop, refl, sym, ap, ◌∙◌, subst, arith, append-nil, append_assoc}
use Rattle.std.specs.Prelude.{⊤}
use Rattle.std.specs.List.{list_all, flat_map}
use Rattle.std.proofs.lemmas.Bool.{and_parts, and_from}
use Rattle.std.proofs.lemmas.List.{map-append, take-map, drop-map, take_at, drop_at}
use Rattle.std.proofs.lemmas.List.Folds.{list_all-append}
use Rattle.svr_chain.specs.declared.clause.Lit.{Lit}
use Rattle.svr_chain.specs.Valuations.{lit_value, Meets}
use Rattle.svr_typed.specs.ExprTerm.{ExprTerm}
use Rattle.svr_eval.specs.Reading.{Reading}
use Rattle.svr_frame.specs.declared.part.Part.TheVariants.{All as Whole}
use Rattle.svr_frame.specs.declared.slot.Slot.{Slot}
use Rattle.svr_frame.specs.Frame.{FrameTerm, state_at}
use Rattle.svr_frame.specs.Occurrences.{Occurrence, is_true, all_true, closed_of}
use Rattle.svr_frame.specs.Phases.{unknowns_of, domain_items, asked_of, hard_of, live_of}
use Rattle.svr_frame.specs.Satisfaction.{is_at, IsAssignment, Sat}
use Rattle.svr_frame.specs.Sound.{IsSound, SizesFit}
use Rattle.svr_frame_laws.proofs.Expressions.{hard_truths, live_truths}
use Rattle.svr_vector.specs.Places.{rows}
use Rattle.svr_encoded.specs.declared.encoded.Encoded.{Encoded}
use Rattle.svr_encoded.specs.Slots.{bits_where, positive_bits, widths_of, reading_at}
use Rattle.svr_encoded.specs.Encodes.{holds}
use Rattle.svr_encoded.proofs.Reached.{reached}
use Rattle.svr_encoded.proofs.BridgeLemmas.{read_of_phase}
use Rattle.svr_phase.specs.Chosen.{AreCyclicValues}
use Rattle.svr_phase.specs.Spent.{closed_at}
use Rattle.svr_phase.specs.Proof.{spelling_at, fixed_lits}
use Rattle.svr_phase.proofs.Fitting.{fits_in}
use Rattle.svr_phase.proofs.Refutes.{all_spelled}
use Rattle.svr_soft.specs.Kept.{HaveValuation}
use Rattle.svr_question.specs.Ends.{EncodesCall}
use Rattle.svr_question.proofs.Chosen.{all_in_order, all_members, read_with_chosen}
use Rattle.svr_counts.specs.Hard.{hard_by_item, joined, counts_of}
use Rattle.svr_counts.proofs.Counted.{asked_joined}
use Rattle.svr_core.specs.Groups.{group_at, lits_of, lits_at, asked}
use Rattle.svr_core.specs.Cores.{CanHold}
use Rattle.svr_conflict.specs.Cut.{cut_by}
use Rattle.svr_conflict.specs.Conflicts.{item_at, items_at, CanBeMet, domain_roots, item_roots, base_lits}

-- ---- lists with the same truths

heads : {a b : Bool} {xs ys : List Bool} → a ∷ xs ≡ b ∷ ys → a ≡ b
heads e = cc

tails : {a b : Bool} {xs ys : List Bool} → a ∷ xs ≡ b ∷ ys → xs ≡ ys
tails e = cc

map_closed : (g : ExprTerm → Bool) (state : Reading) (os : List Occurrence) → map g (map (closed_of state) os) ≡ map (λ (o : Occurrence). g (closed_of state o)) os
map_closed g state [] = refl
map_closed g state (o ∷ os) = λ i. g (closed_of state o) ∷ map_closed g state os i

module _ (g : Lit → Bool) (h : Occurrence → Bool) where
  same_all : (ls : List Lit) (os : List Occurrence) → map g ls ≡ map h os → list_all g ls ≡ list_all h os
  same_all [] [] same = refl
  same_all [] (o ∷ os) same = cc
  same_all (l ∷ ls) [] same = cc
  same_all (l ∷ ls) (o ∷ os) same = λ i. heads same i && same_all ls os (tails same) i

  -- ---- each group tells the occurrences at its place

  abbrev pub TellGroups : List (List Lit) → List (List Occurrence) → Type 0
  TellGroups [] [] = ⊤
  TellGroups [] (os ∷ all) = ⊥
  TellGroups (ls ∷ groups) [] = ⊥
  TellGroups (ls ∷ groups) (os ∷ all) = (map g ls ≡ map h os) × TellGroups groups all

  -- where a row of literals tells a row of occurrences, so do its parts
  cut_told : (all : List (List Occurrence)) (rest : List Occurrence) (ls : List Lit) → map g ls ≡ map h (joined all ++ rest) → TellGroups (cut_by (counts_of all) ls) all
  cut_told [] rest ls same = tt
  cut_told (os ∷ all) rest ls same =
      let n = length os in
      let more : List Occurrence = joined all ++ rest in
      let here : map g ls ≡ map h (os ++ more) = same ∙ ap (map h) (append_assoc os (joined all) rest) in (
        sym (take-map g n ls) ∙ ap (take n) here ∙ take-map h n (os ++ more) ∙ ap (map h) (take_at os more n refl),
        cut_told all rest (drop n ls) (sym (drop-map g n ls) ∙ ap (drop n) here ∙ drop-map h n (os ++ more) ∙ ap (map h) (drop_at os more n refl)),
      )

  taken_told : (groups : List (List Lit)) (all : List (List Occurrence)) (p : ℕ) → TellGroups groups all → list_all g (lits_of (take p groups)) ≡ list_all h (joined (take p all))
  taken_told groups all zero t = refl
  taken_told [] [] (suc p) t = refl
  taken_told [] (os ∷ all) (suc p) t = absurd t
  taken_told (ls ∷ groups) [] (suc p) t = absurd t
  taken_told (ls ∷ groups) (os ∷ all) (suc p) t =
      list_all-append g ls (lits_of (take p groups)) ∙ (λ i. same_all ls os t.0 i && taken_told groups all p t.1 i) ∙ sym (list_all-append h os (joined (take p all)))

  all_told : (groups : List (List Lit)) (all : List (List Occurrence)) → TellGroups groups all → list_all g (lits_of groups) ≡ list_all h (joined all)
  all_told [] [] t = refl
  all_told [] (os ∷ all) t = absurd t
  all_told (ls ∷ groups) [] t = absurd t
  all_told (ls ∷ groups) (os ∷ all) t = list_all-append g ls (lits_of groups) ∙ (λ i. same_all ls os t.0 i && all_told groups all t.1 i) ∙ sym (list_all-append h os (joined all))

  group_told : (groups : List (List Lit)) (all : List (List Occurrence)) (p : ℕ) → TellGroups groups all → list_all g (group_at groups p) ≡ list_all h (item_at all p)
  group_told [] [] p t = refl
  group_told [] (os ∷ all) p t = absurd t
  group_told (ls ∷ groups) [] p t = absurd t
  group_told (ls ∷ groups) (os ∷ all) zero t = same_all ls os t.0
  group_told (ls ∷ groups) (os ∷ all) (suc p) t = group_told groups all p t.1

  places_told : (groups : List (List Lit)) (all : List (List Occurrence)) (places : List ℕ) → TellGroups groups all → list_all g (lits_at groups places) ≡ list_all h (items_at all places)
  places_told groups all [] t = refl
  places_told groups all (p ∷ ps) t =
      list_all-append g (group_at groups p) (lits_at groups ps) ∙ (λ i. group_told groups all p t i && places_told groups all ps t i) ∙ sym (list_all-append h (item_at all p) (items_at all ps))

and_assoc : (a b c : Bool) → ((a && b) && c) ≡ (a && (b && c))
and_assoc true b c = refl
and_assoc false b c = refl

-- ---- the items of a call

-- the hard ones are the domain items and those of each item
pub hard_is : (f : FrameTerm) (sizes : List ℕ) → hard_of f Whole sizes ≡ domain_items f Whole sizes ++ joined (hard_by_item f sizes)
hard_is f sizes = ap (λ (os : List Occurrence). os ++ asked_of f Whole sizes) (append-nil (domain_items f Whole sizes)) ∙ ap (λ (os : List Occurrence). domain_items f Whole sizes ++ os) (asked_joined f sizes)

module _ (f : FrameTerm) (sizes : List ℕ) (sound : IsSound f) (fit : SizesFit f sizes) (chosen : List (ℕ × ℕ)) (cyclic : AreCyclicValues f chosen) (e : Encoded) (encodes : EncodesCall f sizes e) where
  abbrev domains : List Occurrence
  domains = domain_items f Whole sizes

  abbrev items : List (List Occurrence)
  items = hard_by_item f sizes

  abbrev live : List Occurrence
  live = live_of f Whole sizes

  abbrev read : (ℕ → Bool) → Reading
  read v = read_of_phase f Whole sizes 1 v

  abbrev groups : List (List Lit)
  groups = item_roots f sizes e

  -- the roots tell the items under what the bits read as
  roots_told : (v : ℕ → Bool) → Meets v e.cnf.clauses.items → (a : Reading) → read v ≡ a → IsAssignment f Whole sizes chosen a → map (lit_value v) e.roots.items ≡ map (is_true a) (hard_of f Whole sizes ++ live)
  roots_told v meets a reads is =
      encodes.roots v meets
      ∙ ap (λ (r : Reading). map (λ x. holds r x) (closed_at f sizes (hard_of f Whole sizes ++ live))) reads
      ∙ map_closed (holds a) (state_at f sizes) (hard_of f Whole sizes ++ live)
      ∙ map-append (λ (o : Occurrence). holds a (closed_of (state_at f sizes) o)) (hard_of f Whole sizes) live
      ∙ (λ i. hard_truths f sizes sound fit Whole chosen a is i ++ live_truths f sizes sound fit Whole chosen a is i)
      ∙ sym (map-append (is_true a) (hard_of f Whole sizes) live)

  in_parts : hard_of f Whole sizes ++ live ≡ domains ++ (joined items ++ live)
  in_parts = ap (λ (os : List Occurrence). os ++ live) (hard_is f sizes) ∙ append_assoc domains (joined items) live

  module _ (v : ℕ → Bool) (meets : Meets v e.cnf.clauses.items) (a : Reading) (reads : read v ≡ a) (is : IsAssignment f Whole sizes chosen a) where
    parts_told : map (lit_value v) e.roots.items ≡ map (is_true a) (domains ++ (joined items ++ live))
    parts_told = roots_told v meets a reads is ∙ ap (map (is_true a)) in_parts

    domains_told : list_all (lit_value v) (domain_roots f sizes e) ≡ all_true a domains
    domains_told =
        same_all (lit_value v) (is_true a) (domain_roots f sizes e) domains
        (sym (take-map (lit_value v) (length domains) e.roots.items)
        ∙ ap (take (length domains)) parts_told
        ∙ take-map (is_true a) (length domains) (domains ++ (joined items ++ live))
        ∙ ap (map (is_true a)) (take_at domains (joined items ++ live) (length domains) refl))

    groups_told : TellGroups (lit_value v) (is_true a) groups items
    groups_told =
        cut_told (lit_value v) (is_true a) items live (drop (length domains) e.roots.items)
        (sym (drop-map (lit_value v) (length domains) e.roots.items)
        ∙ ap (drop (length domains)) parts_told
        ∙ drop-map (is_true a) (length domains) (domains ++ (joined items ++ live))
        ∙ ap (map (is_true a)) (drop_at domains (joined items ++ live) (length domains) refl))

  -- ---- literals behind those of the chosen values that tell occurrences

  abbrev pub TellsAlike : List Lit → List Occurrence → Type 0
  TellsAlike ls os = (v : ℕ → Bool) → Meets v e.cnf.clauses.items → (a : Reading) → read v ≡ a → IsAssignment f Whole sizes chosen a → list_all (lit_value v) ls ≡ all_true a os

  -- of a base of the chosen values and the roots of the domain items, and roots that tell occurrences
  with_base : (ls : List Lit) (os : List Occurrence) → TellsAlike ls os → TellsAlike (domain_roots f sizes e ++ ls) (domains ++ os)
  with_base ls os tells v meets a reads is =
      list_all-append (lit_value v) (domain_roots f sizes e) ls
      ∙ (λ i. domains_told v meets a reads is i && tells v meets a reads is i)
      ∙ sym (list_all-append (is_true a) domains os)

  asked_told : (p : ℕ) (places : List ℕ) → TellsAlike (lits_of (take p groups) ++ lits_at groups places) (joined (take p items) ++ items_at items places)
  asked_told p places v meets a reads is =
      let told = groups_told v meets a reads is in
      list_all-append (lit_value v) (lits_of (take p groups)) (lits_at groups places)
      ∙ (λ i. taken_told (lit_value v) (is_true a) groups items p told i && places_told (lit_value v) (is_true a) groups items places told i)
      ∙ sym (list_all-append (is_true a) (joined (take p items)) (items_at items places))

  joined_told : TellsAlike (lits_of groups) (joined items)
  joined_told v meets a reads is = all_told (lit_value v) (is_true a) groups items (groups_told v meets a reads is)

  -- what makes such literals true reads as an assignment that meets the occurrences
  pub read_meets : (ls : List Lit) (os : List Occurrence) → TellsAlike ls os → (v : ℕ → Bool) → Meets v e.cnf.clauses.items → list_all (lit_value v) (fixed_lits e chosen ++ ls) ≡ true
      → IsAssignment f Whole sizes chosen (read v) × (all_true (read v) os ≡ true)
  read_meets ls os tells v meets t =
      let parts = and_parts (list_all (lit_value v) (fixed_lits e chosen)) (list_all (lit_value v) ls) (sym (list_all-append (lit_value v) (fixed_lits e chosen) ls) ∙ t) in
      let high : 1 ≤ 31 = omega arith in
      let is : IsAssignment f Whole sizes chosen (read v)
      = read_with_chosen f Whole sizes 1 (closed_at f sizes (hard_of f Whole sizes ++ live)) e encodes chosen [] (all_in_order f chosen cyclic) high sound fit (all_members f chosen cyclic) v parts.0 in
      (is, sym (tells v meets (read v) refl is) ∙ parts.1)

  -- an assignment that meets the occurrences is read from a valuation that makes such literals true
  pub valued : (ls : List Lit) (os : List Occurrence) → TellsAlike ls os → Sat f Whole sizes chosen os → HaveValuation e.cnf.clauses.items (fixed_lits e chosen ++ ls)
  valued ls os tells sat =
      let a = sat.0 in
      let slots = unknowns_of f Whole sizes in
      let widths = widths_of f 1 (unknowns_of f Whole sizes) in
      let b = reached (state_at f sizes) slots widths (closed_at f sizes (hard_of f Whole sizes ++ live)) e a encodes (fits_in f Whole sizes 1 tt chosen a sat.1) in
      let spelled : list_all (lit_value b.0) (fixed_lits e chosen) ≡ true
      = subst (λ (xs : List Slot). list_all (lit_value b.0) (flat_map (λ (c : ℕ × ℕ). spelling_at (bits_where (is_at c.0 0) xs (rows e.bits.items)) c.1) chosen) ≡ true) (sym encodes.slots)
      (subst (λ (xs : List (List Lit)). list_all (lit_value b.0) (flat_map (λ (c : ℕ × ℕ). spelling_at (bits_where (is_at c.0 0) slots xs) c.1) chosen) ≡ true) (sym encodes.bits)
      (all_spelled (state_at f sizes) a slots (positive_bits 0 widths) b.0 f chosen b.2 sat.1.chosen)) in (
        b.0,
        b.1,
        list_all-append (lit_value b.0) (fixed_lits e chosen) ls ∙ and_from (list_all (lit_value b.0) (fixed_lits e chosen)) (list_all (lit_value b.0) ls) spelled (tells b.0 b.1 a b.2 sat.1 ∙ sat.2),
      )

  -- ---- what is asked

  -- the chosen values stand in front
  pub asked_is : (p : ℕ) (places : List ℕ) → asked (base_lits f sizes chosen e) groups p places ≡ fixed_lits e chosen ++ (domain_roots f sizes e ++ (lits_of (take p groups) ++ lits_at groups places))
  asked_is p places = append_assoc (fixed_lits e chosen) (domain_roots f sizes e) (lits_of (take p groups) ++ lits_at groups places)

  pub all_is : base_lits f sizes chosen e ++ lits_of groups ≡ fixed_lits e chosen ++ (domain_roots f sizes e ++ lits_of groups)
  all_is = append_assoc (fixed_lits e chosen) (domain_roots f sizes e) (lits_of groups)

  pub asked_alike : (p : ℕ) (places : List ℕ) → TellsAlike (domain_roots f sizes e ++ (lits_of (take p groups) ++ lits_at groups places)) (domains ++ (joined (take p items) ++ items_at items places))
  asked_alike p places = with_base (lits_of (take p groups) ++ lits_at groups places) (joined (take p items) ++ items_at items places) (asked_told p places)

  pub all_alike : TellsAlike (domain_roots f sizes e ++ lits_of groups) (domains ++ joined items)
  all_alike = with_base (lits_of groups) (joined items) joined_told

  -- places can hold just where their items can be met
  pub can_be_met : (p : ℕ) (places : List ℕ) → CanHold e.cnf.clauses.items (base_lits f sizes chosen e) groups p places → CanBeMet f sizes chosen p places
  can_be_met p places h =
      let v : ℕ → Bool = h.0 in
      let t : list_all (lit_value v) (fixed_lits e chosen ++ (domain_roots f sizes e ++ (lits_of (take p groups) ++ lits_at groups places))) ≡ true = ap (list_all (lit_value v)) (sym (asked_is p places)) ∙ h.2 in
      let m = read_meets (domain_roots f sizes e ++ (lits_of (take p groups) ++ lits_at groups places)) (domains ++ (joined (take p items) ++ items_at items places)) (asked_alike p places) v h.1 t in
      (read v, m.0, m.1)

  pub can_hold : (p : ℕ) (places : List ℕ) → CanBeMet f sizes chosen p places → CanHold e.cnf.clauses.items (base_lits f sizes chosen e) groups p places
  can_hold p places sat =
      subst (λ (ls : List Lit). HaveValuation e.cnf.clauses.items ls) (sym (asked_is p places))
      (valued (domain_roots f sizes e ++ (lits_of (take p groups) ++ lits_at groups places)) (domains ++ (joined (take p items) ++ items_at items places)) (asked_alike p places) sat)

  -- what the bits of the encoding spell is what the phase reads
  pub read_is : (v : ℕ → Bool) → reading_at (state_at f sizes) e.slots.items (rows e.bits.items) v ≡ read v
  read_is v = λ i. reading_at (state_at f sizes) (encodes.slots i) (encodes.bits i) v
