-- Values that are tried one after the other, and what this says of the choice of a property.
use Rattle.std.proofs.Common.{◌≡◌, ◌<◌, ◌+◌, ◌^◌, ℕ, Bool, true, false, ◌⊎◌, inl, inr, List, [], ◌∷◌, ◌++◌, map, length, take, drop, get_or, sym, ap, ◌∙◌, subst, append_assoc}
use Rattle.std.specs.List.{All}
use Rattle.std.proofs.lemmas.List.{take_more, map_push, map-append}
use Rattle.std.proofs.lemmas.List.Elements.{All-append, All-map, All-more, All-push, All-weaker}
use Rattle.svr_frame.specs.Frame.{FrameTerm, width_of}
use Rattle.svr_phase.specs.declared.choice.Choice.{Choice}
use Rattle.svr_phase.specs.declared.proof.Proof.{Proof}
use Rattle.svr_phase.specs.declared.proof.ProofReason.{ProofReason}
use Rattle.svr_phase.specs.Cyclic.{fixed_of, turned, unused, tried, Fits, IsFirst}
use Rattle.svr_cyclic.specs.Questions.{CanBe, CanBeFixed, IsNext, Over, IsRefuted}
use Rattle.svr_cyclic.specs.Values.{CanTake, CannotTake, IsFirstOf, IsTryingOf, AreRefuted}
use Rattle.svr_cyclic.proofs.Rows.{prop_of}
use Rattle.svr_cyclic.proofs.Lists.{parted_at}

-- a value behind the chosen ones can be fixed
pub next_fixed : (f : FrameTerm) (chosen : List (ℕ × ℕ)) (prop v : ℕ) → IsNext f chosen prop → v < 2 ^ width_of f prop → CanBeFixed f (chosen ++ (prop, v) ∷ [])
next_fixed f chosen prop v next lt = record {
  others = next.others;
  front = ap (λ ps. ps ++ next.others) (map_push prop_of chosen (prop, v)) ∙ append_assoc (map prop_of chosen) (prop ∷ []) next.others ∙ next.order;
  below = All-push (λ (x : ℕ × ℕ). x.1 < 2 ^ width_of f x.0) chosen (prop, v) next.below lt;
}

-- ---- one list of values

refuted_push : (o : Over) (chosen : List (ℕ × ℕ)) (prop : ℕ) (cause : ℕ → ProofReason) (vs : List ℕ) (ps : List Proof) (v : ℕ) (p : Proof)
    → AreRefuted o chosen prop cause vs ps → IsRefuted o (chosen ++ (prop, v) ∷ []) (cause v) p → AreRefuted o chosen prop cause (vs ++ v ∷ []) (ps ++ p ∷ [])
refuted_push o chosen prop cause [] [] v p h k = (k, tt)
refuted_push o chosen prop cause [] (q ∷ ps) v p h k = absurd h
refuted_push o chosen prop cause (u ∷ vs) [] v p h k = absurd h
refuted_push o chosen prop cause (u ∷ vs) (q ∷ ps) v p h k = (h.0, refuted_push o chosen prop cause vs ps v p h.1 k)

module _ (o : Over) (chosen : List (ℕ × ℕ)) (prop : ℕ) (cause : ℕ → ProofReason) (values : List ℕ) (i : ℕ) where
  -- one more is refused
  pub refuted_more : (proofs more : List Proof) (p : Proof) → i < length values → more ≡ proofs ++ p ∷ [] → AreRefuted o chosen prop cause (take i values) proofs → IsRefuted o (chosen ++ (prop, get_or values i 0) ∷ []) (cause (get_or values i 0)) p
      → AreRefuted o chosen prop cause (take (i + 1) values) more
  refuted_more proofs more p lt pushed before here =
      subst (λ (ps : List Proof). AreRefuted o chosen prop cause (take (i + 1) values) ps) (sym pushed)
      (subst (λ (vs : List ℕ). AreRefuted o chosen prop cause vs (proofs ++ p ∷ [])) (sym (take_more values i 0 lt)) (refuted_push o chosen prop cause (take i values) proofs (get_or values i 0) p before here))

  pub none_more : i < length values → All (CannotTake o.frame chosen prop) (take i values) → CannotTake o.frame chosen prop (get_or values i 0) → All (CannotTake o.frame chosen prop) (take (i + 1) values)
  none_more lt before here = All-more (CannotTake o.frame chosen prop) values i 0 lt before here

  pub found_at : i < length values → All (CannotTake o.frame chosen prop) (take i values) → CanTake o.frame chosen prop (get_or values i 0) → IsFirstOf o.frame chosen prop values (get_or values i 0)
  found_at lt none one = record { refused = take i values; later = drop (i + 1) values; split = parted_at values i 0 lt; none = none; one = one }

  pub trying_at : i < length values → All (CannotTake o.frame chosen prop) (take i values) → IsTryingOf o.frame chosen prop values
  trying_at lt none = record { refused = take i values; next = get_or values i 0; later = drop (i + 1) values; split = parted_at values i 0 lt; none = none }

-- ---- the choice of a property

module _ (f : FrameTerm) (before : List Choice) (p word : ℕ) (used whole : List ℕ) where
  abbrev left : List ℕ
  left = turned word (unused used whole)

  abbrev round : List ℕ
  round = turned word whole

  abbrev choice : Bool → ℕ → Choice
  choice cycle v = record { prop = p; value = v; cycle = cycle }

  -- the values with the choice are those before with its own
  with_choice : (cycle : Bool) (v : ℕ) → fixed_of (before ++ choice cycle v ∷ []) ≡ fixed_of before ++ (p, v) ∷ []
  with_choice cycle v = map_push (λ (c : Choice). (c.prop, c.value)) before (choice cycle v)

  fits : (cycle : Bool) (v : ℕ) → CanTake f (fixed_of before) p v → Fits f before (choice cycle v)
  fits cycle v h = subst (CanBe f) (sym (with_choice cycle v)) h

  refused : (cycle : Bool) (v : ℕ) → CannotTake f (fixed_of before) p v → Fits f before (choice cycle v) → ⊥
  refused cycle v h k = h (subst (CanBe f) (with_choice cycle v) k)

  all_refused : (cycle : Bool) (vs : List ℕ) → All (CannotTake f (fixed_of before) p) vs → All (λ t. Fits f before t → ⊥) (map (choice cycle) vs)
  all_refused cycle vs h = All-map (λ t. Fits f before t → ⊥) (choice cycle) vs (All-weaker (CannotTake f (fixed_of before) p) (λ v. Fits f before (choice cycle v) → ⊥) (λ v k. refused cycle v k) vs h)

  mapped_split : (cycle : Bool) (vs us ws : List ℕ) (v : ℕ) → vs ≡ us ++ v ∷ ws → map (choice cycle) vs ≡ map (choice cycle) us ++ choice cycle v ∷ map (choice cycle) ws
  mapped_split cycle vs us ws v e = ap (map (choice cycle)) e ∙ map-append (choice cycle) us (v ∷ ws)

  pub first_going : (v : ℕ) → IsFirstOf f (fixed_of before) p left v → IsFirst (Fits f before) (tried p word used whole) (choice false v)
  first_going v is = record {
    refused = map (choice false) is.refused;
    later = map (choice false) is.later ++ map (choice true) round;
    split =
        ap (λ cs. cs ++ map (choice true) round) (mapped_split false left is.refused is.later v is.split)
        ∙ append_assoc (map (choice false) is.refused) (choice false v ∷ map (choice false) is.later) (map (choice true) round);
    none = all_refused false is.refused is.none;
    one = fits false v is.one;
  }

  both_refused : (vs : List ℕ) → All (CannotTake f (fixed_of before) p) left → All (CannotTake f (fixed_of before) p) vs → All (λ t. Fits f before t → ⊥) (map (choice false) left ++ map (choice true) vs)
  both_refused vs none more = All-append (λ t. Fits f before t → ⊥) (map (choice false) left) (map (choice true) vs) (all_refused false left none) (all_refused true vs more)

  behind_left : (us ws : List ℕ) (v : ℕ) → round ≡ us ++ v ∷ ws → tried p word used whole ≡ (map (choice false) left ++ map (choice true) us) ++ choice true v ∷ map (choice true) ws
  behind_left us ws v e =
      ap (λ cs. map (choice false) left ++ cs) (mapped_split true round us ws v e)
      ∙ sym (append_assoc (map (choice false) left) (map (choice true) us) (choice true v ∷ map (choice true) ws))

  pub first_begun : (v : ℕ) → All (CannotTake f (fixed_of before) p) left → IsFirstOf f (fixed_of before) p round v → IsFirst (Fits f before) (tried p word used whole) (choice true v)
  first_begun v none is = record {
    refused = map (choice false) left ++ map (choice true) is.refused;
    later = map (choice true) is.later;
    split = behind_left is.refused is.later v is.split;
    none = both_refused is.refused none is.none;
    one = fits true v is.one;
  }

  pub none_tried : All (CannotTake f (fixed_of before) p) left → All (CannotTake f (fixed_of before) p) round → All (λ t. Fits f before t → ⊥) (tried p word used whole)
  none_tried none more = both_refused round none more

  -- a value has still to be tried: an unused one, or one of the domain behind them
  pub still_tried : IsTryingOf f (fixed_of before) p left ⊎ (All (CannotTake f (fixed_of before) p) left × IsTryingOf f (fixed_of before) p round)
      → (refused : List Choice) × (next : Choice) × (later : List Choice) × (tried p word used whole ≡ refused ++ next ∷ later) × All (λ t. Fits f before t → ⊥) refused
  still_tried (inl is) = (
    map (choice false) is.refused,
    choice false is.next,
    map (choice false) is.later ++ map (choice true) round,
    ap (λ cs. cs ++ map (choice true) round) (mapped_split false left is.refused is.later is.next is.split)
        ∙ append_assoc (map (choice false) is.refused) (choice false is.next ∷ map (choice false) is.later) (map (choice true) round),
    all_refused false is.refused is.none,
  )
  still_tried (inr both) = (
    map (choice false) left ++ map (choice true) both.1.refused,
    choice true both.1.next,
    map (choice true) both.1.later,
    behind_left both.1.refused both.1.later both.1.next both.1.split,
    both_refused both.1.refused both.0 both.1.none,
  )
