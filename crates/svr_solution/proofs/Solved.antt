-- Items of an encoding of a call, those of them that are needed, and what makes a solution of them.
use Rattle.std.proofs.Common.{◌≡◌, ◌≤◌, ◌+◌, ◌-◌, ◌&&◌, ℕ, suc, Bool, true, false, refl, sym, ap, ◌∙◌, subst, List, [], ◌∷◌, ◌++◌, map, length, replicate, arith}
use Rattle.std.specs.List.{list_all, All}
use Rattle.std.proofs.lemmas.Bool.{and_parts}
use Rattle.std.proofs.lemmas.List.{length-map, length-append}
use Rattle.std.proofs.lemmas.List.Folds.{list_all-append}
use Rattle.std.proofs.lemmas.List.Elements.{All-nil, All-cons}
use Rattle.svr_chain.specs.Valuations.{lit_value}
use Rattle.svr_query.specs.Answer.{IsModel}
use Rattle.svr_query.specs.Logged.{valuation_of}
use Rattle.svr_typed.specs.declared.expr.TExpr.{TExpr}
use Rattle.svr_typed.specs.ExprTerm.{ExprTerm, expr_term}
use Rattle.svr_eval.specs.Reading.{Reading}
use Rattle.svr_eval.specs.Typed.{IsTyped, CanRead}
use Rattle.svr_frame.specs.declared.part.Part.TheVariants.{All as Whole}
use Rattle.svr_frame.specs.Frame.{FrameTerm, state_at}
use Rattle.svr_frame.specs.Occurrences.{Occurrence, all_true, closed_of}
use Rattle.svr_frame.specs.Phases.{hard_of, live_of, unknowns_of}
use Rattle.svr_frame.specs.Satisfaction.{IsAssignment, Keeps, kept_of}
use Rattle.svr_frame.specs.Sound.{IsSound, SizesFit}
use Rattle.svr_ready.specs.Ready.{AreReady}
use Rattle.svr_ready.proofs.Domains.{hard_ready, live_ready}
use Rattle.svr_encoded.specs.declared.encoded.Encoded.{Encoded}
use Rattle.svr_encoded.specs.Encodes.{holds}
use Rattle.svr_phase.specs.declared.choice.Choice.{Choice}
use Rattle.svr_phase.specs.Spent.{closed_at}
use Rattle.svr_phase.specs.Proof.{fixed_lits, hard_roots, soft_roots, kept_lits}
use Rattle.svr_phase.specs.Cyclic.{fixed_of}
use Rattle.svr_phase.specs.Chosen.{AreCyclicValues}
use Rattle.svr_phase.proofs.KeptItems.{both_hold}
use Rattle.svr_question.specs.declared.ask.Met.{Met}
use Rattle.svr_question.specs.Ends.{EncodesCall, CanMeet, kept_literals, IsMet}
use Rattle.svr_call.specs.Call.{preferred, OthersArePreferred, IsSolution}
use Rattle.svr_values.specs.Needed.{needed_of}
use Rattle.svr_settled.specs.Steps.{hold, steps}
use Rattle.svr_settled_laws.proofs.UntouchedItems.{others_preferred}
use Rattle.svr_solution.specs.Calls.{call_in}

-- ---- closed items that are ready

are_typed : (f : FrameTerm) (a st : Reading) (items : List TExpr) (os : List Occurrence) → map expr_term items ≡ map (closed_of st) os → AreReady f a st os → All (λ e. IsTyped (expr_term e)) items
are_typed f a st [] os e h = All-nil (λ x. IsTyped (expr_term x))
are_typed f a st (x ∷ xs) [] e h = cc
are_typed f a st (x ∷ xs) (o ∷ os) e h =
    let first : expr_term x ≡ closed_of st o = cc in
    let rest : map expr_term xs ≡ map (closed_of st) os = cc in
    All-cons (λ y. IsTyped (expr_term y)) x xs (subst IsTyped (sym first) h.0.typed) (are_typed f a st xs os rest h.1)

are_readable : (f : FrameTerm) (a st : Reading) (items : List TExpr) (os : List Occurrence) → map expr_term items ≡ map (closed_of st) os → AreReady f a st os → All (λ e. CanRead a 0 (expr_term e)) items
are_readable f a st [] os e h = All-nil (λ x. CanRead a 0 (expr_term x))
are_readable f a st (x ∷ xs) [] e h = cc
are_readable f a st (x ∷ xs) (o ∷ os) e h =
    let first : expr_term x ≡ closed_of st o = cc in
    let rest : map expr_term xs ≡ map (closed_of st) os = cc in
    All-cons (λ y. CanRead a 0 (expr_term y)) x xs (subst (CanRead a 0) (sym first) h.0.reads) (are_readable f a st xs os rest h.1)

ready_append : (f : FrameTerm) (a st : Reading) (os ps : List Occurrence) → AreReady f a st os → AreReady f a st ps → AreReady f a st (os ++ ps)
ready_append f a st [] ps h k = k
ready_append f a st (o ∷ os) ps h k = (h.0, ready_append f a st os ps h.1 k)

-- ---- items that are needed

mapped : {A B : Type 0} (g : B → Bool) (h : A → B) (xs : List A) → list_all g (map h xs) ≡ list_all (λ x. g (h x)) xs
mapped g h [] = refl
mapped g h (x ∷ xs) = ap (λ b. g (h x) && b) (mapped g h xs)

soft_needed : (g : Occurrence → ExprTerm) (soft : List Occurrence) (fates : List Bool) → needed_of (map g soft) fates ≡ map g (kept_of soft fates)
soft_needed g [] fates = refl
soft_needed g (o ∷ soft) [] = refl
soft_needed g (o ∷ soft) (true ∷ fates) = ap (λ es. g o ∷ es) (soft_needed g soft fates)
soft_needed g (o ∷ soft) (false ∷ fates) = soft_needed g soft fates

all_needed : (g : Occurrence → ExprTerm) (hard soft : List Occurrence) (fates : List Bool) → needed_of (map g (hard ++ soft)) (replicate (length hard) true ++ fates) ≡ map g (hard ++ kept_of soft fates)
all_needed g [] soft fates = soft_needed g soft fates
all_needed g (o ∷ hard) soft fates = ap (λ es. g o ∷ es) (all_needed g hard soft fates)

-- there is a fate for each soft item
fate_each : (S : List Occurrence → Type 0) (asked soft : List Occurrence) (fates : List Bool) → Keeps S asked soft fates → length fates ≡ length soft
fate_each S asked [] fates h = ap length h
fate_each S asked (s ∷ soft) [] h = absurd h
fate_each S asked (s ∷ soft) (true ∷ fates) h = ap suc (fate_each S (asked ++ s ∷ []) soft fates h.1)
fate_each S asked (s ∷ soft) (false ∷ fates) h = ap suc (fate_each S asked soft fates h.1)

module _ (f : FrameTerm) (ns : List ℕ) (sound : IsSound f) (fit : SizesFit f ns) (e : Encoded) (encodes : EncodesCall f ns e) where
  abbrev hard : List Occurrence
  hard = hard_of f Whole ns

  abbrev soft : List Occurrence
  soft = live_of f Whole ns

  items_are : map expr_term e.items.items ≡ closed_at f ns (hard ++ soft)
  items_are = encodes.items

  all_ready : (a : Reading) → IsAssignment f Whole ns [] a → AreReady f a (state_at f ns) (hard ++ soft)
  all_ready a is = ready_append f a (state_at f ns) hard soft (hard_ready f ns sound fit [] a is) (live_ready f ns sound fit [] a is)

  pub typed : (a : Reading) → IsAssignment f Whole ns [] a → All (λ x. IsTyped (expr_term x)) e.items.items
  typed a is = are_typed f a (state_at f ns) e.items.items (hard ++ soft) items_are (all_ready a is)

  pub readable : (a : Reading) → IsAssignment f Whole ns [] a → All (λ x. CanRead a 0 (expr_term x)) e.items.items
  readable a is = are_readable f a (state_at f ns) e.items.items (hard ++ soft) items_are (all_ready a is)

  item_count : length e.items.items ≡ length hard + length soft
  item_count = sym (length-map e.items.items expr_term) ∙ ap length items_are ∙ length-map (hard ++ soft) (closed_of (state_at f ns)) ∙ length-append hard soft

  module _ (chosen : List (ℕ × ℕ)) (place : ℕ) (m : Met) (is_met : IsMet f ns chosen place e m) where
    abbrev fates : List Bool
    fates = m.fates.items

    abbrev kept : List Occurrence
    kept = kept_of soft fates

    one_each : length fates ≡ length soft
    one_each = fate_each (CanMeet f ns chosen) hard soft fates is_met.keeps

    pub few : (items : List TExpr) (fs : List Bool) → items ≡ e.items.items → fs ≡ m.fates.items → length fs ≤ length items
    few items fs same same_fates =
        let a : length items ≡ length e.items.items = ap length same in
        let b : length fs ≡ length fates = ap length same_fates in
        omega (arith, a, b, one_each, item_count)

    -- the values meet the clauses, the chosen values and the items
    pub model : (values : List Bool) → values ≡ m.values.items → IsModel e.cnf.clauses.items (kept_literals f ns chosen m.fates.items e) values
    model values same = subst (λ (vs : List Bool). IsModel e.cnf.clauses.items (kept_literals f ns chosen fates e) vs) (sym same) is_met.model

    pub spelled : (values : List Bool) → values ≡ m.values.items → list_all (lit_value (valuation_of values)) (fixed_lits e chosen) ≡ true
    spelled values same =
        let t = lit_value (valuation_of values) in
        let asked = fixed_lits e chosen ++ hard_roots e hard in
        let last = kept_lits fates (soft_roots e hard) in
        let both = and_parts (list_all t asked) (list_all t last) (sym (list_all-append t asked last) ∙ (model values same).1) in
        (and_parts (list_all t (fixed_lits e chosen)) (list_all t (hard_roots e hard)) (sym (list_all-append t (fixed_lits e chosen) (hard_roots e hard)) ∙ both.0)).0

    -- the items that are marked are the hard ones and the kept ones
    pub needed_are : (items : List TExpr) (fs marks : List Bool) → items ≡ e.items.items → fs ≡ m.fates.items → marks ≡ replicate (length items - length fs) true ++ fs
        → needed_of (map expr_term items) marks ≡ closed_at f ns (hard_of f Whole ns ++ kept_of (live_of f Whole ns) m.fates.items)
    needed_are items fs marks same same_fates are =
        let count : length e.items.items - length fates ≡ length hard = omega (arith, one_each, item_count) in
        (λ k. needed_of (map expr_term (same k)) (are k))
        ∙ (λ k. needed_of (map expr_term e.items.items) (replicate (length (same k) - length (same_fates k)) true ++ same_fates k))
        ∙ (λ k. needed_of (items_are k) (replicate (count k) true ++ fates))
        ∙ all_needed (closed_of (state_at f ns)) hard soft fates

    pub hold_is : (es : List ExprTerm) → es ≡ closed_at f ns (hard_of f Whole ns ++ kept_of (live_of f Whole ns) m.fates.items) → (a : Reading) → IsAssignment f Whole ns [] a
        → hold es a ≡ all_true a (hard_of f Whole ns ++ kept_of (live_of f Whole ns) m.fates.items)
    hold_is es are a is =
        ap (λ (xs : List ExprTerm). hold xs a) are
        ∙ mapped (λ x. holds a x) (closed_of (state_at f ns)) (hard ++ kept)
        ∙ both_hold f Whole ns sound fit [] a is fates

    pub solved : (used : List (List ℕ)) (words : ℕ → ℕ) (budget cap : ℕ) (choices : List Choice) → cap ≤ 2048 → chosen ≡ fixed_of choices → AreCyclicValues f chosen → (wanted found a : Reading) → wanted ≡ preferred (call_in f used words budget cap) choices ns
        → IsAssignment f Whole ns chosen found → all_true found (hard_of f Whole ns ++ kept_of (live_of f Whole ns) m.fates.items) ≡ true
        → IsAssignment f Whole ns chosen a → all_true a (hard_of f Whole ns ++ kept_of (live_of f Whole ns) m.fates.items) ≡ true
        → a ≡ steps (closed_at f ns (hard_of f Whole ns ++ kept_of (live_of f Whole ns) m.fates.items)) wanted found (unknowns_of f Whole ns) → IsSolution (call_in f used words budget cap) choices ns m.fates.items a
    solved used words budget cap choices le same cyclic wanted found a wish is_found meets_found is_a meets is_steps =
        let as_wished : a ≡ steps (closed_at f ns (hard ++ kept)) (preferred (call_in f used words budget cap) choices ns) found (unknowns_of f Whole ns)
        = is_steps ∙ ap (λ (w : Reading). steps (closed_at f ns (hard ++ kept)) w found (unknowns_of f Whole ns)) wish in
        record {
          keeps = subst (λ (xs : List (ℕ × ℕ)). Keeps (CanMeet f ns xs) hard soft fates) same is_met.keeps;
          fits = subst (λ (xs : List (ℕ × ℕ)). IsAssignment f Whole ns xs a) same is_a;
          meets = meets;
          others = subst (λ (r : Reading). OthersArePreferred (call_in f used words budget cap) ns (preferred (call_in f used words budget cap) choices ns) r) (sym as_wished)
              (others_preferred (call_in f used words budget cap) choices ns sound fit (subst (AreCyclicValues f) same cyclic) fates le found (subst (λ (xs : List (ℕ × ℕ)). IsAssignment f Whole ns xs found) same is_found) meets_found);
        }
