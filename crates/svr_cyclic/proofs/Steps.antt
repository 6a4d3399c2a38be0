-- One property more: what was chosen so far, and how the phase comes to an end.
use Rattle.std.proofs.Common.{◌≡◌, ◌<◌, ◌+◌, ◌^◌, ℕ, true, false, cond, ◌⊎◌, List, [], ◌∷◌, ◌++◌, map, length, take, drop, get_or, refl, sym, ap, ◌∙◌, subst, append_assoc, append-nil, slice_index_or, length-take-le, arith}
use Rattle.std.specs.Prelude.{⊤}
use Rattle.std.specs.List.{All}
use Rattle.std.proofs.lemmas.List.{take_more, length-map}
use Rattle.std.proofs.lemmas.List.Elements.{All-nil, All-cons, All-push}
use Rattle.std.specs.List.Sorted.{IsStrictlyIncreasing}
use Rattle.svr_world.specs.declared.change.Replacement.{Replacement}
use Rattle.svr_world.specs.Fits.{AreRising}
use Rattle.svr_frame.specs.Frame.{FrameTerm, width_of, domain_of}
use Rattle.svr_frame.specs.Sound.{IsSound}
use Rattle.svr_phase.specs.declared.choice.Choice.{Choice}
use Rattle.svr_phase.specs.declared.proof.Proof.{Proof}
use Rattle.svr_phase.specs.declared.proof.Renewed.{Renewed}
use Rattle.svr_phase.specs.declared.proof.ProofReason.TheVariants.{Cycle, Randc}
use Rattle.svr_chain.specs.declared.clause.Lit.{Lit}
use Rattle.svr_chain.specs.Views.{RefutationView}
use Rattle.svr_query.specs.Answer.{SolverView}
use Rattle.svr_vector.specs.Places.{rows}
use Rattle.svr_encoded.specs.declared.encoded.Encoded.{Encoded}
use Rattle.svr_phase.specs.Cyclic.{Cycles, fixed_of, turned, unused, tried_for, inserted, used_after, Fits, IsFirst, AreChosen}
use Rattle.svr_phase.specs.Ends.{Call, cyclic_props, cycles_of, refused_values, Renewal, renewals}
use Rattle.svr_phase.proofs.Fresh.{chosen_props}
use Rattle.svr_phase.proofs.Preferred.{chosen_below, fixed_props}
use Rattle.svr_call.specs.Call.{new_used}
use Rattle.svr_cyclic.specs.declared.phase.Progress.{Progress}
use Rattle.svr_cyclic.specs.declared.property.ValueEnd.{ValueEnd}
use Rattle.svr_cyclic.specs.declared.property.ValueEnd.TheVariants as end
use Rattle.svr_cyclic.specs.Questions.{IsNext, IsRowOf, HasClausesOf, Over}
use Rattle.svr_cyclic.specs.Values.{CannotTake, IsFirstOf, IsTryingOf, AreRefuted, IsValueEnd}
use Rattle.svr_cyclic.specs.Phase.{over_call, AreRenewed, IsSoFar, HasNone, IsTryingAt}
use Rattle.svr_cyclic.proofs.Rows.{prop_of, row_there}
use Rattle.svr_cyclic.proofs.Lists.{parted_at}
use Rattle.svr_cyclic.proofs.Tries.{first_going, first_begun, none_tried, still_tried}

-- ---- one choice more

chosen_push : (f : FrameTerm) (k : Cycles) (before : List Choice) (ps : List ℕ) (xs : List Choice) (p : ℕ) (x : Choice) → AreChosen f k before ps xs → IsFirst (Fits f (before ++ xs)) (tried_for f k (length (before ++ xs)) p) x → AreChosen f k before (ps ++ p ∷ []) (xs ++ x ∷ [])
chosen_push f k before [] [] p x h is = (subst (λ (cs : List Choice). IsFirst (Fits f cs) (tried_for f k (length cs) p) x) (append-nil before) is, tt)
chosen_push f k before [] (y ∷ xs) p x h is = absurd h
chosen_push f k before (q ∷ ps) [] p x h is = absurd h
chosen_push f k before (q ∷ ps) (y ∷ xs) p x h is =
    (h.0, chosen_push f k (before ++ y ∷ []) ps xs p x h.1 (subst (λ (cs : List Choice). IsFirst (Fits f cs) (tried_for f k (length cs) p) x) (sym (append_assoc before (y ∷ []) xs)) is))

used_push : (c : Call) (xs : List Choice) (x : Choice) → new_used c (xs ++ x ∷ []) ≡ new_used c xs ++ record { prop = x.prop; numbers = used_after (slice_index_or c.used x.prop []) x } ∷ []
used_push c [] x = refl
used_push c (y ∷ xs) x = ap (λ (rs : List Replacement). record { prop = y.prop; numbers = used_after (slice_index_or c.used y.prop []) y } ∷ rs) (used_push c xs x)

abbrev renewal : List Choice → Choice → List Renewal
renewal before x = cond x.cycle (record { before = before; choice = x } ∷ []) []

renewals_push : (before xs : List Choice) (x : Choice) → renewals before (xs ++ x ∷ []) ≡ renewals before xs ++ renewal (before ++ xs) x
renewals_push before [] x = append-nil (renewal before x) ∙ ap (λ (cs : List Choice). renewal cs x) (sym (append-nil before))
renewals_push before (y ∷ xs) x =
    ap (λ (rs : List Renewal). renewal before y ++ rs) (renewals_push (before ++ y ∷ []) xs x ∙ ap (λ (cs : List Choice). renewals (before ++ y ∷ []) xs ++ renewal cs x) (append_assoc before (y ∷ []) xs))
    ∙ sym (append_assoc (renewal before y) (renewals (before ++ y ∷ []) xs) (renewal (before ++ y ∷ xs) x))

renewed_push : (c : Call) (o : Over) (xs : List Renewal) (rs : List Renewed) (x : Renewal) (r : Renewed) → AreRenewed c o xs rs → r.prop ≡ x.choice.prop
    → AreRefuted o (fixed_of x.before) r.prop (Cycle r.prop) (refused_values c (length x.before) r.prop) r.proofs → AreRenewed c o (xs ++ x ∷ []) (rs ++ r ∷ [])
renewed_push c o [] [] x r h same proved = (same, proved, tt)
renewed_push c o [] (q ∷ rs) x r h same proved = absurd h
renewed_push c o (y ∷ xs) [] x r h same proved = absurd h
renewed_push c o (y ∷ xs) (q ∷ rs) x r h same proved = (h.0, h.1, renewed_push c o xs rs x r h.2 same proved)

-- as many values as properties
pub chosen_long : (f : FrameTerm) (k : Cycles) (ps : List ℕ) (xs : List Choice) → AreChosen f k [] ps xs → length xs ≡ length ps
chosen_long f k ps xs h = sym (length-map xs (λ (x : Choice). x.prop)) ∙ ap length (chosen_props f k [] ps xs h)

-- an end that is another one, over clauses and behind values that are others
pub moved : (c : Call) (layout : Encoded) (p word : ℕ) (used : List ℕ) {ks kt : List (List Lit)} {xs ys : List (ℕ × ℕ)} {d e : ValueEnd} → ks ≡ kt → xs ≡ ys → d ≡ e
    → IsValueEnd (over_call c layout ks) xs p (turned word (unused used (domain_of c.frame p))) (turned word (domain_of c.frame p)) d
    → IsValueEnd (over_call c layout kt) ys p (turned word (unused used (domain_of c.frame p))) (turned word (domain_of c.frame p)) e
moved c layout p word used {ks = ks} {kt = kt} {xs = xs} {e = e} clauses values same h =
    let left = turned word (unused used (domain_of c.frame p)) in
    let whole = turned word (domain_of c.frame p) in
    subst (λ (zs : List (ℕ × ℕ)). IsValueEnd (over_call c layout kt) zs p (turned word (unused used (domain_of c.frame p))) (turned word (domain_of c.frame p)) e) values
    (subst (λ (ls : List (List Lit)). IsValueEnd (over_call c layout ls) xs p (turned word (unused used (domain_of c.frame p))) (turned word (domain_of c.frame p)) e) clauses
    (subst (λ (x : ValueEnd). IsValueEnd (over_call c layout ks) xs p left whole x) same h))

-- ---- what is next

abbrev Below : FrameTerm → List (ℕ × ℕ) → Type 0
Below f [] = ⊤
Below f (x ∷ xs) = (x.1 < 2 ^ width_of f x.0) × Below f xs

all_below : (f : FrameTerm) (xs : List (ℕ × ℕ)) → Below f xs → All (λ (x : ℕ × ℕ). x.1 < 2 ^ width_of f x.0) xs
all_below f [] h = All-nil (λ (x : ℕ × ℕ). x.1 < 2 ^ width_of f x.0)
all_below f (x ∷ xs) h = All-cons (λ (y : ℕ × ℕ). y.1 < 2 ^ width_of f y.0) x xs h.0 (all_below f xs h.1)

module _ (c : Call) (o : Over) (props : List ℕ) (are : props ≡ cyclic_props c.frame) (i : ℕ) (lt : i < length props) (g : Progress) (far : IsSoFar c o (take i props) g) where
  abbrev p : ℕ
  p = get_or props i 0

  abbrev choices : List Choice
  choices = far.choices

  props_far : map prop_of g.chosen.items ≡ take i props
  props_far = ap (map prop_of) far.values ∙ fixed_props choices ∙ chosen_props c.frame (cycles_of c) [] (take i props) choices far.taken

  -- a place for each choice
  pub places : length far.choices ≡ i
  places = chosen_long c.frame (cycles_of c) (take i props) choices far.taken ∙ length-take-le i props (omega (arith, lt))

  -- its row is at the place behind the values
  pub row_here : (layout : Encoded) (s : SolverView) → HasClausesOf c.frame layout s → (place : ℕ) → place ≡ length g.chosen.items → IsRowOf layout p (slice_index_or (rows layout.bits.items) place [])
  row_here layout s has place is =
      let long : length g.chosen.items ≡ i = sym (length-map g.chosen.items prop_of) ∙ ap length props_far ∙ length-take-le i props (omega (arith, lt)) in
      subst (λ (k : ℕ). IsRowOf layout (get_or props i 0) (slice_index_or (rows layout.bits.items) k [])) (sym (is ∙ long))
      (subst (λ (ps : List ℕ). IsRowOf layout (get_or ps i 0) (slice_index_or (rows layout.bits.items) i [])) (sym are)
      (row_there c.frame (record layout { cnf = has.cnf }) has.encodes i (subst (λ (ps : List ℕ). i < length ps) are lt)))

  pub next_is : IsSound c.frame → IsNext c.frame g.chosen.items p
  next_is sound = record {
    others = drop (i + 1) props;
    order = ap (λ (ps : List ℕ). ps ++ p ∷ drop (i + 1) props) props_far ∙ sym (parted_at props i 0 lt) ∙ are;
    below = subst (λ (xs : List (ℕ × ℕ)). All (λ (x : ℕ × ℕ). x.1 < 2 ^ width_of c.frame x.0) xs) (sym far.values) (all_below c.frame (fixed_of choices) (chosen_below c.frame (cycles_of c) sound [] (take i props) choices far.taken));
  }

  -- the used values and the word of the property
  module _ (used : List ℕ) (is_used : used ≡ slice_index_or c.used p []) (word : ℕ) (is_word : word ≡ c.words (length choices)) where
    abbrev whole : List ℕ
    whole = domain_of c.frame p

    abbrev left_of : List ℕ → ℕ → List ℕ
    left_of us w = turned w (unused us whole)

    -- in the words of the call, and behind the choices
    in_call : (e : ValueEnd) → IsValueEnd o g.chosen.items p (left_of used word) (turned word whole) e
        → IsValueEnd o (fixed_of choices) p (left_of (slice_index_or c.used p []) (c.words (length choices))) (turned (c.words (length choices)) whole) e
    in_call e h =
        subst (λ (w : ℕ). IsValueEnd o (fixed_of choices) p (left_of (slice_index_or c.used p []) w) (turned w whole) e) is_word
        (subst (λ (us : List ℕ). IsValueEnd o (fixed_of choices) p (left_of us word) (turned word whole) e) is_used
        (subst (λ (xs : List (ℕ × ℕ)). IsValueEnd o xs p (left_of used word) (turned word whole) e) far.values h))

    module _ (frame : o.frame ≡ c.frame) where
      abbrev here : List ℕ
      here = slice_index_or c.used p []

      abbrev at : ℕ
      at = c.words (length choices)

      taken_more : (x : Choice) → IsFirst (Fits c.frame choices) (tried_for c.frame (cycles_of c) (length choices) p) x → AreChosen c.frame (cycles_of c) [] (take (i + 1) props) (choices ++ x ∷ [])
      taken_more x is =
          subst (λ (ps : List ℕ). AreChosen c.frame (cycles_of c) [] ps (choices ++ x ∷ [])) (sym (take_more props i 0 lt)) (chosen_push c.frame (cycles_of c) [] (take i props) choices p x far.taken is)

      values_more : (x : Choice) (values : List (ℕ × ℕ)) → values ≡ g.chosen.items ++ (x.prop, x.value) ∷ [] → values ≡ fixed_of (choices ++ x ∷ [])
      values_more x values e = e ∙ ap (λ (xs : List (ℕ × ℕ)). xs ++ (x.prop, x.value) ∷ []) far.values ∙ sym (map_last choices x)
        where
          map_last : (xs : List Choice) (y : Choice) → fixed_of (xs ++ y ∷ []) ≡ fixed_of xs ++ (y.prop, y.value) ∷ []
          map_last [] y = refl
          map_last (z ∷ xs) y = ap (λ (zs : List (ℕ × ℕ)). (z.prop, z.value) ∷ zs) (map_last xs y)

      uses_more : (x : Choice) (uses : List Replacement) → uses ≡ g.used ++ record { prop = x.prop; numbers = used_after (slice_index_or c.used x.prop []) x } ∷ [] → uses ≡ new_used c (choices ++ x ∷ [])
      uses_more x uses e = e ∙ ap (λ (rs : List Replacement). rs ++ record { prop = x.prop; numbers = used_after (slice_index_or c.used x.prop []) x } ∷ []) far.uses ∙ sym (used_push c choices x)

      -- the cycle goes on
      pub so_far_going : (v : ℕ) (next : Progress) → IsValueEnd o g.chosen.items p (left_of used word) (turned word whole) (end.Going v) → IsStrictlyIncreasing (inserted v used)
          → next.chosen.items ≡ g.chosen.items ++ (p, v) ∷ [] → next.cycles ≡ g.cycles → next.used ≡ g.used ++ record { prop = p; numbers = inserted v used } ∷ [] → IsSoFar c o (take (i + 1) props) next
      so_far_going v next h rises values cycles uses =
          let x : Choice = record { prop = p; value = v; cycle = false } in
          let first : IsFirstOf c.frame (fixed_of choices) p (left_of here at) v = subst (λ (f : FrameTerm). IsFirstOf f (fixed_of choices) p (left_of here at) v) frame (in_call (end.Going v) h) in
          record {
            choices = choices ++ x ∷ [];
            taken = taken_more x (first_going c.frame choices p at here whole v first);
            values = values_more x next.chosen.items values;
            uses = uses_more x next.used (uses ∙ ap (λ (us : List ℕ). g.used ++ record { prop = p; numbers = inserted v us } ∷ []) is_used);
            renewed = subst (λ (rs : List Renewed). AreRenewed c o (renewals [] (choices ++ x ∷ [])) rs) (sym cycles)
                (subst (λ (ns : List Renewal). AreRenewed c o ns g.cycles) (sym (renewals_push [] choices x ∙ append-nil (renewals [] choices))) far.renewed);
            rising = subst AreRising (sym uses) (All-push (λ (r : Replacement). IsStrictlyIncreasing r.numbers) g.used (record { prop = p; numbers = inserted v used }) far.rising rises);
          }

      -- a new cycle begins
      pub so_far_begun : (v : ℕ) (proofs : List Proof) (next : Progress) → IsValueEnd o g.chosen.items p (left_of used word) (turned word whole) (end.Begun v proofs) → IsStrictlyIncreasing (inserted v [])
          → next.chosen.items ≡ g.chosen.items ++ (p, v) ∷ [] → next.cycles ≡ g.cycles ++ record { prop = p; proofs = proofs } ∷ [] → next.used ≡ g.used ++ record { prop = p; numbers = inserted v [] } ∷ []
          → IsSoFar c o (take (i + 1) props) next
      so_far_begun v proofs next h rises values cycles uses =
          let x : Choice = record { prop = p; value = v; cycle = true } in
          let begun = in_call (end.Begun v proofs) h in
          let none : All (CannotTake c.frame (fixed_of choices) p) (left_of here at) = subst (λ (f : FrameTerm). All (CannotTake f (fixed_of choices) p) (left_of here at)) frame begun.0 in
          let first : IsFirstOf c.frame (fixed_of choices) p (turned at whole) v = subst (λ (f : FrameTerm). IsFirstOf f (fixed_of choices) p (turned at whole) v) frame begun.2 in
          record {
            choices = choices ++ x ∷ [];
            taken = taken_more x (first_begun c.frame choices p at here whole v none first);
            values = values_more x next.chosen.items values;
            uses = uses_more x next.used uses;
            renewed = subst (λ (rs : List Renewed). AreRenewed c o (renewals [] (choices ++ x ∷ [])) rs) (sym cycles)
                (subst (λ (ns : List Renewal). AreRenewed c o ns (g.cycles ++ record { prop = p; proofs = proofs } ∷ [])) (sym (renewals_push [] choices x))
                (renewed_push c o (renewals [] choices) g.cycles (record { before = choices; choice = x }) (record { prop = p; proofs = proofs }) far.renewed refl begun.1));
            rising = subst AreRising (sym uses) (All-push (λ (r : Replacement). IsStrictlyIncreasing r.numbers) g.used (record { prop = p; numbers = inserted v [] }) far.rising rises);
          }

      abbrev order : List ℕ → Type 0
      order settled = cyclic_props c.frame ≡ settled ++ p ∷ drop (i + 1) props

      in_order : order (take i props)
      in_order = sym are ∙ parted_at props i 0 lt

      pub has_none : (proofs : List Proof) → IsValueEnd o g.chosen.items p (left_of used word) (turned word whole) (end.NoneFits proofs) → HasNone c o g.chosen.items proofs
      has_none proofs h =
          let ended = in_call (end.NoneFits proofs) h in
          let none : All (CannotTake c.frame (fixed_of choices) p) (left_of here at) = subst (λ (f : FrameTerm). All (CannotTake f (fixed_of choices) p) (left_of here at)) frame ended.0 in
          let more : All (CannotTake c.frame (fixed_of choices) p) (turned at whole) = subst (λ (f : FrameTerm). All (CannotTake f (fixed_of choices) p) (turned at whole)) frame ended.1 in
          record {
            before = choices;
            prop = p;
            settled = take i props;
            others = drop (i + 1) props;
            order = in_order;
            taken = far.taken;
            none = none_tried c.frame choices p at here whole none more;
            values = far.values;
            proved = subst (λ (xs : List (ℕ × ℕ)). AreRefuted o xs p (Randc p) (turned at whole) proofs) (sym far.values) ended.2;
          }

      pub is_trying : (log : RefutationView) (first : ℕ) → IsValueEnd o g.chosen.items p (left_of used word) (turned word whole) (end.Spent log first) → IsTryingAt c o p log first
      is_trying log first h =
          let ended = in_call (end.Spent log first) h in
          let still = still_tried c.frame choices p at here whole
          (subst (λ (f : FrameTerm). IsTryingOf f (fixed_of choices) p (left_of here at) ⊎ (All (CannotTake f (fixed_of choices) p) (left_of here at) × IsTryingOf f (fixed_of choices) p (turned at whole))) frame ended.0) in
          record {
            before = choices;
            settled = take i props;
            others = drop (i + 1) props;
            order = in_order;
            taken = far.taken;
            trying = record { refused = still.0; next = still.1; later = still.2; split = still.3; none = still.4 };
            given_up = ended.1;
          }

-- before the first
pub none_so_far : (c : Call) (o : Over) (props : List ℕ) (g : Progress) → g.chosen.items ≡ [] → g.cycles ≡ [] → g.used ≡ [] → IsSoFar c o (take 0 props) g
none_so_far c o props g values cycles uses = record {
  choices = [];
  taken = tt;
  values = values;
  uses = uses;
  renewed = subst (λ (rs : List Renewed). AreRenewed c o [] rs) (sym cycles) tt;
  rising = subst AreRising (sym uses) (All-nil (λ (r : Replacement). IsStrictlyIncreasing r.numbers));
}
