-- The values that a call chose for its cyclic properties are what the phases behind theirs are given.
use Rattle.std.proofs.Common.{◌≡◌, ◌==◌, ℕ, Bool, true, false, not, ◌||◌, List, [], ◌∷◌, ◌++◌, length, refl, sym, ◌∙◌, ap, subst, slice_index_or}
use Rattle.std.specs.List.{All}
use Rattle.std.proofs.lemmas.Bool.{eq-eqb}
use Rattle.std.proofs.lemmas.List.Elements.{All-nil, All-cons, All-append, All-map, All-weaker, All-filter}
use Rattle.svr_frame.specs.Frame.{FrameTerm, domain_of}
use Rattle.svr_phase.specs.declared.choice.Choice.{Choice}
use Rattle.svr_phase.specs.Cyclic.{Cycles, is_among, fixed_of, unused, tried, tried_for, Fits, IsFirst, AreChosen}
use Rattle.svr_phase.specs.Ends.{Call, cyclic_props, cycles_of, PassesCyclic}
use Rattle.svr_phase.specs.Chosen.{AreCyclicValues}
use Rattle.svr_phase.proofs.Fresh.{all_turned, all_of_split, chosen_own, chosen_props}
use Rattle.svr_phase.proofs.Preferred.{fixed_props}

either_true : (b c : Bool) → c ≡ true → (b || c) ≡ true
either_true true c h = refl
either_true false c h = h

-- each value is among its own list
all_among : (vs : List ℕ) → All (λ v. is_among v vs ≡ true) vs
all_among [] = All-nil (λ v. is_among v [] ≡ true)
all_among (u ∷ vs) =
    All-cons (λ v. is_among v (u ∷ vs) ≡ true) u vs (ap (λ b. b || is_among u vs) (eq-eqb u u refl))
    (All-weaker (λ v. is_among v vs ≡ true) (λ v. is_among v (u ∷ vs) ≡ true) (λ v h. either_true (u == v) (is_among v vs) h) vs (all_among vs))

-- each value that is tried is of the domain
tried_among : (prop word : ℕ) (used domain : List ℕ) → All (λ (x : Choice). is_among x.value domain ≡ true) (tried prop word used domain)
tried_among prop word used domain =
    All-append (λ (x : Choice). is_among x.value domain ≡ true) _ _
    (All-map (λ (x : Choice). is_among x.value domain ≡ true) (λ v. record { prop = prop; value = v; cycle = false }) _
    (all_turned (λ v. is_among v domain ≡ true) word (unused used domain) (All-filter (λ v. not (is_among v used)) (λ v. is_among v domain ≡ true) domain (all_among domain))))
    (All-map (λ (x : Choice). is_among x.value domain ≡ true) (λ v. record { prop = prop; value = v; cycle = true }) _ (all_turned (λ v. is_among v domain ≡ true) word domain (all_among domain)))

chosen_among : (f : FrameTerm) (k : Cycles) (before : List Choice) (p : ℕ) (x : Choice) → IsFirst (Fits f before) (tried_for f k (length before) p) x → is_among x.value (domain_of f x.prop) ≡ true
chosen_among f k before p x is =
    subst (λ (q : ℕ). is_among x.value (domain_of f q) ≡ true) (sym (chosen_own f k before p x is))
    (all_of_split (λ (y : Choice). is_among y.value (domain_of f p) ≡ true) is.refused x is.later
    (subst (λ (ts : List Choice). All (λ (y : Choice). is_among y.value (domain_of f p) ≡ true) ts) is.split (tried_among p (k.words (length before)) (slice_index_or k.used p []) (domain_of f p))))

members : (f : FrameTerm) (k : Cycles) (before : List Choice) (ps : List ℕ) (xs : List Choice) → AreChosen f k before ps xs → All (λ (x : ℕ × ℕ). is_among x.1 (domain_of f x.0) ≡ true) (fixed_of xs)
members f k before [] [] h = All-nil (λ (x : ℕ × ℕ). is_among x.1 (domain_of f x.0) ≡ true)
members f k before [] (x ∷ xs) h = absurd h
members f k before (p ∷ ps) [] h = absurd h
members f k before (p ∷ ps) (x ∷ xs) h =
    All-cons (λ (y : ℕ × ℕ). is_among y.1 (domain_of f y.0) ≡ true) (x.prop, x.value) (fixed_of xs) (chosen_among f k before p x h.0) (members f k (before ++ x ∷ []) ps xs h.1)

pub passed_values : (c : Call) (choices : List Choice) → PassesCyclic c choices → AreCyclicValues c.frame (fixed_of choices)
passed_values c choices h = record {
  props = fixed_props choices ∙ chosen_props c.frame (cycles_of c) [] (cyclic_props c.frame) choices h.chosen;
  members = members c.frame (cycles_of c) [] (cyclic_props c.frame) choices h.chosen;
}
