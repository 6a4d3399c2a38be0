-- A value that a call chooses for a cyclic property is not among the used ones that it joins.
use Rattle.std.proofs.Common.{map, ◌≡◌, ℕ, ◌%◌, Bool, true, false, not, cond, List, [], ◌∷◌, ◌++◌, length, take, drop, refl, subst, slice_index_or}
use Rattle.std.specs.List.{All}
use Rattle.std.proofs.lemmas.List.Elements.{All-nil, All-cons, All-head, All-tail, All-append, All-map, All-take, All-drop}
use Rattle.svr_frame.specs.Frame.{FrameTerm, domain_of}
use Rattle.svr_phase.specs.declared.choice.Choice.{Choice}
use Rattle.svr_phase.specs.Cyclic.{Cycles, is_among, unused, turned, tried, tried_for, IsFresh, IsFirst, Fits, AreChosen}

pub all_turned : (P : ℕ → Type 0) (word : ℕ) (vs : List ℕ) → All P vs → All P (turned word vs)
all_turned P word vs h = All-append P (drop (word % length vs) vs) (take (word % length vs) vs) (All-drop P (word % length vs) vs h) (All-take P (word % length vs) vs h)

pub all_of_split : {A : Type 0} (P : A → Type 0) (xs : List A) (y : A) (ys : List A) → All P (xs ++ y ∷ ys) → P y
all_of_split P [] y ys h = All-head P y ys h
all_of_split P (x ∷ xs) y ys h = all_of_split P xs y ys (All-tail P x (xs ++ y ∷ ys) h)

all_true_of : {A : Type 0} (P : A → Type 0) (xs : List A) → ((x : A) → P x) → All P xs
all_true_of P [] h = All-nil P
all_true_of P (x ∷ xs) h = All-cons P x xs (h x) (all_true_of P xs h)

unused_fresh : (used domain : List ℕ) → All (λ v. is_among v used ≡ false) (unused used domain)
unused_fresh used [] = All-nil (λ v. is_among v used ≡ false)
unused_fresh used (v ∷ vs) = by_test (is_among v used) refl (unused_fresh used vs)
  where
    by_test : (b : Bool) → is_among v used ≡ b → All (λ u. is_among u used ≡ false) (unused used vs)
        → All (λ u. is_among u used ≡ false) (cond (not b) (v ∷ unused used vs) (unused used vs))
    by_test true is rest = rest
    by_test false is rest = All-cons (λ u. is_among u used ≡ false) v (unused used vs) is rest

tried_fresh : (prop word : ℕ) (used domain : List ℕ) → All (IsFresh used) (tried prop word used domain)
tried_fresh prop word used domain =
    All-append (IsFresh used) _ _
    (All-map (IsFresh used) (λ v. record { prop = prop; value = v; cycle = false }) _ (all_turned (λ v. is_among v used ≡ false) word (unused used domain) (unused_fresh used domain)))
    (All-map (IsFresh used) (λ v. record { prop = prop; value = v; cycle = true }) _ (all_true_of (λ v. is_among v [] ≡ false) (turned word domain) (λ v. refl)))

pub chosen_fresh : (f : FrameTerm) (c : Cycles) (before : List Choice) (p : ℕ) (x : Choice)
    → IsFirst (Fits f before) (tried_for f c (length before) p) x → IsFresh (slice_index_or c.used p []) x
chosen_fresh f c before p x is =
    let used = slice_index_or c.used p [] in
    all_of_split (IsFresh used) is.refused x is.later
    (subst (λ (ts : List Choice). All (IsFresh used) ts) is.split (tried_fresh p (c.words (length before)) used (domain_of f p)))

-- ---- one choice for each cyclic property, in flat order

tried_own : (prop word : ℕ) (used domain : List ℕ) → All (λ (x : Choice). x.prop ≡ prop) (tried prop word used domain)
tried_own prop word used domain =
    All-append (λ (x : Choice). x.prop ≡ prop) _ _
    (All-map (λ (x : Choice). x.prop ≡ prop) (λ v. record { prop = prop; value = v; cycle = false }) _ (all_true_of (λ v. prop ≡ prop) (turned word (unused used domain)) (λ v. refl)))
    (All-map (λ (x : Choice). x.prop ≡ prop) (λ v. record { prop = prop; value = v; cycle = true }) _ (all_true_of (λ v. prop ≡ prop) (turned word domain) (λ v. refl)))

pub chosen_own : (f : FrameTerm) (c : Cycles) (before : List Choice) (p : ℕ) (x : Choice) → IsFirst (Fits f before) (tried_for f c (length before) p) x → x.prop ≡ p
chosen_own f c before p x is =
    all_of_split (λ (y : Choice). y.prop ≡ p) is.refused x is.later
    (subst (λ (ts : List Choice). All (λ (y : Choice). y.prop ≡ p) ts) is.split (tried_own p (c.words (length before)) (slice_index_or c.used p []) (domain_of f p)))

pub chosen_props : (f : FrameTerm) (c : Cycles) (before : List Choice) (ps : List ℕ) (xs : List Choice) → AreChosen f c before ps xs → map (λ (x : Choice). x.prop) xs ≡ ps
chosen_props f c before [] [] h = refl
chosen_props f c before [] (x ∷ xs) h = absurd h
chosen_props f c before (p ∷ ps) [] h = absurd h
chosen_props f c before (p ∷ ps) (x ∷ xs) h = λ i. chosen_own f c before p x h.0 i ∷ chosen_props f c (before ++ x ∷ []) ps xs h.1 i
