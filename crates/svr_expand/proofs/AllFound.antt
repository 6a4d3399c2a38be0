-- What the walk finds are the hard and the live soft occurrences of the phase.
use Rattle.std.proofs.Common.{◌≡◌, ◌==◌, ℕ, ◌+◌, ◌*◌, ℤ, pos, negsuc, Bool, true, false, not, ◌&&◌, ◌||◌, refl, sym, ◌∙◌, ap, List, [], ◌∷◌, ◌++◌, map, append-nil}
use Rattle.std.specs.Prelude.{filter, nat_lt, if◌then◌else◌, slice_index, ⊤}
use Rattle.std.proofs.lemmas.List.{map-append}
use Rattle.std.specs.List.{list_any}
use Rattle.std.specs.Ordering.{int_eq}
use Rattle.std.proofs.lemmas.List.Folds.{list_any-append}
use Rattle.std.proofs.lemmas.Bool.{false≢true, true≢false}
use Rattle.svr_typed.specs.ExprTerm.{ExprTerm, NodeTerm, number, prop, element, cell, size, script, loop_index, reduce, of_object, bit_select, part_select, unary, binary, choice, inside, join, copies, sign}
use Rattle.svr_eval.specs.Reading.{Reading}
use Rattle.svr_eval.specs.Value.{index_read}
use Rattle.svr_frame.specs.declared.part.Part.{Part}
use Rattle.svr_frame.specs.declared.part.Part.TheVariants.{Randc, Sizes, All}
use Rattle.svr_mention.specs.declared.mention.Mention.{Mention}
use Rattle.svr_mention.specs.declared.mention.Mention.TheVariants as mention
use Rattle.svr_mention.specs.declared.mention.Spot.TheVariants as spot
use Rattle.svr_frame.specs.Frame.{FrameTerm, is_random, is_cyclic, state_at}
use Rattle.svr_frame.specs.Occurrences.{Fact, stated, dealt, disabled, Place, Occurrence, occurrence, is_hard, is_disable, are_met, closed_of, stands_in_loop}
use Rattle.svr_frame.specs.Reads.{Read, of_scalar, of_element, of_cell, of_elements, of_size, property_read, is_element_read, mentions_element, reads_of, is_open, is_cell_at, has_place, covers}
use Rattle.svr_frame.specs.Phases.{shape_at, sought_sizes, belongs, is_soft_of, is_named_by, is_named_by_cell, removes, removes_by, live, node_of, is_looked_at}
use Rattle.svr_mention.specs.Mentioned.{property_mentioned, is_element, mention_of, mentions_in, is_random_one, is_other_random, is_random_element, belongs_by, counts_by, cell_spot}
use Rattle.svr_expand.specs.Expanded.{FindingTerm, asked, wished, gone, one_counted, one_found, looks_at, found_by, cell_target, targets_of, finding_of, found_among, has_place_below, is_element_at, is_at_index, is_targeted_by, is_taken_back, targets_in, wished_exprs, asked_exprs}

any_map : {A B : Type 0} (t : B → Bool) (m : A → B) (xs : List A) → list_any t (map m xs) ≡ list_any (λ x. t (m x)) xs
any_map t m [] = refl
any_map t m (x ∷ xs) = ap (λ b. t (m x) || b) (any_map t m xs)

any_same : {A : Type 0} (s t : A → Bool) (xs : List A) → ((x : A) → s x ≡ t x) → list_any s xs ≡ list_any t xs
any_same s t [] h = refl
any_same s t (x ∷ xs) h = λ k. h x k || any_same s t xs h k

any_mapped : {A B : Type 0} (t : B → Bool) (s : A → Bool) (m : A → B) (xs : List A) → ((x : A) → t (m x) ≡ s x) → list_any t (map m xs) ≡ list_any s xs
any_mapped t s m xs h = any_map t m xs ∙ any_same (λ x. t (m x)) s xs h

asked_append : (fs gs : List FindingTerm) → asked_exprs (fs ++ gs) ≡ asked_exprs fs ++ asked_exprs gs
asked_append [] gs = refl
asked_append (asked e ∷ fs) gs = ap (λ es. e ∷ es) (asked_append fs gs)
asked_append (wished e ms ∷ fs) gs = asked_append fs gs
asked_append (gone t ∷ fs) gs = asked_append fs gs

targets_append : (sz : ℕ → ℕ) (fs gs : List FindingTerm) → targets_in sz (fs ++ gs) ≡ targets_in sz fs ++ targets_in sz gs
targets_append sz [] gs = refl
targets_append sz (asked e ∷ fs) gs = targets_append sz fs gs
targets_append sz (wished e ms ∷ fs) gs = targets_append sz fs gs
targets_append sz (gone t ∷ fs) gs = ap (λ ts. t ∷ ts) (targets_append sz fs gs)

or-false : (b : Bool) → (b || false) ≡ b
or-false true = refl
or-false false = refl

module _ (f : FrameTerm) (part : Part) (ns : List ℕ) (a : Reading) where
  property_same : (r : Read) → property_mentioned (mention_of f part ns a r) ≡ property_read r
  property_same (of_scalar p) = refl
  property_same (of_element p env e) = refl
  property_same (of_cell p m env first second) = refl
  property_same (of_elements p) = refl
  property_same (of_size p) = refl

  element_same : (r : Read) → is_element (mention_of f part ns a r) ≡ is_element_read r
  element_same (of_scalar p) = refl
  element_same (of_element p env e) = refl
  element_same (of_cell p m env first second) = refl
  element_same (of_elements p) = refl
  element_same (of_size p) = refl

  random_one : (r : Read) → is_random_one f (mention_of f part ns a r) ≡ is_random f (property_read r)
  random_one r = ap (is_random f) (property_same r)

  other_random : (r : Read) → is_other_random f (mention_of f part ns a r) ≡ (is_random f (property_read r) && not (is_cyclic f (property_read r)))
  other_random r = ap (λ p. is_random f p && not (is_cyclic f p)) (property_same r)

  random_element : (r : Read) → is_random_element f (mention_of f part ns a r) ≡ (is_element_read r && is_random f (property_read r))
  random_element r = λ k. element_same r k && is_random f (property_same r k)

  -- ---- what counts

  belongs_same : (p : Part) (o : Occurrence) → belongs_by f p (stands_in_loop o.place) (mentions_in f part ns a o) ≡ belongs f p ns o
  belongs_same Randc o =
      let rs = reads_of (shape_at f ns) o in
      λ k. any_mapped (is_random_one f) (λ r. is_random f (property_read r)) (mention_of f part ns a) rs random_one k
      && not (any_mapped (is_other_random f) (λ r. is_random f (property_read r) && not (is_cyclic f (property_read r))) (mention_of f part ns a) rs other_random k)
  belongs_same Sizes o =
      λ k. not (any_mapped (is_random_element f) (λ r. is_element_read r && is_random f (property_read r)) (mention_of f part ns a) (reads_of (shape_at f ns) o) random_element k) && not (stands_in_loop o.place)
  belongs_same All o = refl

  pub hard_counts : (p : Part) (at : Place) (fact : Fact) → counts_by f p false (stands_in_loop at) (mentions_in f part ns a (occurrence at false fact)) ≡ belongs f p ns (occurrence at false fact)
  hard_counts Randc at fact = belongs_same Randc (occurrence at false fact)
  hard_counts Sizes at fact = belongs_same Sizes (occurrence at false fact)
  hard_counts All at fact = refl

  pub soft_counts : (p : Part) (at : Place) (fact : Fact) → counts_by f p true (stands_in_loop at) (mentions_in f part ns a (occurrence at true fact)) ≡ is_soft_of f p ns (occurrence at true fact)
  soft_counts Randc at fact = refl
  soft_counts Sizes at fact = belongs_same Sizes (occurrence at true fact)
  soft_counts All at fact = refl

  -- ---- hard occurrences

  abbrev is_asked : Occurrence → Bool
  is_asked o = is_hard o && belongs f part ns o

  abbrev only_if : {A : Type 0} → Bool → A → List A
  only_if b x = if b then x ∷ [] else []

  asked_if : (b : Bool) (e : ExprTerm) (ms : List Mention) → asked_exprs (only_if b (one_found false e ms)) ≡ only_if b e
  asked_if true e ms = refl
  asked_if false e ms = refl

  asked_unless : (b : Bool) (e : ExprTerm) (ms : List Mention) → asked_exprs (only_if b (one_found true e ms)) ≡ []
  asked_unless true e ms = refl
  asked_unless false e ms = refl

  asked_targets : (ts : List Mention) → asked_exprs (map gone ts) ≡ []
  asked_targets [] = refl
  asked_targets (t ∷ ts) = asked_targets ts

  asked_gone : (b : Bool) (ts : List Mention) → asked_exprs (if b then map gone ts else []) ≡ []
  asked_gone true ts = asked_targets ts
  asked_gone false ts = refl

  one_asked : (at : Place) (soft : Bool) (fact : Fact) → asked_exprs (found_by f part ns a fact (occurrence at soft fact)) ≡ only_if (is_asked (occurrence at soft fact)) (closed_of a (occurrence at soft fact))
  one_asked at true (stated e) = asked_unless (counts_by f part true (stands_in_loop at) (mentions_in f part ns a (occurrence at true (stated e)))) (closed_of a (occurrence at true (stated e))) (mentions_in f part ns a (occurrence at true (stated e)))
  one_asked at true (dealt e ds) = asked_unless (counts_by f part true (stands_in_loop at) (mentions_in f part ns a (occurrence at true (dealt e ds)))) (closed_of a (occurrence at true (dealt e ds))) (mentions_in f part ns a (occurrence at true (dealt e ds)))
  one_asked at true (disabled target) = asked_gone (looks_at f ns part at target && are_met a at.guards) (targets_of a at.env (node_of f part ns target))
  one_asked at false (stated e) =
      asked_if (counts_by f part false (stands_in_loop at) (mentions_in f part ns a (occurrence at false (stated e)))) (closed_of a (occurrence at false (stated e))) (mentions_in f part ns a (occurrence at false (stated e)))
      ∙ ap (λ b. only_if b (closed_of a (occurrence at false (stated e)))) (hard_counts part at (stated e))
  one_asked at false (dealt e ds) =
      asked_if (counts_by f part false (stands_in_loop at) (mentions_in f part ns a (occurrence at false (dealt e ds)))) (closed_of a (occurrence at false (dealt e ds))) (mentions_in f part ns a (occurrence at false (dealt e ds)))
      ∙ ap (λ b. only_if b (closed_of a (occurrence at false (dealt e ds)))) (hard_counts part at (dealt e ds))
  one_asked at false (disabled target) = asked_gone (looks_at f ns part at target && are_met a at.guards) (targets_of a at.env (node_of f part ns target))

  kept : (b : Bool) (o : Occurrence) (os : List Occurrence) → only_if b (closed_of a o) ++ map (closed_of a) os ≡ map (closed_of a) (if b then o ∷ os else os)
  kept true o os = refl
  kept false o os = refl

  -- the hard occurrences of the phase, as closed expressions
  pub asked_is : (os : List Occurrence) → asked_exprs (found_among f part ns a os) ≡ map (closed_of a) (filter is_asked os)
  asked_is [] = refl
  asked_is (o ∷ os) =
      asked_append (finding_of f part ns a o) (found_among f part ns a os)
      ∙ (λ k. one_asked o.place o.soft o.fact k ++ asked_is os k)
      ∙ kept (is_asked o) o (filter is_asked os)

-- ---- live soft occurrences

no_targets : (sz : ℕ → ℕ) (b soft : Bool) (e : ExprTerm) (ms : List Mention) → targets_in sz (if b then one_found soft e ms ∷ [] else []) ≡ []
no_targets sz true true e ms = refl
no_targets sz true false e ms = refl
no_targets sz false soft e ms = refl

all_targets : (sz : ℕ → ℕ) (ts : List Mention) → targets_in sz (map gone ts) ≡ ts
all_targets sz [] = refl
all_targets sz (t ∷ ts) = ap (λ us. t ∷ us) (all_targets sz ts)

taken_if : (sz : ℕ → ℕ) (b : Bool) (ts ms : List Mention) → is_taken_back sz (targets_in sz (if b then map gone ts else [])) ms ≡ (b && is_taken_back sz ts ms)
taken_if sz true ts ms = ap (λ us. is_taken_back sz us ms) (all_targets sz ts)
taken_if sz false ts ms = refl

-- a soft one stands for an expression or a distribution
abbrev pub AreProper : List Occurrence → Type 0
AreProper [] = ⊤
AreProper (o ∷ os) = (o.soft ≡ true → is_disable o.fact ≡ false) × AreProper os

wished_front : (sz : ℕ → ℕ) (b : Bool) (e : ExprTerm) (ms : List Mention) (fs : List FindingTerm)
    → wished_exprs sz ((if b then one_found true e ms ∷ [] else []) ++ fs) ≡ wished_exprs sz fs ++ (if b && not (is_taken_back sz (targets_in sz fs) ms) then e ∷ [] else [])
wished_front sz true e ms fs = by_test (is_taken_back sz (targets_in sz fs) ms)
  where
    by_test : (t : Bool) → wished_exprs sz fs ++ (if t then [] else e ∷ []) ≡ wished_exprs sz fs ++ (if true && not t then e ∷ [] else [])
    by_test true = refl
    by_test false = refl
wished_front sz false e ms fs = sym (append-nil (wished_exprs sz fs))

wished_behind : (sz : ℕ → ℕ) (b : Bool) (e : ExprTerm) (ms : List Mention) (fs : List FindingTerm) → wished_exprs sz ((if b then one_found false e ms ∷ [] else []) ++ fs) ≡ wished_exprs sz fs
wished_behind sz true e ms fs = refl
wished_behind sz false e ms fs = refl

wished_targets : (sz : ℕ → ℕ) (ts : List Mention) (fs : List FindingTerm) → wished_exprs sz (map gone ts ++ fs) ≡ wished_exprs sz fs
wished_targets sz [] fs = refl
wished_targets sz (t ∷ ts) fs = wished_targets sz ts fs

wished_gone : (sz : ℕ → ℕ) (b : Bool) (ts : List Mention) (fs : List FindingTerm) → wished_exprs sz ((if b then map gone ts else []) ++ fs) ≡ wished_exprs sz fs
wished_gone sz true ts fs = wished_targets sz ts fs
wished_gone sz false ts fs = refl

-- whether a phase has soft items
abbrev acts : Part → Bool
acts Randc = false
acts Sizes = true
acts All = true

module _ (f : FrameTerm) (part : Part) (ns : List ℕ) (acting : acts part ≡ true) where
  abbrev a : Reading
  a = state_at f ns

  abbrev sz : ℕ → ℕ
  sz = λ p. slice_index ns p

  looks_same : (p : Part) → acts p ≡ true → (at : Place) (target : ExprTerm) → looks_at f ns p at target ≡ is_looked_at f part ns p at target
  looks_same Randc h at target = absurd (false≢true h)
  looks_same Sizes h at target = refl
  looks_same All h at target = refl

  place_same : (p : ℕ) (z : ℤ) → has_place_below sz p z ≡ has_place a p z
  place_same p (pos i) = refl
  place_same p (negsuc i) = refl

  index_same : (p : ℕ) (z w : ℤ) (b : Bool) → is_at_index sz p z (if b then spot.Anywhere else spot.At w) ≡ (if b then has_place a p z else int_eq z w)
  index_same p z w true = place_same p z
  index_same p z w false = refl

  spot_same : (p m : ℕ) (z x y : ℤ) → is_at_index sz p z (cell_spot m x y) ≡ is_cell_at m x y z
  spot_same p m z (pos i) (pos j) = by (nat_lt j m)
    where
      by : (b : Bool) → is_at_index sz p z (if b then spot.At (pos (i * m + j)) else spot.Nowhere) ≡ (b && int_eq z (pos (i * m + j)))
      by true = refl
      by false = refl
  spot_same p m z (pos i) (negsuc j) = refl
  spot_same p m z (negsuc i) y = refl

  cell_same : (p m : ℕ) (z x y : ℤ) (b : Bool) → is_at_index sz p z (if b then spot.Anywhere else cell_spot m x y) ≡ (if b then has_place a p z else is_cell_at m x y z)
  cell_same p m z x y true = place_same p z
  cell_same p m z x y false = spot_same p m z x y

  covered : (p : ℕ) (z : ℤ) (r : Read) → is_element_at sz p z (mention_of f part ns a r) ≡ covers (shape_at f ns) (sought_sizes f part) a p z r
  covered p z (of_scalar q) = refl
  covered p z (of_element q env e) = ap (λ b. (p == q) && b) (index_same p z (index_read a env e) (is_open (shape_at f ns) (sought_sizes f part) e))
  covered p z (of_cell q m env first second) =
      ap (λ b. (p == q) && b)
      (cell_same p m z (index_read a env first) (index_read a env second) (is_open (shape_at f ns) (sought_sizes f part) first || is_open (shape_at f ns) (sought_sizes f part) second))
  covered p z (of_elements q) = ap (λ b. (p == q) && b) (place_same p z)
  covered p z (of_size q) = refl

  cell_named : (p m i j : ℕ) (o : Occurrence) (b : Bool)
      → is_taken_back sz (cell_target p (if b then spot.At (pos (i * m + j)) else spot.Nowhere)) (mentions_in f part ns a o) ≡ (b && mentions_element (shape_at f ns) (sought_sizes f part) a p (pos (i * m + j)) o)
  cell_named p m i j o true =
      or-false (list_any (is_targeted_by sz (mention.Element p (spot.At (pos (i * m + j))))) (mentions_in f part ns a o))
      ∙ any_mapped (is_targeted_by sz (mention.Element p (spot.At (pos (i * m + j))))) (covers (shape_at f ns) (sought_sizes f part) a p (pos (i * m + j))) (mention_of f part ns a) (reads_of (shape_at f ns) o) (covered p (pos (i * m + j)))
  cell_named p m i j o false = refl

  at_cell : (p m : ℕ) (x y : ℤ) (o : Occurrence) → is_taken_back sz (cell_target p (cell_spot m x y)) (mentions_in f part ns a o) ≡ is_named_by_cell f part ns p m x y o
  at_cell p m (pos i) (pos j) o = cell_named p m i j o (nat_lt j m)
  at_cell p m (pos i) (negsuc j) o = refl
  at_cell p m (negsuc i) y o = refl

  named : (env : List ℕ) (n : NodeTerm) (o : Occurrence) → is_taken_back sz (targets_of a env n) (mentions_in f part ns a o) ≡ is_named_by f part ns env n o
  named env (number v every) o = refl
  named env (prop p) o =
      or-false (list_any (is_targeted_by sz (mention.Scalar p)) (mentions_in f part ns a o))
      ∙ any_mapped (is_targeted_by sz (mention.Scalar p)) (λ r. property_read r == p) (mention_of f part ns a) (reads_of (shape_at f ns) o) (λ r. ap (λ q. q == p) (property_same f part ns a r))
  named env (element p e) o =
      or-false (list_any (is_targeted_by sz (mention.Element p (spot.At (index_read a env e)))) (mentions_in f part ns a o))
      ∙ any_mapped (is_targeted_by sz (mention.Element p (spot.At (index_read a env e)))) (covers (shape_at f ns) (sought_sizes f part) a p (index_read a env e)) (mention_of f part ns a) (reads_of (shape_at f ns) o) (covered p (index_read a env e))
  named env (cell p m first second) o = at_cell p m (index_read a env first) (index_read a env second) o
  named env (size p m) o = refl
  named env (script v) o = refl
  named env (loop_index k) o = refl
  named env (reduce p op body) o = refl
  named env (of_object x e) o = refl
  named env (bit_select base first low) o = refl
  named env (part_select base first last low) o = refl
  named env (unary op e) o = refl
  named env (binary op l r) o = refl
  named env (choice t met unmet) o = refl
  named env (inside l rs) o = refl
  named env (join parts) o = refl
  named env (copies count parts) o = refl
  named env (sign as_signed e) o = refl

  removed_one : (at : Place) (soft : Bool) (fact : Fact) (o : Occurrence)
      → is_taken_back sz (targets_in sz (found_by f part ns a fact (occurrence at soft fact))) (mentions_in f part ns a o) ≡ removes_by f part ns at fact o
  removed_one at soft (stated e) o =
      ap (λ us. is_taken_back sz us (mentions_in f part ns a o)) (no_targets sz (counts_by f part soft (stands_in_loop at) (mentions_in f part ns a (occurrence at soft (stated e)))) soft (closed_of a (occurrence at soft (stated e))) (mentions_in f part ns a (occurrence at soft (stated e))))
  removed_one at soft (dealt e ds) o =
      ap (λ us. is_taken_back sz us (mentions_in f part ns a o)) (no_targets sz (counts_by f part soft (stands_in_loop at) (mentions_in f part ns a (occurrence at soft (dealt e ds)))) soft (closed_of a (occurrence at soft (dealt e ds))) (mentions_in f part ns a (occurrence at soft (dealt e ds))))
  removed_one at soft (disabled target) o =
      taken_if sz (looks_at f ns part at target && are_met a at.guards) (targets_of a at.env (node_of f part ns target)) (mentions_in f part ns a o)
      ∙ (λ k. (looks_same part acting at target k && are_met a at.guards) && named at.env (node_of f part ns target) o k)

  removed : (os : List Occurrence) (o : Occurrence) → is_taken_back sz (targets_in sz (found_among f part ns a os)) (mentions_in f part ns a o) ≡ list_any (λ d. removes f part ns d o) os
  removed [] o = refl
  removed (d ∷ os) o =
      ap (λ us. is_taken_back sz us (mentions_in f part ns a o)) (targets_append sz (finding_of f part ns a d) (found_among f part ns a os))
      ∙ list_any-append (λ t. list_any (is_targeted_by sz t) (mentions_in f part ns a o)) (targets_in sz (finding_of f part ns a d)) (targets_in sz (found_among f part ns a os))
      ∙ (λ k. removed_one d.place d.soft d.fact o k || removed os o k)

  live_more : (b : Bool) (o : Occurrence) (os : List Occurrence) → map (closed_of a) os ++ (if b then closed_of a o ∷ [] else []) ≡ map (closed_of a) (os ++ (if b then o ∷ [] else []))
  live_more true o os = sym (map-append (closed_of a) os (o ∷ []))
  live_more false o os = sym (map-append (closed_of a) os [])

  never_soft : (p : Part) (at : Place) (fact : Fact) → is_soft_of f p ns (occurrence at false fact) ≡ false
  never_soft Randc at fact = refl
  never_soft Sizes at fact = refl
  never_soft All at fact = refl

  no_more : (b : Bool) (o : Occurrence) (os : List Occurrence) (es : List ExprTerm) → b ≡ false → es ≡ map (closed_of a) os → es ≡ map (closed_of a) (os ++ (if b then o ∷ [] else []))
  no_more true o os es h k = cc
  no_more false o os es h k = k ∙ ap (map (closed_of a)) (sym (append-nil os))

  and_false : (b c : Bool) → b ≡ false → (b && c) ≡ false
  and_false true c h = cc
  and_false false c h = refl

  soft_case : (os : List Occurrence) (at : Place) (fact : Fact) → wished_exprs sz (found_among f part ns a os) ≡ map (closed_of a) (live f part ns os)
      → wished_exprs sz (one_counted f part ns a (occurrence at true fact) ++ found_among f part ns a os) ≡ map (closed_of a) (live f part ns (occurrence at true fact ∷ os))
  soft_case os at fact rest =
      wished_front sz (counts_by f part true (stands_in_loop at) (mentions_in f part ns a (occurrence at true fact))) (closed_of a (occurrence at true fact)) (mentions_in f part ns a (occurrence at true fact)) (found_among f part ns a os)
      ∙ (λ k. rest k ++ (if soft_counts f part ns a part at fact k && not (removed os (occurrence at true fact) k) then closed_of a (occurrence at true fact) ∷ [] else []))
      ∙ live_more (is_soft_of f part ns (occurrence at true fact) && not (list_any (λ d. removes f part ns d (occurrence at true fact)) os)) (occurrence at true fact) (live f part ns os)

  hard_case : (os : List Occurrence) (at : Place) (fact : Fact) → wished_exprs sz (found_among f part ns a os) ≡ map (closed_of a) (live f part ns os)
      → wished_exprs sz (found_by f part ns a fact (occurrence at false fact) ++ found_among f part ns a os) ≡ wished_exprs sz (found_among f part ns a os)
      → wished_exprs sz (found_by f part ns a fact (occurrence at false fact) ++ found_among f part ns a os) ≡ map (closed_of a) (live f part ns (occurrence at false fact ∷ os))
  hard_case os at fact rest k =
      k ∙ no_more (is_soft_of f part ns (occurrence at false fact) && not (list_any (λ d. removes f part ns d (occurrence at false fact)) os)) (occurrence at false fact) (live f part ns os) (wished_exprs sz (found_among f part ns a os))
      (and_false (is_soft_of f part ns (occurrence at false fact)) (not (list_any (λ d. removes f part ns d (occurrence at false fact)) os)) (never_soft part at fact)) rest

  by_kind : (os : List Occurrence) (at : Place) (soft : Bool) (fact : Fact) → (soft ≡ true → is_disable fact ≡ false) → wished_exprs sz (found_among f part ns a os) ≡ map (closed_of a) (live f part ns os)
      → wished_exprs sz (found_by f part ns a fact (occurrence at soft fact) ++ found_among f part ns a os) ≡ map (closed_of a) (live f part ns (occurrence at soft fact ∷ os))
  by_kind os at true (stated e) k rest = soft_case os at (stated e) rest
  by_kind os at true (dealt e ds) k rest = soft_case os at (dealt e ds) rest
  by_kind os at true (disabled target) k rest = absurd (true≢false (k refl))
  by_kind os at false (stated e) k rest =
      hard_case os at (stated e) rest
      (wished_behind sz (counts_by f part false (stands_in_loop at) (mentions_in f part ns a (occurrence at false (stated e)))) (closed_of a (occurrence at false (stated e))) (mentions_in f part ns a (occurrence at false (stated e))) (found_among f part ns a os))
  by_kind os at false (dealt e ds) k rest =
      hard_case os at (dealt e ds) rest
      (wished_behind sz (counts_by f part false (stands_in_loop at) (mentions_in f part ns a (occurrence at false (dealt e ds)))) (closed_of a (occurrence at false (dealt e ds))) (mentions_in f part ns a (occurrence at false (dealt e ds))) (found_among f part ns a os))
  by_kind os at false (disabled target) k rest = hard_case os at (disabled target) rest (wished_gone sz (looks_at f ns part at target && are_met a at.guards) (targets_of a at.env (node_of f part ns target)) (found_among f part ns a os))

  wished_in : (os : List Occurrence) → AreProper os → wished_exprs sz (found_among f part ns a os) ≡ map (closed_of a) (live f part ns os)
  wished_in [] h = refl
  wished_in (o ∷ os) h = by_kind os o.place o.soft o.fact h.0 (wished_in os h.1)

-- ---- phase Randc has no soft items

module _ (f : FrameTerm) (ns : List ℕ) (sz : ℕ → ℕ) (b : Reading) where
  none_one : (at : Place) (soft : Bool) (fact : Fact) (fs : List FindingTerm) → wished_exprs sz (found_by f Randc ns b fact (occurrence at soft fact) ++ fs) ≡ wished_exprs sz fs
  none_one at true (stated e) fs = refl
  none_one at true (dealt e ds) fs = refl
  none_one at true (disabled target) fs = refl
  none_one at false (stated e) fs =
      wished_behind sz (counts_by f Randc false (stands_in_loop at) (mentions_in f Randc ns b (occurrence at false (stated e)))) (closed_of b (occurrence at false (stated e))) (mentions_in f Randc ns b (occurrence at false (stated e))) fs
  none_one at false (dealt e ds) fs =
      wished_behind sz (counts_by f Randc false (stands_in_loop at) (mentions_in f Randc ns b (occurrence at false (dealt e ds)))) (closed_of b (occurrence at false (dealt e ds))) (mentions_in f Randc ns b (occurrence at false (dealt e ds))) fs
  none_one at false (disabled target) fs = refl

  none_wished : (os : List Occurrence) → wished_exprs sz (found_among f Randc ns b os) ≡ []
  none_wished [] = refl
  none_wished (o ∷ os) = none_one o.place o.soft o.fact (found_among f Randc ns b os) ∙ none_wished os

none_live : (f : FrameTerm) (ns : List ℕ) (os : List Occurrence) → live f Randc ns os ≡ []
none_live f ns [] = refl
none_live f ns (o ∷ os) = append-nil (live f Randc ns os) ∙ none_live f ns os

-- the live soft occurrences of the phase, as closed expressions
pub wished_is : (f : FrameTerm) (part : Part) (ns : List ℕ) (os : List Occurrence) → AreProper os → wished_exprs (state_at f ns).size (found_among f part ns (state_at f ns) os) ≡ map (closed_of (state_at f ns)) (live f part ns os)
wished_is f Randc ns os h = none_wished f ns (state_at f ns).size (state_at f ns) os ∙ ap (map (closed_of (state_at f ns))) (sym (none_live f ns os))
wished_is f Sizes ns os h = wished_in f Sizes ns refl os h
wished_is f All ns os h = wished_in f All ns refl os h
