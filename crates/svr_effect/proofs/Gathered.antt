-- What an expression names is among what was gathered, and is found there by its place.
use Rattle.std.proofs.Common.{◌≡◌, ℕ, zero, suc, ◌+◌, Bool, true, false, not, cond, ◌||◌, if◌then◌else◌, List, [], ◌∷◌, ◌++◌, map, refl, sym, ap, subst, ◌∙◌, true≢false, arith}
use Rattle.std.specs.Prelude.{nat_eq, slice_index, slice_index_or}
use Rattle.std.specs.List.{list_any}
use Rattle.std.proofs.lemmas.Bool.{eqb-true, eq-eqb}
use Rattle.std.proofs.lemmas.List.Folds.{list_any-append}
use Rattle.indexmap.specs.IndexSet.{insert_key}
use Rattle.svr_typed.specs.ExprTerm.{ExprTerm, typed, NodeTerm, number, prop, element, cell, size, script, loop_index, reduce, of_object, bit_select, part_select, unary, binary, choice, inside, join, copies, sign, ExprTerms, no_exprs, more_exprs, RangeTerm, one, span, RangeTerms, no_ranges, more_ranges, BoundTerm, value, dollar}
use Rattle.svr_eval.specs.Value.{val}
use Rattle.svr_eval.specs.Typed.{IsTyped, CanRead}
use Rattle.svr_world.specs.World.{WorldTerm}
use Rattle.svr_script.specs.Numbered.{reading_of_world}
use Rattle.svr_effect.specs.Objects.{numbers_in, size_in}
use Rattle.svr_effect.specs.Renamed.{EachName, EachInNode, EachInAll, EachInRanges, EachInRange, EachInBound}
use Rattle.svr_effect.specs.Mentions.{Mentioned, and_prop, and_var, mentions, node_mentions, all_mention, ranges_mention, range_mentions, bound_mentions, place_among, by_places, reading_at}
use Rattle.svr_effect.proofs.Renamed.{SameProp, SameVar, typed_same, can_read, value_same}

-- ---- numbers, each once

abbrev pub IsIn : List ℕ → ℕ → Type 0
IsIn ns q = list_any (nat_eq q) ns ≡ true

last_in : (ns : List ℕ) (q : ℕ) → IsIn (ns ++ q ∷ []) q
last_in [] q = ap (λ (b : Bool). b || false) (eq-eqb q q refl)
last_in (n ∷ ns) q = either (nat_eq q n) (last_in ns q)
  where
    either : (b : Bool) → IsIn (ns ++ q ∷ []) q → (b || list_any (nat_eq q) (ns ++ q ∷ [])) ≡ true
    either true h = refl
    either false h = h

still_in : (ns : List ℕ) (p q : ℕ) → IsIn ns q → IsIn (ns ++ p ∷ []) q
still_in ns p q h = list_any-append (nat_eq q) ns (p ∷ []) ∙ ap (λ (b : Bool). b || list_any (nat_eq q) (p ∷ [])) h

new_in : (ns : List ℕ) (p : ℕ) → IsIn (insert_key nat_eq ns p) p
new_in ns p = chosen (list_any (nat_eq p) ns) refl
  where
    chosen : (b : Bool) → list_any (nat_eq p) ns ≡ b → IsIn (if b then ns else ns ++ p ∷ []) p
    chosen true e = e
    chosen false e = last_in ns p

old_in : (ns : List ℕ) (p q : ℕ) → IsIn ns q → IsIn (insert_key nat_eq ns p) q
old_in ns p q h = chosen (list_any (nat_eq p) ns)
  where
    chosen : (b : Bool) → IsIn (if b then ns else ns ++ p ∷ []) q
    chosen true = h
    chosen false = still_in ns p q h

-- ---- what is found at the place of a number

pub position_more : (q n : ℕ) (ns : List ℕ) (b : Bool) → nat_eq q n ≡ b → place_among (n ∷ ns) q ≡ cond b zero (suc (place_among ns q))
position_more q n ns b e = ap (λ (t : Bool). cond (not t) (1 + place_among ns q) 0) e ∙ told b
  where
    told : (b : Bool) → cond (not b) (1 + place_among ns q) 0 ≡ cond b zero (suc (place_among ns q))
    told true = refl
    told false = omega arith

pub found_at : {A : Type 0} (f : ℕ → A) (d : A) (ns : List ℕ) (q : ℕ) → IsIn ns q → slice_index_or (map f ns) (place_among ns q) d ≡ f q
found_at f d [] q h = absurd (true≢false (sym h))
found_at {A = A} f d (n ∷ ns) q h = chosen (nat_eq q n) refl (found_at f d ns q)
  where
    chosen : (b : Bool) → nat_eq q n ≡ b → (IsIn ns q → slice_index_or (map f ns) (place_among ns q) d ≡ f q) → slice_index_or (map f (n ∷ ns)) (place_among (n ∷ ns) q) d ≡ f q
    chosen true e rest =
        let same : q ≡ n = eqb-true q n e in
        ap (λ (k : ℕ). slice_index_or (map f (n ∷ ns)) k d) (position_more q n ns true e) ∙ ap f (sym same)
    chosen false e rest =
        ap (λ (k : ℕ). slice_index_or (map f (n ∷ ns)) k d) (position_more q n ns false e) ∙ rest (sym (ap (λ (b : Bool). b || list_any (nat_eq q) ns) e) ∙ h)

-- ---- what an expression names is there, in each list that has all that was gathered

pub record Includes (m final : Mentioned) : Type 0 where
  pub props : (q : ℕ) → IsIn m.props q → IsIn final.props q
  pub vars : (v : ℕ) → IsIn m.vars v → IsIn final.vars v

module _ (final : Mentioned) where
  abbrev pub HasProp : ℕ → Type 0
  HasProp q = IsIn final.props q

  abbrev pub HasVar : ℕ → Type 0
  HasVar v = IsIn final.vars v

  prop_there : (m : Mentioned) (p : ℕ) → Includes (and_prop m p) final → HasProp p × Includes m final
  prop_there m p inc = (inc.props p (new_in m.props p), record { props = λ q h. inc.props q (old_in m.props p q h); vars = inc.vars })

  var_there : (m : Mentioned) (v : ℕ) → Includes (and_var m v) final → HasVar v × Includes m final
  var_there m v inc = (inc.vars v (new_in m.vars v), record { props = inc.props; vars = λ u h. inc.vars u (old_in m.vars v u h) })

  mutual
    pub all_there : (m : Mentioned) (e : ExprTerm) → Includes (mentions m e) final → EachName HasProp HasVar e × Includes m final
    all_there m (typed w s n) inc = node_there m n inc

    node_there : (m : Mentioned) (n : NodeTerm) → Includes (node_mentions m n) final → EachInNode HasProp HasVar n × Includes m final
    node_there m (number v every) inc = (tt, inc)
    node_there m (prop p) inc = prop_there m p inc
    node_there m (element p e) inc =
        let inner = all_there (and_prop m p) e inc in
        let outer = prop_there m p inner.1 in
        ((outer.0, inner.0), outer.1)
    node_there m (cell p r first second) inc =
        let y = all_there (mentions (and_prop m p) first) second inc in
        let x = all_there (and_prop m p) first y.1 in
        let outer = prop_there m p x.1 in
        ((outer.0, x.0, y.0), outer.1)
    node_there m (size p r) inc = prop_there m p inc
    node_there m (script v) inc = var_there m v inc
    node_there m (loop_index k) inc = (tt, inc)
    node_there m (reduce p op body) inc =
        let inner = all_there (and_prop m p) body inc in
        let outer = prop_there m p inner.1 in
        ((outer.0, inner.0), outer.1)
    node_there m (of_object o e) inc = all_there m e inc
    node_there m (bit_select base first low) inc =
        let y = all_there (mentions m base) first inc in
        let x = all_there m base y.1 in
        ((x.0, y.0), x.1)
    node_there m (part_select base first last low) inc =
        let z = all_there (mentions (mentions m base) first) last inc in
        let y = all_there (mentions m base) first z.1 in
        let x = all_there m base y.1 in
        ((x.0, y.0, z.0), x.1)
    node_there m (unary op e) inc = all_there m e inc
    node_there m (binary op l r) inc =
        let y = all_there (mentions m l) r inc in
        let x = all_there m l y.1 in
        ((x.0, y.0), x.1)
    node_there m (choice t met unmet) inc =
        let z = all_there (mentions (mentions m t) met) unmet inc in
        let y = all_there (mentions m t) met z.1 in
        let x = all_there m t y.1 in
        ((x.0, y.0, z.0), x.1)
    node_there m (inside l members) inc =
        let x = all_there (ranges_mention m members) l inc in
        let y = ranges_there m members x.1 in
        ((x.0, y.0), y.1)
    node_there m (join parts) inc = parts_there m parts inc
    node_there m (copies count parts) inc =
        let x = all_there (all_mention m parts) count inc in
        let y = parts_there m parts x.1 in
        ((x.0, y.0), y.1)
    node_there m (sign s e) inc = all_there m e inc

    pub parts_there : (m : Mentioned) (es : ExprTerms) → Includes (all_mention m es) final → EachInAll HasProp HasVar es × Includes m final
    parts_there m no_exprs inc = (tt, inc)
    parts_there m (more_exprs e es) inc =
        let y = parts_there (mentions m e) es inc in
        let x = all_there m e y.1 in
        ((x.0, y.0), x.1)

    ranges_there : (m : Mentioned) (rs : RangeTerms) → Includes (ranges_mention m rs) final → EachInRanges HasProp HasVar rs × Includes m final
    ranges_there m no_ranges inc = (tt, inc)
    ranges_there m (more_ranges r rs) inc =
        let y = ranges_there (range_mentions m r) rs inc in
        let x = range_there m r y.1 in
        ((x.0, y.0), x.1)

    range_there : (m : Mentioned) (r : RangeTerm) → Includes (range_mentions m r) final → EachInRange HasProp HasVar r × Includes m final
    range_there m (one e) inc = all_there m e inc
    range_there m (span low high) inc =
        let y = bound_there (bound_mentions m low) high inc in
        let x = bound_there m low y.1 in
        ((x.0, y.0), x.1)

    bound_there : (m : Mentioned) (b : BoundTerm) → Includes (bound_mentions m b) final → EachInBound HasProp HasVar b × Includes m final
    bound_there m (value e) inc = all_there m e inc
    bound_there m dollar inc = (tt, inc)

-- ---- where each name is such a one, each is another one too

module _ (P Q R S : ℕ → Type 0) (f : (p : ℕ) → P p → R p) (g : (v : ℕ) → Q v → S v) where
  mutual
    each_so : (e : ExprTerm) → EachName P Q e → EachName R S e
    each_so (typed w s n) h = node_so n h

    node_so : (n : NodeTerm) → EachInNode P Q n → EachInNode R S n
    node_so (number v every) h = tt
    node_so (prop p) h = f p h
    node_so (element p e) h = (f p h.0, each_so e h.1)
    node_so (cell p r first second) h = (f p h.0, each_so first h.1, each_so second h.2)
    node_so (size p r) h = f p h
    node_so (script v) h = g v h
    node_so (loop_index k) h = tt
    node_so (reduce p op body) h = (f p h.0, each_so body h.1)
    node_so (of_object o e) h = each_so e h
    node_so (bit_select base first low) h = (each_so base h.0, each_so first h.1)
    node_so (part_select base first last low) h = (each_so base h.0, each_so first h.1, each_so last h.2)
    node_so (unary op e) h = each_so e h
    node_so (binary op l r) h = (each_so l h.0, each_so r h.1)
    node_so (choice t met unmet) h = (each_so t h.0, each_so met h.1, each_so unmet h.2)
    node_so (inside l members) h = (each_so l h.0, ranges_so members h.1)
    node_so (join parts) h = parts_so parts h
    node_so (copies count parts) h = (each_so count h.0, parts_so parts h.1)
    node_so (sign s e) h = each_so e h

    parts_so : (es : ExprTerms) → EachInAll P Q es → EachInAll R S es
    parts_so no_exprs h = tt
    parts_so (more_exprs e es) h = (each_so e h.0, parts_so es h.1)

    ranges_so : (rs : RangeTerms) → EachInRanges P Q rs → EachInRanges R S rs
    ranges_so no_ranges h = tt
    ranges_so (more_ranges r rs) h = (range_so r h.0, ranges_so rs h.1)

    range_so : (r : RangeTerm) → EachInRange P Q r → EachInRange R S r
    range_so (one e) h = each_so e h
    range_so (span low high) h = (bound_so low h.0, bound_so high h.1)

    bound_so : (b : BoundTerm) → EachInBound P Q b → EachInBound R S b
    bound_so (value e) h = each_so e h
    bound_so dollar h = tt

-- ---- what a world has at what was gathered serves the expression

module _ (w : WorldTerm) (m : Mentioned) where
  abbrev at : ℕ → ℕ
  at p = place_among m.props p

  abbrev var : ℕ → ℕ
  var v = place_among m.vars v

  prop_same : (p : ℕ) → IsIn m.props p → SameProp at var (reading_of_world w) (reading_at w m) p
  prop_same p h = (λ i. ap (λ (ns : List ℕ). slice_index ns i) (found_at (numbers_in w) [] m.props p h), found_at (size_in w) 0 m.props p h)

  var_same : (v : ℕ) → IsIn m.vars v → SameVar at var (reading_of_world w) (reading_at w m) v
  var_same v h = found_at (slice_index w.script) 0 m.vars v h

  abbrev pub Gathers : ExprTerm → Type 0
  Gathers e = EachName (HasProp m) (HasVar m) e

  serves : (e : ExprTerm) → Gathers e → EachName (SameProp at var (reading_of_world w) (reading_at w m)) (SameVar at var (reading_of_world w) (reading_at w m)) e
  serves e h = each_so (HasProp m) (HasVar m) (SameProp at var (reading_of_world w) (reading_at w m)) (SameVar at var (reading_of_world w) (reading_at w m)) prop_same var_same e h

  -- the value by places is that over all objects
  pub value_at_places : (e : ExprTerm) → Gathers e → (n : ℕ) (s : Bool) → val (reading_at w m) [] (by_places m e) n s ≡ val (reading_of_world w) [] e n s
  value_at_places e h n s = value_same at var (reading_of_world w) (reading_at w m) [] e (serves e h) n s

  pub readable_at_places : (e : ExprTerm) → Gathers e → CanRead (reading_of_world w) 0 e → CanRead (reading_at w m) 0 (by_places m e)
  readable_at_places e h r = can_read at var (reading_of_world w) (reading_at w m) 0 e (serves e h) r

  pub typed_at_places : (e : ExprTerm) → IsTyped e → IsTyped (by_places m e)
  typed_at_places e h = typed_same at var e h

-- all that is gathered is there
pub gathers_one : (before m : Mentioned) (e : ExprTerm) → m ≡ mentions before e → EachName (HasProp m) (HasVar m) e
gathers_one before m e is = (all_there m before e (subst (λ (x : Mentioned). Includes x m) is (record { props = λ q h. h; vars = λ v h. h }))).0
