-- The occurrences of the items of a sound frame read what stands in it, and their closed expressions have their truth in every phase.
use Rattle.std.proofs.Common.{◌≡◌, ◌<◌, ◌≤◌, ◌==◌, ℕ, zero, suc, ◌+◌, ◌*◌, ◌/◌, ℤ, pos, negsuc, Bool, true, false, not, ◌&&◌, ◌||◌, refl, sym, ◌∙◌, ap, List, [], ◌∷◌, ◌++◌, map, Option, None, Some}
use Rattle.std.specs.Prelude.{⊤, filter, slice_index, nat_lt, if◌then◌else◌}
use Rattle.std.specs.List.{list_any}
use Rattle.std.proofs.lemmas.List.Folds.{list_any-append}
use Rattle.svr_operator.specs.declared.Share.{Share}
use Rattle.svr_typed.specs.ExprTerm.{ExprTerm, typed, NodeTerm, number, prop, element, cell, size, script, loop_index, reduce, of_object, bit_select, part_select, unary, binary, choice, inside, join, copies, sign, ExprTerms, no_exprs, more_exprs, RangeTerm, one, span, RangeTerms, no_ranges, more_ranges, BoundTerm, value, dollar}
use Rattle.svr_typed.specs.ItemTerm.{DistTerm, ItemTerm, plain, unique, implies, branch, foreach, disable, solve, ItemTerms, no_items, more_items, ElseTerm, no_else, else_items}
use Rattle.svr_eval.specs.Reading.{Reading}
use Rattle.svr_eval.specs.Value.{alone, is_set, size_of, sign_of, element_at, cell_at, index_read, node_property}
use Rattle.svr_eval.specs.Holds.{has_weight}
use Rattle.svr_frame.specs.declared.part.Part.{Part}
use Rattle.svr_frame.specs.declared.part.Part.TheVariants.{Randc, Sizes, All}
use Rattle.svr_frame.specs.declared.slot.Slot.{Slot}
use Rattle.svr_frame.specs.declared.slot.Slot.TheVariants.{Scalar, Element, Size}
use Rattle.svr_frame.specs.Frame.{FrameTerm, is_array, is_random, is_cyclic, has_free_size, props_of, state_at, state_sizes}
use Rattle.svr_frame.specs.Closed.{index_number}
use Rattle.svr_frame.specs.Occurrences.{Guard, Place, Fact, stated, dealt, disabled, Occurrence, Shape, outside, under, within, elements_from, member_exprs, members, unequal, pairs, each_below, each_of_row, fact_of, occurrence, occur, all_occur, else_occur, is_true, closed_of}
use Rattle.svr_frame.specs.Reads.{Read, of_scalar, of_element, of_cell, of_elements, of_size, property_read, reads, node_reads, exprs_read, ranges_read, range_reads, bound_reads, weight_reads, dist_reads, fact_reads, guards_read, reads_of, turns}
use Rattle.svr_frame.specs.Phases.{cyclic_slots, size_slots, scalar_slots, unknowns_of, shape_at, active_at}
use Rattle.svr_frame.specs.Satisfaction.{is_size_of, IsAssignment}
use Rattle.svr_frame.specs.Sound.{HasType, ExprIsIn, NodeIsIn, ExprsAreIn, RangesAreIn, RangeIsIn, BoundIsIn, WeightIsIn, MembersAreIn, DistIsIn, TargetIsIn, ItemIsIn, ItemsAreIn, ElseIsIn, IsSound, SizesFit, is_of_state}
use Rattle.svr_frame_laws.proofs.Mentions.{SameRead, AllSame, SameAround, val_same}
use Rattle.svr_frame_laws.proofs.Truth.{SameWeights, FactSameWeights, closed_is_true}
use Rattle.svr_frame_laws.proofs.Answers.{no_size, no_size_scalar, scalar_not_free, scalar_one}
use Rattle.svr_frame.proofs.Blind.{any_reads}
use Rattle.svr_frame_laws.proofs.Unmentioned.{AreReads, not_sought, told_apart, none_of, not_true}

module _ (f : FrameTerm) where
  AreReads-append : (xs ys : List Read) → AreReads f xs → AreReads f ys → AreReads f (xs ++ ys)
  AreReads-append [] ys h k = k
  AreReads-append (x ∷ xs) ys h k = (h.0, AreReads-append xs ys h.1 k)

  AreReads-below : (g : ℕ → List Read) → ((i : ℕ) → AreReads f (g i)) → (n : ℕ) → AreReads f (each_below n g)
  AreReads-below g h zero = tt
  AreReads-below g h (suc n) = AreReads-append (each_below n g) (g n) (AreReads-below g h n) (h n)

  module _ (ns : List ℕ) where
    property_reads : (p : ℕ) (c : Bool) → is_array f p ≡ c → AreReads f ((if c then of_elements p else of_scalar p) ∷ [])
    property_reads p true e = (e, tt)
    property_reads p false e = (e, tt)

    mutual
      expr_reads : (env : List ℕ) (whole : Bool) (e : ExprTerm) → ExprIsIn f whole e → AreReads f (reads (shape_at f ns) env e)
      expr_reads env whole (typed w s n) h = node_reads_are env whole w s n h

      node_reads_are : (env : List ℕ) (whole : Bool) (w : ℕ) (s : Bool) (n : NodeTerm) → NodeIsIn f whole w s n → AreReads f (node_reads (shape_at f ns) env n)
      node_reads_are env whole w s (number v every) h = tt
      node_reads_are env whole w s (prop p) h = property_reads p (is_array f p) refl
      node_reads_are env whole w s (element p e) h = (h.1, expr_reads env false e h.2)
      node_reads_are env whole w s (cell p m first second) h =
          (h.1, AreReads-append (reads (shape_at f ns) env first) (reads (shape_at f ns) env second) (expr_reads env false first h.3) (expr_reads env false second h.4))
      node_reads_are env whole w s (size p m) h = (tt, tt)
      node_reads_are env whole w s (script v) h = tt
      node_reads_are env whole w s (loop_index k) h = tt
      node_reads_are env whole w s (reduce p op body) h = (h.1, AreReads-below (λ i. reads (shape_at f ns) (env ++ i ∷ []) body) (λ i. expr_reads (env ++ i ∷ []) false body h.2) (turns (slice_index ns p)))
      node_reads_are env whole w s (of_object o e) h = absurd h
      node_reads_are env whole w s (bit_select base first low) h =
          AreReads-append (reads (shape_at f ns) env base) (reads (shape_at f ns) env first) (expr_reads env false base h.0) (expr_reads env false first h.1)
      node_reads_are env whole w s (part_select base first last low) h =
          AreReads-append (reads (shape_at f ns) env base ++ reads (shape_at f ns) env first) (reads (shape_at f ns) env last)
          (AreReads-append (reads (shape_at f ns) env base) (reads (shape_at f ns) env first) (expr_reads env false base h.0) (expr_reads env false first h.1)) (expr_reads env false last h.2)
      node_reads_are env whole w s (unary op e) h = expr_reads env false e h
      node_reads_are env whole w s (binary op l r) h = AreReads-append (reads (shape_at f ns) env l) (reads (shape_at f ns) env r) (expr_reads env false l h.0) (expr_reads env false r h.1)
      node_reads_are env whole w s (choice t met unmet) h =
          AreReads-append (reads (shape_at f ns) env t ++ reads (shape_at f ns) env met) (reads (shape_at f ns) env unmet)
          (AreReads-append (reads (shape_at f ns) env t) (reads (shape_at f ns) env met) (expr_reads env false t h.0) (expr_reads env false met h.1)) (expr_reads env false unmet h.2)
      node_reads_are env whole w s (inside l rs) h = AreReads-append (reads (shape_at f ns) env l) (ranges_read (shape_at f ns) env rs) (expr_reads env false l h.0) (ranges_are env rs h.1)
      node_reads_are env whole w s (join parts) h = exprs_are env false parts h
      node_reads_are env whole w s (copies count parts) h = AreReads-append (reads (shape_at f ns) env count) (exprs_read (shape_at f ns) env parts) (expr_reads env false count h.0) (exprs_are env false parts h.1)
      node_reads_are env whole w s (sign as_signed e) h = expr_reads env false e h

      exprs_are : (env : List ℕ) (whole : Bool) (es : ExprTerms) → ExprsAreIn f whole es → AreReads f (exprs_read (shape_at f ns) env es)
      exprs_are env whole no_exprs h = tt
      exprs_are env whole (more_exprs e es) h = AreReads-append (reads (shape_at f ns) env e) (exprs_read (shape_at f ns) env es) (expr_reads env whole e h.0) (exprs_are env whole es h.1)

      ranges_are : (env : List ℕ) (rs : RangeTerms) → RangesAreIn f rs → AreReads f (ranges_read (shape_at f ns) env rs)
      ranges_are env no_ranges h = tt
      ranges_are env (more_ranges r rs) h = AreReads-append (range_reads (shape_at f ns) env r) (ranges_read (shape_at f ns) env rs) (range_is env true r h.0) (ranges_are env rs h.1)

      range_is : (env : List ℕ) (whole : Bool) (r : RangeTerm) → RangeIsIn f whole r → AreReads f (range_reads (shape_at f ns) env r)
      range_is env whole (one e) h = expr_reads env whole e h
      range_is env whole (span low high) h = AreReads-append (bound_reads (shape_at f ns) env low) (bound_reads (shape_at f ns) env high) (bound_is env low h.0) (bound_is env high h.1)

      bound_is : (env : List ℕ) (b : BoundTerm) → BoundIsIn f b → AreReads f (bound_reads (shape_at f ns) env b)
      bound_is env (value e) h = expr_reads env false e h
      bound_is env dollar h = tt

    weight_is : (env : List ℕ) (w : Option (Share × ExprTerm)) → WeightIsIn f w → AreReads f (weight_reads (shape_at f ns) env w)
    weight_is env None h = tt
    weight_is env (Some w) h = expr_reads env false w.1 h.0

    dist_is : (env : List ℕ) (ds : List DistTerm) → MembersAreIn f ds → AreReads f (dist_reads (shape_at f ns) env ds)
    dist_is env [] h = tt
    dist_is env (d ∷ ds) h =
        AreReads-append (range_reads (shape_at f ns) env d.range ++ weight_reads (shape_at f ns) env d.weight) (dist_reads (shape_at f ns) env ds)
        (AreReads-append (range_reads (shape_at f ns) env d.range) (weight_reads (shape_at f ns) env d.weight) (range_is env false d.range h.0) (weight_is env d.weight h.1)) (dist_is env ds h.2)

  -- ---- occurrences that stand in the frame

  abbrev pub FactIsIn : Fact → Type 0
  FactIsIn (stated e) = ExprIsIn f false e
  FactIsIn (dealt e ds) = ExprIsIn f false e × MembersAreIn f ds
  FactIsIn (disabled target) = ExprIsIn f true target

  target_in : (t : ExprTerm) → TargetIsIn f t → ExprIsIn f true t
  target_in (typed w s n) h = h.0

  abbrev pub GuardsAreIn : List Guard → Type 0
  GuardsAreIn [] = ⊤
  GuardsAreIn (g ∷ gs) = ExprIsIn f false g.test × GuardsAreIn gs

  abbrev pub OccurrenceIsIn : Occurrence → Type 0
  OccurrenceIsIn o = GuardsAreIn o.place.guards × FactIsIn o.fact

  abbrev pub AllAreIn : List Occurrence → Type 0
  AllAreIn [] = ⊤
  AllAreIn (o ∷ os) = OccurrenceIsIn o × AllAreIn os

  AllAreIn-append : (os ps : List Occurrence) → AllAreIn os → AllAreIn ps → AllAreIn (os ++ ps)
  AllAreIn-append [] ps h k = k
  AllAreIn-append (o ∷ os) ps h k = (h.0, AllAreIn-append os ps h.1 k)

  module _ (ns : List ℕ) where
    fact_reads_are : (env : List ℕ) (x : Fact) → FactIsIn x → AreReads f (fact_reads (shape_at f ns) env x)
    fact_reads_are env (stated e) h = expr_reads ns env false e h
    fact_reads_are env (dealt e ds) h = AreReads-append (reads (shape_at f ns) env e) (dist_reads (shape_at f ns) env ds) (expr_reads ns env false e h.0) (dist_is ns env ds h.1)
    fact_reads_are env (disabled target) h = expr_reads ns env true target h

    guards_reads_are : (gs : List Guard) → GuardsAreIn gs → AreReads f (guards_read (shape_at f ns) gs)
    guards_reads_are [] h = tt
    guards_reads_are (g ∷ gs) h = AreReads-append (reads (shape_at f ns) g.env g.test) (guards_read (shape_at f ns) gs) (expr_reads ns g.env false g.test h.0) (guards_reads_are gs h.1)

    sizes_are : (ps : List ℕ) → AreReads f (map of_size ps)
    sizes_are [] = tt
    sizes_are (p ∷ ps) = (tt, sizes_are ps)

    pub reads_are : (o : Occurrence) → OccurrenceIsIn o → AreReads f (reads_of (shape_at f ns) o)
    reads_are o h =
        AreReads-append (fact_reads (shape_at f ns) o.place.env o.fact ++ guards_read (shape_at f ns) o.place.guards) (map of_size o.place.over)
        (AreReads-append (fact_reads (shape_at f ns) o.place.env o.fact) (guards_read (shape_at f ns) o.place.guards) (fact_reads_are o.place.env o.fact h.1) (guards_reads_are o.place.guards h.0))
        (sizes_are o.place.over)

    -- ---- all occurrences of items that stand in it

    abbrev ExprsIn : List ExprTerm → Type 0
    ExprsIn [] = ⊤
    ExprsIn (e ∷ es) = ExprIsIn f false e × ExprsIn es

    ExprsIn-append : (xs ys : List ExprTerm) → ExprsIn xs → ExprsIn ys → ExprsIn (xs ++ ys)
    ExprsIn-append [] ys h k = k
    ExprsIn-append (x ∷ xs) ys h k = (h.0, ExprsIn-append xs ys h.1 k)

    elements_in : (p w : ℕ) (s : Bool) (i n : ℕ) → HasType f p w s → is_array f p ≡ true → ExprsIn (elements_from p w s i n)
    elements_in p w s i zero h arr = tt
    elements_in p w s i (suc n) h arr = ((h, arr, tt), elements_in p w s (suc i) n h arr)

    property_in : (p w : ℕ) (s c : Bool) → is_array f p ≡ c → HasType f p w s → ExprsIn (if c then elements_from p w s 0 (slice_index ns p) else typed w s (prop p) ∷ [])
    property_in p w s true e h = elements_in p w s 0 (slice_index ns p) h e
    property_in p w s false e h = ((h, λ k. let no : false ≡ true = sym e ∙ k in cc), tt)

    member_in : (w : ℕ) (s : Bool) (n : NodeTerm) → NodeIsIn f true w s n → ExprsIn (member_exprs (shape_at f ns) (typed w s n) (node_property n))
    member_in w s (number v every) h = (h, tt)
    member_in w s (prop p) h = property_in p w s (is_array f p) refl h.0
    member_in w s (element p e) h = (h, tt)
    member_in w s (cell p m first second) h = (h, tt)
    member_in w s (size p m) h = (h, tt)
    member_in w s (script v) h = (h, tt)
    member_in w s (loop_index k) h = (h, tt)
    member_in w s (reduce p op body) h = (h, tt)
    member_in w s (of_object o e) h = absurd h
    member_in w s (bit_select base first low) h = (h, tt)
    member_in w s (part_select base first last low) h = (h, tt)
    member_in w s (unary op e) h = (h, tt)
    member_in w s (binary op l r) h = (h, tt)
    member_in w s (choice t met unmet) h = (h, tt)
    member_in w s (inside l rs) h = (h, tt)
    member_in w s (join parts) h = (h, tt)
    member_in w s (copies count parts) h = (h, tt)
    member_in w s (sign as_signed e) h = (h, tt)

    members_in : (es : ExprTerms) → ExprsAreIn f true es → ExprsIn (members (shape_at f ns) es)
    members_in no_exprs h = tt
    members_in (more_exprs (typed w s n) es) h = ExprsIn-append (member_exprs (shape_at f ns) (typed w s n) (node_property n)) (members (shape_at f ns) es) (member_in w s n h.0) (members_in es h.1)

    against_in : (x : ExprTerm) → ExprIsIn f false x → (ys : List ExprTerm) → ExprsIn ys → ExprsIn (map (unequal x) ys)
    against_in x hx [] h = tt
    against_in x hx (y ∷ ys) h = ((hx, h.0), against_in x hx ys h.1)

    pairs_in : (xs : List ExprTerm) → ExprsIn xs → ExprsIn (pairs xs)
    pairs_in [] h = tt
    pairs_in (x ∷ xs) h = ExprsIn-append (map (unequal x) xs) (pairs xs) (against_in x h.0 xs h.1) (pairs_in xs h.1)

    leaves_in : (at : Place) → GuardsAreIn at.guards → (es : List ExprTerm) → ExprsIn es → AllAreIn (map (λ e. occurrence at false (stated e)) es)
    leaves_in at g [] h = tt
    leaves_in at g (e ∷ es) h = ((g, h.0), leaves_in at g es h.1)

    each_in : (k : ℕ → List Occurrence) → ((i : ℕ) → AllAreIn (k i)) → (n : ℕ) → AllAreIn (each_below n k)
    each_in k h zero = tt
    each_in k h (suc n) = AllAreIn-append (each_below n k) (k n) (each_in k h n) (h n)

    row_in : (p m names : ℕ) (k : Place → List Occurrence) → ((at : Place) → GuardsAreIn at.guards → AllAreIn (k at)) → (at : Place) → GuardsAreIn at.guards → AllAreIn (each_of_row p m names k at)
    row_in p m names k h at g = by (names == 2)
      where
        by : (b : Bool) → AllAreIn (if b then each_below m (λ j. k (within p j at)) else k at)
        by true = each_in (λ j. k (within p j at)) (λ j. h (within p j at) g) m
        by false = h at g

    mutual
      item_in : (at : Place) → GuardsAreIn at.guards → (i : ItemTerm) → ItemIsIn f i → AllAreIn (occur (shape_at f ns) at i)
      item_in at g (plain soft e None) h = ((g, h.0), tt)
      item_in at g (plain soft e (Some ds)) h = ((g, (h.0, h.1)), tt)
      item_in at g (unique es) h = leaves_in at g (pairs (members (shape_at f ns) es)) (pairs_in (members (shape_at f ns) es) (members_in es h))
      item_in at g (implies t body) h = items_in (under t true at) (h.0, g) body h.2
      item_in at g (branch t met unmet) h =
          AllAreIn-append (all_occur (shape_at f ns) (under t true at) met) (else_occur (shape_at f ns) (under t false at) unmet) (items_in (under t true at) (h.0, g) met h.3) (else_in (under t false at) (h.0, g) unmet h.4)
      item_in at g (foreach p m names body) h =
          each_in (λ i. each_of_row p m names (λ inner. all_occur (shape_at f ns) inner body) (within p i at))
          (λ i. row_in p m names (λ inner. all_occur (shape_at f ns) inner body) (λ inner k. items_in inner k body h.3) (within p i at) g) (slice_index ns p / m)
      item_in at g (disable target) h = ((g, target_in target h), tt)
      item_in at g (solve first later) h = tt

      items_in : (at : Place) → GuardsAreIn at.guards → (is : ItemTerms) → ItemsAreIn f is → AllAreIn (all_occur (shape_at f ns) at is)
      items_in at g no_items h = tt
      items_in at g (more_items i is) h = AllAreIn-append (occur (shape_at f ns) at i) (all_occur (shape_at f ns) at is) (item_in at g i h.0) (items_in at g is h.1)

      else_in : (at : Place) → GuardsAreIn at.guards → (e : ElseTerm) → ElseIsIn f e → AllAreIn (else_occur (shape_at f ns) at e)
      else_in at g no_else h = tt
      else_in at g (else_items is) h = items_in at g is h

    -- those of the active items
    pub active_in : IsSound f → AllAreIn (active_at f ns)
    active_in sound = items_in outside tt f.items sound.items

-- ---- what is of the state is the same in every assignment of a phase

sizes_apart : (test : ℕ → Bool) (p : ℕ) → test p ≡ false → (xs : List ℕ) → list_any (is_size_of p) (map Size (filter test xs)) ≡ false
sizes_apart test p h [] = refl
sizes_apart test p h (x ∷ xs) = by_test (test x) refl (sizes_apart test p h xs)
  where
    by_test : (b : Bool) → test x ≡ b → list_any (is_size_of p) (map Size (filter test xs)) ≡ false → list_any (is_size_of p) (map Size (filter test (x ∷ xs))) ≡ false
    by_test true e rest = rw (e, told_apart test x p e h (x == p) refl) rest
    by_test false e rest = rw e rest

module _ (f : FrameTerm) (ns : List ℕ) where
  -- a size that is not free is not sought
  pub size_not_sought : (part : Part) (p : ℕ) → has_free_size f p ≡ false → list_any (is_size_of p) (unknowns_of f part ns) ≡ false
  size_not_sought Randc p h = no_size_scalar p (filter (is_cyclic f) (props_of f))
  size_not_sought Sizes p h =
      list_any-append (is_size_of p) (cyclic_slots f ++ size_slots f) (scalar_slots f)
      ∙ (λ k.
      (list_any-append (is_size_of p) (cyclic_slots f) (size_slots f) ∙ (λ j. no_size_scalar p (filter (is_cyclic f) (props_of f)) j || sizes_apart (has_free_size f) p h (props_of f) j)) k
      || no_size_scalar p (filter (λ q. is_random f q && not (is_array f q) && not (is_cyclic f q)) (props_of f)) k)
  size_not_sought All p h = no_size f ns p

  module _ (sound : IsSound f) (fit : SizesFit f ns) (part : Part) (fixed : List (ℕ × ℕ)) (a : Reading) (is : IsAssignment f part ns fixed a) where
    settled_size : (p : ℕ) → is_random f p ≡ false → a.size p ≡ (state_at f ns).size p
    settled_size p h = is.same_sizes p (size_not_sought part p (not_free (has_free_size f p) refl))
      where
        not_free : (b : Bool) → has_free_size f p ≡ b → has_free_size f p ≡ false
        not_free true e = let r = (sound.free p e).0 in cc
        not_free false e = e

    around_state : SameAround (shape_at f ns) a (state_at f ns)
    around_state = record {
      script = is.same_script;
      scalar = λ p h. let one_element = scalar_one f ns sound fit p h in (is.same_sizes p (size_not_sought part p (scalar_not_free f ns sound fit p h)) ∙ one_element, one_element);
    }

    state_read : (r : Read) → is_random f (property_read r) ≡ false → SameRead (shape_at f ns) a (state_at f ns) r
    state_read (of_scalar p) h = is.same_numbers p 0 (not_sought f ns part p 0 h)
    state_read (of_element p env e) h = at_index (index_read a env e)
      where
        at_index : (z : ℤ) → element_at a p z ≡ element_at (state_at f ns) p z
        at_index (pos i) = is.same_numbers p i (not_sought f ns part p i h)
        at_index (negsuc i) = refl
    state_read (of_cell p m env first second) h = at_cell (index_read a env first) (index_read a env second)
      where
        at_cell : (x y : ℤ) → cell_at a p m x y ≡ cell_at (state_at f ns) p m x y
        at_cell (pos i) (pos j) = ap (λ v. if nat_lt j m then v else 0) (is.same_numbers p (i * m + j) (not_sought f ns part p (i * m + j) h))
        at_cell (pos i) (negsuc j) = refl
        at_cell (negsuc i) y = refl
    state_read (of_elements p) h = (settled_size p h, refl, λ i. is.same_numbers p i (not_sought f ns part p i h))
    state_read (of_size p) h = settled_size p h

    state_reads : (rs : List Read) → list_any (λ r. is_random f (property_read r)) rs ≡ false → AllSame (shape_at f ns) a (state_at f ns) rs
    state_reads [] h = tt
    state_reads (r ∷ rs) h =
        let two = none_of (is_random f (property_read r)) (list_any (λ x. is_random f (property_read x)) rs) h in
        (state_read r two.0, state_reads rs two.1)

    -- an expression of the state has one value in the phase
    pub state_alone : (env : List ℕ) (e : ExprTerm) → is_of_state f e ≡ true → alone a env e ≡ alone (state_at f ns) env e
    state_alone env e h =
        let random = λ (r : Read). is_random f (property_read r) in
        let none = sym (any_reads (shape_at f ns) (shape_at f ns) (λ p. refl) random (λ p x y u v. refl, λ p m x y u v u' v'. refl) [] [] env 0 e)
        ∙ any_reads (shape_at f ns) (shape_at f (state_sizes f)) (λ p. refl) random (λ p x y u v. refl, λ p m x y u v u' v'. refl) [] [] [] 0 e
        ∙ not_true (list_any random (reads (shape_at f (state_sizes f)) [] e)) h in
        val_same (shape_at f ns) a (state_at f ns) around_state env e (state_reads (reads (shape_at f ns) env e) none) (size_of e) (sign_of e)

    same_weight : (env : List ℕ) (w : Option (Share × ExprTerm)) → WeightIsIn f w → has_weight (state_at f ns) env w ≡ has_weight a env w
    same_weight env None h = refl
    same_weight env (Some w) h = ap is_set (sym (state_alone env w.1 h.1))

    same_weights : (env : List ℕ) (ds : List DistTerm) → MembersAreIn f ds → SameWeights (state_at f ns) a env ds
    same_weights env [] h = tt
    same_weights env (d ∷ ds) h = (same_weight env d.weight h.1, same_weights env ds h.2)

    pub fact_weights : (env : List ℕ) (x : Fact) → FactIsIn f x → FactSameWeights (state_at f ns) a env x
    fact_weights env (stated e) h = tt
    fact_weights env (dealt e ds) h = same_weights env ds h.1
    fact_weights env (disabled target) h = tt

    -- the closed expression of an occurrence has its truth in every assignment of the phase
    pub closed_truth : (o : Occurrence) → OccurrenceIsIn f o → is_set (alone a [] (closed_of (state_at f ns) o)) ≡ is_true a o
    closed_truth o h = closed_is_true (state_at f ns) a o (fact_weights o.place.env o.fact h.1)
