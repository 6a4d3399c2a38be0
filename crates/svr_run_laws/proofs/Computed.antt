-- Values of a lawful design can be computed over all objects together.
use Rattle.std.proofs.Common.{◌≡◌, ◌<◌, ◌^◌, ◌+◌, ◌*◌, inl, inr, ℕ, max, Bool, ◌&&◌, refl, sym, ◌∙◌, ap, subst, [], Some, length, pos, ◌+ℤ◌, ◌-ℤ◌, arith}
use Rattle.std.specs.Prelude.{slice_get}
use Rattle.std.proofs.lemmas.Option.{slice_get_within}
use Rattle.svr_typed.specs.declared.Prop.{Prop}
use Rattle.svr_typed.specs.ExprTerm.{ExprTerm, typed, NodeTerm, number, prop, element, cell, size, script, loop_index, reduce, of_object, bit_select, part_select, unary, binary, choice, inside, join, copies, sign, ExprTerms, no_exprs, more_exprs, RangeTerm, one, span, RangeTerms, no_ranges, more_ranges, BoundTerm, value, dollar}
use Rattle.svr_typed.specs.StmtTerm.{DesignTerm}
use Rattle.svr_eval.specs.Operator.{binary_size, binary_sign, unary_size, unary_sign, unary_kind, binary_kind}
use Rattle.svr_eval.specs.Reading.{blank}
use Rattle.svr_eval.specs.Value.{size_of, sign_of, node_size, node_sign, sizes, alone}
use Rattle.svr_eval.specs.Typed.{IsConstant, NodeIsConstant, AreConstant, RangesAreConstant, RangeIsConstant, BoundIsConstant, constant, IsTyped, NodeIsTyped, AreTyped, RangesAreTyped, RangeIsTyped, BoundIsTyped, CanRead, NodeCanRead, AllCanRead, RangesCanRead, RangeCanRead, BoundCanRead}
use Rattle.svr_world.specs.World.{WorldTerm}
use Rattle.svr_script.specs.Numbered.{place_of, numbered, numbered_in, numbered_node, numbered_all, numbered_range, numbered_ranges, numbered_bound, reading_of_world}
use Rattle.svr_script.specs.Statement.{flat_of_var}
use Rattle.svr_effect.specs.Stands.{CanBeComputed, AllCanBe}
use Rattle.svr_design.specs.Types.{ArrayIs, HasKind}
use Rattle.svr_design.specs.Statements.{object_props, IsObject, Reads, NodeReads, PartReads, AllRead, RangesRead, RangeReads, BoundReads, WholeArray, Value}
use Rattle.svr_design.specs.Lawful.{IsLawful}
use Rattle.svr_run_laws.proofs.Found.{scalar_there, array_there}
use Rattle.svr_run_laws.proofs.Classes.{holds_objects, same_class, flat_few}
use Rattle.svr_run_laws.proofs.Fit.{IsFit, script_below, read_number, read_size}

-- ---- a constant reads no object

mutual
  kept : (e : ExprTerm) → IsConstant e → numbered e ≡ e
  kept (typed w s n) h = ap (typed w s) (node_kept n h)

  node_kept : (n : NodeTerm) → NodeIsConstant n → numbered_node n ≡ n
  node_kept (number v every) h = refl
  node_kept (prop p) h = absurd h
  node_kept (element p i) h = absurd h
  node_kept (cell p m i j) h = absurd h
  node_kept (size p m) h = absurd h
  node_kept (script v) h = absurd h
  node_kept (loop_index k) h = absurd h
  node_kept (reduce p op body) h = absurd h
  node_kept (of_object o e) h = absurd h
  node_kept (bit_select x i low) h = absurd h
  node_kept (part_select x b c low) h = absurd h
  node_kept (unary op x) h = ap (unary op) (kept x h)
  node_kept (binary op x y) h = λ k. binary op (kept x h.0 k) (kept y h.1 k)
  node_kept (choice t x y) h = λ k. choice (kept t h.0 k) (kept x h.1 k) (kept y h.2 k)
  node_kept (inside x rs) h = λ k. inside (kept x h.0 k) (ranges_kept rs h.1 k)
  node_kept (join xs) h = ap join (all_kept xs h)
  node_kept (copies n xs) h = λ k. copies (kept n h.0 k) (all_kept xs h.1 k)
  node_kept (sign t x) h = ap (sign t) (kept x h)

  all_kept : (es : ExprTerms) → AreConstant es → numbered_all es ≡ es
  all_kept no_exprs h = refl
  all_kept (more_exprs e es) h = λ k. more_exprs (kept e h.0 k) (all_kept es h.1 k)

  ranges_kept : (rs : RangeTerms) → RangesAreConstant rs → numbered_ranges rs ≡ rs
  ranges_kept no_ranges h = refl
  ranges_kept (more_ranges r rs) h = λ k. more_ranges (range_kept r h.0 k) (ranges_kept rs h.1 k)

  range_kept : (r : RangeTerm) → RangeIsConstant r → numbered_range r ≡ r
  range_kept (one e) h = ap one (kept e h)
  range_kept (span low high) h = λ k. span (bound_kept low h.0 k) (bound_kept high h.1 k)

  bound_kept : (b : BoundTerm) → BoundIsConstant b → numbered_bound b ≡ b
  bound_kept (value e) h = ap value (kept e h)
  bound_kept dollar h = refl

-- ---- sizes and signs stay

same_size : (e : ExprTerm) → IsTyped e → IsTyped (numbered e) → size_of (numbered e) ≡ size_of e
same_size (typed w s n) h k = k.2 ∙ sym h.2

same_sign : (e : ExprTerm) → IsTyped e → IsTyped (numbered e) → sign_of (numbered e) ≡ sign_of e
same_sign (typed w s n) h k = k.3 ∙ sym h.3

same_sizes : (es : ExprTerms) → AreTyped es → AreTyped (numbered_all es) → sizes (numbered_all es) ≡ sizes es
same_sizes no_exprs h k = refl
same_sizes (more_exprs e es) h k = λ i. same_size e h.0 k.0 i + same_sizes es h.1 k.1 i

-- a whole array of an object, as a member
module _ (d : DesignTerm) where
  pub record IsWhole (e : ExprTerm) : Type 0 where
    pub width : ℕ
    pub signed : Bool
    pub object : ℕ
    pub own_width : ℕ
    pub own_signed : Bool
    pub place : ℕ
    pub is : e ≡ typed width signed (of_object object (typed own_width own_signed (prop place)))
    pub there : IsObject d object
    pub array : ArrayIs (slice_get (object_props d object) place) own_width own_signed

  part_is_whole : (w : ℕ) (s : Bool) (o v : ℕ) (t : Bool) (n : NodeTerm) → WholeArray d (typed w s (of_object o (typed v t n))) → IsWhole (typed w s (of_object o (typed v t n)))
  part_is_whole w s o v t (number u every) h = absurd h
  part_is_whole w s o v t (prop p) h = record { width = w; signed = s; object = o; own_width = v; own_signed = t; place = p; is = refl; there = h.0; array = h.1 }
  part_is_whole w s o v t (element p i) h = absurd h
  part_is_whole w s o v t (cell p m i j) h = absurd h
  part_is_whole w s o v t (size p m) h = absurd h
  part_is_whole w s o v t (script u) h = absurd h
  part_is_whole w s o v t (loop_index k) h = absurd h
  part_is_whole w s o v t (reduce p op body) h = absurd h
  part_is_whole w s o v t (of_object q e) h = absurd h
  part_is_whole w s o v t (bit_select x i low) h = absurd h
  part_is_whole w s o v t (part_select x b c low) h = absurd h
  part_is_whole w s o v t (unary op x) h = absurd h
  part_is_whole w s o v t (binary op x y) h = absurd h
  part_is_whole w s o v t (choice u x y) h = absurd h
  part_is_whole w s o v t (inside x rs) h = absurd h
  part_is_whole w s o v t (join xs) h = absurd h
  part_is_whole w s o v t (copies n xs) h = absurd h
  part_is_whole w s o v t (sign u x) h = absurd h

  is_whole : (e : ExprTerm) → WholeArray d e → IsWhole e
  is_whole (typed w s (number v every)) h = absurd h
  is_whole (typed w s (prop p)) h = absurd h
  is_whole (typed w s (element p i)) h = absurd h
  is_whole (typed w s (cell p m i j)) h = absurd h
  is_whole (typed w s (size p m)) h = absurd h
  is_whole (typed w s (script v)) h = absurd h
  is_whole (typed w s (loop_index k)) h = absurd h
  is_whole (typed w s (reduce p op body)) h = absurd h
  is_whole (typed w s (of_object o (typed v t n))) h = part_is_whole w s o v t n h
  is_whole (typed w s (bit_select x i low)) h = absurd h
  is_whole (typed w s (part_select x b c low)) h = absurd h
  is_whole (typed w s (unary op x)) h = absurd h
  is_whole (typed w s (binary op x y)) h = absurd h
  is_whole (typed w s (choice t x y)) h = absurd h
  is_whole (typed w s (inside x rs)) h = absurd h
  is_whole (typed w s (join xs)) h = absurd h
  is_whole (typed w s (copies n xs)) h = absurd h
  is_whole (typed w s (sign t x)) h = absurd h

  whole_typed : (e : ExprTerm) → IsTyped e → IsWhole e → IsTyped (numbered e)
  whole_typed e h k =
      let t = subst IsTyped k.is h in
      subst (λ (x : ExprTerm). IsTyped (numbered x)) (sym k.is) (t.0, t.1, refl, refl, tt)

  -- ---- stored sizes and signs are right over all objects

  abbrev NumberedIs : ℕ → Bool → NodeTerm → Type 0
  NumberedIs w s n = (node_size w n ≡ w) × (node_sign s n ≡ s) × NodeIsTyped w n

  mutual
    pub over_all : (e : ExprTerm) → IsTyped e → Reads d e → IsTyped (numbered e)
    over_all (typed w s n) h r = let t = node_over w s n h.2 h.3 h.4 r in (h.0, h.1, t.0, t.1, t.2)

    node_over : (w : ℕ) (s : Bool) (n : NodeTerm) → node_size w n ≡ w → node_sign s n ≡ s → NodeIsTyped w n → NodeReads d w s n → NumberedIs w s (numbered_node n)
    node_over w s (number v every) z g h r = (z, g, h)
    node_over w s (prop p) z g h r = absurd r
    node_over w s (element p i) z g h r = absurd r
    node_over w s (cell p m i j) z g h r = absurd r
    node_over w s (size p m) z g h r = absurd r
    node_over w s (script v) z g h r = (z, g, h)
    node_over w s (loop_index k) z g h r = absurd r
    node_over w s (reduce p op body) z g h r = absurd r
    node_over w s (of_object o e) z g h r = part_over w s o e z g h r.1
    node_over w s (bit_select x i low) z g h r = (z, g, (over_all x h.0 r.0, over_all i h.1 r.2))
    node_over w s (part_select x b c low) z g h r =
        let first = kept b h.3 in
        let last = kept c h.4 in (
          z,
          g,
          (
            over_all x h.0 r.0,
            over_all b h.1 r.2,
            over_all c h.2 r.3,
            subst IsConstant (sym first) h.3,
            subst IsConstant (sym last) h.4,
            (λ k. constant (first k) -ℤ constant (last k) +ℤ pos 1) ∙ h.5,
          ),
        )
    node_over w s (unary op x) z g h r =
        let t = over_all x h r in
        (ap (unary_size (unary_kind op)) (same_size x h t) ∙ z, ap (unary_sign (unary_kind op)) (same_sign x h t) ∙ g, t)
    node_over w s (binary op x y) z g h r =
        let t = over_all x h.0 r.0 in
        let u = over_all y h.1 r.1 in
        ((λ k. binary_size (binary_kind op) (same_size x h.0 t k) (same_size y h.1 u k)) ∙ z, (λ k. binary_sign (binary_kind op) (same_sign x h.0 t k) (same_sign y h.1 u k)) ∙ g, (t, u))
    node_over w s (choice t x y) z g h r =
        let u = over_all x h.1 r.1 in
        let v = over_all y h.2 r.2 in
        ((λ k. max (same_size x h.1 u k) (same_size y h.2 v k)) ∙ z, (λ k. same_sign x h.1 u k && same_sign y h.2 v k) ∙ g, (over_all t h.0 r.0, u, v))
    node_over w s (inside x rs) z g h r = (z, g, (over_all x h.0 r.0, ranges_over rs h.1 r.1))
    node_over w s (join xs) z g h r = let t = exprs_over xs h r in (same_sizes xs h t ∙ z, g, t)
    node_over w s (copies n xs) z g h r =
        let count = kept n h.1 in
        let t = exprs_over xs h.2 r.1 in (
          z,
          g,
          (
            over_all n h.0 r.0,
            subst IsConstant (sym count) h.1,
            t,
            (λ k. alone blank [] (count k) * same_sizes xs h.2 t k) ∙ h.3,
            ap constant count ∙ h.4 ∙ ap (λ (e : ExprTerm). pos (alone blank [] e)) (sym count),
          ),
        )
    node_over w s (sign t x) z g h r = let u = over_all x h r in (same_size x h u ∙ z, g, u)

    part_over : (w : ℕ) (s : Bool) (o : ℕ) (e : ExprTerm) → size_of e ≡ w → sign_of e ≡ s → IsTyped e → PartReads d o e → NumberedIs w s (numbered_in o e)
    part_over w s o (typed v t (number u every)) z g h r = absurd r
    part_over w s o (typed v t (prop p)) z g h r = (refl, refl, tt)
    part_over w s o (typed v t (element p i)) z g h r = (refl, refl, over_all i h.4 r.1)
    part_over w s o (typed v t (cell p m i j)) z g h r = absurd r
    part_over w s o (typed v t (size p m)) z g h r = (z, g, h.4)
    part_over w s o (typed v t (script u)) z g h r = absurd r
    part_over w s o (typed v t (loop_index k)) z g h r = absurd r
    part_over w s o (typed v t (reduce p op body)) z g h r = absurd r
    part_over w s o (typed v t (of_object q e)) z g h r = absurd r
    part_over w s o (typed v t (bit_select x i low)) z g h r = absurd r
    part_over w s o (typed v t (part_select x b c low)) z g h r = absurd r
    part_over w s o (typed v t (unary op x)) z g h r = absurd r
    part_over w s o (typed v t (binary op x y)) z g h r = absurd r
    part_over w s o (typed v t (choice u x y)) z g h r = absurd r
    part_over w s o (typed v t (inside x rs)) z g h r = absurd r
    part_over w s o (typed v t (join xs)) z g h r = absurd r
    part_over w s o (typed v t (copies n xs)) z g h r = absurd r
    part_over w s o (typed v t (sign u x)) z g h r = absurd r

    exprs_over : (es : ExprTerms) → AreTyped es → AllRead d es → AreTyped (numbered_all es)
    exprs_over no_exprs h r = tt
    exprs_over (more_exprs e es) h r = (over_all e h.0 r.0, exprs_over es h.1 r.1)

    ranges_over : (rs : RangeTerms) → RangesAreTyped rs → RangesRead d rs → RangesAreTyped (numbered_ranges rs)
    ranges_over no_ranges h r = tt
    ranges_over (more_ranges x rs) h r = (range_over x h.0 r.0, ranges_over rs h.1 r.1)

    range_over : (x : RangeTerm) → RangeIsTyped x → RangeReads d x → RangeIsTyped (numbered_range x)
    range_over (one e) h (inl k) = whole_typed e h (is_whole e k)
    range_over (one e) h (inr r) = over_all e h r
    range_over (span low high) h r = (bound_over low h.0 r.0, bound_over high h.1 r.1)

    bound_over : (b : BoundTerm) → BoundIsTyped b → BoundReads d b → BoundIsTyped (numbered_bound b)
    bound_over (value e) h r = over_all e h r
    bound_over dollar h r = tt

  -- ---- what a world has fits

  module _ (l : IsLawful d) (w : WorldTerm) (fit : IsFit d w) where
    element_below : (o p : ℕ) (x : Prop) (n u : ℕ) (s : Bool) → IsObject d o → slice_get (object_props d o) p ≡ Some x → HasKind x.kind u s → u ≡ n → (i : ℕ) → (reading_of_world w).element (place_of o p) i < 2 ^ n
    element_below o p x n u s is at k e i =
        let h = holds_objects d l o is in
        let here : slice_get (flat_of_var d o).props p ≡ Some x = ap (λ f. slice_get f.props p) (sym (same_class d o h)) ∙ at in
        let inside : p < length (flat_of_var d o).props = slice_get_within (flat_of_var d o).props p x here in
        subst (λ (m : ℕ). (reading_of_world w).element (place_of o p) i < 2 ^ m) (k.0 ∙ e) (read_number d w fit o p x here (omega (arith, inside, flat_few d l o h)) i)

    whole_reads : (e : ExprTerm) → IsTyped e → IsWhole e → CanRead (reading_of_world w) 0 (numbered e)
    whole_reads e h k =
        let t = subst IsTyped k.is h in
        let x = array_there (slice_get (object_props d k.object) k.place) k.own_width k.own_signed k.array in
        subst (λ (y : ExprTerm). CanRead (reading_of_world w) 0 (numbered y)) (sym k.is) (element_below k.object k.place x.0 k.width k.own_width k.own_signed k.there x.1 x.3 t.2)

    mutual
      pub reads_all : (e : ExprTerm) → IsTyped e → Reads d e → CanRead (reading_of_world w) 0 (numbered e)
      reads_all (typed n s x) h r = node_reads n s x h.2 h.4 r

      node_reads : (n : ℕ) (s : Bool) (x : NodeTerm) → node_size n x ≡ n → NodeIsTyped n x → NodeReads d n s x → NodeCanRead (reading_of_world w) 0 n (numbered_node x)
      node_reads n s (number v every) z h r = tt
      node_reads n s (prop p) z h r = absurd r
      node_reads n s (element p i) z h r = absurd r
      node_reads n s (cell p m i j) z h r = absurd r
      node_reads n s (size p m) z h r = absurd r
      node_reads n s (script v) z h r = (script_below d w fit v n s r).1
      node_reads n s (loop_index k) z h r = absurd r
      node_reads n s (reduce p op body) z h r = absurd r
      node_reads n s (of_object o e) z h r = part_reads n o e z h r.0 r.1
      node_reads n s (bit_select x i low) z h r = (reads_all x h.0 r.0, reads_all i h.1 r.2)
      node_reads n s (part_select x b c low) z h r = (reads_all x h.0 r.0, reads_all b h.1 r.2, reads_all c h.2 r.3)
      node_reads n s (unary op x) z h r = reads_all x h r
      node_reads n s (binary op x y) z h r = (reads_all x h.0 r.0, reads_all y h.1 r.1)
      node_reads n s (choice t x y) z h r = (reads_all t h.0 r.0, reads_all x h.1 r.1, reads_all y h.2 r.2)
      node_reads n s (inside x rs) z h r = (reads_all x h.0 r.0, ranges_reads rs h.1 r.1)
      node_reads n s (join xs) z h r = exprs_reads xs h r
      node_reads n s (copies m xs) z h r = (reads_all m h.0 r.0, exprs_reads xs h.2 r.1)
      node_reads n s (sign t x) z h r = reads_all x h r

      part_reads : (n o : ℕ) (e : ExprTerm) → size_of e ≡ n → IsTyped e → IsObject d o → PartReads d o e → NodeCanRead (reading_of_world w) 0 n (numbered_in o e)
      part_reads n o (typed v t (number u every)) z h is r = absurd r
      part_reads n o (typed v t (prop p)) z h is r = let x = scalar_there (slice_get (object_props d o) p) v t r in element_below o p x.0 n v t is x.1 x.3 z
      part_reads n o (typed v t (element p i)) z h is r =
          let x = array_there (slice_get (object_props d o) p) v t r.0 in
          (reads_all i h.4 r.1, element_below o p x.0 n v t is x.1 x.3 z)
      part_reads n o (typed v t (cell p m i j)) z h is r = absurd r
      part_reads n o (typed v t (size p m)) z h is r = read_size d w fit (place_of o p)
      part_reads n o (typed v t (script u)) z h is r = absurd r
      part_reads n o (typed v t (loop_index k)) z h is r = absurd r
      part_reads n o (typed v t (reduce p op body)) z h is r = absurd r
      part_reads n o (typed v t (of_object q e)) z h is r = absurd r
      part_reads n o (typed v t (bit_select x i low)) z h is r = absurd r
      part_reads n o (typed v t (part_select x b c low)) z h is r = absurd r
      part_reads n o (typed v t (unary op x)) z h is r = absurd r
      part_reads n o (typed v t (binary op x y)) z h is r = absurd r
      part_reads n o (typed v t (choice u x y)) z h is r = absurd r
      part_reads n o (typed v t (inside x rs)) z h is r = absurd r
      part_reads n o (typed v t (join xs)) z h is r = absurd r
      part_reads n o (typed v t (copies m xs)) z h is r = absurd r
      part_reads n o (typed v t (sign u x)) z h is r = absurd r

      exprs_reads : (es : ExprTerms) → AreTyped es → AllRead d es → AllCanRead (reading_of_world w) 0 (numbered_all es)
      exprs_reads no_exprs h r = tt
      exprs_reads (more_exprs e es) h r = (reads_all e h.0 r.0, exprs_reads es h.1 r.1)

      ranges_reads : (rs : RangeTerms) → RangesAreTyped rs → RangesRead d rs → RangesCanRead (reading_of_world w) 0 (numbered_ranges rs)
      ranges_reads no_ranges h r = tt
      ranges_reads (more_ranges x rs) h r = (range_reads x h.0 r.0, ranges_reads rs h.1 r.1)

      range_reads : (x : RangeTerm) → RangeIsTyped x → RangeReads d x → RangeCanRead (reading_of_world w) 0 (numbered_range x)
      range_reads (one e) h (inl k) = whole_reads e h (is_whole e k)
      range_reads (one e) h (inr r) = reads_all e h r
      range_reads (span low high) h r = (bound_reads low h.0 r.0, bound_reads high h.1 r.1)

      bound_reads : (b : BoundTerm) → BoundIsTyped b → BoundReads d b → BoundCanRead (reading_of_world w) 0 (numbered_bound b)
      bound_reads (value e) h r = reads_all e h r
      bound_reads dollar h r = tt

    -- ---- what a statement computes

    pub computed : (e : ExprTerm) → Value d e → CanBeComputed w e
    computed e h = record { own = h.0; typed = over_all e h.0 h.1; reads = reads_all e h.0 h.1 }

    pub all_computed : (es : ExprTerms) → AreTyped es → AllRead d es → AllCanBe w es
    all_computed no_exprs h r = tt
    all_computed (more_exprs e es) h r = (computed e (h.0, r.0), all_computed es h.1 r.1)
