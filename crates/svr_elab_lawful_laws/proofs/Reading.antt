-- An expression of a statement in which nothing is refused reads what stands in the design.
use Rattle.std.proofs.Common.{◌≡◌, ℕ, ℤ, pos, Bool, true, false, not, ◌&&◌, ◌||◌, if◌then◌else◌, List, [], ◌∷◌, ◌++◌, inl, inr, Option, None, Some, option_map, is_none, refl, sym, ap, subst, ◌∙◌, true≢false}
use Rattle.std.specs.Prelude.{⊤, slice_get, MatchOption, int_lt, ◌+ℤ◌}
use Rattle.svr_tree.specs.ExprTree as raw
use Rattle.svr_tree.specs.ExprTree.{ExprTree, ExprTrees, RangeTree, RangeTrees, BoundTree, argument_name}
use Rattle.svr_typed.specs.declared.Prop.{Prop}
use Rattle.svr_typed.specs.declared.TVar.{TVar}
use Rattle.svr_typed.specs.declared.VarKind.{VarKind}
use Rattle.svr_typed.specs.ExprTerm as term
use Rattle.svr_typed.specs.ExprTerm.{ExprTerm, typed, NodeTerm, RangeTerm, BoundTerm, exprs_of, ranges_of}
use Rattle.svr_typed.specs.StmtTerm.{DesignTerm}
use Rattle.svr_eval.specs.Value.{size_of}
use Rattle.svr_eval.specs.Typed.{constant}
use Rattle.svr_refusal.specs.declared.Refusal.TheVariants as refusal
use Rattle.svr_design.specs.Types.{ScalarIs, ArrayIs, HasSecond, LowIs, VariableIs, NumberIs as NumberKindIs}
use Rattle.svr_design.specs.Mentions.{can_of}
use Rattle.svr_design.specs.Constraints.{IsInside}
use Rattle.svr_design.specs.Statements.{IsObject, object_props, variable_class, is_random, some_random, ranges_random, IsNumbered, Reads, AllRead, RangesRead, RangeReads, WholeArray, BoundReads, range_random, bound_random}
use Rattle.svr_elab_fault.specs.declared.Fault.{Fault}
use Rattle.svr_elab_fault.specs.Refusals.{first_one, when, earlier}
use Rattle.svr_elab_names.specs.declared.Vector.{Vector}
use Rattle.svr_elab_names.specs.declared.Property.{Property}
use Rattle.svr_elab_names.specs.declared.Meaning.{Meaning}
use Rattle.svr_elab_names.specs.declared.Meaning.TheVariants.{Wrong, LoopOf, ItemOf, MemberOf, PropertyOf, SizeOf, FoldOf, VariableOf, ObjectOf}
use Rattle.svr_elab_names.specs.Names.{Space, look, is_array}
use Rattle.svr_elab_part.specs.declared.part.Shape.{Shape}
use Rattle.svr_elab_part.specs.declared.part.Extent.{Extent}
use Rattle.svr_elab_part.specs.declared.part.Extent.TheVariants as extent
use Rattle.svr_elab_part.specs.declared.part.Root.{Root}
use Rattle.svr_elab_part.specs.declared.part.Root.TheVariants as root
use Rattle.svr_elab_part.specs.Fits.{NamesFit, LiteralsFit, AllFit, RangesFit, RangeFits, BoundFits}
use Rattle.svr_elab_part.specs.Elab as spec
use Rattle.svr_elab_part.specs.Elab.{Elab, Elabs, RangeElab, RangesElab, BoundElab, body_space, is_in_object, is_no_array}
use Rattle.svr_elab_part.specs.Shapes as shapes
use Rattle.svr_elab_part.specs.Shapes.{both_known, all_known, and_more, typed_as, kind_shape, inner_of, array_property, is_less}
use Rattle.svr_elab_part.specs.Forms.{is_single, is_row, is_whole, is_object, is_refused, element_extent, without_row, without_object, kind_low}
use Rattle.svr_elab_part.proofs.Valued.{none_left, none_right, not_when}
use Rattle.svr_elab_part.proofs.Typed.{TreeFine, shape_of}
use Rattle.svr_elab_part.proofs.Looked.{OptionIs}
use Rattle.svr_elab_expr_laws.proofs.Clear.{BitClear, bit_clear, SliceClear, slice_clear, ReduceClear, reduce_clear}
use Rattle.svr_elab_expr_laws.proofs.Ready.{value_ready}
use Rattle.svr_elab_stand_laws.specs.Stand.{There}
use Rattle.svr_elab_lawful_laws.specs.Reads.{KindAt, InStatement, AcceptedReads}
use Rattle.svr_elab_lawful_laws.proofs.Enums.{or_left, or_right}
use Rattle.svr_elab_lawful_laws.proofs.Trees.{elab_rooted}
use Rattle.svr_elab_lawful_laws.proofs.Means.{ObjectIs, MeaningReads, look_reads}

not_not : (b : Bool) → not b ≡ false → b ≡ true
not_not true h = refl
not_not false h = absurd (true≢false h)

or_none : (a b : Bool) → a ≡ false → b ≡ false → (a || b) ≡ false
or_none a b h k = ap (λ (x : Bool). x || b) h ∙ k

known_is : (c : Bool) (f : Option Fault) (t : Option ExprTerm) → c ≡ true → f ≡ None → (if c && is_none f then option_map constant t else None) ≡ option_map constant t
known_is c f t h k =
    ap (λ (b : Bool). if b && is_none f then option_map constant t else None) h ∙ ap (λ (x : Option Fault). if is_none x then option_map constant t else None) k

-- ---- a property at its place

scalar_is : (p : Property) (k : Vector) (q : Option Prop) → There p (Some k) q → is_array p.dims ≡ false → ScalarIs q k.kind.width k.kind.signed
scalar_is p k None h a = absurd h
scalar_is p k (Some q) h a = (h.array ∙ a, (h.width, h.signed))

array_is : (p : Property) (k : Vector) (q : Option Prop) → There p (Some k) q → is_array p.dims ≡ true → ArrayIs q k.kind.width k.kind.signed
array_is p k None h a = absurd h
array_is p k (Some q) h a = (h.array ∙ a, (h.width, h.signed))

low_is : (p : Property) (k : Vector) (q : Option Prop) → There p (Some k) q → LowIs q k.low
low_is p k None h = absurd h
low_is p k (Some q) h = h.low

can_is : (p : Property) (k : Vector) (q : Option Prop) → There p (Some k) q → can_of q ≡ p.random
can_is p k None h = absurd h
can_is p k (Some q) h = h.random

some_same : {A : Type 0} (x y : A) → Some x ≡ Some y → x ≡ y
some_same x y e = cc

second_is : (p : Property) (kind : Option Vector) (q : Option Prop) (m : ℕ) → There p kind q → is_array p.dims ≡ true → inner_of p.dims ≡ Some m → HasSecond q m
second_is p None q m h a e = absurd h
second_is p (Some k) None m h a e = absurd h
second_is p (Some k) (Some q) m h a e = (h.array ∙ a, some_same q.inner m (sym h.inner ∙ e))

-- ---- extents

left_single : (e : Extent) → is_whole e ≡ false → is_row e ≡ false → is_single e ≡ true
left_single extent.Single h k = refl
left_single extent.Row h k = absurd (true≢false k)
left_single extent.Whole h k = absurd (true≢false h)

no_row_single : (e : Extent) → is_single (without_row e) ≡ true → is_row e ≡ false → is_single e ≡ true
no_row_single extent.Single h k = refl
no_row_single extent.Row h k = absurd (true≢false k)
no_row_single extent.Whole h k = absurd (true≢false (sym h))

no_row_whole : (e : Extent) → is_whole (without_row e) ≡ true → is_whole e ≡ true
no_row_whole extent.Single h = absurd (true≢false (sym h))
no_row_whole extent.Row h = absurd (true≢false (sym h))
no_row_whole extent.Whole h = refl

no_row_row : (e : Extent) → is_row (without_row e) ≡ false
no_row_row extent.Single = refl
no_row_row extent.Row = refl
no_row_row extent.Whole = refl

property_single : (b : Bool) → is_single (if b then extent.Whole else extent.Single) ≡ true → b ≡ false
property_single true h = absurd (true≢false (sym h))
property_single false h = refl

property_whole : (b : Bool) → is_whole (if b then extent.Whole else extent.Single) ≡ true → b ≡ true
property_whole true h = refl
property_whole false h = absurd (true≢false (sym h))

property_no_row : (b : Bool) → is_row (if b then extent.Whole else extent.Single) ≡ false
property_no_row true = refl
property_no_row false = refl

by_extent : {A : Type 0} (e : Extent) → is_row e ≡ false → (is_single e ≡ true → A) → (is_whole e ≡ true → A) → A
by_extent extent.Single r h k = h refl
by_extent extent.Row r h k = absurd (true≢false r)
by_extent extent.Whole r h k = k refl

number_of : (k : Vector) (t : Option TVar) → KindAt (Some k) t → VariableIs t k.kind.width k.kind.signed
number_of k None h = absurd h
number_of k (Some t) h = subst (λ (v : VarKind). NumberKindIs v k.kind.width k.kind.signed) (sym h) (refl, refl)

module _ (d : DesignTerm) where
  -- ---- trees

  abbrev Quiet : Bool → ExprTerm → Type 0
  Quiet r t = r ≡ false → is_random d t ≡ false

  -- a tree whose bits are numbered from `low` on, and of which it is known whether it reads what can be random
  abbrev Good : Bool → ℤ → ExprTerm → Type 0
  Good r low t = Reads d t × IsNumbered d t low × Quiet r t

  abbrev NodeGood : Bool → NodeTerm → Type 0
  NodeGood r n = (w : ℕ) (s : Bool) → Good r (pos 0) (typed w s n)

  abbrev Trees : Bool → ℤ → Option ExprTerm → Type 0
  Trees r low t = OptionIs (Good r low) t

  -- the index of a row, which waits for the second one
  abbrev Waits : Bool → ExprTerm → Type 0
  Waits r t = Reads d t × Quiet r t

  typed_good : (r : Bool) (s : Option Shape) (n : Option NodeTerm) → OptionIs (NodeGood r) n → Trees r (pos 0) (typed_as s n)
  typed_good r None n h = tt
  typed_good r (Some s) None h = tt
  typed_good r (Some s) (Some n) h = h s.width s.signed

  one_good : (f : ExprTerm → NodeTerm) (t : Option ExprTerm) (r : Bool) (low : ℤ) → ((t : ExprTerm) → Reads d t → Quiet r t → NodeGood r (f t)) → Trees r low t → OptionIs (NodeGood r) (option_map f t)
  one_good f None r low e h = tt
  one_good f (Some t) r low e h = e t h.0 h.2

  two_good : (f : ExprTerm → ExprTerm → NodeTerm) (t u : Option ExprTerm) (q r : Bool) (x y : ℤ) → ((t u : ExprTerm) → Reads d t → Quiet q t → Reads d u → Quiet r u → NodeGood (q || r) (f t u)) → Trees q x t → Trees r y u
      → OptionIs (NodeGood (q || r)) (both_known f t u)
  two_good f None u q r x y e h k = tt
  two_good f (Some t) None q r x y e h k = tt
  two_good f (Some t) (Some u) q r x y e h k = e t u h.0 h.2 k.0 k.2

  three_good : (f : ExprTerm → ExprTerm → ExprTerm → NodeTerm) (t u v : Option ExprTerm) (p q r : Bool) (x y z : ℤ)
      → ((t u v : ExprTerm) → Reads d t → Quiet p t → Reads d u → Quiet q u → Reads d v → Quiet r v → NodeGood (p || (q || r)) (f t u v)) → Trees p x t → Trees q y u → Trees r z v
      → OptionIs (NodeGood (p || (q || r))) (all_known f t u v)
  three_good f None u v p q r x y z e h k l = tt
  three_good f (Some t) None v p q r x y z e h k l = tt
  three_good f (Some t) (Some u) None p q r x y z e h k l = tt
  three_good f (Some t) (Some u) (Some v) p q r x y z e h k l = e t u v h.0 h.2 k.0 k.2 l.0 l.2

  -- ---- names as trees

  scalar_good : (p : Property) (o : ℕ) (kind : Option Vector) → IsObject d o → There p kind (slice_get (object_props d o) p.number) → is_array p.dims ≡ false
      → Trees p.random (kind_low kind) (shapes.property_tree (Some o) kind (Some (term.prop p.number)))
  scalar_good p o None i h a = absurd h
  scalar_good p o (Some k) i h a =
      let q : Option Prop = slice_get (object_props d o) p.number in
      ((i, scalar_is p k q h a), low_is p k q h, λ e. can_is p k q h ∙ e)

  whole_good : (p : Property) (o : ℕ) (kind : Option Vector) → IsObject d o → There p kind (slice_get (object_props d o) p.number) → is_array p.dims ≡ true
      → OptionIs (λ (t : ExprTerm). WholeArray d t × Quiet p.random t) (shapes.property_tree (Some o) kind (Some (term.prop p.number)))
  whole_good p o None i h a = absurd h
  whole_good p o (Some k) i h a = let q : Option Prop = slice_get (object_props d o) p.number in ((i, array_is p k q h a), λ e. can_is p k q h ∙ e)

  size_good : (p : Property) (o : ℕ) (m : Option ℕ) → IsObject d o → There p p.kind (slice_get (object_props d o) p.number) → is_array p.dims ≡ true → inner_of p.dims ≡ m
      → Trees false (pos 0) (option_map (λ m. shapes.wrapped (Some o) shapes.whole_number (term.size p.number m)) m)
  size_good p o None i h a e = tt
  size_good p o (Some m) i h a e = ((i, second_is p p.kind (slice_get (object_props d o) p.number) m h a e), refl, λ f. refl)

  member_good : (v : Option ℕ) (kind : Option Vector) (low : ℤ) → Trees false low (shapes.member_tree v kind)
  member_good v None low = tt
  member_good None (Some k) low = tt
  member_good (Some v) (Some k) low = (tt, tt, λ f. refl)

  variable_good : (v : ℕ) (kind : Option Vector) (low : ℤ) → KindAt kind (slice_get d.vars v) → Trees false low (shapes.variable_tree v kind)
  variable_good v None low h = tt
  variable_good v (Some k) low h = (number_of k (slice_get d.vars v) h, tt, λ f. refl)

  element_good : (p : Property) (o : ℕ) (kind : Option Vector) (r : Bool) (i : Option ExprTerm) → IsObject d o → There p kind (slice_get (object_props d o) p.number) → is_array p.dims ≡ true → (r ≡ false → p.random ≡ false) → OptionIs (Waits r) i
      → Trees r (kind_low kind) (shapes.property_tree (Some o) kind (shapes.element_node p i))
  element_good p o None r i g h a z k = absurd h
  element_good p o (Some kd) r None g h a z k = tt
  element_good p o (Some kd) r (Some i) g h a z k =
      let q : Option Prop = slice_get (object_props d o) p.number in
      ((g, (array_is p kd q h a, k.0)), low_is p kd q h, λ e. or_none (can_of q) (is_random d i) (can_is p kd q h ∙ z e) (k.1 e))

  -- the place of an element reads no more than its indexes
  place_quiet : (a b : Bool) → a ≡ false → b ≡ false → ((((a || false) || false) || ((b || false) || false)) || ((((a || false) || false) || (b || false)) || false)) ≡ false
  place_quiet true b h k = absurd (true≢false h)
  place_quiet false true h k = absurd (true≢false k)
  place_quiet false false h k = refl

  wide_reads : (t : ExprTerm) → Reads d t → Reads d (shapes.widened t)
  wide_reads t h = (h, tt)

  placed_good : (p : Property) (o : ℕ) (kind : Option Vector) (r : Bool) (i j : ExprTerm) (s : Option (ℕ × ℕ)) → IsObject d o → There p kind (slice_get (object_props d o) p.number) → is_array p.dims ≡ true → (r ≡ false → p.random ≡ false)
      → Waits r i → Waits r j → Trees r (kind_low kind) (shapes.property_tree (Some o) kind (option_map (λ s. shapes.placed p.number s i j) s))
  placed_good p o None r i j s g h a z k l = absurd h
  placed_good p o (Some kd) r i j None g h a z k l = tt
  placed_good p o (Some kd) r i j (Some s) g h a z k l =
      let q : Option Prop = slice_get (object_props d o) p.number in (
        (g, (array_is p kd q h a, (((wide_reads i k.0, tt), (wide_reads j l.0, tt)), ((wide_reads i k.0, tt), wide_reads j l.0), tt))),
        low_is p kd q h,
        λ e. or_none (can_of q) (is_random d (shapes.place_tree s.0 s.1 i j)) (can_is p kd q h ∙ z e) (place_quiet (is_random d i) (is_random d j) (k.1 e) (l.1 e)),
      )

  cell_good : (p : Property) (o : ℕ) (kind : Option Vector) (r : Bool) (i j : Option ExprTerm) → IsObject d o → There p kind (slice_get (object_props d o) p.number) → is_array p.dims ≡ true → (r ≡ false → p.random ≡ false)
      → OptionIs (Waits r) i → OptionIs (Waits r) j → Trees r (kind_low kind) (shapes.property_tree (Some o) kind (shapes.cell_node p (Some o) i j))
  cell_good p o None r i j g h a z k l = absurd h
  cell_good p o (Some kd) r None j g h a z k l = tt
  cell_good p o (Some kd) r (Some i) None g h a z k l = tt
  cell_good p o (Some kd) r (Some i) (Some j) g h a z k l = placed_good p o (Some kd) r i j (shapes.sizes_of p.dims) g h a z k l

  -- ---- selects of bits

  bit_good : (x i : Option ExprTerm) (low b : ℤ) (q r : Bool) → r ≡ false → Trees q low x → Trees r b i → OptionIs (NodeGood (q || r)) (shapes.bit_node x i low)
  bit_good None i low b q r e h k = tt
  bit_good (Some x) None low b q r e h k = tt
  bit_good (Some x) (Some i) low b q r e h k = λ w s.
      ((h.0, h.1, k.0, k.2 e), refl, λ f. or_none (is_random d x) (is_random d i) (h.2 (or_left q r f)) (k.2 e))

  abbrev BoundsFit : Option ExprTerm → ℤ → Option ExprTerm → Option ExprTerm → Type 0
  BoundsFit None low f l = ⊤
  BoundsFit (Some x) low f l = (shapes.is_high low (Some (shape_of x)) (option_map constant f) (option_map constant l) ≡ false) × (shapes.is_low low (option_map constant l) ≡ false)

  is_inside : (x : ExprTerm) (low f l : ℤ) → (int_lt f l || not (int_lt f (low +ℤ pos (size_of x)))) ≡ false → int_lt l low ≡ false → IsInside x low f l
  is_inside x low f l h k = (k, or_left (int_lt f l) (not (int_lt f (low +ℤ pos (size_of x)))) h, not_not (int_lt f (low +ℤ pos (size_of x))) (or_right (int_lt f l) (not (int_lt f (low +ℤ pos (size_of x)))) h))

  part_good : (x f l : Option ExprTerm) (low b c : ℤ) (p q r : Bool) → Trees p low x → Trees q b f → Trees r c l → BoundsFit x low f l → OptionIs (NodeGood (p || (q || r))) (shapes.part_node x f l low)
  part_good None f l low b c p q r h i j k = tt
  part_good (Some x) None l low b c p q r h i j k = tt
  part_good (Some x) (Some f) None low b c p q r h i j k = tt
  part_good (Some x) (Some f) (Some l) low b c p q r h i j k = λ w s.
      ((h.0, h.1, i.0, j.0, is_inside x low (constant f) (constant l) k.0 k.1), refl, λ e. h.2 (or_left p (q || r) e))

  bounds_fit : (s : Option Shape) (c : Bool) (x : Option ExprTerm) (low : ℤ) (f l : Option ExprTerm) → TreeFine s c x
      → shapes.is_high low s (option_map constant f) (option_map constant l) ≡ false → shapes.is_low low (option_map constant l) ≡ false → BoundsFit x low f l
  bounds_fit s c None low f l h a b = tt
  bounds_fit s c (Some x) low f l h a b = (sym (ap (λ (s : Option Shape). shapes.is_high low s (option_map constant f) (option_map constant l)) h.shape) ∙ a, b)

  -- ---- lists

  abbrev GoodList : Bool → List ExprTerm → Type 0
  GoodList r ts = AllRead d (exprs_of ts) × (r ≡ false → some_random d (exprs_of ts) ≡ false)

  abbrev GoodRanges : Bool → List RangeTerm → Type 0
  GoodRanges r rs = RangesRead d (ranges_of rs) × (r ≡ false → ranges_random d (ranges_of rs) ≡ false)

  abbrev RangeGood : Bool → RangeTerm → Type 0
  RangeGood r t = RangeReads d t × (r ≡ false → range_random d t ≡ false)

  abbrev BoundGood : Bool → BoundTerm → Type 0
  BoundGood r t = BoundReads d t × (r ≡ false → bound_random d t ≡ false)

  all_last : (ts : List ExprTerm) (t : ExprTerm) → AllRead d (exprs_of ts) → Reads d t → AllRead d (exprs_of (ts ++ t ∷ []))
  all_last [] t h k = (k, tt)
  all_last (u ∷ ts) t h k = (h.0, all_last ts t h.1 k)

  random_last : (ts : List ExprTerm) (t : ExprTerm) → some_random d (exprs_of ts) ≡ false → is_random d t ≡ false → some_random d (exprs_of (ts ++ t ∷ [])) ≡ false
  random_last [] t h k = or_none (is_random d t) false k refl
  random_last (u ∷ ts) t h k = or_none (is_random d u) (some_random d (exprs_of (ts ++ t ∷ []))) (or_left (is_random d u) (some_random d (exprs_of ts)) h) (random_last ts t (or_right (is_random d u) (some_random d (exprs_of ts)) h) k)

  ranges_last : (rs : List RangeTerm) (r : RangeTerm) → RangesRead d (ranges_of rs) → RangeReads d r → RangesRead d (ranges_of (rs ++ r ∷ []))
  ranges_last [] r h k = (k, tt)
  ranges_last (u ∷ rs) r h k = (h.0, ranges_last rs r h.1 k)

  ranges_random_last : (rs : List RangeTerm) (r : RangeTerm) → ranges_random d (ranges_of rs) ≡ false → range_random d r ≡ false → ranges_random d (ranges_of (rs ++ r ∷ [])) ≡ false
  ranges_random_last [] r h k = or_none (range_random d r) false k refl
  ranges_random_last (u ∷ rs) r h k =
      or_none (range_random d u) (ranges_random d (ranges_of (rs ++ r ∷ []))) (or_left (range_random d u) (ranges_random d (ranges_of rs)) h) (ranges_random_last rs r (or_right (range_random d u) (ranges_random d (ranges_of rs)) h) k)

  list_more : (ts : Option (List ExprTerm)) (t : Option ExprTerm) (q r : Bool) (low : ℤ) → OptionIs (GoodList q) ts → Trees r low t → OptionIs (GoodList (q || r)) (and_more ts t)
  list_more None t q r low h k = tt
  list_more (Some ts) None q r low h k = tt
  list_more (Some ts) (Some t) q r low h k = (all_last ts t h.0 k.0, λ e. random_last ts t (h.1 (or_left q r e)) (k.2 (or_right q r e)))

  range_more : (rs : Option (List RangeTerm)) (t : Option RangeTerm) (q r : Bool) → OptionIs (GoodRanges q) rs → OptionIs (RangeGood r) t → OptionIs (GoodRanges (q || r)) (and_more rs t)
  range_more None t q r h k = tt
  range_more (Some rs) None q r h k = tt
  range_more (Some rs) (Some t) q r h k = (ranges_last rs t h.0 k.0, λ e. ranges_random_last rs t (h.1 (or_left q r e)) (k.1 (or_right q r e)))

  inside_good : (t : Option ExprTerm) (rs : Option (List RangeTerm)) (q r : Bool) (low : ℤ) → Trees q low t → OptionIs (GoodRanges r) rs → OptionIs (NodeGood (q || r)) (shapes.inside_node t rs)
  inside_good None rs q r low h k = tt
  inside_good (Some t) None q r low h k = tt
  inside_good (Some t) (Some rs) q r low h k = λ w s. ((h.0, k.0), refl, λ e. or_none (is_random d t) (ranges_random d (ranges_of rs)) (h.2 (or_left q r e)) (k.1 (or_right q r e)))

  join_good : (ts : Option (List ExprTerm)) (r : Bool) → OptionIs (GoodList r) ts → OptionIs (NodeGood r) (shapes.join_node ts)
  join_good None r h = tt
  join_good (Some ts) r h = λ w s. (h.0, refl, h.1)

  copies_good : (t : Option ExprTerm) (ts : Option (List ExprTerm)) (q r : Bool) (low : ℤ) → Trees q low t → OptionIs (GoodList r) ts → OptionIs (NodeGood (q || r)) (shapes.copies_node t ts)
  copies_good None ts q r low h k = tt
  copies_good (Some t) None q r low h k = tt
  copies_good (Some t) (Some ts) q r low h k = λ w s. ((h.0, k.0), refl, λ e. k.1 (or_right q r e))

  bound_good : (t : Option ExprTerm) (r : Bool) (low : ℤ) → Trees r low t → OptionIs (BoundGood r) (option_map term.value t)
  bound_good None r low h = tt
  bound_good (Some t) r low h = (h.0, h.2)

  span_good : (l h : Option BoundTerm) (q r : Bool) → OptionIs (BoundGood q) l → OptionIs (BoundGood r) h → OptionIs (RangeGood (q || r)) (both_known term.span l h)
  span_good None h q r a b = tt
  span_good (Some l) None q r a b = tt
  span_good (Some l) (Some h) q r a b = ((a.0, b.0), λ e. or_none (bound_random d l) (bound_random d h) (a.1 (or_left q r e)) (b.1 (or_right q r e)))

  -- ---- expressions

  abbrev pub RootReads : Root → Type 0
  RootReads root.Nothing = ⊤
  RootReads root.Refused = ⊤
  RootReads root.Member = ⊤
  RootReads (root.Variable v) = (kind : Option Vector) × KindAt kind (slice_get d.vars v)
  RootReads (root.Field p o) = ObjectIs d p o
  RootReads (root.Object o c) = variable_class (slice_get d.vars o) ≡ Some c

  abbrev pub WholeRoot : Bool → Root → ℤ → Type 0
  WholeRoot r root.Nothing low = ⊥
  WholeRoot r root.Refused low = ⊥
  WholeRoot r root.Member low = ⊥
  WholeRoot r (root.Variable v) low = ⊥
  WholeRoot r (root.Field p o) low = (is_array p.dims ≡ true) × (low ≡ kind_low p.kind) × (r ≡ false → p.random ≡ false)
  WholeRoot r (root.Object o c) low = ⊥

  -- an array and a row are those of a property
  abbrev pub RootExtent : Bool → Extent → Root → ℤ → Type 0
  RootExtent r extent.Single q low = ⊤
  RootExtent r extent.Row q low = WholeRoot r q low
  RootExtent r extent.Whole q low = WholeRoot r q low

  abbrev WholeGood : Bool → ExprTerm → Type 0
  WholeGood r t = WholeArray d t × Quiet r t

  pub record Standing (x : Elab (Option Fault)) : Type 0 where
    pub rooted : RootReads x.form.root
    pub reach : RootExtent x.reads.random x.form.extent x.form.root x.form.low
    pub single : is_single x.form.extent ≡ true → x.faults ≡ None → Trees x.reads.random x.form.low x.tree
    pub row : is_row x.form.extent ≡ true → x.faults ≡ None → OptionIs (Waits x.reads.random) x.tree
    pub whole : is_whole x.form.extent ≡ true → x.faults ≡ None → OptionIs (WholeGood x.reads.random) x.tree

  abbrev Value : Elab (Option Fault) → Type 0
  Value x = x.faults ≡ None → Trees x.reads.random x.form.low x.tree

  as_whole : (r : Bool) (e : Extent) (q : Root) (low : ℤ) → is_single e ≡ false → RootExtent r e q low → WholeRoot r q low
  as_whole r extent.Single q low h k = absurd (true≢false h)
  as_whole r extent.Row q low h k = k
  as_whole r extent.Whole q low h k = k

  whole_no_single : (e : Extent) → is_whole e ≡ true → is_single e ≡ false
  whole_no_single extent.Single h = absurd (true≢false (sym h))
  whole_no_single extent.Row h = refl
  whole_no_single extent.Whole h = refl

  row_no_single : (e : Extent) → is_row e ≡ true → is_single e ≡ false
  row_no_single extent.Single h = absurd (true≢false (sym h))
  row_no_single extent.Row h = refl
  row_no_single extent.Whole h = refl

  made : (x : Elab (Option Fault)) → RootReads x.form.root → x.form.extent ≡ extent.Single → Value x → Standing x
  made x r e h = record {
    rooted = r;
    reach = subst (λ (e : Extent). RootExtent x.reads.random e x.form.root x.form.low) (sym e) tt;
    single = λ s f. h f;
    row = λ s. absurd (true≢false (sym s ∙ ap is_row e));
    whole = λ s. absurd (true≢false (sym s ∙ ap is_whole e));
  }

  root_without : (r : Root) → RootReads r → RootReads (without_object r)
  root_without root.Nothing h = tt
  root_without root.Refused h = tt
  root_without root.Member h = tt
  root_without (root.Variable v) h = h
  root_without (root.Field p o) h = h
  root_without (root.Object o c) h = tt

  whole_without : (r : Bool) (q : Root) (low : ℤ) → WholeRoot r q low → WholeRoot r (without_object q) low
  whole_without r root.Nothing low h = h
  whole_without r root.Refused low h = h
  whole_without r root.Member low h = h
  whole_without r (root.Variable v) low h = h
  whole_without r (root.Field p o) low h = h
  whole_without r (root.Object o c) low h = absurd h

  extent_without : (r : Bool) (e : Extent) (q : Root) (low : ℤ) → RootExtent r e q low → RootExtent r (without_row e) (without_object q) low
  extent_without r extent.Single q low h = tt
  extent_without r extent.Row q low h = tt
  extent_without r extent.Whole q low h = whole_without r q low h

  plain_value : (x : Elab (Option Fault)) → Standing x → Value (spec.plain first_one x)
  plain_value x h f = h.single (not_not (is_single x.form.extent) (not_when _ _ _ (none_left _ _ (none_right _ _ f)))) (none_left _ _ f)

  plain_standing : (x : Elab (Option Fault)) → Standing x → Standing (spec.plain first_one x)
  plain_standing x h = made (spec.plain first_one x) (root_without x.form.root h.rooted) refl (plain_value x h)

  sole_standing : (x : Elab (Option Fault)) → Standing x → Standing (spec.sole first_one x)
  sole_standing x h = record {
    rooted = root_without x.form.root h.rooted;
    reach = extent_without x.reads.random x.form.extent x.form.root x.form.low h.reach;
    single = λ s f. h.single (no_row_single x.form.extent s (not_when _ _ _ (none_left _ _ (none_right _ _ f)))) (none_left _ _ f);
    row = λ s. absurd (true≢false (sym s ∙ no_row_row x.form.extent));
    whole = λ s f. h.whole (no_row_whole x.form.extent s) (none_left _ _ f);
  }

  member_value : (t : Option ExprTerm) (r : Bool) (low : ℤ) → Trees r low t → OptionIs (RangeGood r) (option_map term.one t)
  member_value None r low h = tt
  member_value (Some t) r low h = (inr h.0, h.2)

  member_whole : (t : Option ExprTerm) (r : Bool) → OptionIs (WholeGood r) t → OptionIs (RangeGood r) (option_map term.one t)
  member_whole None r h = tt
  member_whole (Some t) r h = (inl h.0, h.1)

  sole_member : (x : Elab (Option Fault)) → Standing x → (spec.sole first_one x).faults ≡ None → OptionIs (RangeGood x.reads.random) (option_map term.one x.tree)
  sole_member x h f =
      by_extent x.form.extent (not_when _ _ _ (none_left _ _ (none_right _ _ f)))
      (λ s. member_value x.tree x.reads.random x.form.low (h.single s (none_left _ _ f))) (λ w. member_whole x.tree x.reads.random (h.whole w (none_left _ _ f)))

  -- ---- names

  abbrev path_at : ℕ → ℕ → Bool → Option ℕ → Meaning → Elab (Option Fault)
  path_at at name call u m = spec.path_part first_one at name call (record { meaning = m; unmade = u })

  property_extends : (p : Property) (o : Option ℕ) (b : Bool) → is_array p.dims ≡ b → RootExtent p.random (if b then extent.Whole else extent.Single) (root.Field p o) (kind_low p.kind)
  property_extends p o true h = (h, refl, λ e. e)
  property_extends p o false h = tt

  path_standing : (at name : ℕ) (call : Bool) (u : Option ℕ) (m : Meaning) → MeaningReads d m → Standing (path_at at name call u m)
  path_standing at name call u (Wrong w) h = made _ tt refl (λ f. tt)
  path_standing at name call u (LoopOf k) h = absurd h
  path_standing at name call u (ItemOf k p) h = absurd h
  path_standing at name call u (MemberOf v kind) h = made _ tt refl (λ f. member_good v kind (kind_low kind))
  path_standing at name call u (PropertyOf p None) h = absurd h
  path_standing at name call u (PropertyOf p (Some o)) h = record {
    rooted = h;
    reach = property_extends p (Some o) (is_array p.dims) refl;
    single = λ s f. scalar_good p o p.kind h.0 h.1 (property_single (is_array p.dims) s);
    row = λ s. absurd (true≢false (sym s ∙ property_no_row (is_array p.dims)));
    whole = λ s f. whole_good p o p.kind h.0 h.1 (property_whole (is_array p.dims) s);
  }
  path_standing at name call u (SizeOf p None) h = absurd h.0
  path_standing at name call u (SizeOf p (Some o)) h = made _ tt refl (λ f. size_good p o (inner_of p.dims) h.0.0 h.0.1 h.1 refl)
  path_standing at name call u (FoldOf p None g array) h = absurd h
  path_standing at name call u (FoldOf p (Some o) g array) h = made _ tt refl (λ f. absurd (true≢false (not_when true array refusal.LeftOut (none_right _ _ f))))
  path_standing at name call u (VariableOf v kind) h = made _ (kind, h) refl (λ f. variable_good v kind (kind_low kind) h)
  path_standing at name call u (ObjectOf o c) h = made _ h refl (λ f. tt)

  -- ---- elements and bits

  waits_of : (t : Option ExprTerm) (q r : Bool) (low : ℤ) → Trees r low t → OptionIs (Waits (q || r)) t
  waits_of None q r low h = tt
  waits_of (Some t) q r low h = (h.0, λ e. h.2 (or_right q r e))

  waits_more : (t : Option ExprTerm) (q r : Bool) → OptionIs (Waits q) t → OptionIs (Waits (q || r)) t
  waits_more None q r h = tt
  waits_more (Some t) q r h = (h.0, λ e. h.1 (or_left q r e))

  element_at : (q : Root) (low : ℤ) (r s : Bool) (i : Option ExprTerm) → RootReads q → WholeRoot r q low → OptionIs (Waits (r || s)) i → Trees (r || s) low (shapes.element_tree q i)
  element_at root.Nothing low r s i g w k = absurd w
  element_at root.Refused low r s i g w k = absurd w
  element_at root.Member low r s i g w k = absurd w
  element_at (root.Variable v) low r s i g w k = absurd w
  element_at (root.Field p None) low r s i g w k = absurd g
  element_at (root.Field p (Some o)) low r s i g w k =
      subst (λ (low : ℤ). Trees (r || s) low (shapes.property_tree (Some o) p.kind (shapes.element_node p i))) (sym w.1) (element_good p o p.kind (r || s) i g.0 g.1 w.0 (λ e. w.2 (or_left r s e)) k)
  element_at (root.Object o c) low r s i g w k = absurd w

  cell_at : (q : Root) (low : ℤ) (r s : Bool) (i j : Option ExprTerm) → RootReads q → WholeRoot r q low → OptionIs (Waits (r || s)) i → OptionIs (Waits (r || s)) j → Trees (r || s) low (shapes.cell_tree q i j)
  cell_at root.Nothing low r s i j g w k l = absurd w
  cell_at root.Refused low r s i j g w k l = absurd w
  cell_at root.Member low r s i j g w k l = absurd w
  cell_at (root.Variable v) low r s i j g w k l = absurd w
  cell_at (root.Field p None) low r s i j g w k l = absurd g
  cell_at (root.Field p (Some o)) low r s i j g w k l =
      subst (λ (low : ℤ). Trees (r || s) low (shapes.property_tree (Some o) p.kind (shapes.cell_node p (Some o) i j))) (sym w.1) (cell_good p o p.kind (r || s) i j g.0 g.1 w.0 (λ e. w.2 (or_left r s e)) k l)
  cell_at (root.Object o c) low r s i j g w k l = absurd w

  more_whole : (r s : Bool) (q : Root) (low : ℤ) → WholeRoot r q low → WholeRoot (r || s) q low
  more_whole r s root.Nothing low h = h
  more_whole r s root.Refused low h = h
  more_whole r s root.Member low h = h
  more_whole r s (root.Variable v) low h = h
  more_whole r s (root.Field p o) low h = (h.0, h.1, λ e. h.2 (or_left r s e))
  more_whole r s (root.Object o c) low h = h

  one_of : (b : Bool) (x y : Elab (Option Fault)) → (b ≡ true → Standing x) → (b ≡ false → Standing y) → Standing (if b then x else y)
  one_of true x y h k = h refl
  one_of false x y h k = k refl

  random_settled : (x i : Elab (Option Fault)) → spec.bit_faults first_one x i ≡ None → i.reads.random ≡ false
  random_settled x i e =
      let a : Option Fault = when first_one i.reads.random i.at refusal.RandomIndex in
      let b : Option Fault = when first_one (is_object x.form.root) x.form.name refusal.UnknownName in
      not_when i.reads.random i.at refusal.RandomIndex (none_left a b (none_right i.faults (earlier a b) (none_right x.faults (earlier i.faults (earlier a b)) e)))

  module _ (at : ℕ) (x i : Elab (Option Fault)) (h : Standing x) (k : Value i) where
    row_standing : is_whole x.form.extent ≡ true → Standing (spec.row_part first_one at x i)
    row_standing w = record {
      rooted = h.rooted;
      reach = more_whole x.reads.random i.reads.random x.form.root x.form.low (as_whole x.reads.random x.form.extent x.form.root x.form.low (whole_no_single x.form.extent w) h.reach);
      single = λ s. absurd (true≢false (sym s));
      row = λ s f. waits_of i.tree x.reads.random i.reads.random i.form.low (k (none_right x.faults i.faults f));
      whole = λ s. absurd (true≢false (sym s));
    }

    element_standing : is_whole x.form.extent ≡ true → Standing (spec.element_part first_one at x i)
    element_standing w =
        made (spec.element_part first_one at x i) h.rooted refl
        (λ f. element_at x.form.root x.form.low x.reads.random i.reads.random i.tree h.rooted (as_whole x.reads.random x.form.extent x.form.root x.form.low (whole_no_single x.form.extent w) h.reach)
        (waits_of i.tree x.reads.random i.reads.random i.form.low (k (none_right x.faults i.faults f))))

    cell_standing : is_row x.form.extent ≡ true → Standing (spec.cell_part first_one at x i)
    cell_standing r =
        made (spec.cell_part first_one at x i) h.rooted refl
        (λ f. cell_at x.form.root x.form.low x.reads.random i.reads.random x.tree i.tree h.rooted (as_whole x.reads.random x.form.extent x.form.root x.form.low (row_no_single x.form.extent r) h.reach)
        (waits_more x.tree x.reads.random i.reads.random (h.row r (none_left x.faults i.faults f))) (waits_of i.tree x.reads.random i.reads.random i.form.low (k (none_right x.faults i.faults f))))

    bit_standing : is_single x.form.extent ≡ true → Standing (spec.bit_part first_one at x i)
    bit_standing s =
        made (spec.bit_part first_one at x i) h.rooted refl
        (λ f. let clear : BitClear x i = bit_clear x i f in
        typed_good (x.reads.random || i.reads.random) (Some shapes.bit) (shapes.bit_node x.tree i.tree x.form.low)
        (bit_good x.tree i.tree x.form.low i.form.low x.reads.random i.reads.random (random_settled x i f) (h.single s clear.base) (k clear.index)))

    array_standing : is_whole x.form.extent ≡ true → Standing (spec.array_part first_one at x i)
    array_standing w =
        one_of (is_row (element_extent (array_property x.form.root).dims)) (spec.row_part first_one at x i) (spec.element_part first_one at x i) (λ e. row_standing w) (λ e. element_standing w)

    index_standing : Standing (spec.index_part first_one at x i)
    index_standing =
        one_of (is_whole x.form.extent) (spec.array_part first_one at x i) (if is_row x.form.extent then spec.cell_part first_one at x i else spec.bit_part first_one at x i) array_standing
        (λ w. one_of (is_row x.form.extent) (spec.cell_part first_one at x i) (spec.bit_part first_one at x i) cell_standing (λ r. bit_standing (left_single x.form.extent w r)))

  parens_standing : (call : Bool) (x : Elab (Option Fault)) → Standing x → Standing (spec.with_parens first_one call x)
  parens_standing call x h = record {
    rooted = h.rooted;
    reach = h.reach;
    single = λ s f. h.single s (none_left _ _ f);
    row = λ s f. h.row s (none_left _ _ f);
    whole = λ s f. h.whole s (none_left _ _ f);
  }

  slice_standing : (at : ℕ) (x f l : Elab (Option Fault)) → RootReads x.form.root → Value x → Value f → Value l → (x.faults ≡ None → TreeFine x.shape x.reads.constant x.tree) → Standing (spec.slice_part first_one at x f l)
  slice_standing at x f l r h i j s = made (spec.slice_part first_one at x f l) r refl good
    where
      good : Value (spec.slice_part first_one at x f l)
      good e =
          let high : Bool = shapes.is_high x.form.low x.shape (spec.known first_one f) (spec.known first_one l) in
          let low : Bool = shapes.is_low x.form.low (spec.known first_one l) in
          let clear : SliceClear x f l high low = slice_clear x f l high low e in
          let p : spec.known first_one f ≡ option_map constant f.tree = known_is f.reads.constant f.faults f.tree clear.first_constant clear.first in
          let q : spec.known first_one l ≡ option_map constant l.tree = known_is l.reads.constant l.faults l.tree clear.last_constant clear.last in
          let a : shapes.is_high x.form.low x.shape (option_map constant f.tree) (option_map constant l.tree) ≡ false =
          sym (ap (λ (y : Option ℤ). shapes.is_high x.form.low x.shape y (spec.known first_one l)) p ∙ ap (λ (z : Option ℤ). shapes.is_high x.form.low x.shape (option_map constant f.tree) z) q) ∙ clear.high in
          let b : shapes.is_low x.form.low (option_map constant l.tree) ≡ false = sym (ap (shapes.is_low x.form.low) q) ∙ clear.low in
          typed_good (x.reads.random || (f.reads.random || l.reads.random)) (spec.slice_part first_one at x f l).shape (shapes.part_node x.tree f.tree l.tree x.form.low)
          (part_good x.tree f.tree l.tree x.form.low f.form.low l.form.low x.reads.random f.reads.random l.reads.random (h clear.base) (i clear.first) (j clear.last) (bounds_fit x.shape x.reads.constant x.tree x.form.low f.tree l.tree (s clear.base) a b))

  -- ---- reductions stand in no statement

  -- what is known to be an array is one of an object
  in_object : (e : Extent) (q : Root) (r : Bool) (low : ℤ) → RootReads q → RootExtent r e q low → (not (is_refused q) && not (is_whole e)) ≡ false → (is_refused q ≡ true → ⊥) → is_in_object q ≡ true
  in_object extent.Whole root.Nothing r low g w a b = absurd w
  in_object extent.Whole root.Refused r low g w a b = absurd (b refl)
  in_object extent.Whole root.Member r low g w a b = absurd w
  in_object extent.Whole (root.Variable v) r low g w a b = absurd w
  in_object extent.Whole (root.Field p None) r low g w a b = absurd g
  in_object extent.Whole (root.Field p (Some o)) r low g w a b = refl
  in_object extent.Whole (root.Object o c) r low g w a b = absurd w
  in_object extent.Single root.Nothing r low g w a b = absurd (true≢false a)
  in_object extent.Single root.Refused r low g w a b = absurd (b refl)
  in_object extent.Single root.Member r low g w a b = absurd (true≢false a)
  in_object extent.Single (root.Variable v) r low g w a b = absurd (true≢false a)
  in_object extent.Single (root.Field p o) r low g w a b = absurd (true≢false a)
  in_object extent.Single (root.Object o c) r low g w a b = absurd (true≢false a)
  in_object extent.Row root.Nothing r low g w a b = absurd (true≢false a)
  in_object extent.Row root.Refused r low g w a b = absurd (b refl)
  in_object extent.Row root.Member r low g w a b = absurd (true≢false a)
  in_object extent.Row (root.Variable v) r low g w a b = absurd (true≢false a)
  in_object extent.Row (root.Field p o) r low g w a b = absurd (true≢false a)
  in_object extent.Row (root.Object o c) r low g w a b = absurd (true≢false a)

  no_reduction : (x body : Elab (Option Fault)) → Standing x → (is_refused x.form.root ≡ true → x.faults ≡ None → ⊥) → spec.reduce_faults first_one x body ≡ None → ⊥
  no_reduction x body h r e =
      let clear : ReduceClear x body = reduce_clear x body e in
      true≢false (sym (in_object x.form.extent x.form.root x.reads.random x.form.low h.rooted h.reach clear.is_array (λ g. r g clear.fine)) ∙ clear.outside)

  refused_without : (r : Root) → is_refused (without_object r) ≡ true → is_refused r ≡ true
  refused_without root.Nothing h = h
  refused_without root.Refused h = h
  refused_without root.Member h = h
  refused_without (root.Variable v) h = h
  refused_without (root.Field p o) h = h
  refused_without (root.Object o c) h = h

  -- ---- the whole

  module _ (n : Space) (m : InStatement d n) (fits : NamesFit n) where
    value_of : (e : ExprTree) → Standing (spec.elab first_one n e) → Value (spec.plain first_one (spec.elab first_one n e))
    value_of e h = plain_value (spec.elab first_one n e) h

    mutual
      pub elab_reads : (e : ExprTree) → LiteralsFit e → Standing (spec.elab first_one n e)
      elab_reads (raw.number at v w s) l = made _ tt refl (λ f. (tt, tt, λ e. refl))
      elab_reads (raw.path at s names call) l = path_standing at (spec.last_name at names) call (look n s names).unmade (look n s names).meaning (look_reads d n m s names)
      elab_reads (raw.bit_select at x i call) l =
          let a : Elab (Option Fault) = spec.elab first_one n x in
          let b : Elab (Option Fault) = spec.plain first_one (spec.elab first_one n i) in
          parens_standing call (spec.index_part first_one at a b) (index_standing at a b (elab_reads x l.0) (value_of i (elab_reads i l.1)))
      elab_reads (raw.part_select at x g t call) l =
          let a : Elab (Option Fault) = spec.plain first_one (spec.elab first_one n x) in
          let b : Elab (Option Fault) = spec.plain first_one (spec.elab first_one n g) in
          let c : Elab (Option Fault) = spec.plain first_one (spec.elab first_one n t) in
          let s : Standing (spec.elab first_one n x) = elab_reads x l.0 in
          parens_standing call (spec.slice_part first_one at a b c)
          (slice_standing at a b c (plain_standing (spec.elab first_one n x) s).rooted (value_of x s) (value_of g (elab_reads g l.1)) (value_of t (elab_reads t l.2)) (value_ready n fits x l.0))
      elab_reads (raw.unary at op x) l =
          let a : Elab (Option Fault) = spec.plain first_one (spec.elab first_one n x) in
          made (spec.unary_part first_one at op a) tt refl
          (λ f. typed_good a.reads.random (shapes.unary_shape op a.shape) (option_map (term.unary op) a.tree) (one_good (term.unary op) a.tree a.reads.random a.form.low (λ t h q w s. (h, refl, q)) (value_of x (elab_reads x l) f)))
      elab_reads (raw.binary at op x y) l =
          let a : Elab (Option Fault) = spec.plain first_one (spec.elab first_one n x) in
          let b : Elab (Option Fault) = spec.plain first_one (spec.elab first_one n y) in
          made (spec.binary_part first_one at op a b) tt refl
          (λ f. typed_good (a.reads.random || b.reads.random) (shapes.binary_shape op a.shape b.shape) (both_known (term.binary op) a.tree b.tree)
          (two_good (term.binary op) a.tree b.tree a.reads.random b.reads.random a.form.low b.form.low
          (λ t u h p k q w s. ((h, k), refl, λ e. or_none (is_random d t) (is_random d u) (p (or_left a.reads.random b.reads.random e)) (q (or_right a.reads.random b.reads.random e))))
          (value_of x (elab_reads x l.0) (none_left a.faults b.faults f)) (value_of y (elab_reads y l.1) (none_right a.faults b.faults f))))
      elab_reads (raw.choice at t x y) l =
          let o : Elab (Option Fault) = spec.plain first_one (spec.elab first_one n t) in
          let a : Elab (Option Fault) = spec.plain first_one (spec.elab first_one n x) in
          let b : Elab (Option Fault) = spec.plain first_one (spec.elab first_one n y) in
          made (spec.choice_part first_one at o a b) tt refl
          (λ f. typed_good (o.reads.random || (a.reads.random || b.reads.random)) (shapes.choice_shape a.shape b.shape) (all_known term.choice o.tree a.tree b.tree)
          (three_good term.choice o.tree a.tree b.tree o.reads.random a.reads.random b.reads.random o.form.low a.form.low b.form.low
          (λ t u v h p k q j r w s. (
            (h, k, j),
            refl,
            λ e.
                let later = or_right o.reads.random (a.reads.random || b.reads.random) e in
                or_none (is_random d t) (is_random d u || is_random d v) (p (or_left o.reads.random (a.reads.random || b.reads.random) e))
                (or_none (is_random d u) (is_random d v) (q (or_left a.reads.random b.reads.random later)) (r (or_right a.reads.random b.reads.random later))),
          ))
          (value_of t (elab_reads t l.0) (none_left o.faults _ f)) (value_of x (elab_reads x l.1) (none_left a.faults b.faults (none_right o.faults _ f))) (value_of y (elab_reads y l.2) (none_right a.faults b.faults (none_right o.faults _ f)))))
      elab_reads (raw.inside at x rs) l =
          let a : Elab (Option Fault) = spec.plain first_one (spec.elab first_one n x) in
          let r : RangesElab (Option Fault) = spec.ranges first_one n (spec.no_ranges first_one) rs in
          made (spec.inside_part first_one at a r) tt refl
          (λ f. typed_good (a.reads.random || r.reads.random) (Some shapes.bit) (shapes.inside_node a.tree r.trees)
          (inside_good a.tree r.trees a.reads.random r.reads.random a.form.low (value_of x (elab_reads x l.0) (none_left a.faults r.faults f)) (ranges_read rs (spec.no_ranges first_one) (λ g. (tt, λ e. refl)) l.1 (none_right a.faults r.faults f))))
      elab_reads (raw.join at xs) l =
          let p : Elabs (Option Fault) = spec.parts first_one n (spec.no_parts first_one) xs in
          made (spec.join_part first_one at p) tt refl
          (λ f. typed_good p.reads.random (option_map shapes.bits_wide p.total) (shapes.join_node p.trees) (join_good p.trees p.reads.random (parts_read xs (spec.no_parts first_one) (λ g. (tt, λ e. refl)) l.1 (none_left p.faults _ f))))
      elab_reads (raw.copies at x xs) l =
          let a : Elab (Option Fault) = spec.plain first_one (spec.elab first_one n x) in
          let p : Elabs (Option Fault) = spec.parts first_one n (spec.no_parts first_one) xs in
          made (spec.copies_part first_one at a p) tt refl
          (λ f. typed_good (a.reads.random || p.reads.random) (spec.copies_part first_one at a p).shape (shapes.copies_node a.tree p.trees)
          (copies_good a.tree p.trees a.reads.random p.reads.random a.form.low (value_of x (elab_reads x l.0) (none_left a.faults _ f)) (parts_read xs (spec.no_parts first_one) (λ g. (tt, λ e. refl)) l.2 (none_left p.faults _ (none_right a.faults _ f)))))
      elab_reads (raw.sign at z x) l =
          let a : Elab (Option Fault) = spec.plain first_one (spec.elab first_one n x) in
          made (spec.sign_part first_one at z a) tt refl
          (λ f. typed_good a.reads.random (shapes.sign_shape z a.shape) (option_map (term.sign z) a.tree) (one_good (term.sign z) a.tree a.reads.random a.form.low (λ t h q w s. (h, refl, q)) (value_of x (elab_reads x l) f)))
      elab_reads (raw.paren at x) l =
          let a : Standing (spec.sole first_one (spec.elab first_one n x)) = sole_standing (spec.elab first_one n x) (elab_reads x l) in
          record { rooted = a.rooted; reach = a.reach; single = a.single; row = a.row; whole = a.whole }
      elab_reads (raw.reduce at x g item body) l =
          let a : Elab (Option Fault) = spec.elab first_one n x in
          let b : Elab (Option Fault) = spec.plain first_one (spec.elab first_one (body_space n a (argument_name item)) body) in
          made (spec.reduce_part first_one at g (spec.sole first_one a) b) tt refl
          (λ f. absurd (no_reduction (spec.sole first_one a) b (sole_standing a (elab_reads x l.0)) (λ r e. elab_rooted n x (refused_without a.form.root r) (none_left _ _ e)) f))

      parts_read : (xs : ExprTrees) (start : Elabs (Option Fault)) → (start.faults ≡ None → OptionIs (GoodList start.reads.random) start.trees) → AllFit xs → (spec.parts first_one n start xs).faults ≡ None
          → OptionIs (GoodList (spec.parts first_one n start xs).reads.random) (spec.parts first_one n start xs).trees
      parts_read raw.no_exprs start k l f = k f
      parts_read (raw.more_exprs x xs) start k l f =
          let v : Elab (Option Fault) = spec.plain first_one (spec.elab first_one n x) in
          parts_read xs (spec.and_part first_one start v)
          (λ g. list_more start.trees v.tree start.reads.random v.reads.random v.form.low (k (none_left start.faults v.faults g)) (value_of x (elab_reads x l.0) (none_right start.faults v.faults g))) l.1 f

      ranges_read : (rs : RangeTrees) (start : RangesElab (Option Fault)) → (start.faults ≡ None → OptionIs (GoodRanges start.reads.random) start.trees) → RangesFit rs → (spec.ranges first_one n start rs).faults ≡ None
          → OptionIs (GoodRanges (spec.ranges first_one n start rs).reads.random) (spec.ranges first_one n start rs).trees
      ranges_read raw.no_ranges start k l f = k f
      ranges_read (raw.more_ranges r rs) start k l f =
          let v : RangeElab (Option Fault) = spec.range first_one n r in
          ranges_read rs (spec.and_range first_one start v)
          (λ g. range_more start.trees v.tree start.reads.random v.reads.random (k (none_left start.faults v.faults g)) (range_reads r l.0 (none_right start.faults v.faults g))) l.1 f

      range_reads : (r : RangeTree) → RangeFits r → (spec.range first_one n r).faults ≡ None → OptionIs (RangeGood (spec.range first_one n r).reads.random) (spec.range first_one n r).tree
      range_reads (raw.one x) l f = sole_member (spec.elab first_one n x) (elab_reads x l) f
      range_reads (raw.span t g) l f =
          let a : BoundElab (Option Fault) = spec.bound first_one n t in
          let b : BoundElab (Option Fault) = spec.bound first_one n g in
          span_good a.tree b.tree a.reads.random b.reads.random (bound_reads t l.0 (none_left a.faults b.faults f)) (bound_reads g l.1 (none_right a.faults b.faults f))

      bound_reads : (t : BoundTree) → BoundFits t → (spec.bound first_one n t).faults ≡ None → OptionIs (BoundGood (spec.bound first_one n t).reads.random) (spec.bound first_one n t).tree
      bound_reads (raw.value x) l f = bound_good (spec.elab first_one n x).tree (spec.elab first_one n x).reads.random (spec.elab first_one n x).form.low (value_of x (elab_reads x l) f)
      bound_reads raw.dollar l f = (tt, λ e. refl)

  as_match : (r : Bool) (t : Option ExprTerm) (low : ℤ) → Trees r low t → MatchOption t ⊤ (λ t. Reads d t)
  as_match r None low h = tt
  as_match r (Some t) low h = h.0

pub accepted_reads : AcceptedReads
accepted_reads d n e m fits l f =
    as_match d (spec.elab first_one n e).reads.random (spec.value first_one n e).tree (spec.elab first_one n e).form.low (value_of d n m fits e (elab_reads d n m fits e l) f)
