-- Each form of an expression stands where its parts do.
use Rattle.std.proofs.Common.{◌≡◌, ◌<◌, ◌+◌, ℕ, ℤ, pos, Bool, true, false, not, ◌||◌, List, [], ◌∷◌, ◌++◌, Option, None, Some, option_map, refl, sym, ap, ◌∙◌, inl, inr, arith}
use Rattle.std.specs.Prelude.{⊤, slice_get, int_lt, ◌+ℤ◌}
use Rattle.svr_limits.specs.declared.limit.TheConstants.{LOOP_LIMIT}
use Rattle.svr_operator.specs.declared.Fold.{Fold}
use Rattle.svr_typed.specs.declared.Prop.{Prop}
use Rattle.svr_typed.specs.declared.TVar.{TVar}
use Rattle.svr_typed.specs.ExprTerm as term
use Rattle.svr_typed.specs.ExprTerm.{ExprTerm, NodeTerm, RangeTerm, BoundTerm, typed, exprs_of, ranges_of}
use Rattle.svr_eval.specs.Value.{size_of}
use Rattle.svr_eval.specs.Typed.{constant}
use Rattle.svr_design.specs.Types.{IsSomeArray, ScalarIs, ArrayIs, RowsAre, HasSecond, LowIs}
use Rattle.svr_design.specs.Mentions.{is_random}
use Rattle.svr_design.specs.Constraints.{Stands, AllStand, RangesStand, RangeStands, MemberStands, BoundStands, IsNumbered, IsInside}
use Rattle.svr_elab_names.specs.declared.Vector.{Vector}
use Rattle.svr_elab_names.specs.declared.Dims.{Dims}
use Rattle.svr_elab_names.specs.declared.Dims.TheVariants as dims
use Rattle.svr_elab_names.specs.declared.Property.{Property}
use Rattle.svr_elab_names.specs.Names.{is_array}
use Rattle.svr_elab_part.specs.declared.part.Shape.{Shape}
use Rattle.svr_elab_part.specs.Shapes as shapes
use Rattle.svr_elab_part.specs.Shapes.{both_known, all_known, and_more, typed_as, inner_of}
use Rattle.svr_elab_part.specs.Forms.{is_row, element_extent, kind_low}
use Rattle.svr_elab_part.proofs.Typed.{shape_of}
use Rattle.svr_elab_part.proofs.Looked.{OptionIs}
use Rattle.svr_elab_stand_laws.specs.Stand.{There, NumberIs}

true_false : true ≡ false → ⊥
true_false h = cc

false_true : false ≡ true → ⊥
false_true h = cc

-- ---- a property of the design

scalar_is : (p : Property) (k : Vector) (q : Option Prop) → There p (Some k) q → is_array p.dims ≡ false → ScalarIs q k.kind.width k.kind.signed
scalar_is p k None h a = absurd h
scalar_is p k (Some q) h a = (h.array ∙ a, (h.width, h.signed))

array_is : (p : Property) (k : Vector) (q : Option Prop) → There p (Some k) q → is_array p.dims ≡ true → ArrayIs q k.kind.width k.kind.signed
array_is p k None h a = absurd h
array_is p k (Some q) h a = (h.array ∙ a, (h.width, h.signed))

some_array : (p : Property) (k : Vector) (q : Option Prop) → There p (Some k) q → is_array p.dims ≡ true → IsSomeArray q
some_array p k None h a = absurd h
some_array p k (Some q) h a = h.array ∙ a

low_is : (p : Property) (k : Vector) (q : Option Prop) → There p (Some k) q → LowIs q k.low
low_is p k None h = absurd h
low_is p k (Some q) h = h.low

same_some : (a b : ℕ) → Some a ≡ Some b → b ≡ a
same_some a b h = let P : Option ℕ → ℕ = some_or in ap P (sym h)
  where
    some_or : Option ℕ → ℕ
    some_or None = 0
    some_or (Some a) = a

second_is : (p : Property) (k : Vector) (q : Option Prop) (m : ℕ) → There p (Some k) q → is_array p.dims ≡ true → inner_of p.dims ≡ Some m → HasSecond q m
second_is p k None m h a e = absurd h
second_is p k (Some q) m h a e = (h.array ∙ a, same_some m q.inner (sym e ∙ h.inner))

rows_are : (p : Property) (k : Vector) (q : Option Prop) (m : ℕ) → There p (Some k) q → is_array p.dims ≡ true → inner_of p.dims ≡ Some m → RowsAre q m k.kind.width k.kind.signed
rows_are p k None m h a e = absurd h
rows_are p k (Some q) m h a e = (h.array ∙ a, same_some m q.inner (sym e ∙ h.inner), (h.width, h.signed))

-- one index leaves an element of an array of one dimension
one_dimension : (d : Dims) → is_array d ≡ true → is_row (element_extent d) ≡ false → inner_of d ≡ Some 1
one_dimension dims.Scalar a r = absurd (false_true a)
one_dimension (dims.Fixed n) a r = refl
one_dimension (dims.Rows n m) a r = absurd (true_false r)
one_dimension dims.Dynamic a r = refl

-- ---- trees

module _ (ps : List Prop) (vs : List TVar) where
  -- a tree at this depth, whose bits are numbered from `low` on
  abbrev pub Good : ℕ → ℤ → ExprTerm → Type 0
  Good depth low t = Stands ps vs depth t × IsNumbered ps vs t low

  abbrev pub NodeGood : ℕ → NodeTerm → Type 0
  NodeGood depth n = (w : ℕ) (s : Bool) → Good depth (pos 0) (typed w s n)

  abbrev pub GoodList : ℕ → List ExprTerm → Type 0
  GoodList depth ts = AllStand ps vs depth (exprs_of ts)

  abbrev pub GoodRanges : ℕ → List RangeTerm → Type 0
  GoodRanges depth rs = RangesStand ps vs depth (ranges_of rs)

  pub typed_good : (depth : ℕ) (s : Option Shape) (n : Option NodeTerm) → OptionIs (NodeGood depth) n → OptionIs (Good depth (pos 0)) (typed_as s n)
  typed_good depth None n h = tt
  typed_good depth (Some s) None h = tt
  typed_good depth (Some s) (Some n) h = h s.width s.signed

  pub one_good : (depth : ℕ) (f : ExprTerm → NodeTerm) (t : Option ExprTerm) (low : ℤ) → ((t : ExprTerm) → Stands ps vs depth t → NodeGood depth (f t)) → OptionIs (Good depth low) t → OptionIs (NodeGood depth) (option_map f t)
  one_good depth f None low e h = tt
  one_good depth f (Some t) low e h = e t h.0

  pub two_good : (depth : ℕ) (f : ExprTerm → ExprTerm → NodeTerm) (t u : Option ExprTerm) (x y : ℤ) → ((t u : ExprTerm) → Stands ps vs depth t → Stands ps vs depth u → NodeGood depth (f t u))
      → OptionIs (Good depth x) t → OptionIs (Good depth y) u → OptionIs (NodeGood depth) (both_known f t u)
  two_good depth f None u x y e h k = tt
  two_good depth f (Some t) None x y e h k = tt
  two_good depth f (Some t) (Some u) x y e h k = e t u h.0 k.0

  pub three_good : (depth : ℕ) (f : ExprTerm → ExprTerm → ExprTerm → NodeTerm) (t u v : Option ExprTerm) (x y z : ℤ)
      → ((t u v : ExprTerm) → Stands ps vs depth t → Stands ps vs depth u → Stands ps vs depth v → NodeGood depth (f t u v))
      → OptionIs (Good depth x) t → OptionIs (Good depth y) u → OptionIs (Good depth z) v → OptionIs (NodeGood depth) (all_known f t u v)
  three_good depth f None u v x y z e h k l = tt
  three_good depth f (Some t) None v x y z e h k l = tt
  three_good depth f (Some t) (Some u) None x y z e h k l = tt
  three_good depth f (Some t) (Some u) (Some v) x y z e h k l = e t u v h.0 k.0 l.0

  -- ---- lists

  all_one_more : (depth : ℕ) (ts : List ExprTerm) (t : ExprTerm) → GoodList depth ts → Stands ps vs depth t → GoodList depth (ts ++ t ∷ [])
  all_one_more depth [] t h k = (k, tt)
  all_one_more depth (u ∷ ts) t h k = (h.0, all_one_more depth ts t h.1 k)

  ranges_one_more : (depth : ℕ) (rs : List RangeTerm) (r : RangeTerm) → GoodRanges depth rs → RangeStands ps vs depth r → GoodRanges depth (rs ++ r ∷ [])
  ranges_one_more depth [] r h k = (k, tt)
  ranges_one_more depth (q ∷ rs) r h k = (h.0, ranges_one_more depth rs r h.1 k)

  pub list_more : (depth : ℕ) (ts : Option (List ExprTerm)) (t : Option ExprTerm) (low : ℤ) → OptionIs (GoodList depth) ts → OptionIs (Good depth low) t → OptionIs (GoodList depth) (and_more ts t)
  list_more depth None t low h k = tt
  list_more depth (Some ts) None low h k = tt
  list_more depth (Some ts) (Some t) low h k = all_one_more depth ts t h k.0

  pub ranges_more : (depth : ℕ) (rs : Option (List RangeTerm)) (r : Option RangeTerm) → OptionIs (GoodRanges depth) rs → OptionIs (RangeStands ps vs depth) r → OptionIs (GoodRanges depth) (and_more rs r)
  ranges_more depth None r h k = tt
  ranges_more depth (Some rs) None h k = tt
  ranges_more depth (Some rs) (Some r) h k = ranges_one_more depth rs r h k

  pub joined_good : (depth : ℕ) (ts : Option (List ExprTerm)) → OptionIs (GoodList depth) ts → OptionIs (NodeGood depth) (shapes.join_node ts)
  joined_good depth None h = tt
  joined_good depth (Some ts) h = λ w s. (h, refl)

  pub copied_good : (depth : ℕ) (t : Option ExprTerm) (ts : Option (List ExprTerm)) (low : ℤ) → OptionIs (Good depth low) t → OptionIs (GoodList depth) ts → OptionIs (NodeGood depth) (shapes.copies_node t ts)
  copied_good depth None ts low h k = tt
  copied_good depth (Some t) None low h k = tt
  copied_good depth (Some t) (Some ts) low h k = λ w s. ((h.0, k), refl)

  pub inside_good : (depth : ℕ) (t : Option ExprTerm) (rs : Option (List RangeTerm)) (low : ℤ) → OptionIs (Good depth low) t → OptionIs (GoodRanges depth) rs → OptionIs (NodeGood depth) (shapes.inside_node t rs)
  inside_good depth None rs low h k = tt
  inside_good depth (Some t) None low h k = tt
  inside_good depth (Some t) (Some rs) low h k = λ w s. ((h.0, k), refl)

  pub one_range : (depth : ℕ) (t : Option ExprTerm) → OptionIs (MemberStands ps vs depth) t → OptionIs (RangeStands ps vs depth) (option_map term.one t)
  one_range depth None h = tt
  one_range depth (Some t) h = h

  pub span_good : (depth : ℕ) (l g : Option BoundTerm) → OptionIs (BoundStands ps vs depth) l → OptionIs (BoundStands ps vs depth) g → OptionIs (RangeStands ps vs depth) (both_known term.span l g)
  span_good depth None g h k = tt
  span_good depth (Some l) None h k = tt
  span_good depth (Some l) (Some g) h k = (h, k)

  pub one_bound : (depth : ℕ) (t : Option ExprTerm) (low : ℤ) → OptionIs (Good depth low) t → OptionIs (BoundStands ps vs depth) (option_map term.value t)
  one_bound depth None low h = tt
  one_bound depth (Some t) low h = h.0

  -- a value may be a member
  member_stands : (depth : ℕ) (t : ExprTerm) → Stands ps vs depth t → MemberStands ps vs depth t
  member_stands depth (typed w s (term.number v every)) h = h
  member_stands depth (typed w s (term.prop p)) h = inl h
  member_stands depth (typed w s (term.element p i)) h = h
  member_stands depth (typed w s (term.cell p m i j)) h = h
  member_stands depth (typed w s (term.size p m)) h = h
  member_stands depth (typed w s (term.script v)) h = h
  member_stands depth (typed w s (term.loop_index k)) h = h
  member_stands depth (typed w s (term.reduce p f body)) h = h
  member_stands depth (typed w s (term.of_object o e)) h = h
  member_stands depth (typed w s (term.bit_select x i low)) h = h
  member_stands depth (typed w s (term.part_select x f l low)) h = h
  member_stands depth (typed w s (term.unary op x)) h = h
  member_stands depth (typed w s (term.binary op x y)) h = h
  member_stands depth (typed w s (term.choice t x y)) h = h
  member_stands depth (typed w s (term.inside x rs)) h = h
  member_stands depth (typed w s (term.join xs)) h = h
  member_stands depth (typed w s (term.copies n xs)) h = h
  member_stands depth (typed w s (term.sign z x)) h = h

  pub as_member : (depth : ℕ) (t : Option ExprTerm) (low : ℤ) → OptionIs (Good depth low) t → OptionIs (MemberStands ps vs depth) t
  as_member depth None low h = tt
  as_member depth (Some t) low h = member_stands depth t h.0

  -- ---- names

  -- a value of the type of a property
  of_property : (P : ExprTerm → Type 0) (p : Property) (kind : Option Vector) (n : NodeTerm) → There p kind (slice_get ps p.number)
      → ((k : Vector) → There p (Some k) (slice_get ps p.number) → P (typed k.kind.width k.kind.signed n)) → OptionIs P (shapes.property_tree None kind (Some n))
  of_property P p None n h f = tt
  of_property P p (Some k) n h f = f k h

  -- the same with the lowest bit of its range
  of_range : (depth : ℕ) (p : Property) (kind : Option Vector) (n : NodeTerm) → There p kind (slice_get ps p.number)
      → ((k : Vector) → There p (Some k) (slice_get ps p.number) → Good depth k.low (typed k.kind.width k.kind.signed n)) → OptionIs (Good depth (kind_low kind)) (shapes.property_tree None kind (Some n))
  of_range depth p None n h f = tt
  of_range depth p (Some k) n h f = f k h

  pub scalar_good : (depth : ℕ) (p : Property) → There p p.kind (slice_get ps p.number) → is_array p.dims ≡ false → OptionIs (Good depth (kind_low p.kind)) (shapes.property_tree None p.kind (Some (term.prop p.number)))
  scalar_good depth p h a =
      of_range depth p p.kind (term.prop p.number) h (λ k e. (scalar_is p k (slice_get ps p.number) e a, low_is p k (slice_get ps p.number) e))

  pub array_member : (depth : ℕ) (p : Property) → There p p.kind (slice_get ps p.number) → is_array p.dims ≡ true → OptionIs (MemberStands ps vs depth) (shapes.property_tree None p.kind (Some (term.prop p.number)))
  array_member depth p h a = of_property (MemberStands ps vs depth) p p.kind (term.prop p.number) h (λ k e. inr (array_is p k (slice_get ps p.number) e a))

  pub item_good : (depth level : ℕ) (p : Property) → level < depth → There p p.kind (slice_get ps p.number) → is_array p.dims ≡ true → OptionIs (Good depth (kind_low p.kind)) (shapes.item_tree level p)
  item_good depth level p b h a =
      of_range depth p p.kind (term.element p.number (shapes.loop_tree level)) h (λ k e. ((array_is p k (slice_get ps p.number) e a, inr tt, b), low_is p k (slice_get ps p.number) e))

  size_of_inner : (depth : ℕ) (p : Property) (k : Vector) (m : Option ℕ) → There p (Some k) (slice_get ps p.number) → is_array p.dims ≡ true → inner_of p.dims ≡ m
      → OptionIs (Good depth (pos 0)) (option_map (λ m. shapes.wrapped None shapes.whole_number (term.size p.number m)) m)
  size_of_inner depth p k None h a e = tt
  size_of_inner depth p k (Some m) h a e = (second_is p k (slice_get ps p.number) m h a e, refl)

  pub size_good : (depth : ℕ) (p : Property) (kind : Option Vector) → There p kind (slice_get ps p.number) → is_array p.dims ≡ true → OptionIs (Good depth (pos 0)) (shapes.size_tree p None)
  size_good depth p None h a = absurd h
  size_good depth p (Some k) h a = size_of_inner depth p k (inner_of p.dims) h a refl

  fold_of : (depth : ℕ) (f : Fold) (p : Property) (kind : Option Vector) → depth < LOOP_LIMIT → There p kind (slice_get ps p.number) → is_array p.dims ≡ true
      → OptionIs (Good depth (pos 0)) (shapes.property_tree None kind (option_map (term.reduce p.number f) (shapes.property_tree None kind (Some (term.element p.number (shapes.loop_tree 0))))))
  fold_of depth f p None b h a = absurd h
  fold_of depth f p (Some k) b h a =
      ((b, some_array p k (slice_get ps p.number) h a, (array_is p k (slice_get ps p.number) h a, inr tt, first depth)), refl)
    where
      first : (d : ℕ) → 0 < d + 1
      first d = omega arith

  pub fold_good : (depth : ℕ) (f : Fold) (p : Property) → depth < LOOP_LIMIT → There p p.kind (slice_get ps p.number) → is_array p.dims ≡ true → OptionIs (Good depth (pos 0)) (shapes.fold_tree p None f)
  fold_good depth f p b h a = fold_of depth f p p.kind b h a

  pub member_good : (depth : ℕ) (v : Option ℕ) (kind : Option Vector) → OptionIs (Good depth (kind_low kind)) (shapes.member_tree v kind)
  member_good depth v None = tt
  member_good depth None (Some k) = tt
  member_good depth (Some v) (Some k) = (tt, tt)

  pub variable_good : (depth v : ℕ) (kind : Option Vector) → NumberIs kind (slice_get vs v) → OptionIs (Good depth (kind_low kind)) (shapes.variable_tree v kind)
  variable_good depth v None h = tt
  variable_good depth v (Some k) h = (h, tt)

  -- ---- elements and bits

  pub element_good : (depth : ℕ) (p : Property) (kind : Option Vector) (i : Option ExprTerm) → There p kind (slice_get ps p.number) → is_array p.dims ≡ true → is_row (element_extent p.dims) ≡ false
      → OptionIs (Stands ps vs depth) i → OptionIs (Good depth (kind_low kind)) (shapes.property_tree None kind (shapes.element_node p i))
  element_good depth p None i h a r k = absurd h
  element_good depth p (Some kind) None h a r k = tt
  element_good depth p (Some kind) (Some i) h a r k =
      ((array_is p kind (slice_get ps p.number) h a, inl (second_is p kind (slice_get ps p.number) 1 h a (one_dimension p.dims a r)), k), low_is p kind (slice_get ps p.number) h)

  cell_of : (depth : ℕ) (p : Property) (kind : Vector) (m : Option ℕ) (i j : ExprTerm) → There p (Some kind) (slice_get ps p.number) → is_array p.dims ≡ true → inner_of p.dims ≡ m
      → Stands ps vs depth i → Stands ps vs depth j → OptionIs (Good depth kind.low) (shapes.property_tree None (Some kind) (option_map (λ m. shapes.cell p.number m i j) m))
  cell_of depth p kind None i j h a e k l = tt
  cell_of depth p kind (Some m) i j h a e k l = ((rows_are p kind (slice_get ps p.number) m h a e, k, l), low_is p kind (slice_get ps p.number) h)

  pub cell_good : (depth : ℕ) (p : Property) (kind : Option Vector) (i j : Option ExprTerm) → There p kind (slice_get ps p.number) → is_array p.dims ≡ true
      → OptionIs (Stands ps vs depth) i → OptionIs (Stands ps vs depth) j → OptionIs (Good depth (kind_low kind)) (shapes.property_tree None kind (shapes.cell_node p None i j))
  cell_good depth p None i j h a k l = absurd h
  cell_good depth p (Some kind) None j h a k l = tt
  cell_good depth p (Some kind) (Some i) None h a k l = tt
  cell_good depth p (Some kind) (Some i) (Some j) h a k l = cell_of depth p kind (inner_of p.dims) i j h a refl k l

  pub bit_good : (depth : ℕ) (x i : Option ExprTerm) (low other : ℤ) (b : Bool) → b ≡ false → OptionIs (Good depth low) x → OptionIs (Good depth other) i → OptionIs (λ t. is_random ps t ≡ b) i
      → OptionIs (NodeGood depth) (shapes.bit_node x i low)
  bit_good depth None i low other b e h k l = tt
  bit_good depth (Some x) None low other b e h k l = tt
  bit_good depth (Some x) (Some i) low other b e h k l = λ w s. ((h.0, h.1, k.0, l ∙ e), refl)

  -- ---- part-selects

  not_not : (b : Bool) → not b ≡ false → b ≡ true
  not_not true h = refl
  not_not false h = absurd (true_false h)

  or_left : (a b : Bool) → (a || b) ≡ false → a ≡ false
  or_left true b h = absurd (true_false h)
  or_left false b h = refl

  or_right : (a b : Bool) → (a || b) ≡ false → b ≡ false
  or_right true b h = absurd (true_false h)
  or_right false b h = h

  -- the bounds lie inside of the vector, whose shape is that of its tree
  abbrev pub BoundsFit : Option ExprTerm → ℤ → Option ExprTerm → Option ExprTerm → Type 0
  BoundsFit None low f l = ⊤
  BoundsFit (Some x) low f l =
      (shapes.is_high low (Some (shape_of x)) (option_map constant f) (option_map constant l) ≡ false) × (shapes.is_low low (option_map constant l) ≡ false)

  is_inside : (x : ExprTerm) (low f l : ℤ) → (int_lt f l || not (int_lt f (low +ℤ pos (size_of x)))) ≡ false → int_lt l low ≡ false → IsInside x low f l
  is_inside x low f l h k = (k, or_left (int_lt f l) (not (int_lt f (low +ℤ pos (size_of x)))) h, not_not (int_lt f (low +ℤ pos (size_of x))) (or_right (int_lt f l) (not (int_lt f (low +ℤ pos (size_of x)))) h))

  pub part_good : (depth : ℕ) (x f l : Option ExprTerm) (low b c : ℤ) → OptionIs (Good depth low) x → OptionIs (Good depth b) f → OptionIs (Good depth c) l → BoundsFit x low f l
      → OptionIs (NodeGood depth) (shapes.part_node x f l low)
  part_good depth None f l low b c h i j k = tt
  part_good depth (Some x) None l low b c h i j k = tt
  part_good depth (Some x) (Some f) None low b c h i j k = tt
  part_good depth (Some x) (Some f) (Some l) low b c h i j k = λ w s. ((h.0, h.1, i.0, j.0, is_inside x low (constant f) (constant l) k.0 k.1), refl)

  -- ---- reductions

  pub reduced_good : (depth : ℕ) (g : Fold) (p : Property) (kind : Option Vector) (t : Option ExprTerm) (low : ℤ) → depth < LOOP_LIMIT → There p kind (slice_get ps p.number) → is_array p.dims ≡ true
      → OptionIs (Good (depth + 1) low) t → OptionIs (NodeGood depth) (option_map (term.reduce p.number g) t)
  reduced_good depth g p None t low b h a k = absurd h
  reduced_good depth g p (Some kind) None low b h a k = tt
  reduced_good depth g p (Some kind) (Some t) low b h a k = λ w s. ((b, some_array p kind (slice_get ps p.number) h a, k.0), refl)
