-- What is accepted has a typed tree, where what is declared is known.
use Rattle.std.proofs.Common.{◌≡◌, ℕ, ℤ, pos, Bool, true, false, not, ◌&&◌, ◌||◌, if◌then◌else◌, List, [], ◌∷◌, ◌++◌, Option, None, Some, option_map, is_none, is_some, refl, sym, ap, subst, ◌∙◌}
use Rattle.std.specs.Prelude.{⊤}
use Rattle.svr_operator.specs.declared.Fold.{Fold}
use Rattle.svr_tree.specs.ExprTree as raw
use Rattle.svr_tree.specs.ExprTree.{ExprTree, ExprTrees, RangeTree, RangeTrees, BoundTree, argument_name}
use Rattle.svr_typed.specs.ExprTerm as term
use Rattle.svr_typed.specs.ExprTerm.{ExprTerm, NodeTerm, RangeTerm, BoundTerm}
use Rattle.svr_eval.specs.declared.UnaryKind.{UnaryKind}
use Rattle.svr_eval.specs.declared.UnaryKind.TheVariants.{Changed, Reduced}
use Rattle.svr_eval.specs.declared.BinaryKind.{BinaryKind}
use Rattle.svr_eval.specs.declared.BinaryKind.TheVariants.{InContext, Shifted, ByPair, Logical}
use Rattle.svr_eval.specs.Operator.{unary_kind, binary_kind}
use Rattle.svr_eval.specs.Typed.{constant}
use Rattle.svr_elab_fault.specs.declared.Fault.{Fault}
use Rattle.svr_elab_fault.specs.Refusals.{first_one}
use Rattle.svr_elab_names.specs.declared.Vector.{Vector}
use Rattle.svr_elab_names.specs.declared.Dims.{Dims}
use Rattle.svr_elab_names.specs.declared.Dims.TheVariants as dims
use Rattle.svr_elab_names.specs.declared.Property.{Property}
use Rattle.svr_elab_names.specs.declared.Meaning.{Meaning}
use Rattle.svr_elab_names.specs.declared.Meaning.TheVariants.{Wrong, LoopOf, ItemOf, MemberOf, PropertyOf, SizeOf, FoldOf, VariableOf, ObjectOf}
use Rattle.svr_elab_names.specs.Names.{Space, look, in_reduction}
use Rattle.svr_elab_part.specs.declared.part.Shape.{Shape}
use Rattle.svr_elab_part.specs.declared.part.Extent.{Extent}
use Rattle.svr_elab_part.specs.declared.part.Extent.TheVariants as extent
use Rattle.svr_elab_part.specs.declared.part.Root.{Root}
use Rattle.svr_elab_part.specs.declared.part.Root.TheVariants as root
use Rattle.svr_elab_part.specs.Elab as spec
use Rattle.svr_elab_part.specs.Elab.{Elab, Elabs, RangeElab, RangesElab, BoundElab, body_space, is_in_object, is_no_array}
use Rattle.svr_elab_part.specs.Shapes as shapes
use Rattle.svr_elab_part.specs.Shapes.{both_known, all_known, and_more, typed_as, kind_shape, array_property}
use Rattle.svr_elab_part.specs.Forms.{is_row, is_whole, is_object, is_refused, without_row, without_object, element_extent, property_extent}
use Rattle.svr_elab_part.proofs.Valued.{none_left, none_right, not_when}
use Rattle.svr_elab_expr_laws.specs.Known.{IsKnown, DimsKnown, PropertyKnown, NamesKnown, AcceptedHasTree}
use Rattle.svr_elab_expr_laws.proofs.Clear.{BitClear, bit_clear, SliceClear, slice_clear, ReduceClear, reduce_clear}
use Rattle.svr_elab_expr_laws.proofs.Named.{MeaningKnown, look_known}

true_false : true ≡ false → ⊥
true_false h = cc

false_true : false ≡ true → ⊥
false_true h = cc

not_not : (b : Bool) → not b ≡ false → b ≡ true
not_not true h = refl
not_not false h = absurd (true_false h)

or_left : (a b : Bool) → (a || b) ≡ false → a ≡ false
or_left true b h = absurd (true_false h)
or_left false b h = refl

or_right : (a b : Bool) → (a || b) ≡ false → b ≡ false
or_right true b h = absurd (true_false h)
or_right false b h = h

-- ---- options

mapped : {A B : Type 0} (f : A → B) (x : Option A) → IsKnown x → IsKnown (option_map f x)
mapped f None h = absurd (false_true h)
mapped f (Some x) h = refl

both : {A B C : Type 0} (f : A → B → C) (x : Option A) (y : Option B) → IsKnown x → IsKnown y → IsKnown (both_known f x y)
both f None y h k = absurd (false_true h)
both f (Some x) None h k = absurd (false_true k)
both f (Some x) (Some y) h k = refl

all : {A B C D : Type 0} (f : A → B → C → D) (x : Option A) (y : Option B) (z : Option C) → IsKnown x → IsKnown y → IsKnown z → IsKnown (all_known f x y z)
all f None y z h k l = absurd (false_true h)
all f (Some x) y z h k l = both (f x) y z k l

more : {A : Type 0} (xs : Option (List A)) (x : Option A) → IsKnown xs → IsKnown x → IsKnown (and_more xs x)
more xs x h k = both (λ xs x. xs ++ x ∷ []) xs x h k

as_typed : (s : Option Shape) (n : Option NodeTerm) → IsKnown s → IsKnown n → IsKnown (typed_as s n)
as_typed s n h k = both (λ s n. term.typed s.width s.signed n) s n h k

-- ---- shapes

choice_known : (s r : Option Shape) → IsKnown s → IsKnown r → IsKnown (shapes.choice_shape s r)
choice_known None r h k = absurd (false_true h)
choice_known (Some s) None h k = absurd (false_true k)
choice_known (Some s) (Some r) h k = refl

changed_known : (k : UnaryKind) (s : Option Shape) → IsKnown s → IsKnown (shapes.changed_shape k s)
changed_known (Changed f) s h = h
changed_known (Reduced f) s h = refl

paired_known : (k : BinaryKind) (s r : Option Shape) → IsKnown s → IsKnown r → IsKnown (shapes.paired_shape k s r)
paired_known (InContext f) s r h k = choice_known s r h k
paired_known (Shifted f) s r h k = h
paired_known (ByPair f) s r h k = refl
paired_known (Logical f) s r h k = refl

sign_known : (z : Bool) (s : Option Shape) → IsKnown s → IsKnown (shapes.sign_shape z s)
sign_known z None h = absurd (false_true h)
sign_known z (Some s) h = refl

total_known : (total : Option ℕ) (s : Option Shape) → IsKnown total → IsKnown s → IsKnown (shapes.and_width total s)
total_known None s h k = absurd (false_true h)
total_known (Some total) None h k = absurd (false_true k)
total_known (Some total) (Some s) h k = refl

-- ---- arrays

abbrev ArrayKnown : Root → Type 0
ArrayKnown root.Nothing = ⊥
ArrayKnown root.Refused = ⊥
ArrayKnown root.Member = ⊥
ArrayKnown (root.Variable v) = ⊥
ArrayKnown (root.Field p o) = PropertyKnown p
ArrayKnown (root.Object o c) = ⊥

-- of two dimensions
abbrev RowsKnown : Root → Type 0
RowsKnown root.Nothing = ⊥
RowsKnown root.Refused = ⊥
RowsKnown root.Member = ⊥
RowsKnown (root.Variable v) = ⊥
RowsKnown (root.Field p o) = IsKnown p.kind × IsKnown (shapes.inner_of p.dims) × IsKnown (shapes.sizes_of p.dims)
RowsKnown (root.Object o c) = ⊥

abbrev RootKnown : Extent → Root → Type 0
RootKnown extent.Single r = ⊤
RootKnown extent.Row r = RowsKnown r
RootKnown extent.Whole r = ArrayKnown r

root_single : (e : Extent) (r : Root) → e ≡ extent.Single → RootKnown e r
root_single e r h = let P : Extent → Type 0 = λ e. RootKnown e r in subst P (sym h) tt

as_array : (e : Extent) (r : Root) → is_whole e ≡ true → RootKnown e r → ArrayKnown r
as_array extent.Single r h k = absurd (false_true h)
as_array extent.Row r h k = absurd (false_true h)
as_array extent.Whole r h k = k

as_rows : (e : Extent) (r : Root) → is_row e ≡ true → RootKnown e r → RowsKnown r
as_rows extent.Single r h k = absurd (false_true h)
as_rows extent.Row r h k = k
as_rows extent.Whole r h k = absurd (false_true h)

rows_of_dims : (d : Dims) → is_row (element_extent d) ≡ true → DimsKnown d → IsKnown (shapes.inner_of d) × IsKnown (shapes.sizes_of d)
rows_of_dims dims.Scalar h k = absurd (false_true h)
rows_of_dims (dims.Fixed n) h k = absurd (false_true h)
rows_of_dims (dims.Rows n m) h k = (k.1, both (λ (n m : ℕ). (n, m)) n m k.0 k.1)
rows_of_dims dims.Dynamic h k = absurd (false_true h)

rows_of : (r : Root) → is_row (element_extent (array_property r).dims) ≡ true → ArrayKnown r → RowsKnown r
rows_of root.Nothing h k = absurd k
rows_of root.Refused h k = absurd k
rows_of root.Member h k = absurd k
rows_of (root.Variable v) h k = absurd k
rows_of (root.Field p o) h k = let d = rows_of_dims p.dims h k.1 in (k.0, d.0, d.1)
rows_of (root.Object o c) h k = absurd k

inner_known : (d : Dims) → DimsKnown d → IsKnown (shapes.inner_of d)
inner_known dims.Scalar h = refl
inner_known (dims.Fixed n) h = refl
inner_known (dims.Rows n m) h = h.1
inner_known dims.Dynamic h = refl

property_known : (o : Option ℕ) (kind : Option Vector) (n : Option NodeTerm) → IsKnown kind → IsKnown n → IsKnown (shapes.property_tree o kind n)
property_known o kind n h k = both (λ k n. shapes.wrapped o (kind_shape k) n) kind n h k

element_known : (r : Root) (t : Option ExprTerm) → ArrayKnown r → IsKnown t → IsKnown (shapes.element_tree r t)
element_known root.Nothing t h k = absurd h
element_known root.Refused t h k = absurd h
element_known root.Member t h k = absurd h
element_known (root.Variable v) t h k = absurd h
element_known (root.Field p o) t h k = property_known o p.kind (shapes.element_node p t) h.0 (mapped (term.element p.number) t k)
element_known (root.Object o c) t h k = absurd h

cell_node_known : (p : Property) (o : Option ℕ) (i j : Option ExprTerm) → IsKnown (shapes.inner_of p.dims) → IsKnown (shapes.sizes_of p.dims) → IsKnown i → IsKnown j → IsKnown (shapes.cell_node p o i j)
cell_node_known p o None j h k a b = absurd (false_true a)
cell_node_known p o (Some i) None h k a b = absurd (false_true b)
cell_node_known p None (Some i) (Some j) h k a b = mapped (λ m. shapes.cell p.number m i j) (shapes.inner_of p.dims) h
cell_node_known p (Some o) (Some i) (Some j) h k a b = mapped (λ d. shapes.placed p.number d i j) (shapes.sizes_of p.dims) k

cell_known : (r : Root) (i j : Option ExprTerm) → RowsKnown r → IsKnown i → IsKnown j → IsKnown (shapes.cell_tree r i j)
cell_known root.Nothing i j h a b = absurd h
cell_known root.Refused i j h a b = absurd h
cell_known root.Member i j h a b = absurd h
cell_known (root.Variable v) i j h a b = absurd h
cell_known (root.Field p o) i j h a b = property_known o p.kind (shapes.cell_node p o i j) h.0 (cell_node_known p o i j h.1 h.2 a b)
cell_known (root.Object o c) i j h a b = absurd h

-- an array outside of objects
reduced_known : (r : Root) (f : Fold) (s : Option Shape) (t : Option ExprTerm) → ArrayKnown r → is_in_object r ≡ false → IsKnown s → IsKnown t → IsKnown (typed_as s (shapes.array_node r f t))
reduced_known root.Nothing f s t h e k l = absurd h
reduced_known root.Refused f s t h e k l = absurd h
reduced_known root.Member f s t h e k l = absurd h
reduced_known (root.Variable v) f s t h e k l = absurd h
reduced_known (root.Field p None) f s t h e k l = as_typed s (option_map (term.reduce p.number f) t) k (mapped (term.reduce p.number f) t l)
reduced_known (root.Field p (Some o)) f s t h e k l = absurd (true_false e)
reduced_known (root.Object o c) f s t h e k l = absurd h

-- ---- parts

abbrev Both : Option Shape → Option ExprTerm → Type 0
Both s t = IsKnown s × IsKnown t

record Known (x : Elab (Option Fault)) : Type 0 where
  pub refused : is_refused x.form.root ≡ true → x.faults ≡ None → ⊥
  pub rooted : RootKnown x.form.extent x.form.root
  pub fine : x.faults ≡ None → is_object x.form.root ≡ false → Both x.shape x.tree

abbrev KnownValue : Elab (Option Fault) → Type 0
KnownValue x = x.faults ≡ None → Both x.shape x.tree

-- a value that stands for no array
made : (x : Elab (Option Fault)) → (is_refused x.form.root ≡ true → x.faults ≡ None → ⊥) → x.form.extent ≡ extent.Single → KnownValue x → Known x
made x r e h = record { refused = r; rooted = root_single x.form.extent x.form.root e; fine = λ f o. h f }

plain_value : (x : Elab (Option Fault)) → Known x → KnownValue (spec.plain first_one x)
plain_value x h f = h.fine (none_left _ _ f) (not_when _ _ _ (none_right _ _ (none_right _ _ f)))

refused_without : (r : Root) → is_refused (without_object r) ≡ true → is_refused r ≡ true
refused_without root.Nothing h = h
refused_without root.Refused h = h
refused_without root.Member h = h
refused_without (root.Variable v) h = h
refused_without (root.Field p o) h = h
refused_without (root.Object o c) h = h

rooted_without : (e : Extent) (r : Root) → RootKnown e r → RootKnown (without_row e) (without_object r)
rooted_without extent.Single r h = tt
rooted_without extent.Row r h = tt
rooted_without extent.Whole root.Nothing h = h
rooted_without extent.Whole root.Refused h = h
rooted_without extent.Whole root.Member h = h
rooted_without extent.Whole (root.Variable v) h = h
rooted_without extent.Whole (root.Field p o) h = h
rooted_without extent.Whole (root.Object o c) h = absurd h

plain_known : (x : Elab (Option Fault)) → Known x → Known (spec.plain first_one x)
plain_known x h = record { refused = λ e f. h.refused (refused_without x.form.root e) (none_left _ _ f); rooted = tt; fine = λ f o. plain_value x h f }

sole_known : (x : Elab (Option Fault)) → Known x → Known (spec.sole first_one x)
sole_known x h = record {
  refused = λ e f. h.refused (refused_without x.form.root e) (none_left _ _ f);
  rooted = rooted_without x.form.extent x.form.root h.rooted;
  fine = λ f o. h.fine (none_left _ _ f) (not_when _ _ _ (none_right _ _ (none_right _ _ f)));
}

sole_value : (x : Elab (Option Fault)) → Known x → KnownValue (spec.sole first_one x)
sole_value x h f = h.fine (none_left _ _ f) (not_when _ _ _ (none_right _ _ (none_right _ _ f)))

-- ---- names

array_rooted : (p : Property) (o : Option ℕ) (d : Dims) → PropertyKnown p → RootKnown (property_extent d) (root.Field p o)
array_rooted p o dims.Scalar h = tt
array_rooted p o (dims.Fixed n) h = h
array_rooted p o (dims.Rows n m) h = h
array_rooted p o dims.Dynamic h = h

item_known : (k : ℕ) (p : Property) → PropertyKnown p → Both (option_map kind_shape p.kind) (shapes.item_tree k p)
item_known k p h = (mapped kind_shape p.kind h.0, property_known None p.kind (Some (term.element p.number (shapes.loop_tree k))) h.0 refl)

fold_tree_known : (p : Property) (o : Option ℕ) (f : Fold) → PropertyKnown p → is_some o ≡ false → IsKnown (shapes.fold_tree p o f)
fold_tree_known p None f h e = property_known None p.kind (option_map (term.reduce p.number f) (shapes.item_tree 0 p)) h.0 (mapped (term.reduce p.number f) (shapes.item_tree 0 p) (item_known 0 p h).1)
fold_tree_known p (Some o) f h e = absurd (true_false e)

path_known : (at name : ℕ) (call : Bool) (unmade : Option ℕ) (m : Meaning) → MeaningKnown m → Known (spec.path_part first_one at name call (record { meaning = m; unmade = unmade }))
path_known at name call u (Wrong w) h = record {
  refused = λ e f. let gone : true ≡ false = not_when true w _ (none_right _ _ f) in true_false gone;
  rooted = tt;
  fine = λ f o. let gone : true ≡ false = not_when true w _ (none_right _ _ f) in absurd (true_false gone);
}
path_known at name call u (LoopOf k) h = made _ (λ e f. false_true e) refl (λ f. (refl, refl))
path_known at name call u (ItemOf k p) h = made _ (λ e f. false_true e) refl (λ f. item_known k p h)
path_known at name call u (MemberOf v kind) h = made _ (λ e f. false_true e) refl (λ f. (mapped kind_shape kind h.1, both (λ k v. term.typed k.kind.width k.kind.signed (term.number v false)) kind v h.1 h.0))
path_known at name call u (PropertyOf p o) h = record {
  refused = λ e f. false_true e;
  rooted = array_rooted p o p.dims h;
  fine = λ f e. (mapped kind_shape p.kind h.0, property_known o p.kind (Some (term.prop p.number)) h.0 refl);
}
path_known at name call u (SizeOf p o) h = made _ (λ e f. false_true e) refl (λ f. (refl, mapped (λ m. shapes.wrapped o shapes.whole_number (term.size p.number m)) (shapes.inner_of p.dims) (inner_known p.dims h.1)))
path_known at name call u (FoldOf p o g array) h = made _ (λ e f. false_true e) refl (λ f. (mapped kind_shape p.kind h.0, fold_tree_known p o g h (not_when _ _ _ (none_right _ _ f))))
path_known at name call u (VariableOf v kind) h = made _ (λ e f. false_true e) refl (λ f. (mapped kind_shape kind h, mapped (λ k. term.typed k.kind.width k.kind.signed (term.script v)) kind h))
path_known at name call u (ObjectOf o c) h = record { refused = λ e f. false_true e; rooted = tt; fine = λ f e. absurd (true_false e) }

-- ---- selects

one_of : (b : Bool) (x y : Elab (Option Fault)) → (b ≡ true → Known x) → (b ≡ false → Known y) → Known (if b then x else y)
one_of true x y h k = h refl
one_of false x y h k = k refl

field_object : (r : Root) → ArrayKnown r → is_object r ≡ false
field_object root.Nothing h = absurd h
field_object root.Refused h = absurd h
field_object root.Member h = absurd h
field_object (root.Variable v) h = absurd h
field_object (root.Field p o) h = refl
field_object (root.Object o c) h = absurd h

rows_object : (r : Root) → RowsKnown r → is_object r ≡ false
rows_object root.Nothing h = absurd h
rows_object root.Refused h = absurd h
rows_object root.Member h = absurd h
rows_object (root.Variable v) h = absurd h
rows_object (root.Field p o) h = refl
rows_object (root.Object o c) h = absurd h

module _ (at : ℕ) (x i : Elab (Option Fault)) (h : Known x) (k : KnownValue i) where
  row_known : RowsKnown x.form.root → Known (spec.row_part first_one at x i)
  row_known r = record {
    refused = λ e f. h.refused e (none_left _ _ f);
    rooted = r;
    fine = λ f o. ((h.fine (none_left _ _ f) o).0, (k (none_right _ _ f)).1);
  }

  one_element_known : ArrayKnown x.form.root → Known (spec.element_part first_one at x i)
  one_element_known r =
      made _ (λ e f. h.refused e (none_left _ _ f)) refl
      (λ f. ((h.fine (none_left _ _ f) (field_object x.form.root r)).0, element_known x.form.root i.tree r (k (none_right _ _ f)).1))

  one_cell_known : RowsKnown x.form.root → Known (spec.cell_part first_one at x i)
  one_cell_known r =
      made _ (λ e f. h.refused e (none_left _ _ f)) refl
      (λ f. let b = h.fine (none_left _ _ f) (rows_object x.form.root r) in (b.0, cell_known x.form.root x.tree i.tree r b.1 (k (none_right _ _ f)).1))

  bit_known : Known (spec.bit_part first_one at x i)
  bit_known =
      made _ (λ e f. h.refused e (none_left _ _ f)) refl
      (λ f. let clear : BitClear x i = bit_clear x i f in
      let b = h.fine clear.base clear.no_object in
      let c = k clear.index in
      (refl, as_typed (Some shapes.bit) (shapes.bit_node x.tree i.tree x.form.low) refl (both (λ (base index : ExprTerm). term.bit_select base index x.form.low) x.tree i.tree b.1 c.1)))

  array_known : ArrayKnown x.form.root → Known (spec.array_part first_one at x i)
  array_known r =
      one_of (is_row (element_extent (array_property x.form.root).dims)) (spec.row_part first_one at x i) (spec.element_part first_one at x i)
      (λ e. row_known (rows_of x.form.root e r)) (λ e. one_element_known r)

  index_known : Known (spec.index_part first_one at x i)
  index_known =
      one_of (is_whole x.form.extent) (spec.array_part first_one at x i) (if is_row x.form.extent then spec.cell_part first_one at x i else spec.bit_part first_one at x i)
      (λ e. array_known (as_array x.form.extent x.form.root e h.rooted))
      (λ d. one_of (is_row x.form.extent) (spec.cell_part first_one at x i) (spec.bit_part first_one at x i)
      (λ e. one_cell_known (as_rows x.form.extent x.form.root e h.rooted)) (λ e. bit_known))

parens_known : (call : Bool) (x : Elab (Option Fault)) → Known x → Known (spec.with_parens first_one call x)
parens_known call x h = record { refused = λ e f. h.refused e (none_left _ _ f); rooted = h.rooted; fine = λ f o. h.fine (none_left _ _ f) o }

known_is : (c : Bool) (f : Option Fault) (t : Option ExprTerm) → c ≡ true → f ≡ None → (if c && is_none f then option_map constant t else None) ≡ option_map constant t
known_is c f t h k =
    ap (λ (b : Bool). if b && is_none f then option_map constant t else None) h ∙ ap (λ (x : Option Fault). if is_none x then option_map constant t else None) k

number_known : (c : Bool) (f : Option Fault) (t : Option ExprTerm) → c ≡ true → f ≡ None → IsKnown t → IsKnown (if c && is_none f then option_map constant t else None)
number_known c f t h k l = let P : Option ℤ → Type 0 = IsKnown in subst P (sym (known_is c f t h k)) (mapped constant t l)

inside_bounds : (above below : Bool) (y z : Option ℤ) → above ≡ false → below ≡ false → IsKnown y → IsKnown z → IsKnown (shapes.part_shape (above || below) y z)
inside_bounds true below y z a b h k = absurd (true_false a)
inside_bounds false true y z a b h k = absurd (true_false b)
inside_bounds false false y z a b h k = both shapes.bits_counted y z h k

slice_known : (at : ℕ) (x f l : Elab (Option Fault)) → Known x → KnownValue x → KnownValue f → KnownValue l → Known (spec.slice_part first_one at x f l)
slice_known at x f l r h i j = made _ (λ e g. r.refused e (none_left _ _ g)) refl found
  where
    found : KnownValue (spec.slice_part first_one at x f l)
    found e =
        let high : Bool = shapes.is_high x.form.low x.shape (spec.known first_one f) (spec.known first_one l) in
        let low : Bool = shapes.is_low x.form.low (spec.known first_one l) in
        let clear : SliceClear x f l high low = slice_clear x f l high low e in
        let u = (i clear.first).1 in let v = (j clear.last).1 in
        let from = number_known f.reads.constant f.faults f.tree clear.first_constant clear.first u in
        let to = number_known l.reads.constant l.faults l.tree clear.last_constant clear.last v in
        let shaped = inside_bounds high low (spec.known first_one f) (spec.known first_one l) clear.high clear.low from to in
        let shape : Option Shape = shapes.part_shape (high || low) (spec.known first_one f) (spec.known first_one l) in
        (shaped, as_typed shape (shapes.part_node x.tree f.tree l.tree x.form.low) shaped (all (λ (base first last : ExprTerm). term.part_select base first last x.form.low) x.tree f.tree l.tree (h clear.base).1 u v))

-- ---- lists

abbrev KnownParts : Elabs (Option Fault) → Type 0
KnownParts x = x.faults ≡ None → IsKnown x.total × IsKnown x.trees

abbrev KnownRange : RangeElab (Option Fault) → Type 0
KnownRange x = x.faults ≡ None → IsKnown x.tree

abbrev KnownRanges : RangesElab (Option Fault) → Type 0
KnownRanges x = x.faults ≡ None → IsKnown x.trees

abbrev KnownBound : BoundElab (Option Fault) → Type 0
KnownBound x = x.faults ≡ None → IsKnown x.tree

copies_total_known : (n : Option ℤ) (total : Option ℕ) → shapes.is_too_few n ≡ false → IsKnown n → IsKnown total → IsKnown (shapes.copies_total n total)
copies_total_known None total few h k = absurd (false_true h)
copies_total_known (Some n) total few h k = enough (shapes.is_less n (pos 1)) few
  where
    enough : (b : Bool) → b ≡ false → IsKnown (if b then None else option_map (shapes.copied_width n) total)
    enough true e = absurd (true_false e)
    enough false e = mapped (shapes.copied_width n) total k

copies_known : (at : ℕ) (n : Elab (Option Fault)) (xs : Elabs (Option Fault)) → KnownValue n → KnownParts xs → KnownValue (spec.copies_part first_one at n xs)
copies_known at n xs h k f =
    let rest = none_right _ _ f in
    let tests = none_right _ _ rest in
    let own = none_left _ _ f in
    let t = (h own).1 in
    let parts = k (none_left _ _ rest) in
    let number = number_known n.reads.constant n.faults n.tree (not_not n.reads.constant (not_when _ _ _ (none_left _ _ tests))) own t in
    let few = not_when _ _ _ (none_left _ _ (none_right _ _ tests)) in
    let shaped = mapped shapes.bits_wide (shapes.copies_total (spec.known first_one n) xs.total) (copies_total_known (spec.known first_one n) xs.total few number parts.0) in
    (shaped, as_typed _ (shapes.copies_node n.tree xs.trees) shaped (both (λ n ts. term.copies n (term.exprs_of ts)) n.tree xs.trees t parts.1))

-- what is reduced is an array
whole : (e : Extent) (r : Root) → (not (is_refused r) && not (is_whole e)) ≡ false → (is_refused r ≡ true → ⊥) → RootKnown e r → ArrayKnown r
whole extent.Whole r a b h = h
whole extent.Single root.Refused a b h = absurd (b refl)
whole extent.Row root.Refused a b h = absurd (b refl)
whole extent.Single root.Nothing a b h = absurd (true_false a)
whole extent.Row root.Nothing a b h = absurd (true_false a)
whole extent.Single root.Member a b h = absurd (true_false a)
whole extent.Row root.Member a b h = absurd (true_false a)
whole extent.Single (root.Variable v) a b h = absurd (true_false a)
whole extent.Row (root.Variable v) a b h = absurd (true_false a)
whole extent.Single (root.Field p o) a b h = absurd (true_false a)
whole extent.Row (root.Field p o) a b h = absurd (true_false a)
whole extent.Single (root.Object o c) a b h = absurd (true_false a)
whole extent.Row (root.Object o c) a b h = absurd (true_false a)

whole_array : (x : Elab (Option Fault)) → Known x → x.faults ≡ None → is_no_array x ≡ false → ArrayKnown x.form.root
whole_array x h f a = whole x.form.extent x.form.root a (λ g. h.refused g f) h.rooted

property_of_sole : (r : Root) → ArrayKnown (without_object r) → PropertyKnown (array_property r)
property_of_sole root.Nothing h = absurd h
property_of_sole root.Refused h = absurd h
property_of_sole root.Member h = absurd h
property_of_sole (root.Variable v) h = absurd h
property_of_sole (root.Field p o) h = h
property_of_sole (root.Object o c) h = absurd h

reduce_known : (at : ℕ) (f : Fold) (x body : Elab (Option Fault)) → Known x → KnownValue body → KnownValue (spec.reduce_part first_one at f x body)
reduce_known at f x body h k e =
    let clear : ReduceClear x body = reduce_clear x body e in
    let b = k clear.inner in
    let r = whole_array x h clear.fine clear.is_array in
    (b.0, reduced_known x.form.root f body.shape body.tree r clear.outside b.0 b.1)

inside_names : (n : Space) (p : Property) (item : Option ℕ) → NamesKnown n → PropertyKnown p → NamesKnown (in_reduction n p item)
inside_names n p item m h = record { globals = m.globals; props = m.props; classes = m.classes; later = m.later; loops = (h, m.loops); vars = m.vars }

-- ---- the whole

value_of : (n : Space) (e : ExprTree) → Known (spec.elab first_one n e) → KnownValue (spec.plain first_one (spec.elab first_one n e))
value_of n e h = plain_value (spec.elab first_one n e) h

mutual
  elab_known : (n : Space) (m : NamesKnown n) (e : ExprTree) → Known (spec.elab first_one n e)
  elab_known n m (raw.number at v w s) = made _ (λ e f. false_true e) refl (λ f. (refl, refl))
  elab_known n m (raw.path at s names call) =
      path_known at (spec.last_name at names) call (look n s names).unmade (look n s names).meaning (look_known n m s names)
  elab_known n m (raw.bit_select at x i call) =
      let a : Elab (Option Fault) = spec.elab first_one n x in let b : Elab (Option Fault) = spec.plain first_one (spec.elab first_one n i) in
      parens_known call (spec.index_part first_one at a b) (index_known at a b (elab_known n m x) (value_of n i (elab_known n m i)))
  elab_known n m (raw.part_select at x g l call) =
      let a : Elab (Option Fault) = spec.plain first_one (spec.elab first_one n x) in
      let b : Elab (Option Fault) = spec.plain first_one (spec.elab first_one n g) in
      let d : Elab (Option Fault) = spec.plain first_one (spec.elab first_one n l) in
      parens_known call (spec.slice_part first_one at a b d)
      (slice_known at a b d (plain_known (spec.elab first_one n x) (elab_known n m x)) (value_of n x (elab_known n m x)) (value_of n g (elab_known n m g)) (value_of n l (elab_known n m l)))
  elab_known n m (raw.unary at op x) =
      let a : Elab (Option Fault) = spec.plain first_one (spec.elab first_one n x) in
      made _ (λ e f. false_true e) refl
      (λ f. let b = value_of n x (elab_known n m x) f in
      let s = changed_known (unary_kind op) a.shape b.0 in
      (s, as_typed (shapes.unary_shape op a.shape) (option_map (term.unary op) a.tree) s (mapped (term.unary op) a.tree b.1)))
  elab_known n m (raw.binary at op x y) =
      let a : Elab (Option Fault) = spec.plain first_one (spec.elab first_one n x) in
      let b : Elab (Option Fault) = spec.plain first_one (spec.elab first_one n y) in
      made _ (λ e f. false_true e) refl
      (λ f. let c = value_of n x (elab_known n m x) (none_left _ _ f) in
      let d = value_of n y (elab_known n m y) (none_right _ _ f) in
      let s = paired_known (binary_kind op) a.shape b.shape c.0 d.0 in
      (s, as_typed (shapes.binary_shape op a.shape b.shape) (both_known (term.binary op) a.tree b.tree) s (both (term.binary op) a.tree b.tree c.1 d.1)))
  elab_known n m (raw.choice at t x y) =
      let o : Elab (Option Fault) = spec.plain first_one (spec.elab first_one n t) in
      let a : Elab (Option Fault) = spec.plain first_one (spec.elab first_one n x) in
      let b : Elab (Option Fault) = spec.plain first_one (spec.elab first_one n y) in
      made _ (λ e f. false_true e) refl
      (λ f. let u = value_of n t (elab_known n m t) (none_left _ _ f) in
      let c = value_of n x (elab_known n m x) (none_left _ _ (none_right _ _ f)) in
      let d = value_of n y (elab_known n m y) (none_right _ _ (none_right _ _ f)) in
      let s = choice_known a.shape b.shape c.0 d.0 in
      (s, as_typed (shapes.choice_shape a.shape b.shape) (all_known term.choice o.tree a.tree b.tree) s (all term.choice o.tree a.tree b.tree u.1 c.1 d.1)))
  elab_known n m (raw.inside at x rs) =
      let a : Elab (Option Fault) = spec.plain first_one (spec.elab first_one n x) in
      let r : RangesElab (Option Fault) = spec.ranges first_one n (spec.no_ranges first_one) rs in
      made _ (λ e f. false_true e) refl
      (λ f. let c = value_of n x (elab_known n m x) (none_left _ _ f) in
      let d = ranges_known n m rs (spec.no_ranges first_one) (λ g. refl) (none_right _ _ f) in
      (refl, as_typed (Some shapes.bit) (shapes.inside_node a.tree r.trees) refl (both (λ x rs. term.inside x (term.ranges_of rs)) a.tree r.trees c.1 d)))
  elab_known n m (raw.join at xs) =
      let p : Elabs (Option Fault) = spec.parts first_one n (spec.no_parts first_one) xs in
      made _ (λ e f. false_true e) refl
      (λ f. let c = parts_known n m xs (spec.no_parts first_one) (λ g. (refl, refl)) (none_left _ _ f) in
      let s = mapped shapes.bits_wide p.total c.0 in
      (s, as_typed (option_map shapes.bits_wide p.total) (shapes.join_node p.trees) s (mapped (λ ts. term.join (term.exprs_of ts)) p.trees c.1)))
  elab_known n m (raw.copies at x xs) =
      made _ (λ e f. false_true e) refl
      (copies_known at (spec.plain first_one (spec.elab first_one n x)) (spec.parts first_one n (spec.no_parts first_one) xs) (value_of n x (elab_known n m x))
      (parts_known n m xs (spec.no_parts first_one) (λ g. (refl, refl))))
  elab_known n m (raw.sign at z x) =
      let a : Elab (Option Fault) = spec.plain first_one (spec.elab first_one n x) in
      made _ (λ e f. false_true e) refl
      (λ f. let b = value_of n x (elab_known n m x) f in
      let s = sign_known z a.shape b.0 in
      (s, as_typed (shapes.sign_shape z a.shape) (option_map (term.sign z) a.tree) s (mapped (term.sign z) a.tree b.1)))
  elab_known n m (raw.paren at x) =
      let a : Known (spec.sole first_one (spec.elab first_one n x)) = sole_known (spec.elab first_one n x) (elab_known n m x) in
      record { refused = a.refused; rooted = a.rooted; fine = a.fine }
  -- the body is looked at where its array is known to be one
  elab_known n m (raw.reduce at x g item body) =
      let a : Elab (Option Fault) = spec.elab first_one n x in
      let b : Elab (Option Fault) = spec.sole first_one a in
      let h : Known a = elab_known n m x in
      let s : Known b = sole_known a h in
      let i : Space = body_space n a (argument_name item) in
      let d : Elab (Option Fault) = spec.plain first_one (spec.elab first_one i body) in
      made _ (λ e f. false_true e) refl
      (λ f. let clear : ReduceClear b d = reduce_clear b d f in
      let p : PropertyKnown (array_property a.form.root) = property_of_sole a.form.root (whole_array b s clear.fine clear.is_array) in
      reduce_known at g b d s (value_of i body (elab_known i (inside_names n (array_property a.form.root) (argument_name item) m p) body)) f)

  parts_known : (n : Space) (m : NamesKnown n) (xs : ExprTrees) (start : Elabs (Option Fault)) → KnownParts start → KnownParts (spec.parts first_one n start xs)
  parts_known n m raw.no_exprs start k = k
  parts_known n m (raw.more_exprs x xs) start k =
      let v : Elab (Option Fault) = spec.plain first_one (spec.elab first_one n x) in
      parts_known n m xs (spec.and_part first_one start v)
      (λ f. let a = k (none_left _ _ f) in let b = value_of n x (elab_known n m x) (none_right _ _ f) in
      (total_known start.total v.shape a.0 b.0, more start.trees v.tree a.1 b.1))

  ranges_known : (n : Space) (m : NamesKnown n) (rs : RangeTrees) (start : RangesElab (Option Fault)) → KnownRanges start → KnownRanges (spec.ranges first_one n start rs)
  ranges_known n m raw.no_ranges start k = k
  ranges_known n m (raw.more_ranges r rs) start k =
      ranges_known n m rs (spec.and_range first_one start (spec.range first_one n r))
      (λ f. more start.trees (spec.range first_one n r).tree (k (none_left _ _ f)) (range_known n m r (none_right _ _ f)))

  range_known : (n : Space) (m : NamesKnown n) (r : RangeTree) → KnownRange (spec.range first_one n r)
  range_known n m (raw.one x) f = mapped term.one (spec.elab first_one n x).tree (sole_value (spec.elab first_one n x) (elab_known n m x) f).1
  range_known n m (raw.span l g) f = both term.span (spec.bound first_one n l).tree (spec.bound first_one n g).tree (bound_known n m l (none_left _ _ f)) (bound_known n m g (none_right _ _ f))

  bound_known : (n : Space) (m : NamesKnown n) (b : BoundTree) → KnownBound (spec.bound first_one n b)
  bound_known n m (raw.value x) f = mapped term.value (spec.elab first_one n x).tree (value_of n x (elab_known n m x) f).1
  bound_known n m raw.dollar f = refl

pub accepted_has_tree : AcceptedHasTree
accepted_has_tree n e m f = (plain_value (spec.elab first_one n e) (elab_known n m e) f).1
