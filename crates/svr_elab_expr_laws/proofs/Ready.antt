-- What is accepted is typed: an expression without a refusal has a typed tree of the shape that is known of it.
use Rattle.std.proofs.Common.{◌≡◌, ℕ, ◌*◌, ◌^◌, ◌<◌, ◌≤◌, min, max, ℤ, pos, negsuc, Bool, true, false, not, ◌&&◌, ◌||◌, if◌then◌else◌, List, [], ◌∷◌, Option, None, Some, option_map, is_none, is_some, refl, sym, ap, subst, ◌∙◌, arith}
use Rattle.std.specs.Prelude.{⊤, MatchOption, int_lt, ◌+ℤ◌, ◌-ℤ◌}
use Rattle.std.proofs.lemmas.Int.{ints}
use Rattle.std.proofs.Math.Nat.{mul-le-mul_left}
use Rattle.svr_operator.specs.declared.Fold.{Fold}
use Rattle.svr_operator.specs.declared.BinOp.TheVariants as op
use Rattle.svr_tree.specs.ExprTree as raw
use Rattle.svr_tree.specs.ExprTree.{ExprTree, ExprTrees, RangeTree, RangeTrees, BoundTree, argument_name}
use Rattle.svr_typed.specs.ExprTerm as term
use Rattle.svr_typed.specs.ExprTerm.{ExprTerm, typed, NodeTerm}
use Rattle.svr_eval.specs.Value.{size_of, sign_of, node_size, node_sign}
use Rattle.svr_eval.specs.Typed.{IsTyped, NodeIsTyped, IsConstant, constant}
use Rattle.svr_elab_fault.specs.declared.Fault.{Fault}
use Rattle.svr_elab_fault.specs.Refusals.{first_one}
use Rattle.svr_elab_names.specs.declared.Vector.{Vector}
use Rattle.svr_elab_names.specs.declared.Dims.{Dims}
use Rattle.svr_elab_names.specs.declared.Dims.TheVariants as dims
use Rattle.svr_elab_names.specs.declared.Property.{Property}
use Rattle.svr_elab_names.specs.declared.VarStand.{VarStand}
use Rattle.svr_elab_names.specs.declared.VarStand.TheVariants as var_stand
use Rattle.svr_elab_names.specs.declared.Meaning.{Meaning}
use Rattle.svr_elab_names.specs.declared.Meaning.TheVariants.{Wrong, LoopOf, ItemOf, MemberOf, PropertyOf, SizeOf, FoldOf, VariableOf, ObjectOf}
use Rattle.svr_elab_names.specs.Names.{Space, VarName, Loop, look, in_reduction}
use Rattle.svr_elab_part.specs.declared.part.Shape.{Shape}
use Rattle.svr_elab_part.specs.declared.part.Extent.{Extent}
use Rattle.svr_elab_part.specs.declared.part.Extent.TheVariants as extent
use Rattle.svr_elab_part.specs.declared.part.Root.{Root}
use Rattle.svr_elab_part.specs.declared.part.Root.TheVariants as root
use Rattle.svr_elab_part.specs.Fits.{Each, ItemFits, StandFits, KindFits, DimsFit, PropertyFits, NamesFit, LiteralsFit, AllFit, RangesFit, RangeFits, BoundFits, IsSome}
use Rattle.svr_elab_part.specs.Elab as spec
use Rattle.svr_elab_part.specs.Elab.{Elab, Elabs, RangeElab, RangesElab, BoundElab, body_space}
use Rattle.svr_elab_part.specs.Shapes as shapes
use Rattle.svr_elab_part.specs.Shapes.{both_known, kind_shape, typed_as, array_property, stored_sign, wide_number, widened, is_less}
use Rattle.svr_elab_part.specs.Forms.{is_single, is_row, is_whole, without_row, without_object, element_extent, property_extent}
use Rattle.svr_elab_expr_laws.specs.Accepted.{AcceptedIsTyped}
use Rattle.svr_elab_part.proofs.Typed.{shape_of, Fine, TreeFine, SomeRange, SomeRanges, SomeBound, SomeParts, size_from, size_to, node_fine, without_node, unary_fine, sign_fine, binary_fine, choice_fine, one_fine, bound_fine, span_fine, range_more, inside_fine, part_more, no_parts_fine, join_fine, copies_fine, literal_fine, member_fine}
use Rattle.svr_elab_part.proofs.Valued.{none_left, none_right, not_when}
use Rattle.svr_elab_expr_laws.proofs.Clear.{SliceClear, slice_clear, ReduceClear, reduce_clear}
use Rattle.svr_elab_part.proofs.Looked.{OptionIs, SpaceIs, MeaningIs, StandIs, look_is}

true_false : true ≡ false → ⊥
true_false h = cc

false_true : false ≡ true → ⊥
false_true h = cc

not_not : (b : Bool) → not b ≡ false → b ≡ true
not_not true h = refl
not_not false h = absurd (true_false h)

or_left : (a b : Bool) → (a || b) ≡ false → a ≡ false
or_left true b h = absurd (true_false h)
or_left false b h = refl

or_right : (a b : Bool) → (a || b) ≡ false → b ≡ false
or_right true b h = absurd (true_false h)
or_right false b h = h

known_is : (c : Bool) (f : Option Fault) (t : Option ExprTerm) → c ≡ true → f ≡ None → (if c && is_none f then option_map constant t else None) ≡ option_map constant t
known_is c f t h k =
    ap (λ (b : Bool). if b && is_none f then option_map constant t else None) h ∙ ap (λ (x : Option Fault). if is_none x then option_map constant t else None) k

-- ---- parts

abbrev TreeTyped : Option ExprTerm → Type 0
TreeTyped None = ⊤
TreeTyped (Some t) = IsTyped t

-- of a row of an array the index alone is a value
abbrev ReadyTree : Bool → Option Shape → Bool → Option ExprTerm → Type 0
ReadyTree true s c t = TreeTyped t
ReadyTree false s c t = TreeFine s c t

abbrev RootFits : Root → Type 0
RootFits root.Nothing = ⊤
RootFits root.Refused = ⊤
RootFits root.Member = ⊤
RootFits (root.Variable v) = ⊤
RootFits (root.Field p o) = PropertyFits p
RootFits (root.Object o c) = ⊤

pub record Ready (x : Elab (Option Fault)) : Type 0 where
  pub root : RootFits x.form.root
  pub array : is_single x.form.extent ≡ false → x.shape ≡ option_map kind_shape (array_property x.form.root).kind
  pub fine : x.faults ≡ None → ReadyTree (is_row x.form.extent) x.shape x.reads.constant x.tree

-- a value
abbrev ReadyValue : Elab (Option Fault) → Type 0
ReadyValue x = x.faults ≡ None → TreeFine x.shape x.reads.constant x.tree

fine_typed : (s : Option Shape) (c : Bool) (t : Option ExprTerm) → TreeFine s c t → TreeTyped t
fine_typed s c None h = tt
fine_typed s c (Some t) h = h.typed

single_row : (e : Extent) → not (is_single e) ≡ false → is_row e ≡ false
single_row extent.Single h = refl
single_row extent.Row h = absurd (true_false h)
single_row extent.Whole h = refl

as_value : (b : Bool) (s : Option Shape) (c : Bool) (t : Option ExprTerm) → b ≡ false → ReadyTree b s c t → TreeFine s c t
as_value true s c t h r = absurd (true_false h)
as_value false s c t h r = r

plain_value : (x : Elab (Option Fault)) → Ready x → ReadyValue (spec.plain first_one x)
plain_value x h f =
    as_value (is_row x.form.extent) x.shape x.reads.constant x.tree (single_row x.form.extent (not_when _ _ _ (none_left _ _ (none_right _ _ f)))) (h.fine (none_left _ _ f))

sole_value : (x : Elab (Option Fault)) → Ready x → ReadyValue (spec.sole first_one x)
sole_value x h f = as_value (is_row x.form.extent) x.shape x.reads.constant x.tree (not_when _ _ _ (none_left _ _ (none_right _ _ f))) (h.fine (none_left _ _ f))

root_without : (r : Root) → RootFits r → RootFits (without_object r)
root_without root.Nothing h = tt
root_without root.Refused h = tt
root_without root.Member h = tt
root_without (root.Variable v) h = tt
root_without (root.Field p o) h = h
root_without (root.Object o c) h = tt

property_without : (r : Root) → array_property (without_object r) ≡ array_property r
property_without root.Nothing = refl
property_without root.Refused = refl
property_without root.Member = refl
property_without (root.Variable v) = refl
property_without (root.Field p o) = refl
property_without (root.Object o c) = refl

still_no_row : (e : Extent) → is_row (without_row e) ≡ false
still_no_row extent.Single = refl
still_no_row extent.Row = refl
still_no_row extent.Whole = refl

still_array : (e : Extent) → is_single (without_row e) ≡ false → is_single e ≡ false
still_array extent.Single h = h
still_array extent.Row h = refl
still_array extent.Whole h = h

ready_value : (b : Bool) (s : Option Shape) (c : Bool) (t : Option ExprTerm) → b ≡ false → TreeFine s c t → ReadyTree b s c t
ready_value b s c t h f = let P : Bool → Type 0 = λ b. ReadyTree b s c t in subst P (sym h) f

plain_ready : (x : Elab (Option Fault)) → Ready x → Ready (spec.plain first_one x)
plain_ready x h = record { root = root_without x.form.root h.root; array = λ e. absurd (true_false e); fine = plain_value x h }

sole_ready : (x : Elab (Option Fault)) → Ready x → Ready (spec.sole first_one x)
sole_ready x h = record {
  root = root_without x.form.root h.root;
  array = λ e. h.array (still_array x.form.extent e) ∙ ap (λ (p : Property). option_map kind_shape p.kind) (sym (property_without x.form.root));
  fine = λ f. ready_value (is_row (without_row x.form.extent)) x.shape x.reads.constant x.tree (still_no_row x.form.extent) (sole_value x h f);
}

-- an expression that is no path
other_ready : (x : Elab (Option Fault)) → RootFits x.form.root → x.form.extent ≡ extent.Single → ReadyValue x → Ready x
other_ready x r e h = record {
  root = r;
  array = λ a. absurd (true_false (sym (ap is_single e) ∙ a));
  fine = λ f. ready_value (is_row x.form.extent) x.shape x.reads.constant x.tree (ap is_row e) (h f);
}

-- ---- names and elements

-- a node that stands for a value of any size
abbrev IsValue : NodeTerm → Type 0
IsValue n = (w : ℕ) (s : Bool) → (node_size w n ≡ w) × (node_sign s n ≡ s) × NodeIsTyped w n

wrapped_fine : (o : Option ℕ) (s : Shape) (n : NodeTerm) → 1 ≤ s.width → s.width ≤ 64 → node_size s.width n ≡ s.width → node_sign s.signed n ≡ s.signed → NodeIsTyped s.width n
    → Fine (Some s) false (shapes.wrapped o s n)
wrapped_fine None s n low high size sign h = node_fine s.width s.signed false n low high size sign h (λ b. absurd (false_true b))
wrapped_fine (Some o) s n low high size sign h =
    node_fine s.width s.signed false (term.of_object o (typed s.width s.signed n)) low high size sign (low, high, size, sign, h) (λ b. absurd (false_true b))

property_fine : (o : Option ℕ) (kind : Option Vector) (n : Option NodeTerm) → KindFits kind → OptionIs IsValue n → TreeFine (option_map kind_shape kind) false (shapes.property_tree o kind n)
property_fine o None n h k = tt
property_fine o (Some kind) None h k = tt
property_fine o (Some kind) (Some n) h k =
    let v = k kind.kind.width kind.kind.signed in
    wrapped_fine o (kind_shape kind) n h.0 h.1 v.0 v.1 v.2

loop_typed : (k : ℕ) → IsTyped (shapes.loop_tree k)
loop_typed k = (omega arith, omega arith, refl, refl, tt)

item_fine : (k : ℕ) (p : Property) → PropertyFits p → TreeFine (option_map kind_shape p.kind) false (shapes.item_tree k p)
item_fine k p h = property_fine None p.kind (Some (term.element p.number (shapes.loop_tree k))) h.0 (λ w s. (refl, refl, loop_typed k))

reduced_fine : (p : ℕ) (f : Fold) (s : Option Shape) (c : Bool) (t : Option ExprTerm) → TreeFine s c t → TreeFine s false (typed_as s (option_map (term.reduce p f) t))
reduced_fine p f s c None h = without_node s false
reduced_fine p f s c (Some t) h =
    let P : Option Shape → Type 0 = λ s. TreeFine s false (typed_as s (Some (term.reduce p f t))) in
    subst P (sym h.shape) (node_fine (size_of t) (sign_of t) false (term.reduce p f t) (size_from t h.typed) (size_to t h.typed) refl refl h.typed (λ b. absurd (false_true b)))

fold_by : (p : ℕ) (f : Fold) (kind : Option Vector) (t : Option ExprTerm) → TreeFine (option_map kind_shape kind) false t
    → TreeFine (option_map kind_shape kind) false (shapes.property_tree None kind (option_map (term.reduce p f) t))
fold_by p f None t h = tt
fold_by p f (Some k) None h = tt
fold_by p f (Some k) (Some t) h = reduced_fine p f (Some (kind_shape k)) false (Some t) h

fold_fine : (p : Property) (o : Option ℕ) (f : Fold) → PropertyFits p → is_some o ≡ false → TreeFine (option_map kind_shape p.kind) false (shapes.fold_tree p o f)
fold_fine p None f h e = fold_by p.number f p.kind (shapes.item_tree 0 p) (item_fine 0 p h)
fold_fine p (Some o) f h e = absurd (true_false e)

size_of_inner : (o : Option ℕ) (p : ℕ) (m : ℕ) → 1 ≤ m → Fine (Some shapes.whole_number) false (shapes.wrapped o shapes.whole_number (term.size p m))
size_of_inner o p m h = wrapped_fine o shapes.whole_number (term.size p m) (omega arith) (omega arith) refl refl h

size_fine : (p : Property) (o : Option ℕ) (d : Dims) → DimsFit d → TreeFine (Some shapes.whole_number) false (option_map (λ m. shapes.wrapped o shapes.whole_number (term.size p.number m)) (shapes.inner_of d))
size_fine p o dims.Scalar h = size_of_inner o p.number 1 (omega arith)
size_fine p o (dims.Fixed n) h = size_of_inner o p.number 1 (omega arith)
size_fine p o (dims.Rows n None) h = tt
size_fine p o (dims.Rows n (Some m)) h = size_of_inner o p.number m h.1.0
size_fine p o dims.Dynamic h = size_of_inner o p.number 1 (omega arith)

variable_fine : (v : ℕ) (kind : Option Vector) → KindFits kind → TreeFine (option_map kind_shape kind) false (shapes.variable_tree v kind)
variable_fine v None h = tt
variable_fine v (Some k) h = node_fine k.kind.width k.kind.signed false (term.script v) h.0 h.1 refl refl tt (λ b. absurd (false_true b))

no_row : (d : Dims) → is_row (property_extent d) ≡ false
no_row dims.Scalar = refl
no_row (dims.Fixed n) = refl
no_row (dims.Rows n m) = refl
no_row dims.Dynamic = refl

-- a path by its meaning
path_ready : (at name : ℕ) (call : Bool) (unmade : Option ℕ) (m : Meaning) → MeaningIs PropertyFits KindFits m → Ready (spec.path_part first_one at name call (record { meaning = m; unmade = unmade }))
path_ready at name call u (Wrong w) h = other_ready _ tt refl (λ f. tt)
path_ready at name call u (LoopOf k) h = other_ready _ tt refl (λ f. node_fine 32 true false (term.loop_index k) (omega arith) (omega arith) refl refl tt (λ b. absurd (false_true b)))
path_ready at name call u (ItemOf k p) h = other_ready _ tt refl (λ f. item_fine k p h)
path_ready at name call u (MemberOf v kind) h = other_ready _ tt refl (λ f. member_fine v kind h)
path_ready at name call u (PropertyOf p o) h = record {
  root = h;
  array = λ e. refl;
  fine = λ f.
      ready_value (is_row (property_extent p.dims)) (option_map kind_shape p.kind) false (shapes.property_tree o p.kind (Some (term.prop p.number))) (no_row p.dims)
      (property_fine o p.kind (Some (term.prop p.number)) h.0 (λ w s. (refl, refl, tt)));
}
path_ready at name call u (SizeOf p o) h = other_ready _ tt refl (λ f. size_fine p o p.dims h.1)
path_ready at name call u (FoldOf p o g array) h = other_ready _ tt refl (λ f. fold_fine p o g h (not_when _ _ _ (none_right _ _ f)))
path_ready at name call u (VariableOf v kind) h = other_ready _ tt refl (λ f. variable_fine v kind h)
path_ready at name call u (ObjectOf o c) h = other_ready _ tt refl (λ f. tt)

-- ---- elements

element_value : (p : Property) (t : Option ExprTerm) → TreeTyped t → OptionIs IsValue (shapes.element_node p t)
element_value p None h = tt
element_value p (Some t) h = λ w s. (refl, refl, h)

element_fine : (r : Root) (s : Option Shape) (t : Option ExprTerm) → RootFits r → s ≡ option_map kind_shape (array_property r).kind → TreeTyped t → TreeFine s false (shapes.element_tree r t)
element_fine root.Nothing s t h e k = tt
element_fine root.Refused s t h e k = tt
element_fine root.Member s t h e k = tt
element_fine (root.Variable v) s t h e k = tt
element_fine (root.Field p o) s t h e k =
    let P : Option Shape → Type 0 = λ s. TreeFine s false (shapes.property_tree o p.kind (shapes.element_node p t)) in
    subst P (sym e) (property_fine o p.kind (shapes.element_node p t) h.0 (element_value p t k))
element_fine (root.Object o c) s t h e k = tt

-- an element of an array of two dimensions in an object: by its place among all elements

wide_typed : (v : ℕ) → v < 2 ^ 64 → IsTyped (wide_number v)
wide_typed v h = (omega arith, omega arith, refl, refl, h)

stored_is : (e : ExprTerm) → IsTyped e → stored_sign e ≡ sign_of e
stored_is (typed w s n) h = sym h.3

sign_twice : (e : ExprTerm) → IsTyped e → (sign_of e && stored_sign e) ≡ stored_sign e
sign_twice e h = ap (λ (b : Bool). b && stored_sign e) (sym (stored_is e h)) ∙ twice (stored_sign e)
  where
    twice : (b : Bool) → (b && b) ≡ b
    twice true = refl
    twice false = refl

max_64 : (a : ℕ) → a ≤ 64 → max a 64 ≡ 64
max_64 a h = omega arith

zero_typed : (s : Bool) → IsTyped (typed 64 s (term.number 0 false))
zero_typed s = (omega arith, omega arith, refl, refl, omega arith)

widened_typed : (e : ExprTerm) → IsTyped e → IsTyped (widened e)
widened_typed e h =
    let inner : IsTyped (typed 64 (stored_sign e) (term.binary op.BitwiseOr e (typed 64 (stored_sign e) (term.number 0 false)))) =
    (omega arith, omega arith, max_64 (size_of e) (size_to e h), sign_twice e h, (h, zero_typed (stored_sign e))) in
    (omega arith, omega arith, max_64 (size_of e) (size_to e h), refl, inner)

product_fits : (n m : ℕ) → n < 2 ^ 32 → m < 2 ^ 32 → n * m < 2 ^ 64
product_fits n m h k =
    let a : m ≤ 4294967295 = omega arith in
    let b : n * m ≤ n * 4294967295 = mul-le-mul_left n a in
    omega (arith, b)

max_both : (a b : ℕ) → a ≡ 64 → b ≡ 64 → max a b ≡ 64
max_both a b h k = omega arith

place_typed : (n m : ℕ) (i j : ExprTerm) → n < 2 ^ 32 → m < 2 ^ 32 → IsTyped i → IsTyped j → IsTyped (shapes.place_tree n m i j)
place_typed n m i j h k a b =
    let x : IsTyped (widened i) = widened_typed i a in let y : IsTyped (widened j) = widened_typed j b in
    let rows : IsTyped (wide_number n) = wide_typed n (omega arith) in let inner : IsTyped (wide_number m) = wide_typed m (omega arith) in
    let p : size_of (widened i) ≡ 64 = max_64 (size_of i) (size_to i a) in
    let q : size_of (widened j) ≡ 64 = max_64 (size_of j) (size_to j b) in
    let less_row : IsTyped (shapes.truth_of op.Less (widened i) (wide_number n)) = (omega arith, omega arith, refl, refl, (x, rows)) in
    let less_column : IsTyped (shapes.truth_of op.Less (widened j) (wide_number m)) = (omega arith, omega arith, refl, refl, (y, inner)) in
    let within : IsTyped (shapes.is_inside n m (widened i) (widened j)) = (omega arith, omega arith, refl, refl, (less_row, less_column)) in
    let u : size_of (shapes.wide_binary op.Multiply (widened i) (wide_number m)) ≡ 64 = max_both (size_of (widened i)) 64 p refl in
    let product : IsTyped (shapes.wide_binary op.Multiply (widened i) (wide_number m)) = (omega arith, omega arith, u, refl, (x, inner)) in
    let v : size_of (shapes.row_by_row m (widened i) (widened j)) ≡ 64 = max_both (size_of (shapes.wide_binary op.Multiply (widened i) (wide_number m))) (size_of (widened j)) u q in
    let place : IsTyped (shapes.row_by_row m (widened i) (widened j)) = (omega arith, omega arith, v, refl, (product, y)) in
    (omega arith, omega arith, max_both (size_of (shapes.row_by_row m (widened i) (widened j))) 64 v refl, refl, (within, place, wide_typed (n * m) (product_fits n m h k)))

cell_here : (p : Property) (d : Dims) (i j : ExprTerm) → DimsFit d → IsTyped i → IsTyped j → OptionIs IsValue (option_map (λ m. shapes.cell p.number m i j) (shapes.inner_of d))
cell_here p dims.Scalar i j h a b = λ w s. (refl, refl, (omega arith, a, b))
cell_here p (dims.Fixed n) i j h a b = λ w s. (refl, refl, (omega arith, a, b))
cell_here p (dims.Rows n None) i j h a b = tt
cell_here p (dims.Rows n (Some m)) i j h a b = λ w s. (refl, refl, (h.1.0, a, b))
cell_here p dims.Dynamic i j h a b = λ w s. (refl, refl, (omega arith, a, b))

cell_there : (p : Property) (d : Dims) (i j : ExprTerm) → DimsFit d → IsTyped i → IsTyped j → OptionIs IsValue (option_map (λ d. shapes.placed p.number d i j) (shapes.sizes_of d))
cell_there p dims.Scalar i j h a b = tt
cell_there p (dims.Fixed n) i j h a b = tt
cell_there p (dims.Rows None m) i j h a b = tt
cell_there p (dims.Rows (Some n) None) i j h a b = tt
cell_there p (dims.Rows (Some n) (Some m)) i j h a b = λ w s. (refl, refl, place_typed n m i j h.0.1 h.1.1 a b)
cell_there p dims.Dynamic i j h a b = tt

cell_value : (p : Property) (o : Option ℕ) (i j : Option ExprTerm) → DimsFit p.dims → TreeTyped i → TreeTyped j → OptionIs IsValue (shapes.cell_node p o i j)
cell_value p o None j h a b = tt
cell_value p o (Some i) None h a b = tt
cell_value p None (Some i) (Some j) h a b = cell_here p p.dims i j h a b
cell_value p (Some o) (Some i) (Some j) h a b = cell_there p p.dims i j h a b

cell_fine : (r : Root) (s : Option Shape) (i j : Option ExprTerm) → RootFits r → s ≡ option_map kind_shape (array_property r).kind → TreeTyped i → TreeTyped j → TreeFine s false (shapes.cell_tree r i j)
cell_fine root.Nothing s i j h e a b = tt
cell_fine root.Refused s i j h e a b = tt
cell_fine root.Member s i j h e a b = tt
cell_fine (root.Variable v) s i j h e a b = tt
cell_fine (root.Field p o) s i j h e a b =
    let P : Option Shape → Type 0 = λ s. TreeFine s false (shapes.property_tree o p.kind (shapes.cell_node p o i j)) in
    subst P (sym e) (property_fine o p.kind (shapes.cell_node p o i j) h.0 (cell_value p o i j h.1 a b))
cell_fine (root.Object o c) s i j h e a b = tt

-- ---- selects

bit_fine : (s : Option Shape) (c d : Bool) (x i : Option ExprTerm) (low : ℤ) (r : Option Shape) → TreeFine s c x → TreeFine r d i → TreeFine (Some shapes.bit) false (typed_as (Some shapes.bit) (shapes.bit_node x i low))
bit_fine s c d None i low r h k = tt
bit_fine s c d (Some x) None low r h k = tt
bit_fine s c d (Some x) (Some i) low r h k = node_fine 1 false false (term.bit_select x i low) (omega arith) (omega arith) refl refl (h.typed, k.typed) (λ b. absurd (false_true b))

whole_no_single : (e : Extent) → is_whole e ≡ true → is_single e ≡ false
whole_no_single extent.Single h = absurd (false_true h)
whole_no_single extent.Row h = refl
whole_no_single extent.Whole h = refl

row_no_single : (e : Extent) → is_row e ≡ true → is_single e ≡ false
row_no_single extent.Single h = absurd (false_true h)
row_no_single extent.Row h = refl
row_no_single extent.Whole h = refl

as_index : (b : Bool) (s : Option Shape) (c : Bool) (t : Option ExprTerm) → b ≡ true → ReadyTree b s c t → TreeTyped t
as_index true s c t h r = r
as_index false s c t h r = absurd (false_true h)

one_ready : (b : Bool) (x y : Elab (Option Fault)) → (b ≡ true → Ready x) → (b ≡ false → Ready y) → Ready (if b then x else y)
one_ready true x y h k = h refl
one_ready false x y h k = k refl

module _ (at : ℕ) (x i : Elab (Option Fault)) (h : Ready x) (k : ReadyValue i) where
  typed_index : i.faults ≡ None → TreeTyped i.tree
  typed_index f = fine_typed i.shape i.reads.constant i.tree (k f)

  row_ready : is_single x.form.extent ≡ false → Ready (spec.row_part first_one at x i)
  row_ready e = record { root = h.root; array = λ d. h.array e; fine = λ f. typed_index (none_right _ _ f) }

  element_ready : is_single x.form.extent ≡ false → Ready (spec.element_part first_one at x i)
  element_ready e = other_ready _ h.root refl (λ f. element_fine x.form.root x.shape i.tree h.root (h.array e) (typed_index (none_right _ _ f)))

  cell_ready : is_row x.form.extent ≡ true → Ready (spec.cell_part first_one at x i)
  cell_ready e =
      other_ready _ h.root refl
      (λ f. cell_fine x.form.root x.shape x.tree i.tree h.root (h.array (row_no_single x.form.extent e))
      (as_index (is_row x.form.extent) x.shape x.reads.constant x.tree e (h.fine (none_left _ _ f))) (typed_index (none_right _ _ f)))

  bit_ready : is_row x.form.extent ≡ false → Ready (spec.bit_part first_one at x i)
  bit_ready e =
      other_ready _ h.root refl
      (λ f. bit_fine x.shape x.reads.constant i.reads.constant x.tree i.tree x.form.low i.shape (as_value (is_row x.form.extent) x.shape x.reads.constant x.tree e (h.fine (none_left _ _ f))) (k (none_left _ _ (none_right _ _ f))))

  array_ready : is_single x.form.extent ≡ false → Ready (spec.array_part first_one at x i)
  array_ready e =
      one_ready (is_row (element_extent (array_property x.form.root).dims)) (spec.row_part first_one at x i) (spec.element_part first_one at x i) (λ d. row_ready e) (λ d. element_ready e)

  index_ready : Ready (spec.index_part first_one at x i)
  index_ready =
      one_ready (is_whole x.form.extent) (spec.array_part first_one at x i) (if is_row x.form.extent then spec.cell_part first_one at x i else spec.bit_part first_one at x i)
      (λ e. array_ready (whole_no_single x.form.extent e))
      (λ d. one_ready (is_row x.form.extent) (spec.cell_part first_one at x i) (spec.bit_part first_one at x i) cell_ready bit_ready)

parens_ready : (call : Bool) (x : Elab (Option Fault)) → Ready x → Ready (spec.with_parens first_one call x)
parens_ready call x h = record { root = h.root; array = h.array; fine = λ f. h.fine (none_left _ _ f) }

-- ---- part-selects

abbrev Counted : ℤ → Type 0
Counted z = (z ≡ pos (min 65 (shapes.count_of z))) × (1 ≤ min 65 (shapes.count_of z)) × (min 65 (shapes.count_of z) ≤ 64)

counted_by : (z h l low : ℤ) (w : ℕ) → z ≡ h -ℤ l +ℤ pos 1 → int_lt h l ≡ false → int_lt h (low +ℤ pos w) ≡ true → int_lt l low ≡ false → w ≤ 64 → Counted z
counted_by (pos n) h l low w e a b c d =
    let from : 1 ≤ n = grind (arith, ints, e, a) in
    let to : n ≤ 64 = grind (arith, ints, e, b, c, d) in
    (ap pos (least n to), some n from, most n to)
  where
    least : (n : ℕ) → n ≤ 64 → n ≡ min 65 n
    least n h = omega arith

    some : (n : ℕ) → 1 ≤ n → 1 ≤ min 65 n
    some n h = omega arith

    most : (n : ℕ) → n ≤ 64 → min 65 n ≤ 64
    most n h = omega arith
counted_by (negsuc n) h l low w e a b c d = absurd (grind (arith, ints, e, a))

slice_made : (x f l : ExprTerm) (low a b : ℤ) → IsTyped x → IsTyped f → IsTyped l → IsConstant f → IsConstant l → constant f ≡ a → constant l ≡ b
    → shapes.is_high low (Some (shape_of x)) (Some a) (Some b) ≡ false → shapes.is_low low (Some b) ≡ false
    → Fine (Some (shapes.bits_counted a b)) false (typed (shapes.bits_counted a b).width false (term.part_select x f l low))
slice_made x f l low a b h i j p q c d above below =
    let n : Counted (a -ℤ b +ℤ pos 1) =
    counted_by (a -ℤ b +ℤ pos 1) a b low (size_of x) refl (or_left _ _ above) (not_not _ (or_right _ _ above)) below (size_to x h) in
    node_fine (shapes.bits_counted a b).width false false (term.part_select x f l low) n.1 n.2 refl refl
    (h, i, j, p, q, ap (λ (z : ℤ). z -ℤ constant l +ℤ pos 1) c ∙ ap (λ (z : ℤ). a -ℤ z +ℤ pos 1) d ∙ n.0) (λ e. absurd (false_true e))

slice_shaped : (s : Option Shape) (c : Bool) (above below : Bool) (a b : ℤ) (n : NodeTerm) → above ≡ false → below ≡ false → Fine (Some (shapes.bits_counted a b)) c (typed (shapes.bits_counted a b).width false n)
    → TreeFine (shapes.part_shape (above || below) (Some a) (Some b)) c (typed_as (shapes.part_shape (above || below) (Some a) (Some b)) (Some n))
slice_shaped s c true below a b n h k f = absurd (true_false h)
slice_shaped s c false true a b n h k f = absurd (true_false k)
slice_shaped s c false false a b n h k f = f

slice_fine : (s r q : Option Shape) (e : Bool) (x f l : Option ExprTerm) (low : ℤ) → TreeFine s e x → TreeFine r true f → TreeFine q true l
    → shapes.is_high low s (option_map constant f) (option_map constant l) ≡ false → shapes.is_low low (option_map constant l) ≡ false
    → TreeFine (shapes.part_shape (shapes.is_high low s (option_map constant f) (option_map constant l) || shapes.is_low low (option_map constant l)) (option_map constant f) (option_map constant l)) false
    (typed_as (shapes.part_shape (shapes.is_high low s (option_map constant f) (option_map constant l) || shapes.is_low low (option_map constant l)) (option_map constant f) (option_map constant l)) (shapes.part_node x f l low))
slice_fine s r q e None f l low h i j above below = without_node _ false
slice_fine s r q e (Some x) None l low h i j above below = without_node _ false
slice_fine s r q e (Some x) (Some f) None low h i j above below = without_node _ false
slice_fine s r q e (Some x) (Some f) (Some l) low h i j above below =
    let same : shapes.is_high low s (Some (constant f)) (Some (constant l)) ≡ shapes.is_high low (Some (shape_of x)) (Some (constant f)) (Some (constant l)) =
    ap (λ (s : Option Shape). shapes.is_high low s (Some (constant f)) (Some (constant l))) h.shape in
    slice_shaped s false (shapes.is_high low s (Some (constant f)) (Some (constant l))) (shapes.is_low low (Some (constant l))) (constant f) (constant l) (term.part_select x f l low) above below
    (slice_made x f l low (constant f) (constant l) h.typed i.typed j.typed (i.constant refl) (j.constant refl) refl refl (sym same ∙ above) below)

fine_at : (s : Option Shape) (c : Bool) (t : Option ExprTerm) → c ≡ true → TreeFine s c t → TreeFine s true t
fine_at s c t e h = let P : Bool → Type 0 = λ c. TreeFine s c t in subst P e h

slice_ready : (at : ℕ) (x f l : Elab (Option Fault)) → RootFits x.form.root → ReadyValue x → ReadyValue f → ReadyValue l → Ready (spec.slice_part first_one at x f l)
slice_ready at x f l r h i j = other_ready _ r refl made
  where
    made : ReadyValue (spec.slice_part first_one at x f l)
    made e =
        let high : Bool = shapes.is_high x.form.low x.shape (spec.known first_one f) (spec.known first_one l) in
        let low : Bool = shapes.is_low x.form.low (spec.known first_one l) in
        let clear : SliceClear x f l high low = slice_clear x f l high low e in
        let p = known_is f.reads.constant f.faults f.tree clear.first_constant clear.first in
        let q = known_is l.reads.constant l.faults l.tree clear.last_constant clear.last in
        let P : Option ℤ → Option ℤ → Type 0 = λ y z.
        shapes.is_high x.form.low x.shape y z ≡ false → shapes.is_low x.form.low z ≡ false
        → TreeFine (shapes.part_shape (shapes.is_high x.form.low x.shape y z || shapes.is_low x.form.low z) y z) false
        (typed_as (shapes.part_shape (shapes.is_high x.form.low x.shape y z || shapes.is_low x.form.low z) y z) (shapes.part_node x.tree f.tree l.tree x.form.low)) in
        let whole : P (option_map constant f.tree) (option_map constant l.tree) =
        slice_fine x.shape f.shape l.shape x.reads.constant x.tree f.tree l.tree x.form.low (h clear.base)
        (fine_at f.shape f.reads.constant f.tree clear.first_constant (i clear.first)) (fine_at l.shape l.reads.constant l.tree clear.last_constant (j clear.last)) in
        let P1 : Option ℤ → Type 0 = λ y. P y (option_map constant l.tree) in
        let P2 : Option ℤ → Type 0 = λ z. P (spec.known first_one f) z in
        let known : P (spec.known first_one f) (spec.known first_one l) = subst P2 (sym q) (subst P1 (sym p) whole) in
        known clear.high clear.low

-- ---- lists

abbrev ReadyParts : ℕ → Elabs (Option Fault) → Type 0
ReadyParts low x = x.faults ≡ None → SomeParts low x.total x.reads.constant x.trees

abbrev ReadyRange : RangeElab (Option Fault) → Type 0
ReadyRange x = x.faults ≡ None → SomeRange x.reads.constant x.tree

abbrev ReadyRanges : RangesElab (Option Fault) → Type 0
ReadyRanges x = x.faults ≡ None → SomeRanges x.reads.constant x.trees

abbrev ReadyBound : BoundElab (Option Fault) → Type 0
ReadyBound x = x.faults ≡ None → SomeBound x.reads.constant x.tree

copies_ready : (at : ℕ) (n : Elab (Option Fault)) (xs : Elabs (Option Fault)) → ReadyValue n → ReadyParts 1 xs → ReadyValue (spec.copies_part first_one at n xs)
copies_ready at n xs h k f =
    let rest = none_right _ _ f in
    let tests = none_right _ _ rest in
    let a = not_not n.reads.constant (not_when _ _ _ (none_left _ _ tests)) in
    let own = none_left _ _ f in
    let e = known_is n.reads.constant n.faults n.tree a own in
    let few = not_when _ _ _ (none_left _ _ (none_right _ _ tests)) in
    let wide = not_when _ _ _ (none_right _ _ (none_right _ _ tests)) in
    let P : Option ℤ → Type 0 = λ z. shapes.is_too_few z ≡ false → shapes.is_wide (shapes.copies_total z xs.total) ≡ false
    → TreeFine (option_map shapes.bits_wide (shapes.copies_total z xs.total)) (n.reads.constant && xs.reads.constant)
    (typed_as (option_map shapes.bits_wide (shapes.copies_total z xs.total)) (shapes.copies_node n.tree xs.trees)) in
    subst P (sym e) (copies_fine n.shape xs.total n.reads.constant xs.reads.constant n.tree xs.trees (h own) a (k (none_left _ _ rest))) few wide

-- ---- reductions

reduce_fine : (r : Root) (f : Fold) (s : Option Shape) (c : Bool) (t : Option ExprTerm) → TreeFine s c t → TreeFine s false (typed_as s (shapes.array_node r f t))
reduce_fine root.Nothing f s c t h = without_node s false
reduce_fine root.Refused f s c t h = without_node s false
reduce_fine root.Member f s c t h = without_node s false
reduce_fine (root.Variable v) f s c t h = without_node s false
reduce_fine (root.Field p None) f s c t h = reduced_fine p.number f s c t h
reduce_fine (root.Field p (Some o)) f s c t h = without_node s false
reduce_fine (root.Object o k) f s c t h = without_node s false

body_property : (r : Root) → RootFits r → PropertyFits (array_property r)
body_property root.Nothing h = (tt, tt)
body_property root.Refused h = (tt, tt)
body_property root.Member h = (tt, tt)
body_property (root.Variable v) h = (tt, tt)
body_property (root.Field p o) h = h
body_property (root.Object o c) h = (tt, tt)

inside_names : (n : Space) (p : Property) (item : Option ℕ) → NamesFit n → PropertyFits p → NamesFit (in_reduction n p item)
inside_names n p item m h = record { globals = m.globals; props = m.props; classes = m.classes; loops = (h, m.loops); vars = m.vars }

item_is : (p : Option Property) → ItemFits p → OptionIs PropertyFits p
item_is None h = tt
item_is (Some p) h = h

loops_are : (ls : List Loop) → Each (λ (l : Loop). ItemFits l.item) ls → Each (λ (l : Loop). OptionIs PropertyFits l.item) ls
loops_are [] h = tt
loops_are (l ∷ ls) h = (item_is l.item h.0, loops_are ls h.1)

stand_is : (v : VarStand) → StandFits v → StandIs PropertyFits KindFits v
stand_is (var_stand.OfNumber kind) h = h
stand_is (var_stand.OfObject c) h = tt

vars_are : (vs : List VarName) → Each (λ (v : VarName). StandFits v.stands) vs → Each (λ (v : VarName). StandIs PropertyFits KindFits v.stands) vs
vars_are [] h = tt
vars_are (v ∷ vs) h = (stand_is v.stands h.0, vars_are vs h.1)

space_fits : (n : Space) → NamesFit n → SpaceIs PropertyFits KindFits n
space_fits n m = record { globals = m.globals; props = m.props; classes = m.classes; loops = loops_are n.loops m.loops; vars = vars_are n.vars m.vars; unknown = (tt, tt) }

-- ---- the whole

value_of : (n : Space) (e : ExprTree) → Ready (spec.elab first_one n e) → ReadyValue (spec.plain first_one (spec.elab first_one n e))
value_of n e h = plain_value (spec.elab first_one n e) h

mutual
  pub elab_ready : (n : Space) (m : NamesFit n) (e : ExprTree) → LiteralsFit e → Ready (spec.elab first_one n e)
  elab_ready n m (raw.number at v w s) h = other_ready _ tt refl (λ f. literal_fine v w s h.0 h.1)
  elab_ready n m (raw.path at s names call) h =
      path_ready at (spec.last_name at names) call (look n s names).unmade (look n s names).meaning (look_is PropertyFits KindFits n (space_fits n m) s names)
  elab_ready n m (raw.bit_select at x i call) h =
      let a : Elab (Option Fault) = spec.elab first_one n x in let b : Elab (Option Fault) = spec.plain first_one (spec.elab first_one n i) in
      parens_ready call (spec.index_part first_one at a b) (index_ready at a b (elab_ready n m x h.0) (value_of n i (elab_ready n m i h.1)))
  elab_ready n m (raw.part_select at x g l call) h =
      let a : Elab (Option Fault) = spec.plain first_one (spec.elab first_one n x) in
      let b : Elab (Option Fault) = spec.plain first_one (spec.elab first_one n g) in
      let d : Elab (Option Fault) = spec.plain first_one (spec.elab first_one n l) in
      let r : Ready a = plain_ready (spec.elab first_one n x) (elab_ready n m x h.0) in
      parens_ready call (spec.slice_part first_one at a b d)
      (slice_ready at a b d r.root (value_of n x (elab_ready n m x h.0)) (value_of n g (elab_ready n m g h.1)) (value_of n l (elab_ready n m l h.2)))
  elab_ready n m (raw.unary at op x) h = other_ready _ tt refl (λ f. unary_fine op _ _ _ (value_of n x (elab_ready n m x h) f))
  elab_ready n m (raw.binary at op x y) h =
      other_ready _ tt refl (λ f. binary_fine op _ _ _ _ _ _ (value_of n x (elab_ready n m x h.0) (none_left _ _ f)) (value_of n y (elab_ready n m y h.1) (none_right _ _ f)))
  elab_ready n m (raw.choice at t x y) h =
      other_ready _ tt refl
      (λ f. choice_fine _ _ _ _ _ _ _ _ _ (value_of n t (elab_ready n m t h.0) (none_left _ _ f))
      (value_of n x (elab_ready n m x h.1) (none_left _ _ (none_right _ _ f))) (value_of n y (elab_ready n m y h.2) (none_right _ _ (none_right _ _ f))))
  elab_ready n m (raw.inside at x rs) h =
      other_ready _ tt refl
      (λ f. inside_fine _ _ _ _ _ (value_of n x (elab_ready n m x h.0) (none_left _ _ f))
      (ranges_ready n m rs (spec.no_ranges first_one) (λ g. record { typed = tt; constant = λ d. tt }) h.1 (none_right _ _ f)))
  elab_ready n m (raw.join at xs) h = other_ready _ tt refl (λ f. join_fine _ _ _ (some_ready n m xs h.0 h.1 (none_left _ _ f)) (not_when _ _ _ (none_right _ _ f)))
  elab_ready n m (raw.copies at x xs) h = other_ready _ tt refl (copies_ready at (spec.plain first_one (spec.elab first_one n x)) (spec.parts first_one n (spec.no_parts first_one) xs) (value_of n x (elab_ready n m x h.0)) (some_ready n m xs h.1 h.2))
  elab_ready n m (raw.sign at s x) h = other_ready _ tt refl (λ f. sign_fine s _ _ _ (value_of n x (elab_ready n m x h) f))
  elab_ready n m (raw.paren at x) h = let a : Ready (spec.sole first_one (spec.elab first_one n x)) = sole_ready (spec.elab first_one n x) (elab_ready n m x h) in record { root = a.root; array = a.array; fine = a.fine }
  elab_ready n m (raw.reduce at x g item body) h =
      let a : Elab (Option Fault) = spec.elab first_one n x in
      let r : Ready a = elab_ready n m x h.0 in
      let i : Space = body_space n a (argument_name item) in
      let fits : NamesFit i = inside_names n (array_property a.form.root) (argument_name item) m (body_property a.form.root r.root) in
      let b : Elab (Option Fault) = spec.value first_one i body in
      other_ready _ tt refl
      (λ f. let clear : ReduceClear (spec.sole first_one a) b = reduce_clear (spec.sole first_one a) b f in
      reduce_fine (spec.sole first_one a).form.root g b.shape b.reads.constant b.tree (value_of i body (elab_ready i fits body h.1) clear.inner))

  some_ready : (n : Space) (m : NamesFit n) (xs : ExprTrees) → IsSome xs → AllFit xs → ReadyParts 1 (spec.parts first_one n (spec.no_parts first_one) xs)
  some_ready n m raw.no_exprs s h = absurd s
  some_ready n m (raw.more_exprs x xs) s h =
      let v : Elab (Option Fault) = spec.plain first_one (spec.elab first_one n x) in
      parts_ready n m xs (spec.and_part first_one (spec.no_parts first_one) v)
      (λ f. part_more 0 (Some 0) v.shape true v.reads.constant (Some []) v.tree no_parts_fine (value_of n x (elab_ready n m x h.0) f)) h.1

  parts_ready : (n : Space) (m : NamesFit n) (xs : ExprTrees) (start : Elabs (Option Fault)) → ReadyParts 1 start → AllFit xs → ReadyParts 1 (spec.parts first_one n start xs)
  parts_ready n m raw.no_exprs start k h = k
  parts_ready n m (raw.more_exprs x xs) start k h =
      let v : Elab (Option Fault) = spec.plain first_one (spec.elab first_one n x) in
      parts_ready n m xs (spec.and_part first_one start v)
      (λ f. part_more 1 start.total v.shape start.reads.constant v.reads.constant start.trees v.tree (k (none_left _ _ f)) (value_of n x (elab_ready n m x h.0) (none_right _ _ f))) h.1

  ranges_ready : (n : Space) (m : NamesFit n) (rs : RangeTrees) (start : RangesElab (Option Fault)) → ReadyRanges start → RangesFit rs → ReadyRanges (spec.ranges first_one n start rs)
  ranges_ready n m raw.no_ranges start k h = k
  ranges_ready n m (raw.more_ranges r rs) start k h =
      ranges_ready n m rs (spec.and_range first_one start (spec.range first_one n r))
      (λ f. range_more _ _ _ _ (k (none_left _ _ f)) (range_ready n m r h.0 (none_right _ _ f))) h.1

  range_ready : (n : Space) (m : NamesFit n) (r : RangeTree) → RangeFits r → ReadyRange (spec.range first_one n r)
  range_ready n m (raw.one x) h f = one_fine _ _ _ (sole_value (spec.elab first_one n x) (elab_ready n m x h) f)
  range_ready n m (raw.span l g) h f = span_fine _ _ _ _ (bound_ready n m l h.0 (none_left _ _ f)) (bound_ready n m g h.1 (none_right _ _ f))

  bound_ready : (n : Space) (m : NamesFit n) (b : BoundTree) → BoundFits b → ReadyBound (spec.bound first_one n b)
  bound_ready n m (raw.value x) h f = bound_fine _ _ _ (value_of n x (elab_ready n m x h) f)
  bound_ready n m raw.dollar h f = record { typed = tt; constant = λ b. tt }

pub value_ready : (n : Space) (m : NamesFit n) (e : ExprTree) → LiteralsFit e → ReadyValue (spec.value first_one n e)
value_ready n m e h = plain_value (spec.elab first_one n e) (elab_ready n m e h)

told : (s : Option Shape) (c : Bool) (t : Option ExprTerm) → TreeFine s c t → MatchOption t ⊤ (λ t. IsTyped t × (s ≡ Some (shape_of t)))
told s c None h = tt
told s c (Some t) h = (h.typed, h.shape)

pub accepted_is_typed : AcceptedIsTyped
accepted_is_typed n e m h f =
    let v : Elab (Option Fault) = spec.value first_one n e in
    told v.shape v.reads.constant v.tree (value_ready n m e h f)
