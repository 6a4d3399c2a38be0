-- What a form makes of the sizes, the trees and the reads of its parts (IEEE 1800-2017, clause 11). What asks for a size, a sign or a value is unknown where that is.
use Rattle.std.specs.Prelude.{ℕ, ◌==◌, ◌+◌, ◌*◌, min, max, ℤ, pos, negsuc, ◌-ℤ◌, ◌+ℤ◌, int_lt, Bool, true, false, not, ◌&&◌, ◌||◌, nat_lt, if◌then◌else◌, List, [], ◌∷◌, ◌++◌, Option, Some, None, option_map}
use Rattle.svr_operator.specs.declared.UnOp.{UnOp}
use Rattle.svr_operator.specs.declared.BinOp.{BinOp}
use Rattle.svr_operator.specs.declared.BinOp.TheVariants as op
use Rattle.svr_operator.specs.declared.Fold.{Fold}
use Rattle.svr_operator.specs.declared.Rand.{Rand}
use Rattle.svr_operator.specs.declared.Rand.TheVariants as rand
use Rattle.svr_typed.specs.ExprTerm as term
use Rattle.svr_typed.specs.ExprTerm.{ExprTerm, typed, NodeTerm, RangeTerm}
use Rattle.svr_eval.specs.declared.UnaryKind.{UnaryKind}
use Rattle.svr_eval.specs.declared.UnaryKind.TheVariants.{Changed, Reduced}
use Rattle.svr_eval.specs.declared.BinaryKind.{BinaryKind}
use Rattle.svr_eval.specs.declared.BinaryKind.TheVariants.{InContext, Shifted, ByPair, Logical}
use Rattle.svr_eval.specs.Operator.{unary_kind, binary_kind}
use Rattle.svr_elab_names.specs.declared.Vector.{Vector}
use Rattle.svr_elab_names.specs.declared.Dims.{Dims}
use Rattle.svr_elab_names.specs.declared.Dims.TheVariants as dims
use Rattle.svr_elab_names.specs.declared.Property.{Property}
use Rattle.svr_elab_names.specs.declared.Meaning.{Meaning}
use Rattle.svr_elab_names.specs.declared.Meaning.TheVariants.{Wrong, LoopOf, ItemOf, MemberOf, PropertyOf, SizeOf, FoldOf, VariableOf, ObjectOf}
use Rattle.svr_elab_names.specs.Names.{is_array, unknown_property}
use Rattle.svr_elab_part.specs.declared.part.Shape.{Shape}
use Rattle.svr_elab_part.specs.declared.part.Reads.{Reads}
use Rattle.svr_elab_part.specs.declared.part.Root.{Root}
use Rattle.svr_elab_part.specs.declared.part.Root.TheVariants as root

-- ---- what is known of two, where both are

abbrev pub both_known : {A B C : Type 0} → (A → B → C) → Option A → Option B → Option C
both_known f None y = None
both_known f (Some x) None = None
both_known f (Some x) (Some y) = Some (f x y)

abbrev pub all_known : {A B C D : Type 0} → (A → B → C → D) → Option A → Option B → Option C → Option D
all_known f None y z = None
all_known f (Some x) y z = both_known (f x) y z

abbrev pub and_more : {A : Type 0} → Option (List A) → Option A → Option (List A)
and_more xs x = both_known (λ xs x. xs ++ x ∷ []) xs x

-- ---- sizes and signs (tables 11-21 and 11.8.1)

abbrev pub typed_as : Option Shape → Option NodeTerm → Option ExprTerm
typed_as s n = both_known (λ s n. typed s.width s.signed n) s n

abbrev pub bit : Shape
bit = record { width = 1; signed = false }

-- of a loop variable and of the size of an array
abbrev pub whole_number : Shape
whole_number = record { width = 32; signed = true }

abbrev pub bits_wide : ℕ → Shape
bits_wide w = record { width = w; signed = false }

abbrev pub kind_shape : Vector → Shape
kind_shape v = record { width = v.kind.width; signed = v.kind.signed }

abbrev pub choice_shape : Option Shape → Option Shape → Option Shape
choice_shape x y = both_known (λ x y. record { width = max x.width y.width; signed = x.signed && y.signed }) x y

abbrev pub changed_shape : UnaryKind → Option Shape → Option Shape
changed_shape (Changed f) x = x
changed_shape (Reduced f) x = Some bit

abbrev pub unary_shape : UnOp → Option Shape → Option Shape
unary_shape op x = changed_shape (unary_kind op) x

-- a comparison has one bit, whatever it compares
abbrev pub paired_shape : BinaryKind → Option Shape → Option Shape → Option Shape
paired_shape (InContext f) x y = choice_shape x y
paired_shape (Shifted f) x y = x
paired_shape (ByPair f) x y = Some bit
paired_shape (Logical f) x y = Some bit

abbrev pub binary_shape : BinOp → Option Shape → Option Shape → Option Shape
binary_shape op x y = paired_shape (binary_kind op) x y

abbrev pub sign_shape : Bool → Option Shape → Option Shape
sign_shape s x = option_map (λ x. record { width = x.width; signed = s }) x

-- so many bits of the parts before, and those of one more, where over 64 count as 65
abbrev pub and_width : Option ℕ → Option Shape → Option ℕ
and_width total s = both_known (λ n s. min 65 (n + s.width)) total s

-- ---- what is read

abbrev pub and_reads : Reads → Reads → Reads
and_reads x y = record { constant = x.constant && y.constant; random = x.random || y.random; sized = x.sized || y.sized; cyclic = x.cyclic || y.cyclic }

abbrev pub no_constant : Reads → Reads
no_constant x = record { constant = false; random = x.random; sized = x.sized; cyclic = x.cyclic }

abbrev pub only_numbers : Reads
only_numbers = record { constant = true; random = false; sized = false; cyclic = false }

abbrev pub is_randc : Rand → Bool
is_randc rand.State = false
is_randc rand.Rand = false
is_randc rand.Randc = true

-- a value or elements of this property
abbrev pub property_reads : Property → Reads
property_reads p = record { constant = false; random = p.random; sized = false; cyclic = is_randc p.rand }

abbrev pub size_reads : Property → Reads
size_reads p = record { constant = false; random = false; sized = p.random; cyclic = is_randc p.rand }

-- a property that can be random, or the size of one
abbrev pub is_open : Reads → Bool
is_open r = r.random || r.sized

-- ---- names

abbrev pub wrapped : Option ℕ → Shape → NodeTerm → ExprTerm
wrapped None s n = typed s.width s.signed n
wrapped (Some o) s n = typed s.width s.signed (term.of_object o (typed s.width s.signed n))

abbrev pub meaning_shape : Meaning → Option Shape
meaning_shape (Wrong w) = None
meaning_shape (LoopOf k) = Some whole_number
meaning_shape (ItemOf k p) = option_map kind_shape p.kind
meaning_shape (MemberOf v kind) = option_map kind_shape kind
meaning_shape (PropertyOf p o) = option_map kind_shape p.kind
meaning_shape (SizeOf p o) = Some whole_number
meaning_shape (FoldOf p o f array) = option_map kind_shape p.kind
meaning_shape (VariableOf v kind) = option_map kind_shape kind
meaning_shape (ObjectOf o c) = None

abbrev pub member_tree : Option ℕ → Option Vector → Option ExprTerm
member_tree v kind = both_known (λ k v. typed k.kind.width k.kind.signed (term.number v false)) kind v

-- a value of a property's type, in its object where that is named
abbrev pub property_tree : Option ℕ → Option Vector → Option NodeTerm → Option ExprTerm
property_tree o kind n = both_known (λ k n. wrapped o (kind_shape k) n) kind n

abbrev pub variable_tree : ℕ → Option Vector → Option ExprTerm
variable_tree v kind = option_map (λ k. typed k.kind.width k.kind.signed (term.script v)) kind

-- ---- arrays (7.4 and 7.12.3)

-- how many elements a row has; 1 of an array of one dimension
abbrev pub inner_of : Dims → Option ℕ
inner_of dims.Scalar = Some 1
inner_of (dims.Fixed n) = Some 1
inner_of (dims.Rows n m) = m
inner_of dims.Dynamic = Some 1

abbrev pub size_tree : Property → Option ℕ → Option ExprTerm
size_tree p o = option_map (λ m. wrapped o whole_number (term.size p.number m)) (inner_of p.dims)

-- the index of the k-th loop or reduction, counted outwards
abbrev pub loop_tree : ℕ → ExprTerm
loop_tree k = typed 32 true (term.loop_index k)

-- the element that the k-th reduction reads
abbrev pub item_tree : ℕ → Property → Option ExprTerm
item_tree k p = property_tree None p.kind (Some (term.element p.number (loop_tree k)))

-- a reduction is typed only where it may stand: outside of objects
abbrev pub reduce_node : Property → Option ℕ → Fold → Option ExprTerm → Option NodeTerm
reduce_node p None f body = option_map (term.reduce p.number f) body
reduce_node p (Some o) f body = None

-- a reduction without a body folds the elements themselves
abbrev pub fold_tree : Property → Option ℕ → Fold → Option ExprTerm
fold_tree p o f = property_tree None p.kind (reduce_node p o f (item_tree 0 p))

abbrev pub meaning_tree : Meaning → Option ExprTerm
meaning_tree (Wrong w) = None
meaning_tree (LoopOf k) = Some (loop_tree k)
meaning_tree (ItemOf k p) = item_tree k p
meaning_tree (MemberOf v kind) = member_tree v kind
meaning_tree (PropertyOf p o) = property_tree o p.kind (Some (term.prop p.number))
meaning_tree (SizeOf p o) = size_tree p o
meaning_tree (FoldOf p o f array) = fold_tree p o f
meaning_tree (VariableOf v kind) = variable_tree v kind
meaning_tree (ObjectOf o c) = None

abbrev pub meaning_reads : Meaning → Reads
meaning_reads (Wrong w) = no_constant only_numbers
meaning_reads (LoopOf k) = no_constant only_numbers
meaning_reads (ItemOf k p) = property_reads p
meaning_reads (MemberOf v kind) = only_numbers
meaning_reads (PropertyOf p o) = property_reads p
meaning_reads (SizeOf p o) = size_reads p
meaning_reads (FoldOf p o f array) = property_reads p
meaning_reads (VariableOf v kind) = no_constant only_numbers
meaning_reads (ObjectOf o c) = no_constant only_numbers

-- ---- an element of an array of two dimensions in a statement: by its place among all elements

abbrev pub stored_sign : ExprTerm → Bool
stored_sign (typed w s n) = s

-- 64 bits, unsigned
abbrev pub wide_number : ℕ → ExprTerm
wide_number v = typed 64 false (term.number v false)

abbrev pub wide_binary : BinOp → ExprTerm → ExprTerm → ExprTerm
wide_binary op x y = typed 64 false (term.binary op x y)

abbrev pub truth_of : BinOp → ExprTerm → ExprTerm → ExprTerm
truth_of op x y = typed 1 false (term.binary op x y)

-- an index extended to 64 bits by its own sign, and then taken as unsigned
abbrev pub widened : ExprTerm → ExprTerm
widened e = typed 64 false (term.sign false (typed 64 (stored_sign e) (term.binary op.BitwiseOr e (typed 64 (stored_sign e) (term.number 0 false)))))

-- whether row i and column j are inside of n rows of m elements
abbrev pub is_inside : ℕ → ℕ → ExprTerm → ExprTerm → ExprTerm
is_inside n m i j = truth_of op.LogicalAnd (truth_of op.Less i (wide_number n)) (truth_of op.Less j (wide_number m))

abbrev pub row_by_row : ℕ → ExprTerm → ExprTerm → ExprTerm
row_by_row m i j = wide_binary op.Add (wide_binary op.Multiply i (wide_number m)) j

-- the place of row i, column j, of n rows of m elements; past the last one where an index is outside its dimension
abbrev pub place_tree : ℕ → ℕ → ExprTerm → ExprTerm → ExprTerm
place_tree n m i j = typed 64 false (term.choice (is_inside n m (widened i) (widened j)) (row_by_row m (widened i) (widened j)) (wide_number (n * m)))

abbrev pub sizes_of : Dims → Option (ℕ × ℕ)
sizes_of dims.Scalar = None
sizes_of (dims.Fixed n) = None
sizes_of (dims.Rows n m) = both_known (λ n m. (n, m)) n m
sizes_of dims.Dynamic = None

abbrev pub cell : ℕ → ℕ → ExprTerm → ExprTerm → NodeTerm
cell p m i j = term.cell p m i j

-- the element of property p at the place of row i and column j
abbrev pub placed : ℕ → ℕ × ℕ → ExprTerm → ExprTerm → NodeTerm
placed p d i j = term.element p (place_tree d.0 d.1 i j)

abbrev pub cell_at : Property → Option ℕ → ExprTerm → ExprTerm → Option NodeTerm
cell_at p None i j = option_map (λ m. cell p.number m i j) (inner_of p.dims)
cell_at p (Some o) i j = option_map (λ d. placed p.number d i j) (sizes_of p.dims)

abbrev pub cell_node : Property → Option ℕ → Option ExprTerm → Option ExprTerm → Option NodeTerm
cell_node p o None j = None
cell_node p o (Some i) None = None
cell_node p o (Some i) (Some j) = cell_at p o i j

abbrev pub element_node : Property → Option ExprTerm → Option NodeTerm
element_node p i = option_map (term.element p.number) i

-- the property of an array, as far as it is known
abbrev pub array_property : Root → Property
array_property root.Nothing = unknown_property
array_property root.Refused = unknown_property
array_property root.Member = unknown_property
array_property (root.Variable v) = unknown_property
array_property (root.Field p o) = p
array_property (root.Object o c) = unknown_property

abbrev pub element_tree : Root → Option ExprTerm → Option ExprTerm
element_tree root.Nothing i = None
element_tree root.Refused i = None
element_tree root.Member i = None
element_tree (root.Variable v) i = None
element_tree (root.Field p o) i = property_tree o p.kind (element_node p i)
element_tree (root.Object o c) i = None

abbrev pub cell_tree : Root → Option ExprTerm → Option ExprTerm → Option ExprTerm
cell_tree root.Nothing i j = None
cell_tree root.Refused i j = None
cell_tree root.Member i j = None
cell_tree (root.Variable v) i j = None
cell_tree (root.Field p o) i j = property_tree o p.kind (cell_node p o i j)
cell_tree (root.Object o c) i j = None

abbrev pub array_node : Root → Fold → Option ExprTerm → Option NodeTerm
array_node root.Nothing f body = None
array_node root.Refused f body = None
array_node root.Member f body = None
array_node (root.Variable v) f body = None
array_node (root.Field p o) f body = reduce_node p o f body
array_node (root.Object o c) f body = None

-- ---- numbers

abbrev pub is_below_zero : ℤ → Bool
is_below_zero (pos n) = false
is_below_zero (negsuc n) = true

abbrev pub is_less : ℤ → ℤ → Bool
is_less x y = int_lt x y

abbrev pub count_of : ℤ → ℕ
count_of (pos n) = n
count_of (negsuc n) = 0

abbrev pub are_turned : Option ℤ → Option ℤ → Bool
are_turned None l = false
are_turned (Some h) None = false
are_turned (Some h) (Some l) = is_less h l

abbrev pub is_past : ℤ → Option Shape → Option ℤ → Bool
is_past low None h = false
is_past low (Some s) None = false
is_past low (Some s) (Some h) = not (is_less h (low +ℤ pos s.width))

-- the first bound of a part-select is above its vector, or below the last
abbrev pub is_high : ℤ → Option Shape → Option ℤ → Option ℤ → Bool
is_high low s h l = are_turned h l || is_past low s h

abbrev pub is_low : ℤ → Option ℤ → Bool
is_low low None = false
is_low low (Some l) = is_less l low

-- so many bits, where over 64 count as 65
abbrev pub bits_counted : ℤ → ℤ → Shape
bits_counted h l = bits_wide (min 65 (count_of (h -ℤ l +ℤ pos 1)))

abbrev pub part_shape : Bool → Option ℤ → Option ℤ → Option Shape
part_shape outside h l = if outside then None else both_known bits_counted h l

-- copies of so many bits; none below 1
abbrev pub copied_width : ℤ → ℕ → ℕ
copied_width n t = min 65 (count_of n * t)

abbrev pub copies_total : Option ℤ → Option ℕ → Option ℕ
copies_total None total = None
copies_total (Some n) total = if is_less n (pos 1) then None else option_map (copied_width n) total

abbrev pub is_too_few : Option ℤ → Bool
is_too_few None = false
is_too_few (Some n) = is_less n (pos 1)

abbrev pub is_wide : Option ℕ → Bool
is_wide None = false
is_wide (Some total) = nat_lt 64 total

-- ---- nodes of several parts, where all are known

abbrev pub inside_node : Option ExprTerm → Option (List RangeTerm) → Option NodeTerm
inside_node x rs = both_known (λ x rs. term.inside x (term.ranges_of rs)) x rs

abbrev pub join_node : Option (List ExprTerm) → Option NodeTerm
join_node ts = option_map (λ ts. term.join (term.exprs_of ts)) ts

abbrev pub copies_node : Option ExprTerm → Option (List ExprTerm) → Option NodeTerm
copies_node n ts = both_known (λ n ts. term.copies n (term.exprs_of ts)) n ts

abbrev pub bit_node : Option ExprTerm → Option ExprTerm → ℤ → Option NodeTerm
bit_node x i low = both_known (λ x i. term.bit_select x i low) x i

abbrev pub part_node : Option ExprTerm → Option ExprTerm → Option ExprTerm → ℤ → Option NodeTerm
part_node x f l low = all_known (λ x f l. term.part_select x f l low) x f l
