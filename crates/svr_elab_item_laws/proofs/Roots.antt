-- What stands at the root of an expression of a constraint: a whole array, an element with its indexes, bits, or none of these.
use Rattle.std.proofs.Common.{◌≡◌, ℕ, Bool, true, false, if◌then◌else◌, Option, None, Some, option_map, refl, sym, ap, subst, ◌∙◌}
use Rattle.std.specs.Prelude.{⊤}
use Rattle.svr_operator.specs.declared.Fold.{Fold}
use Rattle.svr_typed.specs.ExprTerm as term
use Rattle.svr_typed.specs.ExprTerm.{ExprTerm, NodeTerm, typed}
use Rattle.svr_elab_fault.specs.declared.Fault.{Fault}
use Rattle.svr_elab_names.specs.declared.Vector.{Vector}
use Rattle.svr_elab_names.specs.declared.Property.{Property}
use Rattle.svr_elab_names.specs.Names.{is_array, or_else, only_if}
use Rattle.svr_elab_part.specs.declared.part.Shape.{Shape}
use Rattle.svr_elab_part.specs.declared.part.Reads.{Reads}
use Rattle.svr_elab_part.specs.declared.part.Extent.{Extent}
use Rattle.svr_elab_part.specs.declared.part.Extent.TheVariants as extent
use Rattle.svr_elab_part.specs.declared.part.Root.{Root}
use Rattle.svr_elab_part.specs.declared.part.Root.TheVariants as root
use Rattle.svr_elab_part.specs.Elab.{Elab}
use Rattle.svr_elab_part.specs.Shapes as shapes
use Rattle.svr_elab_part.specs.Shapes.{both_known, all_known, typed_as, kind_shape, property_reads, inner_of}
use Rattle.svr_elab_part.specs.Forms.{is_single, is_row, is_whole, is_object, is_refused, without_row, without_object}
use Rattle.svr_elab_part.proofs.Looked.{OptionIs}

pub true_false : true ≡ false → ⊥
true_false h = cc

pub false_true : false ≡ true → ⊥
false_true h = cc

-- ---- options

pub mapped_is : {A B : Type 0} (P : B → Type 0) (f : A → B) → ((x : A) → P (f x)) → (x : Option A) → OptionIs P (option_map f x)
mapped_is P f h None = tt
mapped_is P f h (Some x) = h x

pub both_is : {A B C : Type 0} (P : C → Type 0) (f : A → B → C) → ((x : A) (y : B) → P (f x y)) → (x : Option A) (y : Option B) → OptionIs P (both_known f x y)
both_is P f h None y = tt
both_is P f h (Some x) None = tt
both_is P f h (Some x) (Some y) = h x y

pub all_is : {A B C D : Type 0} (P : D → Type 0) (f : A → B → C → D) → ((x : A) (y : B) (z : C) → P (f x y z)) → (x : Option A) (y : Option B) (z : Option C) → OptionIs P (all_known f x y z)
all_is P f h None y z = tt
all_is P f h (Some x) y z = both_is P (f x) (h x) y z

some_none : (n : ℕ) → Some n ≡ None → ⊥
some_none n h = cc

none_first : (a b : Option ℕ) → or_else a b ≡ None → a ≡ None
none_first None b h = refl
none_first (Some n) b h = absurd (some_none n h)

none_second : (a b : Option ℕ) → or_else a b ≡ None → b ≡ None
none_second None b h = h
none_second (Some n) b h = absurd (some_none n h)

only_none : (b : Bool) (at : ℕ) → only_if b (Some at) ≡ None → b ≡ false
only_none true at h = absurd (some_none at h)
only_none false at h = refl

-- ---- extents and roots

pub no_row_single : (e : Extent) → is_single (without_row e) ≡ true → is_row e ≡ false → is_single e ≡ true
no_row_single extent.Single h k = refl
no_row_single extent.Row h k = absurd (true_false k)
no_row_single extent.Whole h k = absurd (false_true h)

pub no_row_whole : (e : Extent) → is_whole (without_row e) ≡ true → is_whole e ≡ true
no_row_whole extent.Single h = absurd (false_true h)
no_row_whole extent.Row h = absurd (false_true h)
no_row_whole extent.Whole h = refl

pub no_row_row : (e : Extent) → is_row (without_row e) ≡ false
no_row_row extent.Single = refl
no_row_row extent.Row = refl
no_row_row extent.Whole = refl

pub property_whole : (b : Bool) → is_whole (if b then extent.Whole else extent.Single) ≡ true → b ≡ true
property_whole true h = refl
property_whole false h = absurd (false_true h)

pub property_no_row : (b : Bool) → is_row (if b then extent.Whole else extent.Single) ≡ false
property_no_row true = refl
property_no_row false = refl

pub refused_without : (r : Root) → is_refused (without_object r) ≡ true → is_refused r ≡ true
refused_without root.Nothing h = h
refused_without root.Refused h = h
refused_without root.Member h = h
refused_without (root.Variable v) h = h
refused_without (root.Field p o) h = h
refused_without (root.Object o c) h = h

pub without_is : (r : Root) → is_object r ≡ false → r ≡ without_object r
without_is root.Nothing h = refl
without_is root.Refused h = refl
without_is root.Member h = refl
without_is (root.Variable v) h = refl
without_is (root.Field p o) h = refl
without_is (root.Object o c) h = absurd (true_false h)

-- ---- Q holds of each property that can be named, and N of an index that reads nothing that can be random

module _ (Q : Property → Type 0) (N : ExprTerm → Type 0) where
  -- a property without an index is that of the root
  abbrev pub PropOf : Root → ℕ → Type 0
  PropOf root.Nothing q = ⊥
  PropOf root.Refused q = ⊥
  PropOf root.Member q = ⊥
  PropOf (root.Variable v) q = ⊥
  PropOf (root.Field p o) q = (q ≡ p.number) × Q p
  PropOf (root.Object o c) q = ⊥

  abbrev pub NodeRooted : Root → NodeTerm → Type 0
  NodeRooted r (term.prop q) = PropOf r q
  NodeRooted r n = ⊤

  -- where no index is known to be random
  abbrev pub Settled : Option ℕ → ExprTerm → Type 0
  Settled index t = index ≡ None → N t

  -- a property, or an element of an array
  abbrev pub TargetNode : Option ℕ → NodeTerm → Type 0
  TargetNode index (term.prop q) = ⊤
  TargetNode index (term.element p i) = Settled index i
  TargetNode index (term.cell p m i j) = Settled index i × Settled index j
  TargetNode index n = ⊥

  abbrev pub FieldTarget : Root → Option ℕ → NodeTerm → Type 0
  FieldTarget root.Nothing index n = ⊤
  FieldTarget root.Refused index n = ⊤
  FieldTarget root.Member index n = ⊤
  FieldTarget (root.Variable v) index n = ⊤
  FieldTarget (root.Field p o) index n = TargetNode index n
  FieldTarget (root.Object o c) index n = ⊤

  -- bits are no target
  abbrev pub IfTarget : Bool → Root → Option ℕ → NodeTerm → Type 0
  IfTarget true r index n = ⊤
  IfTarget false r index n = FieldTarget r index n

  abbrev pub TreeRooted : Root → Bool → Option ℕ → ExprTerm → Type 0
  TreeRooted r bits index (typed w s n) = NodeRooted r n × IfTarget bits r index n

  abbrev pub RootIs : Root → Type 0
  RootIs root.Nothing = ⊤
  RootIs root.Refused = ⊤
  RootIs root.Member = ⊤
  RootIs (root.Variable v) = ⊤
  RootIs (root.Field p o) = Q p × (o ≡ None)
  RootIs (root.Object o c) = ⊤

  abbrev pub WholeIs : Root → Option Shape → Option ExprTerm → Reads → Type 0
  WholeIs root.Nothing s t r = ⊥
  WholeIs root.Refused s t r = ⊥
  WholeIs root.Member s t r = ⊥
  WholeIs (root.Variable v) s t r = ⊥
  WholeIs (root.Field p o) s t r = (is_array p.dims ≡ true) × (s ≡ option_map kind_shape p.kind) × (t ≡ shapes.property_tree None p.kind (Some (term.prop p.number))) × (r ≡ property_reads p)
  WholeIs (root.Object o c) s t r = ⊥

  pub record Rooted (x : Elab (Option Fault)) : Type 0 where
    pub refused : is_refused x.form.root ≡ true → x.faults ≡ None → ⊥
    pub rooted : RootIs x.form.root
    pub whole : is_whole x.form.extent ≡ true → WholeIs x.form.root x.shape x.tree x.reads
    pub row : is_row x.form.extent ≡ true → x.faults ≡ None → OptionIs (Settled x.form.random_index) x.tree
    pub single : is_single x.form.extent ≡ true → x.faults ≡ None → OptionIs (TreeRooted x.form.root x.form.bits x.form.random_index) x.tree

  pub made : (x : Elab (Option Fault)) → (is_refused x.form.root ≡ true → x.faults ≡ None → ⊥) → RootIs x.form.root → x.form.extent ≡ extent.Single
      → (x.faults ≡ None → OptionIs (TreeRooted x.form.root x.form.bits x.form.random_index) x.tree) → Rooted x
  made x r h e k = record {
    refused = r;
    rooted = h;
    whole = λ s. absurd (false_true (sym (ap is_whole e) ∙ s));
    row = λ s. absurd (false_true (sym (ap is_row e) ∙ s));
    single = λ s f. k f;
  }

  -- a node that stands for no property
  abbrev pub Plain : NodeTerm → Type 0
  Plain n = NodeRooted root.Nothing n × ⊤

  pub plain_rooted : (s : Option Shape) (n : Option NodeTerm) → OptionIs Plain n → OptionIs (TreeRooted root.Nothing false None) (typed_as s n)
  plain_rooted None n h = tt
  plain_rooted (Some s) None h = tt
  plain_rooted (Some s) (Some n) h = h

  abbrev pub Bits : Root → NodeTerm → Type 0
  Bits r n = NodeRooted r n × ⊤

  pub bits_rooted : (r : Root) (index : Option ℕ) (s : Option Shape) (n : Option NodeTerm) → OptionIs (Bits r) n → OptionIs (TreeRooted r true index) (typed_as s n)
  bits_rooted r index None n h = tt
  bits_rooted r index (Some s) None h = tt
  bits_rooted r index (Some s) (Some n) h = h

  -- ---- indexes

  pub index_settled : (before : Option ℕ) (b : Bool) (at : ℕ) (t : Option ExprTerm) → (b ≡ false → OptionIs N t) → OptionIs (Settled (or_else before (only_if b (Some at)))) t
  index_settled before b at None h = tt
  index_settled before b at (Some t) h = λ e. h (only_none b at (none_second before (only_if b (Some at)) e))

  pub still_settled : (before more : Option ℕ) (t : Option ExprTerm) → OptionIs (Settled before) t → OptionIs (Settled (or_else before more)) t
  still_settled before more None h = tt
  still_settled before more (Some t) h = λ e. h (none_first before more e)

  element_of : (p : Property) (kind : Option Vector) (index : Option ℕ) (i : Option ExprTerm) → OptionIs (Settled index) i
      → OptionIs (TreeRooted (root.Field p None) false index) (shapes.property_tree None kind (shapes.element_node p i))
  element_of p None index i h = tt
  element_of p (Some k) index None h = tt
  element_of p (Some k) index (Some i) h = (tt, h)

  pub element_rooted : (r : Root) (index : Option ℕ) (i : Option ExprTerm) → RootIs r → OptionIs (Settled index) i → OptionIs (TreeRooted r false index) (shapes.element_tree r i)
  element_rooted root.Nothing index i q h = tt
  element_rooted root.Refused index i q h = tt
  element_rooted root.Member index i q h = tt
  element_rooted (root.Variable v) index i q h = tt
  element_rooted (root.Field p o) index i q h =
      let P : Option ℕ → Type 0 = λ o. OptionIs (TreeRooted (root.Field p o) false index) (shapes.property_tree o p.kind (shapes.element_node p i)) in
      subst P (sym q.1) (element_of p p.kind index i h)
  element_rooted (root.Object o c) index i q h = tt

  cell_of : (p : Property) (k : Vector) (m : Option ℕ) (index : Option ℕ) (i j : ExprTerm) → Settled index i → Settled index j
      → OptionIs (TreeRooted (root.Field p None) false index) (shapes.property_tree None (Some k) (option_map (λ m. shapes.cell p.number m i j) m))
  cell_of p k None index i j a b = tt
  cell_of p k (Some m) index i j a b = (tt, (a, b))

  cells_of : (p : Property) (kind : Option Vector) (index : Option ℕ) (i j : Option ExprTerm) → OptionIs (Settled index) i → OptionIs (Settled index) j
      → OptionIs (TreeRooted (root.Field p None) false index) (shapes.property_tree None kind (shapes.cell_node p None i j))
  cells_of p None index i j a b = tt
  cells_of p (Some k) index None j a b = tt
  cells_of p (Some k) index (Some i) None a b = tt
  cells_of p (Some k) index (Some i) (Some j) a b = cell_of p k (inner_of p.dims) index i j a b

  pub cell_rooted : (r : Root) (index : Option ℕ) (i j : Option ExprTerm) → RootIs r → OptionIs (Settled index) i → OptionIs (Settled index) j
      → OptionIs (TreeRooted r false index) (shapes.cell_tree r i j)
  cell_rooted root.Nothing index i j q a b = tt
  cell_rooted root.Refused index i j q a b = tt
  cell_rooted root.Member index i j q a b = tt
  cell_rooted (root.Variable v) index i j q a b = tt
  cell_rooted (root.Field p o) index i j q a b =
      let P : Option ℕ → Type 0 = λ o. OptionIs (TreeRooted (root.Field p o) false index) (shapes.property_tree o p.kind (shapes.cell_node p o i j)) in
      subst P (sym q.1) (cells_of p p.kind index i j a b)
  cell_rooted (root.Object o c) index i j q a b = tt

  -- ---- names

  pub prop_rooted : (p : Property) (kind : Option Vector) → Q p → OptionIs (TreeRooted (root.Field p None) false None) (shapes.property_tree None kind (Some (term.prop p.number)))
  prop_rooted p None q = tt
  prop_rooted p (Some k) q = ((refl, q), tt)

  pub item_rooted : (p : Property) (level : ℕ) (kind : Option Vector) → OptionIs (TreeRooted root.Nothing false None) (shapes.property_tree None kind (Some (term.element p.number (shapes.loop_tree level))))
  item_rooted p level None = tt
  item_rooted p level (Some k) = (tt, tt)

  pub member_rooted : (v : Option ℕ) (kind : Option Vector) → OptionIs (TreeRooted root.Member false None) (shapes.member_tree v kind)
  member_rooted v None = tt
  member_rooted None (Some k) = tt
  member_rooted (Some v) (Some k) = (tt, tt)

  pub variable_rooted : (v : ℕ) (kind : Option Vector) → OptionIs (TreeRooted (root.Variable v) false None) (shapes.variable_tree v kind)
  variable_rooted v None = tt
  variable_rooted v (Some k) = (tt, tt)

  pub size_rooted : (p : Property) (m : Option ℕ) → OptionIs (TreeRooted root.Nothing false None) (option_map (λ m. shapes.wrapped None shapes.whole_number (term.size p.number m)) m)
  size_rooted p None = tt
  size_rooted p (Some m) = (tt, tt)

  reduced_of : (kind : Option Vector) (n : Option NodeTerm) → OptionIs Plain n → OptionIs (TreeRooted root.Nothing false None) (shapes.property_tree None kind n)
  reduced_of None n h = tt
  reduced_of (Some k) None h = tt
  reduced_of (Some k) (Some n) h = h

  pub fold_rooted : (p : Property) (f : Fold) → OptionIs (TreeRooted root.Nothing false None) (shapes.fold_tree p None f)
  fold_rooted p f = reduced_of p.kind (option_map (term.reduce p.number f) (shapes.item_tree 0 p)) (mapped_is Plain (term.reduce p.number f) (λ t. (tt, tt)) (shapes.item_tree 0 p))

  -- ---- reductions

  reduce_of : (p : Property) (o : Option ℕ) (f : Fold) (t : Option ExprTerm) → OptionIs Plain (shapes.reduce_node p o f t)
  reduce_of p None f t = mapped_is Plain (term.reduce p.number f) (λ t. (tt, tt)) t
  reduce_of p (Some o) f t = tt

  pub array_rooted : (r : Root) (f : Fold) (t : Option ExprTerm) → OptionIs Plain (shapes.array_node r f t)
  array_rooted root.Nothing f t = tt
  array_rooted root.Refused f t = tt
  array_rooted root.Member f t = tt
  array_rooted (root.Variable v) f t = tt
  array_rooted (root.Field p o) f t = reduce_of p o f t
  array_rooted (root.Object o c) f t = tt

  -- ---- what is left where an object variable is refused

  pub root_without : (r : Root) → RootIs r → RootIs (without_object r)
  root_without root.Nothing h = tt
  root_without root.Refused h = tt
  root_without root.Member h = tt
  root_without (root.Variable v) h = tt
  root_without (root.Field p o) h = h
  root_without (root.Object o c) h = tt

  pub whole_without : (r : Root) (s : Option Shape) (t : Option ExprTerm) (rs : Reads) → WholeIs r s t rs → WholeIs (without_object r) s t rs
  whole_without root.Nothing s t rs h = h
  whole_without root.Refused s t rs h = h
  whole_without root.Member s t rs h = h
  whole_without (root.Variable v) s t rs h = h
  whole_without (root.Field p o) s t rs h = h
  whole_without (root.Object o c) s t rs h = absurd h

  pub tree_without : (r : Root) (bits : Bool) (index : Option ℕ) (t : Option ExprTerm) → is_object r ≡ false → OptionIs (TreeRooted r bits index) t → OptionIs (TreeRooted (without_object r) bits index) t
  tree_without r bits index t e h = let P : Root → Type 0 = λ r. OptionIs (TreeRooted r bits index) t in subst P (without_is r e) h
