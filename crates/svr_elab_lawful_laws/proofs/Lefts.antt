-- What a left side of a statement names stands in the design.
use Rattle.std.proofs.Common.{◌≡◌, ℕ, ℤ, Bool, true, false, if◌then◌else◌, Option, None, Some, option_map, refl, sym, ap, subst, true≢false}
use Rattle.std.specs.Prelude.{⊤, slice_get}
use Rattle.svr_typed.specs.declared.Prop.{Prop}
use Rattle.svr_typed.specs.declared.TVar.{TVar}
use Rattle.svr_typed.specs.declared.VarKind.{VarKind}
use Rattle.svr_typed.specs.ExprTerm as term
use Rattle.svr_typed.specs.ExprTerm.{ExprTerm, typed, NodeTerm}
use Rattle.svr_typed.specs.StmtTerm.{DesignTerm}
use Rattle.svr_tree.specs.ExprTree as raw
use Rattle.svr_tree.specs.ExprTree.{ExprTree}
use Rattle.svr_design.specs.Types.{ScalarIs, ArrayIs}
use Rattle.svr_design.specs.Statements.{IsObject, IsSomeClass, IsNumber, IsPlain, PlainKind, IsPlace, IsAnswer, object_props, kind_class, Value}
use Rattle.svr_elab_fault.specs.declared.Fault.{Fault}
use Rattle.svr_elab_fault.specs.Refusals.{first_one}
use Rattle.svr_elab_names.specs.declared.Vector.{Vector}
use Rattle.svr_elab_names.specs.declared.Property.{Property}
use Rattle.svr_elab_names.specs.declared.Meaning.{Meaning}
use Rattle.svr_elab_names.specs.declared.Meaning.TheVariants.{Wrong, LoopOf, ItemOf, MemberOf, PropertyOf, SizeOf, FoldOf, VariableOf, ObjectOf}
use Rattle.svr_elab_names.specs.Names.{Space, look, is_array}
use Rattle.svr_elab_part.specs.declared.part.Extent.{Extent}
use Rattle.svr_elab_part.specs.declared.part.Extent.TheVariants as extent
use Rattle.svr_elab_part.specs.declared.part.Root.{Root}
use Rattle.svr_elab_part.specs.declared.part.Root.TheVariants as root
use Rattle.svr_elab_part.specs.Fits.{NamesFit, LiteralsFit}
use Rattle.svr_elab_part.specs.Elab as spec
use Rattle.svr_elab_part.specs.Elab.{Elab}
use Rattle.svr_elab_part.specs.Shapes as shapes
use Rattle.svr_elab_part.specs.Forms.{is_single, is_row, is_whole, element_extent, without_row, without_object, kind_members}
use Rattle.svr_elab_part.proofs.Valued.{none_left, none_right, not_when}
use Rattle.svr_elab_part.proofs.Looked.{OptionIs}
use Rattle.svr_elab_stmt.specs.Stmts.{index_of}
use Rattle.svr_elab_target.specs.declared.target.Target.{Target}
use Rattle.svr_elab_target.specs.declared.target.Target.TheVariants as target
use Rattle.svr_elab_target.specs.Targets as targets
use Rattle.svr_elab_target.specs.Targets.{root_target}
use Rattle.svr_elab_lawful_laws.specs.Reads.{KindAt, InStatement}
use Rattle.svr_elab_lawful_laws.proofs.Means.{ObjectIs, MeaningReads, look_reads}
use Rattle.svr_elab_lawful_laws.proofs.Reading.{RootReads, RootExtent, WholeRoot, Standing, elab_reads}

-- ---- the tree of a place

abbrev PartPlace : ℕ → ExprTerm → Type 0
PartPlace k (typed w s (term.prop p)) = p ≡ k
PartPlace k (typed w s (term.element p i)) = p ≡ k
PartPlace k e = ⊥

-- property k of object o, or an element of it
abbrev pub PlaceOf : ℕ → ℕ → ExprTerm → Type 0
PlaceOf o k (typed w s (term.of_object q e)) = (q ≡ o) × PartPlace k e
PlaceOf o k e = ⊥

abbrev pub ShapedRoot : Root → Option ExprTerm → Type 0
ShapedRoot root.Nothing t = ⊤
ShapedRoot root.Refused t = ⊤
ShapedRoot root.Member t = ⊤
ShapedRoot (root.Variable v) t = ⊤
ShapedRoot (root.Field p None) t = ⊤
ShapedRoot (root.Field p (Some o)) t = OptionIs (PlaceOf o p.number) t
ShapedRoot (root.Object o c) t = ⊤

abbrev pub Shaped : Elab (Option Fault) → Type 0
Shaped x = x.faults ≡ None → x.form.bits ≡ false → is_single x.form.extent ≡ true → ShapedRoot x.form.root x.tree

prop_shaped : (p : Property) (o : ℕ) (kind : Option Vector) → OptionIs (PlaceOf o p.number) (shapes.property_tree (Some o) kind (Some (term.prop p.number)))
prop_shaped p o None = tt
prop_shaped p o (Some k) = (refl, refl)

element_shaped : (p : Property) (o : ℕ) (kind : Option Vector) (i : Option ExprTerm) → OptionIs (PlaceOf o p.number) (shapes.property_tree (Some o) kind (shapes.element_node p i))
element_shaped p o None i = tt
element_shaped p o (Some k) None = tt
element_shaped p o (Some k) (Some i) = (refl, refl)

placed_shaped : (p : Property) (o : ℕ) (kind : Option Vector) (i j : ExprTerm) (s : Option (ℕ × ℕ)) → OptionIs (PlaceOf o p.number) (shapes.property_tree (Some o) kind (option_map (λ s. shapes.placed p.number s i j) s))
placed_shaped p o None i j s = tt
placed_shaped p o (Some k) i j None = tt
placed_shaped p o (Some k) i j (Some s) = (refl, refl)

cell_shaped : (p : Property) (o : ℕ) (kind : Option Vector) (i j : Option ExprTerm) → OptionIs (PlaceOf o p.number) (shapes.property_tree (Some o) kind (shapes.cell_node p (Some o) i j))
cell_shaped p o None i j = tt
cell_shaped p o (Some k) None j = tt
cell_shaped p o (Some k) (Some i) None = tt
cell_shaped p o (Some k) (Some i) (Some j) = placed_shaped p o (Some k) i j (shapes.sizes_of p.dims)

element_root : (r : Root) (i : Option ExprTerm) → ShapedRoot r (shapes.element_tree r i)
element_root root.Nothing i = tt
element_root root.Refused i = tt
element_root root.Member i = tt
element_root (root.Variable v) i = tt
element_root (root.Field p None) i = tt
element_root (root.Field p (Some o)) i = element_shaped p o p.kind i
element_root (root.Object o c) i = tt

cell_root : (r : Root) (i j : Option ExprTerm) → ShapedRoot r (shapes.cell_tree r i j)
cell_root root.Nothing i j = tt
cell_root root.Refused i j = tt
cell_root root.Member i j = tt
cell_root (root.Variable v) i j = tt
cell_root (root.Field p None) i j = tt
cell_root (root.Field p (Some o)) i j = cell_shaped p o p.kind i j
cell_root (root.Object o c) i j = tt

meaning_shaped : (at name : ℕ) (call : Bool) (u : Option ℕ) (m : Meaning) → Shaped (spec.path_part first_one at name call (record { meaning = m; unmade = u }))
meaning_shaped at name call u (Wrong w) = λ f b s. tt
meaning_shaped at name call u (LoopOf k) = λ f b s. tt
meaning_shaped at name call u (ItemOf k p) = λ f b s. tt
meaning_shaped at name call u (MemberOf v kind) = λ f b s. tt
meaning_shaped at name call u (PropertyOf p None) = λ f b s. tt
meaning_shaped at name call u (PropertyOf p (Some o)) = λ f b s. prop_shaped p o p.kind
meaning_shaped at name call u (SizeOf p o) = λ f b s. tt
meaning_shaped at name call u (FoldOf p o g array) = λ f b s. tt
meaning_shaped at name call u (VariableOf v kind) = λ f b s. tt
meaning_shaped at name call u (ObjectOf o c) = λ f b s. tt

one_shaped : (b : Bool) (x y : Elab (Option Fault)) → Shaped x → Shaped y → Shaped (if b then x else y)
one_shaped true x y h k = h
one_shaped false x y h k = k

index_shaped : (at : ℕ) (x i : Elab (Option Fault)) → Shaped (spec.index_part first_one at x i)
index_shaped at x i =
    one_shaped (is_whole x.form.extent) (spec.array_part first_one at x i) (if is_row x.form.extent then spec.cell_part first_one at x i else spec.bit_part first_one at x i)
    (one_shaped (is_row (element_extent (shapes.array_property x.form.root).dims)) (spec.row_part first_one at x i) (spec.element_part first_one at x i) (λ f b s. absurd (true≢false (sym s))) (λ f b s. element_root x.form.root i.tree))
    (one_shaped (is_row x.form.extent) (spec.cell_part first_one at x i) (spec.bit_part first_one at x i) (λ f b s. cell_root x.form.root x.tree i.tree) (λ f b s. absurd (true≢false b)))

no_row_single : (e : Extent) → is_single (without_row e) ≡ true → is_row e ≡ false → is_single e ≡ true
no_row_single extent.Single h k = refl
no_row_single extent.Row h k = absurd (true≢false k)
no_row_single extent.Whole h k = absurd (true≢false (sym h))

root_shaped : (r : Root) (t : Option ExprTerm) → ShapedRoot r t → ShapedRoot (without_object r) t
root_shaped root.Nothing t h = tt
root_shaped root.Refused t h = tt
root_shaped root.Member t h = tt
root_shaped (root.Variable v) t h = tt
root_shaped (root.Field p None) t h = tt
root_shaped (root.Field p (Some o)) t h = h
root_shaped (root.Object o c) t h = tt

pub elab_shaped : (n : Space) (e : ExprTree) → Shaped (spec.elab first_one n e)
elab_shaped n (raw.number at v w s) = λ f b z. tt
elab_shaped n (raw.path at s names call) = meaning_shaped at (spec.last_name at names) call (look n s names).unmade (look n s names).meaning
elab_shaped n (raw.bit_select at x i call) = λ f b z. index_shaped at (spec.elab first_one n x) (spec.plain first_one (spec.elab first_one n i)) (none_left _ _ f) b z
elab_shaped n (raw.part_select at x g l call) = λ f b z. absurd (true≢false b)
elab_shaped n (raw.unary at op x) = λ f b z. tt
elab_shaped n (raw.binary at op x y) = λ f b z. tt
elab_shaped n (raw.choice at t x y) = λ f b z. tt
elab_shaped n (raw.inside at x rs) = λ f b z. tt
elab_shaped n (raw.join at xs) = λ f b z. tt
elab_shaped n (raw.copies at c xs) = λ f b z. tt
elab_shaped n (raw.sign at s x) = λ f b z. tt
elab_shaped n (raw.paren at x) =
    let a : Elab (Option Fault) = spec.elab first_one n x in
    λ f b z. root_shaped a.form.root a.tree (elab_shaped n x (none_left _ _ f) b (no_row_single a.form.extent z (not_when _ _ _ (none_left _ _ (none_right _ _ f)))))
elab_shaped n (raw.reduce at x g item body) = λ f b z. tt

-- ---- what stands there

module _ (d : DesignTerm) where
  scalar_place : (o : Option Prop) (w : ℕ) (s : Bool) → ScalarIs o w s → IsPlace d o None
  scalar_place None w s h = absurd h
  scalar_place (Some q) w s h = h.0

  array_place : (o : Option Prop) (w : ℕ) (s : Bool) (i : ExprTerm) → ArrayIs o w s → Value d i → IsPlace d o (Some i)
  array_place None w s i h v = absurd h
  array_place (Some q) w s i h v = (h.0, v)

  abbrev PlaceGood : ℕ → ℕ → ExprTerm → Type 0
  PlaceGood o k t = IsObject d o × IsPlace d (slice_get (object_props d o) k) (index_of t)

  pub place_good : (o k : ℕ) (t : ExprTerm) → Value d t → PlaceOf o k t → PlaceGood o k t
  place_good o k (typed w s (term.of_object q (typed v z (term.prop p)))) h e =
      subst (λ (q : ℕ). PlaceGood q k (typed w s (term.of_object q (typed v z (term.prop p))))) e.0
      (subst (λ (k : ℕ). PlaceGood q k (typed w s (term.of_object q (typed v z (term.prop p))))) e.1 (h.1.0, scalar_place (slice_get (object_props d q) p) v z h.1.1))
  place_good o k (typed w s (term.of_object q (typed v z (term.element p i)))) h e =
      subst (λ (q : ℕ). PlaceGood q k (typed w s (term.of_object q (typed v z (term.element p i))))) e.0
      (subst (λ (k : ℕ). PlaceGood q k (typed w s (term.of_object q (typed v z (term.element p i))))) e.1 (h.1.0, array_place (slice_get (object_props d q) p) v z i h.1.1.0 (h.0.4.4, h.1.1.1)))
  place_good o k (typed w s (term.of_object q (typed v z (term.number a b)))) h e = absurd e.1
  place_good o k (typed w s (term.of_object q (typed v z (term.cell p m i j)))) h e = absurd e.1
  place_good o k (typed w s (term.of_object q (typed v z (term.size p m)))) h e = absurd e.1
  place_good o k (typed w s (term.of_object q (typed v z (term.script x)))) h e = absurd e.1
  place_good o k (typed w s (term.of_object q (typed v z (term.loop_index x)))) h e = absurd e.1
  place_good o k (typed w s (term.of_object q (typed v z (term.reduce p f b)))) h e = absurd e.1
  place_good o k (typed w s (term.of_object q (typed v z (term.of_object a b)))) h e = absurd e.1
  place_good o k (typed w s (term.of_object q (typed v z (term.bit_select x i low)))) h e = absurd e.1
  place_good o k (typed w s (term.of_object q (typed v z (term.part_select x f l low)))) h e = absurd e.1
  place_good o k (typed w s (term.of_object q (typed v z (term.unary op x)))) h e = absurd e.1
  place_good o k (typed w s (term.of_object q (typed v z (term.binary op x y)))) h e = absurd e.1
  place_good o k (typed w s (term.of_object q (typed v z (term.choice t x y)))) h e = absurd e.1
  place_good o k (typed w s (term.of_object q (typed v z (term.inside x rs)))) h e = absurd e.1
  place_good o k (typed w s (term.of_object q (typed v z (term.join xs)))) h e = absurd e.1
  place_good o k (typed w s (term.of_object q (typed v z (term.copies n xs)))) h e = absurd e.1
  place_good o k (typed w s (term.of_object q (typed v z (term.sign b x)))) h e = absurd e.1
  place_good o k (typed w s (term.number v every)) h e = absurd e
  place_good o k (typed w s (term.prop p)) h e = absurd e
  place_good o k (typed w s (term.element p i)) h e = absurd e
  place_good o k (typed w s (term.cell p m i j)) h e = absurd e
  place_good o k (typed w s (term.size p m)) h e = absurd e
  place_good o k (typed w s (term.script v)) h e = absurd e
  place_good o k (typed w s (term.loop_index j)) h e = absurd e
  place_good o k (typed w s (term.reduce p f b)) h e = absurd e
  place_good o k (typed w s (term.bit_select x i low)) h e = absurd e
  place_good o k (typed w s (term.part_select x f l low)) h e = absurd e
  place_good o k (typed w s (term.unary op x)) h e = absurd e
  place_good o k (typed w s (term.binary op x y)) h e = absurd e
  place_good o k (typed w s (term.choice t x y)) h e = absurd e
  place_good o k (typed w s (term.inside x rs)) h e = absurd e
  place_good o k (typed w s (term.join xs)) h e = absurd e
  place_good o k (typed w s (term.copies n xs)) h e = absurd e
  place_good o k (typed w s (term.sign t x)) h e = absurd e

  -- ---- targets

  pub kind_number : (kind : Option Vector) (t : Option TVar) → KindAt kind t → IsNumber t
  kind_number None t h = absurd h
  kind_number (Some k) None h = absurd h
  kind_number (Some k) (Some t) h = ap (λ (v : VarKind). kind_class v) h

  kind_plain : (kind : Option Vector) (t : Option TVar) → KindAt kind t → kind_members kind ≡ None → IsPlain t
  kind_plain None t h e = absurd h
  kind_plain (Some k) None h e = absurd h
  kind_plain (Some k) (Some t) h e = subst PlainKind (sym h) e

  abbrev pub TargetIs : Target → Type 0
  TargetIs target.Nothing = ⊤
  TargetIs (target.Object o) = IsObject d o
  TargetIs (target.Variable v) = IsNumber (slice_get d.vars v)
  TargetIs (target.Place o p) = ⊤
  TargetIs (target.Array o p) = ObjectIs d p (Some o) × (is_array p.dims ≡ true)

  field_is : (e : Extent) (p : Property) (o : ℕ) (r : Bool) (low : ℤ) → ObjectIs d p (Some o) → RootExtent d r e (root.Field p (Some o)) low → TargetIs (targets.property_target e o p)
  field_is extent.Single p o r low h w = tt
  field_is extent.Row p o r low h w = tt
  field_is extent.Whole p o r low h w = (h, w.0)

  root_is : (e : Extent) (q : Root) (r : Bool) (low : ℤ) → RootReads d q → RootExtent d r e q low → TargetIs (root_target e q)
  root_is e root.Nothing r low h w = tt
  root_is e root.Refused r low h w = tt
  root_is e root.Member r low h w = tt
  root_is e (root.Variable v) r low h w = kind_number h.0 (slice_get d.vars v) h.1
  root_is e (root.Field p None) r low h w = tt
  root_is e (root.Field p (Some o)) r low h w = field_is e p o r low h w
  root_is e (root.Object o c) r low h w = subst IsSomeClass (sym h) tt

  pub target_is : (b : Bool) (e : Extent) (q : Root) (r : Bool) (low : ℤ) → RootReads d q → RootExtent d r e q low → TargetIs (if b then target.Nothing else root_target e q)
  target_is true e q r low h w = tt
  target_is false e q r low h w = root_is e q r low h w

  -- ---- a variable that takes an answer

  abbrev PlainRoot : Root → Option ℕ → Type 0
  PlainRoot root.Nothing ms = ⊤
  PlainRoot root.Refused ms = ⊤
  PlainRoot root.Member ms = ⊤
  PlainRoot (root.Variable v) ms = ms ≡ None → IsPlain (slice_get d.vars v)
  PlainRoot (root.Field p o) ms = ⊤
  PlainRoot (root.Object o c) ms = ⊤

  abbrev pub Plain : Elab (Option Fault) → Type 0
  Plain x = x.form.bits ≡ false → PlainRoot x.form.root x.form.members

  whole_plain : (q : Root) (r : Bool) (low : ℤ) (ms : Option ℕ) → WholeRoot d r q low → PlainRoot q ms
  whole_plain root.Nothing r low ms w = tt
  whole_plain root.Refused r low ms w = tt
  whole_plain root.Member r low ms w = tt
  whole_plain (root.Variable v) r low ms w = absurd w
  whole_plain (root.Field p o) r low ms w = tt
  whole_plain (root.Object o c) r low ms w = tt

  extent_whole : (e : Extent) (q : Root) (r : Bool) (low : ℤ) → is_whole e ≡ true → RootExtent d r e q low → WholeRoot d r q low
  extent_whole extent.Single q r low h w = absurd (true≢false (sym h))
  extent_whole extent.Row q r low h w = absurd (true≢false (sym h))
  extent_whole extent.Whole q r low h w = w

  extent_row : (e : Extent) (q : Root) (r : Bool) (low : ℤ) → is_row e ≡ true → RootExtent d r e q low → WholeRoot d r q low
  extent_row extent.Single q r low h w = absurd (true≢false (sym h))
  extent_row extent.Row q r low h w = w
  extent_row extent.Whole q r low h w = absurd (true≢false (sym h))

  pub meaning_plain : (at name : ℕ) (call : Bool) (u : Option ℕ) (m : Meaning) → MeaningReads d m → Plain (spec.path_part first_one at name call (record { meaning = m; unmade = u }))
  meaning_plain at name call u (Wrong w) h = λ b. tt
  meaning_plain at name call u (LoopOf k) h = λ b. tt
  meaning_plain at name call u (ItemOf k p) h = λ b. tt
  meaning_plain at name call u (MemberOf v kind) h = λ b. tt
  meaning_plain at name call u (PropertyOf p o) h = λ b. tt
  meaning_plain at name call u (SizeOf p o) h = λ b. tt
  meaning_plain at name call u (FoldOf p o g array) h = λ b. tt
  meaning_plain at name call u (VariableOf v kind) h = λ b e. kind_plain kind (slice_get d.vars v) h e
  meaning_plain at name call u (ObjectOf o c) h = λ b. tt

  one_plain : (b : Bool) (x y : Elab (Option Fault)) → (b ≡ true → Plain x) → (b ≡ false → Plain y) → Plain (if b then x else y)
  one_plain true x y h k = h refl
  one_plain false x y h k = k refl

  index_plain : (at : ℕ) (x i : Elab (Option Fault)) → Standing d x → Plain (spec.index_part first_one at x i)
  index_plain at x i h =
      one_plain (is_whole x.form.extent) (spec.array_part first_one at x i) (if is_row x.form.extent then spec.cell_part first_one at x i else spec.bit_part first_one at x i)
      (λ w. let p = whole_plain x.form.root x.reads.random x.form.low x.form.members (extent_whole x.form.extent x.form.root x.reads.random x.form.low w h.reach) in
      one_plain (is_row (element_extent (shapes.array_property x.form.root).dims)) (spec.row_part first_one at x i) (spec.element_part first_one at x i) (λ e b. p) (λ e b. p))
      (λ w. one_plain (is_row x.form.extent) (spec.cell_part first_one at x i) (spec.bit_part first_one at x i)
      (λ r b. whole_plain x.form.root x.reads.random x.form.low x.form.members (extent_row x.form.extent x.form.root x.reads.random x.form.low r h.reach)) (λ r b. absurd (true≢false b)))

  root_plain : (q : Root) (ms : Option ℕ) → PlainRoot q ms → PlainRoot (without_object q) ms
  root_plain root.Nothing ms h = tt
  root_plain root.Refused ms h = tt
  root_plain root.Member ms h = tt
  root_plain (root.Variable v) ms h = h
  root_plain (root.Field p o) ms h = tt
  root_plain (root.Object o c) ms h = tt

  pub elab_plain : (n : Space) → InStatement d n → NamesFit n → (e : ExprTree) → LiteralsFit e → Plain (spec.elab first_one n e)
  elab_plain n m fits (raw.number at v w s) l = λ b. tt
  elab_plain n m fits (raw.path at s names call) l = meaning_plain at (spec.last_name at names) call (look n s names).unmade (look n s names).meaning (look_reads d n m s names)
  elab_plain n m fits (raw.bit_select at x i call) l = λ b. index_plain at (spec.elab first_one n x) (spec.plain first_one (spec.elab first_one n i)) (elab_reads d n m fits x l.0) b
  elab_plain n m fits (raw.part_select at x g t call) l = λ b. absurd (true≢false b)
  elab_plain n m fits (raw.unary at op x) l = λ b. tt
  elab_plain n m fits (raw.binary at op x y) l = λ b. tt
  elab_plain n m fits (raw.choice at t x y) l = λ b. tt
  elab_plain n m fits (raw.inside at x rs) l = λ b. tt
  elab_plain n m fits (raw.join at xs) l = λ b. tt
  elab_plain n m fits (raw.copies at c xs) l = λ b. tt
  elab_plain n m fits (raw.sign at s x) l = λ b. tt
  elab_plain n m fits (raw.paren at x) l = let a : Elab (Option Fault) = spec.elab first_one n x in λ b. root_plain a.form.root a.form.members (elab_plain n m fits x l b)
  elab_plain n m fits (raw.reduce at x g item body) l = λ b. tt

  -- an answer goes to a script variable whose values are those of no enum
  answer_root : (b : Bool) (e : Extent) (q : Root) (ms : Option ℕ) → (b ≡ false → PlainRoot q ms) → targets.is_answer (if b then target.Nothing else root_target e q) ms ≡ true → IsAnswer d (targets.answer_number (if b then target.Nothing else root_target e q))
  answer_root true e q ms h a = absurd (true≢false (sym a))
  answer_root false e root.Nothing ms h a = absurd (true≢false (sym a))
  answer_root false e root.Refused ms h a = absurd (true≢false (sym a))
  answer_root false e root.Member ms h a = absurd (true≢false (sym a))
  answer_root false e (root.Variable v) None h a = h refl refl
  answer_root false e (root.Variable v) (Some m) h a = absurd (true≢false (sym a))
  answer_root false e (root.Field p None) ms h a = absurd (true≢false (sym a))
  answer_root false extent.Single (root.Field p (Some o)) ms h a = absurd (true≢false (sym a))
  answer_root false extent.Row (root.Field p (Some o)) ms h a = absurd (true≢false (sym a))
  answer_root false extent.Whole (root.Field p (Some o)) ms h a = absurd (true≢false (sym a))
  answer_root false e (root.Object o c) ms h a = absurd (true≢false (sym a))

  pub answer_is : (x : Elab (Option Fault)) → Plain x → targets.is_answer (targets.target_of x.form) x.form.members ≡ true → IsAnswer d (targets.answer_number (targets.target_of x.form))
  answer_is x h a = answer_root x.form.bits x.form.extent x.form.root x.form.members h a
