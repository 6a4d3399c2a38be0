-- What is accepted stands.
use Rattle.std.proofs.Common.{◌≡◌, ◌≤◌, ◌<◌, ◌+◌, ℕ, ℤ, max, Bool, true, false, not, ◌&&◌, if◌then◌else◌, List, [], ◌∷◌, length, Option, None, Some, option_map, is_none, refl, sym, ap, subst, ◌∙◌, arith}
use Rattle.std.specs.Prelude.{⊤, slice_get, MatchOption}
use Rattle.svr_limits.specs.declared.limit.TheConstants.{LOOP_LIMIT}
use Rattle.svr_operator.specs.declared.Fold.{Fold}
use Rattle.svr_refusal.specs.declared.Refusal.TheVariants as refusal
use Rattle.svr_tree.specs.ExprTree as raw
use Rattle.svr_tree.specs.ExprTree.{ExprTree, ExprTrees, RangeTree, RangeTrees, BoundTree, argument_name}
use Rattle.svr_tree.specs.ExprGrammar.{expr_height, exprs_height, range_height, ranges_height, bound_height}
use Rattle.svr_typed.specs.declared.Prop.{Prop}
use Rattle.svr_typed.specs.declared.TVar.{TVar}
use Rattle.svr_typed.specs.ExprTerm as term
use Rattle.svr_typed.specs.ExprTerm.{ExprTerm, NodeTerm}
use Rattle.svr_eval.specs.Typed.{constant}
use Rattle.svr_design.specs.Mentions.{is_random, can_of, cyclic_of}
use Rattle.svr_design.specs.Constraints.{Stands, MemberStands, RangeStands, BoundStands}
use Rattle.svr_elab_fault.specs.declared.Fault.{Fault}
use Rattle.svr_elab_fault.specs.Refusals.{first_one, when, earlier}
use Rattle.svr_elab_names.specs.declared.Vector.{Vector}
use Rattle.svr_elab_names.specs.declared.Property.{Property}
use Rattle.svr_elab_names.specs.declared.VarStand.{VarStand}
use Rattle.svr_elab_names.specs.declared.VarStand.TheVariants as stand
use Rattle.svr_elab_names.specs.declared.Meaning.{Meaning}
use Rattle.svr_elab_names.specs.declared.Meaning.TheVariants.{Wrong, LoopOf, ItemOf, MemberOf, PropertyOf, SizeOf, FoldOf, VariableOf, ObjectOf}
use Rattle.svr_elab_names.specs.Names.{Space, PropName, VarName, Loop, look, in_reduction, item_name, is_array}
use Rattle.svr_elab_part.specs.declared.part.Shape.{Shape}
use Rattle.svr_elab_part.specs.declared.part.Extent.{Extent}
use Rattle.svr_elab_part.specs.declared.part.Extent.TheVariants as extent
use Rattle.svr_elab_part.specs.declared.part.Root.{Root}
use Rattle.svr_elab_part.specs.declared.part.Root.TheVariants as root
use Rattle.svr_elab_part.specs.Fits.{Each, PropertyFits, ItemFits, NamesFit, LiteralsFit, AllFit, RangesFit, RangeFits, BoundFits}
use Rattle.svr_elab_part.specs.Elab as spec
use Rattle.svr_elab_part.specs.Elab.{Elab, Elabs, RangeElab, RangesElab, BoundElab, body_space, is_in_object, is_no_array}
use Rattle.svr_elab_part.specs.Shapes as shapes
use Rattle.svr_elab_part.specs.Shapes.{both_known, all_known, array_property, is_randc}
use Rattle.svr_elab_part.specs.Forms.{is_single, is_row, is_whole, is_object, is_refused, without_row, without_object, element_extent, kind_low}
use Rattle.svr_elab_part.proofs.Valued.{none_left, none_right, not_when}
use Rattle.svr_elab_part.proofs.Typed.{TreeFine}
use Rattle.svr_elab_part.proofs.Looked.{OptionIs}
use Rattle.svr_elab_expr_laws.proofs.Clear.{SliceClear, slice_clear, ReduceClear, reduce_clear}
use Rattle.svr_elab_expr_laws.proofs.Ready.{value_ready}
use Rattle.svr_elab_reads_laws.specs.Reads.{IsDeclared, ItemDeclared, InConstraint, Mentions}
use Rattle.svr_elab_reads_laws.proofs.Three.{accepted_mentions}
use Rattle.svr_elab_stand_laws.specs.Stand.{There, IsDesigned, ItemDesigned, NumberIs, VariableDesigned, VariablesDesigned, InDesign, AcceptedStands}
use Rattle.svr_elab_stand_laws.proofs.Found.{MeaningIs, ItemIs, VarIs, VarsAre, PlaceIs, found}
use Rattle.svr_elab_stand_laws.proofs.Standing.{Good, NodeGood, GoodList, GoodRanges, BoundsFit, typed_good, one_good, two_good, three_good, list_more, ranges_more, joined_good, copied_good, inside_good, one_range, span_good, one_bound, as_member, scalar_good, array_member, item_good, size_good, fold_good, member_good, variable_good, element_good, cell_good, bit_good, part_good, reduced_good}

true_false : true ≡ false → ⊥
true_false h = cc

false_true : false ≡ true → ⊥
false_true h = cc

not_not : (b : Bool) → not b ≡ false → b ≡ true
not_not true h = refl
not_not false h = absurd (true_false h)

known_is : (c : Bool) (f : Option Fault) (t : Option ExprTerm) → c ≡ true → f ≡ None → (if c && is_none f then option_map constant t else None) ≡ option_map constant t
known_is c f t h k =
    ap (λ (b : Bool). if b && is_none f then option_map constant t else None) h ∙ ap (λ (x : Option Fault). if is_none x then option_map constant t else None) k

-- ---- extents

single_no_row : (e : Extent) → is_single e ≡ true → is_row e ≡ false
single_no_row extent.Single h = refl
single_no_row extent.Row h = absurd (false_true h)
single_no_row extent.Whole h = absurd (false_true h)

left_single : (e : Extent) → is_whole e ≡ false → is_row e ≡ false → is_single e ≡ true
left_single extent.Single h k = refl
left_single extent.Row h k = absurd (true_false k)
left_single extent.Whole h k = absurd (true_false h)

no_row_single : (e : Extent) → is_single (without_row e) ≡ true → is_row e ≡ false → is_single e ≡ true
no_row_single extent.Single h k = refl
no_row_single extent.Row h k = absurd (true_false k)
no_row_single extent.Whole h k = absurd (false_true h)

no_row_whole : (e : Extent) → is_whole (without_row e) ≡ true → is_whole e ≡ true
no_row_whole extent.Single h = absurd (false_true h)
no_row_whole extent.Row h = absurd (false_true h)
no_row_whole extent.Whole h = refl

no_row_row : (e : Extent) → is_row (without_row e) ≡ false
no_row_row extent.Single = refl
no_row_row extent.Row = refl
no_row_row extent.Whole = refl

property_single : (b : Bool) → is_single (if b then extent.Whole else extent.Single) ≡ true → b ≡ false
property_single true h = absurd (false_true h)
property_single false h = refl

property_whole : (b : Bool) → is_whole (if b then extent.Whole else extent.Single) ≡ true → b ≡ true
property_whole true h = refl
property_whole false h = absurd (false_true h)

property_no_row : (b : Bool) → is_row (if b then extent.Whole else extent.Single) ≡ false
property_no_row true = refl
property_no_row false = refl

by_extent : {A : Type 0} (e : Extent) → is_row e ≡ false → (is_single e ≡ true → A) → (is_whole e ≡ true → A) → A
by_extent extent.Single r h k = h refl
by_extent extent.Row r h k = absurd (true_false r)
by_extent extent.Whole r h k = k refl

-- ---- heights

left_fits : (d a b m : ℕ) → d + (max a b + 1) ≤ m → d + a ≤ m
left_fits d a b m h = omega (arith, h)

right_fits : (d a b m : ℕ) → d + (max a b + 1) ≤ m → d + b ≤ m
right_fits d a b m h = omega (arith, h)

one_fits : (d a m : ℕ) → d + (a + 1) ≤ m → d + a ≤ m
one_fits d a m h = omega (arith, h)

first_third : (d a b c m : ℕ) → d + (max (max a b) c + 1) ≤ m → d + a ≤ m
first_third d a b c m h = omega (arith, h)

second_third : (d a b c m : ℕ) → d + (max (max a b) c + 1) ≤ m → d + b ≤ m
second_third d a b c m h = omega (arith, h)

last_third : (d a b c m : ℕ) → d + (max (max a b) c + 1) ≤ m → d + c ≤ m
last_third d a b c m h = omega (arith, h)

deeper : (d a b m : ℕ) → d + (max a b + 1) ≤ m → d + 1 + b ≤ m
deeper d a b m h = omega (arith, h)

room : (d a b m : ℕ) → d + (max a b + 1) ≤ m → d < m
room d a b m h = omega (arith, h)

less : (d a b m : ℕ) → d + max a b ≤ m → d + a ≤ m
less d a b m h = omega (arith, h)

less_right : (d a b m : ℕ) → d + max a b ≤ m → d + b ≤ m
less_right d a b m h = omega (arith, h)

below : (d m : ℕ) → d + 1 ≤ m → d < m
below d m h = omega (arith, h)

one_deeper : {A : Type 0} (x : A) (xs : List A) (d : ℕ) → length xs ≡ d → length (x ∷ xs) ≡ d + 1
one_deeper x xs d h = omega (arith, h)

module _ (ps : List Prop) (vs : List TVar) where
  -- what is known of each property
  abbrev Known : Property → Type 0
  Known p = There p p.kind (slice_get ps p.number) × PropertyFits p

  abbrev Variable : ℕ → Option Vector → Type 0
  Variable v kind = NumberIs kind (slice_get vs v)

  record Here (depth : ℕ) (n : Space) : Type 0 where
    pub place : PlaceIs Known Variable depth n
    pub fits : NamesFit n
    pub reads : InConstraint ps n

  abbrev Trees : ℕ → ℤ → Option ExprTerm → Type 0
  Trees depth low t = OptionIs (Good ps vs depth low) t

  abbrev RootStands : Root → Type 0
  RootStands root.Nothing = ⊤
  RootStands root.Refused = ⊤
  RootStands root.Member = ⊤
  RootStands (root.Variable v) = ⊤
  RootStands (root.Field p o) = Known p × (o ≡ None)
  RootStands (root.Object o c) = ⊤

  abbrev WholeRoot : Root → ℤ → Type 0
  WholeRoot root.Nothing low = ⊥
  WholeRoot root.Refused low = ⊥
  WholeRoot root.Member low = ⊥
  WholeRoot (root.Variable v) low = ⊥
  WholeRoot (root.Field p o) low = (is_array p.dims ≡ true) × (low ≡ kind_low p.kind)
  WholeRoot (root.Object o c) low = ⊥

  -- an array and a row are those of a property
  abbrev RootExtent : Extent → Root → ℤ → Type 0
  RootExtent extent.Single r low = ⊤
  RootExtent extent.Row r low = WholeRoot r low
  RootExtent extent.Whole r low = WholeRoot r low

  record Standing (depth : ℕ) (x : Elab (Option Fault)) : Type 0 where
    pub rooted : RootStands x.form.root
    pub reach : RootExtent x.form.extent x.form.root x.form.low
    pub single : is_single x.form.extent ≡ true → x.faults ≡ None → Trees depth x.form.low x.tree
    pub row : is_row x.form.extent ≡ true → x.faults ≡ None → OptionIs (Stands ps vs depth) x.tree
    pub whole : is_whole x.form.extent ≡ true → x.faults ≡ None → OptionIs (MemberStands ps vs depth) x.tree

  abbrev Value : ℕ → Elab (Option Fault) → Type 0
  Value depth x = x.faults ≡ None → Trees depth x.form.low x.tree

  as_whole : (e : Extent) (r : Root) (low : ℤ) → is_single e ≡ false → RootExtent e r low → WholeRoot r low
  as_whole extent.Single r low h k = absurd (true_false h)
  as_whole extent.Row r low h k = k
  as_whole extent.Whole r low h k = k

  whole_no_single : (e : Extent) → is_whole e ≡ true → is_single e ≡ false
  whole_no_single extent.Single h = absurd (false_true h)
  whole_no_single extent.Row h = refl
  whole_no_single extent.Whole h = refl

  row_no_single : (e : Extent) → is_row e ≡ true → is_single e ≡ false
  row_no_single extent.Single h = absurd (false_true h)
  row_no_single extent.Row h = refl
  row_no_single extent.Whole h = refl

  extent_at : (e : Extent) (r : Root) (low : ℤ) → e ≡ extent.Single → RootExtent e r low
  extent_at e r low h = let P : Extent → Type 0 = λ e. RootExtent e r low in subst P (sym h) tt

  made : (depth : ℕ) (x : Elab (Option Fault)) → RootStands x.form.root → x.form.extent ≡ extent.Single → Value depth x → Standing depth x
  made depth x r e h = record {
    rooted = r;
    reach = extent_at x.form.extent x.form.root x.form.low e;
    single = λ s f. h f;
    row = λ s. absurd (false_true (sym (ap is_row e) ∙ s));
    whole = λ s. absurd (false_true (sym (ap is_whole e) ∙ s));
  }

  root_without : (r : Root) → RootStands r → RootStands (without_object r)
  root_without root.Nothing h = tt
  root_without root.Refused h = tt
  root_without root.Member h = tt
  root_without (root.Variable v) h = tt
  root_without (root.Field p o) h = h
  root_without (root.Object o c) h = tt

  whole_without : (r : Root) (low : ℤ) → WholeRoot r low → WholeRoot (without_object r) low
  whole_without root.Nothing low h = h
  whole_without root.Refused low h = h
  whole_without root.Member low h = h
  whole_without (root.Variable v) low h = h
  whole_without (root.Field p o) low h = h
  whole_without (root.Object o c) low h = absurd h

  extent_without : (e : Extent) (r : Root) (low : ℤ) → RootExtent e r low → RootExtent (without_row e) (without_object r) low
  extent_without extent.Single r low h = tt
  extent_without extent.Row r low h = tt
  extent_without extent.Whole r low h = whole_without r low h

  plain_value : (depth : ℕ) (x : Elab (Option Fault)) → Standing depth x → Value depth (spec.plain first_one x)
  plain_value depth x h f = h.single (not_not (is_single x.form.extent) (not_when _ _ _ (none_left _ _ (none_right _ _ f)))) (none_left _ _ f)

  plain_standing : (depth : ℕ) (x : Elab (Option Fault)) → Standing depth x → Standing depth (spec.plain first_one x)
  plain_standing depth x h = made depth (spec.plain first_one x) (root_without x.form.root h.rooted) refl (plain_value depth x h)

  sole_standing : (depth : ℕ) (x : Elab (Option Fault)) → Standing depth x → Standing depth (spec.sole first_one x)
  sole_standing depth x h = record {
    rooted = root_without x.form.root h.rooted;
    reach = extent_without x.form.extent x.form.root x.form.low h.reach;
    single = λ s f. h.single (no_row_single x.form.extent s (not_when _ _ _ (none_left _ _ (none_right _ _ f)))) (none_left _ _ f);
    row = λ s. absurd (true_false (sym s ∙ no_row_row x.form.extent));
    whole = λ s f. h.whole (no_row_whole x.form.extent s) (none_left _ _ f);
  }

  sole_member : (depth : ℕ) (x : Elab (Option Fault)) → Standing depth x → (spec.sole first_one x).faults ≡ None → OptionIs (MemberStands ps vs depth) x.tree
  sole_member depth x h f =
      by_extent x.form.extent (not_when _ _ _ (none_left _ _ (none_right _ _ f)))
      (λ s. as_member ps vs depth x.tree x.form.low (h.single s (none_left _ _ f))) (λ w. h.whole w (none_left _ _ f))

  -- ---- names

  property_extends : (p : Property) (o : Option ℕ) (b : Bool) → is_array p.dims ≡ b → RootExtent (if b then extent.Whole else extent.Single) (root.Field p o) (kind_low p.kind)
  property_extends p o true h = (h, refl)
  property_extends p o false h = tt

  abbrev path_at : ℕ → ℕ → Bool → Option ℕ → Meaning → Elab (Option Fault)
  path_at at name call u m = spec.path_part first_one at name call (record { meaning = m; unmade = u })

  property_standing : (depth at name : ℕ) (call : Bool) (u : Option ℕ) (p : Property) → Known p → Standing depth (path_at at name call u (PropertyOf p None))
  property_standing depth at name call u p h = record {
    rooted = (h, refl);
    reach = property_extends p None (is_array p.dims) refl;
    single = λ s f. scalar_good ps vs depth p h.0 (property_single (is_array p.dims) s);
    row = λ s. absurd (true_false (sym s ∙ property_no_row (is_array p.dims)));
    whole = λ s f. array_member ps vs depth p h.0 (property_whole (is_array p.dims) s);
  }

  path_standing : (depth at name : ℕ) (call : Bool) (u : Option ℕ) (m : Meaning) → depth < LOOP_LIMIT → MeaningIs Known Variable depth m → Standing depth (path_at at name call u m)
  path_standing depth at name call u (Wrong w) r h = made depth _ tt refl (λ f. tt)
  path_standing depth at name call u (LoopOf k) r h = made depth _ tt refl (λ f. (h, refl))
  path_standing depth at name call u (ItemOf k p) r h = made depth _ tt refl (λ f. item_good ps vs depth k p h.0 h.1.0 h.2)
  path_standing depth at name call u (MemberOf v kind) r h = made depth _ tt refl (λ f. member_good ps vs depth v kind)
  path_standing depth at name call u (PropertyOf p o) r h =
      let P : Option ℕ → Type 0 = λ o. Standing depth (path_at at name call u (PropertyOf p o)) in subst P (sym h.1) (property_standing depth at name call u p h.0)
  path_standing depth at name call u (SizeOf p o) r h =
      let P : Option ℕ → Type 0 = λ o. Standing depth (path_at at name call u (SizeOf p o)) in
      subst P (sym h.1) (made depth (path_at at name call u (SizeOf p None)) tt refl (λ f. size_good ps vs depth p p.kind h.0.0 h.2))
  path_standing depth at name call u (FoldOf p o g array) r h =
      let P : Option ℕ → Type 0 = λ o. Standing depth (path_at at name call u (FoldOf p o g array)) in
      subst P (sym h.1) (made depth (path_at at name call u (FoldOf p None g array)) tt refl (λ f. fold_good ps vs depth g p r h.0.0 h.2))
  path_standing depth at name call u (VariableOf v kind) r h = made depth _ tt refl (λ f. variable_good ps vs depth v kind h)
  path_standing depth at name call u (ObjectOf o c) r h = made depth _ tt refl (λ f. tt)

  -- ---- elements and bits

  stands_of : (depth : ℕ) (t : Option ExprTerm) (low : ℤ) → Trees depth low t → OptionIs (Stands ps vs depth) t
  stands_of depth None low h = tt
  stands_of depth (Some t) low h = h.0

  element_at : (depth : ℕ) (r : Root) (low : ℤ) (i : Option ExprTerm) → RootStands r → WholeRoot r low → is_row (element_extent (array_property r).dims) ≡ false → OptionIs (Stands ps vs depth) i
      → Trees depth low (shapes.element_tree r i)
  element_at depth root.Nothing low i q w e k = absurd w
  element_at depth root.Refused low i q w e k = absurd w
  element_at depth root.Member low i q w e k = absurd w
  element_at depth (root.Variable v) low i q w e k = absurd w
  element_at depth (root.Field p o) low i q w e k =
      let P : Option ℕ → Type 0 = λ o. Trees depth (kind_low p.kind) (shapes.property_tree o p.kind (shapes.element_node p i)) in
      let Q : ℤ → Type 0 = λ low. Trees depth low (shapes.property_tree o p.kind (shapes.element_node p i)) in
      subst Q (sym w.1) (subst P (sym q.1) (element_good ps vs depth p p.kind i q.0.0 w.0 e k))
  element_at depth (root.Object o c) low i q w e k = absurd w

  cell_at : (depth : ℕ) (r : Root) (low : ℤ) (i j : Option ExprTerm) → RootStands r → WholeRoot r low → OptionIs (Stands ps vs depth) i → OptionIs (Stands ps vs depth) j
      → Trees depth low (shapes.cell_tree r i j)
  cell_at depth root.Nothing low i j q w k l = absurd w
  cell_at depth root.Refused low i j q w k l = absurd w
  cell_at depth root.Member low i j q w k l = absurd w
  cell_at depth (root.Variable v) low i j q w k l = absurd w
  cell_at depth (root.Field p o) low i j q w k l =
      let P : Option ℕ → Type 0 = λ o. Trees depth (kind_low p.kind) (shapes.property_tree o p.kind (shapes.cell_node p o i j)) in
      let Q : ℤ → Type 0 = λ low. Trees depth low (shapes.property_tree o p.kind (shapes.cell_node p o i j)) in
      subst Q (sym w.1) (subst P (sym q.1) (cell_good ps vs depth p p.kind i j q.0.0 w.0 k l))
  cell_at depth (root.Object o c) low i j q w k l = absurd w

  one_of : (depth : ℕ) (b : Bool) (x y : Elab (Option Fault)) → (b ≡ true → Standing depth x) → (b ≡ false → Standing depth y) → Standing depth (if b then x else y)
  one_of depth true x y h k = h refl
  one_of depth false x y h k = k refl

  record BitClear (x i : Elab (Option Fault)) : Type 0 where
    pub base : x.faults ≡ None
    pub index : i.faults ≡ None
    pub settled : i.reads.random ≡ false

  bit_clear : (x i : Elab (Option Fault)) → spec.bit_faults first_one x i ≡ None → BitClear x i
  bit_clear x i e =
      let a : Option Fault = when first_one i.reads.random i.at refusal.RandomIndex in
      let b : Option Fault = when first_one (is_object x.form.root) x.form.name refusal.UnknownName in
      let e1 : earlier i.faults (earlier a b) ≡ None = none_right x.faults (earlier i.faults (earlier a b)) e in
      let e2 : earlier a b ≡ None = none_right i.faults (earlier a b) e1 in
      record { base = none_left x.faults (earlier i.faults (earlier a b)) e; index = none_left i.faults (earlier a b) e1; settled = not_when i.reads.random i.at refusal.RandomIndex (none_left a b e2) }

  module _ (depth at : ℕ) (x i : Elab (Option Fault)) (h : Standing depth x) (k : Value depth i) (m : i.faults ≡ None → OptionIs (λ (t : ExprTerm). is_random ps t ≡ i.reads.random) i.tree) where
    index_stands : i.faults ≡ None → OptionIs (Stands ps vs depth) i.tree
    index_stands f = stands_of depth i.tree i.form.low (k f)

    row_standing : is_whole x.form.extent ≡ true → Standing depth (spec.row_part first_one at x i)
    row_standing w = record {
      rooted = h.rooted;
      reach = as_whole x.form.extent x.form.root x.form.low (whole_no_single x.form.extent w) h.reach;
      single = λ s. absurd (false_true s);
      row = λ s f. index_stands (none_right _ _ f);
      whole = λ s. absurd (false_true s);
    }

    element_standing : is_whole x.form.extent ≡ true → is_row (element_extent (array_property x.form.root).dims) ≡ false → Standing depth (spec.element_part first_one at x i)
    element_standing w r =
        made depth _ h.rooted refl
        (λ f. element_at depth x.form.root x.form.low i.tree h.rooted (as_whole x.form.extent x.form.root x.form.low (whole_no_single x.form.extent w) h.reach) r (index_stands (none_right _ _ f)))

    cell_standing : is_row x.form.extent ≡ true → Standing depth (spec.cell_part first_one at x i)
    cell_standing r =
        made depth _ h.rooted refl
        (λ f. cell_at depth x.form.root x.form.low x.tree i.tree h.rooted (as_whole x.form.extent x.form.root x.form.low (row_no_single x.form.extent r) h.reach) (h.row r (none_left _ _ f)) (index_stands (none_right _ _ f)))

    bit_standing : is_single x.form.extent ≡ true → Standing depth (spec.bit_part first_one at x i)
    bit_standing s =
        made depth (spec.bit_part first_one at x i) h.rooted refl
        (λ f. let clear : BitClear x i = bit_clear x i f in
        typed_good ps vs depth (Some shapes.bit) (shapes.bit_node x.tree i.tree x.form.low)
        (bit_good ps vs depth x.tree i.tree x.form.low i.form.low i.reads.random clear.settled (h.single s clear.base) (k clear.index) (m clear.index)))

    array_standing : is_whole x.form.extent ≡ true → Standing depth (spec.array_part first_one at x i)
    array_standing w =
        one_of depth (is_row (element_extent (array_property x.form.root).dims)) (spec.row_part first_one at x i) (spec.element_part first_one at x i) (λ e. row_standing w) (element_standing w)

    index_standing : Standing depth (spec.index_part first_one at x i)
    index_standing =
        one_of depth (is_whole x.form.extent) (spec.array_part first_one at x i) (if is_row x.form.extent then spec.cell_part first_one at x i else spec.bit_part first_one at x i) array_standing
        (λ w. one_of depth (is_row x.form.extent) (spec.cell_part first_one at x i) (spec.bit_part first_one at x i) cell_standing (λ r. bit_standing (left_single x.form.extent w r)))

  parens_standing : (depth : ℕ) (call : Bool) (x : Elab (Option Fault)) → Standing depth x → Standing depth (spec.with_parens first_one call x)
  parens_standing depth call x h = record {
    rooted = h.rooted;
    reach = h.reach;
    single = λ s f. h.single s (none_left _ _ f);
    row = λ s f. h.row s (none_left _ _ f);
    whole = λ s f. h.whole s (none_left _ _ f);
  }

  -- ---- part-selects

  bounds_fit : (s : Option Shape) (c : Bool) (x : Option ExprTerm) (low : ℤ) (f l : Option ExprTerm) → TreeFine s c x
      → shapes.is_high low s (option_map constant f) (option_map constant l) ≡ false → shapes.is_low low (option_map constant l) ≡ false → BoundsFit ps vs x low f l
  bounds_fit s c None low f l h a b = tt
  bounds_fit s c (Some x) low f l h a b =
      (sym (ap (λ (s : Option Shape). shapes.is_high low s (option_map constant f) (option_map constant l)) h.shape) ∙ a, b)

  slice_standing : (depth at : ℕ) (x f l : Elab (Option Fault)) → RootStands x.form.root → Value depth x → Value depth f → Value depth l → (x.faults ≡ None → TreeFine x.shape x.reads.constant x.tree)
      → Standing depth (spec.slice_part first_one at x f l)
  slice_standing depth at x f l r h i j s = made depth (spec.slice_part first_one at x f l) r refl good
    where
      good : Value depth (spec.slice_part first_one at x f l)
      good e =
          let high : Bool = shapes.is_high x.form.low x.shape (spec.known first_one f) (spec.known first_one l) in
          let low : Bool = shapes.is_low x.form.low (spec.known first_one l) in
          let clear : SliceClear x f l high low = slice_clear x f l high low e in
          let p : spec.known first_one f ≡ option_map constant f.tree = known_is f.reads.constant f.faults f.tree clear.first_constant clear.first in
          let q : spec.known first_one l ≡ option_map constant l.tree = known_is l.reads.constant l.faults l.tree clear.last_constant clear.last in
          let a : shapes.is_high x.form.low x.shape (option_map constant f.tree) (option_map constant l.tree) ≡ false =
          sym (ap (λ (y : Option ℤ). shapes.is_high x.form.low x.shape y (spec.known first_one l)) p ∙ ap (λ (z : Option ℤ). shapes.is_high x.form.low x.shape (option_map constant f.tree) z) q) ∙ clear.high in
          let b : shapes.is_low x.form.low (option_map constant l.tree) ≡ false = sym (ap (shapes.is_low x.form.low) q) ∙ clear.low in
          typed_good ps vs depth (spec.slice_part first_one at x f l).shape (shapes.part_node x.tree f.tree l.tree x.form.low)
          (part_good ps vs depth x.tree f.tree l.tree x.form.low f.form.low l.form.low (h clear.base) (i clear.first) (j clear.last) (bounds_fit x.shape x.reads.constant x.tree x.form.low f.tree l.tree (s clear.base) a b))

  -- ---- reductions

  -- a reduction is of a whole array outside of objects
  array_stands : (depth : ℕ) (r : Root) (e : Extent) (low b : ℤ) (g : Fold) (t : Option ExprTerm) → depth < LOOP_LIMIT → RootStands r → RootExtent e r low → (not (is_refused r) && not (is_whole e)) ≡ false
      → (Known (array_property r) → is_array (array_property r).dims ≡ true → Trees (depth + 1) b t) → OptionIs (NodeGood ps vs depth) (shapes.array_node r g t)
  array_stands depth root.Nothing e low b g t room q h a k = tt
  array_stands depth root.Refused e low b g t room q h a k = tt
  array_stands depth root.Member e low b g t room q h a k = tt
  array_stands depth (root.Variable v) e low b g t room q h a k = tt
  array_stands depth (root.Field p None) e low b g t room q h a k =
      let w : is_whole e ≡ true = not_not (is_whole e) a in
      let array : WholeRoot (root.Field p None) low = as_whole e (root.Field p None) low (whole_no_single e w) h in
      reduced_good ps vs depth g p p.kind t b room q.0.0 array.0 (k q.0 array.0)
  array_stands depth (root.Field p (Some o)) e low b g t room q h a k = tt
  array_stands depth (root.Object o c) e low b g t room q h a k = tt

  reduce_value : (depth at : ℕ) (g : Fold) (x body : Elab (Option Fault)) → depth < LOOP_LIMIT → Standing depth x → (Known (array_property x.form.root) → is_array (array_property x.form.root).dims ≡ true → Value (depth + 1) body)
      → Value depth (spec.reduce_part first_one at g x body)
  reduce_value depth at g x body room h k e =
      let clear : ReduceClear x body = reduce_clear x body e in
      typed_good ps vs depth body.shape (shapes.array_node x.form.root g body.tree)
      (array_stands depth x.form.root x.form.extent x.form.low body.form.low g body.tree room h.rooted h.reach clear.is_array (λ q a. k q a clear.inner))

  property_without : (r : Root) → array_property (without_object r) ≡ array_property r
  property_without root.Nothing = refl
  property_without root.Refused = refl
  property_without root.Member = refl
  property_without (root.Variable v) = refl
  property_without (root.Field p o) = refl
  property_without (root.Object o c) = refl

  known_at : (p q : Property) → p ≡ q → Known p → Known q
  known_at p q e h = let P : Property → Type 0 = Known in subst P e h

  array_at : (p q : Property) → p ≡ q → is_array p.dims ≡ true → is_array q.dims ≡ true
  array_at p q e h = let P : Property → Type 0 = λ p. is_array p.dims ≡ true in subst P e h

  -- ---- the places of parts

  declared_of : (p : Property) (kind : Option Vector) (q : Option Prop) → There p kind q → (can_of q ≡ p.random) × (cyclic_of q ≡ is_randc p.rand)
  declared_of p None q h = absurd h
  declared_of p (Some k) None h = absurd h
  declared_of p (Some k) (Some q) h = (h.random, h.cyclic)

  declared : (p : Property) → IsDesigned ps p → IsDeclared ps p
  declared p h = declared_of p p.kind (slice_get ps p.number) h

  in_body : (depth : ℕ) (n : Space) (p : Property) (name : Option ℕ) → Here depth n → Known p → is_array p.dims ≡ true → Here (depth + 1) (in_reduction n p name)
  in_body depth n p name m q a =
      let l : Loop = record { name = item_name n name; item = Some p } in
      record {
        place = record {
          region = m.place.region;
          props = m.place.props;
          later = m.place.later;
          loops = ((q, a), m.place.loops);
          around = one_deeper l n.loops depth m.place.around;
          vars = m.place.vars;
        };
        fits = record { globals = m.fits.globals; props = m.fits.props; classes = m.fits.classes; loops = (q.1, m.fits.loops); vars = m.fits.vars };
        reads = record { region = m.reads.region; props = m.reads.props; later = m.reads.later; loops = (declared p q.0, m.reads.loops) };
      }

  mentioned : (n : Space) (e : ExprTree) → InConstraint ps n → (spec.value first_one n e).faults ≡ None → OptionIs (λ (t : ExprTerm). is_random ps t ≡ (spec.value first_one n e).reads.random) (spec.value first_one n e).tree
  mentioned n e m f = told (spec.value first_one n e).tree (accepted_mentions ps n e m f)
    where
      told : (t : Option ExprTerm) → MatchOption t ⊤ (λ t. Mentions ps t (spec.value first_one n e).reads) → OptionIs (λ (t : ExprTerm). is_random ps t ≡ (spec.value first_one n e).reads.random) t
      told None h = tt
      told (Some t) h = h.random

  -- ---- lists

  abbrev PartsValue : ℕ → Elabs (Option Fault) → Type 0
  PartsValue depth x = x.faults ≡ None → OptionIs (GoodList ps vs depth) x.trees

  abbrev RangeValue : ℕ → RangeElab (Option Fault) → Type 0
  RangeValue depth x = x.faults ≡ None → OptionIs (RangeStands ps vs depth) x.tree

  abbrev RangesValue : ℕ → RangesElab (Option Fault) → Type 0
  RangesValue depth x = x.faults ≡ None → OptionIs (GoodRanges ps vs depth) x.trees

  abbrev BoundValue : ℕ → BoundElab (Option Fault) → Type 0
  BoundValue depth x = x.faults ≡ None → OptionIs (BoundStands ps vs depth) x.tree

  -- ---- the whole

  value_of : (depth : ℕ) (n : Space) (e : ExprTree) → Standing depth (spec.elab first_one n e) → Value depth (spec.plain first_one (spec.elab first_one n e))
  value_of depth n e h = plain_value depth (spec.elab first_one n e) h

  mutual
    stand_at : (depth : ℕ) (n : Space) (m : Here depth n) (e : ExprTree) → LiteralsFit e → depth + expr_height e ≤ LOOP_LIMIT → Standing depth (spec.elab first_one n e)
    stand_at depth n m (raw.number at v w s) l b = made depth _ tt refl (λ f. (tt, tt))
    stand_at depth n m (raw.path at s names call) l b =
        path_standing depth at (spec.last_name at names) call (look n s names).unmade (look n s names).meaning (below depth LOOP_LIMIT b) (found Known Variable depth n m.place s names)
    stand_at depth n m (raw.bit_select at x i call) l b =
        let a : Elab (Option Fault) = spec.elab first_one n x in
        let d : Elab (Option Fault) = spec.plain first_one (spec.elab first_one n i) in
        parens_standing depth call (spec.index_part first_one at a d)
        (index_standing depth at a d (stand_at depth n m x l.0 (left_fits depth (expr_height x) (expr_height i) LOOP_LIMIT b))
        (value_of depth n i (stand_at depth n m i l.1 (right_fits depth (expr_height x) (expr_height i) LOOP_LIMIT b))) (mentioned n i m.reads))
    stand_at depth n m (raw.part_select at x g t call) l b =
        let a : Elab (Option Fault) = spec.plain first_one (spec.elab first_one n x) in
        let d : Elab (Option Fault) = spec.plain first_one (spec.elab first_one n g) in
        let e : Elab (Option Fault) = spec.plain first_one (spec.elab first_one n t) in
        let s : Standing depth (spec.elab first_one n x) = stand_at depth n m x l.0 (first_third depth (expr_height x) (expr_height g) (expr_height t) LOOP_LIMIT b) in
        let r : Standing depth a = plain_standing depth (spec.elab first_one n x) s in
        parens_standing depth call (spec.slice_part first_one at a d e)
        (slice_standing depth at a d e r.rooted (value_of depth n x s)
        (value_of depth n g (stand_at depth n m g l.1 (second_third depth (expr_height x) (expr_height g) (expr_height t) LOOP_LIMIT b)))
        (value_of depth n t (stand_at depth n m t l.2 (last_third depth (expr_height x) (expr_height g) (expr_height t) LOOP_LIMIT b))) (value_ready n m.fits x l.0))
    stand_at depth n m (raw.unary at op x) l b =
        let a : Elab (Option Fault) = spec.plain first_one (spec.elab first_one n x) in
        made depth (spec.unary_part first_one at op a) tt refl
        (λ f. typed_good ps vs depth (shapes.unary_shape op a.shape) (option_map (term.unary op) a.tree)
        (one_good ps vs depth (term.unary op) a.tree a.form.low (λ t h w s. (h, refl)) (value_of depth n x (stand_at depth n m x l (one_fits depth (expr_height x) LOOP_LIMIT b)) f)))
    stand_at depth n m (raw.binary at op x y) l b =
        let a : Elab (Option Fault) = spec.plain first_one (spec.elab first_one n x) in
        let d : Elab (Option Fault) = spec.plain first_one (spec.elab first_one n y) in
        made depth (spec.binary_part first_one at op a d) tt refl
        (λ f. typed_good ps vs depth (shapes.binary_shape op a.shape d.shape) (both_known (term.binary op) a.tree d.tree)
        (two_good ps vs depth (term.binary op) a.tree d.tree a.form.low d.form.low (λ t u h k w s. ((h, k), refl))
        (value_of depth n x (stand_at depth n m x l.0 (left_fits depth (expr_height x) (expr_height y) LOOP_LIMIT b)) (none_left a.faults d.faults f))
        (value_of depth n y (stand_at depth n m y l.1 (right_fits depth (expr_height x) (expr_height y) LOOP_LIMIT b)) (none_right a.faults d.faults f))))
    stand_at depth n m (raw.choice at t x y) l b =
        let o : Elab (Option Fault) = spec.plain first_one (spec.elab first_one n t) in
        let a : Elab (Option Fault) = spec.plain first_one (spec.elab first_one n x) in
        let d : Elab (Option Fault) = spec.plain first_one (spec.elab first_one n y) in
        made depth (spec.choice_part first_one at o a d) tt refl
        (λ f. let rest : earlier a.faults d.faults ≡ None = none_right o.faults (earlier a.faults d.faults) f in
        typed_good ps vs depth (shapes.choice_shape a.shape d.shape) (all_known term.choice o.tree a.tree d.tree)
        (three_good ps vs depth term.choice o.tree a.tree d.tree o.form.low a.form.low d.form.low (λ t u v h j k w s. ((h, j, k), refl))
        (value_of depth n t (stand_at depth n m t l.0 (first_third depth (expr_height t) (expr_height x) (expr_height y) LOOP_LIMIT b)) (none_left o.faults (earlier a.faults d.faults) f))
        (value_of depth n x (stand_at depth n m x l.1 (second_third depth (expr_height t) (expr_height x) (expr_height y) LOOP_LIMIT b)) (none_left a.faults d.faults rest))
        (value_of depth n y (stand_at depth n m y l.2 (last_third depth (expr_height t) (expr_height x) (expr_height y) LOOP_LIMIT b)) (none_right a.faults d.faults rest))))
    stand_at depth n m (raw.inside at x rs) l b =
        let a : Elab (Option Fault) = spec.plain first_one (spec.elab first_one n x) in
        let r : RangesElab (Option Fault) = spec.ranges first_one n (spec.no_ranges first_one) rs in
        made depth (spec.inside_part first_one at a r) tt refl
        (λ f. typed_good ps vs depth (Some shapes.bit) (shapes.inside_node a.tree r.trees)
        (inside_good ps vs depth a.tree r.trees a.form.low (value_of depth n x (stand_at depth n m x l.0 (left_fits depth (expr_height x) (ranges_height rs) LOOP_LIMIT b)) (none_left a.faults r.faults f))
        (ranges_stand depth n m rs (spec.no_ranges first_one) (λ g. tt) l.1 (right_fits depth (expr_height x) (ranges_height rs) LOOP_LIMIT b) (none_right a.faults r.faults f))))
    stand_at depth n m (raw.join at xs) l b =
        let p : Elabs (Option Fault) = spec.parts first_one n (spec.no_parts first_one) xs in
        made depth (spec.join_part first_one at p) tt refl
        (λ f. typed_good ps vs depth (option_map shapes.bits_wide p.total) (shapes.join_node p.trees)
        (joined_good ps vs depth p.trees (parts_stand depth n m xs (spec.no_parts first_one) (λ g. tt) l.1 (one_fits depth (exprs_height xs) LOOP_LIMIT b) (none_left _ _ f))))
    stand_at depth n m (raw.copies at x xs) l b =
        let a : Elab (Option Fault) = spec.plain first_one (spec.elab first_one n x) in
        let p : Elabs (Option Fault) = spec.parts first_one n (spec.no_parts first_one) xs in
        made depth (spec.copies_part first_one at a p) tt refl
        (λ f. typed_good ps vs depth (spec.copies_part first_one at a p).shape (shapes.copies_node a.tree p.trees)
        (copied_good ps vs depth a.tree p.trees a.form.low (value_of depth n x (stand_at depth n m x l.0 (left_fits depth (expr_height x) (exprs_height xs) LOOP_LIMIT b)) (none_left _ _ f))
        (parts_stand depth n m xs (spec.no_parts first_one) (λ g. tt) l.2 (right_fits depth (expr_height x) (exprs_height xs) LOOP_LIMIT b) (none_left _ _ (none_right _ _ f)))))
    stand_at depth n m (raw.sign at z x) l b =
        let a : Elab (Option Fault) = spec.plain first_one (spec.elab first_one n x) in
        made depth (spec.sign_part first_one at z a) tt refl
        (λ f. typed_good ps vs depth (shapes.sign_shape z a.shape) (option_map (term.sign z) a.tree)
        (one_good ps vs depth (term.sign z) a.tree a.form.low (λ t h w s. (h, refl)) (value_of depth n x (stand_at depth n m x l (one_fits depth (expr_height x) LOOP_LIMIT b)) f)))
    stand_at depth n m (raw.paren at x) l b =
        let a : Standing depth (spec.sole first_one (spec.elab first_one n x)) =
        sole_standing depth (spec.elab first_one n x) (stand_at depth n m x l (one_fits depth (expr_height x) LOOP_LIMIT b)) in
        record { rooted = a.rooted; reach = a.reach; single = a.single; row = a.row; whole = a.whole }
    stand_at depth n m (raw.reduce at x g item body) l b =
        let a : Elab (Option Fault) = spec.elab first_one n x in
        let s : Standing depth (spec.sole first_one a) = sole_standing depth a (stand_at depth n m x l.0 (left_fits depth (expr_height x) (expr_height body) LOOP_LIMIT b)) in
        let i : Space = body_space n a (argument_name item) in
        let e : array_property (without_object a.form.root) ≡ array_property a.form.root = property_without a.form.root in
        made depth (spec.reduce_part first_one at g (spec.sole first_one a) (spec.plain first_one (spec.elab first_one i body))) tt refl
        (reduce_value depth at g (spec.sole first_one a) (spec.plain first_one (spec.elab first_one i body)) (room depth (expr_height x) (expr_height body) LOOP_LIMIT b) s
        (λ q r. value_of (depth + 1) i body
        (stand_at (depth + 1) i (in_body depth n (array_property a.form.root) (argument_name item) m (known_at (array_property (without_object a.form.root)) (array_property a.form.root) e q) (array_at (array_property (without_object a.form.root)) (array_property a.form.root) e r))
        body l.1 (deeper depth (expr_height x) (expr_height body) LOOP_LIMIT b))))

    parts_stand : (depth : ℕ) (n : Space) (m : Here depth n) (xs : ExprTrees) (start : Elabs (Option Fault)) → PartsValue depth start → AllFit xs → depth + exprs_height xs ≤ LOOP_LIMIT
        → PartsValue depth (spec.parts first_one n start xs)
    parts_stand depth n m raw.no_exprs start k l b = k
    parts_stand depth n m (raw.more_exprs x xs) start k l b =
        let v : Elab (Option Fault) = spec.plain first_one (spec.elab first_one n x) in
        parts_stand depth n m xs (spec.and_part first_one start v)
        (λ f. list_more ps vs depth start.trees v.tree v.form.low (k (none_left start.faults v.faults f))
        (value_of depth n x (stand_at depth n m x l.0 (less depth (expr_height x) (exprs_height xs) LOOP_LIMIT b)) (none_right start.faults v.faults f))) l.1 (less_right depth (expr_height x) (exprs_height xs) LOOP_LIMIT b)

    ranges_stand : (depth : ℕ) (n : Space) (m : Here depth n) (rs : RangeTrees) (start : RangesElab (Option Fault)) → RangesValue depth start → RangesFit rs → depth + ranges_height rs ≤ LOOP_LIMIT
        → RangesValue depth (spec.ranges first_one n start rs)
    ranges_stand depth n m raw.no_ranges start k l b = k
    ranges_stand depth n m (raw.more_ranges r rs) start k l b =
        let v : RangeElab (Option Fault) = spec.range first_one n r in
        ranges_stand depth n m rs (spec.and_range first_one start v)
        (λ f. ranges_more ps vs depth start.trees v.tree (k (none_left start.faults v.faults f))
        (range_stands depth n m r l.0 (less depth (range_height r) (ranges_height rs) LOOP_LIMIT b) (none_right start.faults v.faults f))) l.1 (less_right depth (range_height r) (ranges_height rs) LOOP_LIMIT b)

    range_stands : (depth : ℕ) (n : Space) (m : Here depth n) (r : RangeTree) → RangeFits r → depth + range_height r ≤ LOOP_LIMIT → RangeValue depth (spec.range first_one n r)
    range_stands depth n m (raw.one x) l b f = one_range ps vs depth (spec.elab first_one n x).tree (sole_member depth (spec.elab first_one n x) (stand_at depth n m x l b) f)
    range_stands depth n m (raw.span t g) l b f =
        let a : BoundElab (Option Fault) = spec.bound first_one n t in
        let d : BoundElab (Option Fault) = spec.bound first_one n g in
        span_good ps vs depth a.tree d.tree (bound_stands depth n m t l.0 (less depth (bound_height t) (bound_height g) LOOP_LIMIT b) (none_left a.faults d.faults f))
        (bound_stands depth n m g l.1 (less_right depth (bound_height t) (bound_height g) LOOP_LIMIT b) (none_right a.faults d.faults f))

    bound_stands : (depth : ℕ) (n : Space) (m : Here depth n) (t : BoundTree) → BoundFits t → depth + bound_height t ≤ LOOP_LIMIT → BoundValue depth (spec.bound first_one n t)
    bound_stands depth n m (raw.value x) l b f =
        one_bound ps vs depth (spec.elab first_one n x).tree (spec.elab first_one n x).form.low (value_of depth n x (stand_at depth n m x l b) f)
    bound_stands depth n m raw.dollar l b f = tt

  -- ---- what is asked of a place

  each_of : {A : Type 0} (P Q R : A → Type 0) (xs : List A) → ((x : A) → P x → Q x → R x) → Each P xs → Each Q xs → Each R xs
  each_of P Q R [] f h k = tt
  each_of P Q R (x ∷ xs) f h k = (f x h.0 k.0, each_of P Q R xs f h.1 k.1)

  each_as : {A : Type 0} (P R : A → Type 0) (xs : List A) → ((x : A) → P x → R x) → Each P xs → Each R xs
  each_as P R [] f h = tt
  each_as P R (x ∷ xs) f h = (f x h.0, each_as P R xs f h.1)

  item_is : (p : Option Property) → ItemDesigned ps p → ItemFits p → ItemIs Known Variable 0 p
  item_is None h k = tt
  item_is (Some p) h k = ((h.0, k), h.1)

  item_declared : (p : Option Property) → ItemDesigned ps p → ItemDeclared ps p
  item_declared None h = tt
  item_declared (Some p) h = declared p h.0

  var_is : (v : ℕ) (s : VarStand) → VariableDesigned vs v s → VarIs Known Variable 0 v s
  var_is v (stand.OfNumber kind) h = h
  var_is v (stand.OfObject c) h = tt

  vars_are : (v : ℕ) (xs : List VarName) → VariablesDesigned vs v xs → VarsAre Known Variable 0 v xs
  vars_are v [] h = tt
  vars_are v (x ∷ xs) h = (var_is v x.stands h.0, vars_are (v + 1) xs h.1)

  place_at : (depth : ℕ) (n : Space) → InDesign ps vs depth n → NamesFit n → Here depth n
  place_at depth n m k = record {
    place = record {
      region = m.region;
      props = each_of (λ (p : PropName). IsDesigned ps p.property) (λ (p : PropName). PropertyFits p.property) (λ (p : PropName). Known p.property) n.props (λ p a b. (a, b)) m.props k.props;
      later = m.later;
      loops = each_of (λ (l : Loop). ItemDesigned ps l.item) (λ (l : Loop). ItemFits l.item) (λ (l : Loop). ItemIs Known Variable depth l.item) n.loops (λ l a b. item_is l.item a b) m.loops k.loops;
      around = m.around;
      vars = λ e. vars_are 0 n.vars (m.vars e);
    };
    fits = k;
    reads = record {
      region = m.region;
      props = each_as (λ (p : PropName). IsDesigned ps p.property) (λ (p : PropName). IsDeclared ps p.property) n.props (λ p a. declared p.property a) m.props;
      later = m.later;
      loops = each_as (λ (l : Loop). ItemDesigned ps l.item) (λ (l : Loop). ItemDeclared ps l.item) n.loops (λ l a. item_declared l.item a) m.loops;
    };
  }

  as_match : (depth : ℕ) (t : Option ExprTerm) (low : ℤ) → Trees depth low t → MatchOption t ⊤ (λ t. Stands ps vs depth t)
  as_match depth None low h = tt
  as_match depth (Some t) low h = h.0

pub accepted_stands : AcceptedStands
accepted_stands ps vs depth n e m k l b f =
    as_match ps vs depth (spec.value first_one n e).tree (spec.elab first_one n e).form.low (value_of ps vs depth n e (stand_at ps vs depth n (place_at ps vs depth n m k) e l b) f)
