-- An expression of a statement in which nothing is refused uses objects that were made.
use Rattle.std.proofs.Common.{◌≡◌, ℕ, Bool, true, false, not, ◌&&◌, ◌||◌, if◌then◌else◌, List, [], ◌∷◌, ◌++◌, Option, None, Some, option_map, refl, sym, subst, true≢false}
use Rattle.std.specs.Prelude.{⊤, nat_eq}
use Rattle.std.specs.List.{list_any}
use Rattle.svr_operator.specs.declared.Fold.{Fold}
use Rattle.svr_tree.specs.declared.Scope.{Scope}
use Rattle.svr_tree.specs.declared.Scope.TheVariants as scope
use Rattle.svr_tree.specs.ExprTree as raw
use Rattle.svr_tree.specs.ExprTree.{ExprTree, ExprTrees, RangeTree, RangeTrees, BoundTree, argument_name}
use Rattle.svr_typed.specs.ExprTerm as term
use Rattle.svr_typed.specs.ExprTerm.{ExprTerm, typed, NodeTerm, RangeTerm, BoundTerm, exprs_of, ranges_of}
use Rattle.svr_refusal.specs.declared.Refusal.TheVariants as refusal
use Rattle.svr_design.specs.Statements.{Made, Uses, NodeUses, AllUse, RangesUse, RangeUses, BoundUses}
use Rattle.svr_elab_fault.specs.declared.Fault.{Fault}
use Rattle.svr_elab_fault.specs.Refusals.{first_one}
use Rattle.svr_elab_names.specs.declared.Vector.{Vector}
use Rattle.svr_elab_names.specs.declared.Property.{Property}
use Rattle.svr_elab_names.specs.declared.Global.{Global}
use Rattle.svr_elab_names.specs.declared.Global.TheVariants as global
use Rattle.svr_elab_names.specs.declared.VarStand.{VarStand}
use Rattle.svr_elab_names.specs.declared.VarStand.TheVariants as var_stand
use Rattle.svr_elab_names.specs.declared.Meaning.{Meaning}
use Rattle.svr_elab_names.specs.declared.Meaning.TheVariants.{Wrong, LoopOf, ItemOf, MemberOf, PropertyOf, SizeOf, FoldOf, VariableOf, ObjectOf}
use Rattle.svr_elab_names.specs.Names.{Space, VarName, Loop, look, find_from, member_meaning, stand_meaning, loop_named, loop_meaning, method, fold_named, fold_meaning, behind, and_more as and_names, is_array, is_same, size_word, or_else, only_if, first_meaning, as_property, as_variable, as_member, property_named, global_named, plain_property, unknown_property, followed, object_path, property_of_object, class_props, is_statement, is_in_line}
use Rattle.svr_elab_part.specs.declared.part.Shape.{Shape}
use Rattle.svr_elab_part.specs.declared.part.Root.{Root}
use Rattle.svr_elab_part.specs.declared.part.Root.TheVariants as root
use Rattle.svr_elab_part.specs.Elab as spec
use Rattle.svr_elab_part.specs.Elab.{Elab, Elabs, RangeElab, RangesElab, BoundElab, body_space}
use Rattle.svr_elab_part.specs.Shapes as shapes
use Rattle.svr_elab_part.specs.Shapes.{both_known, all_known, and_more, typed_as, kind_shape}
use Rattle.svr_elab_part.specs.Forms.{is_row, is_whole, element_extent, without_object, meaning_form}
use Rattle.svr_elab_part.proofs.Valued.{none_left, none_right, not_when}
use Rattle.svr_elab_part.proofs.Looked.{OptionIs}

-- `ms` are the objects that were made
module _ (ms : List ℕ) where
  abbrev pub ObjectUsed : Option ℕ → Type 0
  ObjectUsed None = ⊤
  ObjectUsed (Some o) = Made ms o

  abbrev MeaningUsed : Meaning → Type 0
  MeaningUsed (Wrong w) = ⊤
  MeaningUsed (LoopOf k) = ⊤
  MeaningUsed (ItemOf k p) = ⊤
  MeaningUsed (MemberOf v kind) = ⊤
  MeaningUsed (PropertyOf p o) = ObjectUsed o
  MeaningUsed (SizeOf p o) = ObjectUsed o
  MeaningUsed (FoldOf p o f array) = ObjectUsed o
  MeaningUsed (VariableOf v kind) = ⊤
  MeaningUsed (ObjectOf o c) = ⊤

  abbrev pub RootUsed : Root → Type 0
  RootUsed root.Nothing = ⊤
  RootUsed root.Refused = ⊤
  RootUsed root.Member = ⊤
  RootUsed (root.Variable v) = ⊤
  RootUsed (root.Field p o) = ObjectUsed o
  RootUsed (root.Object o c) = ⊤

  one_of_two : {A : Type 0} (P : A → Type 0) (b : Bool) (x y : A) → P x → P y → P (if b then x else y)
  one_of_two P true x y h k = h
  one_of_two P false x y h k = k

  or_used : (x y : Option Meaning) → OptionIs MeaningUsed x → OptionIs MeaningUsed y → OptionIs MeaningUsed (or_else x y)
  or_used None y h k = k
  or_used (Some x) y h k = h

  if_used : (b : Bool) (x : Option Meaning) → OptionIs MeaningUsed x → OptionIs MeaningUsed (only_if b x)
  if_used true x h = h
  if_used false x h = tt

  fold_used : (p : Property) (o : Option ℕ) (array name : ℕ) (f : Option Fold) → ObjectUsed o → MeaningUsed (fold_meaning p o array name f)
  fold_used p o array name None h = tt
  fold_used p o array name (Some f) h = h

  method_used : (text : ℕ → List ℕ) (p : Property) (o : Option ℕ) (array name : ℕ) → ObjectUsed o → MeaningUsed (method text p o array name)
  method_used text p o array name h =
      one_of_two MeaningUsed (not (is_array p.dims)) (Wrong name) (if is_same (text name) size_word then SizeOf p o else fold_meaning p o array name (fold_named (text name))) tt
      (one_of_two MeaningUsed (is_same (text name) size_word) (SizeOf p o) (fold_meaning p o array name (fold_named (text name))) h (fold_used p o array name (fold_named (text name)) h))

  behind_used : (text : ℕ → List ℕ) (m : Meaning) (last name : ℕ) → MeaningUsed m → MeaningUsed (behind text m last name)
  behind_used text (Wrong w) last name h = tt
  behind_used text (LoopOf k) last name h = tt
  behind_used text (ItemOf k p) last name h = tt
  behind_used text (MemberOf v k) last name h = tt
  behind_used text (PropertyOf p o) last name h = method_used text p o last name h
  behind_used text (SizeOf p o) last name h = tt
  behind_used text (FoldOf p o f array) last name h = tt
  behind_used text (VariableOf v k) last name h = tt
  behind_used text (ObjectOf o c) last name h = tt

  more_used : (text : ℕ → List ℕ) (m : Meaning) (last : ℕ) (names : List ℕ) → MeaningUsed m → MeaningUsed (and_names text m last names)
  more_used text m last [] h = h
  more_used text m last (name ∷ names) h = more_used text (behind text m last name) name names (behind_used text m last name h)

  stand_used : (number : ℕ) (s : VarStand) → MeaningUsed (stand_meaning number s)
  stand_used number (var_stand.OfNumber kind) = tt
  stand_used number (var_stand.OfObject c) = tt

  variable_used : (f : Option (ℕ × VarName)) → OptionIs MeaningUsed (option_map (λ f. stand_meaning f.0 f.1.stands) f)
  variable_used None = tt
  variable_used (Some f) = stand_used f.0 f.1.stands

  loop_meaning_used : (level : ℕ) (p : Option Property) → MeaningUsed (loop_meaning level p)
  loop_meaning_used level None = tt
  loop_meaning_used level (Some p) = tt

  loop_used : (f : Option (ℕ × Loop)) → OptionIs MeaningUsed (option_map (λ f. loop_meaning f.0 f.1.item) f)
  loop_used None = tt
  loop_used (Some f) = loop_meaning_used f.0 f.1.item

  member_used : (g : Option Global) → OptionIs MeaningUsed (member_meaning g)
  member_used None = tt
  member_used (Some (global.OfType kind)) = tt
  member_used (Some (global.OfClass c)) = tt
  member_used (Some (global.OfMember v kind)) = tt

  plain_used : (p : Option Property) → OptionIs MeaningUsed (option_map plain_property p)
  plain_used None = tt
  plain_used (Some p) = tt

  -- ---- what is found at a path

  property_as : (n : Space) (q : List ℕ) → OptionIs MeaningUsed (as_property n q)
  property_as n q =
      or_used (option_map plain_property (property_named n.props q)) (only_if (list_any (is_same q) n.later) (Some (plain_property unknown_property)))
      (plain_used (property_named n.props q)) (if_used (list_any (is_same q) n.later) (Some (plain_property unknown_property)) tt)

  variable_as : (n : Space) (q : List ℕ) → OptionIs MeaningUsed (as_variable n q)
  variable_as n q = variable_used (find_from (λ v. v.name) q 0 n.vars)

  first_used : (n : Space) (s : Scope) (q : List ℕ) → OptionIs MeaningUsed (first_meaning n s q)
  first_used n scope.This q = property_as n q
  first_used n scope.Local q =
      or_used (only_if (is_statement n.region || is_in_line n.region) (as_variable n q)) (as_member n q) (if_used (is_statement n.region || is_in_line n.region) (as_variable n q) (variable_as n q)) (member_used (global_named n.globals q))
  first_used n scope.Plain q =
      let after : Option Meaning = only_if (is_in_line n.region) (as_variable n q) in
      let before : Option Meaning = only_if (is_statement n.region) (as_variable n q) in
      or_used (loop_named n.loops q) (or_else (as_property n q) (or_else before (or_else (as_member n q) after))) (loop_used (find_from (λ l. l.name) q 0 n.loops))
      (or_used (as_property n q) (or_else before (or_else (as_member n q) after)) (property_as n q)
      (or_used before (or_else (as_member n q) after) (if_used (is_statement n.region) (as_variable n q) (variable_as n q))
      (or_used (as_member n q) after (member_used (global_named n.globals q)) (if_used (is_in_line n.region) (as_variable n q) (variable_as n q)))))

  -- each object that has been made before is one of these
  abbrev pub AreThere : Space → Type 0
  AreThere n = (o : ℕ) → Made n.made o → Made ms o

  some_of_object : (o : ℕ) (p : Option Property) (name : ℕ) → Made ms o → MeaningUsed (property_of_object o p name)
  some_of_object o None name h = tt
  some_of_object o (Some p) name h = h

  was_made : (b made : Bool) (first : ℕ) → b ≡ true → only_if (b && not made) (Some first) ≡ None → made ≡ true
  was_made true true first h e = refl
  was_made true false first h e = absurd (let f : Some first ≡ None = e in cc)
  was_made false made first h e = absurd (true≢false (sym h))

  object_used : (n : Space) → AreThere n → (first o c : ℕ) (rest : List ℕ) → (object_path n first o c rest).unmade ≡ None → MeaningUsed (object_path n first o c rest).meaning
  object_used n there first o c [] e = one_of_two MeaningUsed (is_statement n.region) (ObjectOf o c) (Wrong first) tt tt
  object_used n there first o c (name ∷ more) e =
      let p : Option Property = property_named (class_props n.classes c) (n.text name) in
      by_region (is_statement n.region) refl (and_names n.text (property_of_object o p name) name more) (Wrong first)
      (λ r. more_used n.text (property_of_object o p name) name more (some_of_object o p name (there o (was_made (is_statement n.region) (list_any (nat_eq o) n.made) first r e)))) tt
    where
      by_region : (b : Bool) → is_statement n.region ≡ b → (x y : Meaning) → (is_statement n.region ≡ true → MeaningUsed x) → MeaningUsed y → MeaningUsed (if b then x else y)
      by_region true r x y h k = h r
      by_region false r x y h k = k

  followed_used : (n : Space) → AreThere n → (first : ℕ) (f : Option Meaning) (rest : List ℕ) → OptionIs MeaningUsed f → (followed n first f rest).unmade ≡ None → MeaningUsed (followed n first f rest).meaning
  followed_used n there first None rest h e = tt
  followed_used n there first (Some (Wrong w)) rest h e = more_used n.text (Wrong w) first rest h
  followed_used n there first (Some (LoopOf k)) rest h e = more_used n.text (LoopOf k) first rest h
  followed_used n there first (Some (ItemOf k p)) rest h e = more_used n.text (ItemOf k p) first rest h
  followed_used n there first (Some (MemberOf v k)) rest h e = more_used n.text (MemberOf v k) first rest h
  followed_used n there first (Some (PropertyOf p o)) rest h e = more_used n.text (PropertyOf p o) first rest h
  followed_used n there first (Some (SizeOf p o)) rest h e = more_used n.text (SizeOf p o) first rest h
  followed_used n there first (Some (FoldOf p o f array)) rest h e = more_used n.text (FoldOf p o f array) first rest h
  followed_used n there first (Some (VariableOf v k)) rest h e = more_used n.text (VariableOf v k) first rest h
  followed_used n there first (Some (ObjectOf o c)) rest h e = object_used n there first o c rest e

  look_used : (n : Space) → AreThere n → (s : Scope) (path : List ℕ) → (look n s path).unmade ≡ None → MeaningUsed (look n s path).meaning
  look_used n there s [] e = tt
  look_used n there s (first ∷ rest) e = followed_used n there first (first_meaning n s (n.text first)) rest (first_used n s (n.text first)) e

  -- ---- trees

  abbrev TreeUses : Option ExprTerm → Type 0
  TreeUses t = OptionIs (Uses ms) t

  abbrev NodesUse : Option NodeTerm → Type 0
  NodesUse n = OptionIs (NodeUses ms) n

  typed_used : (s : Option Shape) (n : Option NodeTerm) → NodesUse n → TreeUses (typed_as s n)
  typed_used None n h = tt
  typed_used (Some s) None h = tt
  typed_used (Some s) (Some n) h = h

  one_used : (f : ExprTerm → NodeTerm) (t : Option ExprTerm) → ((t : ExprTerm) → Uses ms t → NodeUses ms (f t)) → TreeUses t → NodesUse (option_map f t)
  one_used f None e h = tt
  one_used f (Some t) e h = e t h

  two_used : (f : ExprTerm → ExprTerm → NodeTerm) (t u : Option ExprTerm) → ((t u : ExprTerm) → Uses ms t → Uses ms u → NodeUses ms (f t u)) → TreeUses t → TreeUses u → NodesUse (both_known f t u)
  two_used f None u e h k = tt
  two_used f (Some t) None e h k = tt
  two_used f (Some t) (Some u) e h k = e t u h k

  three_used : (f : ExprTerm → ExprTerm → ExprTerm → NodeTerm) (t u v : Option ExprTerm) → ((t u v : ExprTerm) → Uses ms t → Uses ms u → Uses ms v → NodeUses ms (f t u v)) → TreeUses t → TreeUses u → TreeUses v → NodesUse (all_known f t u v)
  three_used f None u v e h k l = tt
  three_used f (Some t) None v e h k l = tt
  three_used f (Some t) (Some u) None e h k l = tt
  three_used f (Some t) (Some u) (Some v) e h k l = e t u v h k l

  wrapped_used : (o : Option ℕ) (s : Shape) (n : NodeTerm) → ObjectUsed o → NodeUses ms n → Uses ms (shapes.wrapped o s n)
  wrapped_used None s n h k = k
  wrapped_used (Some o) s n h k = (h, k)

  property_used : (o : Option ℕ) (kind : Option Vector) (n : Option NodeTerm) → ObjectUsed o → NodesUse n → TreeUses (shapes.property_tree o kind n)
  property_used o None n h k = tt
  property_used o (Some v) None h k = tt
  property_used o (Some v) (Some n) h k = wrapped_used o (kind_shape v) n h k

  size_used : (p : Property) (o m : Option ℕ) → ObjectUsed o → TreeUses (option_map (λ m. shapes.wrapped o shapes.whole_number (term.size p.number m)) m)
  size_used p o None h = tt
  size_used p o (Some m) h = wrapped_used o shapes.whole_number (term.size p.number m) h tt

  reduce_used : (p : Property) (o : Option ℕ) (f : Fold) (t : Option ExprTerm) → NodesUse (shapes.reduce_node p o f t)
  reduce_used p None f None = tt
  reduce_used p None f (Some t) = tt
  reduce_used p (Some o) f t = tt

  member_tree_used : (v : Option ℕ) (kind : Option Vector) → TreeUses (shapes.member_tree v kind)
  member_tree_used v None = tt
  member_tree_used None (Some k) = tt
  member_tree_used (Some v) (Some k) = tt

  pub variable_tree_used : (v : ℕ) (kind : Option Vector) → TreeUses (shapes.variable_tree v kind)
  variable_tree_used v None = tt
  variable_tree_used v (Some k) = tt

  meaning_tree_used : (m : Meaning) → MeaningUsed m → TreeUses (shapes.meaning_tree m)
  meaning_tree_used (Wrong w) h = tt
  meaning_tree_used (LoopOf k) h = tt
  meaning_tree_used (ItemOf k p) h = property_used None p.kind (Some (term.element p.number (shapes.loop_tree k))) tt tt
  meaning_tree_used (MemberOf v kind) h = member_tree_used v kind
  meaning_tree_used (PropertyOf p o) h = property_used o p.kind (Some (term.prop p.number)) h tt
  meaning_tree_used (SizeOf p o) h = size_used p o (shapes.inner_of p.dims) h
  meaning_tree_used (FoldOf p o f array) h = property_used None p.kind (shapes.reduce_node p o f (shapes.item_tree 0 p)) tt (reduce_used p o f (shapes.item_tree 0 p))
  meaning_tree_used (VariableOf v kind) h = variable_tree_used v kind
  meaning_tree_used (ObjectOf o c) h = tt

  -- ---- expressions

  pub record Used (x : Elab (Option Fault)) : Type 0 where
    pub root : x.faults ≡ None → RootUsed x.form.root
    pub tree : x.faults ≡ None → TreeUses x.tree

  no_unmade : (u : Option ℕ) → spec.unmade_faults first_one u ≡ None → u ≡ None
  no_unmade None e = refl
  no_unmade (Some name) e = absurd (true≢false (not_when true name refusal.NullObject e))

  root_of_meaning : (name : ℕ) (m : Meaning) → MeaningUsed m → RootUsed (meaning_form name m).root
  root_of_meaning name (Wrong w) h = tt
  root_of_meaning name (LoopOf k) h = tt
  root_of_meaning name (ItemOf k p) h = tt
  root_of_meaning name (MemberOf v kind) h = tt
  root_of_meaning name (PropertyOf p o) h = h
  root_of_meaning name (SizeOf p o) h = tt
  root_of_meaning name (FoldOf p o f array) h = tt
  root_of_meaning name (VariableOf v kind) h = tt
  root_of_meaning name (ObjectOf o c) h = tt

  path_used : (n : Space) → AreThere n → (at name : ℕ) (call : Bool) (s : Scope) (names : List ℕ) → Used (spec.path_part first_one at name call (look n s names))
  path_used n there at name call s names = record {
    root = λ f. root_of_meaning name (look n s names).meaning (look_used n there s names (no_unmade (look n s names).unmade (none_left _ _ f)));
    tree = λ f. meaning_tree_used (look n s names).meaning (look_used n there s names (no_unmade (look n s names).unmade (none_left _ _ f)));
  }

  root_without : (r : Root) → RootUsed r → RootUsed (without_object r)
  root_without root.Nothing h = tt
  root_without root.Refused h = tt
  root_without root.Member h = tt
  root_without (root.Variable v) h = tt
  root_without (root.Field p o) h = h
  root_without (root.Object o c) h = tt

  pub plain_used_too : (x : Elab (Option Fault)) → Used x → Used (spec.plain first_one x)
  plain_used_too x h = record { root = λ f. root_without x.form.root (h.root (none_left _ _ f)); tree = λ f. h.tree (none_left _ _ f) }

  sole_used : (x : Elab (Option Fault)) → Used x → Used (spec.sole first_one x)
  sole_used x h = record { root = λ f. root_without x.form.root (h.root (none_left _ _ f)); tree = λ f. h.tree (none_left _ _ f) }

  element_used : (r : Root) (i : Option ExprTerm) → RootUsed r → TreeUses i → TreeUses (shapes.element_tree r i)
  element_used root.Nothing i h k = tt
  element_used root.Refused i h k = tt
  element_used root.Member i h k = tt
  element_used (root.Variable v) i h k = tt
  element_used (root.Field p o) i h k = property_used o p.kind (shapes.element_node p i) h (one_used (term.element p.number) i (λ t u. u) k)
  element_used (root.Object o c) i h k = tt

  cell_node_used : (p : Property) (o : Option ℕ) (i j : Option ExprTerm) → TreeUses i → TreeUses j → NodesUse (shapes.cell_node p o i j)
  cell_node_used p o None j h k = tt
  cell_node_used p o (Some i) None h k = tt
  cell_node_used p None (Some i) (Some j) h k = cells (shapes.inner_of p.dims)
    where
      cells : (m : Option ℕ) → NodesUse (option_map (λ m. shapes.cell p.number m i j) m)
      cells None = tt
      cells (Some m) = tt
  cell_node_used p (Some o) (Some i) (Some j) h k = places (shapes.sizes_of p.dims)
    where
      wide : (t : ExprTerm) → Uses ms t → Uses ms (shapes.widened t)
      wide t u = (u, tt)

      places : (d : Option (ℕ × ℕ)) → NodesUse (option_map (λ d. shapes.placed p.number d i j) d)
      places None = tt
      places (Some d) = (((wide i h, tt), (wide j k, tt)), ((wide i h, tt), wide j k), tt)

  cell_used : (r : Root) (i j : Option ExprTerm) → RootUsed r → TreeUses i → TreeUses j → TreeUses (shapes.cell_tree r i j)
  cell_used root.Nothing i j h k l = tt
  cell_used root.Refused i j h k l = tt
  cell_used root.Member i j h k l = tt
  cell_used (root.Variable v) i j h k l = tt
  cell_used (root.Field p o) i j h k l = property_used o p.kind (shapes.cell_node p o i j) h (cell_node_used p o i j k l)
  cell_used (root.Object o c) i j h k l = tt

  array_node_used : (r : Root) (f : Fold) (t : Option ExprTerm) → NodesUse (shapes.array_node r f t)
  array_node_used root.Nothing f t = tt
  array_node_used root.Refused f t = tt
  array_node_used root.Member f t = tt
  array_node_used (root.Variable v) f t = tt
  array_node_used (root.Field p o) f t = reduce_used p o f t
  array_node_used (root.Object o c) f t = tt

  one_part : (b : Bool) (x y : Elab (Option Fault)) → Used x → Used y → Used (if b then x else y)
  one_part true x y h k = h
  one_part false x y h k = k

  index_used : (at : ℕ) (x i : Elab (Option Fault)) → Used x → Used i → Used (spec.index_part first_one at x i)
  index_used at x i h k =
      one_part (is_whole x.form.extent) (spec.array_part first_one at x i) (if is_row x.form.extent then spec.cell_part first_one at x i else spec.bit_part first_one at x i)
      (one_part (is_row (element_extent (shapes.array_property x.form.root).dims)) (spec.row_part first_one at x i) (spec.element_part first_one at x i)
      (record { root = λ f. h.root (none_left x.faults i.faults f); tree = λ f. k.tree (none_right x.faults i.faults f) })
      (record { root = λ f. h.root (none_left x.faults i.faults f); tree = λ f. element_used x.form.root i.tree (h.root (none_left x.faults i.faults f)) (k.tree (none_right x.faults i.faults f)) }))
      (one_part (is_row x.form.extent) (spec.cell_part first_one at x i) (spec.bit_part first_one at x i)
      (record { root = λ f. h.root (none_left x.faults i.faults f); tree = λ f. cell_used x.form.root x.tree i.tree (h.root (none_left x.faults i.faults f)) (h.tree (none_left x.faults i.faults f)) (k.tree (none_right x.faults i.faults f)) })
      (record {
        root = λ f. h.root (none_left x.faults _ f);
        tree = λ f. typed_used (Some shapes.bit) (shapes.bit_node x.tree i.tree x.form.low) (two_used (λ t u. term.bit_select t u x.form.low) x.tree i.tree (λ t u a b. (a, b)) (h.tree (none_left x.faults _ f)) (k.tree (none_left i.faults _ (none_right x.faults _ f))));
      }))

  slice_used : (at : ℕ) (x g l : Elab (Option Fault)) → Used x → Used g → Used l → Used (spec.slice_part first_one at x g l)
  slice_used at x g l h i j = record {
    root = λ f. h.root (none_left x.faults _ f);
    tree = λ f.
        typed_used (spec.slice_part first_one at x g l).shape (shapes.part_node x.tree g.tree l.tree x.form.low)
        (three_used (λ t u v. term.part_select t u v x.form.low) x.tree g.tree l.tree (λ t u v a b c. (a, b, c)) (h.tree (none_left x.faults _ f)) (i.tree (none_left g.faults _ (none_right x.faults _ f)))
        (j.tree (none_left l.faults _ (none_right g.faults _ (none_right x.faults _ f)))));
  }

  -- no path and no select of one
  other_used : (x : Elab (Option Fault)) → x.form.root ≡ root.Nothing → (x.faults ≡ None → TreeUses x.tree) → Used x
  other_used x r h = record { root = λ f. subst RootUsed (sym r) tt; tree = h }

  -- ---- lists

  abbrev ListUses : Option (List ExprTerm) → Type 0
  ListUses ts = OptionIs (λ ts. AllUse ms (exprs_of ts)) ts

  abbrev RangeListUses : Option (List RangeTerm) → Type 0
  RangeListUses rs = OptionIs (λ rs. RangesUse ms (ranges_of rs)) rs

  all_last : (ts : List ExprTerm) (t : ExprTerm) → AllUse ms (exprs_of ts) → Uses ms t → AllUse ms (exprs_of (ts ++ t ∷ []))
  all_last [] t h k = (k, tt)
  all_last (u ∷ ts) t h k = (h.0, all_last ts t h.1 k)

  ranges_last : (rs : List RangeTerm) (r : RangeTerm) → RangesUse ms (ranges_of rs) → RangeUses ms r → RangesUse ms (ranges_of (rs ++ r ∷ []))
  ranges_last [] r h k = (k, tt)
  ranges_last (u ∷ rs) r h k = (h.0, ranges_last rs r h.1 k)

  pub list_more : (ts : Option (List ExprTerm)) (t : Option ExprTerm) → ListUses ts → TreeUses t → ListUses (and_more ts t)
  list_more None t h k = tt
  list_more (Some ts) None h k = tt
  list_more (Some ts) (Some t) h k = all_last ts t h k

  range_more : (rs : Option (List RangeTerm)) (r : Option RangeTerm) → RangeListUses rs → OptionIs (RangeUses ms) r → RangeListUses (and_more rs r)
  range_more None r h k = tt
  range_more (Some rs) None h k = tt
  range_more (Some rs) (Some r) h k = ranges_last rs r h k

  inside_used : (t : Option ExprTerm) (rs : Option (List RangeTerm)) → TreeUses t → RangeListUses rs → NodesUse (shapes.inside_node t rs)
  inside_used None rs h k = tt
  inside_used (Some t) None h k = tt
  inside_used (Some t) (Some rs) h k = (h, k)

  join_used : (ts : Option (List ExprTerm)) → ListUses ts → NodesUse (shapes.join_node ts)
  join_used None h = tt
  join_used (Some ts) h = h

  copies_used : (t : Option ExprTerm) (ts : Option (List ExprTerm)) → TreeUses t → ListUses ts → NodesUse (shapes.copies_node t ts)
  copies_used None ts h k = tt
  copies_used (Some t) None h k = tt
  copies_used (Some t) (Some ts) h k = (h, k)

  range_one : (t : Option ExprTerm) → TreeUses t → OptionIs (RangeUses ms) (option_map term.one t)
  range_one None h = tt
  range_one (Some t) h = h

  bound_one : (t : Option ExprTerm) → TreeUses t → OptionIs (BoundUses ms) (option_map term.value t)
  bound_one None h = tt
  bound_one (Some t) h = h

  range_span : (l h : Option BoundTerm) → OptionIs (BoundUses ms) l → OptionIs (BoundUses ms) h → OptionIs (RangeUses ms) (both_known term.span l h)
  range_span None h a b = tt
  range_span (Some l) None a b = tt
  range_span (Some l) (Some h) a b = (a, b)

  -- ---- the whole

  value_of : (n : Space) (e : ExprTree) → Used (spec.elab first_one n e) → Used (spec.plain first_one (spec.elab first_one n e))
  value_of n e h = plain_used_too (spec.elab first_one n e) h

  mutual
    pub elab_used : (n : Space) → AreThere n → (e : ExprTree) → Used (spec.elab first_one n e)
    elab_used n there (raw.number at v w s) = other_used _ refl (λ f. tt)
    elab_used n there (raw.path at s names call) = path_used n there at (spec.last_name at names) call s names
    elab_used n there (raw.bit_select at x i call) =
        let a : Elab (Option Fault) = spec.elab first_one n x in
        let b : Elab (Option Fault) = spec.plain first_one (spec.elab first_one n i) in
        let k : Used (spec.index_part first_one at a b) = index_used at a b (elab_used n there x) (value_of n i (elab_used n there i)) in
        record { root = λ f. k.root (none_left _ _ f); tree = λ f. k.tree (none_left _ _ f) }
    elab_used n there (raw.part_select at x g l call) =
        let a : Elab (Option Fault) = spec.plain first_one (spec.elab first_one n x) in
        let b : Elab (Option Fault) = spec.plain first_one (spec.elab first_one n g) in
        let c : Elab (Option Fault) = spec.plain first_one (spec.elab first_one n l) in
        let k : Used (spec.slice_part first_one at a b c) = slice_used at a b c (value_of n x (elab_used n there x)) (value_of n g (elab_used n there g)) (value_of n l (elab_used n there l)) in
        record { root = λ f. k.root (none_left _ _ f); tree = λ f. k.tree (none_left _ _ f) }
    elab_used n there (raw.unary at op x) =
        let a : Elab (Option Fault) = spec.plain first_one (spec.elab first_one n x) in
        other_used _ refl (λ f. typed_used (shapes.unary_shape op a.shape) (option_map (term.unary op) a.tree) (one_used (term.unary op) a.tree (λ t u. u) ((value_of n x (elab_used n there x)).tree f)))
    elab_used n there (raw.binary at op x y) =
        let a : Elab (Option Fault) = spec.plain first_one (spec.elab first_one n x) in
        let b : Elab (Option Fault) = spec.plain first_one (spec.elab first_one n y) in
        other_used _ refl
        (λ f. typed_used (shapes.binary_shape op a.shape b.shape) (both_known (term.binary op) a.tree b.tree)
        (two_used (term.binary op) a.tree b.tree (λ t u p q. (p, q)) ((value_of n x (elab_used n there x)).tree (none_left a.faults b.faults f)) ((value_of n y (elab_used n there y)).tree (none_right a.faults b.faults f))))
    elab_used n there (raw.choice at t x y) =
        let o : Elab (Option Fault) = spec.plain first_one (spec.elab first_one n t) in
        let a : Elab (Option Fault) = spec.plain first_one (spec.elab first_one n x) in
        let b : Elab (Option Fault) = spec.plain first_one (spec.elab first_one n y) in
        other_used _ refl
        (λ f. typed_used (shapes.choice_shape a.shape b.shape) (all_known term.choice o.tree a.tree b.tree)
        (three_used term.choice o.tree a.tree b.tree (λ t u v p q r. (p, q, r)) ((value_of n t (elab_used n there t)).tree (none_left o.faults _ f)) ((value_of n x (elab_used n there x)).tree (none_left a.faults b.faults (none_right o.faults _ f)))
        ((value_of n y (elab_used n there y)).tree (none_right a.faults b.faults (none_right o.faults _ f)))))
    elab_used n there (raw.inside at x rs) =
        let a : Elab (Option Fault) = spec.plain first_one (spec.elab first_one n x) in
        let r : RangesElab (Option Fault) = spec.ranges first_one n (spec.no_ranges first_one) rs in
        other_used _ refl
        (λ f. typed_used (Some shapes.bit) (shapes.inside_node a.tree r.trees)
        (inside_used a.tree r.trees ((value_of n x (elab_used n there x)).tree (none_left a.faults r.faults f)) (ranges_used n there rs (spec.no_ranges first_one) (λ g. tt) (none_right a.faults r.faults f))))
    elab_used n there (raw.join at xs) =
        let p : Elabs (Option Fault) = spec.parts first_one n (spec.no_parts first_one) xs in
        other_used _ refl (λ f. typed_used (option_map shapes.bits_wide p.total) (shapes.join_node p.trees) (join_used p.trees (parts_used n there xs (spec.no_parts first_one) (λ g. tt) (none_left p.faults _ f))))
    elab_used n there (raw.copies at c xs) =
        let a : Elab (Option Fault) = spec.plain first_one (spec.elab first_one n c) in
        let p : Elabs (Option Fault) = spec.parts first_one n (spec.no_parts first_one) xs in
        other_used _ refl
        (λ f. typed_used (spec.copies_part first_one at a p).shape (shapes.copies_node a.tree p.trees)
        (copies_used a.tree p.trees ((value_of n c (elab_used n there c)).tree (none_left a.faults _ f)) (parts_used n there xs (spec.no_parts first_one) (λ g. tt) (none_left p.faults _ (none_right a.faults _ f)))))
    elab_used n there (raw.sign at z x) =
        let a : Elab (Option Fault) = spec.plain first_one (spec.elab first_one n x) in
        other_used _ refl (λ f. typed_used (shapes.sign_shape z a.shape) (option_map (term.sign z) a.tree) (one_used (term.sign z) a.tree (λ t u. u) ((value_of n x (elab_used n there x)).tree f)))
    elab_used n there (raw.paren at x) =
        let k : Used (spec.sole first_one (spec.elab first_one n x)) = sole_used (spec.elab first_one n x) (elab_used n there x) in
        record { root = k.root; tree = k.tree }
    elab_used n there (raw.reduce at x g item body) =
        let a : Elab (Option Fault) = spec.sole first_one (spec.elab first_one n x) in
        let b : Elab (Option Fault) = spec.plain first_one (spec.elab first_one (body_space n (spec.elab first_one n x) (argument_name item)) body) in
        other_used _ refl (λ f. typed_used b.shape (shapes.array_node a.form.root g b.tree) (array_node_used a.form.root g b.tree))

    parts_used : (n : Space) → AreThere n → (xs : ExprTrees) (start : Elabs (Option Fault)) → (start.faults ≡ None → ListUses start.trees) → (spec.parts first_one n start xs).faults ≡ None → ListUses (spec.parts first_one n start xs).trees
    parts_used n there raw.no_exprs start k f = k f
    parts_used n there (raw.more_exprs x xs) start k f =
        let v : Elab (Option Fault) = spec.plain first_one (spec.elab first_one n x) in
        parts_used n there xs (spec.and_part first_one start v) (λ g. list_more start.trees v.tree (k (none_left start.faults v.faults g)) ((value_of n x (elab_used n there x)).tree (none_right start.faults v.faults g))) f

    ranges_used : (n : Space) → AreThere n → (rs : RangeTrees) (start : RangesElab (Option Fault)) → (start.faults ≡ None → RangeListUses start.trees) → (spec.ranges first_one n start rs).faults ≡ None → RangeListUses (spec.ranges first_one n start rs).trees
    ranges_used n there raw.no_ranges start k f = k f
    ranges_used n there (raw.more_ranges r rs) start k f =
        let v : RangeElab (Option Fault) = spec.range first_one n r in
        ranges_used n there rs (spec.and_range first_one start v) (λ g. range_more start.trees v.tree (k (none_left start.faults v.faults g)) (range_used n there r (none_right start.faults v.faults g))) f

    range_used : (n : Space) → AreThere n → (r : RangeTree) → (spec.range first_one n r).faults ≡ None → OptionIs (RangeUses ms) (spec.range first_one n r).tree
    range_used n there (raw.one x) f = range_one (spec.elab first_one n x).tree ((sole_used (spec.elab first_one n x) (elab_used n there x)).tree f)
    range_used n there (raw.span l g) f =
        let a : BoundElab (Option Fault) = spec.bound first_one n l in
        let b : BoundElab (Option Fault) = spec.bound first_one n g in
        range_span a.tree b.tree (bound_used n there l (none_left a.faults b.faults f)) (bound_used n there g (none_right a.faults b.faults f))

    bound_used : (n : Space) → AreThere n → (b : BoundTree) → (spec.bound first_one n b).faults ≡ None → OptionIs (BoundUses ms) (spec.bound first_one n b).tree
    bound_used n there (raw.value x) f = bound_one (spec.elab first_one n x).tree ((value_of n x (elab_used n there x)).tree f)
    bound_used n there raw.dollar f = tt

  pub value_used : (n : Space) → AreThere n → (e : ExprTree) → Used (spec.plain first_one (spec.elab first_one n e))
  value_used n there e = value_of n e (elab_used n there e)
