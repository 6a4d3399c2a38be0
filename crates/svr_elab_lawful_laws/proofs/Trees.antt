-- Statements in which nothing is refused are there, where no declaration that can be named was refused.
use Rattle.std.proofs.Common.{◌≡◌, ℕ, zero, suc, ℤ, Bool, true, false, not, ◌&&◌, if◌then◌else◌, List, [], ◌∷◌, Option, None, Some, refl, sym, ap, ◌∙◌, true≢false}
use Rattle.svr_typed.specs.ExprTerm.{ExprTerm}
use Rattle.svr_typed.specs.StmtTerm as stmt_term
use Rattle.svr_typed.specs.StmtTerm.{StmtTerm}
use Rattle.svr_tree.specs.declared.RandomizeArgs.{RandomizeArgs}
use Rattle.svr_tree.specs.declared.ModeKind.{ModeKind}
use Rattle.svr_tree.specs.ExprTree as raw
use Rattle.svr_tree.specs.ExprTree.{ExprTree, ExprTrees}
use Rattle.svr_tree.specs.ItemTree.{ItemTrees}
use Rattle.svr_tree.specs.StmtTree as tree
use Rattle.svr_tree.specs.StmtTree.{StmtTree, StmtTrees, RightTree, RandomizeTree, ModeTree}
use Rattle.svr_refusal.specs.declared.Refusal.TheVariants as refusal
use Rattle.svr_elab_fault.specs.declared.Fault.{Fault}
use Rattle.svr_elab_fault.specs.Refusals.{first_one, when, earlier}
use Rattle.svr_elab_names.specs.declared.Property.{Property}
use Rattle.svr_elab_names.specs.declared.Meaning.{Meaning}
use Rattle.svr_elab_names.specs.declared.Meaning.TheVariants.{Wrong, LoopOf, ItemOf, MemberOf, PropertyOf, SizeOf, FoldOf, VariableOf, ObjectOf}
use Rattle.svr_elab_names.specs.Names.{Space, PropName, ClassName, look, class_props}
use Rattle.svr_elab_part.specs.declared.part.Extent.{Extent}
use Rattle.svr_elab_part.specs.declared.part.Extent.TheVariants as extent
use Rattle.svr_elab_part.specs.declared.part.Root.{Root}
use Rattle.svr_elab_part.specs.declared.part.Root.TheVariants as root
use Rattle.svr_elab_part.specs.Fits.{Each}
use Rattle.svr_elab_part.specs.Elab as elab_spec
use Rattle.svr_elab_part.specs.Elab.{Elab, elab, value}
use Rattle.svr_elab_part.specs.Shapes.{both_known, and_more}
use Rattle.svr_elab_part.specs.Forms as forms
use Rattle.svr_elab_part.specs.Forms.{is_single, is_whole, is_row, is_refused, without_object, element_extent}
use Rattle.svr_elab_part.proofs.Valued.{none_left, none_right, not_when}
use Rattle.svr_elab_part.specs.Shapes as shapes
use Rattle.svr_elab_target.specs.declared.target.Target.{Target}
use Rattle.svr_elab_target.specs.declared.target.Target.TheVariants as target
use Rattle.svr_elab_target.specs.Targets as targets
use Rattle.svr_elab_target.specs.Targets.{target_of, root_target, property_target}
use Rattle.svr_elab_target.specs.Named.{ObjectPath, object_path, with_made, in_line_space, misplaced, list_faults, use_faults}
use Rattle.svr_elab_type.specs.Types.{Constant, constant_at, is_not}
use Rattle.svr_elab_item.specs.Items.{ItemsElab}
use Rattle.svr_elab_stmt.specs.Stmts as spec
use Rattle.svr_elab_stmt.specs.Stmts.{StmtElab, StmtsElab, ValuesElab}
use Rattle.svr_elab_expr_laws.specs.Known.{IsKnown, PropertyKnown, NamesKnown}
use Rattle.svr_elab_expr_laws.proofs.HasTree.{accepted_has_tree}
use Rattle.svr_elab_lawful_laws.specs.There.{ItemsAreThere}
use Rattle.svr_elab_lawful_laws.proofs.Constants.{mapped, both, more, constants_have_numbers}

-- ---- where a root is refused, something is

not_refused : (r : Root) → is_refused (without_object r) ≡ true → is_refused r ≡ true
not_refused root.Nothing h = h
not_refused root.Refused h = h
not_refused root.Member h = h
not_refused (root.Variable v) h = h
not_refused (root.Field p o) h = h
not_refused (root.Object o c) h = h

abbrev pub Rooted : Elab (Option Fault) → Type 0
Rooted x = is_refused x.form.root ≡ true → x.faults ≡ None → ⊥

path_rooted : (at name : ℕ) (call : Bool) (unmade : Option ℕ) (m : Meaning) → Rooted (elab_spec.path_part first_one at name call (record { meaning = m; unmade = unmade }))
path_rooted at name call u (Wrong w) = λ h f. true≢false (not_when true w refusal.UnknownName (none_right (elab_spec.unmade_faults first_one u) (when first_one true w refusal.UnknownName) f))
path_rooted at name call u (LoopOf k) = λ h f. true≢false (sym h)
path_rooted at name call u (ItemOf k p) = λ h f. true≢false (sym h)
path_rooted at name call u (MemberOf v kind) = λ h f. true≢false (sym h)
path_rooted at name call u (PropertyOf p o) = λ h f. true≢false (sym h)
path_rooted at name call u (SizeOf p o) = λ h f. true≢false (sym h)
path_rooted at name call u (FoldOf p o g array) = λ h f. true≢false (sym h)
path_rooted at name call u (VariableOf v kind) = λ h f. true≢false (sym h)
path_rooted at name call u (ObjectOf o c) = λ h f. true≢false (sym h)

one_rooted : (b : Bool) (x y : Elab (Option Fault)) → Rooted x → Rooted y → Rooted (if b then x else y)
one_rooted true x y h k = h
one_rooted false x y h k = k

index_rooted : (at : ℕ) (x i : Elab (Option Fault)) → Rooted x → Rooted (elab_spec.index_part first_one at x i)
index_rooted at x i h =
    one_rooted (is_whole x.form.extent) (elab_spec.array_part first_one at x i) (if is_row x.form.extent then elab_spec.cell_part first_one at x i else elab_spec.bit_part first_one at x i)
    (one_rooted (is_row (element_extent (shapes.array_property x.form.root).dims)) (elab_spec.row_part first_one at x i) (elab_spec.element_part first_one at x i) (λ k f. h k (none_left x.faults i.faults f)) (λ k f. h k (none_left x.faults i.faults f)))
    (one_rooted (is_row x.form.extent) (elab_spec.cell_part first_one at x i) (elab_spec.bit_part first_one at x i) (λ k f. h k (none_left x.faults i.faults f)) (λ k f. h k (none_left _ _ f)))

pub elab_rooted : (n : Space) (e : ExprTree) → Rooted (elab first_one n e)
elab_rooted n (raw.number at v w s) = λ h f. true≢false (sym h)
elab_rooted n (raw.path at s names call) = path_rooted at (elab_spec.last_name at names) call (look n s names).unmade (look n s names).meaning
elab_rooted n (raw.bit_select at x i call) =
    let a : Elab (Option Fault) = elab first_one n x in
    let b : Elab (Option Fault) = elab_spec.plain first_one (elab first_one n i) in
    λ h f. index_rooted at a b (elab_rooted n x) h (none_left _ _ f)
elab_rooted n (raw.part_select at x g l call) = λ h f. elab_rooted n x (not_refused (elab first_one n x).form.root h) (none_left _ _ (none_left _ _ (none_left _ _ f)))
elab_rooted n (raw.unary at op x) = λ h f. true≢false (sym h)
elab_rooted n (raw.binary at op x y) = λ h f. true≢false (sym h)
elab_rooted n (raw.choice at t x y) = λ h f. true≢false (sym h)
elab_rooted n (raw.inside at x rs) = λ h f. true≢false (sym h)
elab_rooted n (raw.join at xs) = λ h f. true≢false (sym h)
elab_rooted n (raw.copies at x xs) = λ h f. true≢false (sym h)
elab_rooted n (raw.sign at z x) = λ h f. true≢false (sym h)
elab_rooted n (raw.paren at x) = λ h f. elab_rooted n x (not_refused (elab first_one n x).form.root h) (none_left _ _ f)
elab_rooted n (raw.reduce at x g item body) = λ h f. true≢false (sym h)

-- ---- left sides

placed : (b : Bool) (e : Extent) (r : Root) (o : ℕ) (p : Property) → (if b then target.Nothing else root_target e r) ≡ target.Place o p → (is_single e ≡ true) × (forms.is_object r ≡ false)
placed true e r o p h = absurd (let k : target.Nothing ≡ target.Place o p = h in cc)
placed false e root.Nothing o p h = absurd (let k : target.Nothing ≡ target.Place o p = h in cc)
placed false e root.Refused o p h = absurd (let k : target.Nothing ≡ target.Place o p = h in cc)
placed false e root.Member o p h = absurd (let k : target.Nothing ≡ target.Place o p = h in cc)
placed false e (root.Variable v) o p h = absurd (let k : target.Variable v ≡ target.Place o p = h in cc)
placed false e (root.Field q None) o p h = absurd (let k : target.Nothing ≡ target.Place o p = h in cc)
placed false extent.Single (root.Field q (Some u)) o p h = (refl, refl)
placed false extent.Row (root.Field q (Some u)) o p h = absurd (let k : target.Nothing ≡ target.Place o p = h in cc)
placed false extent.Whole (root.Field q (Some u)) o p h = absurd (let k : target.Array u q ≡ target.Place o p = h in cc)
placed false e (root.Object u c) o p h = absurd (let k : target.Object u ≡ target.Place o p = h in cc)

-- a left side, whose tree is there where it is the place of a value
pub record Left (x : Elab (Option Fault)) : Type 0 where
  pub rooted : Rooted x
  pub there : (o : ℕ) (p : Property) → target_of x.form ≡ target.Place o p → x.faults ≡ None → IsKnown x.tree

pub plain_clear : (x : Elab (Option Fault)) → x.faults ≡ None → is_single x.form.extent ≡ true → forms.is_object x.form.root ≡ false → (elab_spec.plain first_one x).faults ≡ None
plain_clear x f e r =
    ap (λ (y : Option Fault). earlier y (earlier (when first_one (not (is_single x.form.extent)) x.form.name refusal.LeftOut) (when first_one (forms.is_object x.form.root) x.form.name refusal.UnknownName))) f
    ∙ ap (λ (b : Bool). earlier (when first_one (not b) x.form.name refusal.LeftOut) (when first_one (forms.is_object x.form.root) x.form.name refusal.UnknownName)) e
    ∙ ap (λ (b : Bool). when first_one b x.form.name refusal.UnknownName) r

pub left_of : (n : Space) (e : ExprTree) → NamesKnown n → Left (elab first_one n e)
left_of n e known = record {
  rooted = elab_rooted n e;
  there = λ o p t f.
      let x : Elab (Option Fault) = elab first_one n e in
      let is = placed x.form.bits x.form.extent x.form.root o p t in
      accepted_has_tree n e known (plain_clear x f is.0 is.1);
}

not_false : (b : Bool) → (b ≡ true → ⊥) → b ≡ false
not_false true h = absurd (h refl)
not_false false h = refl

fitting : (a b : Bool) → (not a && not b) ≡ false → b ≡ false → a ≡ true
fitting true b h k = refl
fitting false true h k = absurd (true≢false k)
fitting false false h k = absurd (true≢false h)

-- what stands on the left may
pub fits_there : (x : Elab (Option Fault)) (fits : Bool) → Rooted x → x.faults ≡ None → misplaced first_one x.form fits ≡ None → fits ≡ true
fits_there x fits l f m =
    fitting fits (is_refused x.form.root) (not_when (not fits && not (is_refused x.form.root)) x.form.name refusal.UnknownName m) (not_false (is_refused x.form.root) (λ r. l r f))

pub stands_there : (x : Elab (Option Fault)) (fits : Bool) → Left x → x.faults ≡ None → misplaced first_one x.form fits ≡ None → fits ≡ true
stands_there x fits l f m = fits_there x fits l.rooted f m

-- ---- statements that assign

set_there : (t : Target) (x e : Option ExprTerm) → targets.is_settable t ≡ true → ((o : ℕ) (p : Property) → t ≡ target.Place o p → IsKnown x) → IsKnown e → IsKnown (spec.set_tree t x e)
set_there target.Nothing x e h k l = absurd (true≢false (sym h))
set_there (target.Object o) x e h k l = absurd (true≢false (sym h))
set_there (target.Variable v) x e h k l = mapped (stmt_term.set_var v) e l
set_there (target.Place o p) x e h k l = both (spec.set_property o p.number) x e (k o p refl) l
set_there (target.Array o p) x e h k l = absurd (true≢false (sym h))

assigned_there : (x v : Elab (Option Fault)) → Left x → (v.faults ≡ None → IsKnown v.tree) → (spec.assigned first_one x v).faults ≡ None → IsKnown (spec.assigned first_one x v).tree
assigned_there x v l k f =
    let w1 : Option Fault = misplaced first_one x.form (targets.is_settable (target_of x.form)) in
    let w2 : Option Fault = when first_one (is_not x.form.members v.form.members) v.at refusal.EnumAssign in
    let clear : x.faults ≡ None = none_left x.faults (earlier v.faults (earlier w1 w2)) f in
    let f1 : earlier v.faults (earlier w1 w2) ≡ None = none_right x.faults (earlier v.faults (earlier w1 w2)) f in
    let f2 : earlier w1 w2 ≡ None = none_right v.faults (earlier w1 w2) f1 in
    set_there (target_of x.form) x.tree v.tree (stands_there x (targets.is_settable (target_of x.form)) l clear (none_left w1 w2 f2)) (λ o p t. l.there o p t clear) (k (none_left v.faults (earlier w1 w2) f1))

copied_refused : (x v : Elab (Option Fault)) → (spec.copied first_one x v).faults ≡ None → ⊥
copied_refused x v f = true≢false (not_when true v.form.name refusal.LeftOut (none_right v.faults (when first_one true v.form.name refusal.LeftOut) (none_right x.faults (earlier v.faults (when first_one true v.form.name refusal.LeftOut)) f)))

pub given_there : (x v : Elab (Option Fault)) → Left x → ((elab_spec.plain first_one v).faults ≡ None → IsKnown v.tree) → (spec.given first_one x v).faults ≡ None → IsKnown (spec.given first_one x v).tree
given_there x v l k f = either (targets.is_object (target_of v.form)) f
  where
    either : (b : Bool) → (if b then spec.copied first_one x v else spec.assigned first_one x (elab_spec.plain first_one v)).faults ≡ None → IsKnown (if b then spec.copied first_one x v else spec.assigned first_one x (elab_spec.plain first_one v)).tree
    either true g = absurd (copied_refused x v g)
    either false g = assigned_there x (elab_spec.plain first_one v) l k g

object_there : (t : Target) → targets.is_object t ≡ true → IsKnown (spec.make_tree t)
object_there target.Nothing h = absurd (true≢false (sym h))
object_there (target.Object o) h = refl
object_there (target.Variable v) h = absurd (true≢false (sym h))
object_there (target.Place o p) h = absurd (true≢false (sym h))
object_there (target.Array o p) h = absurd (true≢false (sym h))

pub made_there : (x : Elab (Option Fault)) → Left x → (spec.made_new first_one x).faults ≡ None → IsKnown (spec.made_new first_one x).tree
made_there x l f =
    let w : Option Fault = misplaced first_one x.form (targets.is_object (target_of x.form)) in
    object_there (target_of x.form) (stands_there x (targets.is_object (target_of x.form)) l (none_left x.faults w f) (none_right x.faults w f))

resize_there : (t : Target) (c : Option ℤ) → targets.is_resizable t ≡ true → IsKnown c → IsKnown (spec.resize_tree t c)
resize_there target.Nothing c h k = absurd (true≢false (sym h))
resize_there (target.Object o) c h k = absurd (true≢false (sym h))
resize_there (target.Variable v) c h k = absurd (true≢false (sym h))
resize_there (target.Place o p) c h k = absurd (true≢false (sym h))
resize_there (target.Array o p) c h k = mapped _ c k

resize_stmt_there : (x : Elab (Option Fault)) (c : Constant (Option Fault)) → Left x → (c.faults ≡ None → IsKnown c.number) → (spec.resize_stmt first_one x c).faults ≡ None → IsKnown (spec.resize_stmt first_one x c).tree
resize_stmt_there x c l k f =
    let w1 : Option Fault = misplaced first_one x.form (targets.is_resizable (target_of x.form)) in
    let w2 : Option Fault = spec.size_faults first_one c in
    let clear : x.faults ≡ None = none_left x.faults (earlier c.faults (earlier w1 w2)) f in
    let f1 : earlier c.faults (earlier w1 w2) ≡ None = none_right x.faults (earlier c.faults (earlier w1 w2)) f in
    let f2 : earlier w1 w2 ≡ None = none_right c.faults (earlier w1 w2) f1 in
    resize_there (target_of x.form) c.number (stands_there x (targets.is_resizable (target_of x.form)) l clear (none_left w1 w2 f2)) (k (none_left c.faults (earlier w1 w2) f1))

pattern_there : (t : Target) (vs : Option (List ExprTerm)) → targets.is_array t ≡ true → IsKnown vs → IsKnown (spec.pattern_tree t vs)
pattern_there target.Nothing vs h k = absurd (true≢false (sym h))
pattern_there (target.Object o) vs h k = absurd (true≢false (sym h))
pattern_there (target.Variable v) vs h k = absurd (true≢false (sym h))
pattern_there (target.Place o p) vs h k = absurd (true≢false (sym h))
pattern_there (target.Array o p) vs h k = mapped _ vs k

pattern_stmt_there : (x : Elab (Option Fault)) (at : ℕ) (vs : ValuesElab (Option Fault)) → Left x → (vs.faults ≡ None → IsKnown vs.trees) → (spec.pattern_stmt first_one x at vs).faults ≡ None → IsKnown (spec.pattern_stmt first_one x at vs).tree
pattern_stmt_there x at vs l k f =
    let w1 : Option Fault = misplaced first_one x.form (targets.is_array (target_of x.form)) in
    let w2 : Option Fault = earlier (when first_one (spec.has_rows (targets.array_dims (target_of x.form))) x.form.name refusal.LeftOut) (spec.count_faults first_one (targets.array_dims (target_of x.form)) at vs.many) in
    let clear : x.faults ≡ None = none_left x.faults (earlier vs.faults (earlier w1 w2)) f in
    let f1 : earlier vs.faults (earlier w1 w2) ≡ None = none_right x.faults (earlier vs.faults (earlier w1 w2)) f in
    let f2 : earlier w1 w2 ≡ None = none_right vs.faults (earlier w1 w2) f1 in
    pattern_there (target_of x.form) vs.trees (stands_there x (targets.is_array (target_of x.form)) l clear (none_left w1 w2 f2)) (k (none_left vs.faults (earlier w1 w2) f1))

-- ---- places of statements

pub class_known : (cs : List ClassName) (c : ℕ) → Each (λ (c : ClassName). Each (λ (p : PropName). PropertyKnown p.property) c.props) cs → Each (λ (p : PropName). PropertyKnown p.property) (class_props cs c)
class_known [] c h = tt
class_known (x ∷ cs) zero h = h.0
class_known (x ∷ cs) (suc c) h = class_known cs c h.1

pub made_known : (n : Space) (made : List ℕ) → NamesKnown n → NamesKnown (with_made n made)
made_known n made h = record { globals = h.globals; props = h.props; classes = h.classes; later = h.later; loops = h.loops; vars = h.vars }

in_line_known : (n : Space) (c : ℕ) → NamesKnown n → NamesKnown (in_line_space n c)
in_line_known n c h = record { globals = h.globals; props = class_known n.classes c h.classes; classes = h.classes; later = h.later; loops = h.loops; vars = h.vars }

module _ (items_there : ItemsAreThere) where
  -- ---- calls and modes

  in_line_there : (n : Space) (c : ℕ) (is : Option ItemTrees) → NamesKnown n → n.loops ≡ [] → (spec.in_line_items first_one n c is).faults ≡ None → IsKnown (spec.in_line_items first_one n c is).trees
  in_line_there n c None known outer f = refl
  in_line_there n c (Some is) known outer f = items_there (in_line_space n c) is (in_line_known n c known) refl outer f

  call_there : (n : Space) (p : ObjectPath) (answer : Option ℕ) (a : RandomizeArgs) (is : Option ItemTrees) (o : Option (ℕ × ℕ)) → NamesKnown n → n.loops ≡ [] → (spec.call_of first_one n p answer a is o).faults ≡ None
      → IsKnown (spec.call_of first_one n p answer a is o).tree
  call_there n p answer a is None known outer f = absurd (true≢false (not_when true p.first refusal.UnknownName f))
  call_there n p answer a is (Some x) known outer f =
      let i : ItemsElab (Option Fault) = spec.in_line_items first_one n x.1 is in
      let w1 : Option Fault = use_faults first_one n.made p.first (Some x) in
      let w2 : Option Fault = spec.unknown_at first_one (spec.wrong_rest p.rest) in
      let w3 : Option Fault = list_faults first_one n x.1 a in
      let f1 : earlier w2 (earlier w3 i.faults) ≡ None = none_right w1 (earlier w2 (earlier w3 i.faults)) f in
      let f2 : earlier w3 i.faults ≡ None = none_right w2 (earlier w3 i.faults) f1 in
      mapped _ i.trees (in_line_there n x.1 is known outer (none_right w3 i.faults f2))

  pub call_is_there : (n : Space) (answer : Option ℕ) (c : RandomizeTree) → NamesKnown n → n.loops ≡ [] → (spec.randomized first_one n answer c).faults ≡ None → IsKnown (spec.randomized first_one n answer c).tree
  call_is_there n answer c known outer f = call_there n (object_path n c.path) answer c.args c.items (object_path n c.path).object known outer f

  mode_there : (n : Space) (p : ObjectPath) (k : ModeKind) (on : Elab (Option Fault)) (o : Option (ℕ × ℕ)) → (on.faults ≡ None → IsKnown on.tree) → (spec.mode_of first_one n p k on o).faults ≡ None → IsKnown (spec.mode_of first_one n p k on o).tree
  mode_there n p k on None h f = absurd (true≢false (not_when true p.first refusal.UnknownName (none_left (when first_one true p.first refusal.UnknownName) on.faults f)))
  mode_there n p k on (Some x) h f = mapped _ on.tree (h (none_right _ on.faults (none_right _ _ f)))

  -- ---- the values of a pattern

  values_there : (n : Space) (members : Option ℕ) (es : ExprTrees) (vs : ValuesElab (Option Fault)) → NamesKnown n → (vs.faults ≡ None → IsKnown vs.trees) → (spec.values first_one n members vs es).faults ≡ None → IsKnown (spec.values first_one n members vs es).trees
  values_there n members raw.no_exprs vs known h f = h f
  values_there n members (raw.more_exprs e es) vs known h f =
      let x : Elab (Option Fault) = value first_one n e in
      values_there n members es (spec.and_value first_one members vs x) known
      (λ g. more vs.trees x.tree (h (none_left vs.faults _ g)) (accepted_has_tree n e known (none_left x.faults _ (none_right vs.faults _ g)))) f

  -- ---- the whole

  right_there : (n : Space) (x : Elab (Option Fault)) (r : RightTree) → Left x → NamesKnown n → n.loops ≡ [] → (spec.assignment first_one n x r).faults ≡ None → IsKnown (spec.assignment first_one n x r).tree
  right_there n x (tree.value e) l known outer f = given_there x (elab first_one n e) l (accepted_has_tree n e known) f
  right_there n x (tree.new parens) l known outer f = made_there x l f
  right_there n x (tree.new_array e) l known outer f = resize_stmt_there x (constant_at first_one n e) l (constants_have_numbers n e known.globals) f
  right_there n x (tree.pattern at vs) l known outer f =
      pattern_stmt_there x at (spec.values first_one n x.form.members (spec.no_values first_one) vs) l (values_there n x.form.members vs (spec.no_values first_one) known (λ g. refl)) f
  right_there n x (tree.answer c) l known outer f = call_is_there n (targets.answer_number (target_of x.form)) c known outer (none_right _ _ f)

  mutual
    pub stmt_there : (n : Space) (s : StmtTree) → NamesKnown n → n.loops ≡ [] → (spec.stmt first_one n s).faults ≡ None → IsKnown (spec.stmt first_one n s).tree
    stmt_there n (tree.empty at) known outer f = refl
    stmt_there n (tree.block at ss) known outer f =
        let t : StmtsElab (Option Fault) = spec.stmts first_one n (spec.no_stmts first_one n.made) ss in
        mapped _ t.trees (stmts_there n ss (spec.no_stmts first_one n.made) known outer (λ g. refl) f)
    stmt_there n (tree.repeat at e s) known outer f =
        let c : Constant (Option Fault) = constant_at first_one n e in
        let t : StmtElab (Option Fault) = spec.stmt first_one n s in
        both _ c.number t.tree (constants_have_numbers n e known.globals (none_left c.faults t.faults f)) (stmt_there n s known outer (none_right c.faults t.faults f))
    stmt_there n (tree.assign at x r) known outer f = right_there n (elab first_one n x) r (left_of n x known) known outer f
    stmt_there n (tree.call at form c) known outer f = call_is_there n None c known outer f
    stmt_there n (tree.mode at m) known outer f = mode_there n (object_path n m.path) m.kind (value first_one n m.on) (object_path n m.path).object (accepted_has_tree n m.on known) f

    pub stmts_there : (n : Space) (ss : StmtTrees) (t : StmtsElab (Option Fault)) → NamesKnown n → n.loops ≡ [] → (t.faults ≡ None → IsKnown t.trees) → (spec.stmts first_one n t ss).faults ≡ None → IsKnown (spec.stmts first_one n t ss).trees
    stmts_there n tree.no_stmts t known outer h f = h f
    stmts_there n (tree.more_stmts s ss) t known outer h f =
        let m : Space = with_made n t.made in
        let one : StmtElab (Option Fault) = spec.stmt first_one m s in
        stmts_there n ss (spec.and_stmt first_one t one) known outer
        (λ g. more t.trees one.tree (h (none_left t.faults one.faults g)) (stmt_there m s (made_known n t.made known) outer (none_right t.faults one.faults g))) f
