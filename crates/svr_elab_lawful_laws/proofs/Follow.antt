-- An object that a statement of a design uses is made by one before it.
use Rattle.std.proofs.Common.{◌≡◌, ℕ, ℤ, Bool, true, false, not, ◌||◌, if◌then◌else◌, List, [], ◌∷◌, ◌++◌, length, Option, None, Some, option_map, refl, sym, ap, subst, ◌∙◌, true≢false}
use Rattle.std.specs.Prelude.{⊤, nat_eq}
use Rattle.std.specs.List.{list_any}
use Rattle.svr_typed.specs.declared.CallList.{CallList}
use Rattle.svr_typed.specs.ExprTerm as term
use Rattle.svr_typed.specs.ExprTerm.{ExprTerm, typed, NodeTerm, exprs_of}
use Rattle.svr_typed.specs.ItemTerm.{ItemTerm}
use Rattle.svr_typed.specs.StmtTerm as stmt_term
use Rattle.svr_typed.specs.StmtTerm.{StmtTerm, DesignTerm}
use Rattle.svr_tree.specs.declared.RandomizeArgs.{RandomizeArgs}
use Rattle.svr_tree.specs.declared.ModeKind.{ModeKind}
use Rattle.svr_tree.specs.declared.ModeKind.TheVariants as mode_kind
use Rattle.svr_tree.specs.DeclTree as decl
use Rattle.svr_tree.specs.DeclTree.{VarTree, VarDeclaratorTree, VarInitTree}
use Rattle.svr_tree.specs.ExprTree as raw
use Rattle.svr_tree.specs.ExprTree.{ExprTree, ExprTrees}
use Rattle.svr_tree.specs.ItemTree.{ItemTrees}
use Rattle.svr_tree.specs.StmtTree as tree
use Rattle.svr_tree.specs.StmtTree.{StmtTree, StmtTrees, RightTree, RandomizeTree}
use Rattle.svr_refusal.specs.declared.Refusal.TheVariants as refusal
use Rattle.svr_design.specs.Statements.{Made, Uses, NodeUses, AllUse, IndexUses, made_behind, Follows, AllFollow}
use Rattle.svr_elab_fault.specs.declared.Fault.{Fault}
use Rattle.svr_elab_fault.specs.Refusals.{first_one}
use Rattle.svr_elab_names.specs.declared.Property.{Property}
use Rattle.svr_elab_names.specs.declared.VarStand.{VarStand}
use Rattle.svr_elab_names.specs.declared.VarStand.TheVariants as stand
use Rattle.svr_elab_names.specs.Names.{Space}
use Rattle.svr_elab_part.specs.declared.part.Extent.{Extent}
use Rattle.svr_elab_part.specs.declared.part.Extent.TheVariants as extent
use Rattle.svr_elab_part.specs.declared.part.Root.{Root}
use Rattle.svr_elab_part.specs.declared.part.Root.TheVariants as root
use Rattle.svr_elab_part.specs.Elab.{Elab, elab, plain, value}
use Rattle.svr_elab_part.specs.Shapes.{both_known, and_more}
use Rattle.svr_elab_part.proofs.Valued.{none_left, none_right, not_when}
use Rattle.svr_elab_part.proofs.Looked.{OptionIs}
use Rattle.svr_elab_type.specs.Types.{Constant, constant_at, elements}
use Rattle.svr_elab_target.specs.declared.target.Target.{Target}
use Rattle.svr_elab_target.specs.declared.target.Target.TheVariants as target
use Rattle.svr_elab_target.specs.Targets as targets
use Rattle.svr_elab_target.specs.Targets.{target_of, root_target}
use Rattle.svr_elab_target.specs.Named.{ObjectPath, object_path, with_made, and_made, use_faults, answer_faults}
use Rattle.svr_elab_stmt.specs.Stmts as spec
use Rattle.svr_elab_stmt.specs.Stmts.{StmtElab, StmtsElab, ValuesElab}
use Rattle.svr_elab_unit.specs.Vars as vars
use Rattle.svr_elab_unit.specs.Vars.{ValuedElab}
use Rattle.svr_elab_unit.specs.Run as run
use Rattle.svr_elab_lawful_laws.specs.Lawful.{ObjectsAreMade}
use Rattle.svr_elab_lawful_laws.proofs.Classes.{any_append}
use Rattle.svr_elab_lawful_laws.proofs.Whole.{the_vars, the_space, the_stmts, IsClear, script_clear, of_design}
use Rattle.svr_elab_lawful_laws.proofs.Declarations.{some_same}
use Rattle.svr_elab_lawful_laws.proofs.Uses.{RootUsed, AreThere, Used, elab_used, value_used, list_more, variable_tree_used}

not_not : (b : Bool) → not b ≡ false → b ≡ true
not_not true h = refl
not_not false h = absurd (true≢false h)

module _ (ms : List ℕ) where
  -- ---- left sides

  abbrev TargetMade : Target → Type 0
  TargetMade target.Nothing = ⊤
  TargetMade (target.Object o) = ⊤
  TargetMade (target.Variable v) = ⊤
  TargetMade (target.Place o p) = Made ms o
  TargetMade (target.Array o p) = Made ms o

  field_made : (e : Extent) (p : Property) (o : ℕ) → Made ms o → TargetMade (targets.property_target e o p)
  field_made extent.Single p o h = h
  field_made extent.Row p o h = tt
  field_made extent.Whole p o h = h

  root_made : (e : Extent) (r : Root) → RootUsed ms r → TargetMade (root_target e r)
  root_made e root.Nothing h = tt
  root_made e root.Refused h = tt
  root_made e root.Member h = tt
  root_made e (root.Variable v) h = tt
  root_made e (root.Field p None) h = tt
  root_made e (root.Field p (Some o)) h = field_made e p o h
  root_made e (root.Object o c) h = tt

  target_made : (b : Bool) (e : Extent) (r : Root) → RootUsed ms r → TargetMade (if b then target.Nothing else root_target e r)
  target_made true e r h = tt
  target_made false e r h = root_made e r h

  inner_used : (n : NodeTerm) → NodeUses ms n → IndexUses ms (spec.inner_index n)
  inner_used (term.number v every) h = tt
  inner_used (term.prop p) h = tt
  inner_used (term.element p i) h = h
  inner_used (term.cell p m i j) h = tt
  inner_used (term.size p m) h = tt
  inner_used (term.script v) h = tt
  inner_used (term.loop_index k) h = tt
  inner_used (term.reduce p f b) h = tt
  inner_used (term.of_object o e) h = tt
  inner_used (term.bit_select x i low) h = tt
  inner_used (term.part_select x f l low) h = tt
  inner_used (term.unary op x) h = tt
  inner_used (term.binary op x y) h = tt
  inner_used (term.choice t x y) h = tt
  inner_used (term.inside x rs) h = tt
  inner_used (term.join xs) h = tt
  inner_used (term.copies n xs) h = tt
  inner_used (term.sign s x) h = tt

  inside_used : (e : ExprTerm) → Uses ms e → IndexUses ms (spec.inner_of e)
  inside_used (typed w s n) h = inner_used n h

  node_used : (n : NodeTerm) → NodeUses ms n → IndexUses ms (spec.node_index n)
  node_used (term.number v every) h = tt
  node_used (term.prop p) h = tt
  node_used (term.element p i) h = tt
  node_used (term.cell p m i j) h = tt
  node_used (term.size p m) h = tt
  node_used (term.script v) h = tt
  node_used (term.loop_index k) h = tt
  node_used (term.reduce p f b) h = tt
  node_used (term.of_object o e) h = inside_used e h.1
  node_used (term.bit_select x i low) h = tt
  node_used (term.part_select x f l low) h = tt
  node_used (term.unary op x) h = tt
  node_used (term.binary op x y) h = tt
  node_used (term.choice t x y) h = tt
  node_used (term.inside x rs) h = tt
  node_used (term.join xs) h = tt
  node_used (term.copies n xs) h = tt
  node_used (term.sign s x) h = tt

  index_used : (e : ExprTerm) → Uses ms e → IndexUses ms (spec.index_of e)
  index_used (typed w s n) h = node_used n h

  -- ---- statements

  abbrev Follow : Option StmtTerm → Type 0
  Follow t = OptionIs (Follows ms) t

  set_var_follows : (v : ℕ) (e : Option ExprTerm) → OptionIs (Uses ms) e → Follow (option_map (stmt_term.set_var v) e)
  set_var_follows v None h = tt
  set_var_follows v (Some e) h = h

  set_prop_follows : (o p : ℕ) (x e : Option ExprTerm) → Made ms o → OptionIs (Uses ms) x → OptionIs (Uses ms) e → Follow (both_known (spec.set_property o p) x e)
  set_prop_follows o p None e m h k = tt
  set_prop_follows o p (Some x) None m h k = tt
  set_prop_follows o p (Some x) (Some e) m h k = (m, index_used x h, k)

  set_follows : (t : Target) (x e : Option ExprTerm) → TargetMade t → OptionIs (Uses ms) x → OptionIs (Uses ms) e → Follow (spec.set_tree t x e)
  set_follows target.Nothing x e m h k = tt
  set_follows (target.Object o) x e m h k = tt
  set_follows (target.Variable v) x e m h k = set_var_follows v e k
  set_follows (target.Place o p) x e m h k = set_prop_follows o p.number x e m h k
  set_follows (target.Array o p) x e m h k = tt

  make_follows : (t : Target) → Follow (spec.make_tree t)
  make_follows target.Nothing = tt
  make_follows (target.Object o) = tt
  make_follows (target.Variable v) = tt
  make_follows (target.Place o p) = tt
  make_follows (target.Array o p) = tt

  resized_follows : (o p : ℕ) (c : Option ℤ) → Made ms o → Follow (option_map (λ c. stmt_term.resize o p (elements c)) c)
  resized_follows o p None m = tt
  resized_follows o p (Some c) m = m

  resize_follows : (t : Target) (c : Option ℤ) → TargetMade t → Follow (spec.resize_tree t c)
  resize_follows target.Nothing c m = tt
  resize_follows (target.Object o) c m = tt
  resize_follows (target.Variable v) c m = tt
  resize_follows (target.Place o p) c m = tt
  resize_follows (target.Array o p) c m = resized_follows o p.number c m

  patterned_follows : (o p : ℕ) (vs : Option (List ExprTerm)) → Made ms o → OptionIs (λ ts. AllUse ms (exprs_of ts)) vs → Follow (option_map (λ (vs : List ExprTerm). stmt_term.pattern o p (exprs_of vs)) vs)
  patterned_follows o p None m h = tt
  patterned_follows o p (Some vs) m h = (m, h)

  pattern_follows : (t : Target) (vs : Option (List ExprTerm)) → TargetMade t → OptionIs (λ ts. AllUse ms (exprs_of ts)) vs → Follow (spec.pattern_tree t vs)
  pattern_follows target.Nothing vs m h = tt
  pattern_follows (target.Object o) vs m h = tt
  pattern_follows (target.Variable v) vs m h = tt
  pattern_follows (target.Place o p) vs m h = tt
  pattern_follows (target.Array o p) vs m h = patterned_follows o p.number vs m h

  given_follows : (x v : Elab (Option Fault)) → Used ms x → Used ms (plain first_one v) → (spec.given first_one x v).faults ≡ None → Follow (spec.given first_one x v).tree
  given_follows x v h k f = either (targets.is_object (target_of v.form)) f
    where
      either : (b : Bool) → (if b then spec.copied first_one x v else spec.assigned first_one x (plain first_one v)).faults ≡ None → Follow (if b then spec.copied first_one x v else spec.assigned first_one x (plain first_one v)).tree
      either true g = tt
      either false g =
          let w : Elab (Option Fault) = plain first_one v in
          let clear : x.faults ≡ None = none_left x.faults _ g in
          set_follows (target_of x.form) x.tree w.tree (target_made x.form.bits x.form.extent x.form.root (h.root clear)) (h.tree clear) (k.tree (none_left w.faults _ (none_right x.faults _ g)))

  call_tree_follows : (o : ℕ) (l : CallList) (answer : Option ℕ) (is : Option (List ItemTerm)) → Made ms o → Follow (spec.call_tree o l answer is)
  call_tree_follows o l answer None m = tt
  call_tree_follows o l answer (Some is) m = m

  mode_tree_follows : (k : ModeKind) (o : ℕ) (p : Option ℕ) (t : Option ExprTerm) → Made ms o → OptionIs (Uses ms) t → Follow (option_map (spec.mode_term k o p) t)
  mode_tree_follows mode_kind.Rand o p None m h = tt
  mode_tree_follows mode_kind.Rand o p (Some t) m h = (m, h)
  mode_tree_follows mode_kind.Constraint o p None m h = tt
  mode_tree_follows mode_kind.Constraint o p (Some t) m h = (m, h)

  -- an object that is used has been made before
  was_made : (n : Space) → AreThere ms n → (first : ℕ) (x : ℕ × ℕ) → use_faults first_one n.made first (Some x) ≡ None → Made ms x.0
  was_made n there first x f = there x.0 (not_not (list_any (nat_eq x.0) n.made) (not_when (not (list_any (nat_eq x.0) n.made)) first refusal.NullObject f))

  call_follows : (n : Space) → AreThere ms n → (p : ObjectPath) (answer : Option ℕ) (a : RandomizeArgs) (is : Option ItemTrees) (o : Option (ℕ × ℕ)) → (spec.call_of first_one n p answer a is o).faults ≡ None → Follow (spec.call_of first_one n p answer a is o).tree
  call_follows n there p answer a is None f = tt
  call_follows n there p answer a is (Some x) f = call_tree_follows x.0 _ answer (spec.in_line_items first_one n x.1 is).trees (was_made n there p.first x (none_left (use_faults first_one n.made p.first (Some x)) _ f))

  mode_follows : (n : Space) → AreThere ms n → (p : ObjectPath) (k : ModeKind) (on : Elab (Option Fault)) (o : Option (ℕ × ℕ)) → (on.faults ≡ None → OptionIs (Uses ms) on.tree) → (spec.mode_of first_one n p k on o).faults ≡ None → Follow (spec.mode_of first_one n p k on o).tree
  mode_follows n there p k on None h f = tt
  mode_follows n there p k on (Some x) h f =
      mode_tree_follows k x.0 _ on.tree (was_made n there p.first x (none_left (use_faults first_one n.made p.first (Some x)) _ f)) (h (none_right _ on.faults (none_right (use_faults first_one n.made p.first (Some x)) _ f)))

  values_used : (n : Space) → AreThere ms n → (members : Option ℕ) (es : ExprTrees) (vs : ValuesElab (Option Fault)) → (vs.faults ≡ None → OptionIs (λ ts. AllUse ms (exprs_of ts)) vs.trees) → (spec.values first_one n members vs es).faults ≡ None
      → OptionIs (λ ts. AllUse ms (exprs_of ts)) (spec.values first_one n members vs es).trees
  values_used n there members raw.no_exprs vs h f = h f
  values_used n there members (raw.more_exprs e es) vs h f =
      let x : Elab (Option Fault) = value first_one n e in
      values_used n there members es (spec.and_value first_one members vs x) (λ g. list_more ms vs.trees x.tree (h (none_left vs.faults _ g)) ((value_used ms n there e).tree (none_left x.faults _ (none_right vs.faults _ g)))) f

  right_follows : (n : Space) → AreThere ms n → (x : Elab (Option Fault)) (r : RightTree) → Used ms x → (spec.assignment first_one n x r).faults ≡ None → Follow (spec.assignment first_one n x r).tree
  right_follows n there x (tree.value e) h f = given_follows x (elab first_one n e) h (value_used ms n there e) f
  right_follows n there x (tree.new parens) h f = make_follows (target_of x.form)
  right_follows n there x (tree.new_array e) h f = resize_follows (target_of x.form) (constant_at first_one n e).number (target_made x.form.bits x.form.extent x.form.root (h.root (none_left x.faults _ f)))
  right_follows n there x (tree.pattern at vs) h f =
      let w : ValuesElab (Option Fault) = spec.values first_one n x.form.members (spec.no_values first_one) vs in
      pattern_follows (target_of x.form) w.trees (target_made x.form.bits x.form.extent x.form.root (h.root (none_left x.faults _ f)))
      (values_used n there x.form.members vs (spec.no_values first_one) (λ g. tt) (none_left w.faults _ (none_right x.faults _ f)))
  right_follows n there x (tree.answer c) h f =
      let one : StmtElab (Option Fault) = spec.randomized first_one n (targets.answer_number (target_of x.form)) c in
      call_follows n there (object_path n c.path) (targets.answer_number (target_of x.form)) c.args c.items (object_path n c.path).object (none_right (answer_faults first_one x) one.faults f)

-- ---- one statement behind others

abbrev behind : List ℕ → List StmtTerm → List ℕ
behind ms [] = ms
behind ms (t ∷ ts) = behind (made_behind t ms) ts

behind_last : (ms : List ℕ) (ts : List StmtTerm) (t : StmtTerm) → behind ms (ts ++ t ∷ []) ≡ made_behind t (behind ms ts)
behind_last ms [] t = refl
behind_last ms (u ∷ ts) t = behind_last (made_behind u ms) ts t

follow_last : (ms : List ℕ) (ts : List StmtTerm) (t : StmtTerm) → AllFollow ms (stmt_term.stmts_of ts) → Follows (behind ms ts) t → AllFollow ms (stmt_term.stmts_of (ts ++ t ∷ []))
follow_last ms [] t h k = (k, tt)
follow_last ms (u ∷ ts) t h k = (h.0, follow_last (made_behind u ms) ts t h.1 k)

-- what had an object has it still
made_still : (t : StmtTerm) (ms : List ℕ) (o : ℕ) → Made ms o → Made (made_behind t ms) o
made_still (stmt_term.make q) ms o h = any_append (nat_eq o) ms (q ∷ []) ∙ ap (λ (b : Bool). b || list_any (nat_eq o) (q ∷ [])) h
made_still (stmt_term.set_var v e) ms o h = h
made_still (stmt_term.set_prop a p i e) ms o h = h
made_still (stmt_term.resize a p n) ms o h = h
made_still (stmt_term.pattern a p es) ms o h = h
made_still (stmt_term.rand_mode a p e) ms o h = h
made_still (stmt_term.constraint_mode a b e) ms o h = h
made_still (stmt_term.call c) ms o h = h
made_still (stmt_term.repeat n s) ms o h = h
made_still (stmt_term.list ss) ms o h = h

or_right_true : (a b : Bool) → b ≡ true → (a || b) ≡ true
or_right_true true b h = refl
or_right_true false b h = h

or_map : (a b c : Bool) → (a ≡ true → b ≡ true) → (a || c) ≡ true → (b || c) ≡ true
or_map true b c h k = ap (λ (x : Bool). x || c) (h refl)
or_map false b c h k = or_right_true b c k

-- what `new` gives an object to is what its statement makes
abbrev MakesIs : StmtElab (Option Fault) → Type 0
MakesIs s = OptionIs (λ o. s.tree ≡ Some (stmt_term.make o)) s.makes

-- `ms` has an object before them
abbrev SoFar : List ℕ → StmtsElab (Option Fault) → Type 0
SoFar ms st = st.faults ≡ None → OptionIs (λ ts. AllFollow ms (stmt_term.stmts_of ts) × ((o : ℕ) → Made st.made o → Made (behind ms ts) o)) st.trees

now_made : (made ms : List ℕ) (t : StmtTerm) (makes : Option ℕ) → OptionIs (λ o. t ≡ stmt_term.make o) makes → ((o : ℕ) → Made made o → Made ms o) → (o : ℕ) → Made (and_made made makes) o → Made (made_behind t ms) o
now_made made ms t None e h o m = made_still t ms o (h o m)
now_made made ms t (Some q) e h o m =
    subst (λ t. Made (made_behind t ms) o) (sym e) (either (list_any (nat_eq q) made) m)
  where
    either : (b : Bool) → Made (if b then made else made ++ q ∷ []) o → Made (ms ++ q ∷ []) o
    either true m = any_append (nat_eq o) ms (q ∷ []) ∙ ap (λ (b : Bool). b || list_any (nat_eq o) (q ∷ [])) (h o m)
    either false m =
        any_append (nat_eq o) ms (q ∷ []) ∙ or_map (list_any (nat_eq o) made) (list_any (nat_eq o) ms) (list_any (nat_eq o) (q ∷ [])) (h o) (sym (any_append (nat_eq o) made (q ∷ [])) ∙ m)

makes_this : (t : StmtTerm) (tr : Option StmtTerm) (makes : Option ℕ) → tr ≡ Some t → OptionIs (λ o. tr ≡ Some (stmt_term.make o)) makes → OptionIs (λ o. t ≡ stmt_term.make o) makes
makes_this t tr None e h = tt
makes_this t tr (Some o) e h = some_same t (stmt_term.make o) (sym e ∙ h)

and_follows : (ms : List ℕ) (st : StmtsElab (Option Fault)) (one : StmtElab (Option Fault)) → SoFar ms st → ((qs : List ℕ) → ((o : ℕ) → Made st.made o → Made qs o) → one.faults ≡ None → OptionIs (Follows qs) one.tree) → MakesIs one → SoFar ms (spec.and_stmt first_one st one)
and_follows ms st one h k makes f =
    both st.trees one.tree refl (h (none_left st.faults one.faults f)) (λ qs s. k qs s (none_right st.faults one.faults f))
  where
    both : (ts : Option (List StmtTerm)) (t : Option StmtTerm) → one.tree ≡ t → OptionIs (λ ts. AllFollow ms (stmt_term.stmts_of ts) × ((o : ℕ) → Made st.made o → Made (behind ms ts) o)) ts → ((qs : List ℕ) → ((o : ℕ) → Made st.made o → Made qs o) → OptionIs (Follows qs) t)
        → OptionIs (λ ts. AllFollow ms (stmt_term.stmts_of ts) × ((o : ℕ) → Made (and_made st.made one.makes) o → Made (behind ms ts) o)) (and_more ts t)
    both None t e a b = tt
    both (Some ts) None e a b = tt
    both (Some ts) (Some t) e a b = (
      follow_last ms ts t a.0 (b (behind ms ts) a.1),
      λ o m. subst (λ qs. Made qs o) (sym (behind_last ms ts t)) (now_made st.made (behind ms ts) t one.makes (makes_this t one.tree one.makes e makes) a.1 o m),
    )

-- ---- what makes an object

given_makes : (x v : Elab (Option Fault)) → MakesIs (spec.given first_one x v)
given_makes x v = either (targets.is_object (target_of v.form))
  where
    either : (b : Bool) → MakesIs (if b then spec.copied first_one x v else spec.assigned first_one x (plain first_one v))
    either true = tt
    either false = tt

made_makes : (t : Target) → OptionIs (λ o. spec.make_tree t ≡ Some (stmt_term.make o)) (targets.object_number t)
made_makes target.Nothing = tt
made_makes (target.Object o) = refl
made_makes (target.Variable v) = tt
made_makes (target.Place o p) = tt
made_makes (target.Array o p) = tt

call_makes : (n : Space) (p : ObjectPath) (answer : Option ℕ) (a : RandomizeArgs) (is : Option ItemTrees) (o : Option (ℕ × ℕ)) → MakesIs (spec.call_of first_one n p answer a is o)
call_makes n p answer a is None = tt
call_makes n p answer a is (Some x) = tt

mode_makes : (n : Space) (p : ObjectPath) (k : ModeKind) (on : Elab (Option Fault)) (o : Option (ℕ × ℕ)) → MakesIs (spec.mode_of first_one n p k on o)
mode_makes n p k on None = tt
mode_makes n p k on (Some x) = tt

right_makes : (n : Space) (x : Elab (Option Fault)) (r : RightTree) → MakesIs (spec.assignment first_one n x r)
right_makes n x (tree.value e) = given_makes x (elab first_one n e)
right_makes n x (tree.new parens) = made_makes (target_of x.form)
right_makes n x (tree.new_array e) = tt
right_makes n x (tree.pattern at vs) = tt
right_makes n x (tree.answer c) = call_makes n (object_path n c.path) (targets.answer_number (target_of x.form)) c.args c.items (object_path n c.path).object

stmt_makes : (n : Space) (s : StmtTree) → MakesIs (spec.stmt first_one n s)
stmt_makes n (tree.empty at) = tt
stmt_makes n (tree.block at ss) = tt
stmt_makes n (tree.repeat at e s) = tt
stmt_makes n (tree.assign at x r) = right_makes n (elab first_one n x) r
stmt_makes n (tree.call at form c) = call_makes n (object_path n c.path) None c.args c.items (object_path n c.path).object
stmt_makes n (tree.mode at m) = mode_makes n (object_path n m.path) m.kind (value first_one n m.on) (object_path n m.path).object

-- ---- the whole

list_follows : (ms : List ℕ) (made : List ℕ) (ts : Option (List StmtTerm)) → OptionIs (λ ts. AllFollow ms (stmt_term.stmts_of ts) × ((o : ℕ) → Made made o → Made (behind ms ts) o)) ts → OptionIs (Follows ms) (spec.list_tree ts)
list_follows ms made None h = tt
list_follows ms made (Some ts) h = h.0

repeat_follows : (ms : List ℕ) (c : Option ℤ) (t : Option StmtTerm) → OptionIs (Follows ms) t → OptionIs (Follows ms) (spec.repeat_tree c t)
repeat_follows ms None t h = tt
repeat_follows ms (Some c) None h = tt
repeat_follows ms (Some c) (Some t) h = h

mutual
  stmt_follows : (ms : List ℕ) (n : Space) (s : StmtTree) → AreThere ms n → (spec.stmt first_one n s).faults ≡ None → OptionIs (Follows ms) (spec.stmt first_one n s).tree
  stmt_follows ms n (tree.empty at) there f = tt
  stmt_follows ms n (tree.block at ss) there f =
      let r : StmtsElab (Option Fault) = spec.stmts first_one n (spec.no_stmts first_one n.made) ss in
      list_follows ms r.made r.trees (stmts_follow ms n ss (spec.no_stmts first_one n.made) (λ g. (tt, there)) f)
  stmt_follows ms n (tree.repeat at e s) there f =
      let c : Constant (Option Fault) = constant_at first_one n e in
      let r : StmtElab (Option Fault) = spec.stmt first_one n s in
      repeat_follows ms c.number r.tree (stmt_follows ms n s there (none_right c.faults r.faults f))
  stmt_follows ms n (tree.assign at x r) there f = right_follows ms n there (elab first_one n x) r (elab_used ms n there x) f
  stmt_follows ms n (tree.call at form c) there f = call_follows ms n there (object_path n c.path) None c.args c.items (object_path n c.path).object f
  stmt_follows ms n (tree.mode at m) there f = mode_follows ms n there (object_path n m.path) m.kind (value first_one n m.on) (object_path n m.path).object (λ g. (value_used ms n there m.on).tree g) f

  stmts_follow : (ms : List ℕ) (n : Space) (ss : StmtTrees) (st : StmtsElab (Option Fault)) → SoFar ms st → SoFar ms (spec.stmts first_one n st ss)
  stmts_follow ms n tree.no_stmts st h = h
  stmts_follow ms n (tree.more_stmts s ss) st h =
      let m : Space = with_made n st.made in
      stmts_follow ms n ss (spec.and_stmt first_one st (spec.stmt first_one m s)) (and_follows ms st (spec.stmt first_one m s) h (λ qs there f. stmt_follows qs m s there f) (stmt_makes m s))

-- ---- the values of variables

left_used : (ms : List ℕ) (name number : ℕ) (k : VarStand) → Used ms (vars.left_side first_one name number k)
left_used ms name number (stand.OfNumber kind) = record { root = λ f. tt; tree = λ f. variable_tree_used ms number kind }
left_used ms name number (stand.OfObject c) = record { root = λ f. tt; tree = λ f. tt }

init_follows : (ms : List ℕ) (n : Space) (x : Elab (Option Fault)) (i : VarInitTree) → AreThere ms n → Used ms x → (vars.initialized first_one n x i).faults ≡ None → OptionIs (Follows ms) (vars.initialized first_one n x i).tree
init_follows ms n x (decl.value e) there h f = given_follows ms x (elab first_one n e) h (value_used ms n there e) f
init_follows ms n x (decl.new parens) there h f = make_follows ms (target_of x.form)

init_makes : (n : Space) (x : Elab (Option Fault)) (i : VarInitTree) → MakesIs (vars.initialized first_one n x i)
init_makes n x (decl.value e) = given_makes x (elab first_one n e)
init_makes n x (decl.new parens) = made_makes (target_of x.form)

value_follows : (ms : List ℕ) (n : Space) (st : StmtsElab (Option Fault)) (name number : ℕ) (k : VarStand) (i : Option VarInitTree) → SoFar ms st → SoFar ms (vars.and_value first_one n st name number k i)
value_follows ms n st name number k None h = h
value_follows ms n st name number k (Some i) h =
    let m : Space = with_made n st.made in
    let x : Elab (Option Fault) = vars.left_side first_one name number k in
    and_follows ms st (vars.initialized first_one m x i) h (λ qs there f. init_follows qs m x i there (left_used qs name number k) f) (init_makes m x i)

all_values_follow : (ms : List ℕ) (n : Space) (s : ValuedElab (Option Fault)) (k : VarStand) (ds : List VarDeclaratorTree) → SoFar ms s.stmts → SoFar ms (vars.all_valued first_one n s k ds).stmts
all_values_follow ms n s k [] h = h
all_values_follow ms n s k (d ∷ ds) h =
    all_values_follow ms n (vars.valued first_one n s k d) k ds (value_follows ms (vars.stmt_space n (vars.and_var_name s.vars (n.text d.name) k)) s.stmts d.name (length s.vars) k d.init h)

values_follow : (ms : List ℕ) (n : Space) (s : ValuedElab (Option Fault)) (ks : List VarStand) (vs : List VarTree) → SoFar ms s.stmts → SoFar ms (vars.decls_valued first_one n s ks vs).stmts
values_follow ms n s [] vs h = h
values_follow ms n s (k ∷ ks) [] h = h
values_follow ms n s (k ∷ ks) (v ∷ vs) h = values_follow ms n (vars.all_valued first_one n s k v.vars) ks vs (all_values_follow ms n s k v.vars h)

-- ---- the initial block

tops_follow : (ms : List ℕ) (n : Space) (st : StmtsElab (Option Fault)) (ss : List StmtTree) → SoFar ms st → SoFar ms (run.tops first_one n st ss)
tops_follow ms n st [] h = h
tops_follow ms n st (s ∷ ss) h =
    let m : Space = with_made n st.made in
    let one : StmtElab (Option Fault) = spec.stmt first_one m s in
    let limited : StmtElab (Option Fault) = run.with_limit first_one (run.stmt_start s) st.count one in
    tops_follow ms n (run.and_top first_one st (run.stmt_start s) one) ss (and_follows ms st limited h (λ qs there f. stmt_follows qs m s there (none_left one.faults _ f)) (stmt_makes m s))

of_trees : (made : List ℕ) (o : Option (List StmtTerm)) (ts : List StmtTerm) → o ≡ Some ts → OptionIs (λ ts. AllFollow [] (stmt_term.stmts_of ts) × ((q : ℕ) → Made made q → Made (behind [] ts) q)) o → AllFollow [] (stmt_term.stmts_of ts)
of_trees made None ts e h = absurd (let f : None ≡ Some ts = e in cc)
of_trees made (Some us) ts e h = subst (λ (ts : List StmtTerm). AllFollow [] (stmt_term.stmts_of ts)) (some_same us ts e) h.0

pub objects_are_made : ObjectsAreMade
objects_are_made text s is f =
    let clear : IsClear text s = script_clear text s f in
    let n : Space = the_space text s in
    let values : SoFar [] (vars.decls_valued first_one n (vars.no_values first_one []) (the_vars text s).stands (s.unit.outer ++ s.unit.inner)).stmts =
    values_follow [] n (vars.no_values first_one []) (the_vars text s).stands (s.unit.outer ++ s.unit.inner) (λ g. (tt, λ o m. m)) in
    let all : SoFar [] (the_stmts text s) = tops_follow [] n _ s.unit.stmts values in
    of_design (λ (d : DesignTerm). AllFollow [] d.stmts) text s (λ c v t a b e. of_trees (the_stmts text s).made (the_stmts text s).trees t e (all clear.stmts))
