-- The walk over statements that keeps the first refusal gives the first of all that the other one gives, and the same of everything else.
use Rattle.std.proofs.Common.{◌≡◌, ℕ, Bool, true, false, List, [], ◌∷◌, ◌++◌, Option, None, Some, refl, ap, subst, ◌∙◌, if◌then◌else◌}
use Rattle.svr_typed.specs.declared.CallList.{CallList}
use Rattle.svr_tree.specs.declared.ModeKind.{ModeKind}
use Rattle.svr_tree.specs.declared.RandomizeArgs.{RandomizeArgs}
use Rattle.svr_tree.specs.declared.RandomizeArgs.TheVariants as args
use Rattle.svr_tree.specs.ExprTree as raw
use Rattle.svr_tree.specs.ExprTree.{ExprTree, ExprTrees}
use Rattle.svr_tree.specs.ItemTree.{ItemTrees}
use Rattle.svr_tree.specs.StmtTree as tree
use Rattle.svr_tree.specs.StmtTree.{RandomizeTree, ModeTree, RightTree, StmtTree, StmtTrees}
use Rattle.svr_elab_fault.specs.declared.Fault.{Fault}
use Rattle.svr_elab_fault.specs.Refusals.{all, first_one, earlier, least, FirstOf}
use Rattle.svr_elab_fault.proofs.Least.{least_append, least_when, least_first, is_none-least}
use Rattle.svr_elab_names.specs.Names.{Space, PropName, class_props}
use Rattle.svr_elab_part.specs.declared.Form.{Form}
use Rattle.svr_elab_part.specs.Elab.{Elab, elab, value, plain}
use Rattle.svr_elab_form.specs.Gathered.{shown}
use Rattle.svr_elab_form.proofs.Shown.{elab_shown, value_shown, plain_shown}
use Rattle.svr_elab_type.specs.Types.{Constant, constant_of, constant_at}
use Rattle.svr_elab_item.specs.Items.{ItemsElab, no_items, outside}
use Rattle.svr_elab_set.specs.Gathered.{shown_items}
use Rattle.svr_elab_set.proofs.Shown.{items_shown}
use Rattle.svr_elab_target.specs.Targets.{target_of, is_object, answer_number}
use Rattle.svr_elab_target.specs.Named as named
use Rattle.svr_elab_stmt.specs.Stmts as spec
use Rattle.svr_elab_stmt.specs.Stmts.{StmtElab, StmtsElab, ValuesElab, ObjectPath, object_path}
use Rattle.svr_elab_list.specs.Gathered.{shown_stmt, shown_stmts, shown_values, shown_constant, KeepsTheFirst, TellsTheFirst}

-- ---- constants and names

constant_shown : (x : Elab (List Fault)) → shown_constant (constant_of all x) ≡ constant_of first_one (shown x)
constant_shown x = simp (least_append, least_when, is_none-least) refl

pub constant_at_shown : (n : Space) (e : ExprTree) → shown_constant (constant_at all n e) ≡ constant_at first_one n e
constant_at_shown n e = constant_shown (value all n e) ∙ ap (constant_of first_one) (value_shown n e)

unknown_shown : (x : Option ℕ) → least (spec.unknown_at all x) ≡ spec.unknown_at first_one x
unknown_shown None = refl
unknown_shown (Some name) = refl

use_shown : (made : List ℕ) (f : ℕ) (x : Option (ℕ × ℕ)) → least (spec.use_faults all made f x) ≡ spec.use_faults first_one made f x
use_shown made f None = refl
use_shown made f (Some x) = simp least_when refl

misplaced_shown : (f : Form) (b : Bool) → least (spec.misplaced all f b) ≡ spec.misplaced first_one f b
misplaced_shown f b = simp least_when refl

-- ---- assignments

and_value_shown : (m : Option ℕ) (vs : ValuesElab (List Fault)) (x : Elab (List Fault)) → shown_values (spec.and_value all m vs x) ≡ spec.and_value first_one m (shown_values vs) (shown x)
and_value_shown m vs x = simp (least_append, least_when) refl

values_shown : (n : Space) (m : Option ℕ) (vs : ValuesElab (List Fault)) (es : ExprTrees) → shown_values (spec.values all n m vs es) ≡ spec.values first_one n m (shown_values vs) es
values_shown n m vs raw.no_exprs = refl
values_shown n m vs (raw.more_exprs e es) =
    values_shown n m (spec.and_value all m vs (value all n e)) es
    ∙ ap (λ (u : ValuesElab (Option Fault)). spec.values first_one n m u es)
    (and_value_shown m vs (value all n e) ∙ ap (spec.and_value first_one m (shown_values vs)) (value_shown n e))

copied_shown : (x v : Elab (List Fault)) → shown_stmt (spec.copied all x v) ≡ spec.copied first_one (shown x) (shown v)
copied_shown x v = simp (least_append, least_when) refl

assigned_shown : (x v : Elab (List Fault)) → shown_stmt (spec.assigned all x v) ≡ spec.assigned first_one (shown x) (shown v)
assigned_shown x v = simp (least_append, least_when) refl

picked : (b : Bool) (x y : StmtElab (List Fault)) → shown_stmt (if b then x else y) ≡ (if b then shown_stmt x else shown_stmt y)
picked true x y = refl
picked false x y = refl

pub given_shown : (x v : Elab (List Fault)) → shown_stmt (spec.given all x v) ≡ spec.given first_one (shown x) (shown v)
given_shown x v =
    let b : Bool = is_object (target_of v.form) in
    picked b (spec.copied all x v) (spec.assigned all x (plain all v))
    ∙ ap (λ (u : StmtElab (Option Fault)). if b then u else shown_stmt (spec.assigned all x (plain all v))) (copied_shown x v)
    ∙ ap (λ (u : StmtElab (Option Fault)). if b then spec.copied first_one (shown x) (shown v) else u)
    (assigned_shown x (plain all v) ∙ ap (spec.assigned first_one (shown x)) (plain_shown v))

pub made_shown : (x : Elab (List Fault)) → shown_stmt (spec.made_new all x) ≡ spec.made_new first_one (shown x)
made_shown x = simp (least_append, least_when) refl

resize_stmt_shown : (x : Elab (List Fault)) (c : Constant (List Fault)) → shown_stmt (spec.resize_stmt all x c) ≡ spec.resize_stmt first_one (shown x) (shown_constant c)
resize_stmt_shown x c = simp (least_append, least_when) refl

pattern_shown : (f : Form) (at many : ℕ) → least (spec.pattern_faults all f at many) ≡ spec.pattern_faults first_one f at many
pattern_shown f at many = simp (least_append, least_when) refl

pattern_stmt_shown : (x : Elab (List Fault)) (at : ℕ) (vs : ValuesElab (List Fault)) → shown_stmt (spec.pattern_stmt all x at vs) ≡ spec.pattern_stmt first_one (shown x) at (shown_values vs)
pattern_stmt_shown x at vs = simp (least_append, least_when) refl

-- ---- calls and modes

names_shown : (text : ℕ → List ℕ) (ps : List PropName) (before : List (List ℕ)) (start : List Fault) (names : List ℕ)
    → least (named.names_faults all text ps before start names) ≡ named.names_faults first_one text ps before (least start) names
names_shown text ps before start [] = refl
names_shown text ps before start (name ∷ names) =
    names_shown text ps (named.and_listed before (text name)) (start ++ named.name_faults all ps before name (text name)) names
    ∙ ap (λ (u : Option Fault). named.names_faults first_one text ps (named.and_listed before (text name)) u names) (name_behind start name)
  where
    name_behind : (start : List Fault) (name : ℕ) → least (start ++ named.name_faults all ps before name (text name)) ≡ earlier (least start) (named.name_faults first_one ps before name (text name))
    name_behind start name = simp (least_append, least_when) refl

list_shown : (n : Space) (c : ℕ) (a : RandomizeArgs) → least (spec.list_faults all n c a) ≡ spec.list_faults first_one n c a
list_shown n c args.Empty = refl
list_shown n c args.Null = refl
list_shown n c (args.Names names) = names_shown n.text (class_props n.classes c) [] [] names

in_line_shown : (n : Space) (c : ℕ) (is : Option ItemTrees) → shown_items (spec.in_line_items all n c is) ≡ spec.in_line_items first_one n c is
in_line_shown n c None = refl
in_line_shown n c (Some is) = items_shown (spec.in_line_space n c) outside (no_items all) is

call_on_shown : (made : List ℕ) (p : ObjectPath) (a : Option ℕ) (x : ℕ × ℕ) (l : CallList) (r : List Fault) (is : ItemsElab (List Fault))
    → shown_stmt (spec.call_on all made p a x l r is) ≡ spec.call_on first_one made p a x l (least r) (shown_items is)
call_on_shown made p a x l r is = simp (least_append, least_when, unknown_shown) refl

call_of_shown : (n : Space) (p : ObjectPath) (answer : Option ℕ) (a : RandomizeArgs) (is : Option ItemTrees) (x : Option (ℕ × ℕ))
    → shown_stmt (spec.call_of all n p answer a is x) ≡ spec.call_of first_one n p answer a is x
call_of_shown n p answer a is None = refl
call_of_shown n p answer a is (Some x) =
    call_on_shown n.made p answer x (spec.call_list_of n x.1 a) (spec.list_faults all n x.1 a) (spec.in_line_items all n x.1 is)
    ∙ ap (λ (u : Option Fault). spec.call_on first_one n.made p answer x (spec.call_list_of n x.1 a) u (shown_items (spec.in_line_items all n x.1 is))) (list_shown n x.1 a)
    ∙ ap (λ (u : ItemsElab (Option Fault)). spec.call_on first_one n.made p answer x (spec.call_list_of n x.1 a) (spec.list_faults first_one n x.1 a) u) (in_line_shown n x.1 is)

randomized_shown : (n : Space) (answer : Option ℕ) (c : RandomizeTree) → shown_stmt (spec.randomized all n answer c) ≡ spec.randomized first_one n answer c
randomized_shown n answer c = call_of_shown n (object_path n c.path) answer c.args c.items (object_path n c.path).object

behind_shown : (f : List Fault) (s : StmtElab (List Fault)) → shown_stmt (spec.behind all f s) ≡ spec.behind first_one (least f) (shown_stmt s)
behind_shown f s = simp least_append refl

answer_shown : (x : Elab (List Fault)) → least (spec.answer_faults all x) ≡ spec.answer_faults first_one (shown x)
answer_shown x = simp (least_append, least_when) refl

answered_shown : (n : Space) (x : Elab (List Fault)) (c : RandomizeTree) → shown_stmt (spec.answered all n x c) ≡ spec.answered first_one n (shown x) c
answered_shown n x c =
    behind_shown (spec.answer_faults all x) (spec.randomized all n (answer_number (target_of x.form)) c)
    ∙ ap (λ (u : Option Fault). spec.behind first_one u (shown_stmt (spec.randomized all n (answer_number (target_of x.form)) c))) (answer_shown x)
    ∙ ap (spec.behind first_one (spec.answer_faults first_one (shown x))) (randomized_shown n (answer_number (target_of x.form)) c)

mode_on_shown : (made : List ℕ) (p : ObjectPath) (k : ModeKind) (x : ℕ × ℕ) (member : Option ℕ) (on : Elab (List Fault))
    → shown_stmt (spec.mode_on all made p k x member on) ≡ spec.mode_on first_one made p k x member (shown on)
mode_on_shown made p k x member on = simp (least_append, least_when, unknown_shown) refl

mode_of_shown : (n : Space) (p : ObjectPath) (k : ModeKind) (on : Elab (List Fault)) (x : Option (ℕ × ℕ)) → shown_stmt (spec.mode_of all n p k on x) ≡ spec.mode_of first_one n p k (shown on) x
mode_of_shown n p k on None = simp least_append refl
mode_of_shown n p k on (Some x) = mode_on_shown n.made p k x (spec.mode_member k n x.1 p.rest) on

mode_stmt_shown : (n : Space) (m : ModeTree) → shown_stmt (spec.mode_stmt all n m) ≡ spec.mode_stmt first_one n m
mode_stmt_shown n m =
    mode_of_shown n (object_path n m.path) m.kind (value all n m.on) (object_path n m.path).object
    ∙ ap (λ (u : Elab (Option Fault)). spec.mode_of first_one n (object_path n m.path) m.kind u (object_path n m.path).object) (value_shown n m.on)

-- ---- lists and repetition

repeat_stmt_shown : (c : Constant (List Fault)) (s : StmtElab (List Fault)) → shown_stmt (spec.repeat_stmt all c s) ≡ spec.repeat_stmt first_one (shown_constant c) (shown_stmt s)
repeat_stmt_shown c s = simp least_append refl

pub and_stmt_shown : (ss : StmtsElab (List Fault)) (s : StmtElab (List Fault)) → shown_stmts (spec.and_stmt all ss s) ≡ spec.and_stmt first_one (shown_stmts ss) (shown_stmt s)
and_stmt_shown ss s = simp least_append refl

assignment_shown : (n : Space) (x : Elab (List Fault)) (r : RightTree) → shown_stmt (spec.assignment all n x r) ≡ spec.assignment first_one n (shown x) r
assignment_shown n x (tree.value e) = given_shown x (elab all n e) ∙ ap (spec.given first_one (shown x)) (elab_shown n e)
assignment_shown n x (tree.new parens) = made_shown x
assignment_shown n x (tree.new_array e) = resize_stmt_shown x (constant_at all n e) ∙ ap (spec.resize_stmt first_one (shown x)) (constant_at_shown n e)
assignment_shown n x (tree.pattern at vs) =
    pattern_stmt_shown x at (spec.values all n x.form.members (spec.no_values all) vs)
    ∙ ap (spec.pattern_stmt first_one (shown x) at) (values_shown n x.form.members (spec.no_values all) vs)
assignment_shown n x (tree.answer c) = answered_shown n x c

mutual
  pub stmt_shown : (n : Space) (s : StmtTree) → shown_stmt (spec.stmt all n s) ≡ spec.stmt first_one n s
  stmt_shown n (tree.empty at) = refl
  stmt_shown n (tree.block at ss) = ap (spec.block_stmt first_one) (stmts_shown n (spec.no_stmts all n.made) ss)
  stmt_shown n (tree.repeat at e s) =
      repeat_stmt_shown (constant_at all n e) (spec.stmt all n s)
      ∙ ap (λ (u : Constant (Option Fault)). spec.repeat_stmt first_one u (shown_stmt (spec.stmt all n s))) (constant_at_shown n e)
      ∙ ap (λ (u : StmtElab (Option Fault)). spec.repeat_stmt first_one (constant_at first_one n e) u) (stmt_shown n s)
  stmt_shown n (tree.assign at x r) = assignment_shown n (elab all n x) r ∙ ap (λ (u : Elab (Option Fault)). spec.assignment first_one n u r) (elab_shown n x)
  stmt_shown n (tree.call at form c) = randomized_shown n None c
  stmt_shown n (tree.mode at m) = mode_stmt_shown n m

  pub stmts_shown : (n : Space) (ss : StmtsElab (List Fault)) (rest : StmtTrees) → shown_stmts (spec.stmts all n ss rest) ≡ spec.stmts first_one n (shown_stmts ss) rest
  stmts_shown n ss tree.no_stmts = refl
  stmts_shown n ss (tree.more_stmts s rest) =
      stmts_shown n (spec.and_stmt all ss (spec.stmt all (spec.with_made n ss.made) s)) rest
      ∙ ap (λ (u : StmtsElab (Option Fault)). spec.stmts first_one n u rest)
      (and_stmt_shown ss (spec.stmt all (spec.with_made n ss.made) s) ∙ ap (spec.and_stmt first_one (shown_stmts ss)) (stmt_shown (spec.with_made n ss.made) s))

pub kept : KeepsTheFirst
kept n s = stmt_shown n s

pub told : TellsTheFirst
told n s =
    let xs : List Fault = (spec.stmt all n s).faults in
    subst (FirstOf xs) (ap (λ (x : StmtElab (Option Fault)). x.faults) (kept n s)) (least_first xs)
