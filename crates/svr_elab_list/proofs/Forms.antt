-- What the walk needs of each form of statement, by its parts.
use Rattle.std.proofs.Common.{◌≡◌, ℕ, ◌+◌, ◌<◌, List, [], ◌∷◌, Option, Some, None, Result, Ok, Err, IfOk, take, drop, get_or, length, refl, sym, subst, ap, ◌∙◌}
use Rattle.std.specs.Result.{result_and}
use Rattle.std.proofs.lemmas.Result.{IfOk-weaker}
use Rattle.std.proofs.lemmas.List.{at_drop_more}
use Rattle.svr_typed.specs.declared.CallList.{CallList}
use Rattle.svr_tree.specs.declared.RandomizeArgs.{RandomizeArgs}
use Rattle.svr_tree.specs.ExprTree.{ExprTree}
use Rattle.svr_tree.specs.ItemTree.{ItemTrees}
use Rattle.svr_tree.specs.StmtTree as tree
use Rattle.svr_tree.specs.declared.Stmt.{Stmt}
use Rattle.svr_tree.specs.StmtTree.{RandomizeTree, ModeTree, RightTree, StmtTree, StmtTrees, stmt_tree, stmt_trees}
use Rattle.svr_elab_fault.specs.declared.Fault.{Fault}
use Rattle.svr_elab_fault.specs.Refusals.{first_one}
use Rattle.svr_elab_names.specs.Names.{Space, PropName, class_props}
use Rattle.svr_elab_part.specs.Elab.{Elab, elab}
use Rattle.svr_elab_type.specs.Types.{Constant, constant_at}
use Rattle.svr_elab_item.specs.declared.Around.{Around}
use Rattle.svr_elab_item.specs.declared.part.ItemsPart.{ItemsPart}
use Rattle.svr_elab_item.specs.Items as item_spec
use Rattle.svr_elab_item.specs.Items.{ItemsElab}
use Rattle.svr_elab_item.specs.Seen.{items_part}
use Rattle.svr_elab_stmt.specs.declared.part.StmtPart.{StmtPart}
use Rattle.svr_elab_stmt.specs.declared.part.StmtsPart.{StmtsPart}
use Rattle.svr_elab_stmt.specs.Seen.{stmt_part, stmts_part}
use Rattle.svr_elab_target.specs.Targets.{target_of, answer_number}
use Rattle.svr_elab_stmt.specs.Stmts as spec
use Rattle.svr_elab_stmt.specs.Stmts.{StmtElab, StmtsElab, ValuesElab, ObjectPath, object_path}
use Rattle.svr_elab_list.proofs.Fitting.{take_made}

abbrev One : Type 0
One = StmtElab (Option Fault)

abbrev Many : Type 0
Many = StmtsElab (Option Fault)

abbrev Part : Type 0
Part = Elab (Option Fault)

abbrev Items : Type 0
Items = ItemsElab (Option Fault)

-- ---- in-line sets and calls

pub items_are : (n i : Space) (ps : List PropName) (o : Around) (r : Items) (is : ItemTrees)
    → r ≡ item_spec.items first_one i o (item_spec.no_items first_one) is → i ≡ spec.in_line_with n ps → o ≡ item_spec.outside
    → r ≡ item_spec.items first_one (spec.in_line_with n ps) item_spec.outside (item_spec.no_items first_one) is
items_are n i ps o r is h p q =
    h ∙ ap (λ (i : Space). item_spec.items first_one i o (item_spec.no_items first_one) is) p
    ∙ ap (λ (o : Around). item_spec.items first_one (spec.in_line_with n ps) o (item_spec.no_items first_one) is) q

pub alone_is : {E : Type 0} (n : Space) (ps : List PropName) (r : Result ItemsPart E) (is : ItemTrees)
    → IfOk r (λ p. items_part p ≡ item_spec.items first_one (spec.in_line_with n ps) item_spec.outside (item_spec.no_items first_one) is) → ps ≡ []
    → IfOk r (λ p. items_part p ≡ item_spec.items first_one (spec.in_line_with n []) item_spec.outside (item_spec.no_items first_one) is)
alone_is n ps r is h e = subst (λ (ps : List PropName). IfOk r (λ p. items_part p ≡ item_spec.items first_one (spec.in_line_with n ps) item_spec.outside (item_spec.no_items first_one) is)) e h

pub in_line_is : (n : Space) (c : ℕ) (ps : List PropName) (r : Items) (is : ItemTrees)
    → r ≡ item_spec.items first_one (spec.in_line_with n ps) item_spec.outside (item_spec.no_items first_one) is → ps ≡ class_props n.classes c
    → r ≡ spec.in_line_items first_one n c (Some is)
in_line_is n c ps r is h p = h ∙ ap (λ (ps : List PropName). item_spec.items first_one (spec.in_line_with n ps) item_spec.outside (item_spec.no_items first_one) is) p

pub call_is : (n : Space) (p : ObjectPath) (answer : Option ℕ) (a : RandomizeArgs) (set : Option ItemTrees) (x : ℕ × ℕ) (l : CallList) (f : Option Fault) (is : Items) (r : One)
    → r ≡ spec.call_on first_one n.made p answer x l f is → l ≡ spec.call_list_of n x.1 a → f ≡ spec.list_faults first_one n x.1 a → is ≡ spec.in_line_items first_one n x.1 set
    → r ≡ spec.call_of first_one n p answer a set (Some x)
call_is n p answer a set x l f is r h i j k =
    h ∙ ap (λ (l : CallList). spec.call_on first_one n.made p answer x l f is) i
    ∙ ap (λ (f : Option Fault). spec.call_on first_one n.made p answer x (spec.call_list_of n x.1 a) f is) j
    ∙ ap (λ (is : Items). spec.call_on first_one n.made p answer x (spec.call_list_of n x.1 a) (spec.list_faults first_one n x.1 a) is) k

pub randomized_is : (n : Space) (answer : Option ℕ) (c : RandomizeTree) (p : ObjectPath) (r : One)
    → r ≡ spec.call_of first_one n p answer c.args c.items p.object → p ≡ object_path n c.path → r ≡ spec.randomized first_one n answer c
randomized_is n answer c p r h e = h ∙ ap (λ (p : ObjectPath). spec.call_of first_one n p answer c.args c.items p.object) e

pub answered_is : (n : Space) (x : Part) (c : RandomizeTree) (f : Option Fault) (k : Option ℕ) (s r : One)
    → r ≡ spec.behind first_one f s → f ≡ spec.answer_faults first_one x → s ≡ spec.randomized first_one n k c → k ≡ answer_number (target_of x.form)
    → r ≡ spec.answered first_one n x c
answered_is n x c f k s r h i j e =
    h ∙ ap (λ (f : Option Fault). spec.behind first_one f s) i
    ∙ ap (λ (s : One). spec.behind first_one (spec.answer_faults first_one x) s) (j ∙ ap (λ (k : Option ℕ). spec.randomized first_one n k c) e)

-- ---- assignments

pub given_is : (x v w : Part) (r : One) → r ≡ spec.given first_one x v → v ≡ w → r ≡ spec.given first_one x w
given_is x v w r h e = h ∙ ap (λ (v : Part). spec.given first_one x v) e

pub resize_stmt_is : (x : Part) (v w : Constant (Option Fault)) (r : One) → r ≡ spec.resize_stmt first_one x v → v ≡ w → r ≡ spec.resize_stmt first_one x w
resize_stmt_is x v w r h e = h ∙ ap (λ (v : Constant (Option Fault)). spec.resize_stmt first_one x v) e

pub pattern_stmt_is : (x : Part) (at : ℕ) (v w : ValuesElab (Option Fault)) (r : One) → r ≡ spec.pattern_stmt first_one x at v → v ≡ w → r ≡ spec.pattern_stmt first_one x at w
pattern_stmt_is x at v w r h e = h ∙ ap (λ (v : ValuesElab (Option Fault)). spec.pattern_stmt first_one x at v) e

pub assign_is : (n : Space) (x y : Part) (right : RightTree) (r : One) → r ≡ spec.assignment first_one n x right → x ≡ y → r ≡ spec.assignment first_one n y right
assign_is n x y right r h e = h ∙ ap (λ (x : Part). spec.assignment first_one n x right) e

-- ---- where other object variables have an object

pub assign_there : (m n : Space) (x : ExprTree) (right : RightTree) (r : One) → r ≡ spec.assignment first_one m (elab first_one m x) right → m ≡ n → r ≡ spec.assignment first_one n (elab first_one n x) right
assign_there m n x right r h e = h ∙ ap (λ (m : Space). spec.assignment first_one m (elab first_one m x) right) e

pub call_there_is : (m n : Space) (c : RandomizeTree) (r : One) → r ≡ spec.randomized first_one m None c → m ≡ n → r ≡ spec.randomized first_one n None c
call_there_is m n c r h e = h ∙ ap (λ (m : Space). spec.randomized first_one m None c) e

pub mode_there_is : (m n : Space) (c : ModeTree) (r : One) → r ≡ spec.mode_stmt first_one m c → m ≡ n → r ≡ spec.mode_stmt first_one n c
mode_there_is m n c r h e = h ∙ ap (λ (m : Space). spec.mode_stmt first_one m c) e

pub constant_there : (m n : Space) (x : ExprTree) (r : Constant (Option Fault)) → r ≡ constant_at first_one m x → m ≡ n → r ≡ constant_at first_one n x
constant_there m n x r h e = h ∙ ap (λ (m : Space). constant_at first_one m x) e

-- ---- lists and repetition

-- what is there where something else was noted before it
pub grown_is : {U T E : Type 0} (g : Result U E) (s r : Result T E) (P : Type 0) (Q R : T → Type 0) → r ≡ result_and g s → IfOk g (λ _. P) → IfOk s Q → ((x : T) → P → Q x → R x) → IfOk r R
grown_is {T = T} {E = E} (Ok u) s r P Q R e p q f = subst (λ (r : Result T E). IfOk r R) (sym e) (IfOk-weaker s Q R (λ x h. f x p h) q)
grown_is {T = T} {E = E} (Err fault) s r P Q R e p q f = subst (λ (r : Result T E). IfOk r R) (sym e) tt

pub next_is : (old new : List ℕ) (makes : Option ℕ) (p : Many) (q : StmtsPart) → new ≡ spec.and_made old makes → stmts_part (spec.and_made old makes) q ≡ p → stmts_part new q ≡ p
next_is old new makes p q e h = ap (λ (made : List ℕ). stmts_part made q) e ∙ h

pub repeat_stmt_is : (c d : Constant (Option Fault)) (s t r : One) → r ≡ spec.repeat_stmt first_one c s → c ≡ d → s ≡ t → r ≡ spec.repeat_stmt first_one d t
repeat_stmt_is c d s t r h e f = h ∙ ap (λ (c : Constant (Option Fault)). spec.repeat_stmt first_one c s) e ∙ ap (λ (s : One). spec.repeat_stmt first_one d s) f

-- each statement of a list has the object variables of the list, whatever the names say
pub same_made : (n : Space) (made : List ℕ) (ss : Many) (rest : StmtTrees) → spec.stmts first_one n ss rest ≡ spec.stmts first_one (spec.with_made n made) ss rest
same_made n made ss tree.no_stmts = refl
same_made n made ss (tree.more_stmts s rest) = same_made n made (spec.and_stmt first_one ss (spec.stmt first_one (spec.with_made n ss.made) s)) rest

pub block_is : (n : Space) (old new : List ℕ) (p : StmtsPart) (ss : StmtTrees) (r : One)
    → r ≡ spec.block_stmt first_one (stmts_part new p) → stmts_part new p ≡ spec.stmts first_one n (spec.no_stmts first_one old) ss
    → r ≡ spec.block_stmt first_one (spec.stmts first_one (spec.with_made n old) (spec.no_stmts first_one old) ss)
block_is n old new p ss r h e = h ∙ ap (spec.block_stmt first_one) (e ∙ same_made n old (spec.no_stmts first_one old) ss)

-- the first of those that are left of a list
pub rest_is : (xs : List Stmt) (i : ℕ) (x : Stmt) → i < length xs → x ≡ get_or xs i x → stmt_trees (drop i xs) ≡ tree.more_stmts (stmt_tree x) (stmt_trees (drop (i + 1) xs))
rest_is xs i x h e = at_drop_more stmt_trees xs i x h ∙ ap (λ (x : Stmt). tree.more_stmts (stmt_tree x) (stmt_trees (drop (i + 1) xs))) (sym e)

-- before the first statement
pub all_kept : (xs : List ℕ) → take (length xs) xs ≡ xs
all_kept [] = refl
all_kept (x ∷ xs) = ap (λ (ys : List ℕ). x ∷ ys) (all_kept xs)

pub start_is : (n : Space) (ss : Many) (made : List ℕ) (rest : StmtTrees) → ss ≡ spec.no_stmts first_one made → spec.stmts first_one n ss rest ≡ spec.stmts first_one n (spec.no_stmts first_one made) rest
start_is n ss made rest h = ap (λ (ss : Many). spec.stmts first_one n ss rest) h

-- one more statement of a list is what the definition takes next
pub step_is : (n : Space) (old mid new : List ℕ) (p q : StmtsPart) (s : StmtPart) (each : StmtTree) (rest : StmtTrees) (z : Many)
    → mid ≡ old → stmts_part new q ≡ spec.and_stmt first_one (stmts_part mid p) (stmt_part s) → stmt_part s ≡ spec.stmt first_one (spec.with_made n old) each
    → spec.stmts first_one n (stmts_part old p) (tree.more_stmts each rest) ≡ z → spec.stmts first_one n (stmts_part new q) rest ≡ z
step_is n old mid new p q s each rest z same h e known =
    ap (λ (ss : Many). spec.stmts first_one n ss rest)
    (h ∙ ap (λ (made : List ℕ). spec.and_stmt first_one (stmts_part made p) (stmt_part s)) same ∙ ap (λ (s : One). spec.and_stmt first_one (stmts_part old p) s) e)
    ∙ known

-- what is dropped behind a block was made in it
pub kept : (old new last : List ℕ) (k : ℕ) → last ≡ take k new → k ≡ length old → take (length old) new ≡ old → last ≡ old
kept old new last k h e is = h ∙ ap (λ (k : ℕ). take k new) e ∙ is

-- what was made before a statement is there behind it
pub before_is : (start old mid new : List ℕ) (makes : Option ℕ) → mid ≡ old → new ≡ spec.and_made mid makes → take (length start) old ≡ start → take (length start) new ≡ start
before_is start old mid new makes same h is =
    ap (take (length start)) (h ∙ ap (λ (made : List ℕ). spec.and_made made makes) same) ∙ take_made start old makes is
