-- Statements, typed, with their refusals (IEEE 1800-2017, clauses 8.7, 10, 12 and 18).
use Rattle.std.specs.Prelude.{ℕ, ◌+◌, ◌*◌, min, nat_eq, nat_lt, ℤ, pos, Bool, true, false, not, if◌then◌else◌, List, [], Option, Some, None, option_map}
use Rattle.svr_limits.specs.declared.limit.TheConstants.{ELEMENT_LIMIT, STATEMENT_LIMIT}
use Rattle.svr_typed.specs.declared.CallList.{CallList}
use Rattle.svr_typed.specs.ExprTerm as term
use Rattle.svr_typed.specs.ExprTerm.{ExprTerm, NodeTerm, typed}
use Rattle.svr_typed.specs.ItemTerm as item_term
use Rattle.svr_typed.specs.ItemTerm.{ItemTerm}
use Rattle.svr_typed.specs.StmtTerm as stmt_term
use Rattle.svr_typed.specs.StmtTerm.{StmtTerm}
use Rattle.svr_tree.specs.declared.ModeKind.{ModeKind}
use Rattle.svr_tree.specs.declared.ModeKind.TheVariants as mode_kind
use Rattle.svr_tree.specs.declared.RandomizeArgs.{RandomizeArgs}
use Rattle.svr_tree.specs.ExprTree as raw
use Rattle.svr_tree.specs.ExprTree.{ExprTrees}
use Rattle.svr_tree.specs.ItemTree.{ItemTrees}
use Rattle.svr_tree.specs.StmtTree as tree
use Rattle.svr_tree.specs.StmtTree.{RandomizeTree, ModeTree, RightTree, StmtTree, StmtTrees}
use Rattle.svr_refusal.specs.declared.Refusal.TheVariants as refusal
use Rattle.svr_elab_fault.specs.Refusals.{Gather, when}
use Rattle.svr_elab_names.specs.declared.Dims.{Dims}
use Rattle.svr_elab_names.specs.declared.Dims.TheVariants as dims
use Rattle.svr_elab_names.specs.Names.{Space}
use Rattle.svr_elab_part.specs.declared.Form.{Form}
use Rattle.svr_elab_part.specs.Elab.{Elab, elab, value, plain}
use Rattle.svr_elab_part.specs.Shapes.{both_known, and_more, is_less, count_of}
use Rattle.svr_elab_type.specs.Types.{Constant, constant_at}
use Rattle.svr_elab_type.specs.Types.{elements, is_not, is_below}
use Rattle.svr_elab_item.specs.Items.{ItemsElab, items, no_items, outside}
use Rattle.svr_elab_target.specs.declared.target.Target.{Target}
use Rattle.svr_elab_target.specs.declared.target.Target.TheVariants as target
use Rattle.svr_elab_target.specs.Targets.{target_of, is_object, is_settable, is_resizable, is_array, answer_number, object_number, array_dims}
pub use Rattle.svr_elab_target.specs.Named.{ObjectPath, and_made, with_made, object_path, call_list_of, in_line_with, in_line_space, mode_member, wrong_member, wrong_rest, unknown_at, misplaced, use_faults, list_faults, answer_faults}

-- `makes`: the object variable that has an object behind the statement, where it is `new`; `count`: how many statements run, where more than `STATEMENT_LIMIT` count as one more
pub record StmtElab (F : Type 0) : Type 0 where
  pub tree : Option StmtTerm
  pub faults : F
  pub makes : Option ℕ
  pub count : ℕ

-- statements one behind the other; `made`: the object variables that have an object behind them
pub record StmtsElab (F : Type 0) : Type 0 where
  pub trees : Option (List StmtTerm)
  pub faults : F
  pub made : List ℕ
  pub count : ℕ

-- the values of an assignment pattern, and how many they are
pub record ValuesElab (F : Type 0) : Type 0 where
  pub trees : Option (List ExprTerm)
  pub faults : F
  pub many : ℕ

-- ---- how many statements run

abbrev pub capped : ℕ → ℕ
capped n = min n (STATEMENT_LIMIT + 1)

-- a body whose count has no value counts once
abbrev pub times : Option ℤ → ℕ
times None = 1
times (Some n) = count_of n

-- ---- the statements that assignments are

abbrev pub inner_index : NodeTerm → Option ExprTerm
inner_index (term.element p i) = Some i
inner_index n = None

abbrev pub inner_of : ExprTerm → Option ExprTerm
inner_of (typed w s n) = inner_index n

abbrev pub node_index : NodeTerm → Option ExprTerm
node_index (term.of_object o e) = inner_of e
node_index n = None

-- the place of an element among all elements of an object's array; none of a scalar
abbrev pub index_of : ExprTerm → Option ExprTerm
index_of (typed w s n) = node_index n

abbrev pub set_property : ℕ → ℕ → ExprTerm → ExprTerm → StmtTerm
set_property o p x e = stmt_term.set_prop o p (index_of x) e

-- `x` is the left side as an expression
abbrev pub set_tree : Target → Option ExprTerm → Option ExprTerm → Option StmtTerm
set_tree target.Nothing x e = None
set_tree (target.Object o) x e = None
set_tree (target.Variable v) x e = option_map (stmt_term.set_var v) e
set_tree (target.Place o p) x e = both_known (set_property o p.number) x e
set_tree (target.Array o p) x e = None

abbrev pub make_tree : Target → Option StmtTerm
make_tree t = option_map stmt_term.make (object_number t)

abbrev pub resize_tree : Target → Option ℤ → Option StmtTerm
resize_tree target.Nothing c = None
resize_tree (target.Object o) c = None
resize_tree (target.Variable v) c = None
resize_tree (target.Place o p) c = None
resize_tree (target.Array o p) c = option_map (λ c. stmt_term.resize o p.number (elements c)) c

abbrev pub is_above : ℤ → Option ℤ → Bool
is_above n None = false
is_above n (Some x) = is_less n x

abbrev pub pattern_tree : Target → Option (List ExprTerm) → Option StmtTerm
pattern_tree target.Nothing vs = None
pattern_tree (target.Object o) vs = None
pattern_tree (target.Variable v) vs = None
pattern_tree (target.Place o p) vs = None
pattern_tree (target.Array o p) vs = option_map (λ vs. stmt_term.pattern o p.number (term.exprs_of vs)) vs

-- an array of two dimensions is given no pattern
abbrev pub has_rows : Dims → Bool
has_rows dims.Scalar = false
has_rows (dims.Fixed n) = false
has_rows (dims.Rows n m) = true
has_rows dims.Dynamic = false

abbrev pub is_other_count : ℕ → Option ℕ → Bool
is_other_count k None = false
is_other_count k (Some n) = not (nat_eq k n)

-- a pattern for a fixed array has its size (10.9.1)
abbrev pub has_other_size : Dims → ℕ → Bool
has_other_size dims.Scalar k = false
has_other_size (dims.Fixed n) k = is_other_count k n
has_other_size (dims.Rows n m) k = false
has_other_size dims.Dynamic k = false

abbrev pub repeat_tree : Option ℤ → Option StmtTerm → Option StmtTerm
repeat_tree c t = both_known (λ c t. stmt_term.repeat (elements c) t) c t

abbrev pub list_tree : Option (List StmtTerm) → Option StmtTerm
list_tree ts = option_map (λ ts. stmt_term.list (stmt_term.stmts_of ts)) ts

abbrev pub call_tree : ℕ → CallList → Option ℕ → Option (List ItemTerm) → Option StmtTerm
call_tree o l answer is = option_map (λ is. stmt_term.call (record { object = o; list = l; items = item_term.items_of is; answer = answer })) is

abbrev pub mode_term : ModeKind → ℕ → Option ℕ → ExprTerm → StmtTerm
mode_term mode_kind.Rand o p on = stmt_term.rand_mode o p on
mode_term mode_kind.Constraint o b on = stmt_term.constraint_mode o b on

module _ {F : Type 0} (g : Gather F) where
  -- a statement that counts once and makes no object
  abbrev pub one_stmt : Option StmtTerm → F → StmtElab F
  one_stmt t faults = record { tree = t; faults = faults; makes = None; count = 1 }

  -- ---- assignments of values; an object variable that is the whole right side is copied, which is refused alone

  abbrev pub copied : Elab F → Elab F → StmtElab F
  copied x v = one_stmt None (g.both x.faults (g.both v.faults (when g true v.form.name refusal.LeftOut)))

  abbrev pub assigned_faults : Elab F → Elab F → F
  assigned_faults x v =
      g.both x.faults (g.both v.faults (g.both (misplaced g x.form (is_settable (target_of x.form))) (when g (is_not x.form.members v.form.members) v.at refusal.EnumAssign)))

  abbrev pub assigned : Elab F → Elab F → StmtElab F
  assigned x v = one_stmt (set_tree (target_of x.form) x.tree v.tree) (assigned_faults x v)

  abbrev pub given : Elab F → Elab F → StmtElab F
  given x v = if is_object (target_of v.form) then copied x v else assigned x (plain g v)

  -- ---- `new`, `new[..]` and patterns

  abbrev pub made_new : Elab F → StmtElab F
  made_new x = record {
    tree = make_tree (target_of x.form);
    faults = g.both x.faults (misplaced g x.form (is_object (target_of x.form)));
    makes = object_number (target_of x.form);
    count = 1;
  }

  -- what a size itself is refused for
  abbrev pub size_faults : Constant F → F
  size_faults c = g.both (when g (is_below (pos 0) c.number) c.at refusal.BadRange) (when g (is_above (pos ELEMENT_LIMIT) c.number) c.at refusal.TooMany)

  abbrev pub resize_stmt : Elab F → Constant F → StmtElab F
  resize_stmt x c =
      one_stmt (resize_tree (target_of x.form) c.number)
      (g.both x.faults (g.both c.faults (g.both (misplaced g x.form (is_resizable (target_of x.form))) (size_faults c))))

  abbrev pub and_value : Option ℕ → ValuesElab F → Elab F → ValuesElab F
  and_value members vs x = record {
    trees = and_more vs.trees x.tree;
    faults = g.both vs.faults (g.both x.faults (when g (is_not members x.form.members) x.at refusal.EnumAssign));
    many = vs.many + 1;
  }

  abbrev pub no_values : ValuesElab F
  no_values = record { trees = Some []; faults = g.nothing; many = 0 }

  -- `members` is the enum of the elements
  abbrev pub values : Space → Option ℕ → ValuesElab F → ExprTrees → ValuesElab F
  values n members vs raw.no_exprs = vs
  values n members vs (raw.more_exprs e es) = values n members (and_value members vs (value g n e)) es

  -- what so many values, whose first token is `at`, are refused for by the dimensions of the array
  abbrev pub count_faults : Dims → ℕ → ℕ → F
  count_faults ds at many = g.both (when g (has_other_size ds many) at refusal.BadRange) (when g (nat_lt ELEMENT_LIMIT many) at refusal.TooMany)

  -- what a pattern of so many values is refused for by the array
  abbrev pub pattern_faults : Form → ℕ → ℕ → F
  pattern_faults f at many =
      g.both (misplaced g f (is_array (target_of f)))
      (g.both (when g (has_rows (array_dims (target_of f))) f.name refusal.LeftOut) (count_faults (array_dims (target_of f)) at many))

  abbrev pub pattern_stmt : Elab F → ℕ → ValuesElab F → StmtElab F
  pattern_stmt x at vs = one_stmt (pattern_tree (target_of x.form) vs.trees) (g.both x.faults (g.both vs.faults (pattern_faults x.form at vs.many)))

  -- ---- calls of `randomize` (18.6, 18.7 and 18.11)

  abbrev pub in_line_items : Space → ℕ → Option ItemTrees → ItemsElab F
  in_line_items n c None = no_items g
  in_line_items n c (Some is) = items g (in_line_space n c) outside (no_items g) is

  -- `refused`: of the list
  abbrev pub call_on : List ℕ → ObjectPath → Option ℕ → ℕ × ℕ → CallList → F → ItemsElab F → StmtElab F
  call_on made p answer x l refused is =
      one_stmt (call_tree x.0 l answer is.trees)
      (g.both (use_faults g made p.first (Some x)) (g.both (unknown_at g (wrong_rest p.rest)) (g.both refused is.faults)))

  abbrev pub call_of : Space → ObjectPath → Option ℕ → RandomizeArgs → Option ItemTrees → Option (ℕ × ℕ) → StmtElab F
  call_of n p answer a is None = one_stmt None (use_faults g n.made p.first None)
  call_of n p answer a is (Some x) = call_on n.made p answer x (call_list_of n x.1 a) (list_faults g n x.1 a) (in_line_items n x.1 is)

  -- `answer`: the variable that takes the answer
  abbrev pub randomized : Space → Option ℕ → RandomizeTree → StmtElab F
  randomized n answer c = call_of n (object_path n c.path) answer c.args c.items (object_path n c.path).object

  abbrev pub behind : F → StmtElab F → StmtElab F
  behind before s = record { tree = s.tree; faults = g.both before s.faults; makes = s.makes; count = s.count }

  abbrev pub answered : Space → Elab F → RandomizeTree → StmtElab F
  answered n x c = behind (answer_faults g x) (randomized n (answer_number (target_of x.form)) c)

  -- ---- modes (18.8 and 18.9)

  abbrev pub mode_on : List ℕ → ObjectPath → ModeKind → ℕ × ℕ → Option ℕ → Elab F → StmtElab F
  mode_on made p k x member on =
      one_stmt (option_map (mode_term k x.0 member) on.tree)
      (g.both (use_faults g made p.first (Some x)) (g.both (unknown_at g (wrong_member member p.rest)) on.faults))

  abbrev pub mode_of : Space → ObjectPath → ModeKind → Elab F → Option (ℕ × ℕ) → StmtElab F
  mode_of n p k on None = one_stmt None (g.both (use_faults g n.made p.first None) on.faults)
  mode_of n p k on (Some x) = mode_on n.made p k x (mode_member k n x.1 p.rest) on

  abbrev pub mode_stmt : Space → ModeTree → StmtElab F
  mode_stmt n m = mode_of n (object_path n m.path) m.kind (value g n m.on) (object_path n m.path).object

  -- ---- lists and repetition (9.3.1 and 12.7.1); an object that is made in one is there in it alone

  abbrev pub repeat_stmt : Constant F → StmtElab F → StmtElab F
  repeat_stmt c s = record {
    tree = repeat_tree c.number s.tree;
    faults = g.both c.faults s.faults;
    makes = None;
    count = capped (1 + times c.number * s.count);
  }

  abbrev pub block_stmt : StmtsElab F → StmtElab F
  block_stmt ss = record { tree = list_tree ss.trees; faults = ss.faults; makes = None; count = capped (1 + ss.count) }

  abbrev pub no_stmts : List ℕ → StmtsElab F
  no_stmts made = record { trees = Some []; faults = g.nothing; made = made; count = 0 }

  abbrev pub and_stmt : StmtsElab F → StmtElab F → StmtsElab F
  and_stmt ss s = record {
    trees = and_more ss.trees s.tree;
    faults = g.both ss.faults s.faults;
    made = and_made ss.made s.makes;
    count = capped (ss.count + s.count);
  }

  -- ---- the whole; `n` says what names stand for

  -- `x` is the left side
  abbrev pub assignment : Space → Elab F → RightTree → StmtElab F
  assignment n x (tree.value e) = given x (elab g n e)
  assignment n x (tree.new parens) = made_new x
  assignment n x (tree.new_array e) = resize_stmt x (constant_at g n e)
  assignment n x (tree.pattern at vs) = pattern_stmt x at (values n x.form.members no_values vs)
  assignment n x (tree.answer c) = answered n x c

  abbrev mutual
    pub stmt : Space → StmtTree → StmtElab F
    stmt n (tree.empty at) = one_stmt (Some (stmt_term.list stmt_term.no_stmts)) g.nothing
    stmt n (tree.block at ss) = block_stmt (stmts n (no_stmts n.made) ss)
    stmt n (tree.repeat at e s) = repeat_stmt (constant_at g n e) (stmt n s)
    stmt n (tree.assign at x r) = assignment n (elab g n x) r
    stmt n (tree.call at form c) = randomized n None c
    stmt n (tree.mode at m) = mode_stmt n m

    -- statements behind those that `ss` tells of
    pub stmts : Space → StmtsElab F → StmtTrees → StmtsElab F
    stmts n ss tree.no_stmts = ss
    stmts n ss (tree.more_stmts s rest) = stmts n (and_stmt ss (stmt (with_made n ss.made) s)) rest
