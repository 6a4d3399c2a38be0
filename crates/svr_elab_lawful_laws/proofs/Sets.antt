-- The sets behind calls of a script that was read are as the grammar has them.
use Rattle.std.proofs.Common.{ℕ, ◌+◌, ◌≤◌, max, List, [], ◌∷◌, Option, None, Some, arith}
use Rattle.svr_limits.specs.declared.limit.TheConstants.{HEIGHT_LIMIT}
use Rattle.svr_tree.specs.Tokens.{Each}
use Rattle.svr_tree.specs.ExprGrammar.{expr_height}
use Rattle.svr_tree.specs.ItemTree as item
use Rattle.svr_tree.specs.ItemTree.{ItemTree, ItemTrees}
use Rattle.svr_tree.specs.ItemGrammar.{IsItem, AreItems, IsBlockItem, AreBlockItems}
use Rattle.svr_tree.specs.DeclGrammar.{greatest, typedef_height, class_height, var_height}
use Rattle.svr_tree.specs.StmtTree as tree
use Rattle.svr_tree.specs.StmtTree.{StmtTree, StmtTrees, RightTree, RandomizeTree}
use Rattle.svr_tree.specs.StmtGrammar.{IsWith, IsRight, IsStmt, AreStmts, with_height, right_height, stmt_height, stmts_height}
use Rattle.svr_tree.specs.ScriptGrammar.{unit_height}
use Rattle.svr_elab_stmt.specs.Fits.{InLineFits, RightFits, StmtFits, StmtsFit}
use Rattle.svr_elab_unit.specs.Fits.{AllStmtsFit}
use Rattle.svr_elab_lawful_laws.specs.Walks.{SetIs, RightSet, SetsAre, AllSetsAre, TopsAre, UnitsAreRead}

left_of : (a b n : ℕ) → max a b ≤ n → a ≤ n
left_of a b n h = omega (arith, h)

right_of : (a b n : ℕ) → max a b ≤ n → b ≤ n
right_of a b n h = omega (arith, h)

below : (a n : ℕ) → a + 1 ≤ n → a ≤ n
below a n h = omega (arith, h)

-- an item of a set may stand in a block
block_item : (i : ItemTree) → IsItem i → IsBlockItem i
block_item (item.plain at b e d) h = h
block_item (item.unique at es) h = h
block_item (item.implies at t b) h = h
block_item (item.branch at t m u) h = h
block_item (item.foreach at a vs b) h = h
block_item (item.disable at t) h = h
block_item (item.solve at f l) h = absurd h

block_items : (is : ItemTrees) → AreItems is → AreBlockItems is
block_items item.no_items h = tt
block_items (item.more_items i is) h = (block_item i h.0, block_items is h.1)

set_is : (is : Option ItemTrees) → IsWith is → with_height is ≤ HEIGHT_LIMIT → InLineFits 0 is → SetIs is
set_is None h l f = tt
set_is (Some is) h l f = (f.1, block_items is h, l)

right_is : (r : RightTree) → IsRight r → right_height r ≤ HEIGHT_LIMIT → RightFits 0 r → RightSet r
right_is (tree.value e) h l f = tt
right_is (tree.new parens) h l f = tt
right_is (tree.new_array e) h l f = tt
right_is (tree.pattern at vs) h l f = tt
right_is (tree.answer c) h l f = set_is c.items h.2 (right_of (expr_height c.path) (with_height c.items) HEIGHT_LIMIT l) f.1

mutual
  sets_are : (s : StmtTree) → IsStmt s → stmt_height s ≤ HEIGHT_LIMIT → StmtFits 0 s → SetsAre s
  sets_are (tree.empty at) h l f = tt
  sets_are (tree.block at ss) h l f = all_sets_are ss h (below (stmts_height ss) HEIGHT_LIMIT l) f
  sets_are (tree.repeat at e s) h l f = sets_are s h.1 (right_of (expr_height e) (stmt_height s) HEIGHT_LIMIT (below (max (expr_height e) (stmt_height s)) HEIGHT_LIMIT l)) f.1
  sets_are (tree.assign at x r) h l f = right_is r h.2 (right_of (expr_height x) (right_height r) HEIGHT_LIMIT (below (max (expr_height x) (right_height r)) HEIGHT_LIMIT l)) f.1
  sets_are (tree.call at form c) h l f = set_is c.items h.1.2 (right_of (expr_height c.path) (with_height c.items) HEIGHT_LIMIT (below (max (expr_height c.path) (with_height c.items)) HEIGHT_LIMIT l)) f.1
  sets_are (tree.mode at m) h l f = tt

  all_sets_are : (ss : StmtTrees) → AreStmts ss → stmts_height ss ≤ HEIGHT_LIMIT → StmtsFit 0 ss → AllSetsAre ss
  all_sets_are tree.no_stmts h l f = tt
  all_sets_are (tree.more_stmts s ss) h l f =
      (sets_are s h.0 (left_of (stmt_height s) (stmts_height ss) HEIGHT_LIMIT l) f.0, all_sets_are ss h.1 (right_of (stmt_height s) (stmts_height ss) HEIGHT_LIMIT l) f.1)

tops_are : (ss : List StmtTree) → Each IsStmt ss → greatest stmt_height ss ≤ HEIGHT_LIMIT → AllStmtsFit 0 ss → TopsAre ss
tops_are [] h l f = tt
tops_are (s ∷ ss) h l f =
    (sets_are s h.0 (left_of (stmt_height s) (greatest stmt_height ss) HEIGHT_LIMIT l) f.0, tops_are ss h.1 (right_of (stmt_height s) (greatest stmt_height ss) HEIGHT_LIMIT l) f.1)

pub units_are_read : UnitsAreRead
units_are_read s is l f =
    let outside : ℕ = max (greatest (λ t. typedef_height t.definition) s.types) (greatest class_height s.classes) in
    let variables : ℕ = max (greatest var_height s.unit.outer) (greatest var_height s.unit.inner) in
    let low : greatest stmt_height s.unit.stmts ≤ HEIGHT_LIMIT = right_of variables (greatest stmt_height s.unit.stmts) HEIGHT_LIMIT (right_of outside (unit_height s.unit) HEIGHT_LIMIT l) in
    (f.the_unit.outer_values, f.the_unit.inner_values, f.the_unit.all_stmts, tops_are s.unit.stmts is.unit.2 low f.the_unit.all_stmts)
