-- Statements that were read.
use Rattle.std.proofs.Common.{◌≡◌, ℕ, suc, ◌+◌, ◌*◌, ◌<◌, ◌≤◌, ◌^◌, max, Bool, true, false, List, [], ◌∷◌, ◌++◌, length, Option, Some, None, arith}
use Rattle.std.proofs.lemmas.List.{length-append}
use Rattle.svr_tree.specs.declared.CallForm.{CallForm}
use Rattle.svr_tree.specs.declared.CallForm.TheVariants as form
use Rattle.svr_tree.specs.declared.Scope.{Scope}
use Rattle.svr_tree.specs.ExprTree as raw
use Rattle.svr_tree.specs.ExprTree.{ExprTree, ExprTrees}
use Rattle.svr_tree.specs.ItemTree.{ItemTrees}
use Rattle.svr_tree.specs.StmtTree as tree
use Rattle.svr_tree.specs.StmtTree.{RandomizeTree, ModeTree, RightTree, StmtTree, StmtTrees}
use Rattle.svr_tree.specs.Tokens.{Entry, Each, each_spelling}
use Rattle.svr_tree.specs.ExprGrammar.{expr_spelling, exprs_spelling, exprs_followed, IsExpr, EachIsExpr, expr_height, exprs_height}
use Rattle.svr_tree.specs.ItemGrammar.{items_spelling, AreItems, items_height}
use Rattle.svr_tree.specs.StmtGrammar.{args_spelling, with_spelling, randomize_spelling, value_spelling, right_spelling, call_spelling, stmt_spelling, stmts_spelling, IsWith, IsRandomize, IsRight, IsStmt, AreStmts, with_height, randomize_height, right_height, stmt_height, stmts_height}
use Rattle.svr_tree.specs.DeclGrammar.{greatest}
use Rattle.svr_elab_type.specs.Fits.{ExprFits}
use Rattle.svr_elab_stmt.specs.Fits.{values_in, ValuesFit, InLineFits, CallFits, ModeFits, RightFits, StmtFits, StmtsFit}
use Rattle.svr_elab_unit.specs.Fits.{AllStmtsFit}
use Rattle.svr_elab_expr_laws.proofs.ReadFit.{low_fits, expr_fits}
use Rattle.svr_elab_fit_laws.proofs.Entries.{AreRead, front, rest, tail, IsLow, expr_read}
use Rattle.svr_elab_fit_laws.proofs.ReadItems.{IsShallow, in_line_read, in_line_loops}
use Rattle.svr_elab_fit_laws.proofs.ReadDecls.{IsFlat, flat_left, flat_right}

flat_low : (h : ℕ) → IsFlat h → IsLow 0 h
flat_low h f = omega (arith, f)

flat_shallow : (h : ℕ) → IsFlat h → IsShallow 0 h
flat_shallow h f = omega (arith, f)

flat_under : (h : ℕ) → IsFlat (h + 1) → IsFlat h
flat_under h f = omega (arith, f)

-- ---- lists of values

more_values_read : (es : ExprTrees) → EachIsExpr es → AreRead (exprs_followed es) → IsFlat (exprs_height es) → ValuesFit 0 es
more_values_read raw.no_exprs h f low = tt
more_values_read (raw.more_exprs e es) h f low =
    let on = tail _ _ f in (
      expr_read 0 e h.0 (front (expr_spelling e) _ on) (flat_low (expr_height e) (flat_left (expr_height e) (exprs_height es) low)),
      more_values_read es h.1 (rest (expr_spelling e) _ on) (flat_right (expr_height e) (exprs_height es) low),
    )

values_read : (es : ExprTrees) → EachIsExpr es → AreRead (exprs_spelling es) → IsFlat (exprs_height es) → ValuesFit 0 es
values_read raw.no_exprs h f low = tt
values_read (raw.more_exprs e es) h f low = (
  expr_read 0 e h.0 (front (expr_spelling e) _ f) (flat_low (expr_height e) (flat_left (expr_height e) (exprs_height es) low)),
  more_values_read es h.1 (rest (expr_spelling e) _ f) (flat_right (expr_height e) (exprs_height es) low),
)

-- a comma for each value but the first
more_values : (es : ExprTrees) → values_in es ≤ length (exprs_followed es)
more_values raw.no_exprs = omega arith
more_values (raw.more_exprs e es) = counted (values_in es) (length (expr_spelling e)) (length (exprs_followed es)) (length (expr_spelling e ++ exprs_followed es)) (more_values es) (length-append (expr_spelling e) (exprs_followed es))
  where
    counted : (n a b c : ℕ) → n ≤ b → c ≡ a + b → n + 1 ≤ suc c
    counted n a b c h e = omega (arith, h, e)

-- and the mark before and behind them
values_few : (es : ExprTrees) (x : Entry) (ys : List Entry) → AreRead (x ∷ (exprs_spelling es ++ ys)) → values_in es < 2 ^ 32
values_few raw.no_exprs x ys f = omega arith
values_few (raw.more_exprs e es) x ys f =
    counted (values_in es) (length (expr_spelling e)) (length (exprs_followed es)) (length (exprs_spelling (raw.more_exprs e es))) (length ys) (length (exprs_spelling (raw.more_exprs e es) ++ ys))
    (more_values es) (length-append (expr_spelling e) (exprs_followed es)) (length-append (exprs_spelling (raw.more_exprs e es)) ys) f.few
  where
    counted : (n a b c d k : ℕ) → n ≤ b → c ≡ a + b → k ≡ c + d → suc k < 2 ^ 32 → n + 1 < 2 ^ 32
    counted n a b c d k h e g few = omega (arith, h, e, g, few)

-- ---- calls

in_line_fits : (is : Option ItemTrees) → IsWith is → AreRead (with_spelling is) → IsFlat (with_height is) → InLineFits 0 is
in_line_fits None h f low = tt
in_line_fits (Some is) h f low = (in_line_loops 0 is h (flat_shallow (items_height is) low), in_line_read is h (front (items_spelling is) _ (tail _ _ (tail _ _ f))))

call_read : (c : RandomizeTree) → IsRandomize c → AreRead (randomize_spelling c) → IsFlat (randomize_height c) → CallFits 0 c
call_read c h f low =
    let args = tail _ _ (tail _ _ (tail _ _ (rest (expr_spelling c.path) _ f))) in
    (omega arith, in_line_fits c.items h.2 (tail _ _ (rest (args_spelling c.args) _ args)) (flat_right (expr_height c.path) (with_height c.items) low))

form_read : (at : ℕ) (k : CallForm) (c : RandomizeTree) → IsRandomize c → AreRead (call_spelling at k c) → IsFlat (randomize_height c) → CallFits 0 c
form_read at form.Plain c h f low = call_read c h (front (randomize_spelling c) _ f) low
form_read at form.Void c h f low = call_read c h (front (randomize_spelling c) _ (tail _ _ (tail _ _ (tail _ _ f)))) low
form_read at form.Assert c h f low = call_read c h (front (randomize_spelling c) _ (tail _ _ (tail _ _ f))) low

-- ---- right sides

-- a value that is a call of no object is spelled as any expression but for its last name
value_read : (e : ExprTree) → IsExpr e → AreRead (value_spelling e) → IsFlat (expr_height e) → ExprFits 0 e
value_read (raw.number at v w s) h f low = expr_read 0 (raw.number at v w s) h f (flat_low 1 low)
value_read (raw.path at s names call) h f low = (low_fits 0 (raw.path at s names call) (flat_low 1 low), tt)
value_read (raw.bit_select at x i call) h f low = expr_read 0 (raw.bit_select at x i call) h f (flat_low (expr_height (raw.bit_select at x i call)) low)
value_read (raw.part_select at x k l call) h f low = expr_read 0 (raw.part_select at x k l call) h f (flat_low (expr_height (raw.part_select at x k l call)) low)
value_read (raw.unary at op x) h f low = expr_read 0 (raw.unary at op x) h f (flat_low (expr_height (raw.unary at op x)) low)
value_read (raw.binary at op x y) h f low = expr_read 0 (raw.binary at op x y) h f (flat_low (expr_height (raw.binary at op x y)) low)
value_read (raw.choice at t x y) h f low = expr_read 0 (raw.choice at t x y) h f (flat_low (expr_height (raw.choice at t x y)) low)
value_read (raw.inside at x rs) h f low = expr_read 0 (raw.inside at x rs) h f (flat_low (expr_height (raw.inside at x rs)) low)
value_read (raw.join at xs) h f low = expr_read 0 (raw.join at xs) h f (flat_low (expr_height (raw.join at xs)) low)
value_read (raw.copies at n xs) h f low = expr_read 0 (raw.copies at n xs) h f (flat_low (expr_height (raw.copies at n xs)) low)
value_read (raw.sign at s x) h f low = expr_read 0 (raw.sign at s x) h f (flat_low (expr_height (raw.sign at s x)) low)
value_read (raw.paren at x) h f low = expr_read 0 (raw.paren at x) h f (flat_low (expr_height (raw.paren at x)) low)
value_read (raw.reduce at x k item body) h f low = expr_read 0 (raw.reduce at x k item body) h f (flat_low (expr_height (raw.reduce at x k item body)) low)

right_read : (r : RightTree) → IsRight r → AreRead (right_spelling r) → IsFlat (right_height r) → RightFits 0 r
right_read (tree.value e) h f low = value_read e h f low
right_read (tree.new parens) h f low = tt
right_read (tree.new_array e) h f low = expr_read 0 e h (front (expr_spelling e) _ (tail _ _ (tail _ _ f))) (flat_low (expr_height e) low)
right_read (tree.pattern at vs) h f low = (values_read vs h (front (exprs_spelling vs) _ (tail _ _ f)) low, values_few vs _ _ f)
right_read (tree.answer c) h f low = call_read c h f low

-- ---- statements

mutual
  pub stmt_read : (s : StmtTree) → IsStmt s → AreRead (stmt_spelling s) → IsFlat (stmt_height s) → StmtFits 0 s
  stmt_read (tree.empty at) h f low = tt
  stmt_read (tree.block at ss) h f low = stmts_read ss h (front (stmts_spelling ss) _ (tail _ _ f)) (flat_under (stmts_height ss) low)
  stmt_read (tree.repeat at e s) h f low =
      let on = tail _ _ (tail _ _ f) in
      let down = flat_under (max (expr_height e) (stmt_height s)) low in (
        expr_read 0 e h.0 (front (expr_spelling e) _ on) (flat_low (expr_height e) (flat_left (expr_height e) (stmt_height s) down)),
        stmt_read s h.1 (tail _ _ (rest (expr_spelling e) _ on)) (flat_right (expr_height e) (stmt_height s) down),
      )
  stmt_read (tree.assign at x r) h f low =
      let down = flat_under (max (expr_height x) (right_height r)) low in (
        expr_read 0 x h.1.0 (front (expr_spelling x) _ f) (flat_low (expr_height x) (flat_left (expr_height x) (right_height r) down)),
        right_read r h.2 (front (right_spelling r) _ (tail _ _ (rest (expr_spelling x) _ f))) (flat_right (expr_height x) (right_height r) down),
      )
  stmt_read (tree.call at k c) h f low = form_read at k c h.1 f (flat_under (randomize_height c) low)
  stmt_read (tree.mode at m) h f low =
      let down = flat_under (max (expr_height m.path) (expr_height m.on)) low in
      let on = tail _ _ (tail _ _ (tail _ _ (rest (expr_spelling m.path) _ (front _ _ f)))) in
      (omega arith, expr_read 0 m.on h.1.1 (front (expr_spelling m.on) _ on) (flat_low (expr_height m.on) (flat_right (expr_height m.path) (expr_height m.on) down)))

  stmts_read : (ss : StmtTrees) → AreStmts ss → AreRead (stmts_spelling ss) → IsFlat (stmts_height ss) → StmtsFit 0 ss
  stmts_read tree.no_stmts h f low = tt
  stmts_read (tree.more_stmts s ss) h f low =
      (stmt_read s h.0 (front (stmt_spelling s) _ f) (flat_left (stmt_height s) (stmts_height ss) low), stmts_read ss h.1 (rest (stmt_spelling s) _ f) (flat_right (stmt_height s) (stmts_height ss) low))

pub all_stmts_read : (ss : List StmtTree) → Each IsStmt ss → AreRead (each_spelling stmt_spelling ss) → IsFlat (greatest stmt_height ss) → AllStmtsFit 0 ss
all_stmts_read [] h f low = tt
all_stmts_read (s ∷ ss) h f low = (
  stmt_read s h.0 (front (stmt_spelling s) _ f) (flat_left (stmt_height s) (greatest stmt_height ss) low),
  all_stmts_read ss h.1 (rest (stmt_spelling s) _ f) (flat_right (stmt_height s) (greatest stmt_height ss) low),
)
