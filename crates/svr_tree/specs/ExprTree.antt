-- Expressions as plain data, and the one that an `Expr` stands for (IEEE 1800-2017, A.8).
use Rattle.std.specs.Prelude.{ℕ, Bool, List, [], ◌∷◌, Option, Some, None, map}
use Rattle.svr_operator.specs.declared.UnOp.{UnOp}
use Rattle.svr_operator.specs.declared.BinOp.{BinOp}
use Rattle.svr_operator.specs.declared.Fold.{Fold}
use Rattle.svr_tree.specs.declared.expr.Scope.{Scope}
use Rattle.svr_tree.specs.declared.expr.IteratorArgument.{IteratorArgument}
use Rattle.svr_tree.specs.declared.expr.IteratorArgument.TheVariants as iterator
use Rattle.svr_tree.specs.declared.expr.Expr.{Expr}
use Rattle.svr_tree.specs.declared.expr.Range.{Range}
use Rattle.svr_tree.specs.declared.expr.Bound.{Bound}
use Rattle.svr_tree.specs.declared.expr.Bound.TheOpen.{Expr-F, Range-F, Bound-F}
use Rattle.svr_tree.specs.declared.expr.Bound.TheFolds.{fold-Expr, fold-Range, fold-Bound}

-- the first number is that of the first token
mutual
  pub data ExprTree : Type 0 where
    -- value, width, sign
    number : ℕ → ℕ → ℕ → Bool → ExprTree
    -- scope, names, and whether `()` follows
    path : ℕ → Scope → List ℕ → Bool → ExprTree
    bit_select : ℕ → ExprTree → ExprTree → Bool → ExprTree
    part_select : ℕ → ExprTree → ExprTree → ExprTree → Bool → ExprTree
    unary : ℕ → UnOp → ExprTree → ExprTree
    binary : ℕ → BinOp → ExprTree → ExprTree → ExprTree
    choice : ℕ → ExprTree → ExprTree → ExprTree → ExprTree
    inside : ℕ → ExprTree → RangeTrees → ExprTree
    join : ℕ → ExprTrees → ExprTree
    copies : ℕ → ExprTree → ExprTrees → ExprTree
    sign : ℕ → Bool → ExprTree → ExprTree
    paren : ℕ → ExprTree → ExprTree
    -- array, operator, the name of an element, body
    reduce : ℕ → ExprTree → Fold → IteratorArgument → ExprTree → ExprTree

  pub data ExprTrees : Type 0 where
    no_exprs : ExprTrees
    more_exprs : ExprTree → ExprTrees → ExprTrees

  pub data RangeTree : Type 0 where
    one : ExprTree → RangeTree
    span : BoundTree → BoundTree → RangeTree

  pub data RangeTrees : Type 0 where
    no_ranges : RangeTrees
    more_ranges : RangeTree → RangeTrees → RangeTrees

  pub data BoundTree : Type 0 where
    value : ExprTree → BoundTree
    dollar : BoundTree

-- the name of an element that is written
abbrev pub argument_name : IteratorArgument → Option ℕ
argument_name iterator.Absent = None
argument_name iterator.Empty = None
argument_name (iterator.Named n) = Some n

abbrev pub exprs_of : List ExprTree → ExprTrees
exprs_of [] = no_exprs
exprs_of (e ∷ es) = more_exprs e (exprs_of es)

abbrev pub ranges_of : List RangeTree → RangeTrees
ranges_of [] = no_ranges
ranges_of (r ∷ rs) = more_ranges r (ranges_of rs)

abbrev pub select_of : ℕ → ExprTree → ExprTree → Option ExprTree → Bool → ExprTree
select_of at base first None call = bit_select at base first call
select_of at base first (Some last) call = part_select at base first last call

abbrev pub expr_step : Expr-F BoundTree ExprTree RangeTree → ExprTree
expr_step (Expr-F.Number at v w s) = number at v w s
expr_step (Expr-F.Path at scope names call) = path at scope names call
expr_step (Expr-F.Select at base first last call) = select_of at base first last call
expr_step (Expr-F.Unary at op e) = unary at op e
expr_step (Expr-F.Binary at op l r) = binary at op l r
expr_step (Expr-F.Choice at t met unmet) = choice at t met unmet
expr_step (Expr-F.Inside at l members) = inside at l (ranges_of members)
expr_step (Expr-F.Join at parts) = join at (exprs_of parts)
expr_step (Expr-F.Copies at n parts) = copies at n (exprs_of parts)
expr_step (Expr-F.Sign at s e) = sign at s e
expr_step (Expr-F.Paren at e) = paren at e
expr_step (Expr-F.Reduce at array op item body) = reduce at array op item body

abbrev pub range_step : Range-F BoundTree ExprTree RangeTree → RangeTree
range_step (Range-F.One e) = one e
range_step (Range-F.Span low high) = span low high

abbrev pub bound_step : Bound-F BoundTree ExprTree RangeTree → BoundTree
bound_step (Bound-F.Value e) = value e
bound_step Bound-F.Dollar = dollar

-- what each part of a tree stands for
abbrev pub expr_tree : Expr → ExprTree
expr_tree = fold-Expr BoundTree ExprTree RangeTree bound_step expr_step range_step

abbrev pub range_tree : Range → RangeTree
range_tree = fold-Range BoundTree ExprTree RangeTree bound_step expr_step range_step

abbrev pub bound_tree : Bound → BoundTree
bound_tree = fold-Bound BoundTree ExprTree RangeTree bound_step expr_step range_step

abbrev pub expr_trees : List Expr → ExprTrees
expr_trees es = exprs_of (map expr_tree es)

abbrev pub range_trees : List Range → RangeTrees
range_trees rs = ranges_of (map range_tree rs)
