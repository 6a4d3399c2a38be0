-- Typed expressions as plain data, and the one that a `TExpr` stands for (IEEE 1800-2017, clause 11).
use Rattle.std.specs.Prelude.{ℕ, ℤ, Bool, List, [], ◌∷◌, Option, Some, None, map}
use Rattle.svr_operator.specs.declared.UnOp.{UnOp}
use Rattle.svr_operator.specs.declared.BinOp.{BinOp}
use Rattle.svr_operator.specs.declared.Fold.{Fold}
use Rattle.svr_typed.specs.declared.expr.TExpr.{TExpr}
use Rattle.svr_typed.specs.declared.expr.TNode.{TNode}
use Rattle.svr_typed.specs.declared.expr.TRange.{TRange}
use Rattle.svr_typed.specs.declared.expr.TBound.{TBound}
use Rattle.svr_typed.specs.declared.expr.TBound.TheOpen.{TBound-F, TNode-F, TRange-F, TExpr-F}
use Rattle.svr_typed.specs.declared.expr.TBound.TheFolds.{fold-TExpr, fold-TNode, fold-TRange, fold-TBound}

mutual
  -- size, sign, form
  pub data ExprTerm : Type 0 where
    typed : ℕ → Bool → NodeTerm → ExprTerm

  pub data NodeTerm : Type 0 where
    number : ℕ → Bool → NodeTerm
    prop : ℕ → NodeTerm
    element : ℕ → ExprTerm → NodeTerm
    -- property, second dimension, first and second index
    cell : ℕ → ℕ → ExprTerm → ExprTerm → NodeTerm
    -- property, second dimension
    size : ℕ → ℕ → NodeTerm
    script : ℕ → NodeTerm
    loop_index : ℕ → NodeTerm
    reduce : ℕ → Fold → ExprTerm → NodeTerm
    of_object : ℕ → ExprTerm → NodeTerm
    -- base, index or bounds, lowest bit number
    bit_select : ExprTerm → ExprTerm → ℤ → NodeTerm
    part_select : ExprTerm → ExprTerm → ExprTerm → ℤ → NodeTerm
    unary : UnOp → ExprTerm → NodeTerm
    binary : BinOp → ExprTerm → ExprTerm → NodeTerm
    choice : ExprTerm → ExprTerm → ExprTerm → NodeTerm
    inside : ExprTerm → RangeTerms → NodeTerm
    join : ExprTerms → NodeTerm
    copies : ExprTerm → ExprTerms → NodeTerm
    sign : Bool → ExprTerm → NodeTerm

  pub data ExprTerms : Type 0 where
    no_exprs : ExprTerms
    more_exprs : ExprTerm → ExprTerms → ExprTerms

  pub data RangeTerm : Type 0 where
    one : ExprTerm → RangeTerm
    span : BoundTerm → BoundTerm → RangeTerm

  pub data RangeTerms : Type 0 where
    no_ranges : RangeTerms
    more_ranges : RangeTerm → RangeTerms → RangeTerms

  pub data BoundTerm : Type 0 where
    value : ExprTerm → BoundTerm
    dollar : BoundTerm

abbrev pub exprs_of : List ExprTerm → ExprTerms
exprs_of [] = no_exprs
exprs_of (e ∷ es) = more_exprs e (exprs_of es)

abbrev pub ranges_of : List RangeTerm → RangeTerms
ranges_of [] = no_ranges
ranges_of (r ∷ rs) = more_ranges r (ranges_of rs)

abbrev pub select_of : ExprTerm → ExprTerm → Option ExprTerm → ℤ → NodeTerm
select_of base first None low = bit_select base first low
select_of base first (Some last) low = part_select base first last low

abbrev pub node_step : TNode-F BoundTerm NodeTerm RangeTerm ExprTerm → NodeTerm
node_step (TNode-F.Number v every) = number v every
node_step (TNode-F.Prop p) = prop p
node_step (TNode-F.Element p e) = element p e
node_step (TNode-F.Cell p m first second) = cell p m first second
node_step (TNode-F.Size p m) = size p m
node_step (TNode-F.Script v) = script v
node_step (TNode-F.Loop k) = loop_index k
node_step (TNode-F.Reduce p op body) = reduce p op body
node_step (TNode-F.Of o e) = of_object o e
node_step (TNode-F.Select base first last low) = select_of base first last low
node_step (TNode-F.Unary op e) = unary op e
node_step (TNode-F.Binary op l r) = binary op l r
node_step (TNode-F.Choice t met unmet) = choice t met unmet
node_step (TNode-F.Inside l members) = inside l (ranges_of members)
node_step (TNode-F.Join parts) = join (exprs_of parts)
node_step (TNode-F.Copies n parts) = copies n (exprs_of parts)
node_step (TNode-F.Sign signed e) = sign signed e

abbrev pub expr_step : TExpr-F BoundTerm NodeTerm RangeTerm ExprTerm → ExprTerm
expr_step e = typed e.width e.signed e.node

abbrev pub range_step : TRange-F BoundTerm NodeTerm RangeTerm ExprTerm → RangeTerm
range_step (TRange-F.One e) = one e
range_step (TRange-F.Span low high) = span low high

abbrev pub bound_step : TBound-F BoundTerm NodeTerm RangeTerm ExprTerm → BoundTerm
bound_step (TBound-F.Value e) = value e
bound_step TBound-F.Dollar = dollar

-- what each part of a tree stands for
abbrev pub expr_term : TExpr → ExprTerm
expr_term = fold-TExpr BoundTerm NodeTerm RangeTerm ExprTerm bound_step node_step range_step expr_step

abbrev pub node_term : TNode → NodeTerm
node_term = fold-TNode BoundTerm NodeTerm RangeTerm ExprTerm bound_step node_step range_step expr_step

abbrev pub range_term : TRange → RangeTerm
range_term = fold-TRange BoundTerm NodeTerm RangeTerm ExprTerm bound_step node_step range_step expr_step

abbrev pub bound_term : TBound → BoundTerm
bound_term = fold-TBound BoundTerm NodeTerm RangeTerm ExprTerm bound_step node_step range_step expr_step

abbrev pub expr_terms : List TExpr → ExprTerms
expr_terms es = exprs_of (map expr_term es)

abbrev pub range_terms : List TRange → RangeTerms
range_terms rs = ranges_of (map range_term rs)
