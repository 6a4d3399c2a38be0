-- What nodes and bounds of some forms stand for
use Rattle.std.proofs.Common.{◌≡◌, ℕ, ℤ, Bool, List, Option, None, Some, option_map, refl, sym, ap, ◌∙◌}
use Rattle.svr_operator.specs.declared.UnOp.{UnOp}
use Rattle.svr_operator.specs.declared.BinOp.{BinOp}
use Rattle.svr_operator.specs.declared.Fold.{Fold}
use Rattle.svr_typed.specs.declared.expr.TExpr.{TExpr}
use Rattle.svr_typed.specs.declared.expr.TNode.{TNode, Number, Prop, Size, Script, Loop, out-TNode, fold_out-TNode}
use Rattle.svr_typed.specs.declared.expr.TNode.TheVariants.{outs-Number, outs-Prop, outs-Size, outs-Script, outs-Loop}
use Rattle.svr_typed.specs.declared.expr.TRange.{TRange}
use Rattle.svr_typed.specs.declared.expr.TBound.{TBound, fold_out-TBound, map-TBound}
use Rattle.svr_typed.specs.declared.expr.TBound.TheOpen.{TNode-F, TBound-F}
use Rattle.svr_typed.specs.declared.expr.TBound.TheViews.{Element, outs-Element, Cell, outs-Cell, Reduce, outs-Reduce, Of, outs-Of, Unary, outs-Unary, Binary, outs-Binary, Choice, outs-Choice, Join, outs-Join, Sign, outs-Sign, Select, outs-Select, Inside, outs-Inside, Copies, outs-Copies, Value, outs-Value}
use Rattle.svr_typed.specs.ExprTerm.{ExprTerm, NodeTerm, RangeTerm, BoundTerm, number, prop, element, cell, size, script, loop_index, reduce, of_object, unary, binary, choice, join, sign, bit_select, part_select, select_of, inside, copies, value, bound_step, node_step, range_step, expr_step, expr_term, node_term, range_term, bound_term, expr_terms, range_terms}
use Rattle.svr_typed.proofs.Selects.{layer_term}

abbrev layer_bound : TBound-F TBound TNode TRange TExpr → BoundTerm
layer_bound x = bound_step (map-TBound TBound TNode TRange TExpr BoundTerm NodeTerm RangeTerm ExprTerm bound_term node_term range_term expr_term x)

pub value_term : (e : TExpr) → bound_term (Value e) ≡ value (expr_term e)
value_term e = fold_out-TBound BoundTerm NodeTerm RangeTerm ExprTerm bound_step node_step range_step expr_step (Value e) ∙ ap layer_bound (outs-Value e)

pub inside_term : (left : TExpr) (set : List TRange) → node_term (Inside left set) ≡ inside (expr_term left) (range_terms set)
inside_term left set = fold_out-TNode BoundTerm NodeTerm RangeTerm ExprTerm bound_step node_step range_step expr_step (Inside left set) ∙ ap layer_term (outs-Inside left set)

pub copies_term : (count : TExpr) (parts : List TExpr) → node_term (Copies count parts) ≡ copies (expr_term count) (expr_terms parts)
copies_term count parts = fold_out-TNode BoundTerm NodeTerm RangeTerm ExprTerm bound_step node_step range_step expr_step (Copies count parts) ∙ ap layer_term (outs-Copies count parts)

laid : (base first : TExpr) (last : Option TExpr) (low : ℤ) → layer_term (TNode-F.Select base first last low) ≡ select_of (expr_term base) (expr_term first) (option_map expr_term last) low
laid base first None low = refl
laid base first (Some last) low = refl

pub select_term : (base first : TExpr) (last : Option TExpr) (low : ℤ) → node_term (Select base first last low) ≡ select_of (expr_term base) (expr_term first) (option_map expr_term last) low
select_term base first last low =
    fold_out-TNode BoundTerm NodeTerm RangeTerm ExprTerm bound_step node_step range_step expr_step (Select base first last low)
    ∙ ap layer_term (outs-Select base first last low)
    ∙ laid base first last low

-- a node is its form over what its operands stand for
opened : (n : TNode) → node_term n ≡ layer_term (out-TNode n)
opened n = fold_out-TNode BoundTerm NodeTerm RangeTerm ExprTerm bound_step node_step range_step expr_step n

-- a node that is this form, whose operands are these

pub number_node : (n : TNode) (v : ℕ) (every : Bool) → n ≡ Number v every → node_term n ≡ number v every
number_node n v every is = ap node_term is ∙ opened (Number v every) ∙ ap layer_term (outs-Number v every)

pub prop_node : (n : TNode) (p : ℕ) → n ≡ Prop p → node_term n ≡ prop p
prop_node n p is = ap node_term is ∙ opened (Prop p) ∙ ap layer_term (outs-Prop p)

pub size_node : (n : TNode) (p m : ℕ) → n ≡ Size p m → node_term n ≡ size p m
size_node n p m is = ap node_term is ∙ opened (Size p m) ∙ ap layer_term (outs-Size p m)

pub script_node : (n : TNode) (v : ℕ) → n ≡ Script v → node_term n ≡ script v
script_node n v is = ap node_term is ∙ opened (Script v) ∙ ap layer_term (outs-Script v)

pub loop_index_node : (n : TNode) (k : ℕ) → n ≡ Loop k → node_term n ≡ loop_index k
loop_index_node n k is = ap node_term is ∙ opened (Loop k) ∙ ap layer_term (outs-Loop k)

pub element_node : (n : TNode) (p : ℕ) (i x : TExpr) → n ≡ Element p i → x ≡ i → node_term n ≡ element p (expr_term x)
element_node n p i x is is_x =
    ap node_term is ∙ opened (Element p i) ∙ ap layer_term (outs-Element p i) ∙ ap (λ e. element p (expr_term e)) (sym is_x)

pub cell_node : (n : TNode) (p m : ℕ) (i j x y : TExpr) → n ≡ Cell p m i j → x ≡ i → y ≡ j → node_term n ≡ cell p m (expr_term x) (expr_term y)
cell_node n p m i j x y is is_x is_y =
    ap node_term is ∙ opened (Cell p m i j) ∙ ap layer_term (outs-Cell p m i j) ∙ ap (λ e. cell p m (expr_term e) (expr_term j)) (sym is_x) ∙ ap (λ e. cell p m (expr_term x) (expr_term e)) (sym is_y)

pub reduce_node : (n : TNode) (p : ℕ) (op : Fold) (i x : TExpr) → n ≡ Reduce p op i → x ≡ i → node_term n ≡ reduce p op (expr_term x)
reduce_node n p op i x is is_x =
    ap node_term is ∙ opened (Reduce p op i) ∙ ap layer_term (outs-Reduce p op i) ∙ ap (λ e. reduce p op (expr_term e)) (sym is_x)

pub of_object_node : (n : TNode) (o : ℕ) (i x : TExpr) → n ≡ Of o i → x ≡ i → node_term n ≡ of_object o (expr_term x)
of_object_node n o i x is is_x =
    ap node_term is ∙ opened (Of o i) ∙ ap layer_term (outs-Of o i) ∙ ap (λ e. of_object o (expr_term e)) (sym is_x)

pub unary_node : (n : TNode) (op : UnOp) (i x : TExpr) → n ≡ Unary op i → x ≡ i → node_term n ≡ unary op (expr_term x)
unary_node n op i x is is_x =
    ap node_term is ∙ opened (Unary op i) ∙ ap layer_term (outs-Unary op i) ∙ ap (λ e. unary op (expr_term e)) (sym is_x)

pub binary_node : (n : TNode) (op : BinOp) (i j x y : TExpr) → n ≡ Binary op i j → x ≡ i → y ≡ j → node_term n ≡ binary op (expr_term x) (expr_term y)
binary_node n op i j x y is is_x is_y =
    ap node_term is ∙ opened (Binary op i j) ∙ ap layer_term (outs-Binary op i j) ∙ ap (λ e. binary op (expr_term e) (expr_term j)) (sym is_x) ∙ ap (λ e. binary op (expr_term x) (expr_term e)) (sym is_y)

pub choice_node : (n : TNode) (i j k x y z : TExpr) → n ≡ Choice i j k → x ≡ i → y ≡ j → z ≡ k → node_term n ≡ choice (expr_term x) (expr_term y) (expr_term z)
choice_node n i j k x y z is is_x is_y is_z =
    ap node_term is ∙ opened (Choice i j k) ∙ ap layer_term (outs-Choice i j k) ∙ ap (λ e. choice (expr_term e) (expr_term j) (expr_term k)) (sym is_x) ∙ ap (λ e. choice (expr_term x) (expr_term e) (expr_term k)) (sym is_y) ∙ ap (λ e. choice (expr_term x) (expr_term y) (expr_term e)) (sym is_z)

pub sign_node : (n : TNode) (s : Bool) (i x : TExpr) → n ≡ Sign s i → x ≡ i → node_term n ≡ sign s (expr_term x)
sign_node n s i x is is_x =
    ap node_term is ∙ opened (Sign s i) ∙ ap layer_term (outs-Sign s i) ∙ ap (λ e. sign s (expr_term e)) (sym is_x)

pub join_node : (n : TNode) (parts es : List TExpr) → n ≡ Join parts → es ≡ parts → node_term n ≡ join (expr_terms es)
join_node n parts es is is_es =
    ap node_term is ∙ opened (Join parts) ∙ ap layer_term (outs-Join parts) ∙ ap (λ xs. join (expr_terms xs)) (sym is_es)

pub inside_node : (n : TNode) (left x : TExpr) (set rs : List TRange) → n ≡ Inside left set → x ≡ left → rs ≡ set → node_term n ≡ inside (expr_term x) (range_terms rs)
inside_node n left x set rs is is_x is_rs =
    ap node_term is ∙ inside_term left set ∙ ap (λ e. inside (expr_term e) (range_terms set)) (sym is_x) ∙ ap (λ ys. inside (expr_term x) (range_terms ys)) (sym is_rs)

pub bit_node : (n : TNode) (base first x y : TExpr) (last : Option TExpr) (low : ℤ) → n ≡ Select base first last low → last ≡ None → x ≡ base → y ≡ first → node_term n ≡ bit_select (expr_term x) (expr_term y) low
bit_node n base first x y last low is none is_x is_y =
    ap node_term is ∙ select_term base first last low
    ∙ ap (λ o. select_of (expr_term base) (expr_term first) (option_map expr_term o) low) none
    ∙ ap (λ e. bit_select (expr_term e) (expr_term first) low) (sym is_x)
    ∙ ap (λ e. bit_select (expr_term x) (expr_term e) low) (sym is_y)

pub part_node : (n : TNode) (base first end x y : TExpr) (last : Option TExpr) (low : ℤ) → n ≡ Select base first last low → last ≡ Some end → x ≡ base → y ≡ end → node_term n ≡ part_select (expr_term x) (expr_term first) (expr_term y) low
part_node n base first end x y last low is some is_x is_y =
    ap node_term is ∙ select_term base first last low
    ∙ ap (λ o. select_of (expr_term base) (expr_term first) (option_map expr_term o) low) some
    ∙ ap (λ e. part_select (expr_term e) (expr_term first) (expr_term end) low) (sym is_x)
    ∙ ap (λ e. part_select (expr_term x) (expr_term first) (expr_term e) low) (sym is_y)
