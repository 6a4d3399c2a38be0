-- What each form of node stands for, and that what is made of the copies of its parts is a copy of it.
use Rattle.std.proofs.Common.{◌≡◌, ℕ, suc, ℤ, Bool, List, Option, None, Some, sym, ap, ◌∙◌}
use Rattle.std.specs.Prelude.{Result, Ok, Err, IfOk}
use Rattle.svr_operator.specs.declared.UnOp.{UnOp}
use Rattle.svr_operator.specs.declared.BinOp.{BinOp}
use Rattle.svr_operator.specs.declared.Fold.{Fold}
use Rattle.svr_typed.specs.declared.expr.TExpr.{TExpr, fold_out-TExpr}
use Rattle.svr_typed.specs.declared.expr.TNode.{TNode, fold_out-TNode}
use Rattle.svr_typed.specs.declared.expr.TRange.{TRange}
use Rattle.svr_typed.specs.declared.expr.TBound.TheOpen.{TNode-F}
use Rattle.svr_typed.specs.declared.expr.TBound.TheViews.{Element, outs-Element, Cell, outs-Cell, Reduce, outs-Reduce, Of, outs-Of, Select, outs-Select, Unary, outs-Unary, Binary, outs-Binary, Choice, outs-Choice, Inside, outs-Inside, Copies, outs-Copies, Sign, outs-Sign}
use Rattle.svr_typed.specs.ExprTerm as term
use Rattle.svr_typed.specs.ExprTerm.{ExprTerm, NodeTerm, RangeTerm, BoundTerm, typed, bound_step, node_step, range_step, expr_step, expr_term, node_term, expr_terms, range_terms}
use Rattle.svr_typed.proofs.Selects.{layer_term}
use Rattle.svr_frame.specs.Closed.{closed_within, closed_node, closed_exprs, closed_ranges}

-- what is made is what it is to be
pub made_is : {A B E : Type 0} (f : A → B) (r : Result A E) (x y : B) → x ≡ y → IfOk r (λ e. f e ≡ x) → IfOk r (λ e. f e ≡ y)
made_is f (Ok e) x y h k = k ∙ h
made_is f (Err e) x y h k = k

stored : (t : TExpr) → expr_term t ≡ typed t.width t.signed (node_term t.node)
stored t = fold_out-TExpr BoundTerm NodeTerm RangeTerm ExprTerm bound_step node_step range_step expr_step t

module _ (env : List ℕ) (own : ℕ) where
  abbrev copy : TExpr → ExprTerm
  copy e = closed_within env own (expr_term e)

  -- of an expression whose node stands for this
  closed_as : (e : TExpr) (n : TNode) (m : NodeTerm) → e.node ≡ n → node_term n ≡ m → closed_node env own e.width e.signed m ≡ copy e
  closed_as e n m is means = sym (ap (closed_within env own) (stored e) ∙ ap (closed_node env own e.width e.signed) (ap node_term is ∙ means))

  module _ {E : Type 0} where
    pub element_made : (e : TExpr) (r : Result TExpr E) (p : ℕ) (i i_copied : TExpr) → e.node ≡ Element p i → i_copied ≡ i → IfOk r (λ x. expr_term x ≡ typed e.width e.signed (term.element p (copy i_copied))) → IfOk r (λ x. expr_term x ≡ copy e)
    element_made e r p i i_copied is h0 =
        made_is expr_term r _ _ ((λ k. typed e.width e.signed (term.element p (copy (h0 k)))) ∙ closed_as e (Element p i) (term.element p (expr_term i)) is (fold_out-TNode BoundTerm NodeTerm RangeTerm ExprTerm bound_step node_step range_step expr_step (Element p i) ∙ ap layer_term (outs-Element p i)))

    pub cell_made : (e : TExpr) (r : Result TExpr E) (p : ℕ) (m : ℕ) (i j i_copied j_copied : TExpr) → e.node ≡ Cell p m i j → i_copied ≡ i → j_copied ≡ j → IfOk r (λ x. expr_term x ≡ typed e.width e.signed (term.cell p m (copy i_copied) (copy j_copied))) → IfOk r (λ x. expr_term x ≡ copy e)
    cell_made e r p m i j i_copied j_copied is h0 h1 =
        made_is expr_term r _ _ ((λ k. typed e.width e.signed (term.cell p m (copy (h0 k)) (copy (h1 k)))) ∙ closed_as e (Cell p m i j) (term.cell p m (expr_term i) (expr_term j)) is (fold_out-TNode BoundTerm NodeTerm RangeTerm ExprTerm bound_step node_step range_step expr_step (Cell p m i j) ∙ ap layer_term (outs-Cell p m i j)))

    pub of_made : (e : TExpr) (r : Result TExpr E) (o : ℕ) (i i_copied : TExpr) → e.node ≡ Of o i → i_copied ≡ i → IfOk r (λ x. expr_term x ≡ typed e.width e.signed (term.of_object o (copy i_copied))) → IfOk r (λ x. expr_term x ≡ copy e)
    of_made e r o i i_copied is h0 =
        made_is expr_term r _ _ ((λ k. typed e.width e.signed (term.of_object o (copy (h0 k)))) ∙ closed_as e (Of o i) (term.of_object o (expr_term i)) is (fold_out-TNode BoundTerm NodeTerm RangeTerm ExprTerm bound_step node_step range_step expr_step (Of o i) ∙ ap layer_term (outs-Of o i)))

    pub unary_made : (e : TExpr) (r : Result TExpr E) (op : UnOp) (i i_copied : TExpr) → e.node ≡ Unary op i → i_copied ≡ i → IfOk r (λ x. expr_term x ≡ typed e.width e.signed (term.unary op (copy i_copied))) → IfOk r (λ x. expr_term x ≡ copy e)
    unary_made e r op i i_copied is h0 =
        made_is expr_term r _ _ ((λ k. typed e.width e.signed (term.unary op (copy (h0 k)))) ∙ closed_as e (Unary op i) (term.unary op (expr_term i)) is (fold_out-TNode BoundTerm NodeTerm RangeTerm ExprTerm bound_step node_step range_step expr_step (Unary op i) ∙ ap layer_term (outs-Unary op i)))

    pub binary_made : (e : TExpr) (r : Result TExpr E) (op : BinOp) (i j i_copied j_copied : TExpr) → e.node ≡ Binary op i j → i_copied ≡ i → j_copied ≡ j → IfOk r (λ x. expr_term x ≡ typed e.width e.signed (term.binary op (copy i_copied) (copy j_copied))) → IfOk r (λ x. expr_term x ≡ copy e)
    binary_made e r op i j i_copied j_copied is h0 h1 =
        made_is expr_term r _ _ ((λ k. typed e.width e.signed (term.binary op (copy (h0 k)) (copy (h1 k)))) ∙ closed_as e (Binary op i j) (term.binary op (expr_term i) (expr_term j)) is (fold_out-TNode BoundTerm NodeTerm RangeTerm ExprTerm bound_step node_step range_step expr_step (Binary op i j) ∙ ap layer_term (outs-Binary op i j)))

    pub choice_made : (e : TExpr) (r : Result TExpr E) (t i j t_copied i_copied j_copied : TExpr) → e.node ≡ Choice t i j → t_copied ≡ t → i_copied ≡ i → j_copied ≡ j → IfOk r (λ x. expr_term x ≡ typed e.width e.signed (term.choice (copy t_copied) (copy i_copied) (copy j_copied))) → IfOk r (λ x. expr_term x ≡ copy e)
    choice_made e r t i j t_copied i_copied j_copied is h0 h1 h2 =
        made_is expr_term r _ _ ((λ k. typed e.width e.signed (term.choice (copy (h0 k)) (copy (h1 k)) (copy (h2 k)))) ∙ closed_as e (Choice t i j) (term.choice (expr_term t) (expr_term i) (expr_term j)) is (fold_out-TNode BoundTerm NodeTerm RangeTerm ExprTerm bound_step node_step range_step expr_step (Choice t i j) ∙ ap layer_term (outs-Choice t i j)))

    pub sign_made : (e : TExpr) (r : Result TExpr E) (s : Bool) (i i_copied : TExpr) → e.node ≡ Sign s i → i_copied ≡ i → IfOk r (λ x. expr_term x ≡ typed e.width e.signed (term.sign s (copy i_copied))) → IfOk r (λ x. expr_term x ≡ copy e)
    sign_made e r s i i_copied is h0 =
        made_is expr_term r _ _ ((λ k. typed e.width e.signed (term.sign s (copy (h0 k)))) ∙ closed_as e (Sign s i) (term.sign s (expr_term i)) is (fold_out-TNode BoundTerm NodeTerm RangeTerm ExprTerm bound_step node_step range_step expr_step (Sign s i) ∙ ap layer_term (outs-Sign s i)))

    pub reduce_made : (e : TExpr) (r : Result TExpr E) (p : ℕ) (op : Fold) (i i_copied : TExpr) → e.node ≡ Reduce p op i → i_copied ≡ i → IfOk r (λ x. expr_term x ≡ typed e.width e.signed (term.reduce p op (closed_within env (suc own) (expr_term i_copied)))) → IfOk r (λ x. expr_term x ≡ copy e)
    reduce_made e r p op i i_copied is h =
        made_is expr_term r _ _ ((λ k. typed e.width e.signed (term.reduce p op (closed_within env (suc own) (expr_term (h k))))) ∙ closed_as e (Reduce p op i) (term.reduce p op (expr_term i)) is (fold_out-TNode BoundTerm NodeTerm RangeTerm ExprTerm bound_step node_step range_step expr_step (Reduce p op i) ∙ ap layer_term (outs-Reduce p op i)))

    pub bit_made : (e : TExpr) (r : Result TExpr E) (b i b_copied i_copied : TExpr) (last : Option TExpr) (z low : ℤ) → e.node ≡ Select b i last low → z ≡ low → last ≡ None → b_copied ≡ b → i_copied ≡ i → IfOk r (λ x. expr_term x ≡ typed e.width e.signed (term.bit_select (copy b_copied) (copy i_copied) z)) → IfOk r (λ x. expr_term x ≡ copy e)
    bit_made e r b i b_copied i_copied last z low is same none h0 h1 =
        made_is expr_term r _ _ ((λ k. typed e.width e.signed (term.bit_select (copy (h0 k)) (copy (h1 k)) (same k))) ∙ closed_as e (Select b i last low) (term.bit_select (expr_term b) (expr_term i) low) is
        (fold_out-TNode BoundTerm NodeTerm RangeTerm ExprTerm bound_step node_step range_step expr_step (Select b i last low) ∙ ap layer_term (outs-Select b i last low) ∙ ap (λ l. layer_term (TNode-F.Select b i l low)) none))

    pub bits_made : (e : TExpr) (r : Result TExpr E) (b i j b_copied i_copied j_copied : TExpr) (last : Option TExpr) (z low : ℤ) → e.node ≡ Select b i last low → z ≡ low → last ≡ Some j → b_copied ≡ b → i_copied ≡ i → j_copied ≡ j → IfOk r (λ x. expr_term x ≡ typed e.width e.signed (term.part_select (copy b_copied) (copy i_copied) (copy j_copied) z)) → IfOk r (λ x. expr_term x ≡ copy e)
    bits_made e r b i j b_copied i_copied j_copied last z low is same there h0 h1 h2 =
        made_is expr_term r _ _ ((λ k. typed e.width e.signed (term.part_select (copy (h0 k)) (copy (h1 k)) (copy (h2 k)) (same k))) ∙ closed_as e (Select b i last low) (term.part_select (expr_term b) (expr_term i) (expr_term j) low) is
        (fold_out-TNode BoundTerm NodeTerm RangeTerm ExprTerm bound_step node_step range_step expr_step (Select b i last low) ∙ ap layer_term (outs-Select b i last low) ∙ ap (λ l. layer_term (TNode-F.Select b i l low)) there))

    pub inside_made : (e : TExpr) (r : Result TExpr E) (i i_copied : TExpr) (rs rs_copied : List TRange) → e.node ≡ Inside i rs → i_copied ≡ i → rs_copied ≡ rs → IfOk r (λ x. expr_term x ≡ typed e.width e.signed (term.inside (copy i_copied) (closed_ranges env own (range_terms rs_copied)))) → IfOk r (λ x. expr_term x ≡ copy e)
    inside_made e r i i_copied rs rs_copied is h0 h1 =
        made_is expr_term r _ _ ((λ k. typed e.width e.signed (term.inside (copy (h0 k)) (closed_ranges env own (range_terms (h1 k))))) ∙ closed_as e (Inside i rs) (term.inside (expr_term i) (range_terms rs)) is (fold_out-TNode BoundTerm NodeTerm RangeTerm ExprTerm bound_step node_step range_step expr_step (Inside i rs) ∙ ap layer_term (outs-Inside i rs)))

    pub copies_made : (e : TExpr) (r : Result TExpr E) (i i_copied : TExpr) (es es_copied : List TExpr) → e.node ≡ Copies i es → i_copied ≡ i → es_copied ≡ es → IfOk r (λ x. expr_term x ≡ typed e.width e.signed (term.copies (copy i_copied) (closed_exprs env own (expr_terms es_copied)))) → IfOk r (λ x. expr_term x ≡ copy e)
    copies_made e r i i_copied es es_copied is h0 h1 =
        made_is expr_term r _ _ ((λ k. typed e.width e.signed (term.copies (copy (h0 k)) (closed_exprs env own (expr_terms (h1 k))))) ∙ closed_as e (Copies i es) (term.copies (expr_term i) (expr_terms es)) is (fold_out-TNode BoundTerm NodeTerm RangeTerm ExprTerm bound_step node_step range_step expr_step (Copies i es) ∙ ap layer_term (outs-Copies i es)))
