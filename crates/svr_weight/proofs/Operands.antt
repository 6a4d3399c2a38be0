-- What an operator weighs with its operands is told by its kind.
use Rattle.std.proofs.Common.{◌≡◌, ℕ, ◌+◌, List, sym, ap}
use Rattle.svr_operator.specs.declared.UnOp.{UnOp}
use Rattle.svr_operator.specs.declared.BinOp.{BinOp}
use Rattle.svr_eval.specs.declared.operator.UnaryKind.{UnaryKind}
use Rattle.svr_eval.specs.declared.operator.BinaryKind.{BinaryKind}
use Rattle.svr_typed.specs.ExprTerm.{ExprTerm, unary, binary}
use Rattle.svr_eval.specs.Operator.{binary_kind, unary_kind}
use Rattle.svr_eval.specs.Value.{size_of}
use Rattle.svr_frame.specs.declared.part.Part.{Part}
use Rattle.svr_frame.specs.Frame.{FrameTerm}
use Rattle.svr_frame.specs.Weight.{capped, binary_cost, unary_cost, left_width, right_width, operand_width}
use Rattle.svr_weight.specs.Costs.{cost, node_cost}

module _ (f : FrameTerm) (part : Part) (ns : List ℕ) where
  pub unary_is : (op : UnOp) (k : UnaryKind) (e : ExprTerm) (w : ℕ) → unary_kind op ≡ k
      → capped (unary_cost k w (size_of e) + cost f part ns e (operand_width k w (size_of e))) ≡ capped (node_cost f part ns 0 (unary op e) w)
  unary_is op k e w h = ap (λ (j : UnaryKind). capped (unary_cost j w (size_of e) + cost f part ns e (operand_width j w (size_of e)))) (sym h)

  pub binary_is : (op : BinOp) (k : BinaryKind) (x y : ExprTerm) (w : ℕ) → binary_kind op ≡ k
      → capped (binary_cost k w (size_of x) (size_of y) + cost f part ns x (left_width k w (size_of x) (size_of y)) + cost f part ns y (right_width k w (size_of x) (size_of y))) ≡ capped (node_cost f part ns 0 (binary op x y) w)
  binary_is op k x y w h =
      ap (λ (j : BinaryKind). capped (binary_cost j w (size_of x) (size_of y) + cost f part ns x (left_width j w (size_of x) (size_of y)) + cost f part ns y (right_width j w (size_of x) (size_of y)))) (sym h)
