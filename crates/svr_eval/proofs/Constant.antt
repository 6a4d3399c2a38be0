-- A constant expression has one value, whatever is read.
use Rattle.std.proofs.Common.{◌≡◌, ℕ, max, Bool, ◌&&◌, not, List, [], None, refl, ap}
use Rattle.svr_typed.specs.ExprTerm.{ExprTerm, typed, NodeTerm, number, prop, element, cell, size, script, loop_index, reduce, of_object, bit_select, part_select, unary, binary, choice, inside, join, copies, sign, ExprTerms, no_exprs, more_exprs, RangeTerm, one, span, RangeTerms, no_ranges, more_ranges, BoundTerm, value, dollar}
use Rattle.svr_eval.specs.Reading.{Reading, blank}
use Rattle.svr_eval.specs.Typed.{IsConstant, NodeIsConstant, AreConstant, RangesAreConstant, RangeIsConstant, BoundIsConstant}
use Rattle.svr_eval.specs.Value.{Operand, size_of, sign_of, val, node_val, joined, fits_some, fits, is_from, is_up_to, operand_of, alone, are_equal, is_below, property_of, node_property}

-- what is asked of two operands: the same size, sign and values
record Same (x y : Operand) : Type 0 where
  size : x.size ≡ y.size
  sign : x.sign ≡ y.sign
  value : (n : ℕ) (t : Bool) → x.value n t ≡ y.value n t

no_property : (n : NodeTerm) → NodeIsConstant n → node_property n ≡ None
no_property (number v every) h = refl
no_property (prop p) h = absurd h
no_property (element p e) h = absurd h
no_property (cell p m first second) h = absurd h
no_property (size p m) h = absurd h
no_property (script v) h = absurd h
no_property (loop_index k) h = absurd h
no_property (reduce p op body) h = absurd h
no_property (of_object o e) h = absurd h
no_property (bit_select base first low) h = absurd h
no_property (part_select base first last low) h = absurd h
no_property (unary op e) h = refl
no_property (binary op l r) h = refl
no_property (choice t met unmet) h = refl
no_property (inside l members) h = refl
no_property (join parts) h = refl
no_property (copies count parts) h = refl
no_property (sign signed e) h = refl

property_none : (e : ExprTerm) → IsConstant e → property_of e ≡ None
property_none (typed w s n) h = no_property n h

equal_same : (x y u v : Operand) → Same x y → Same u v → are_equal x u ≡ are_equal y v
equal_same x y u v p q =
    rw (p.size, q.size, p.sign, q.sign, p.value (max y.size v.size) (y.sign && v.sign), q.value (max y.size v.size) (y.sign && v.sign)) refl

below_same : (x y u v : Operand) → Same x y → Same u v → is_below x u ≡ is_below y v
below_same x y u v p q =
    rw (p.size, q.size, p.sign, q.sign, p.value (max y.size v.size) (y.sign && v.sign), q.value (max y.size v.size) (y.sign && v.sign)) refl

module _ (a : Reading) (env : List ℕ) where
  mutual
    pub constant_val : (e : ExprTerm) (w : ℕ) (s : Bool) → IsConstant e → val a env e w s ≡ val blank [] e w s
    constant_val (typed from signed n) w s h = constant_node n from signed w s h

    constant_node : (n : NodeTerm) (from : ℕ) (signed : Bool) (w : ℕ) (s : Bool) → NodeIsConstant n → node_val a env from signed n w s ≡ node_val blank [] from signed n w s
    constant_node (number v every) from signed w s h = refl
    constant_node (prop p) from signed w s h = absurd h
    constant_node (element p e) from signed w s h = absurd h
    constant_node (cell p m first second) from signed w s h = absurd h
    constant_node (size p m) from signed w s h = absurd h
    constant_node (script v) from signed w s h = absurd h
    constant_node (loop_index k) from signed w s h = absurd h
    constant_node (reduce p op body) from signed w s h = absurd h
    constant_node (of_object o e) from signed w s h = absurd h
    constant_node (bit_select base first low) from signed w s h = absurd h
    constant_node (part_select base first last low) from signed w s h = absurd h
    constant_node (unary op e) from signed w s h = rw (constant_val e w s h, constant_val e (size_of e) (sign_of e) h) refl
    constant_node (binary op l r) from signed w s h =
        rw (
          constant_val l w s h.0,
          constant_val r w s h.1,
          constant_val l (max (size_of l) (size_of r)) (sign_of l && sign_of r) h.0,
          constant_val r (max (size_of l) (size_of r)) (sign_of l && sign_of r) h.1,
          constant_val l (size_of l) (sign_of l) h.0,
          constant_val r (size_of r) (sign_of r) h.1,
        ) refl
    constant_node (choice t met unmet) from signed w s h =
        rw (constant_val t (size_of t) (sign_of t) h.0, constant_val met w s h.1, constant_val unmet w s h.2) refl
    constant_node (inside l members) from signed w s h =
        rw (constant_some members (operand_of a env l) (operand_of blank [] l) h.1 (record { size = refl; sign = refl; value = λ n t. constant_val l n t h.0 })) refl
    constant_node (join parts) from signed w s h = rw (constant_joined parts h) refl
    constant_node (copies count parts) from signed w s h =
        rw (constant_val count (size_of count) (sign_of count) h.0, constant_joined parts h.1) refl
    constant_node (sign as_signed e) from signed w s h = rw (constant_val e (size_of e) (sign_of e) h) refl

    constant_joined : (es : ExprTerms) → AreConstant es → joined a env es ≡ joined blank [] es
    constant_joined no_exprs h = refl
    constant_joined (more_exprs e es) h = rw (constant_val e (size_of e) (sign_of e) h.0, constant_joined es h.1) refl

    constant_some : (rs : RangeTerms) (x y : Operand) → RangesAreConstant rs → Same x y → fits_some a env x rs ≡ fits_some blank [] y rs
    constant_some no_ranges x y h same = refl
    constant_some (more_ranges r rs) x y h same = rw (constant_fits r x y h.0 same, constant_some rs x y h.1 same) refl

    constant_fits : (r : RangeTerm) (x y : Operand) → RangeIsConstant r → Same x y → fits a env x r ≡ fits blank [] y r
    constant_fits (one e) x y h same =
        rw (property_none e h) (equal_same x y (operand_of a env e) (operand_of blank [] e) same (record { size = refl; sign = refl; value = λ n t. constant_val e n t h }))
    constant_fits (span low high) x y h same = rw (constant_from low x y h.0 same, constant_up_to high x y h.1 same) refl

    constant_from : (b : BoundTerm) (x y : Operand) → BoundIsConstant b → Same x y → is_from a env x b ≡ is_from blank [] y b
    constant_from (value e) x y h same =
        ap not (below_same x y (operand_of a env e) (operand_of blank [] e) same (record { size = refl; sign = refl; value = λ n t. constant_val e n t h }))
    constant_from dollar x y h same = refl

    constant_up_to : (b : BoundTerm) (x y : Operand) → BoundIsConstant b → Same x y → is_up_to a env x b ≡ is_up_to blank [] y b
    constant_up_to (value e) x y h same =
        ap not (below_same (operand_of a env e) (operand_of blank [] e) x y (record { size = refl; sign = refl; value = λ n t. constant_val e n t h }) same)
    constant_up_to dollar x y h same = refl

  pub constant_alone : (e : ExprTerm) → IsConstant e → alone a env e ≡ alone blank [] e
  constant_alone e h = constant_val e (size_of e) (sign_of e) h
