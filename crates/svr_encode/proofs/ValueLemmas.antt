-- The value of an expression, by the form that stands at it
use Rattle.std.proofs.Common.{◌≡◌, ℕ, ℤ, Bool, ◌&&◌, max, List, [], length, get_or, Option, None, Some, option_map, inl, inr, sym, ap, ◌∙◌, subst, Vec, Global}
use Rattle.std.specs.Prelude.{◌⊎◌, Result, Ok, Err, IfOk}
use Rattle.svr_operator.specs.declared.BinOp.{BinOp}
use Rattle.svr_typed.specs.declared.expr.TExpr.{TExpr}
use Rattle.svr_typed.specs.ExprTerm.{ExprTerm, ExprTerms, NodeTerm, RangeTerms, typed, bit_select, part_select, select_of, binary, inside, copies, expr_term, node_term}
use Rattle.svr_chain.specs.declared.clause.Lit.{Lit}
use Rattle.svr_gate.specs.Numbers.{number}
use Rattle.svr_gate.specs.Circuit.{Circuit, Extends, GivesNumber}
use Rattle.svr_gate.proofs.Vectors.{GivesNumber-same, GivesNumber-width}
use Rattle.svr_num.specs.Num.{extend_of}
use Rattle.svr_eval.specs.declared.operator.BinaryKind.{BinaryKind}
use Rattle.svr_eval.specs.declared.operator.BinaryKind.TheVariants.{InContext, Shifted, ByPair, Logical}
use Rattle.svr_eval.specs.declared.operator.Arithmetic.{Arithmetic}
use Rattle.svr_eval.specs.declared.operator.Comparison.{Comparison}
use Rattle.svr_eval.specs.declared.operator.Connective.{Connective}
use Rattle.svr_eval.specs.declared.operator.Shift.{Shift}
use Rattle.svr_eval.specs.Operator.{binary_kind, arithmetic_of, shift_of, comparison_of, connective_of}
use Rattle.svr_eval.specs.Reading.{Reading}
use Rattle.svr_eval.specs.Value.{size_of, sign_of, is_set, truth, val, node_val, binary_val, fits_some, operand_of, selected, replicated}
use Rattle.svr_eval.specs.Typed.{IsTyped}
use Rattle.svr_encode.specs.Parts.{binary_parts}
use Rattle.svr_encode.specs.Given.{GiveParts}
use Rattle.svr_encode.proofs.TreeLemmas.{stored}

-- an expression whose node is this one
at_node : (a : Reading) (env : List ℕ) (e : TExpr) (n : NodeTerm) (w : ℕ) (s : Bool) → node_term e.node ≡ n → val a env (expr_term e) w s ≡ node_val a env e.width e.signed n w s
at_node a env e n w s is = ap (λ t. val a env t w s) (stored e) ∙ ap (λ m. node_val a env e.width e.signed m w s) is

-- what a call gives of the node is what the expression gives
pub node_gives : {E : Type 0} (d : Circuit) (read : (ℕ → Bool) → Reading) (env : List ℕ) (e : TExpr) (n : NodeTerm) (w : ℕ) (s : Bool) (r : Result (Vec Lit Global) E) → node_term e.node ≡ n
    → IfOk r (λ ls. GivesNumber d ls.items w (λ v. node_val (read v) env e.width e.signed n w s)) → IfOk r (λ ls. GivesNumber d ls.items w (λ v. val (read v) env (expr_term e) w s))
node_gives d read env e n w s (Ok ls) is g = GivesNumber-same (λ v. val (read v) env (expr_term e) w s) g (λ v m. sym (at_node (read v) env e n w s is))
node_gives d read env e n w s (Err x) is g = tt

pub inside_val : (a : Reading) (env : List ℕ) (e : TExpr) (l : ExprTerm) (rs : RangeTerms) (w : ℕ) (s : Bool) → node_term e.node ≡ inside l rs → val a env (expr_term e) w s ≡ truth w s (fits_some a env (operand_of a env l) rs)
inside_val a env e l rs w s is = at_node a env e (inside l rs) w s is

pub copies_val : (a : Reading) (env : List ℕ) (e : TExpr) (n : ExprTerm) (es : ExprTerms) (w : ℕ) (s : Bool) → node_term e.node ≡ copies n es → val a env (expr_term e) w s ≡ extend_of s w e.width (replicated a env n es)
copies_val a env e n es w s is = at_node a env e (copies n es) w s is

-- the value of a select, where `end` is the last bound, or without one the index
select_val : (a : Reading) (env : List ℕ) (e base first end : TExpr) (last : Option TExpr) (low : ℤ) (w : ℕ) (s : Bool) → IsTyped (expr_term e) → node_term e.node ≡ select_of (expr_term base) (expr_term first) (option_map expr_term last) low
    → ((last ≡ None) × (end ≡ first)) ⊎ (last ≡ Some end) → val a env (expr_term e) w s ≡ extend_of s w e.width (selected a env (expr_term base) (expr_term end) low e.width)
select_val a env e base first end last low w s y is (inl h) =
    let n : node_term e.node ≡ bit_select (expr_term base) (expr_term first) low = is ∙ ap (λ o. select_of (expr_term base) (expr_term first) (option_map expr_term o) low) h.0 in
    let one : 1 ≡ e.width = (subst IsTyped (stored e ∙ ap (typed e.width e.signed) n) y).2 in
    at_node a env e (bit_select (expr_term base) (expr_term first) low) w s n
    ∙ ap (λ k. extend_of s w k (selected a env (expr_term base) (expr_term first) low k)) one
    ∙ ap (λ x. extend_of s w e.width (selected a env (expr_term base) (expr_term x) low e.width)) (sym h.1)
select_val a env e base first end last low w s y is (inr h) =
    let n : node_term e.node ≡ part_select (expr_term base) (expr_term first) (expr_term end) low = is ∙ ap (λ o. select_of (expr_term base) (expr_term first) (option_map expr_term o) low) h in
    at_node a env e (part_select (expr_term base) (expr_term first) (expr_term end) low) w s n

pub select_gives : {E : Type 0} (d : Circuit) (read : (ℕ → Bool) → Reading) (env : List ℕ) (e base first end : TExpr) (last : Option TExpr) (low : ℤ) (w : ℕ) (s : Bool) (r : Result (Vec Lit Global) E) (z : ℤ) → IsTyped (expr_term e)
    → node_term e.node ≡ select_of (expr_term base) (expr_term first) (option_map expr_term last) low → ((last ≡ None) × (end ≡ first)) ⊎ (last ≡ Some end)
    → IfOk r (λ ls. GivesNumber d ls.items w (λ v. extend_of s w e.width (selected (read v) env (expr_term base) (expr_term end) z e.width))) → z ≡ low
    → IfOk r (λ ls. GivesNumber d ls.items w (λ v. val (read v) env (expr_term e) w s))
select_gives d read env e base first end last low w s (Ok ls) z y is which g same =
    GivesNumber-same (λ v. val (read v) env (expr_term e) w s) g
    (λ v m.
    ap (λ x. extend_of s w e.width (selected (read v) env (expr_term base) (expr_term end) x e.width)) same
    ∙ sym (select_val (read v) env e base first end last low w s y is which))
select_gives d read env e base first end last low w s (Err n) z y is which g same = tt

-- a comparison at the common width and sign
pub pair_gives : {E : Type 0} (c d : Circuit) (read : (ℕ → Bool) → Reading) (env : List ℕ) (op : BinOp) (k : Comparison) (l r : ExprTerm) (w : ℕ) (s both : Bool) (xs : List (List Lit)) (x y : List Lit) (out : Result (Vec Lit Global) E) → binary_kind op ≡ ByPair k
    → both ≡ (sign_of l && sign_of r) → GiveParts c xs read env 0 (binary_parts (binary_kind op) l r w s) → x ≡ get_or xs 0 [] → y ≡ get_or xs 1 [] → Extends c d
    → IfOk out (λ ls. GivesNumber d ls.items w (λ v. truth w s (comparison_of k (length x) both (number v x) (number v y)))) → IfOk out (λ ls. GivesNumber d ls.items w (λ v. node_val (read v) env 0 s (binary op l r) w s))
pair_gives c d read env op k l r w s both xs x y (Err n) kind same given ex ey later g = tt
pair_gives c d read env op k l r w s both xs x y (Ok ls) kind same given ex ey later g =
    let p = subst (λ (b : BinaryKind). GiveParts c xs read env 0 (binary_parts b l r w s)) kind given in
    let n : ℕ = max (size_of l) (size_of r) in
    let t : Bool = sign_of l && sign_of r in
    GivesNumber-same (λ v. node_val (read v) env 0 s (binary op l r) w s) g
    (λ v m.
    let here = later.keeps v m in
    ap (λ j. truth w s (comparison_of k j both (number v x) (number v y))) (ap length ex ∙ p.0.len)
    ∙ ap (λ b. truth w s (comparison_of k n b (number v x) (number v y))) same
    ∙ ap (λ j. truth w s (comparison_of k n t j (number v y))) (ap (number v) ex ∙ p.0.value v here)
    ∙ ap (λ j. truth w s (comparison_of k n t (val (read v) env l n t) j)) (ap (number v) ey ∙ p.1.0.value v here)
    ∙ sym
    (ap
    (λ b. binary_val b w s n t (val (read v) env l w s) (val (read v) env r w s) (val (read v) env l n t) (val (read v) env r n t) (val (read v) env l (size_of l) (sign_of l)) (val (read v) env r (size_of r) (sign_of r))) kind))

-- arithmetic on operands in the context
pub context_gives : {E : Type 0} (c d : Circuit) (read : (ℕ → Bool) → Reading) (env : List ℕ) (op : BinOp) (k : Arithmetic) (l r : ExprTerm) (w : ℕ) (s : Bool) (xs : List (List Lit)) (x y : List Lit) (out : Result (Vec Lit Global) E) → binary_kind op ≡ InContext k
    → GiveParts c xs read env 0 (binary_parts (binary_kind op) l r w s) → x ≡ get_or xs 0 [] → y ≡ get_or xs 1 [] → Extends c d
    → IfOk out (λ ls. GivesNumber d ls.items (length x) (λ v. arithmetic_of k (length x) s (number v x) (number v y))) → IfOk out (λ ls. GivesNumber d ls.items w (λ v. node_val (read v) env 0 s (binary op l r) w s))
context_gives c d read env op k l r w s xs x y (Err e) kind given ex ey later g = tt
context_gives c d read env op k l r w s xs x y (Ok ls) kind given ex ey later g =
    let p = subst (λ (b : BinaryKind). GiveParts c xs read env 0 (binary_parts b l r w s)) kind given in
    let n : ℕ = max (size_of l) (size_of r) in
    let t : Bool = sign_of l && sign_of r in
    GivesNumber-width (ap length ex ∙ p.0.len)
    (GivesNumber-same (λ v. node_val (read v) env 0 s (binary op l r) w s) g
    (λ v m.
    let here = later.keeps v m in
    ap (λ j. arithmetic_of k j s (number v x) (number v y)) (ap length ex ∙ p.0.len)
    ∙ ap (λ j. arithmetic_of k w s j (number v y)) (ap (number v) ex ∙ p.0.value v here)
    ∙ ap (λ j. arithmetic_of k w s (val (read v) env l w s) j) (ap (number v) ey ∙ p.1.0.value v here)
    ∙ sym
    (ap
    (λ b. binary_val b w s n t (val (read v) env l w s) (val (read v) env r w s) (val (read v) env l n t) (val (read v) env r n t) (val (read v) env l (size_of l) (sign_of l)) (val (read v) env r (size_of r) (sign_of r))) kind)))

-- a shift of an operand in the context by one alone
pub shift_gives : {E : Type 0} (c d : Circuit) (read : (ℕ → Bool) → Reading) (env : List ℕ) (op : BinOp) (k : Shift) (l r : ExprTerm) (w : ℕ) (s : Bool) (xs : List (List Lit)) (x y : List Lit) (out : Result (Vec Lit Global) E) → binary_kind op ≡ Shifted k
    → GiveParts c xs read env 0 (binary_parts (binary_kind op) l r w s) → x ≡ get_or xs 0 [] → y ≡ get_or xs 1 [] → Extends c d
    → IfOk out (λ ls. GivesNumber d ls.items (length x) (λ v. shift_of k (length x) s (number v x) (number v y))) → IfOk out (λ ls. GivesNumber d ls.items w (λ v. node_val (read v) env 0 s (binary op l r) w s))
shift_gives c d read env op k l r w s xs x y (Err e) kind given ex ey later g = tt
shift_gives c d read env op k l r w s xs x y (Ok ls) kind given ex ey later g =
    let p = subst (λ (b : BinaryKind). GiveParts c xs read env 0 (binary_parts b l r w s)) kind given in
    let n : ℕ = max (size_of l) (size_of r) in
    let t : Bool = sign_of l && sign_of r in
    GivesNumber-width (ap length ex ∙ p.0.len)
    (GivesNumber-same (λ v. node_val (read v) env 0 s (binary op l r) w s) g
    (λ v m.
    let here = later.keeps v m in
    ap (λ j. shift_of k j s (number v x) (number v y)) (ap length ex ∙ p.0.len)
    ∙ ap (λ j. shift_of k w s j (number v y)) (ap (number v) ex ∙ p.0.value v here)
    ∙ ap (λ j. shift_of k w s (val (read v) env l w s) j) (ap (number v) ey ∙ p.1.0.value v here)
    ∙ sym
    (ap
    (λ b. binary_val b w s n t (val (read v) env l w s) (val (read v) env r w s) (val (read v) env l n t) (val (read v) env r n t) (val (read v) env l (size_of l) (sign_of l)) (val (read v) env r (size_of r) (sign_of r))) kind)))

-- a connective of two operands alone
pub logical_gives : {E : Type 0} (c d : Circuit) (read : (ℕ → Bool) → Reading) (env : List ℕ) (op : BinOp) (k : Connective) (l r : ExprTerm) (w : ℕ) (s : Bool) (xs : List (List Lit)) (x y : List Lit) (out : Result (Vec Lit Global) E) → binary_kind op ≡ Logical k
    → GiveParts c xs read env 0 (binary_parts (binary_kind op) l r w s) → x ≡ get_or xs 0 [] → y ≡ get_or xs 1 [] → Extends c d
    → IfOk out (λ ls. GivesNumber d ls.items w (λ v. truth w s (connective_of k (is_set (number v x)) (is_set (number v y))))) → IfOk out (λ ls. GivesNumber d ls.items w (λ v. node_val (read v) env 0 s (binary op l r) w s))
logical_gives c d read env op k l r w s xs x y (Err e) kind given ex ey later g = tt
logical_gives c d read env op k l r w s xs x y (Ok ls) kind given ex ey later g =
    let p = subst (λ (b : BinaryKind). GiveParts c xs read env 0 (binary_parts b l r w s)) kind given in
    let n : ℕ = max (size_of l) (size_of r) in
    let t : Bool = sign_of l && sign_of r in
    GivesNumber-same (λ v. node_val (read v) env 0 s (binary op l r) w s) g
    (λ v m.
    let here = later.keeps v m in
    ap (λ j. truth w s (connective_of k (is_set j) (is_set (number v y)))) (ap (number v) ex ∙ p.0.value v here)
    ∙ ap (λ j. truth w s (connective_of k (is_set (val (read v) env l (size_of l) (sign_of l))) (is_set j))) (ap (number v) ey ∙ p.1.0.value v here)
    ∙ sym
    (ap
    (λ b. binary_val b w s n t (val (read v) env l w s) (val (read v) env r w s) (val (read v) env l n t) (val (read v) env r n t) (val (read v) env l (size_of l) (sign_of l)) (val (read v) env r (size_of r) (sign_of r))) kind))
