-- Operators and their tokens.
use Rattle.std.proofs.Common.{◌≡◌, ℕ, ◌+◌, ◌<◌, ◌≤◌, true, false, Option, Some, None, refl, ap, arith}
use Rattle.std.proofs.lemmas.Bool.Decides.{nat_tests}
use Rattle.svr_token.specs.declared.Lexeme.{Lexeme}
use Rattle.svr_token.specs.declared.Lexeme.TheVariants as lexeme
use Rattle.svr_token.specs.declared.Word.TheVariants as w
use Rattle.svr_token.specs.declared.Mark.{Mark}
use Rattle.svr_token.specs.declared.Mark.TheVariants as m
use Rattle.svr_operator.specs.declared.UnOp.{UnOp}
use Rattle.svr_operator.specs.declared.UnOp.TheVariants as u
use Rattle.svr_operator.specs.declared.BinOp.{BinOp}
use Rattle.svr_operator.specs.declared.BinOp.TheVariants as b
use Rattle.svr_tree.specs.Operators.{unary_mark, binary_mark, multiplicative_level, unary_level, selection_level, precedence, least_left, least_right}
use Rattle.svr_reader.specs.declared.fixed.Fixed.TheVariants as f
use Rattle.svr_reader.specs.Steps.{same_word, same_mark, is_fixed}
use Rattle.svr_expr.specs.declared.connective.Connective.{Connective}
use Rattle.svr_expr.specs.declared.connective.Connective.TheVariants as connective
use Rattle.svr_expr.specs.Connectives.{unary_of, mark_connective, connective_of, connective_level, connective_binds, binds, goes_on}
use Rattle.svr_expr.specs.ExprRules.{expr_starts}

-- ---- levels

pub precedence_pos : (op : BinOp) → 1 ≤ precedence op
precedence_pos b.Multiply = omega arith
precedence_pos b.Divide = omega arith
precedence_pos b.Modulus = omega arith
precedence_pos b.Add = omega arith
precedence_pos b.Subtract = omega arith
precedence_pos b.ShiftLeft = omega arith
precedence_pos b.ShiftRight = omega arith
precedence_pos b.ShiftLeftArith = omega arith
precedence_pos b.ShiftRightArith = omega arith
precedence_pos b.Less = omega arith
precedence_pos b.AtMost = omega arith
precedence_pos b.Greater = omega arith
precedence_pos b.AtLeast = omega arith
precedence_pos b.Equal = omega arith
precedence_pos b.NotEqual = omega arith
precedence_pos b.CaseEqual = omega arith
precedence_pos b.CaseNotEqual = omega arith
precedence_pos b.BitwiseAnd = omega arith
precedence_pos b.BitwiseXor = omega arith
precedence_pos b.BitwiseTildeXor = omega arith
precedence_pos b.BitwiseXorTilde = omega arith
precedence_pos b.BitwiseOr = omega arith
precedence_pos b.LogicalAnd = omega arith
precedence_pos b.LogicalOr = omega arith
precedence_pos b.Implies = omega arith
precedence_pos b.Equivalent = omega arith

pub precedence_low : (op : BinOp) → precedence op ≤ multiplicative_level
precedence_low b.Multiply = omega arith
precedence_low b.Divide = omega arith
precedence_low b.Modulus = omega arith
precedence_low b.Add = omega arith
precedence_low b.Subtract = omega arith
precedence_low b.ShiftLeft = omega arith
precedence_low b.ShiftRight = omega arith
precedence_low b.ShiftLeftArith = omega arith
precedence_low b.ShiftRightArith = omega arith
precedence_low b.Less = omega arith
precedence_low b.AtMost = omega arith
precedence_low b.Greater = omega arith
precedence_low b.AtLeast = omega arith
precedence_low b.Equal = omega arith
precedence_low b.NotEqual = omega arith
precedence_low b.CaseEqual = omega arith
precedence_low b.CaseNotEqual = omega arith
precedence_low b.BitwiseAnd = omega arith
precedence_low b.BitwiseXor = omega arith
precedence_low b.BitwiseTildeXor = omega arith
precedence_low b.BitwiseXorTilde = omega arith
precedence_low b.BitwiseOr = omega arith
precedence_low b.LogicalAnd = omega arith
precedence_low b.LogicalOr = omega arith
precedence_low b.Implies = omega arith
precedence_low b.Equivalent = omega arith

pub connective_pos : (k : Connective) → 1 ≤ connective_level k
connective_pos (connective.Binary op) = precedence_pos op
connective_pos connective.Choice = omega arith
connective_pos connective.Inside = omega arith

pub connective_low : (k : Connective) → connective_level k ≤ multiplicative_level
connective_low (connective.Binary op) = precedence_low op
connective_low connective.Choice = omega arith
connective_low connective.Inside = omega arith

pub groups : (p l : ℕ) → p < least_right l → least_left p ≤ l
groups p l h = grind (arith, nat_tests)

pub lower_left : (least p v : ℕ) → least ≤ p → least_left p ≤ v → least ≤ v
lower_left least p v a h = grind (arith, nat_tests)

pub binding_left : (p v : ℕ) → least_left p ≤ v → p < least_right v
binding_left p v h = grind (arith, nat_tests)

pub right_pos : (p : ℕ) → 1 ≤ p → 1 ≤ least_right p
right_pos p h = grind (arith, nat_tests)

pub right_low : (p n : ℕ) → p ≤ n → 2 ≤ n → least_right p ≤ n + 1
right_low p n h two = grind (arith, nat_tests)

pub least_low : (least v n : ℕ) → least ≤ v → n < least → n < least_right v
least_low least v n a h = grind (arith, nat_tests)

pub goes_ok : (least most n : ℕ) → goes_on least most n ≡ true → (least ≤ n) × (n < most)
goes_ok least most n h = grind (arith, nat_tests)

pub goes : (least most n : ℕ) → least ≤ n → n < most → goes_on least most n ≡ true
goes least most n a z = grind (arith, nat_tests)

pub stops : (least most n : ℕ) → n < least → goes_on least most n ≡ false
stops least most n a = grind (arith, nat_tests)

-- ---- what a mark is

pub unary_is : (op : UnOp) → unary_of (unary_mark op) ≡ Some op
unary_is u.Plus = refl
unary_is u.Minus = refl
unary_is u.LogicalNot = refl
unary_is u.BitwiseNot = refl
unary_is u.ReduceAnd = refl
unary_is u.ReduceNand = refl
unary_is u.ReduceOr = refl
unary_is u.ReduceNor = refl
unary_is u.ReduceXor = refl
unary_is u.ReduceTildeXor = refl
unary_is u.ReduceXorTilde = refl

pub unary_back : (k : Mark) (op : UnOp) → unary_of k ≡ Some op → k ≡ unary_mark op
unary_back m.Plus op h = let e : u.Plus ≡ op = cc in ap unary_mark e
unary_back m.Minus op h = let e : u.Minus ≡ op = cc in ap unary_mark e
unary_back m.Bang op h = let e : u.LogicalNot ≡ op = cc in ap unary_mark e
unary_back m.Tilde op h = let e : u.BitwiseNot ≡ op = cc in ap unary_mark e
unary_back m.And op h = let e : u.ReduceAnd ≡ op = cc in ap unary_mark e
unary_back m.Nand op h = let e : u.ReduceNand ≡ op = cc in ap unary_mark e
unary_back m.Or op h = let e : u.ReduceOr ≡ op = cc in ap unary_mark e
unary_back m.Nor op h = let e : u.ReduceNor ≡ op = cc in ap unary_mark e
unary_back m.Xor op h = let e : u.ReduceXor ≡ op = cc in ap unary_mark e
unary_back m.TildeXor op h = let e : u.ReduceTildeXor ≡ op = cc in ap unary_mark e
unary_back m.XorTilde op h = let e : u.ReduceXorTilde ≡ op = cc in ap unary_mark e
unary_back _ op h = absurd (cc)

pub mark_is : (op : BinOp) → mark_connective (binary_mark op) ≡ Some (connective.Binary op)
mark_is b.Multiply = refl
mark_is b.Divide = refl
mark_is b.Modulus = refl
mark_is b.Add = refl
mark_is b.Subtract = refl
mark_is b.ShiftLeft = refl
mark_is b.ShiftRight = refl
mark_is b.ShiftLeftArith = refl
mark_is b.ShiftRightArith = refl
mark_is b.Less = refl
mark_is b.AtMost = refl
mark_is b.Greater = refl
mark_is b.AtLeast = refl
mark_is b.Equal = refl
mark_is b.NotEqual = refl
mark_is b.CaseEqual = refl
mark_is b.CaseNotEqual = refl
mark_is b.BitwiseAnd = refl
mark_is b.BitwiseXor = refl
mark_is b.BitwiseTildeXor = refl
mark_is b.BitwiseXorTilde = refl
mark_is b.BitwiseOr = refl
mark_is b.LogicalAnd = refl
mark_is b.LogicalOr = refl
mark_is b.Implies = refl
mark_is b.Equivalent = refl

-- the mark that spells a connective
abbrev pub spells_connective : Connective → Lexeme
spells_connective (connective.Binary op) = lexeme.Mark (binary_mark op)
spells_connective connective.Choice = lexeme.Mark m.Question
spells_connective connective.Inside = lexeme.Word w.Inside

mark_back : (k : Mark) (l : Connective) → mark_connective k ≡ Some l → lexeme.Mark k ≡ spells_connective l
mark_back m.Question l h = let e : connective.Choice ≡ l = cc in ap spells_connective e
mark_back m.Star l h = let e : connective.Binary b.Multiply ≡ l = cc in ap spells_connective e
mark_back m.Slash l h = let e : connective.Binary b.Divide ≡ l = cc in ap spells_connective e
mark_back m.Percent l h = let e : connective.Binary b.Modulus ≡ l = cc in ap spells_connective e
mark_back m.Plus l h = let e : connective.Binary b.Add ≡ l = cc in ap spells_connective e
mark_back m.Minus l h = let e : connective.Binary b.Subtract ≡ l = cc in ap spells_connective e
mark_back m.ShiftLeft l h = let e : connective.Binary b.ShiftLeft ≡ l = cc in ap spells_connective e
mark_back m.ShiftRight l h = let e : connective.Binary b.ShiftRight ≡ l = cc in ap spells_connective e
mark_back m.ShiftLeftArith l h = let e : connective.Binary b.ShiftLeftArith ≡ l = cc in ap spells_connective e
mark_back m.ShiftRightArith l h = let e : connective.Binary b.ShiftRightArith ≡ l = cc in ap spells_connective e
mark_back m.Less l h = let e : connective.Binary b.Less ≡ l = cc in ap spells_connective e
mark_back m.AtMost l h = let e : connective.Binary b.AtMost ≡ l = cc in ap spells_connective e
mark_back m.Greater l h = let e : connective.Binary b.Greater ≡ l = cc in ap spells_connective e
mark_back m.AtLeast l h = let e : connective.Binary b.AtLeast ≡ l = cc in ap spells_connective e
mark_back m.Equal l h = let e : connective.Binary b.Equal ≡ l = cc in ap spells_connective e
mark_back m.NotEqual l h = let e : connective.Binary b.NotEqual ≡ l = cc in ap spells_connective e
mark_back m.CaseEqual l h = let e : connective.Binary b.CaseEqual ≡ l = cc in ap spells_connective e
mark_back m.CaseNotEqual l h = let e : connective.Binary b.CaseNotEqual ≡ l = cc in ap spells_connective e
mark_back m.And l h = let e : connective.Binary b.BitwiseAnd ≡ l = cc in ap spells_connective e
mark_back m.Xor l h = let e : connective.Binary b.BitwiseXor ≡ l = cc in ap spells_connective e
mark_back m.TildeXor l h = let e : connective.Binary b.BitwiseTildeXor ≡ l = cc in ap spells_connective e
mark_back m.XorTilde l h = let e : connective.Binary b.BitwiseXorTilde ≡ l = cc in ap spells_connective e
mark_back m.Or l h = let e : connective.Binary b.BitwiseOr ≡ l = cc in ap spells_connective e
mark_back m.AndAnd l h = let e : connective.Binary b.LogicalAnd ≡ l = cc in ap spells_connective e
mark_back m.OrOr l h = let e : connective.Binary b.LogicalOr ≡ l = cc in ap spells_connective e
mark_back m.Arrow l h = let e : connective.Binary b.Implies ≡ l = cc in ap spells_connective e
mark_back m.DoubleArrow l h = let e : connective.Binary b.Equivalent ≡ l = cc in ap spells_connective e
mark_back _ l h = absurd (cc)

-- a token that connectives spells the connective
pub connective_back : (q : Option Lexeme) (l : Connective) → connective_of q ≡ Some l → q ≡ Some (spells_connective l)
connective_back (Some (lexeme.Word w.Inside)) l h = let e : connective.Inside ≡ l = cc in ap (λ v. Some (spells_connective v)) e
connective_back (Some (lexeme.Mark k)) l h = ap Some (mark_back k l h)
connective_back _ l h = absurd (cc)

pub connective_is : (l : Connective) → connective_of (Some (spells_connective l)) ≡ Some l
connective_is (connective.Binary op) = mark_is op
connective_is connective.Choice = refl
connective_is connective.Inside = refl

-- what connectives binds as its connective
pub binds_connective : (q : Option Lexeme) (l : Connective) → connective_of q ≡ Some l → binds q ≡ connective_level l
binds_connective (Some (lexeme.Mark m.Dot)) l h = absurd (cc)
binds_connective (Some (lexeme.Mark m.OpenBracket)) l h = absurd (cc)
binds_connective (Some (lexeme.Mark m.OpenParen)) l h = absurd (cc)
binds_connective (Some (lexeme.Word w.With)) l h = absurd (cc)
binds_connective _ l h = ap connective_binds h

pub spelled_binds : (l : Connective) → binds (Some (spells_connective l)) ≡ connective_level l
spelled_binds l = binds_connective (Some (spells_connective l)) l (connective_is l)

-- what binds less than a path is nothing that only a path goes on with
pub no_dot : (q : Option Lexeme) → binds q < selection_level → is_fixed (f.Mark m.Dot) q ≡ false
unfolding same_mark
no_dot (Some (lexeme.Mark m.Dot)) h = absurd (omega arith)
no_dot _ h = refl

pub no_bracket : (q : Option Lexeme) → binds q < selection_level → is_fixed (f.Mark m.OpenBracket) q ≡ false
unfolding same_mark
no_bracket (Some (lexeme.Mark m.OpenBracket)) h = absurd (omega arith)
no_bracket _ h = refl

-- nor what only the name of a reduction goes on with
abbrev pub NotFold : Option Lexeme → Type 0
NotFold q = (is_fixed (f.Word w.With) q ≡ false) × (is_fixed (f.Mark m.OpenParen) q ≡ false)

pub no_fold : (q : Option Lexeme) → binds q < selection_level → NotFold q
unfolding same_mark same_word
no_fold (Some (lexeme.Mark m.OpenParen)) h = absurd (omega arith)
no_fold (Some (lexeme.Word w.With)) h = absurd (omega arith)
no_fold _ h = (refl, refl)

-- connectives bind at most like multiplication
pub binds_gap : (q : Option Lexeme) → binds q < selection_level → binds q < unary_level
binds_gap q h = by (connective_of q) refl
  where
    by : (l : Option Connective) → connective_of q ≡ l → binds q < unary_level
    by (Some l) e = let is = binds_connective q l e in let low = connective_low l in omega (arith, is, low)
    by None e = none q h e
      where
        none : (q : Option Lexeme) → binds q < selection_level → connective_of q ≡ None → binds q < unary_level
        none (Some (lexeme.Mark m.Dot)) h e = absurd (omega arith)
        none (Some (lexeme.Mark m.OpenBracket)) h e = absurd (omega arith)
        none (Some (lexeme.Mark m.OpenParen)) h e = absurd (omega arith)
        none (Some (lexeme.Word w.With)) h e = absurd (omega arith)
        none q h e = let is : connective_binds (connective_of q) ≡ 0 = ap connective_binds e in omega (arith, is)

-- an operator begins an expression
pub operator_starts : (op : UnOp) → expr_starts (Some (lexeme.Mark (unary_mark op))) ≡ true
operator_starts u.Plus = refl
operator_starts u.Minus = refl
operator_starts u.LogicalNot = refl
operator_starts u.BitwiseNot = refl
operator_starts u.ReduceAnd = refl
operator_starts u.ReduceNand = refl
operator_starts u.ReduceOr = refl
operator_starts u.ReduceNor = refl
operator_starts u.ReduceXor = refl
operator_starts u.ReduceTildeXor = refl
operator_starts u.ReduceXorTilde = refl
