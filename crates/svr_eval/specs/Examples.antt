-- Expressions with their values and items with their truth, worked out by hand from the standard's rules.
use Rattle.std.specs.Prelude.{◌==◌, ◌^◌, ℕ, pos, Bool, true, false, List, [], ◌∷◌, None, Some, length, slice_index, slice_index_or}
use Rattle.svr_operator.specs.declared.UnOp.{UnOp}
use Rattle.svr_operator.specs.declared.UnOp.TheVariants as un
use Rattle.svr_operator.specs.declared.BinOp.{BinOp}
use Rattle.svr_operator.specs.declared.BinOp.TheVariants as bin
use Rattle.svr_operator.specs.declared.Fold.{Fold}
use Rattle.svr_operator.specs.declared.Fold.TheVariants as fold
use Rattle.svr_operator.specs.declared.Share.TheVariants as share
use Rattle.svr_typed.specs.ExprTerm.{ExprTerm, typed, NodeTerm, number, prop, element, cell, size, script, loop_index, reduce, bit_select, part_select, unary, binary, choice, inside, join, copies, sign, exprs_of, RangeTerm, one, span, ranges_of, value, dollar}
use Rattle.svr_typed.specs.ItemTerm.{DistTerm, ItemTerm, plain, unique, implies, branch, foreach, disable, solve, items_of, no_else, else_items}
use Rattle.svr_eval.specs.Reading.{Reading}
use Rattle.svr_eval.specs.Value.{node_size, node_sign, alone}
use Rattle.svr_eval.specs.Holds.{holds}

-- ---- short words

-- a form with its own size and sign
abbrev pub form : NodeTerm → ExprTerm
form n = typed (node_size 1 n) (node_sign false n) n

-- bit [7:0], byte, int, and '0 or '1
abbrev pub u8 : ℕ → ExprTerm
u8 v = typed 8 false (number v false)

abbrev pub s8 : ℕ → ExprTerm
s8 v = typed 8 true (number v false)

abbrev pub int : ℕ → ExprTerm
int v = typed 32 true (number v false)

abbrev pub bits : ℕ → ℕ → ExprTerm
bits w v = typed w false (number v false)

abbrev pub every : ℕ → ExprTerm
every v = form (number v true)

abbrev pub of1 : UnOp → ExprTerm → ExprTerm
of1 op e = form (unary op e)

abbrev pub of2 : ExprTerm → BinOp → ExprTerm → ExprTerm
of2 l op r = form (binary op l r)

abbrev pub minus : ℕ → ExprTerm
minus v = of1 un.Minus (int v)

abbrev pub if_else : ExprTerm → ExprTerm → ExprTerm → ExprTerm
if_else t met unmet = form (choice t met unmet)

abbrev pub among : ExprTerm → List RangeTerm → ExprTerm
among l rs = form (inside l (ranges_of rs))

abbrev pub from_to : ExprTerm → ExprTerm → RangeTerm
from_to low high = span (value low) (value high)

-- ---- what is read: an array of bytes, a scalar of bit [7:0], and of its arrays one with the dimensions [2][3], one of two elements, and one of none; script variable 0 is 9; the loops stand at 1 and, inside, at 2

abbrev pub numbers : List (List ℕ)
numbers =
    (10 ∷ 20 ∷ 30 ∷ [])
    ∷ (200 ∷ [])
    ∷ (11 ∷ 12 ∷ 13 ∷ 21 ∷ 22 ∷ 23 ∷ [])
    ∷ (200 ∷ 100 ∷ [])
    ∷ []
    ∷ []

abbrev pub sample : Reading
sample = record {
  element = λ p i. slice_index (slice_index_or numbers p []) i;
  size = λ p. length (slice_index_or numbers p []);
  script = λ v. 9;
}

abbrev pub loops : List ℕ
loops = 1 ∷ 2 ∷ []

abbrev pub array : ExprTerm
array = typed 8 true (prop 0)

abbrev pub x : ExprTerm
x = typed 8 false (prop 1)

abbrev pub at_index : ExprTerm → ExprTerm
at_index i = typed 8 true (element 0 i)

abbrev pub index : ℕ → ExprTerm
index k = form (loop_index k)

abbrev pub at_cell : ExprTerm → ExprTerm → ExprTerm
at_cell i j = typed 8 false (cell 2 3 i j)

-- the elements of the array of this place, over which a reduction runs
abbrev pub element_of : ℕ → ExprTerm
element_of p = typed 8 false (element p (index 0))

abbrev pub fold_by : Fold → ℕ → ExprTerm → ExprTerm
fold_by op p body = form (reduce p op body)

-- ---- expressions

pub record Example : Type 0 where
  pub expr : ExprTerm
  pub is : ℕ

infix 5 ◌gives◌
abbrev pub ◌gives◌ : ExprTerm → ℕ → Example
e gives n = record { expr = e; is = n }

abbrev pub is_so : Example → Bool
is_so ex = alone sample loops ex.expr == ex.is

-- sums and products at the greater size (11.6.1)
abbrev pub arithmetic : List Example
arithmetic =
    -- 8 bits lose the carry
    (of2 (u8 255) bin.Add (u8 1) gives 0)
    -- 9 bits keep it
    ∷ (of2 (u8 255) bin.Add (bits 9 1) gives 256)
    -- a plain 1 has 32 bits
    ∷ (of2 (u8 255) bin.Add (int 1) gives 256)
    ∷ (of2 (of2 (u8 255) bin.Add (u8 1)) bin.Equal (u8 0) gives 1)
    -- the comparison is at 32 bits, and the sum in its context
    ∷ (of2 (of2 (u8 255) bin.Add (u8 1)) bin.Equal (int 0) gives 0)
    -- 3 - 5 + 256
    ∷ (of2 (u8 3) bin.Subtract (u8 5) gives 254)
    -- 256 modulo 256
    ∷ (of2 (u8 16) bin.Multiply (u8 16) gives 0)
    ∷ (of2 (u8 200) bin.Divide (u8 7) gives 28)
    -- -7 / 2 is -3, towards zero
    ∷ (of2 (s8 249) bin.Divide (s8 2) gives 253)
    -- -7 % 2 is -1, with the sign of the left operand
    ∷ (of2 (s8 249) bin.Modulus (s8 2) gives 255)
    -- 7 % -2 is 1
    ∷ (of2 (s8 7) bin.Modulus (s8 254) gives 1)
    -- a divisor of 0
    ∷ (of2 (u8 13) bin.Divide (u8 0) gives 0)
    ∷ (of2 (u8 13) bin.Modulus (u8 0) gives 0)
    -- -128 / -1 is 128, which is -128 at 8 bits
    ∷ (of2 (s8 128) bin.Divide (s8 255) gives 128)
    -- one unsigned operand makes both unsigned: 249 / 2
    ∷ (of2 (s8 249) bin.Divide (u8 2) gives 124)
    -- the least number of 64 bits by -1
    ∷ (of2 (typed 64 true (number (2 ^ 63) false)) bin.Divide (minus 1) gives 9223372036854775808)
    ∷ []

-- (11.4.7 to 11.4.9); f0 and 3c are 240 and 60
abbrev pub bitwise : List Example
bitwise =
    (of2 (u8 240) bin.BitwiseAnd (u8 60) gives 48)
    ∷ (of2 (u8 240) bin.BitwiseOr (u8 60) gives 252)
    ∷ (of2 (u8 240) bin.BitwiseXor (u8 60) gives 204)
    ∷ (of2 (u8 240) bin.BitwiseTildeXor (u8 60) gives 51)
    ∷ (of1 un.BitwiseNot (u8 15) gives 240)
    ∷ (of1 un.Minus (u8 1) gives 255)
    ∷ (of1 un.Plus (u8 7) gives 7)
    ∷ (of1 un.LogicalNot (u8 0) gives 1)
    ∷ (of1 un.LogicalNot (u8 4) gives 0)
    ∷ (of1 un.ReduceAnd (u8 255) gives 1)
    ∷ (of1 un.ReduceAnd (u8 254) gives 0)
    ∷ (of1 un.ReduceNand (u8 254) gives 1)
    ∷ (of1 un.ReduceOr (u8 0) gives 0)
    ∷ (of1 un.ReduceNor (u8 0) gives 1)
    -- three ones
    ∷ (of1 un.ReduceXor (u8 7) gives 1)
    ∷ (of1 un.ReduceTildeXor (u8 7) gives 0)
    -- 2 and 1 are true, though they have no bit in common
    ∷ (of2 (u8 2) bin.LogicalAnd (u8 1) gives 1)
    ∷ (of2 (u8 2) bin.LogicalAnd (u8 0) gives 0)
    ∷ (of2 (u8 0) bin.LogicalOr (u8 2) gives 1)
    ∷ (of2 (u8 0) bin.Implies (u8 0) gives 1)
    ∷ (of2 (u8 1) bin.Implies (u8 0) gives 0)
    ∷ (of2 (u8 2) bin.Equivalent (u8 1) gives 1)
    ∷ (of2 (u8 0) bin.Equivalent (u8 1) gives 0)
    ∷ []

-- the amount alone, and unsigned (11.4.10)
abbrev pub shifts : List Example
shifts =
    (of2 (u8 1) bin.ShiftLeft (u8 7) gives 128)
    ∷ (of2 (u8 1) bin.ShiftLeft (u8 8) gives 0)
    -- -1 as an amount is 255
    ∷ (of2 (u8 1) bin.ShiftLeftArith (s8 255) gives 0)
    -- in a context of 9 bits the left operand has 9
    ∷ (of2 (of2 (u8 128) bin.ShiftLeft (u8 1)) bin.Add (bits 9 0) gives 256)
    ∷ (of2 (u8 129) bin.ShiftRight (u8 1) gives 64)
    -- -127 >>> 1 is -64
    ∷ (of2 (s8 129) bin.ShiftRightArith (u8 1) gives 192)
    -- an unsigned operand has no sign bit
    ∷ (of2 (u8 129) bin.ShiftRightArith (u8 1) gives 64)
    -- an unsigned context takes it away
    ∷ (of2 (of2 (s8 129) bin.ShiftRightArith (u8 1)) bin.Add (u8 0) gives 64)
    -- past the width: copies of the sign bit, or zeros
    ∷ (of2 (s8 129) bin.ShiftRightArith (u8 200) gives 255)
    ∷ (of2 (s8 129) bin.ShiftRight (u8 200) gives 0)
    ∷ []

-- at the greater size, signed where both operands are (11.8.2)
abbrev pub comparisons : List Example
comparisons =
    -- 255 against the unsigned 4294967295
    (of2 (u8 255) bin.Equal (minus 1) gives 0)
    -- -1 against -1
    ∷ (of2 (s8 255) bin.Equal (minus 1) gives 1)
    ∷ (of2 (s8 255) bin.CaseNotEqual (minus 1) gives 0)
    -- -1 < 1
    ∷ (of2 (s8 255) bin.Less (s8 1) gives 1)
    -- 255 < 1
    ∷ (of2 (s8 255) bin.Less (u8 1) gives 0)
    ∷ (of2 (u8 5) bin.AtMost (u8 5) gives 1)
    ∷ (of2 (u8 5) bin.AtLeast (u8 6) gives 0)
    -- as a literal, 2147483648 is the pattern of the least int
    ∷ (of2 (int 2147483648) bin.Greater (int 1) gives 0)
    ∷ (of2 (bits 32 2147483648) bin.Greater (int 1) gives 1)
    -- `$signed` and `$unsigned` (20.5)
    ∷ (of2 (form (sign true (u8 255))) bin.Less (s8 0) gives 1)
    ∷ (of2 (form (sign false (s8 255))) bin.Less (s8 0) gives 0)
    ∷ []

-- the parts between ? and : in one context, the test alone (11.4.11); '0 and '1 (5.7.1); { } (11.4.12)
abbrev pub wholes : List Example
wholes =
    (if_else (u8 1) (u8 5) (bits 9 256) gives 5)
    ∷ (if_else (u8 0) (u8 5) (bits 9 256) gives 256)
    -- both signed: the sign bit is copied
    ∷ (if_else (u8 1) (s8 255) (int 0) gives 4294967295)
    ∷ (if_else (u8 1) (s8 255) (bits 32 0) gives 255)
    ∷ (of2 (every 1) bin.Add (u8 0) gives 255)
    ∷ (every 1 gives 1)
    ∷ (of2 (every 0) bin.Add (u8 3) gives 3)
    -- ab above c
    ∷ (form (join (exprs_of (u8 171 ∷ bits 4 12 ∷ []))) gives 2748)
    -- unsigned, whatever the parts are
    ∷ (of2 (form (join (exprs_of (s8 255 ∷ [])))) bin.Add (int 0) gives 255)
    -- 10 10 10
    ∷ (typed 6 false (copies (int 3) (exprs_of (bits 2 2 ∷ []))) gives 42)
    -- 00000001 1 00000001 1
    ∷ (typed 18 false (copies (int 2) (exprs_of (u8 1 ∷ bits 1 1 ∷ []))) gives 1539)
    ∷ []

-- bits by the numbers of the declared range, zeros outside (11.5.1); a5 is 165
abbrev pub selects : List Example
selects =
    (form (bit_select (u8 165) (int 0) (pos 0)) gives 1)
    ∷ (form (bit_select (u8 165) (int 1) (pos 0)) gives 0)
    ∷ (form (bit_select (u8 165) (int 8) (pos 0)) gives 0)
    ∷ (form (bit_select (u8 165) (minus 1) (pos 0)) gives 0)
    -- declared as [11:4]
    ∷ (form (bit_select (u8 165) (int 4) (pos 4)) gives 1)
    ∷ (form (bit_select (u8 165) (int 3) (pos 4)) gives 0)
    ∷ (typed 4 false (part_select (u8 165) (int 7) (int 4) (pos 0)) gives 10)
    ∷ (typed 4 false (part_select (u8 165) (int 7) (int 4) (pos 4)) gives 5)
    ∷ (at_index (int 1) gives 20)
    -- outside the array
    ∷ (at_index (int 3) gives 0)
    ∷ (at_index (minus 1) gives 0)
    -- the loops outwards
    ∷ (at_index (form (loop_index 0)) gives 30)
    ∷ (form (loop_index 1) gives 1)
    ∷ (form (size 0 1) gives 3)
    ∷ (typed 8 false (script 0) gives 9)
    ∷ []

-- rows 11, 12, 13 and 21, 22, 23 (7.4.2)
abbrev pub cells : List Example
cells =
    (at_cell (int 0) (int 0) gives 11)
    ∷ (at_cell (int 0) (int 2) gives 13)
    ∷ (at_cell (int 1) (int 0) gives 21)
    ∷ (at_cell (int 1) (int 2) gives 23)
    -- outside the second dimension, though 0 * 3 + 3 is the place of 21
    ∷ (at_cell (int 0) (int 3) gives 0)
    -- outside the first
    ∷ (at_cell (int 2) (int 0) gives 0)
    -- below 0, though 1 * 3 - 1 is the place of 13, and -1 * 3 + 5 too
    ∷ (at_cell (int 1) (minus 1) gives 0)
    ∷ (at_cell (minus 1) (int 5) gives 0)
    -- the number of rows
    ∷ (form (size 2 3) gives 2)
    ∷ []

-- at the size and sign of the body (7.12.3)
abbrev pub reductions : List Example
reductions =
    -- 200 + 100 at 8 bits, whatever the context has, and at 32
    (fold_by fold.Sum 3 (element_of 3) gives 44)
    ∷ (of2 (fold_by fold.Sum 3 (element_of 3)) bin.Add (int 0) gives 44)
    ∷ (fold_by fold.Sum 3 (of2 (element_of 3) bin.Add (bits 32 0)) gives 300)
    -- 20000 modulo 256
    ∷ (fold_by fold.Product 3 (element_of 3) gives 32)
    -- c8 and 64 in base 16
    ∷ (fold_by fold.And 3 (element_of 3) gives 64)
    ∷ (fold_by fold.Or 3 (element_of 3) gives 236)
    ∷ (fold_by fold.Xor 3 (element_of 3) gives 172)
    -- -20, -10 and 0 as bytes, and their sum in a signed context
    ∷ (fold_by fold.Sum 0 (of2 (at_index (index 0)) bin.Subtract (s8 30)) gives 226)
    ∷ (of2 (fold_by fold.Sum 0 (of2 (at_index (index 0)) bin.Subtract (s8 30))) bin.Add (int 0) gives 4294967266)
    -- all elements of both dimensions
    ∷ (fold_by fold.Sum 2 (element_of 2) gives 102)
    -- no element
    ∷ (fold_by fold.Sum 4 (element_of 4) gives 0)
    ∷ (fold_by fold.Product 4 (element_of 4) gives 1)
    ∷ (fold_by fold.And 4 (element_of 4) gives 255)
    ∷ (fold_by fold.Or 4 (element_of 4) gives 0)
    ∷ (fold_by fold.Xor 4 (element_of 4) gives 0)
    -- the reduction is the innermost loop: 0 + 1, and 2 + 2 of the loop around it
    ∷ (fold_by fold.Sum 3 (index 0) gives 1)
    ∷ (fold_by fold.Sum 3 (index 1) gives 4)
    ∷ []

-- `{2'sb11 {1'b1}}`, of which the count is -1, and `{2'b11 {1'b1}}` (11.4.12.1)
abbrev pub counted_by : Bool → ExprTerm
counted_by signed = typed 3 false (copies (typed 2 signed (number 3 false)) (exprs_of (bits 1 1 ∷ [])))

-- each member by its own pair of sizes and signs, an array by its elements (11.4.13)
abbrev pub memberships : List Example
memberships =
    (among x (one (u8 3) ∷ one (u8 200) ∷ []) gives 1)
    ∷ (among x (from_to (u8 100) (u8 199) ∷ []) gives 0)
    ∷ (among x (span (value (u8 100)) dollar ∷ []) gives 1)
    ∷ (among x (span dollar (value (u8 100)) ∷ []) gives 0)
    ∷ (among (u8 20) (one array ∷ []) gives 1)
    ∷ (among (u8 25) (one array ∷ []) gives 0)
    ∷ (among (u8 255) (one (minus 1) ∷ []) gives 0)
    ∷ (among (s8 255) (one (minus 1) ∷ []) gives 1)
    ∷ (among (s8 255) (one (u8 255) ∷ []) gives 1)
    -- -2 <= -1 <= 0
    ∷ (among (s8 255) (from_to (minus 2) (int 0) ∷ []) gives 1)
    -- 4294967294 <= 255
    ∷ (among (u8 255) (from_to (minus 2) (int 0) ∷ []) gives 0)
    ∷ []

-- ---- items

pub record ItemExample : Type 0 where
  pub item : ItemTerm
  pub is : Bool

infix 5 ◌is◌
abbrev pub ◌is◌ : ItemTerm → Bool → ItemExample
i is b = record { item = i; is = b }

abbrev pub same : Bool → Bool → Bool
same true b = b
same false true = false
same false false = true

abbrev pub item_is_so : ItemExample → Bool
item_is_so ex = same (holds sample [] ex.item) ex.is

abbrev pub stated : ExprTerm → ItemTerm
stated e = plain false e None

abbrev pub weighed : ExprTerm → ExprTerm → DistTerm
weighed e g = record { range = one e; weight = Some (share.Each, g) }

abbrev pub items : List ItemExample
items =
    (stated (u8 2) is true)
    ∷ (stated (u8 0) is false)
    -- a soft item asks nothing by itself (18.5.14)
    ∷ (plain true (u8 0) None is true)
    -- members of weight 0 are left out (18.5.4)
    ∷ (plain false x (Some (weighed (u8 200) (int 1) ∷ [])) is true)
    ∷ (plain false x (Some (weighed (u8 200) (int 0) ∷ weighed (u8 100) (int 1) ∷ [])) is false)
    ∷ (plain false x (Some (record { range = from_to (u8 100) (u8 255); weight = None } ∷ [])) is true)
    -- arrays stand for their elements (18.5.5)
    ∷ (unique (exprs_of (u8 1 ∷ u8 2 ∷ [])) is true)
    ∷ (unique (exprs_of (u8 1 ∷ u8 2 ∷ u8 1 ∷ [])) is false)
    ∷ (unique (exprs_of (array ∷ [])) is true)
    ∷ (unique (exprs_of (array ∷ s8 20 ∷ [])) is false)
    ∷ (unique (exprs_of []) is true)
    -- (18.5.6 and 18.5.7)
    ∷ (implies (u8 0) (items_of (stated (u8 0) ∷ [])) is true)
    ∷ (implies (u8 4) (items_of (stated (u8 1) ∷ stated (u8 0) ∷ [])) is false)
    ∷ (branch (u8 1) (items_of (stated (u8 1) ∷ [])) (else_items (items_of (stated (u8 0) ∷ []))) is true)
    ∷ (branch (u8 0) (items_of (stated (u8 1) ∷ [])) (else_items (items_of (stated (u8 0) ∷ []))) is false)
    ∷ (branch (u8 0) (items_of (stated (u8 0) ∷ [])) no_else is true)
    -- the indexes 0, 1 and 2 (18.5.8.1)
    ∷ (foreach 0 1 1 (items_of (stated (of2 (index 0) bin.Less (int 3)) ∷ [])) is true)
    ∷ (foreach 0 1 1 (items_of (stated (of2 (index 0) bin.Less (int 2)) ∷ [])) is false)
    ∷ (foreach 0 1 1 (items_of (stated (of2 (at_index (index 0)) bin.Greater (index 0)) ∷ [])) is true)
    -- one name over the two rows
    ∷ (foreach 2 3 1 (items_of (stated (of2 (index 0) bin.Less (int 2)) ∷ [])) is true)
    ∷ (foreach 2 3 1 (items_of (stated (of2 (index 0) bin.Less (int 1)) ∷ [])) is false)
    -- two names, the second one inside: i * 10 + j + 11
    ∷ (foreach 2 3 2 (items_of (stated (of2 (at_cell (index 1) (index 0)) bin.Equal (of2 (of2 (of2 (index 1) bin.Multiply (int 10)) bin.Add (index 0)) bin.Add (int 11))) ∷ [])) is true)
    ∷ (foreach 2 3 2 (items_of (stated (of2 (index 1) bin.Less (int 2)) ∷ [])) is true)
    ∷ (foreach 2 3 2 (items_of (stated (of2 (index 0) bin.Less (int 2)) ∷ [])) is false)
    ∷ (disable x is true)
    ∷ (solve (exprs_of (x ∷ [])) (exprs_of (array ∷ [])) is true)
    ∷ []
