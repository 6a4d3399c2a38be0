-- The size, the sign and the value of a typed expression (IEEE 1800-2017, 11.6 to 11.8).
use Rattle.std.specs.Prelude.{◌==◌, ℕ, zero, suc, ◌+◌, ◌-◌, ◌*◌, ◌/◌, ◌%◌, ◌^◌, max, ℤ, pos, negsuc, ◌-ℤ◌, Bool, true, false, not, ◌&&◌, ◌||◌, nat_lt, cond, if◌then◌else◌, Option, Some, None, List, [], ◌∷◌, ◌++◌, length, slice_index}
use Rattle.svr_num.specs.Num.{read_of, extend_of, less_of}
use Rattle.svr_typed.specs.ExprTerm.{ExprTerm, typed, NodeTerm, number, prop, element, cell, size, script, loop_index, reduce, of_object, bit_select, part_select, unary, binary, choice, inside, join, copies, sign, ExprTerms, no_exprs, more_exprs, RangeTerm, one, span, RangeTerms, no_ranges, more_ranges, BoundTerm, value, dollar}
use Rattle.svr_eval.specs.declared.operator.BinaryKind.{BinaryKind}
use Rattle.svr_eval.specs.declared.operator.BinaryKind.TheVariants.{InContext, Shifted, ByPair, Logical}
use Rattle.svr_eval.specs.declared.operator.UnaryKind.{UnaryKind}
use Rattle.svr_eval.specs.declared.operator.UnaryKind.TheVariants.{Changed, Reduced}
use Rattle.svr_eval.specs.Operator.{binary_kind, unary_kind, arithmetic_of, shift_of, comparison_of, connective_of, change_of, reduction_of, fold_of, binary_size, binary_sign, unary_size, unary_sign}
use Rattle.svr_eval.specs.Reading.{Reading}

-- ---- sizes and signs, from the leaves up (table 11-21, 11.8.1)

-- a literal, a name, a select and a replication have the size that is written at them
abbrev mutual
  pub size_of : ExprTerm → ℕ
  size_of (typed w s n) = node_size w n

  pub node_size : ℕ → NodeTerm → ℕ
  node_size w (number v every) = if every then 1 else w
  node_size w (prop p) = w
  node_size w (element p e) = w
  node_size w (cell p m first second) = w
  node_size w (size p m) = 32
  node_size w (script v) = w
  node_size w (loop_index k) = 32
  node_size w (reduce p op body) = size_of body
  node_size w (of_object o e) = size_of e
  node_size w (bit_select base first low) = 1
  node_size w (part_select base first last low) = w
  node_size w (unary op e) = unary_size (unary_kind op) (size_of e)
  node_size w (binary op l r) = binary_size (binary_kind op) (size_of l) (size_of r)
  node_size w (choice t met unmet) = max (size_of met) (size_of unmet)
  node_size w (inside l members) = 1
  node_size w (join parts) = sizes parts
  node_size w (copies count parts) = w
  node_size w (sign signed e) = size_of e

  -- the sum
  pub sizes : ExprTerms → ℕ
  sizes no_exprs = 0
  sizes (more_exprs e es) = size_of e + sizes es

-- a literal and a name have the sign that is written at them
abbrev mutual
  pub sign_of : ExprTerm → Bool
  sign_of (typed w s n) = node_sign s n

  pub node_sign : Bool → NodeTerm → Bool
  node_sign s (number v every) = if every then false else s
  node_sign s (prop p) = s
  node_sign s (element p e) = s
  node_sign s (cell p m first second) = s
  node_sign s (size p m) = true
  node_sign s (script v) = s
  node_sign s (loop_index k) = true
  node_sign s (reduce p op body) = sign_of body
  node_sign s (of_object o e) = sign_of e
  node_sign s (bit_select base first low) = false
  node_sign s (part_select base first last low) = false
  node_sign s (unary op e) = unary_sign (unary_kind op) (sign_of e)
  node_sign s (binary op l r) = binary_sign (binary_kind op) (sign_of l) (sign_of r)
  node_sign s (choice t met unmet) = sign_of met && sign_of unmet
  node_sign s (inside l members) = false
  node_sign s (join parts) = false
  node_sign s (copies count parts) = false
  node_sign s (sign signed e) = signed

-- ---- parts of a value

-- the truth of a value (11.4.7, 18.5)
abbrev pub is_set : ℕ → Bool
is_set v = not (v == 0)

abbrev pub bit_of : Bool → ℕ
bit_of b = cond b 1 0

-- a value of one bit, extended to the width of its context
abbrev pub truth : ℕ → Bool → Bool → ℕ
truth w s b = extend_of s w 1 (bit_of b)

-- `'0` and `'1` fill the width of their context (5.7.1)
abbrev pub literal : ℕ → ℕ → Bool → Bool → ℕ → ℕ
literal w from s every v = if every then (if v == 0 then 0 else (2 ^ w - 1)) else extend_of s w from v

-- the element that an index names; there is none below 0
abbrev pub element_at : Reading → ℕ → ℤ → ℕ
element_at a p (pos i) = a.element p i
element_at a p (negsuc i) = 0

-- the element of an array with rows of m elements that two indexes name, row by row; there is none outside a dimension (7.4.2, 7.4.5)
abbrev pub cell_at : Reading → ℕ → ℕ → ℤ → ℤ → ℕ
cell_at a p m (pos i) (pos j) = if nat_lt j m then a.element p (i * m + j) else 0
cell_at a p m (pos i) (negsuc j) = 0
cell_at a p m (negsuc i) j = 0

-- w bits of a vector from its bit k on, where bits outside the vector are 0 (11.5.1)
abbrev pub bits_from : ℤ → ℕ → ℕ → ℕ
bits_from (pos k) w v = v / 2 ^ k % 2 ^ w
bits_from (negsuc k) w v = v * 2 ^ suc k % 2 ^ w

-- the index of the k-th loop counted outwards
abbrev pub index_of : List ℕ → ℕ → ℕ
index_of env k = if nat_lt k (length env) then slice_index env (length env - 1 - k) else 0

-- so many copies of a part of this size
abbrev pub copied : ℕ → ℕ → ℕ → ℕ
copied zero bits v = 0
copied (suc n) bits v = copied n bits v * 2 ^ bits + v

-- whether some number below n is one
abbrev pub any_below : ℕ → (ℕ → Bool) → Bool
any_below zero f = false
any_below (suc n) f = any_below n f || f n

-- ---- operators, over the values of the operand at the context's width w and sign s and at its own width n
abbrev pub unary_val : UnaryKind → ℕ → Bool → ℕ → ℕ → ℕ → ℕ
unary_val (Changed f) w s n in_context own = change_of f w in_context
unary_val (Reduced f) w s n in_context own = truth w s (reduction_of f n own)

-- over the values of the operands in the context, at the pair's width n and sign t, and alone
abbrev pub binary_val : BinaryKind → ℕ → Bool → ℕ → Bool → ℕ → ℕ → ℕ → ℕ → ℕ → ℕ → ℕ
binary_val (InContext f) w s n t x y x_pair y_pair x_own y_own = arithmetic_of f w s x y
binary_val (Shifted f) w s n t x y x_pair y_pair x_own y_own = shift_of f w s x y_own
binary_val (ByPair f) w s n t x y x_pair y_pair x_own y_own = truth w s (comparison_of f n t x_pair y_pair)
binary_val (Logical f) w s n t x y x_pair y_pair x_own y_own = truth w s (connective_of f (is_set x_own) (is_set y_own))

-- ---- what can be compared

-- a size, a sign, and the value at each width and sign
pub record Operand : Type 0 where
  pub size : ℕ
  pub sign : Bool
  pub value : ℕ → Bool → ℕ

-- both at the greater size, signed where both are (11.8.2)
abbrev pub common_size : Operand → Operand → ℕ
common_size x y = max x.size y.size

abbrev pub common_sign : Operand → Operand → Bool
common_sign x y = x.sign && y.sign

abbrev pub are_equal : Operand → Operand → Bool
are_equal x y = x.value (common_size x y) (common_sign x y) == y.value (common_size x y) (common_sign x y)

abbrev pub is_below : Operand → Operand → Bool
is_below x y = less_of (common_sign x y) (common_size x y) (x.value (common_size x y) (common_sign x y)) (y.value (common_size x y) (common_sign x y))

-- an element of an array property of this size and sign
abbrev pub element_operand : Reading → ℕ → ℕ → Bool → ℕ → Operand
element_operand a p w s i = record { size = w; sign = s; value = λ n t. extend_of t n w (a.element p i) }

-- the property that an expression as a whole is
abbrev pub node_property : NodeTerm → Option ℕ
node_property (prop p) = Some p
node_property n = None

abbrev pub property_of : ExprTerm → Option ℕ
property_of (typed w s n) = node_property n

-- whether some element of an array property of this size, at n bits and the sign t, is v
unfoldable pub has_element : Reading → ℕ → ℕ → ℕ → Bool → ℕ → Bool
has_element a p w n t v = any_below (a.size p) (λ i. v == extend_of t n w (a.element p i))

-- Whether a left side is equal to a member, which is this operand. One that is a property stands for its elements, of which a scalar has one.
abbrev pub equals_member : Reading → Operand → Option ℕ → Operand → Bool
equals_member a left None x = are_equal left x
equals_member a left (Some p) x = has_element a p x.size (common_size left x) (common_sign left x) (left.value (common_size left x) (common_sign left x))

-- ---- values

module _ (a : Reading) where
  abbrev mutual
    -- the value at the width and the sign that the context has (11.8.2)
    pub val : List ℕ → ExprTerm → ℕ → Bool → ℕ
    val env (typed from signed n) w s = node_val env from signed n w s

    -- the first two are the size and the sign that are written at the node
    pub node_val : List ℕ → ℕ → Bool → NodeTerm → ℕ → Bool → ℕ
    node_val env from signed (number v every) w s = literal w from s every v
    node_val env from signed (prop p) w s = extend_of s w from (a.element p 0)
    node_val env from signed (element p e) w s = extend_of s w from (element_at a p (read_of (sign_of e) (size_of e) (val env e (size_of e) (sign_of e))))
    node_val env from signed (cell p m first second) w s =
        extend_of s w from (cell_at a p m (read_of (sign_of first) (size_of first) (val env first (size_of first) (sign_of first)))
        (read_of (sign_of second) (size_of second) (val env second (size_of second) (sign_of second))))
    node_val env from signed (size p m) w s = extend_of s w 32 (a.size p / m)
    node_val env from signed (script v) w s = extend_of s w from (a.script v)
    node_val env from signed (loop_index k) w s = extend_of s w 32 (index_of env k)
    -- over the body alone, in which the reduction is the innermost loop
    node_val env from signed (reduce p op body) w s =
        extend_of s w (size_of body) (fold_of op (size_of body) (a.size p) (λ i. val (env ++ i ∷ []) body (size_of body) (sign_of body)))
    node_val env from signed (of_object o e) w s = val env e w s
    node_val env from signed (bit_select base first low) w s =
        extend_of s w 1 (bits_from (read_of (sign_of first) (size_of first) (val env first (size_of first) (sign_of first)) -ℤ low) 1 (val env base (size_of base) (sign_of base)))
    node_val env from signed (part_select base first last low) w s =
        extend_of s w from (bits_from (read_of (sign_of last) (size_of last) (val env last (size_of last) (sign_of last)) -ℤ low) from (val env base (size_of base) (sign_of base)))
    node_val env from signed (unary op e) w s = unary_val (unary_kind op) w s (size_of e) (val env e w s) (val env e (size_of e) (sign_of e))
    node_val env from signed (binary op l r) w s =
        binary_val (binary_kind op) w s (max (size_of l) (size_of r)) (sign_of l && sign_of r)
        (val env l w s) (val env r w s) (val env l (max (size_of l) (size_of r)) (sign_of l && sign_of r)) (val env r (max (size_of l) (size_of r)) (sign_of l && sign_of r))
        (val env l (size_of l) (sign_of l)) (val env r (size_of r) (sign_of r))
    node_val env from signed (choice t met unmet) w s = if is_set (val env t (size_of t) (sign_of t)) then val env met w s else val env unmet w s
    node_val env from signed (inside l members) w s = truth w s (fits_some env (record { size = size_of l; sign = sign_of l; value = λ n t. val env l n t }) members)
    node_val env from signed (join parts) w s = extend_of s w (sizes parts) (joined env parts)
    node_val env from signed (copies count parts) w s =
        extend_of s w from (copied (val env count (size_of count) (sign_of count)) (sizes parts) (joined env parts))
    node_val env from signed (sign as_signed e) w s = extend_of s w (size_of e) (val env e (size_of e) (sign_of e))

    -- the first part holds the highest bits (11.4.12)
    pub joined : List ℕ → ExprTerms → ℕ
    joined env no_exprs = 0
    joined env (more_exprs e es) = val env e (size_of e) (sign_of e) * 2 ^ sizes es + joined env es

    -- set membership (11.4.13)
    pub fits_some : List ℕ → Operand → RangeTerms → Bool
    fits_some env left no_ranges = false
    fits_some env left (more_ranges r rs) = fits env left r || fits_some env left rs

    pub fits : List ℕ → Operand → RangeTerm → Bool
    fits env left (one e) = equals_member a left (property_of e) (record { size = size_of e; sign = sign_of e; value = λ n t. val env e n t })
    fits env left (span low high) = is_from env left low && is_up_to env left high

    -- `$` bounds nothing
    pub is_from : List ℕ → Operand → BoundTerm → Bool
    is_from env left (value e) = not (is_below left (record { size = size_of e; sign = sign_of e; value = λ n t. val env e n t }))
    is_from env left dollar = true

    pub is_up_to : List ℕ → Operand → BoundTerm → Bool
    is_up_to env left (value e) = not (is_below (record { size = size_of e; sign = sign_of e; value = λ n t. val env e n t }) left)
    is_up_to env left dollar = true

module _ (a : Reading) (env : List ℕ) where
  -- an expression alone is computed at its own size and sign
  abbrev pub alone : ExprTerm → ℕ
  alone e = val a env e (size_of e) (sign_of e)

  abbrev pub operand_of : ExprTerm → Operand
  operand_of e = record { size = size_of e; sign = sign_of e; value = λ n t. val a env e n t }

  -- the whole number that an index reads
  abbrev pub index_read : ExprTerm → ℤ
  index_read e = read_of (sign_of e) (size_of e) (val a env e (size_of e) (sign_of e))

  -- w bits of a vector down to the bit that the last bound names, by numbers that begin at the lowest bit's
  abbrev pub selected : ExprTerm → ExprTerm → ℤ → ℕ → ℕ
  selected base last low w = bits_from (read_of (sign_of last) (size_of last) (val a env last (size_of last) (sign_of last)) -ℤ low) w (val a env base (size_of base) (sign_of base))

  -- as many copies of the joined parts as the count says (11.4.12.1)
  abbrev pub replicated : ExprTerm → ExprTerms → ℕ
  replicated count parts = copied (val a env count (size_of count) (sign_of count)) (sizes parts) (joined a env parts)
