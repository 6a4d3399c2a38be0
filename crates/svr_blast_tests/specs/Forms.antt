-- The items that are tried
use Rattle.std.specs.Prelude.{ℕ, ℤ, pos, Bool, true, false, List, [], ◌∷◌}
use Rattle.svr_operator.specs.declared.BinOp.{BinOp}
use Rattle.svr_operator.specs.declared.BinOp.TheVariants as bin
use Rattle.svr_operator.specs.declared.UnOp.{UnOp}
use Rattle.svr_operator.specs.declared.Fold.{Fold}
use Rattle.svr_typed.specs.ExprTerm.{ExprTerm, RangeTerm, typed, number, prop, element, cell, size, script, loop_index, reduce, bit_select, part_select, unary, binary, choice, inside, join, copies, sign, exprs_of, one, span, ranges_of, value, dollar}
use Rattle.svr_eval.specs.Operator.{binary_kind, unary_kind, binary_size, binary_sign, unary_size, unary_sign}
use Rattle.svr_eval.specs.Reading.{reading_of}
use Rattle.svr_eval.specs.Typed.{IsTyped, CanRead}
use Rattle.svr_frame.specs.declared.part.Part.{Part}
use Rattle.svr_frame.specs.declared.part.Part.TheVariants as part
use Rattle.svr_frame.specs.Phases.{sought_sizes}
use Rattle.svr_frame.specs.Sound.{ExprIsIn}
use Rattle.svr_encoded.specs.Fixed.{IsFixed}
use Rattle.svr_blast_tests.specs.declared.form.Form.{Form}
use Rattle.svr_blast_tests.specs.declared.form.Form.TheVariants as form
use Rattle.svr_blast_tests.specs.Sample.{sample_frame}

abbrev pub scalar : ℕ → ExprTerm
scalar p = typed 4 false (prop p)

-- `$signed` or `$unsigned` of a scalar
abbrev pub operand : Bool → ℕ → ExprTerm
operand s p = typed 4 s (sign s (scalar p))

abbrev pub int : ℕ → ExprTerm
int v = typed 32 true (number v false)

abbrev pub byte : ℕ → ExprTerm
byte v = typed 8 false (number v false)

abbrev pub equal : ExprTerm → ExprTerm → ExprTerm
equal l r = typed 1 false (binary bin.Equal l r)

abbrev pub is_z : ExprTerm → ExprTerm
is_z e = equal e (scalar 2)

abbrev pub applied : BinOp → Bool → ExprTerm
applied op s = typed (binary_size (binary_kind op) 4 4) (binary_sign (binary_kind op) s s) (binary op (operand s 0) (operand s 1))

abbrev pub applied_one : UnOp → Bool → ExprTerm
applied_one op s = typed (unary_size (unary_kind op) 4) (unary_sign (unary_kind op) s) (unary op (operand s 0))

abbrev pub join_of : ℕ → ℕ → ExprTerm
join_of p q = typed 8 false (join (exprs_of (scalar p ∷ scalar q ∷ [])))

abbrev pub difference : ExprTerm → ExprTerm → ExprTerm
difference l r = typed 8 false (binary bin.Subtract l r)

abbrev pub row_at : ExprTerm → ExprTerm
row_at e = typed 2 false (element 3 e)

abbrev pub size_of_q : ExprTerm
size_of_q = typed 32 true (size 5 1)

abbrev pub bit_of_x : ExprTerm → ℤ → ExprTerm
bit_of_x e low = is_z (typed 1 false (bit_select (scalar 0) e low))

-- `{y, [-3:1], [z:$]}`
abbrev pub set_of : Bool → List RangeTerm
set_of s = one (operand s 1) ∷ span (value (int 4294967293)) (value (int 1)) ∷ span (value (operand s 2)) dollar ∷ []

-- `{2{x}}`
abbrev pub twice_x : ExprTerm
twice_x = typed 8 false (copies (int 2) (exprs_of (scalar 0 ∷ [])))

abbrev pub item_of : Form → ExprTerm
item_of (form.Binary op s) = equal (applied op s) (operand s 2)
item_of (form.Unary op s) = equal (applied_one op s) (operand s 2)
item_of form.Choice = is_z (typed 4 false (choice (scalar 0) (scalar 1) (typed 4 false (number 5 false))))
item_of (form.Inside s) = typed 1 false (inside (operand s 0) (ranges_of (set_of s)))
item_of form.Array = typed 1 false (inside (scalar 0) (ranges_of (one (typed 2 false (prop 3)) ∷ [])))
item_of form.Join = equal (difference (join_of 0 1) (join_of 1 2)) (byte 7)
item_of form.Copies = equal (difference twice_x (join_of 1 2)) (byte 3)
item_of form.Bit = bit_of_x (int 3) (pos 1)
item_of form.Bits = is_z (typed 2 false (part_select (scalar 0) (int 2) (int 1) (pos 0)))
item_of form.Every = is_z (typed 4 false (binary bin.BitwiseXor (scalar 0) (typed 1 false (number 1 true))))
item_of form.Script = is_z (typed 4 false (binary bin.Add (scalar 0) (typed 4 false (script 0))))
item_of (form.Element s) = is_z (row_at (operand s 0))
item_of form.ElementAt = is_z (row_at (int 1))
item_of form.Cell = is_z (typed 1 false (cell 4 2 (scalar 0) (scalar 1)))
item_of (form.Reduce op) = is_z (typed 2 false (reduce 3 op (row_at (typed 32 true (loop_index 0)))))
item_of form.Size = is_z (typed 32 false (binary bin.Add size_of_q (scalar 0)))
item_of form.SizedElement = is_z (row_at size_of_q)
item_of form.SizedBit = bit_of_x size_of_q (pos 0)
item_of form.KnownElement = is_z (row_at (scalar 0))

-- an item with a size is one of the phase of sizes
abbrev pub part_of : Form → Part
part_of (form.Binary op s) = part.All
part_of (form.Unary op s) = part.All
part_of form.Choice = part.All
part_of (form.Inside s) = part.All
part_of form.Array = part.All
part_of form.Join = part.All
part_of form.Copies = part.All
part_of form.Bit = part.All
part_of form.Bits = part.All
part_of form.Every = part.All
part_of form.Script = part.All
part_of (form.Element s) = part.All
part_of form.ElementAt = part.All
part_of form.Cell = part.All
part_of (form.Reduce op) = part.All
part_of form.Size = part.Sizes
part_of form.SizedElement = part.Sizes
part_of form.SizedBit = part.Sizes
part_of form.KnownElement = part.Sizes

-- what is asked of an item of a phase of the call
pub record IsAsked (p : Part) (e : ExprTerm) : Type 0 where
  pub typed : IsTyped e
  pub inside : ExprIsIn sample_frame false e
  pub readable : CanRead (reading_of sample_frame.state) 0 e
  pub fixed : IsFixed (sought_sizes sample_frame p) e
