-- Typed trees of expressions, worked out by hand (IEEE 1800-2017, 7.4, 7.12.3, 11.4 and 11.5.1).
use Rattle.std.specs.Prelude.{ℕ, ℤ, pos, true, false, List, [], ◌∷◌, map, Option, Some, None}
use Rattle.svr_operator.specs.declared.UnOp.TheVariants as un
use Rattle.svr_operator.specs.declared.BinOp.TheVariants as bin
use Rattle.svr_operator.specs.declared.Fold.TheVariants as fold
use Rattle.svr_tree.specs.declared.IteratorArgument.TheVariants as iterator
use Rattle.svr_tree.specs.ExprTree as raw
use Rattle.svr_tree.specs.ExprTree.{ExprTree, ranges_of}
use Rattle.svr_typed.specs.ExprTerm as node
use Rattle.svr_typed.specs.ExprTerm.{ExprTerm, NodeTerm, typed}
use Rattle.svr_eval.specs.Typed.{constant}
use Rattle.svr_elab_fault.specs.Refusals.{all}
use Rattle.svr_elab_names.specs.Names.{Space}
use Rattle.svr_elab_part.specs.Elab.{value}
use Rattle.svr_elab_part.specs.Shapes.{place_tree}
use Rattle.svr_elab_tests.specs.Expressions.{named, behind, of, int, of2, index, slice, a, v, h, n, d, m, e, z, p, c, size, sum, item}
use Rattle.svr_elab_tests.specs.Scopes.{i}

-- a text with what it becomes; none where it is refused
pub record Row : Type 0 where
  pub source : ExprTree
  pub tree : Option ExprTerm

abbrev pub becomes : ExprTree → ExprTerm → Row
becomes source tree = record { source = source; tree = Some tree }

abbrev pub becomes_nothing : ExprTree → Row
becomes_nothing source = record { source = source; tree = None }

abbrev pub trees_in : Space → List Row → List (Option ExprTerm)
trees_in places rows = map (λ (r : Row). (value all places r.source).tree) rows

abbrev pub wanted : List Row → List (Option ExprTerm)
wanted rows = map (λ (r : Row). r.tree) rows

abbrev pub bits : ℕ → NodeTerm → ExprTerm
bits w x = typed w false x

abbrev pub number : ℕ → ExprTerm
number x = typed 32 true (node.number x false)

abbrev pub loop : ℕ → ExprTerm
loop k = typed 32 true (node.loop_index k)

-- `d[..]`, as the element of an index
abbrev pub of_d : ExprTerm → ExprTerm
of_d x = bits 8 (node.element 4 x)

abbrev pub in_a_block : List Row
in_a_block =
    becomes (named 1 e) (bits 4 (node.number 1 false))
    ∷ becomes (named 1 n) (typed 32 true (node.prop 3))
    -- parentheses are no node
    ∷ becomes (raw.paren 0 (named 1 v)) (bits 8 (node.prop 1))
    ∷ becomes (of2 bin.Add (named 1 a) (named 2 v)) (bits 8 (node.binary bin.Add (bits 4 (node.prop 0)) (bits 8 (node.prop 1))))
    ∷ becomes (raw.unary 0 un.LogicalNot (named 1 n)) (bits 1 (node.unary un.LogicalNot (typed 32 true (node.prop 3))))
    -- bits are numbered from 4 on
    ∷ becomes (index (named 1 h) (int 2 5)) (bits 1 (node.bit_select (bits 8 (node.prop 2)) (number 5) (pos 4)))
    ∷ becomes (slice (named 1 h) (int 2 7) (int 3 4)) (bits 4 (node.part_select (bits 8 (node.prop 2)) (number 7) (number 4) (pos 4)))
    ∷ becomes (index (named 1 d) (named 2 a)) (of_d (bits 4 (node.prop 0)))
    -- a bit of an element
    ∷ becomes (index (index (named 1 d) (int 2 0)) (int 3 1)) (bits 1 (node.bit_select (of_d (number 0)) (number 1) (pos 0)))
    ∷ becomes (index (index (named 1 m) (int 2 1)) (int 3 2)) (bits 4 (node.cell 5 3 (number 1) (number 2)))
    ∷ becomes (behind 1 d size false) (typed 32 true (node.size 4 1))
    -- the first dimension
    ∷ becomes (behind 1 m size true) (typed 32 true (node.size 5 3))
    -- a whole array among the members
    ∷ becomes (raw.inside 0 (named 1 a) (ranges_of (raw.one (named 2 d) ∷ raw.span (raw.value (int 3 1)) raw.dollar ∷ [])))
    (bits 1 (node.inside (bits 4 (node.prop 0)) (node.ranges_of (node.one (bits 8 (node.prop 4)) ∷ node.span (node.value (number 1)) node.dollar ∷ []))))
    -- without a body the elements themselves are added
    ∷ becomes (behind 1 d sum true) (bits 8 (node.reduce 4 fold.Sum (of_d (loop 0))))
    ∷ becomes_nothing (of2 bin.Add (named 1 z) (int 2 1))
    ∷ []

-- in a loop; the reduction is the innermost one
abbrev pub in_a_loop : List Row
in_a_loop =
    becomes (named 1 i) (loop 0)
    ∷ becomes (raw.reduce 0 (named 1 d) fold.Xor iterator.Absent (of2 bin.Add (named 2 item) (named 3 i)))
    (bits 32 (node.reduce 4 fold.Xor (bits 32 (node.binary bin.Add (of_d (loop 0)) (loop 1)))))
    ∷ []

-- a property stands in its object
abbrev pub in_an_object : ExprTerm → ExprTerm
in_an_object (typed w s x) = typed w s (node.of_object 0 (typed w s x))

abbrev pub in_a_statement : List Row
in_a_statement =
    becomes (named 1 c) (typed 32 true (node.script 2))
    ∷ becomes (of 1 p 2 a) (in_an_object (bits 4 (node.prop 0)))
    ∷ becomes (index (of 1 p 2 d) (named 3 c)) (in_an_object (of_d (typed 32 true (node.script 2))))
    ∷ becomes (index (of 1 p 2 h) (int 3 5)) (bits 1 (node.bit_select (in_an_object (bits 8 (node.prop 2))) (number 5) (pos 4)))
    ∷ becomes (index (index (of 1 p 2 m) (int 3 1)) (named 4 c)) (in_an_object (bits 4 (node.element 5 (place_tree 2 3 (number 1) (typed 32 true (node.script 2))))))
    ∷ []

-- the place of row i, column j, of two rows of three elements, and past the last one where there is none; -1 as 32 bits is no row and no column
abbrev pub below_zero : ExprTerm
below_zero = number 4294967295

abbrev pub places : List ℤ
places =
    constant (place_tree 2 3 (number 0) (number 0))
    ∷ constant (place_tree 2 3 (number 1) (number 2))
    ∷ constant (place_tree 2 3 (number 2) (number 0))
    ∷ constant (place_tree 2 3 (number 0) (number 3))
    ∷ constant (place_tree 2 3 below_zero (number 1))
    ∷ constant (place_tree 2 3 (number 1) below_zero)
    -- one bit, which is signed, is -1 where it is set
    ∷ constant (place_tree 2 3 (typed 1 true (node.number 1 false)) (number 1))
    ∷ constant (place_tree 2 3 (typed 1 false (node.number 1 false)) (number 1))
    ∷ []

abbrev pub wanted_places : List ℤ
wanted_places = pos 0 ∷ pos 5 ∷ pos 6 ∷ pos 6 ∷ pos 6 ∷ pos 6 ∷ pos 6 ∷ pos 4 ∷ []
