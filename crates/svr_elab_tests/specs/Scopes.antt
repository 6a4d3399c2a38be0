-- Names by where they stand, worked out by hand from the rules of the standard (IEEE 1800-2017, 7.12.3, 8.11, 18.5.8.1, 18.7.1 and 23.9).
use Rattle.std.specs.Prelude.{ℕ, true, false, List, [], ◌∷◌, pos}
use Rattle.svr_operator.specs.declared.BinOp.TheVariants as bin
use Rattle.svr_operator.specs.declared.Fold.TheVariants as fold
use Rattle.svr_tree.specs.declared.Scope.TheVariants as scope
use Rattle.svr_tree.specs.declared.IteratorArgument.TheVariants as iterator
use Rattle.svr_tree.specs.ExprTree as raw
use Rattle.svr_tree.specs.ExprTree.{ExprTree, exprs_of}
use Rattle.svr_elab_names.specs.declared.Region.TheVariants as region
use Rattle.svr_elab_names.specs.declared.VarStand.TheVariants as stand
use Rattle.svr_elab_names.specs.Names.{Space, VarName, in_loop}
use Rattle.svr_elab_tests.specs.Expressions.{Case, refused, accepted, block, spelled, bits, at, named, behind, of, int, of2, index, a, v, n, d, e, z, p, c, size, item}

-- ---- places

-- `int a`, beside a property of that name; `int c`; an object variable `p`
abbrev pub script_variables : List VarName
script_variables =
    (record { name = spelled a; stands = stand.OfNumber (bits 32 true (pos 0)) })
    ∷ (record { name = spelled c; stands = stand.OfNumber (bits 32 true (pos 0)) })
    ∷ (record { name = spelled p; stands = stand.OfObject 0 })
    ∷ []

-- in a set that stands behind a call
abbrev pub in_line : Space
in_line = record block { region = region.InLine; vars = script_variables }

-- in a block of a script with the same variables
abbrev pub in_block : Space
in_block = record block { vars = script_variables }

-- a letter that names a loop alone
abbrev pub i : ℕ
i = 12

-- in a `foreach` whose loop variable is `i`
abbrev pub in_foreach : Space
in_foreach = in_loop block (at 9 i)

-- in one whose loop variable has the name of a property
abbrev pub in_hiding : Space
in_hiding = in_loop block (at 9 a)

-- where `z` is declared further down
abbrev pub in_declaration : Space
in_declaration = record block { region = region.Declaration; later = spelled z ∷ [] }

-- ---- cases

-- `local::name`, where the word `local` stands before the name
abbrev pub local : ℕ → ℕ → ExprTree
local k name = raw.path (at k z) scope.Local (at k name ∷ []) false

-- `this.name`
abbrev pub this : ℕ → ℕ → ExprTree
this k name = raw.path (at k z) scope.This (at k name ∷ []) false

abbrev pub in_line_sets : List Case
in_line_sets =
    accepted (named 1 c) 32 true
    -- a property stands before a variable of the same name
    ∷ accepted (named 1 a) 4 false
    ∷ accepted (local 1 a) 32 true
    -- `local::` passes over properties
    ∷ refused (local 1 v) 7 (at 1 v)
    ∷ accepted (local 1 e) 4 false
    ∷ accepted (this 1 a) 4 false
    ∷ refused (this 1 c) 7 (at 1 c)
    ∷ refused (this 1 e) 7 (at 1 e)
    -- no object stands in a constraint
    ∷ refused (named 1 p) 7 (at 1 p)
    ∷ refused (of 1 p 2 a) 7 (at 1 p)
    ∷ refused (of2 bin.Equal (named 1 c) (local 2 z)) 7 (at 2 z)
    ∷ []

-- script variables can't be named in a block
abbrev pub blocks : List Case
blocks =
    refused (named 1 c) 7 (at 1 c)
    ∷ refused (local 1 c) 7 (at 1 c)
    ∷ accepted (local 1 e) 4 false
    ∷ accepted (named 1 a) 4 false
    ∷ []

abbrev pub loops : List Case
loops =
    accepted (named 1 i) 32 true
    ∷ refused (this 1 i) 7 (at 1 i)
    ∷ refused (local 1 i) 7 (at 1 i)
    ∷ refused (behind 1 i size false) 7 (at 1 size)
    ∷ refused (raw.path (at 1 i) scope.Plain (at 1 i ∷ []) true) 7 (at 1 i)
    -- a loop variable can't be random, so it may number a bit
    ∷ accepted (index (named 1 v) (named 2 i)) 1 false
    ∷ accepted (index (named 1 d) (of2 bin.Subtract (named 2 i) (int 3 1))) 8 false
    -- and it is no constant
    ∷ refused (raw.copies 0 (named 1 i) (exprs_of (named 2 v ∷ []))) 10 (at 1 i)
    ∷ []

-- a loop variable hides a property, which `this.` finds
abbrev pub hidden : List Case
hidden =
    accepted (named 1 a) 32 true
    ∷ accepted (this 1 a) 4 false
    ∷ accepted (index (named 1 v) (named 2 a)) 1 false
    ∷ refused (index (named 1 v) (this 2 a)) 21 (at 2 z)
    ∷ []

-- `d.sum with (..)`, and `d.sum(name) with (..)`
abbrev pub summed : ℕ → ExprTree → ExprTree
summed k body = raw.reduce (at k d) (named k d) fold.Sum iterator.Absent body

abbrev pub summed_over : ℕ → ℕ → ExprTree → ExprTree
summed_over k name body = raw.reduce (at k d) (named k d) fold.Sum (iterator.Named (at k name)) body

abbrev pub reductions : List Case
reductions =
    -- the element of the outer one has a name of its own
    accepted (summed_over 1 z (summed 2 (of2 bin.Add (named 3 z) (named 4 item)))) 8 false
    ∷ accepted (summed 1 (summed 2 (named 3 item))) 8 false
    ∷ refused (summed 1 (behind 2 item size false)) 7 (at 2 size)
    -- an element of an array that can be random numbers no bit
    ∷ refused (summed 1 (index (named 2 v) (named 3 item))) 21 (at 3 item)
    ∷ accepted (summed 1 (index (named 2 item) (int 3 7))) 1 false
    ∷ accepted (summed 1 (of2 bin.Less (named 2 item) (named 3 v))) 1 false
    -- the element stands in the body alone
    ∷ refused (of2 bin.Equal (summed 1 (named 2 item)) (named 3 item)) 7 (at 3 item)
    -- a bit is no array
    ∷ refused (raw.reduce 0 (index (named 1 n) (int 2 0)) fold.Sum iterator.Absent (int 3 1)) 7 (at 1 n)
    ∷ []

-- what is declared further down is known by its name alone: it is refused where a constant is wanted
abbrev pub declarations : List Case
declarations =
    refused (raw.copies 0 (named 1 z) (exprs_of (named 2 v ∷ []))) 10 (at 1 z)
    ∷ refused (of2 bin.Add (named 1 z) (named 2 i)) 7 (at 2 i)
    ∷ accepted (of2 bin.Less (named 1 z) (int 2 1)) 1 false
    ∷ accepted (named 1 v) 8 false
    ∷ []
