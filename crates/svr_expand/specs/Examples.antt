-- The orders in which occurrences stand, as they were worked out by hand: of three values that differ in one place, a truth tells which occurrence stands there.
use Rattle.std.specs.Prelude.{false, List, [], ◌∷◌}
use Rattle.svr_operator.specs.declared.Rand.TheVariants as rand
use Rattle.svr_typed.specs.declared.class.ArrayKind.TheVariants as array
use Rattle.svr_typed.specs.declared.class.Prop.{Prop}
use Rattle.svr_typed.specs.ExprTerm.{typed, cell, loop_index, exprs_of}
use Rattle.svr_typed.specs.ItemTerm.{unique, branch, foreach, disable, items_of, else_items}
use Rattle.svr_eval.specs.Examples.{form, int}
use Rattle.svr_frame.specs.declared.part.Part.TheVariants.{All}
use Rattle.svr_frame.specs.Frame.{FrameTerm}
use Rattle.svr_frame.specs.Phases.{hard_of, live_of}
use Rattle.svr_frame.specs.Examples.{Example, ◌gives◌, of_kind, rand_of, fixed_of, frame, truths, is_, soft_, x_of, at_, equal, k0, distinct, three_soft, tested}

-- `rand bit [1:0] d [3]; unique {d};`
abbrev pub all_apart : FrameTerm
all_apart = frame (fixed_of 3 2 ∷ []) (3 ∷ []) (unique (exprs_of (x_of 2 0 ∷ [])) ∷ [])

-- `rand bit [1:0] x, d [2]; unique {d, x};`
abbrev pub apart_from : FrameTerm
apart_from = frame (rand_of 2 ∷ fixed_of 2 2 ∷ []) (1 ∷ 2 ∷ []) (unique (exprs_of (x_of 2 1 ∷ x_of 2 0 ∷ [])) ∷ [])

-- `d[0] == 2; foreach (d[k]) { d[k] == 0; d[k] == 1; } d[1] == 2;`
abbrev pub in_turn : FrameTerm
in_turn = frame (fixed_of 3 2 ∷ []) (3 ∷ []) (
    is_ (equal (at_ 2 0 (int 0)) (int 2))
    ∷ foreach 0 1 1 (items_of (is_ (equal (at_ 2 0 k0) (int 0)) ∷ is_ (equal (at_ 2 0 k0) (int 1)) ∷ []))
    ∷ is_ (equal (at_ 2 0 (int 1)) (int 2))
    ∷ [])

-- `rand bit [1:0] m [2][3]; foreach (m[i, j]) m[i][j] == 1; foreach (m[i]) soft m[i][2] == 1;`
abbrev pub rows : Prop
rows = record (of_kind rand.Rand (array.Fixed 6) 2) { inner = 3 }

abbrev pub by_rows : FrameTerm
by_rows = frame (rows ∷ []) (6 ∷ []) (
    foreach 0 3 2 (items_of (is_ (equal (typed 2 false (cell 0 3 (form (loop_index 1)) k0)) (int 1)) ∷ []))
    ∷ foreach 0 3 1 (items_of (soft_ (equal (typed 2 false (cell 0 3 k0 (int 2))) (int 1)) ∷ []))
    ∷ [])

-- `soft x == 1; if (0 == 1) soft x == 2; else disable soft x; soft x == 3;`
abbrev pub taken_back : FrameTerm
taken_back = frame (rand_of 1 ∷ rand_of 2 ∷ []) (1 ∷ 1 ∷ []) (
    soft_ (equal (x_of 2 1) (int 1))
    ∷ branch (equal (int 0) (int 1)) (items_of (soft_ (equal (x_of 2 1) (int 2)) ∷ [])) (else_items (items_of (disable (x_of 2 1) ∷ [])))
    ∷ soft_ (equal (x_of 2 1) (int 3))
    ∷ [])

abbrev pub orders : List Example
orders =
    -- (0, 1), (0, 2), (1, 2)
    (truths ((1 ∷ 1 ∷ 0 ∷ []) ∷ []) (hard_of all_apart All (3 ∷ [])) gives (0 ∷ 1 ∷ 1 ∷ []))
    ∷ (truths ((1 ∷ 0 ∷ 1 ∷ []) ∷ []) (hard_of all_apart All (3 ∷ [])) gives (1 ∷ 0 ∷ 1 ∷ []))
    ∷ (truths ((0 ∷ 1 ∷ 1 ∷ []) ∷ []) (hard_of all_apart All (3 ∷ [])) gives (1 ∷ 1 ∷ 0 ∷ []))
    -- the elements of an array stand in its place
    ∷ (truths ((1 ∷ []) ∷ (1 ∷ 0 ∷ []) ∷ []) (hard_of apart_from All (1 ∷ 2 ∷ [])) gives (1 ∷ 0 ∷ 1 ∷ []))
    ∷ (truths ((1 ∷ []) ∷ (0 ∷ 1 ∷ []) ∷ []) (hard_of apart_from All (1 ∷ 2 ∷ [])) gives (1 ∷ 1 ∷ 0 ∷ []))
    -- the text, and in a loop all of it for the index 0, then for 1
    ∷ (truths ((2 ∷ 0 ∷ 1 ∷ []) ∷ []) (hard_of in_turn All (3 ∷ [])) gives (1 ∷ 0 ∷ 0 ∷ 1 ∷ 0 ∷ 0 ∷ 1 ∷ 0 ∷ []))
    ∷ (truths ((0 ∷ 1 ∷ 2 ∷ []) ∷ []) (hard_of in_turn All (3 ∷ [])) gives (0 ∷ 1 ∷ 0 ∷ 0 ∷ 1 ∷ 0 ∷ 0 ∷ 0 ∷ []))
    -- row by row; the last row has the highest rank
    ∷ (truths ((0 ∷ 1 ∷ 0 ∷ 1 ∷ 0 ∷ 0 ∷ []) ∷ []) (hard_of by_rows All (6 ∷ [])) gives (0 ∷ 1 ∷ 0 ∷ 1 ∷ 0 ∷ 0 ∷ []))
    ∷ (truths ((0 ∷ 0 ∷ 1 ∷ 0 ∷ 0 ∷ 0 ∷ []) ∷ []) (live_of by_rows All (6 ∷ [])) gives (0 ∷ 1 ∷ []))
    -- the last item first, then the last index
    ∷ (truths ((1 ∷ 2 ∷ 0 ∷ []) ∷ []) (live_of distinct All (3 ∷ [])) gives (1 ∷ 0 ∷ 0 ∷ []))
    ∷ (truths ((3 ∷ []) ∷ []) (live_of three_soft All (1 ∷ [])) gives (1 ∷ 0 ∷ 0 ∷ []))
    -- a test that is false keeps a `disable soft` from acting
    ∷ (truths ((0 ∷ []) ∷ (1 ∷ []) ∷ []) (live_of (tested 0) All (1 ∷ 1 ∷ [])) gives (0 ∷ 1 ∷ []))
    ∷ (truths ((0 ∷ []) ∷ (1 ∷ []) ∷ []) (live_of (tested 1) All (1 ∷ 1 ∷ [])) gives (0 ∷ []))
    -- the test of `else` is the other way round: only the last item is live
    ∷ (truths ((0 ∷ []) ∷ (3 ∷ []) ∷ []) (live_of taken_back All (1 ∷ 1 ∷ [])) gives (1 ∷ []))
    ∷ []
