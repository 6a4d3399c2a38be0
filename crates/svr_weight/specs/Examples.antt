-- Weights that were worked out by hand.
use Rattle.std.specs.Prelude.{◌==◌, ℕ, pos, Bool, false, List, [], ◌∷◌}
use Rattle.svr_operator.specs.declared.UnOp.TheVariants as un
use Rattle.svr_operator.specs.declared.BinOp.TheVariants as bin
use Rattle.svr_operator.specs.declared.Fold.TheVariants as fold
use Rattle.svr_operator.specs.declared.Rand.TheVariants as rand
use Rattle.svr_typed.specs.declared.class.ArrayKind.TheVariants as array
use Rattle.svr_typed.specs.declared.class.Prop.{Prop}
use Rattle.svr_typed.specs.ExprTerm.{ExprTerm, typed, cell, loop_index, reduce, bit_select, exprs_of, one}
use Rattle.svr_typed.specs.ItemTerm.{ItemTerm, unique, implies, branch, foreach, disable, items_of, else_items}
use Rattle.svr_eval.specs.Examples.{form, int, u8, of1, of2, if_else, among, from_to}
use Rattle.svr_frame.specs.declared.part.Part.{Part}
use Rattle.svr_frame.specs.declared.part.Part.TheVariants.{Randc, Sizes, All}
use Rattle.svr_frame.specs.Frame.{FrameTerm}
use Rattle.svr_frame.specs.Examples.{of_kind, rand_of, fixed_of, state_of, frame, frame_in, is_, soft_, x_of, at_, equal, k0, sums, kinds, kind_prop, distinct, products, by_size, soft_size, cyclic_alone, dealt_out}
use Rattle.svr_frame.specs.Weight.{weight_of}

pub record Case : Type 0 where
  pub frame : FrameTerm
  pub part : Part
  pub sizes : List ℕ
  pub weight : ℕ

abbrev pub is_so : Case → Bool
is_so c = weight_of c.frame c.part c.sizes == c.weight

abbrev pub in_all : FrameTerm → List ℕ → ℕ → Case
in_all f ns n = record { frame = f; part = All; sizes = ns; weight = n }

-- three random scalars of w bits
abbrev pub scalars : ℕ → List ItemTerm → FrameTerm
scalars w is = frame (rand_of w ∷ rand_of w ∷ rand_of w ∷ []) (1 ∷ 1 ∷ 1 ∷ []) is

abbrev pub scalars_weigh : ℕ → List ItemTerm → ℕ → Case
scalars_weigh w is n = in_all (scalars w is) (1 ∷ 1 ∷ 1 ∷ []) n

-- one array of three bytes
abbrev pub bytes_weigh : List ItemTerm → ℕ → Case
bytes_weigh is n = in_all (frame (fixed_of 3 8 ∷ []) (3 ∷ []) is) (3 ∷ []) n

-- `rand bit [3:0] m [2][3]; rand bit [2:0] x;`
abbrev pub rows : Prop
rows = record (of_kind rand.Rand (array.Fixed 6) 4) { inner = 3 }

abbrev pub rows_weigh : List ItemTerm → ℕ → Case
rows_weigh is n = in_all (frame (rows ∷ rand_of 3 ∷ []) (6 ∷ 1 ∷ []) is) (6 ∷ 1 ∷ []) n

abbrev pub cell_ : ExprTerm → ExprTerm → ExprTerm
cell_ i j = typed 4 false (cell 0 3 i j)

-- a loop variable, counted outwards
abbrev pub k_ : ℕ → ExprTerm
k_ n = form (loop_index n)

-- a loop over an array of one dimension
abbrev pub over : ℕ → List ItemTerm → ItemTerm
over p is = foreach p 1 1 (items_of is)

abbrev pub squares : FrameTerm
squares = frame (fixed_of 64 64 ∷ []) (64 ∷ []) (over 0 (over 0 (is_ (equal (of2 (at_ 64 0 (k_ 1)) bin.Multiply (at_ 64 0 k0)) (int 1)) ∷ []) ∷ []) ∷ [])

abbrev pub deep : FrameTerm
deep = frame (fixed_of 2048 8 ∷ []) (2048 ∷ []) (over 0 (over 0 (over 0 (over 0 (is_ (equal (at_ 8 0 (k_ 3)) (at_ 8 0 k0)) ∷ []) ∷ []) ∷ []) ∷ []) ∷ [])

-- `t[x] == 7`, over a state array of four bytes
abbrev pub looked_up : FrameTerm
looked_up = frame (state_of (array.Fixed 4) 8 ∷ rand_of 3 ∷ []) (4 ∷ 1 ∷ []) (is_ (equal (at_ 8 0 (x_of 3 1)) (int 7)) ∷ [])

abbrev pub cases : List Case
cases =
    -- 64 loops of 64 loops of 64 + 2 * 64 * 64 + 2 + 1
    in_all squares (64 ∷ []) 33828864
    ∷ in_all products (1 ∷ 1 ∷ []) 1007598
    -- 2048 ^ 4 times 8 + 1 + 1
    ∷ in_all deep (2048 ∷ []) 175921860444160
    -- 32 + (8 * 4 + 1) + 1
    ∷ in_all looked_up (4 ∷ 1 ∷ []) 66
    -- 32 + 1 + 1
    ∷ scalars_weigh 4 (is_ (equal (x_of 4 0) (int 5)) ∷ []) 34
    ∷ scalars_weigh 64 (is_ (equal (of2 (x_of 64 0) bin.Multiply (x_of 64 1)) (int 1)) ∷ []) 8259
    -- 8 + 8 + 3, and 32 + 32 + 3
    ∷ in_all sums (1 ∷ []) 86
    -- 1 and 33 and 33 + 33
    ∷ scalars_weigh 4 (is_ (among (x_of 4 0) (one (int 1) ∷ from_to (int 2) (int 5) ∷ [])) ∷ []) 100
    -- soft ones count, what removes them does not
    ∷ scalars_weigh 4 (soft_ (equal (x_of 4 0) (int 1)) ∷ disable (x_of 4 0) ∷ soft_ (equal (x_of 4 0) (int 2)) ∷ []) 68
    -- the member of weight 0 counts: 1 + 33 + 33, and 34
    ∷ in_all dealt_out (1 ∷ []) 101
    -- three pairs of one bit, and of two bits
    ∷ scalars_weigh 1 (unique (exprs_of (x_of 1 0 ∷ x_of 1 1 ∷ x_of 1 2 ∷ [])) ∷ []) 9
    ∷ in_all (frame (fixed_of 3 2 ∷ []) (3 ∷ []) (unique (exprs_of (x_of 2 0 ∷ [])) ∷ [])) (3 ∷ []) 12
    ∷ in_all distinct (3 ∷ []) 152
    -- 4 + 1, and 1 + 34
    ∷ scalars_weigh 4 (implies (x_of 4 0) (items_of (is_ (equal (x_of 4 1) (int 1)) ∷ [])) ∷ []) 40
    -- the second has `!`: 1 + 1, and 5 + 34
    ∷ scalars_weigh 4 (branch (x_of 4 0) (items_of (is_ (equal (x_of 4 1) (int 1)) ∷ [])) (else_items (items_of (is_ (equal (x_of 4 1) (int 0)) ∷ []))) ∷ []) 81
    -- two tests: 4 + 4 + 1 + 1, then 1 + 1 and 34
    ∷ scalars_weigh 4 (implies (x_of 4 0) (items_of (implies (x_of 4 2) (items_of (is_ (equal (x_of 4 1) (int 1)) ∷ [])) ∷ [])) ∷ []) 46
    -- 32 + (1 + 1 + 1) + 1
    ∷ scalars_weigh 8 (is_ (equal (form (bit_select (x_of 8 0) (int 3) (pos 0))) (int 1)) ∷ []) 36
    -- 32 + 8 * 32 + 2 + 1
    ∷ scalars_weigh 8 (is_ (equal (of2 (x_of 8 0) bin.ShiftLeft (int 2)) (int 1)) ∷ []) 291
    -- 4 * 8 * 8 + 2
    ∷ scalars_weigh 8 (is_ (of2 (x_of 8 0) bin.Divide (x_of 8 1)) ∷ []) 258
    -- 4 + 3
    ∷ scalars_weigh 4 (is_ (if_else (x_of 4 0) (x_of 4 1) (x_of 4 2)) ∷ []) 7
    ∷ scalars_weigh 4 (is_ (of1 un.LogicalNot (x_of 4 0)) ∷ is_ (of1 un.Minus (x_of 4 0)) ∷ is_ (of1 un.Plus (x_of 4 0)) ∷ []) 12
    -- 32 + 3 * (8 + 1) + 1, and 32 + 3 * (2 * 8 * 8 + 1) + 1
    ∷ bytes_weigh (is_ (equal (typed 8 false (reduce 0 fold.Sum (at_ 8 0 k0))) (int 6)) ∷ []) 60
    ∷ bytes_weigh (is_ (equal (typed 8 false (reduce 0 fold.Product (at_ 8 0 k0))) (int 6)) ∷ []) 420
    -- an array in a set: 1 + 3 * (8 + 1)
    ∷ bytes_weigh (is_ (among (u8 2) (one (x_of 8 0) ∷ [])) ∷ []) 28
    -- six times 32 + 1 + (32 + (2 * 32 * 32 + 2) + 1)
    ∷ rows_weigh (foreach 0 3 2 (items_of (is_ (equal (cell_ (k_ 1) k0) (of2 (of2 (k_ 1) bin.Multiply (int 3)) bin.Add k0)) ∷ [])) ∷ []) 12696
    -- a loop of one variable runs over the rows
    ∷ rows_weigh (foreach 0 3 1 (items_of (is_ (equal (cell_ k0 (int 0)) (int 1)) ∷ [])) ∷ []) 68
    -- 32 + (4 * 6 + 1 + 1) + 1
    ∷ rows_weigh (is_ (equal (cell_ (x_of 3 1) (int 0)) (int 1)) ∷ []) 59
    -- an enum of three members of 2 bits: 1 + 3 * (2 + 1)
    ∷ in_all (frame_in (kinds ∷ []) (kind_prop ∷ []) (1 ∷ []) []) (1 ∷ []) 10
    -- an index that holds a size counts where the phase looks for it
    ∷ record { frame = by_size; part = Sizes; sizes = 0 ∷ 4 ∷ 1 ∷ []; weight = 233 }
    ∷ in_all by_size (2 ∷ 4 ∷ 1 ∷ []) 70
    ∷ record { frame = soft_size; part = Sizes; sizes = 0 ∷ []; weight = 136 }
    -- only the item on the cyclic bit counts
    ∷ record { frame = cyclic_alone; part = Randc; sizes = 1 ∷ 1 ∷ []; weight = 34 }
    ∷ []
