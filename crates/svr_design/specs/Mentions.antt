-- What an expression mentions of the properties of its class: a value or an element of one of some kind, or the size of one of some kind.
use Rattle.std.specs.Prelude.{ℕ, Bool, true, false, ◌||◌, List, [], ◌∷◌, Option, Some, None, slice_get}
use Rattle.svr_operator.specs.declared.Rand.{Rand}
use Rattle.svr_operator.specs.declared.Rand.TheVariants as rand
use Rattle.svr_operator.specs.declared.Share.{Share}
use Rattle.svr_typed.specs.declared.Prop.{Prop}
use Rattle.svr_typed.specs.ExprTerm.{ExprTerm, typed, NodeTerm, number, prop, element, cell, size, script, loop_index, reduce, of_object, bit_select, part_select, unary, binary, choice, inside, join, copies, sign, ExprTerms, no_exprs, more_exprs, RangeTerm, one, span, RangeTerms, no_ranges, more_ranges, BoundTerm, value, dollar}
use Rattle.svr_typed.specs.ItemTerm.{DistTerm}

abbrev pub can_of : Option Prop → Bool
can_of None = false
can_of (Some p) = p.can

abbrev pub is_cyclic : Rand → Bool
is_cyclic rand.State = false
is_cyclic rand.Rand = false
is_cyclic rand.Randc = true

abbrev pub cyclic_of : Option Prop → Bool
cyclic_of None = false
cyclic_of (Some p) = is_cyclic p.rand

-- the properties of these that can be random, and those that are cyclic
abbrev pub can_be_random : List Prop → ℕ → Bool
can_be_random props p = can_of (slice_get props p)

abbrev pub is_cyclic_one : List Prop → ℕ → Bool
is_cyclic_one props p = cyclic_of (slice_get props p)

abbrev pub never : ℕ → Bool
never p = false

-- `of_value`: the properties of which a value or an element counts, `of_size`: those of which the size does
module _ (of_value of_size : ℕ → Bool) where
  abbrev mutual
    pub mentions : ExprTerm → Bool
    mentions (typed w s n) = node_mentions n

    pub node_mentions : NodeTerm → Bool
    node_mentions (number v every) = false
    node_mentions (prop p) = of_value p
    node_mentions (element p i) = of_value p || mentions i
    node_mentions (cell p m i j) = of_value p || (mentions i || mentions j)
    node_mentions (size p m) = of_size p
    node_mentions (script v) = false
    node_mentions (loop_index k) = false
    node_mentions (reduce p f body) = of_value p || mentions body
    node_mentions (of_object o e) = mentions e
    node_mentions (bit_select x i low) = mentions x || mentions i
    node_mentions (part_select x f l low) = mentions x || (mentions f || mentions l)
    node_mentions (unary op x) = mentions x
    node_mentions (binary op x y) = mentions x || mentions y
    node_mentions (choice t x y) = mentions t || (mentions x || mentions y)
    node_mentions (inside x rs) = mentions x || ranges_mention rs
    node_mentions (join xs) = some_mention xs
    node_mentions (copies n xs) = mentions n || some_mention xs
    node_mentions (sign s x) = mentions x

    pub some_mention : ExprTerms → Bool
    some_mention no_exprs = false
    some_mention (more_exprs x xs) = mentions x || some_mention xs

    pub ranges_mention : RangeTerms → Bool
    ranges_mention no_ranges = false
    ranges_mention (more_ranges r rs) = range_mentions r || ranges_mention rs

    pub range_mentions : RangeTerm → Bool
    range_mentions (one x) = mentions x
    range_mentions (span l h) = bound_mentions l || bound_mentions h

    pub bound_mentions : BoundTerm → Bool
    bound_mentions (value x) = mentions x
    bound_mentions dollar = false

  abbrev pub weight_mentions : Option (Share × ExprTerm) → Bool
  weight_mentions None = false
  weight_mentions (Some w) = mentions w.1

  abbrev pub dist_mentions : List DistTerm → Bool
  dist_mentions [] = false
  dist_mentions (d ∷ ds) = range_mentions d.range || (weight_mentions d.weight || dist_mentions ds)

-- a value or an element that can be random
abbrev pub is_random : List Prop → ExprTerm → Bool
is_random props e = mentions (can_be_random props) never e

-- that, or the size of an array that can be random
abbrev pub is_open : List Prop → ExprTerm → Bool
is_open props e = mentions (can_be_random props) (can_be_random props) e

-- anything of a cyclic property
abbrev pub reads_cyclic : List Prop → ExprTerm → Bool
reads_cyclic props e = mentions (is_cyclic_one props) (is_cyclic_one props) e
