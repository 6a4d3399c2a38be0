-- An expression whose properties and script variables have other numbers.
use Rattle.std.specs.Prelude.{ℕ, ⊤}
use Rattle.svr_typed.specs.ExprTerm.{ExprTerm, typed, NodeTerm, number, prop, element, cell, size, script, loop_index, reduce, of_object, bit_select, part_select, unary, binary, choice, inside, join, copies, sign, ExprTerms, no_exprs, more_exprs, RangeTerm, one, span, RangeTerms, no_ranges, more_ranges, BoundTerm, value, dollar}

-- property p is `at p`, and script variable v is `var v`
module _ (at var : ℕ → ℕ) where
  abbrev mutual
    pub renamed : ExprTerm → ExprTerm
    renamed (typed w s n) = typed w s (renamed_node n)

    pub renamed_node : NodeTerm → NodeTerm
    renamed_node (number v every) = number v every
    renamed_node (prop p) = prop (at p)
    renamed_node (element p e) = element (at p) (renamed e)
    renamed_node (cell p m first second) = cell (at p) m (renamed first) (renamed second)
    renamed_node (size p m) = size (at p) m
    renamed_node (script v) = script (var v)
    renamed_node (loop_index k) = loop_index k
    renamed_node (reduce p op body) = reduce (at p) op (renamed body)
    renamed_node (of_object o e) = of_object o (renamed e)
    renamed_node (bit_select base first low) = bit_select (renamed base) (renamed first) low
    renamed_node (part_select base first last low) = part_select (renamed base) (renamed first) (renamed last) low
    renamed_node (unary op e) = unary op (renamed e)
    renamed_node (binary op l r) = binary op (renamed l) (renamed r)
    renamed_node (choice t met unmet) = choice (renamed t) (renamed met) (renamed unmet)
    renamed_node (inside l members) = inside (renamed l) (renamed_ranges members)
    renamed_node (join parts) = join (renamed_all parts)
    renamed_node (copies count parts) = copies (renamed count) (renamed_all parts)
    renamed_node (sign s e) = sign s (renamed e)

    pub renamed_all : ExprTerms → ExprTerms
    renamed_all no_exprs = no_exprs
    renamed_all (more_exprs e es) = more_exprs (renamed e) (renamed_all es)

    pub renamed_ranges : RangeTerms → RangeTerms
    renamed_ranges no_ranges = no_ranges
    renamed_ranges (more_ranges r rs) = more_ranges (renamed_range r) (renamed_ranges rs)

    pub renamed_range : RangeTerm → RangeTerm
    renamed_range (one e) = one (renamed e)
    renamed_range (span low high) = span (renamed_bound low) (renamed_bound high)

    pub renamed_bound : BoundTerm → BoundTerm
    renamed_bound (value e) = value (renamed e)
    renamed_bound dollar = dollar

-- each property and each script variable that an expression names is such a one
module _ (P Q : ℕ → Type 0) where
  abbrev mutual
    pub EachName : ExprTerm → Type 0
    EachName (typed w s n) = EachInNode n

    pub EachInNode : NodeTerm → Type 0
    EachInNode (number v every) = ⊤
    EachInNode (prop p) = P p
    EachInNode (element p e) = P p × EachName e
    EachInNode (cell p m first second) = P p × EachName first × EachName second
    EachInNode (size p m) = P p
    EachInNode (script v) = Q v
    EachInNode (loop_index k) = ⊤
    EachInNode (reduce p op body) = P p × EachName body
    EachInNode (of_object o e) = EachName e
    EachInNode (bit_select base first low) = EachName base × EachName first
    EachInNode (part_select base first last low) = EachName base × EachName first × EachName last
    EachInNode (unary op e) = EachName e
    EachInNode (binary op l r) = EachName l × EachName r
    EachInNode (choice t met unmet) = EachName t × EachName met × EachName unmet
    EachInNode (inside l members) = EachName l × EachInRanges members
    EachInNode (join parts) = EachInAll parts
    EachInNode (copies count parts) = EachName count × EachInAll parts
    EachInNode (sign s e) = EachName e

    pub EachInAll : ExprTerms → Type 0
    EachInAll no_exprs = ⊤
    EachInAll (more_exprs e es) = EachName e × EachInAll es

    pub EachInRanges : RangeTerms → Type 0
    EachInRanges no_ranges = ⊤
    EachInRanges (more_ranges r rs) = EachInRange r × EachInRanges rs

    pub EachInRange : RangeTerm → Type 0
    EachInRange (one e) = EachName e
    EachInRange (span low high) = EachInBound low × EachInBound high

    pub EachInBound : BoundTerm → Type 0
    EachInBound (value e) = EachName e
    EachInBound dollar = ⊤
