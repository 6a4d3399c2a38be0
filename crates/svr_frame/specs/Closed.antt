-- Expressions with numbers in place of the variables of the loops around them (IEEE 1800-2017, 12.7.3 and 18.5.8.1).
use Rattle.std.specs.Prelude.{ℕ, suc, ◌-◌, Bool, true, false, nat_lt, if◌then◌else◌, List}
use Rattle.svr_typed.specs.ExprTerm.{ExprTerm, typed, NodeTerm, number, prop, element, cell, size, script, loop_index, reduce, of_object, bit_select, part_select, unary, binary, choice, inside, join, copies, sign, ExprTerms, no_exprs, more_exprs, RangeTerm, one, span, RangeTerms, no_ranges, more_ranges, BoundTerm, value, dollar}
use Rattle.svr_eval.specs.Value.{index_of}

-- an index as a number: a loop variable is an int
abbrev pub index_number : ℕ → ExprTerm
index_number i = typed 32 true (number i false)

module _ (env : List ℕ) where
  abbrev mutual
    -- the innermost `own` loops are the expression's own and stay
    pub closed_within : ℕ → ExprTerm → ExprTerm
    closed_within own (typed w s n) = closed_node own w s n

    pub closed_node : ℕ → ℕ → Bool → NodeTerm → ExprTerm
    closed_node own w s (number v every) = typed w s (number v every)
    closed_node own w s (prop p) = typed w s (prop p)
    closed_node own w s (element p e) = typed w s (element p (closed_within own e))
    closed_node own w s (cell p m first second) = typed w s (cell p m (closed_within own first) (closed_within own second))
    closed_node own w s (size p m) = typed w s (size p m)
    closed_node own w s (script v) = typed w s (script v)
    closed_node own w s (loop_index k) = if nat_lt k own then typed w s (loop_index k) else index_number (index_of env (k - own))
    -- in the body of a reduction it is the innermost loop (7.12.3)
    closed_node own w s (reduce p op body) = typed w s (reduce p op (closed_within (suc own) body))
    closed_node own w s (of_object o e) = typed w s (of_object o (closed_within own e))
    closed_node own w s (bit_select base first low) = typed w s (bit_select (closed_within own base) (closed_within own first) low)
    closed_node own w s (part_select base first last low) = typed w s (part_select (closed_within own base) (closed_within own first) (closed_within own last) low)
    closed_node own w s (unary op e) = typed w s (unary op (closed_within own e))
    closed_node own w s (binary op l r) = typed w s (binary op (closed_within own l) (closed_within own r))
    closed_node own w s (choice t met unmet) = typed w s (choice (closed_within own t) (closed_within own met) (closed_within own unmet))
    closed_node own w s (inside l members) = typed w s (inside (closed_within own l) (closed_ranges own members))
    closed_node own w s (join parts) = typed w s (join (closed_exprs own parts))
    closed_node own w s (copies count parts) = typed w s (copies (closed_within own count) (closed_exprs own parts))
    closed_node own w s (sign as_signed e) = typed w s (sign as_signed (closed_within own e))

    pub closed_exprs : ℕ → ExprTerms → ExprTerms
    closed_exprs own no_exprs = no_exprs
    closed_exprs own (more_exprs e es) = more_exprs (closed_within own e) (closed_exprs own es)

    pub closed_ranges : ℕ → RangeTerms → RangeTerms
    closed_ranges own no_ranges = no_ranges
    closed_ranges own (more_ranges r rs) = more_ranges (closed_range own r) (closed_ranges own rs)

    pub closed_range : ℕ → RangeTerm → RangeTerm
    closed_range own (one e) = one (closed_within own e)
    closed_range own (span low high) = span (closed_bound own low) (closed_bound own high)

    pub closed_bound : ℕ → BoundTerm → BoundTerm
    closed_bound own (value e) = value (closed_within own e)
    closed_bound own dollar = dollar

  -- the variables of all loops around it are numbers
  abbrev pub closed : ExprTerm → ExprTerm
  closed e = closed_within 0 e
