-- The value of an expression of a statement: each property, element and size is read in its own object.
-- Property p of object variable o is one of all objects together, of which each has room for as many as a class may have.
use Rattle.std.specs.Prelude.{ℕ, ◌+◌, ◌*◌, ◌/◌, ◌%◌, [], max, slice_index}
use Rattle.svr_limits.specs.declared.limit.TheConstants.{PROPERTY_LIMIT}
use Rattle.svr_num.specs.Num.{cut_of}
use Rattle.svr_typed.specs.ExprTerm.{ExprTerm, typed, NodeTerm, number, prop, element, cell, size, script, loop_index, reduce, of_object, bit_select, part_select, unary, binary, choice, inside, join, copies, sign, ExprTerms, no_exprs, more_exprs, RangeTerm, one, span, RangeTerms, no_ranges, more_ranges, BoundTerm, value, dollar}
use Rattle.svr_eval.specs.Reading.{Reading}
use Rattle.svr_eval.specs.Value.{size_of, sign_of, val}
use Rattle.svr_world.specs.World.{WorldTerm, object_of, number_at}
use Rattle.svr_world.specs.World as world

abbrev pub place_of : ℕ → ℕ → ℕ
place_of o p = o * PROPERTY_LIMIT + p

-- all objects together
abbrev pub reading_of_world : WorldTerm → Reading
reading_of_world w = record {
  element = λ q i. number_at (object_of w (q / PROPERTY_LIMIT)) (q % PROPERTY_LIMIT) i;
  size = λ q. world.size_of (object_of w (q / PROPERTY_LIMIT)) (q % PROPERTY_LIMIT);
  script = λ v. slice_index w.script v;
}

-- an expression in which the properties of object o, where there is one around, are numbered among those of all
abbrev mutual
  pub numbered : ExprTerm → ExprTerm
  numbered (typed w s n) = typed w s (numbered_node n)

  -- a property, an element or a size as that of an object
  pub numbered_in : ℕ → ExprTerm → NodeTerm
  numbered_in o (typed w s n) = node_in o n

  pub node_in : ℕ → NodeTerm → NodeTerm
  node_in o (prop p) = prop (place_of o p)
  node_in o (element p e) = element (place_of o p) (numbered e)
  node_in o (cell p m first second) = cell (place_of o p) m (numbered first) (numbered second)
  node_in o (size p m) = size (place_of o p) m
  node_in o (number v every) = number v every
  node_in o (script v) = script v
  node_in o (loop_index k) = loop_index k
  node_in o (reduce p op body) = reduce (place_of o p) op (numbered body)
  node_in o (of_object i e) = of_object i e
  node_in o (bit_select base first low) = bit_select base first low
  node_in o (part_select base first last low) = part_select base first last low
  node_in o (unary op e) = unary op e
  node_in o (binary op l r) = binary op l r
  node_in o (choice t met unmet) = choice t met unmet
  node_in o (inside l members) = inside l members
  node_in o (join parts) = join parts
  node_in o (copies count parts) = copies count parts
  node_in o (sign s e) = sign s e

  pub numbered_node : NodeTerm → NodeTerm
  numbered_node (number v every) = number v every
  numbered_node (prop p) = prop p
  numbered_node (element p e) = element p (numbered e)
  numbered_node (cell p m first second) = cell p m (numbered first) (numbered second)
  numbered_node (size p m) = size p m
  numbered_node (reduce p op body) = reduce p op (numbered body)
  numbered_node (script v) = script v
  numbered_node (loop_index k) = loop_index k
  numbered_node (of_object o e) = numbered_in o e
  numbered_node (bit_select base first low) = bit_select (numbered base) (numbered first) low
  numbered_node (part_select base first last low) = part_select (numbered base) (numbered first) (numbered last) low
  numbered_node (unary op e) = unary op (numbered e)
  numbered_node (binary op l r) = binary op (numbered l) (numbered r)
  numbered_node (choice t met unmet) = choice (numbered t) (numbered met) (numbered unmet)
  numbered_node (inside l members) = inside (numbered l) (numbered_ranges members)
  numbered_node (join parts) = join (numbered_all parts)
  numbered_node (copies count parts) = copies (numbered count) (numbered_all parts)
  numbered_node (sign s e) = sign s (numbered e)

  pub numbered_all : ExprTerms → ExprTerms
  numbered_all no_exprs = no_exprs
  numbered_all (more_exprs e es) = more_exprs (numbered e) (numbered_all es)

  pub numbered_range : RangeTerm → RangeTerm
  numbered_range (one e) = one (numbered e)
  numbered_range (span low high) = span (numbered_bound low) (numbered_bound high)

  pub numbered_ranges : RangeTerms → RangeTerms
  numbered_ranges no_ranges = no_ranges
  numbered_ranges (more_ranges r rs) = more_ranges (numbered_range r) (numbered_ranges rs)

  pub numbered_bound : BoundTerm → BoundTerm
  numbered_bound (value e) = value (numbered e)
  numbered_bound dollar = dollar

-- an expression alone
abbrev pub alone_in : WorldTerm → ExprTerm → ℕ
alone_in w e = val (reading_of_world w) [] (numbered e) (size_of e) (sign_of e)

-- an assigned value: computed at the greater of the two sizes with its own sign, and cut to the width of the left side (10.7)
abbrev pub assigned : WorldTerm → ℕ → ExprTerm → ℕ
assigned w width e = cut_of width (val (reading_of_world w) [] (numbered e) (max width (size_of e)) (sign_of e))
