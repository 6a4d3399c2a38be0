-- Whether an expression reads something of one kind, by recursion on the expression.
use Rattle.std.specs.Prelude.{◌==◌, ℕ, Bool, true, false, not, ◌&&◌, ◌||◌, slice_index_or, map}
use Rattle.svr_typed.specs.declared.class.Prop.{Prop}
use Rattle.svr_typed.specs.ExprTerm.{ExprTerm, typed, NodeTerm, number, prop, element, cell, size, script, loop_index, reduce, of_object, bit_select, part_select, unary, binary, choice, inside, join, copies, sign, ExprTerms, no_exprs, more_exprs, RangeTerm, one, span, RangeTerms, no_ranges, more_ranges, BoundTerm, value, dollar}
use Rattle.svr_reads.specs.declared.told.Told.{Told}
use Rattle.svr_reads.specs.declared.told.Told.TheVariants as told
use Rattle.svr_frame.specs.Reads.{Read, property_read, is_number_read, is_size_read}

-- whether a read is of the kind
abbrev pub is_told : Told → Read → Bool
is_told (told.Number p) r = is_number_read r && (property_read r == p)
is_told (told.Element p) r = not (is_size_read r) && (property_read r == p)
is_told (told.Size p) r = is_size_read r && (property_read r == p)
is_told (told.Varying props) r = not (is_size_read r) && slice_index_or (map (λ (x : Prop). x.can) props.now) (property_read r) false

-- a node that is the property, which is read as a scalar here; an element of it, or all of them; its size
abbrev pub tells_property : Told → ℕ → Bool
tells_property (told.Number p) q = q == p
tells_property (told.Element p) q = q == p
tells_property (told.Size p) q = false
tells_property (told.Varying props) q = slice_index_or (map (λ (x : Prop). x.can) props.now) q false

abbrev pub tells_element : Told → ℕ → Bool
tells_element (told.Number p) q = false
tells_element (told.Element p) q = q == p
tells_element (told.Size p) q = false
tells_element (told.Varying props) q = slice_index_or (map (λ (x : Prop). x.can) props.now) q false

abbrev pub tells_size : Told → ℕ → Bool
tells_size (told.Number p) q = false
tells_size (told.Element p) q = false
tells_size (told.Size p) q = q == p
tells_size (told.Varying props) q = false

module _ (t : Told) where
  abbrev mutual
    -- an expression, its indexes included
    pub tells : ExprTerm → Bool
    tells (typed w s n) = node_tells n

    pub node_tells : NodeTerm → Bool
    node_tells (number v every) = false
    node_tells (prop p) = tells_property t p
    node_tells (element p e) = tells_element t p || tells e
    node_tells (cell p m first second) = tells_element t p || (tells first || tells second)
    node_tells (size p m) = tells_size t p
    node_tells (script v) = false
    node_tells (loop_index k) = false
    node_tells (reduce p op body) = tells_element t p || tells body
    node_tells (of_object o e) = tells e
    node_tells (bit_select base first low) = tells base || tells first
    node_tells (part_select base first last low) = (tells base || tells first) || tells last
    node_tells (unary op e) = tells e
    node_tells (binary op l r) = tells l || tells r
    node_tells (choice t met unmet) = (tells t || tells met) || tells unmet
    node_tells (inside l rs) = tells l || tells_in_ranges rs
    node_tells (join parts) = tells_in_exprs parts
    node_tells (copies count parts) = tells count || tells_in_exprs parts
    node_tells (sign as_signed e) = tells e

    pub tells_in_exprs : ExprTerms → Bool
    tells_in_exprs no_exprs = false
    tells_in_exprs (more_exprs e es) = tells e || tells_in_exprs es

    pub tells_in_ranges : RangeTerms → Bool
    tells_in_ranges no_ranges = false
    tells_in_ranges (more_ranges r rs) = tells_in_range r || tells_in_ranges rs

    pub tells_in_range : RangeTerm → Bool
    tells_in_range (one e) = tells e
    tells_in_range (span low high) = tells_in_bound low || tells_in_bound high

    pub tells_in_bound : BoundTerm → Bool
    tells_in_bound (value e) = tells e
    tells_in_bound dollar = false
