-- What an expression reads, and what an occurrence mentions.
use Rattle.std.specs.Prelude.{◌==◌, ℕ, zero, suc, ◌+◌, ◌*◌, ℤ, pos, negsuc, Bool, true, false, not, ◌&&◌, ◌||◌, nat_lt, if◌then◌else◌, List, [], ◌∷◌, ◌++◌, Option, None, Some, map}
use Rattle.std.specs.List.{list_any}
use Rattle.std.specs.Ordering.{int_eq}
use Rattle.svr_operator.specs.declared.Share.{Share}
use Rattle.svr_typed.specs.ExprTerm.{ExprTerm, typed, NodeTerm, number, prop, element, cell, size, script, loop_index, reduce, of_object, bit_select, part_select, unary, binary, choice, inside, join, copies, sign, ExprTerms, no_exprs, more_exprs, RangeTerm, one, span, RangeTerms, no_ranges, more_ranges, BoundTerm, value, dollar}
use Rattle.svr_typed.specs.ItemTerm.{DistTerm}
use Rattle.svr_eval.specs.Reading.{Reading}
use Rattle.svr_eval.specs.Value.{index_read}
use Rattle.svr_frame.specs.Occurrences.{Guard, Place, Fact, stated, dealt, disabled, Occurrence, Shape, each_below}

pub data Read : Type 0 where
  of_scalar : ℕ → Read
  -- an element of an array at an index, with the indexes of the loops around it
  of_element : ℕ → List ℕ → ExprTerm → Read
  -- one of an array of two dimensions, with the elements of a row
  of_cell : ℕ → ℕ → List ℕ → ExprTerm → ExprTerm → Read
  -- all elements of an array
  of_elements : ℕ → Read
  of_size : ℕ → Read

-- the body of a reduction is read for each element, and once where there is none
abbrev pub turns : ℕ → ℕ
turns zero = 1
turns (suc n) = suc n

-- ---- what an expression reads, its indexes included

module _ (sh : Shape) where
  abbrev mutual
    pub reads : List ℕ → ExprTerm → List Read
    reads env (typed w s n) = node_reads env n

    pub node_reads : List ℕ → NodeTerm → List Read
    node_reads env (number v every) = []
    node_reads env (prop p) = (if sh.is_array p then of_elements p else of_scalar p) ∷ []
    node_reads env (element p e) = of_element p env e ∷ reads env e
    node_reads env (cell p m first second) = of_cell p m env first second ∷ (reads env first ++ reads env second)
    node_reads env (size p m) = of_size p ∷ []
    node_reads env (script v) = []
    node_reads env (loop_index k) = []
    node_reads env (reduce p op body) = of_elements p ∷ each_below (turns (sh.size p)) (λ i. reads (env ++ i ∷ []) body)
    node_reads env (of_object o e) = reads env e
    node_reads env (bit_select base first low) = reads env base ++ reads env first
    node_reads env (part_select base first last low) = reads env base ++ reads env first ++ reads env last
    node_reads env (unary op e) = reads env e
    node_reads env (binary op l r) = reads env l ++ reads env r
    node_reads env (choice t met unmet) = reads env t ++ reads env met ++ reads env unmet
    node_reads env (inside l rs) = reads env l ++ ranges_read env rs
    node_reads env (join parts) = exprs_read env parts
    node_reads env (copies count parts) = reads env count ++ exprs_read env parts
    node_reads env (sign as_signed e) = reads env e

    pub exprs_read : List ℕ → ExprTerms → List Read
    exprs_read env no_exprs = []
    exprs_read env (more_exprs e es) = reads env e ++ exprs_read env es

    pub ranges_read : List ℕ → RangeTerms → List Read
    ranges_read env no_ranges = []
    ranges_read env (more_ranges r rs) = range_reads env r ++ ranges_read env rs

    pub range_reads : List ℕ → RangeTerm → List Read
    range_reads env (one e) = reads env e
    range_reads env (span low high) = bound_reads env low ++ bound_reads env high

    pub bound_reads : List ℕ → BoundTerm → List Read
    bound_reads env (value e) = reads env e
    bound_reads env dollar = []

  -- ---- what an occurrence reads

  abbrev pub weight_reads : List ℕ → Option (Share × ExprTerm) → List Read
  weight_reads env None = []
  weight_reads env (Some w) = reads env w.1

  abbrev pub dist_reads : List ℕ → List DistTerm → List Read
  dist_reads env [] = []
  dist_reads env (d ∷ ds) = range_reads env d.range ++ weight_reads env d.weight ++ dist_reads env ds

  abbrev pub fact_reads : List ℕ → Fact → List Read
  fact_reads env (stated e) = reads env e
  fact_reads env (dealt e ds) = reads env e ++ dist_reads env ds
  fact_reads env (disabled target) = reads env target

  abbrev pub guards_read : List Guard → List Read
  guards_read [] = []
  guards_read (g ∷ gs) = reads g.env g.test ++ guards_read gs

  -- its item, its tests, and the sizes of the arrays of its loops
  abbrev pub reads_of : Occurrence → List Read
  reads_of o = fact_reads o.place.env o.fact ++ guards_read o.place.guards ++ map of_size o.place.over

-- ---- mentions

-- the property: reading an element or the size mentions it
abbrev pub property_read : Read → ℕ
property_read (of_scalar p) = p
property_read (of_element p env e) = p
property_read (of_cell p m env first second) = p
property_read (of_elements p) = p
property_read (of_size p) = p

abbrev pub is_number_read : Read → Bool
is_number_read (of_scalar p) = true
is_number_read (of_element p env e) = false
is_number_read (of_cell p m env first second) = false
is_number_read (of_elements p) = false
is_number_read (of_size p) = false

abbrev pub is_element_read : Read → Bool
is_element_read (of_scalar p) = false
is_element_read (of_element p env e) = true
is_element_read (of_cell p m env first second) = true
is_element_read (of_elements p) = true
is_element_read (of_size p) = false

abbrev pub is_size_read : Read → Bool
is_size_read (of_scalar p) = false
is_size_read (of_element p env e) = false
is_size_read (of_cell p m env first second) = false
is_size_read (of_elements p) = false
is_size_read (of_size p) = true

abbrev pub mentions : Shape → ℕ → Occurrence → Bool
mentions sh p o = list_any (λ r. property_read r == p) (reads_of sh o)

abbrev pub mentions_number : Shape → ℕ → Occurrence → Bool
mentions_number sh p o = list_any (λ r. is_number_read r && (property_read r == p)) (reads_of sh o)

abbrev pub mentions_size : Shape → ℕ → Occurrence → Bool
mentions_size sh p o = list_any (λ r. is_size_read r && (property_read r == p)) (reads_of sh o)

-- whether the array has an element there
abbrev pub has_place : Reading → ℕ → ℤ → Bool
has_place a p (pos i) = nat_lt i (a.size p)
has_place a p (negsuc i) = false

-- whether two indexes name the element there, of an array with rows of m elements; none is there outside a dimension
abbrev pub is_cell_at : ℕ → ℤ → ℤ → ℤ → Bool
is_cell_at m (pos i) (pos j) z = nat_lt j m && int_eq z (pos (i * m + j))
is_cell_at m (pos i) (negsuc j) z = false
is_cell_at m (negsuc i) j z = false

-- `a` has the numbers of the indexes and the sizes; `free` tells the sizes that the phase looks for
module _ (sh : Shape) (free : ℕ → Bool) where
  abbrev pub is_free_size : Read → Bool
  is_free_size r = is_size_read r && free (property_read r)

  -- it holds a size that the phase looks for
  abbrev pub has_free_size_in : ExprTerm → Bool
  has_free_size_in e = list_any is_free_size (reads sh [] e)

  -- a property that can be random in some call, other than by its size
  abbrev pub can_vary : Read → Bool
  can_vary r = not (is_size_read r) && sh.can (property_read r)

  abbrev pub is_sought : Read → Bool
  is_sought r = is_free_size r || can_vary r

  -- an index whose value is one of many
  abbrev pub is_open : ExprTerm → Bool
  is_open e = list_any is_sought (reads sh [] e)

  module _ (a : Reading) where
    -- An element whose index is open stands for all elements of its array. One that the array does not have is mentioned all the same.
    abbrev pub covers : ℕ → ℤ → Read → Bool
    covers p z (of_scalar q) = false
    covers p z (of_element q env e) = (p == q) && (if is_open e then has_place a p z else int_eq z (index_read a env e))
    covers p z (of_cell q m env first second) = (p == q) && (if is_open first || is_open second then has_place a p z else is_cell_at m (index_read a env first) (index_read a env second) z)
    covers p z (of_elements q) = (p == q) && has_place a p z
    covers p z (of_size q) = false

    abbrev pub mentions_element : ℕ → ℤ → Occurrence → Bool
    mentions_element p z o = list_any (covers p z) (reads_of sh o)

-- ---- what one expression reads of a property, as a call of `reads` tells it, whether the property is an array or not

abbrev pub every_scalar : Shape
every_scalar = record { is_array = λ p. false; size = λ p. 0; can = λ p. false }

-- a node that is the property: the scalar, or the whole array
abbrev pub reads_number : ExprTerm → ℕ → Bool
reads_number e p = list_any (λ r. is_number_read r && (property_read r == p)) (reads every_scalar [] e)

-- an element, or a node that is the property
abbrev pub reads_element : ExprTerm → ℕ → Bool
reads_element e p = list_any (λ r. not (is_size_read r) && (property_read r == p)) (reads every_scalar [] e)

abbrev pub reads_size : ExprTerm → ℕ → Bool
reads_size e p = list_any (λ r. is_size_read r && (property_read r == p)) (reads every_scalar [] e)

-- whether a closed expression mentions an element of an array, where no size is sought, as a call of `reads_at` tells it
abbrev pub reads_place : Shape → Reading → ExprTerm → ℕ → ℕ → Bool
reads_place sh a e p i = list_any (covers sh (λ q. false) a p (pos i)) (reads sh [] e)
