-- What an occurrence mentions, as crates above keep it: the indexes of elements are numbers.
use Rattle.std.specs.Prelude.{ℕ, ◌+◌, ◌*◌, nat_lt, ℤ, pos, negsuc, Bool, true, false, not, ◌&&◌, ◌||◌, if◌then◌else◌, List, map}
use Rattle.std.specs.List.{list_any}
use Rattle.svr_typed.specs.ExprTerm.{ExprTerm, ExprTerms, RangeTerm, RangeTerms, BoundTerm}
use Rattle.svr_typed.specs.ItemTerm.{DistTerm}
use Rattle.svr_eval.specs.Reading.{Reading, reading_of}
use Rattle.svr_eval.specs.Value.{index_read}
use Rattle.svr_frame.specs.declared.part.Part.{Part}
use Rattle.svr_frame.specs.declared.part.Part.TheVariants.{Randc, Sizes, All}
use Rattle.svr_frame.specs.Frame.{FrameTerm, frame_term, is_random, is_cyclic}
use Rattle.svr_frame.specs.Occurrences.{Fact, Occurrence, Shape}
use Rattle.svr_frame.specs.Reads.{Read, of_scalar, of_element, of_cell, of_elements, of_size, reads, exprs_read, ranges_read, range_reads, bound_reads, dist_reads, fact_reads, reads_of, is_open}
use Rattle.svr_frame.specs.Phases.{shape_at, sought_sizes}
use Rattle.svr_mention.specs.declared.mention.Mention.{Mention}
use Rattle.svr_mention.specs.declared.mention.Mention.TheVariants as mention
use Rattle.svr_mention.specs.declared.mention.Spot.{Spot}
use Rattle.svr_mention.specs.declared.mention.Spot.TheVariants as spot
use Rattle.svr_mention.specs.declared.setting.Setting.{Setting}

-- where two indexes point in rows of m elements
abbrev pub cell_spot : ℕ → ℤ → ℤ → Spot
cell_spot m (pos i) (pos j) = if nat_lt j m then spot.At (pos (i * m + j)) else spot.Nowhere
cell_spot m (pos i) (negsuc j) = spot.Nowhere
cell_spot m (negsuc i) j = spot.Nowhere

abbrev pub property_mentioned : Mention → ℕ
property_mentioned (mention.Scalar p) = p
property_mentioned (mention.Element p at) = p
property_mentioned (mention.Elements p) = p
property_mentioned (mention.Size p) = p

abbrev pub is_element : Mention → Bool
is_element (mention.Scalar p) = false
is_element (mention.Element p at) = true
is_element (mention.Elements p) = true
is_element (mention.Size p) = false

module _ (f : FrameTerm) (part : Part) (ns : List ℕ) (a : Reading) where
  abbrev pub mention_of : Read → Mention
  mention_of (of_scalar p) = mention.Scalar p
  mention_of (of_element p env e) = mention.Element p (if is_open (shape_at f ns) (sought_sizes f part) e then spot.Anywhere else spot.At (index_read a env e))
  mention_of (of_cell p m env first second) = mention.Element p
      (if is_open (shape_at f ns) (sought_sizes f part) first || is_open (shape_at f ns) (sought_sizes f part) second then spot.Anywhere else cell_spot m (index_read a env first) (index_read a env second))
  mention_of (of_elements p) = mention.Elements p
  mention_of (of_size p) = mention.Size p

  abbrev pub mentions_in : Occurrence → List Mention
  mentions_in o = map mention_of (reads_of (shape_at f ns) o)

abbrev pub is_random_one : FrameTerm → Mention → Bool
is_random_one f m = is_random f (property_mentioned m)

abbrev pub is_other_random : FrameTerm → Mention → Bool
is_other_random f m = is_random f (property_mentioned m) && not (is_cyclic f (property_mentioned m))

abbrev pub is_random_element : FrameTerm → Mention → Bool
is_random_element f m = is_element m && is_random f (property_mentioned m)

-- phase Randc: cyclic random properties and no other random ones; phase Sizes: no element of a random array, and no loop
abbrev pub belongs_by : FrameTerm → Part → Bool → List Mention → Bool
belongs_by f Randc in_loop ms = list_any (is_random_one f) ms && not (list_any (is_other_random f) ms)
belongs_by f Sizes in_loop ms = not (list_any (is_random_element f) ms) && not in_loop
belongs_by f All in_loop ms = true

-- phase Randc has no soft items
abbrev pub counts_by : FrameTerm → Part → Bool → Bool → List Mention → Bool
counts_by f Randc true in_loop ms = false
counts_by f Randc false in_loop ms = belongs_by f Randc in_loop ms
counts_by f Sizes soft in_loop ms = belongs_by f Sizes in_loop ms
counts_by f All soft in_loop ms = true

-- ---- over what a walk is made

abbrev pub shape_in : Setting → Shape
shape_in x = shape_at (frame_term x.frame.now) x.sizes.now

abbrev pub opens : Setting → ExprTerm → Bool
opens x e = is_open (shape_in x) (sought_sizes (frame_term x.frame.now) x.part) e

abbrev pub reads_in : Setting → List ℕ → ExprTerm → List Read
reads_in x env e = reads (shape_in x) env e

abbrev pub all_reads_in : Setting → List ℕ → ExprTerms → List Read
all_reads_in x env es = exprs_read (shape_in x) env es

abbrev pub ranges_read_in : Setting → List ℕ → RangeTerms → List Read
ranges_read_in x env rs = ranges_read (shape_in x) env rs

abbrev pub range_reads_in : Setting → List ℕ → RangeTerm → List Read
range_reads_in x env r = range_reads (shape_in x) env r

abbrev pub bound_reads_in : Setting → List ℕ → BoundTerm → List Read
bound_reads_in x env b = bound_reads (shape_in x) env b

abbrev pub mention_in : Setting → Read → Mention
mention_in x r = mention_of (frame_term x.frame.now) x.part x.sizes.now (reading_of x.state.now) r

abbrev pub fact_reads_in : Setting → List ℕ → Fact → List Read
fact_reads_in x env fact = fact_reads (shape_in x) env fact

abbrev pub dist_reads_in : Setting → List ℕ → List DistTerm → List Read
dist_reads_in x env ds = dist_reads (shape_in x) env ds
