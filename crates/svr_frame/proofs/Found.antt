-- What an expression reads by recursion is what its list of reads has.
use Rattle.std.proofs.Common.{◌≡◌, ℕ, zero, suc, Bool, true, false, ◌&&◌, ◌||◌, refl, sym, ap, ◌∙◌, List, [], ◌∷◌, ◌++◌, Option, None, Some}
use Rattle.std.specs.Prelude.{if◌then◌else◌, not, slice_index}
use Rattle.std.specs.List.{list_any}
use Rattle.std.proofs.lemmas.List.Folds.{list_any-append}
use Rattle.svr_operator.specs.declared.Share.{Share}
use Rattle.svr_typed.specs.ExprTerm.{ExprTerm, typed, NodeTerm, number, prop, element, cell, size, script, loop_index, reduce, of_object, bit_select, part_select, unary, binary, choice, inside, join, copies, sign, ExprTerms, no_exprs, more_exprs, RangeTerm, one, span, RangeTerms, no_ranges, more_ranges, BoundTerm, value, dollar}
use Rattle.svr_typed.specs.ItemTerm.{DistTerm}
use Rattle.svr_frame.specs.declared.part.Part.{Part}
use Rattle.svr_frame.specs.declared.part.Part.TheVariants.{Randc, Sizes, All}
use Rattle.svr_frame.specs.declared.sought.Sought.{Sought}
use Rattle.svr_frame.specs.declared.sought.Sought.TheVariants.{Random, NotCyclic, RandomElement, FreeSize, CanBeRandom}
use Rattle.svr_frame.specs.Frame.{FrameTerm, is_array, is_random}
use Rattle.svr_frame.specs.Reads.{Read, property_read, of_scalar, of_element, of_cell, of_elements, of_size, is_size_read, turns, is_free_size, can_vary, is_sought, has_free_size_in, is_open, reads, node_reads, exprs_read, ranges_read, range_reads, bound_reads, weight_reads, dist_reads}
use Rattle.svr_frame.specs.Phases.{shape_at, sought_sizes}
use Rattle.svr_frame.specs.Occurrences.{each_below}
use Rattle.svr_frame.specs.Finds.{mentions_random, is_found_open, is_found_sized, is_one, finds_property, finds_element, finds_size, finds, node_finds, finds_in_exprs, finds_in_ranges, finds_in_range, finds_in_bound, finds_in_weight, finds_in_member, finds_in_members}

or_none : (b : Bool) → (b || false) ≡ b
or_none true = refl
or_none false = refl

module _ (f : FrameTerm) (ns : List ℕ) (s : Sought) where
  abbrev any : List Read → Bool
  any rs = list_any (is_one f s) rs

  two : (xs ys : List Read) (b c : Bool) → any xs ≡ b → any ys ≡ c → any (xs ++ ys) ≡ (b || c)
  two xs ys b c h k = list_any-append (is_one f s) xs ys ∙ (λ i. h i || k i)

  pub size_found : (p : ℕ) → is_one f s (of_size p) ≡ finds_size f s p
  size_found p = by s
    where
      by : (t : Sought) → is_one f t (of_size p) ≡ finds_size f t p
      by Random = refl
      by NotCyclic = refl
      by RandomElement = refl
      by FreeSize = refl
      by CanBeRandom = refl

  element_found : (p : ℕ) (env : List ℕ) (e : ExprTerm) → is_one f s (of_element p env e) ≡ finds_element f s p
  element_found p env e = by s
    where
      by : (t : Sought) → is_one f t (of_element p env e) ≡ finds_element f t p
      by Random = refl
      by NotCyclic = refl
      by RandomElement = refl
      by FreeSize = refl
      by CanBeRandom = refl

  cell_found : (p m : ℕ) (env : List ℕ) (e g : ExprTerm) → is_one f s (of_cell p m env e g) ≡ finds_element f s p
  cell_found p m env e g = by s
    where
      by : (t : Sought) → is_one f t (of_cell p m env e g) ≡ finds_element f t p
      by Random = refl
      by NotCyclic = refl
      by RandomElement = refl
      by FreeSize = refl
      by CanBeRandom = refl

  elements_found : (p : ℕ) → is_one f s (of_elements p) ≡ finds_element f s p
  elements_found p = by s
    where
      by : (t : Sought) → is_one f t (of_elements p) ≡ finds_element f t p
      by Random = refl
      by NotCyclic = refl
      by RandomElement = refl
      by FreeSize = refl
      by CanBeRandom = refl

  property_found : (p : ℕ) → is_one f s (if is_array f p then of_elements p else of_scalar p) ≡ finds_property f s p
  property_found p = by s (is_array f p) refl
    where
      by : (t : Sought) (b : Bool) → is_array f p ≡ b → is_one f t (if is_array f p then of_elements p else of_scalar p) ≡ finds_property f t p
      by Random true h = rw h refl
      by Random false h = rw h refl
      by NotCyclic true h = rw h refl
      by NotCyclic false h = rw h refl
      by RandomElement true h = rw h refl
      by RandomElement false h = rw h refl
      by FreeSize true h = rw h refl
      by FreeSize false h = rw h refl
      by CanBeRandom true h = rw h refl
      by CanBeRandom false h = rw h refl

  same_or : (b : Bool) → (b || b) ≡ b
  same_or true = refl
  same_or false = refl

  -- lists that are alike in what is sought, one after the other
  each_found : (g : ℕ → List Read) (b : Bool) → ((i : ℕ) → any (g i) ≡ b) → (n : ℕ) → any (each_below (suc n) g) ≡ b
  each_found g b h zero = h 0
  each_found g b h (suc n) = two (each_below (suc n) g) (g (suc n)) b b (each_found g b h n) (h (suc n)) ∙ same_or b

  turns_found : (g : ℕ → List Read) (b : Bool) → ((i : ℕ) → any (g i) ≡ b) → (n : ℕ) → any (each_below (turns n) g) ≡ b
  turns_found g b h zero = h 0
  turns_found g b h (suc n) = each_found g b h n

  abbrev rs_of : List ℕ → ExprTerm → List Read
  rs_of env e = reads (shape_at f ns) env e

  mutual
    pub found : (env : List ℕ) (e : ExprTerm) → any (reads (shape_at f ns) env e) ≡ finds f s e
    found env (typed w t n) = node_found env n

    node_found : (env : List ℕ) (n : NodeTerm) → any (node_reads (shape_at f ns) env n) ≡ node_finds f s n
    node_found env (number v every) = refl
    node_found env (prop p) = or_none (is_one f s (if is_array f p then of_elements p else of_scalar p)) ∙ property_found p
    node_found env (element p e) = λ i. element_found p env e i || found env e i
    node_found env (cell p m first second) = λ i. cell_found p m env first second i || two (rs_of env first) (rs_of env second) (finds f s first) (finds f s second) (found env first) (found env second) i
    node_found env (size p m) = or_none (is_one f s (of_size p)) ∙ size_found p
    node_found env (script v) = refl
    node_found env (loop_index k) = refl
    node_found env (reduce p op body) = λ k. elements_found p k || turns_found (λ i. reads (shape_at f ns) (env ++ i ∷ []) body) (finds f s body) (λ i. found (env ++ i ∷ []) body) (slice_index ns p) k
    node_found env (of_object o e) = found env e
    node_found env (bit_select base first low) = two (rs_of env base) (rs_of env first) (finds f s base) (finds f s first) (found env base) (found env first)
    node_found env (part_select base first last low) =
        two (rs_of env base ++ rs_of env first) (rs_of env last) (finds f s base || finds f s first) (finds f s last)
        (two (rs_of env base) (rs_of env first) (finds f s base) (finds f s first) (found env base) (found env first)) (found env last)
    node_found env (unary op e) = found env e
    node_found env (binary op l r) = two (rs_of env l) (rs_of env r) (finds f s l) (finds f s r) (found env l) (found env r)
    node_found env (choice t met unmet) =
        two (rs_of env t ++ rs_of env met) (rs_of env unmet) (finds f s t || finds f s met) (finds f s unmet)
        (two (rs_of env t) (rs_of env met) (finds f s t) (finds f s met) (found env t) (found env met)) (found env unmet)
    node_found env (inside l rs) = two (rs_of env l) (ranges_read (shape_at f ns) env rs) (finds f s l) (finds_in_ranges f s rs) (found env l) (ranges_found env rs)
    node_found env (join parts) = exprs_found env parts
    node_found env (copies count parts) = two (rs_of env count) (exprs_read (shape_at f ns) env parts) (finds f s count) (finds_in_exprs f s parts) (found env count) (exprs_found env parts)
    node_found env (sign as_signed e) = found env e

    exprs_found : (env : List ℕ) (es : ExprTerms) → any (exprs_read (shape_at f ns) env es) ≡ finds_in_exprs f s es
    exprs_found env no_exprs = refl
    exprs_found env (more_exprs e es) = two (rs_of env e) (exprs_read (shape_at f ns) env es) (finds f s e) (finds_in_exprs f s es) (found env e) (exprs_found env es)

    ranges_found : (env : List ℕ) (rs : RangeTerms) → any (ranges_read (shape_at f ns) env rs) ≡ finds_in_ranges f s rs
    ranges_found env no_ranges = refl
    ranges_found env (more_ranges r rs) =
        two (range_reads (shape_at f ns) env r) (ranges_read (shape_at f ns) env rs) (finds_in_range f s r) (finds_in_ranges f s rs) (range_found env r) (ranges_found env rs)

    pub range_found : (env : List ℕ) (r : RangeTerm) → any (range_reads (shape_at f ns) env r) ≡ finds_in_range f s r
    range_found env (one e) = found env e
    range_found env (span low high) =
        two (bound_reads (shape_at f ns) env low) (bound_reads (shape_at f ns) env high) (finds_in_bound f s low) (finds_in_bound f s high) (bound_found env low) (bound_found env high)

    bound_found : (env : List ℕ) (b : BoundTerm) → any (bound_reads (shape_at f ns) env b) ≡ finds_in_bound f s b
    bound_found env (value e) = found env e
    bound_found env dollar = refl

  weight_found : (env : List ℕ) (w : Option (Share × ExprTerm)) → any (weight_reads (shape_at f ns) env w) ≡ finds_in_weight f s w
  weight_found env None = refl
  weight_found env (Some w) = found env w.1

  pub members_found : (env : List ℕ) (ds : List DistTerm) → any (dist_reads (shape_at f ns) env ds) ≡ finds_in_members f s ds
  members_found env [] = refl
  members_found env (d ∷ ds) =
      two (range_reads (shape_at f ns) env d.range ++ weight_reads (shape_at f ns) env d.weight) (dist_reads (shape_at f ns) env ds) (finds_in_member f s d) (finds_in_members f s ds)
      (two (range_reads (shape_at f ns) env d.range) (weight_reads (shape_at f ns) env d.weight) (finds_in_range f s d.range) (finds_in_weight f s d.weight) (range_found env d.range) (weight_found env d.weight))
      (members_found env ds)

-- ---- open indexes

no_size : (b : Bool) → (b && false) ≡ false
no_size true = refl
no_size false = refl

none_free : (rs : List Read) → list_any (λ r. is_size_read r && false) rs ≡ false
none_free [] = refl
none_free (r ∷ rs) = λ i. no_size (is_size_read r) i || none_free rs i

across : (a b c d : Bool) → ((a || b) || (c || d)) ≡ ((a || c) || (b || d))
across true b c d = refl
across false true true d = refl
across false true false d = refl
across false false c d = refl

-- either of two tests
any_or : (s t : Read → Bool) (rs : List Read) → list_any (λ r. s r || t r) rs ≡ (list_any s rs || list_any t rs)
any_or s t [] = refl
any_or s t (r ∷ rs) = ap (λ b. (s r || t r) || b) (any_or s t rs) ∙ across (s r) (t r) (list_any s rs) (list_any t rs)

-- an index is open where something is found in it that varies
pub open_found : (f : FrameTerm) (part : Part) (ns : List ℕ) (e : ExprTerm) → is_open (shape_at f ns) (sought_sizes f part) e ≡ is_found_open f part e
open_found f Randc ns e =
    any_or (is_free_size (shape_at f ns) (sought_sizes f Randc)) (can_vary (shape_at f ns) (sought_sizes f Randc)) (reads (shape_at f ns) [] e)
    ∙ (λ i. none_free (reads (shape_at f ns) [] e) i || found f ns CanBeRandom [] e i)
open_found f Sizes ns e =
    any_or (is_free_size (shape_at f ns) (sought_sizes f Sizes)) (can_vary (shape_at f ns) (sought_sizes f Sizes)) (reads (shape_at f ns) [] e)
    ∙ (λ i. found f ns FreeSize [] e i || found f ns CanBeRandom [] e i)
open_found f All ns e =
    any_or (is_free_size (shape_at f ns) (sought_sizes f All)) (can_vary (shape_at f ns) (sought_sizes f All)) (reads (shape_at f ns) [] e)
    ∙ (λ i. none_free (reads (shape_at f ns) [] e) i || found f ns CanBeRandom [] e i)

-- a size that the phase looks for
pub free_size_found : (f : FrameTerm) (part : Part) (ns : List ℕ) (e : ExprTerm) → has_free_size_in (shape_at f ns) (sought_sizes f part) e ≡ is_found_sized f part e
free_size_found f Randc ns e = none_free (reads (shape_at f ns) [] e)
free_size_found f Sizes ns e = found f ns FreeSize [] e
free_size_found f All ns e = none_free (reads (shape_at f ns) [] e)

-- whatever the sizes are
pub random_found : (f : FrameTerm) (ns : List ℕ) (r : RangeTerm) → mentions_random f r ≡ list_any (λ x. is_random f (property_read x)) (range_reads (shape_at f ns) [] r)
random_found f ns r = sym (range_found f ns Random [] r)
