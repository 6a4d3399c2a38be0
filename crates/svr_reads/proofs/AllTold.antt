-- What an expression reads by recursion is what its list of reads has.
use Rattle.std.proofs.Common.{◌≡◌, ℕ, zero, suc, Bool, true, false, ◌&&◌, ◌||◌, refl, sym, ap, ◌∙◌, List, [], ◌∷◌, ◌++◌, Option, None, Some}
use Rattle.std.specs.Prelude.{if◌then◌else◌, not}
use Rattle.std.specs.List.{list_any}
use Rattle.std.proofs.Common.{Bor}
use Rattle.std.proofs.lemmas.List.Folds.{list_any-append}
use Rattle.svr_typed.specs.ExprTerm.{ExprTerm, typed, NodeTerm, number, prop, element, cell, size, script, loop_index, reduce, of_object, bit_select, part_select, unary, binary, choice, inside, join, copies, sign, ExprTerms, no_exprs, more_exprs, RangeTerm, one, span, RangeTerms, no_ranges, more_ranges, BoundTerm, value, dollar}
use Rattle.svr_reads.specs.declared.told.Told.{Told}
use Rattle.svr_reads.specs.declared.told.Told.TheVariants as told
use Rattle.svr_frame.specs.Occurrences.{Shape, each_below}
use Rattle.svr_typed.specs.declared.class.Prop.{Prop}
use Rattle.svr_frame.specs.Phases.{shape_of}
use Rattle.svr_frame.specs.Reads.{Read, of_scalar, of_element, of_cell, of_elements, of_size, turns, every_scalar, is_size_read, is_sought, is_open, reads, node_reads, exprs_read, ranges_read, range_reads, bound_reads}
use Rattle.svr_reads.specs.Tells.{is_told, tells_property, tells_element, tells_size, tells, node_tells, tells_in_exprs, tells_in_ranges, tells_in_range, tells_in_bound}

or_none : (b : Bool) → (b || false) ≡ b
or_none true = refl
or_none false = refl

-- a node that is a property, where no property is an array
scalar_told : (s : Told) (p : ℕ) → is_told s (of_scalar p) ≡ tells_property s p
scalar_told (told.Number q) p = refl
scalar_told (told.Element q) p = refl
scalar_told (told.Size q) p = refl
scalar_told (told.Varying props) p = refl

module _ (sh : Shape) (s : Told) (known : (p : ℕ) → is_told s (if sh.is_array p then of_elements p else of_scalar p) ≡ tells_property s p) where
  abbrev any : List Read → Bool
  any rs = list_any (is_told s) rs

  two : (xs ys : List Read) (b c : Bool) → any xs ≡ b → any ys ≡ c → any (xs ++ ys) ≡ (b || c)
  two xs ys b c h k = list_any-append (is_told s) xs ys ∙ (λ i. h i || k i)

  pub size_found : (p : ℕ) → is_told s (of_size p) ≡ tells_size s p
  size_found p = by s
    where
      by : (t : Told) → is_told t (of_size p) ≡ tells_size t p
      by (told.Number q) = refl
      by (told.Element q) = refl
      by (told.Size q) = refl
      by (told.Varying props) = refl

  element_found : (p : ℕ) (env : List ℕ) (e : ExprTerm) → is_told s (of_element p env e) ≡ tells_element s p
  element_found p env e = by s
    where
      by : (t : Told) → is_told t (of_element p env e) ≡ tells_element t p
      by (told.Number q) = refl
      by (told.Element q) = refl
      by (told.Size q) = refl
      by (told.Varying props) = refl

  cell_found : (p m : ℕ) (env : List ℕ) (e g : ExprTerm) → is_told s (of_cell p m env e g) ≡ tells_element s p
  cell_found p m env e g = by s
    where
      by : (t : Told) → is_told t (of_cell p m env e g) ≡ tells_element t p
      by (told.Number q) = refl
      by (told.Element q) = refl
      by (told.Size q) = refl
      by (told.Varying props) = refl

  elements_found : (p : ℕ) → is_told s (of_elements p) ≡ tells_element s p
  elements_found p = by s
    where
      by : (t : Told) → is_told t (of_elements p) ≡ tells_element t p
      by (told.Number q) = refl
      by (told.Element q) = refl
      by (told.Size q) = refl
      by (told.Varying props) = refl

  same_or : (b : Bool) → (b || b) ≡ b
  same_or true = refl
  same_or false = refl

  -- lists that are alike in what is sought, one after the other
  each_found : (g : ℕ → List Read) (b : Bool) → ((i : ℕ) → any (g i) ≡ b) → (n : ℕ) → any (each_below (suc n) g) ≡ b
  each_found g b h zero = h 0
  each_found g b h (suc n) = two (each_below (suc n) g) (g (suc n)) b b (each_found g b h n) (h (suc n)) ∙ same_or b

  turns_found : (g : ℕ → List Read) (b : Bool) → ((i : ℕ) → any (g i) ≡ b) → (n : ℕ) → any (each_below (turns n) g) ≡ b
  turns_found g b h zero = h 0
  turns_found g b h (suc n) = each_found g b h n

  abbrev rs_of : List ℕ → ExprTerm → List Read
  rs_of env e = reads sh env e

  mutual
    pub found : (env : List ℕ) (e : ExprTerm) → any (reads sh env e) ≡ tells s e
    found env (typed w t n) = node_found env n

    node_found : (env : List ℕ) (n : NodeTerm) → any (node_reads sh env n) ≡ node_tells s n
    node_found env (number v every) = refl
    node_found env (prop p) = or_none (is_told s (if sh.is_array p then of_elements p else of_scalar p)) ∙ known p
    node_found env (element p e) = λ i. element_found p env e i || found env e i
    node_found env (cell p m first second) = λ i. cell_found p m env first second i || two (rs_of env first) (rs_of env second) (tells s first) (tells s second) (found env first) (found env second) i
    node_found env (size p m) = or_none (is_told s (of_size p)) ∙ size_found p
    node_found env (script v) = refl
    node_found env (loop_index k) = refl
    node_found env (reduce p op body) = λ k. elements_found p k || turns_found (λ i. reads sh (env ++ i ∷ []) body) (tells s body) (λ i. found (env ++ i ∷ []) body) (sh.size p) k
    node_found env (of_object o e) = found env e
    node_found env (bit_select base first low) = two (rs_of env base) (rs_of env first) (tells s base) (tells s first) (found env base) (found env first)
    node_found env (part_select base first last low) =
        two (rs_of env base ++ rs_of env first) (rs_of env last) (tells s base || tells s first) (tells s last)
        (two (rs_of env base) (rs_of env first) (tells s base) (tells s first) (found env base) (found env first)) (found env last)
    node_found env (unary op e) = found env e
    node_found env (binary op l r) = two (rs_of env l) (rs_of env r) (tells s l) (tells s r) (found env l) (found env r)
    node_found env (choice t met unmet) =
        two (rs_of env t ++ rs_of env met) (rs_of env unmet) (tells s t || tells s met) (tells s unmet)
        (two (rs_of env t) (rs_of env met) (tells s t) (tells s met) (found env t) (found env met)) (found env unmet)
    node_found env (inside l rs) = two (rs_of env l) (ranges_read (sh) env rs) (tells s l) (tells_in_ranges s rs) (found env l) (ranges_found env rs)
    node_found env (join parts) = exprs_found env parts
    node_found env (copies count parts) = two (rs_of env count) (exprs_read (sh) env parts) (tells s count) (tells_in_exprs s parts) (found env count) (exprs_found env parts)
    node_found env (sign as_signed e) = found env e

    exprs_found : (env : List ℕ) (es : ExprTerms) → any (exprs_read (sh) env es) ≡ tells_in_exprs s es
    exprs_found env no_exprs = refl
    exprs_found env (more_exprs e es) = two (rs_of env e) (exprs_read (sh) env es) (tells s e) (tells_in_exprs s es) (found env e) (exprs_found env es)

    ranges_found : (env : List ℕ) (rs : RangeTerms) → any (ranges_read (sh) env rs) ≡ tells_in_ranges s rs
    ranges_found env no_ranges = refl
    ranges_found env (more_ranges r rs) =
        two (range_reads sh env r) (ranges_read (sh) env rs) (tells_in_range s r) (tells_in_ranges s rs) (range_found env r) (ranges_found env rs)

    pub range_found : (env : List ℕ) (r : RangeTerm) → any (range_reads sh env r) ≡ tells_in_range s r
    range_found env (one e) = found env e
    range_found env (span low high) =
        two (bound_reads sh env low) (bound_reads sh env high) (tells_in_bound s low) (tells_in_bound s high) (bound_found env low) (bound_found env high)

    bound_found : (env : List ℕ) (b : BoundTerm) → any (bound_reads sh env b) ≡ tells_in_bound s b
    bound_found env (value e) = found env e
    bound_found env dollar = refl

-- where no property is an array
pub found_alone : (s : Told) (e : ExprTerm) → list_any (is_told s) (reads every_scalar [] e) ≡ tells s e
found_alone s e = found every_scalar s (scalar_told s) [] e

no_size : (b : Bool) → (b && false) ≡ false
no_size true = refl
no_size false = refl

-- whatever is an array, an index is open where it holds a property that can be random, other than by a size
pub open_told : (props : Bor (List Prop)) (sizes : ℕ → ℕ) (e : ExprTerm) → is_open (shape_of props.now sizes) (λ q. false) e ≡ tells (told.Varying props) e
open_told props sizes e =
    any_same (reads (shape_of props.now sizes) [] e)
    ∙ found (shape_of props.now sizes) (told.Varying props) (λ p. either ((shape_of props.now sizes).is_array p) p) [] e
  where
    any_same : (rs : List Read) → list_any (is_sought (shape_of props.now sizes) (λ q. false)) rs ≡ list_any (is_told (told.Varying props)) rs
    any_same [] = refl
    any_same (r ∷ rs) = λ k. (no_size (is_size_read r) k || is_told (told.Varying props) r) || any_same rs k

    either : (b : Bool) (p : ℕ) → is_told (told.Varying props) (if b then of_elements p else of_scalar p) ≡ tells_property (told.Varying props) p
    either true p = refl
    either false p = refl
