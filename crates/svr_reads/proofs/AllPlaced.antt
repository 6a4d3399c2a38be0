-- That an expression mentions an element, by recursion, is what its list of reads has.
use Rattle.std.proofs.Common.{◌≡◌, ℕ, zero, suc, Bool, true, false, ◌&&◌, ◌||◌, refl, sym, ap, ◌∙◌, List, [], ◌∷◌, ◌++◌}
use Rattle.std.specs.Prelude.{if◌then◌else◌}
use Rattle.std.specs.List.{list_any}
use Rattle.std.proofs.lemmas.List.Folds.{list_any-append}
use Rattle.svr_typed.specs.declared.class.Prop.{Prop}
use Rattle.svr_typed.specs.ExprTerm.{ExprTerm, typed, NodeTerm, number, prop, element, cell, size, script, loop_index, reduce, of_object, bit_select, part_select, unary, binary, choice, inside, join, copies, sign, ExprTerms, no_exprs, more_exprs, RangeTerm, one, span, RangeTerms, no_ranges, more_ranges, BoundTerm, value, dollar}
use Rattle.svr_eval.specs.Reading.{Reading}
use Rattle.svr_frame.specs.Occurrences.{Shape, each_below}
use Rattle.svr_frame.specs.Phases.{shape_of}
use Rattle.svr_frame.specs.Reads.{Read, of_scalar, of_element, of_cell, of_elements, turns, reads, node_reads, exprs_read, ranges_read, range_reads, bound_reads, reads_place}
use Rattle.svr_reads.specs.Placed.{any_below, shape, covered, all_covered, placed, node_placed, placed_in_exprs, placed_in_ranges, placed_in_range, placed_in_bound}

or_none : (b : Bool) → (b || false) ≡ b
or_none true = refl
or_none false = refl

module _ (props : List Prop) (a : Reading) (p i : ℕ) where
  abbrev sh : Shape
  sh = shape props a

  abbrev any : List Read → Bool
  any rs = list_any (covered props a p i) rs

  abbrev rs_of : List ℕ → ExprTerm → List Read
  rs_of env e = reads sh env e

  abbrev told : List ℕ → ExprTerm → Bool
  told env e = placed props a p i env e

  two : (xs ys : List Read) (b c : Bool) → any xs ≡ b → any ys ≡ c → any (xs ++ ys) ≡ (b || c)
  two xs ys b c h k = list_any-append (covered props a p i) xs ys ∙ (λ j. h j || k j)

  -- a node that is a property
  property_found : (b : Bool) (q : ℕ) → (covered props a p i (if b then of_elements q else of_scalar q) || false) ≡ (b && all_covered props a p i q)
  property_found true q = or_none (all_covered props a p i q)
  property_found false q = refl

  -- one turn after the other
  turns_found : (g : ℕ → List Read) (f : ℕ → Bool) → ((k : ℕ) → any (g k) ≡ f k) → (n : ℕ) → any (each_below n g) ≡ any_below n f
  turns_found g f h zero = refl
  turns_found g f h (suc n) = two (each_below n g) (g n) (any_below n f) (f n) (turns_found g f h n) (h n)

  mutual
    pub found : (env : List ℕ) (e : ExprTerm) → any (reads sh env e) ≡ placed props a p i env e
    found env (typed w t n) = node_found env n

    node_found : (env : List ℕ) (n : NodeTerm) → any (node_reads sh env n) ≡ node_placed props a p i env n
    node_found env (number v every) = refl
    node_found env (prop q) = property_found (sh.is_array q) q
    node_found env (element q e) = λ j. covered props a p i (of_element q env e) || found env e j
    node_found env (cell q m first second) =
        λ j. covered props a p i (of_cell q m env first second) || two (rs_of env first) (rs_of env second) (told env first) (told env second) (found env first) (found env second) j
    node_found env (size q m) = refl
    node_found env (script v) = refl
    node_found env (loop_index k) = refl
    node_found env (reduce q op body) =
        λ j. all_covered props a p i q || turns_found (λ k. reads sh (env ++ k ∷ []) body) (λ k. placed props a p i (env ++ k ∷ []) body) (λ k. found (env ++ k ∷ []) body) (turns (a.size q)) j
    node_found env (of_object o e) = found env e
    node_found env (bit_select base first low) = two (rs_of env base) (rs_of env first) (told env base) (told env first) (found env base) (found env first)
    node_found env (part_select base first last low) =
        two (rs_of env base ++ rs_of env first) (rs_of env last) (told env base || told env first) (told env last)
        (two (rs_of env base) (rs_of env first) (told env base) (told env first) (found env base) (found env first)) (found env last)
    node_found env (unary op e) = found env e
    node_found env (binary op l r) = two (rs_of env l) (rs_of env r) (told env l) (told env r) (found env l) (found env r)
    node_found env (choice t met unmet) =
        two (rs_of env t ++ rs_of env met) (rs_of env unmet) (told env t || told env met) (told env unmet)
        (two (rs_of env t) (rs_of env met) (told env t) (told env met) (found env t) (found env met)) (found env unmet)
    node_found env (inside l rs) = two (rs_of env l) (ranges_read sh env rs) (told env l) (placed_in_ranges props a p i env rs) (found env l) (ranges_found env rs)
    node_found env (join parts) = exprs_found env parts
    node_found env (copies count parts) = two (rs_of env count) (exprs_read sh env parts) (told env count) (placed_in_exprs props a p i env parts) (found env count) (exprs_found env parts)
    node_found env (sign as_signed e) = found env e

    exprs_found : (env : List ℕ) (es : ExprTerms) → any (exprs_read sh env es) ≡ placed_in_exprs props a p i env es
    exprs_found env no_exprs = refl
    exprs_found env (more_exprs e es) = two (rs_of env e) (exprs_read sh env es) (told env e) (placed_in_exprs props a p i env es) (found env e) (exprs_found env es)

    ranges_found : (env : List ℕ) (rs : RangeTerms) → any (ranges_read sh env rs) ≡ placed_in_ranges props a p i env rs
    ranges_found env no_ranges = refl
    ranges_found env (more_ranges r rs) =
        two (range_reads sh env r) (ranges_read sh env rs) (placed_in_range props a p i env r) (placed_in_ranges props a p i env rs) (range_found env r) (ranges_found env rs)

    range_found : (env : List ℕ) (r : RangeTerm) → any (range_reads sh env r) ≡ placed_in_range props a p i env r
    range_found env (one e) = found env e
    range_found env (span low high) =
        two (bound_reads sh env low) (bound_reads sh env high) (placed_in_bound props a p i env low) (placed_in_bound props a p i env high) (bound_found env low) (bound_found env high)

    bound_found : (env : List ℕ) (b : BoundTerm) → any (bound_reads sh env b) ≡ placed_in_bound props a p i env b
    bound_found env (value e) = found env e
    bound_found env dollar = refl

-- where no loop stands around it
pub found_alone : (ps qs : List Prop) (a : Reading) (p i : ℕ) (env : List ℕ) (e : ExprTerm) (r : Bool) → r ≡ placed qs a p i env e → qs ≡ ps → env ≡ [] → r ≡ reads_place (shape_of ps a.size) a e p i
found_alone ps qs a p i env e r h k l =
    h ∙ ap (λ (qs : List Prop). placed qs a p i env e) k ∙ ap (λ (env : List ℕ). placed ps a p i env e) l ∙ sym (found ps a p i [] e)
