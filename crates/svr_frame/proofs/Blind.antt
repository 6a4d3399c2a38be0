-- Tests of what is read that do not look at indexes give the same of a closed expression as of the one that it was made of.
use Rattle.std.proofs.Common.{◌≡◌, ℕ, zero, suc, ◌-◌, Bool, true, false, ◌||◌, refl, sym, ◌∙◌, ap, List, [], ◌∷◌, ◌++◌, Option, None, Some}
use Rattle.std.specs.Prelude.{nat_lt, if◌then◌else◌}
use Rattle.std.specs.List.{list_any}
use Rattle.std.proofs.lemmas.List.Folds.{list_any-append}
use Rattle.svr_typed.specs.ExprTerm.{ExprTerm, typed, NodeTerm, number, prop, element, cell, size, script, loop_index, reduce, of_object, bit_select, part_select, unary, binary, choice, inside, join, copies, sign, ExprTerms, no_exprs, more_exprs, RangeTerm, one, span, RangeTerms, no_ranges, more_ranges, BoundTerm, value, dollar}
use Rattle.svr_eval.specs.Value.{index_of}
use Rattle.svr_frame.specs.Closed.{index_number, closed_within, closed_node, closed_exprs, closed_ranges, closed_range, closed_bound}
use Rattle.svr_frame.specs.Occurrences.{Shape, each_below}
use Rattle.svr_frame.specs.Reads.{Read, of_scalar, of_element, of_cell, of_elements, of_size, turns, reads, node_reads, exprs_read, ranges_read, range_reads, bound_reads}

abbrev pub IsBlind : (Read → Bool) → Type 0
IsBlind t = ((p : ℕ) (env env' : List ℕ) (e e' : ExprTerm) → t (of_element p env e) ≡ t (of_element p env' e'))
    × ((p m : ℕ) (env env' : List ℕ) (e e' g g' : ExprTerm) → t (of_cell p m env e g) ≡ t (of_cell p m env' e' g'))

-- lists that are alike in a test, one after the other
each_any : (t : Read → Bool) (g : ℕ → List Read) (b : Bool) → ((i : ℕ) → list_any t (g i) ≡ b) → (n : ℕ) → list_any t (each_below (suc n) g) ≡ b
each_any t g b h zero = h 0
each_any t g b h (suc n) = list_any-append t (each_below (suc n) g) (g (suc n)) ∙ (λ k. each_any t g b h n k || h (suc n) k) ∙ same_or b
  where
    same_or : (c : Bool) → (c || c) ≡ c
    same_or true = refl
    same_or false = refl

pub turns_any : (t : Read → Bool) (g : ℕ → List Read) (b : Bool) → ((i : ℕ) → list_any t (g i) ≡ b) → (n : ℕ) → list_any t (each_below (turns n) g) ≡ b
turns_any t g b h zero = h 0
turns_any t g b h (suc n) = each_any t g b h n

-- the body of a reduction, in two ways
turns_alike : (t : Read → Bool) (g g' : ℕ → List Read) → ((i j : ℕ) → list_any t (g i) ≡ list_any t (g' j)) → (n n' : ℕ) → list_any t (each_below (turns n) g) ≡ list_any t (each_below (turns n') g')
turns_alike t g g' h n n' = turns_any t g (list_any t (g' 0)) (λ i. h i 0) n ∙ sym (turns_any t g' (list_any t (g' 0)) (λ j. sym (h 0 j) ∙ h 0 0) n')

-- two shapes with the same arrays
module _ (sh sh' : Shape) (arrays : (p : ℕ) → sh.is_array p ≡ sh'.is_array p) (t : Read → Bool) (blind : IsBlind t) (env : List ℕ) where
  both : (xs ys xs' ys' : List Read) → list_any t xs ≡ list_any t xs' → list_any t ys ≡ list_any t ys' → list_any t (xs ++ ys) ≡ list_any t (xs' ++ ys')
  both xs ys xs' ys' h k = list_any-append t xs ys ∙ (λ i. h i || k i) ∙ sym (list_any-append t xs' ys')

  loop_reads : (here : List ℕ) (c : Bool) (w : ℕ) (s : Bool) (k i : ℕ) → list_any t (reads sh here (if c then typed w s (loop_index k) else index_number i)) ≡ false
  loop_reads here true w s k i = refl
  loop_reads here false w s k i = refl

  mutual
    pub any_reads : (here there : List ℕ) (own : ℕ) (e : ExprTerm) → list_any t (reads sh here (closed_within env own e)) ≡ list_any t (reads sh' there e)
    any_reads here there own (typed w s n) = any_node_reads here there own w s n

    any_node_reads : (here there : List ℕ) (own : ℕ) (w : ℕ) (s : Bool) (n : NodeTerm) → list_any t (reads sh here (closed_node env own w s n)) ≡ list_any t (node_reads sh' there n)
    any_node_reads here there own w s (number v every) = refl
    any_node_reads here there own w s (prop p) = λ k. t (if arrays p k then of_elements p else of_scalar p) || false
    any_node_reads here there own w s (element p e) = λ k. blind.0 p here there (closed_within env own e) e k || any_reads here there own e k
    any_node_reads here there own w s (cell p m first second) =
        λ k. blind.1 p m here there (closed_within env own first) first (closed_within env own second) second k
        || both (reads sh here (closed_within env own first)) (reads sh here (closed_within env own second)) (reads sh' there first) (reads sh' there second) (any_reads here there own first) (any_reads here there own second) k
    any_node_reads here there own w s (size p m) = refl
    any_node_reads here there own w s (script v) = refl
    any_node_reads here there own w s (loop_index k) = loop_reads here (nat_lt k own) w s k (index_of env (k - own))
    any_node_reads here there own w s (reduce p op body) =
        ap (λ b. t (of_elements p) || b) (turns_alike t (λ i. reads sh (here ++ i ∷ []) (closed_within env (suc own) body)) (λ i. reads sh' (there ++ i ∷ []) body) (λ i j. any_reads (here ++ i ∷ []) (there ++ j ∷ []) (suc own) body) (sh.size p) (sh'.size p))
    any_node_reads here there own w s (of_object o e) = any_reads here there own e
    any_node_reads here there own w s (bit_select base first low) =
        both (reads sh here (closed_within env own base)) (reads sh here (closed_within env own first)) (reads sh' there base) (reads sh' there first) (any_reads here there own base) (any_reads here there own first)
    any_node_reads here there own w s (part_select base first last low) =
        both (reads sh here (closed_within env own base) ++ reads sh here (closed_within env own first)) (reads sh here (closed_within env own last)) (reads sh' there base ++ reads sh' there first) (reads sh' there last)
        (both (reads sh here (closed_within env own base)) (reads sh here (closed_within env own first)) (reads sh' there base) (reads sh' there first) (any_reads here there own base) (any_reads here there own first))
        (any_reads here there own last)
    any_node_reads here there own w s (unary op e) = any_reads here there own e
    any_node_reads here there own w s (binary op l r) =
        both (reads sh here (closed_within env own l)) (reads sh here (closed_within env own r)) (reads sh' there l) (reads sh' there r) (any_reads here there own l) (any_reads here there own r)
    any_node_reads here there own w s (choice test met unmet) =
        both (reads sh here (closed_within env own test) ++ reads sh here (closed_within env own met)) (reads sh here (closed_within env own unmet)) (reads sh' there test ++ reads sh' there met) (reads sh' there unmet)
        (both (reads sh here (closed_within env own test)) (reads sh here (closed_within env own met)) (reads sh' there test) (reads sh' there met) (any_reads here there own test) (any_reads here there own met))
        (any_reads here there own unmet)
    any_node_reads here there own w s (inside l rs) =
        both (reads sh here (closed_within env own l)) (ranges_read sh here (closed_ranges env own rs)) (reads sh' there l) (ranges_read sh' there rs) (any_reads here there own l) (any_ranges_read here there own rs)
    any_node_reads here there own w s (join parts) = any_exprs_read here there own parts
    any_node_reads here there own w s (copies count parts) =
        both (reads sh here (closed_within env own count)) (exprs_read sh here (closed_exprs env own parts)) (reads sh' there count) (exprs_read sh' there parts) (any_reads here there own count) (any_exprs_read here there own parts)
    any_node_reads here there own w s (sign as_signed e) = any_reads here there own e

    any_exprs_read : (here there : List ℕ) (own : ℕ) (es : ExprTerms) → list_any t (exprs_read sh here (closed_exprs env own es)) ≡ list_any t (exprs_read sh' there es)
    any_exprs_read here there own no_exprs = refl
    any_exprs_read here there own (more_exprs e es) =
        both (reads sh here (closed_within env own e)) (exprs_read sh here (closed_exprs env own es)) (reads sh' there e) (exprs_read sh' there es) (any_reads here there own e) (any_exprs_read here there own es)

    any_ranges_read : (here there : List ℕ) (own : ℕ) (rs : RangeTerms) → list_any t (ranges_read sh here (closed_ranges env own rs)) ≡ list_any t (ranges_read sh' there rs)
    any_ranges_read here there own no_ranges = refl
    any_ranges_read here there own (more_ranges r rs) =
        both (range_reads sh here (closed_range env own r)) (ranges_read sh here (closed_ranges env own rs)) (range_reads sh' there r) (ranges_read sh' there rs) (any_range_reads here there own r) (any_ranges_read here there own rs)

    pub any_range_reads : (here there : List ℕ) (own : ℕ) (r : RangeTerm) → list_any t (range_reads sh here (closed_range env own r)) ≡ list_any t (range_reads sh' there r)
    any_range_reads here there own (one e) = any_reads here there own e
    any_range_reads here there own (span low high) =
        both (bound_reads sh here (closed_bound env own low)) (bound_reads sh here (closed_bound env own high)) (bound_reads sh' there low) (bound_reads sh' there high) (any_bound_reads here there own low) (any_bound_reads here there own high)

    any_bound_reads : (here there : List ℕ) (own : ℕ) (b : BoundTerm) → list_any t (bound_reads sh here (closed_bound env own b)) ≡ list_any t (bound_reads sh' there b)
    any_bound_reads here there own (value e) = any_reads here there own e
    any_bound_reads here there own dollar = refl
