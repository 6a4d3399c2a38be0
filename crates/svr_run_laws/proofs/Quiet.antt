-- What stands in the constraints of a class and mentions nothing of some kind reads nothing of that kind.
use Rattle.std.proofs.Common.{◌≡◌, ℕ, zero, suc, ◌+◌, Bool, true, false, ◌||◌, if◌then◌else◌, refl, sym, ◌∙◌, ap, subst, List, [], ◌∷◌, ◌++◌, Some}
use Rattle.std.specs.Prelude.{slice_get}
use Rattle.std.specs.List.{list_any}
use Rattle.std.proofs.lemmas.List.Folds.{list_any-append}
use Rattle.svr_typed.specs.declared.Prop.{Prop}
use Rattle.svr_typed.specs.declared.TVar.{TVar}
use Rattle.svr_typed.specs.ExprTerm.{ExprTerm, typed, NodeTerm, number, prop, element, cell, size, script, loop_index, reduce, of_object, bit_select, part_select, unary, binary, choice, inside, join, copies, sign, ExprTerms, no_exprs, more_exprs, RangeTerm, one, span, RangeTerms, no_ranges, more_ranges, BoundTerm, value, dollar}
use Rattle.svr_frame.specs.Occurrences.{Shape, each_below}
use Rattle.svr_frame.specs.Reads.{Read, of_scalar, of_element, of_cell, of_elements, of_size, turns, reads, node_reads, exprs_read, ranges_read, range_reads, bound_reads, property_read}
use Rattle.svr_frame_laws.proofs.Unmentioned.{none_of}
use Rattle.svr_design.specs.Mentions.{mentions, node_mentions, some_mention, ranges_mention, range_mentions, bound_mentions}
use Rattle.svr_design.specs.Constraints.{Stands, NodeStands, AllStand, RangesStand, RangeStands, MemberStands, BoundStands}
use Rattle.svr_run_laws.proofs.Ways.{by_way}
use Rattle.svr_run_laws.proofs.Found.{scalar_there, array_there, some_array_there, rows_there, second_there, WholeArray, member_way}

-- `is_so` tells reads of properties of which a value counts (`v`), and of those of which the size does (`z`)
module _ (ps : List Prop) (vs : List TVar) (sh : Shape) (is_so : Read → Bool) (v z : ℕ → Bool) (of_value : (p : ℕ) (x : Prop) → slice_get ps p ≡ Some x → v p ≡ false → (r : Read) → property_read r ≡ p → is_so r ≡ false) (of_its_size : (p : ℕ) (x : Prop) → slice_get ps p ≡ Some x → z p ≡ false → is_so (of_size p) ≡ false) where
  abbrev Quiet : List Read → Type 0
  Quiet rs = list_any is_so rs ≡ false

  next : (r : Read) (rs : List Read) → is_so r ≡ false → Quiet rs → Quiet (r ∷ rs)
  next r rs h k = λ i. h i || k i

  joined : (xs ys : List Read) → Quiet xs → Quiet ys → Quiet (xs ++ ys)
  joined xs ys h k = list_any-append is_so xs ys ∙ (λ i. h i || k i)

  all_below : (n : ℕ) (g : ℕ → List Read) → ((i : ℕ) → Quiet (g i)) → Quiet (each_below n g)
  all_below zero g h = refl
  all_below (suc n) g h = joined (each_below n g) (g n) (all_below n g h) (h n)

  which : (p : ℕ) (b : Bool) → property_read (if b then of_elements p else of_scalar p) ≡ p
  which p true = refl
  which p false = refl

  plain_quiet : (env : List ℕ) (p : ℕ) (x : Prop) → slice_get ps p ≡ Some x → v p ≡ false → Quiet (node_reads sh env (prop p))
  plain_quiet env p x at k = next (if sh.is_array p then of_elements p else of_scalar p) [] (of_value p x at k (if sh.is_array p then of_elements p else of_scalar p) (which p (sh.is_array p))) refl

  whole_quiet : (env : List ℕ) (w : ℕ) (s : Bool) (n : NodeTerm) → node_mentions v z n ≡ false → WholeArray ps vs w s n → Quiet (node_reads sh env n)
  whole_quiet env w s n k h =
      let x = array_there (slice_get ps h.0) w s h.2 in
      subst (λ (m : NodeTerm). Quiet (node_reads sh env m)) (sym h.1) (plain_quiet env h.0 x.0 x.1 (ap (node_mentions v z) (sym h.1) ∙ k))

  mutual
    pub quiet : (depth : ℕ) (env : List ℕ) (e : ExprTerm) → Stands ps vs depth e → mentions v z e ≡ false → Quiet (reads sh env e)
    quiet depth env (typed w s n) h k = node_quiet depth env w s n h k

    node_quiet : (depth : ℕ) (env : List ℕ) (w : ℕ) (s : Bool) (n : NodeTerm) → NodeStands ps vs depth w s n → node_mentions v z n ≡ false → Quiet (node_reads sh env n)
    node_quiet depth env w s (number u every) h k = refl
    node_quiet depth env w s (prop p) h k = let x = scalar_there (slice_get ps p) w s h in plain_quiet env p x.0 x.1 k
    node_quiet depth env w s (element p i) h k =
        let x = array_there (slice_get ps p) w s h.0 in
        let two = none_of (v p) (mentions v z i) k in
        next (of_element p env i) (reads sh env i) (of_value p x.0 x.1 two.0 (of_element p env i) refl) (quiet depth env i h.2 two.1)
    node_quiet depth env w s (cell p m i j) h k =
        let x = rows_there (slice_get ps p) m w s h.0 in
        let two = none_of (v p) (mentions v z i || mentions v z j) k in
        let more = none_of (mentions v z i) (mentions v z j) two.1 in
        next (of_cell p m env i j) (reads sh env i ++ reads sh env j) (of_value p x.0 x.1 two.0 (of_cell p m env i j) refl) (joined (reads sh env i) (reads sh env j) (quiet depth env i h.1 more.0) (quiet depth env j h.2 more.1))
    node_quiet depth env w s (size p m) h k = let x = second_there (slice_get ps p) m h in next (of_size p) [] (of_its_size p x.0 x.1 k) refl
    node_quiet depth env w s (script u) h k = refl
    node_quiet depth env w s (loop_index u) h k = refl
    node_quiet depth env w s (reduce p op body) h k =
        let x = some_array_there (slice_get ps p) h.1 in
        let two = none_of (v p) (mentions v z body) k in
        next (of_elements p) (each_below (turns (sh.size p)) (λ i. reads sh (env ++ i ∷ []) body)) (of_value p x.0 x.1 two.0 (of_elements p) refl)
        (all_below (turns (sh.size p)) (λ i. reads sh (env ++ i ∷ []) body) (λ i. quiet (depth + 1) (env ++ i ∷ []) body h.2 two.1))
    node_quiet depth env w s (of_object o e) h k = absurd h
    node_quiet depth env w s (bit_select x i low) h k =
        let two = none_of (mentions v z x) (mentions v z i) k in
        joined (reads sh env x) (reads sh env i) (quiet depth env x h.0 two.0) (quiet depth env i h.2 two.1)
    node_quiet depth env w s (part_select x a b low) h k =
        let two = none_of (mentions v z x) (mentions v z a || mentions v z b) k in
        let more = none_of (mentions v z a) (mentions v z b) two.1 in
        joined (reads sh env x ++ reads sh env a) (reads sh env b) (joined (reads sh env x) (reads sh env a) (quiet depth env x h.0 two.0) (quiet depth env a h.2 more.0)) (quiet depth env b h.3 more.1)
    node_quiet depth env w s (unary op x) h k = quiet depth env x h k
    node_quiet depth env w s (binary op x y) h k =
        let two = none_of (mentions v z x) (mentions v z y) k in
        joined (reads sh env x) (reads sh env y) (quiet depth env x h.0 two.0) (quiet depth env y h.1 two.1)
    node_quiet depth env w s (choice t x y) h k =
        let two = none_of (mentions v z t) (mentions v z x || mentions v z y) k in
        let more = none_of (mentions v z x) (mentions v z y) two.1 in
        joined (reads sh env t ++ reads sh env x) (reads sh env y) (joined (reads sh env t) (reads sh env x) (quiet depth env t h.0 two.0) (quiet depth env x h.1 more.0)) (quiet depth env y h.2 more.1)
    node_quiet depth env w s (inside x rs) h k =
        let two = none_of (mentions v z x) (ranges_mention v z rs) k in
        joined (reads sh env x) (ranges_read sh env rs) (quiet depth env x h.0 two.0) (ranges_quiet depth env rs h.1 two.1)
    node_quiet depth env w s (join xs) h k = all_quiet depth env xs h k
    node_quiet depth env w s (copies n xs) h k =
        let two = none_of (mentions v z n) (some_mention v z xs) k in
        joined (reads sh env n) (exprs_read sh env xs) (quiet depth env n h.0 two.0) (all_quiet depth env xs h.1 two.1)
    node_quiet depth env w s (sign t x) h k = quiet depth env x h k

    all_quiet : (depth : ℕ) (env : List ℕ) (es : ExprTerms) → AllStand ps vs depth es → some_mention v z es ≡ false → Quiet (exprs_read sh env es)
    all_quiet depth env no_exprs h k = refl
    all_quiet depth env (more_exprs e es) h k =
        let two = none_of (mentions v z e) (some_mention v z es) k in
        joined (reads sh env e) (exprs_read sh env es) (quiet depth env e h.0 two.0) (all_quiet depth env es h.1 two.1)

    ranges_quiet : (depth : ℕ) (env : List ℕ) (rs : RangeTerms) → RangesStand ps vs depth rs → ranges_mention v z rs ≡ false → Quiet (ranges_read sh env rs)
    ranges_quiet depth env no_ranges h k = refl
    ranges_quiet depth env (more_ranges r rs) h k =
        let two = none_of (range_mentions v z r) (ranges_mention v z rs) k in
        joined (range_reads sh env r) (ranges_read sh env rs) (range_quiet depth env r h.0 two.0) (ranges_quiet depth env rs h.1 two.1)

    range_quiet : (depth : ℕ) (env : List ℕ) (r : RangeTerm) → RangeStands ps vs depth r → range_mentions v z r ≡ false → Quiet (range_reads sh env r)
    range_quiet depth env (one e) h k = member_quiet depth env e h k
    range_quiet depth env (span low high) h k =
        let two = none_of (bound_mentions v z low) (bound_mentions v z high) k in
        joined (bound_reads sh env low) (bound_reads sh env high) (bound_quiet depth env low h.0 two.0) (bound_quiet depth env high h.1 two.1)

    member_quiet : (depth : ℕ) (env : List ℕ) (e : ExprTerm) → MemberStands ps vs depth e → mentions v z e ≡ false → Quiet (reads sh env e)
    member_quiet depth env (typed w s n) h k = by_way (λ g. node_quiet depth env w s n g k) (λ g. whole_quiet env w s n k g) (member_way ps vs depth w s n h)

    bound_quiet : (depth : ℕ) (env : List ℕ) (b : BoundTerm) → BoundStands ps vs depth b → bound_mentions v z b ≡ false → Quiet (bound_reads sh env b)
    bound_quiet depth env (value e) h k = quiet depth env e h k
    bound_quiet depth env dollar h k = refl
