-- Two readings that agree on what an occurrence reads give it the same truth.
use Rattle.std.proofs.lemmas.Bool.{ltb-true, ltb-false}
use Rattle.svr_operator.specs.declared.Fold.{Fold}
use Rattle.svr_eval.specs.Operator.{arithmetic_of, fold_operator, fold_of}
use Rattle.std.proofs.Common.{◌≡◌, ◌<◌, ◌/◌, ◌==◌, arith, subst, zero, suc, ℕ, ℤ, pos, negsuc, Bool, true, false, not, ◌&&◌, ◌||◌, refl, sym, ◌∙◌, ap, List, [], ◌∷◌, ◌++◌, map, Option, None, Some}
use Rattle.std.specs.Prelude.{⊤, nat_lt, max, if◌then◌else◌}
use Rattle.std.specs.List.{list_all}
use Rattle.svr_num.specs.Num.{extend_of, read_of}
use Rattle.svr_operator.specs.declared.Share.{Share}
use Rattle.svr_typed.specs.ExprTerm.{ExprTerm, typed, NodeTerm, number, prop, element, cell, size, script, loop_index, reduce, of_object, bit_select, part_select, unary, binary, choice, inside, join, copies, sign, ExprTerms, no_exprs, more_exprs, RangeTerm, one, span, RangeTerms, no_ranges, more_ranges, BoundTerm, value, dollar}
use Rattle.svr_typed.specs.ItemTerm.{DistTerm}
use Rattle.svr_eval.specs.Reading.{Reading}
use Rattle.svr_eval.specs.Value.{Operand, size_of, sign_of, val, node_val, joined, fits_some, fits, is_from, is_up_to, is_below, are_equal, equals_member, node_size, node_sign, node_property, has_element, any_below, element_at, cell_at, index_read, property_of, operand_of, truth, alone, is_set}
use Rattle.svr_eval.specs.Holds.{has_weight, is_dealt}
use Rattle.svr_frame.specs.Occurrences.{Guard, Place, Fact, stated, dealt, disabled, Occurrence, Shape, each_below, is_met, are_met, is_fact, is_true}
use Rattle.svr_frame.specs.Reads.{Read, of_scalar, of_element, of_cell, of_elements, of_size, reads, node_reads, exprs_read, ranges_read, range_reads, bound_reads, weight_reads, dist_reads, fact_reads, guards_read, reads_of, turns}

-- what is read is the same in both; an array that is read whole has the size of the shape
abbrev pub SameRead : Shape → Reading → Reading → Read → Type 0
SameRead sh a b (of_scalar p) = a.element p 0 ≡ b.element p 0
SameRead sh a b (of_element p env e) = element_at a p (index_read a env e) ≡ element_at b p (index_read a env e)
SameRead sh a b (of_cell p m env first second) = cell_at a p m (index_read a env first) (index_read a env second) ≡ cell_at b p m (index_read a env first) (index_read a env second)
SameRead sh a b (of_elements p) = (a.size p ≡ sh.size p) × (b.size p ≡ sh.size p) × ((i : ℕ) → a.element p i ≡ b.element p i)
SameRead sh a b (of_size p) = a.size p ≡ b.size p

abbrev pub AllSame : Shape → Reading → Reading → List Read → Type 0
AllSame sh a b [] = ⊤
AllSame sh a b (r ∷ rs) = SameRead sh a b r × AllSame sh a b rs

module _ (sh : Shape) (a b : Reading) where
  pub AllSame-parts : (xs ys : List Read) → AllSame sh a b (xs ++ ys) → AllSame sh a b xs × AllSame sh a b ys
  AllSame-parts [] ys h = (tt, h)
  AllSame-parts (x ∷ xs) ys h = let rest = AllSame-parts xs ys h.1 in ((h.0, rest.0), rest.1)

  AllSame-below : (n : ℕ) (g : ℕ → List Read) → AllSame sh a b (each_below n g) → (i : ℕ) → i < n → AllSame sh a b (g i)
  AllSame-below zero g h i lt = absurd (omega (arith, lt))
  AllSame-below (suc n) g h i lt = by_place (nat_lt i n) refl (AllSame-parts (each_below n g) (g n) h) (λ k l. AllSame-below n g k i l)
    where
      by_place : (c : Bool) → nat_lt i n ≡ c → AllSame sh a b (each_below n g) × AllSame sh a b (g n) → (AllSame sh a b (each_below n g) → i < n → AllSame sh a b (g i)) → AllSame sh a b (g i)
      by_place true e parts before = before parts.0 (ltb-true i n e)
      by_place false e parts before = let last : n ≡ i = omega (arith, lt, ltb-false i n e) in subst (λ (x : ℕ). AllSame sh a b (g x)) last parts.1

  -- the body of a reduction at an index
  pub AllSame-turns : (n : ℕ) (g : ℕ → List Read) → AllSame sh a b (each_below (turns n) g) → (i : ℕ) → i < n → AllSame sh a b (g i)
  AllSame-turns zero g h i lt = absurd (omega (arith, lt))
  AllSame-turns (suc n) g h i lt = AllSame-below (suc n) g h i lt

-- a fold of the same numbers
fold_same : (op : Fold) (w n : ℕ) (g g' : ℕ → ℕ) → ((i : ℕ) → i < n → g i ≡ g' i) → fold_of op w n g ≡ fold_of op w n g'
fold_same op w zero g g' h = refl
fold_same op w (suc n) g g' h = λ k. arithmetic_of (fold_operator op) w false (fold_same op w n g g' (λ i lt. h i (omega (arith, lt))) k) (h n (omega arith) k)

-- script variables are the same, and a scalar has the size 1
pub record SameAround (sh : Shape) (a b : Reading) : Type 0 where
  pub script : (v : ℕ) → a.script v ≡ b.script v
  pub scalar : (p : ℕ) → sh.is_array p ≡ false → (a.size p ≡ 1) × (b.size p ≡ 1)

module _ (sh : Shape) (a b : Reading) (around : SameAround sh a b) where
  elements_same : (p w n : ℕ) (t : Bool) (v : ℕ) → a.size p ≡ b.size p → ((i : ℕ) → a.element p i ≡ b.element p i) → has_element a p w n t v ≡ has_element b p w n t v
  unfolding has_element
  elements_same p w n t v sizes h = λ k. any_below (sizes k) (λ i. v == extend_of t n w (h i k))

  scalar_same : (p w n : ℕ) (t : Bool) (v : ℕ) → (a.size p ≡ 1) × (b.size p ≡ 1) → a.element p 0 ≡ b.element p 0 → has_element a p w n t v ≡ has_element b p w n t v
  unfolding has_element
  scalar_same p w n t v ones h =
      ap (λ m. any_below m (λ i. v == extend_of t n w (a.element p i))) ones.0 ∙ ap (λ x. false || (v == extend_of t n w x)) h
      ∙ ap (λ m. any_below m (λ i. v == extend_of t n w (b.element p i))) (sym ones.1)

  property_same : (p w n : ℕ) (t : Bool) (v : ℕ) (c : Bool) → sh.is_array p ≡ c → AllSame sh a b ((if c then of_elements p else of_scalar p) ∷ []) → has_element a p w n t v ≡ has_element b p w n t v
  property_same p w n t v true e h = elements_same p w n t v (h.0.0 ∙ sym h.0.1) h.0.2
  property_same p w n t v false e h = scalar_same p w n t v (around.scalar p e) h.0

  same_operand : (env : List ℕ) (e : ExprTerm) → ((n : ℕ) (t : Bool) → val a env e n t ≡ val b env e n t) → operand_of a env e ≡ operand_of b env e
  same_operand env e h = λ k. record { size = size_of e; sign = sign_of e; value = λ n t. h n t k }

  same_prop : (p : ℕ) (c : Bool) → AllSame sh a b ((if c then of_elements p else of_scalar p) ∷ []) → a.element p 0 ≡ b.element p 0
  same_prop p true h = h.0.2 0
  same_prop p false h = h.0

  -- a member of a set that is a property stands for its elements
  member_same : (env : List ℕ) (x y : Operand) → x ≡ y → (w : ℕ) (s : Bool) (n : NodeTerm) → AllSame sh a b (node_reads sh env n)
      → operand_of a env (typed w s n) ≡ operand_of b env (typed w s n)
      → equals_member a x (node_property n) (operand_of a env (typed w s n)) ≡ equals_member b y (node_property n) (operand_of b env (typed w s n))
  member_same env x y q w s (number v every) h same = λ k. are_equal (q k) (same k)
  member_same env x y q w s (prop p) h same =
      property_same p w (max x.size w) (x.sign && s) (x.value (max x.size w) (x.sign && s)) (sh.is_array p) refl h
      ∙ ap (λ (z : Operand). has_element b p w (max z.size w) (z.sign && s) (z.value (max z.size w) (z.sign && s))) q
  member_same env x y q w s (element p e) h same = λ k. are_equal (q k) (same k)
  member_same env x y q w s (cell p m first second) h same = λ k. are_equal (q k) (same k)
  member_same env x y q w s (size p m) h same = λ k. are_equal (q k) (same k)
  member_same env x y q w s (script v) h same = λ k. are_equal (q k) (same k)
  member_same env x y q w s (loop_index i) h same = λ k. are_equal (q k) (same k)
  member_same env x y q w s (reduce p op body) h same = λ k. are_equal (q k) (same k)
  member_same env x y q w s (of_object o e) h same = λ k. are_equal (q k) (same k)
  member_same env x y q w s (bit_select base first low) h same = λ k. are_equal (q k) (same k)
  member_same env x y q w s (part_select base first last low) h same = λ k. are_equal (q k) (same k)
  member_same env x y q w s (unary op e) h same = λ k. are_equal (q k) (same k)
  member_same env x y q w s (binary op l r) h same = λ k. are_equal (q k) (same k)
  member_same env x y q w s (choice t met unmet) h same = λ k. are_equal (q k) (same k)
  member_same env x y q w s (inside l rs) h same = λ k. are_equal (q k) (same k)
  member_same env x y q w s (join parts) h same = λ k. are_equal (q k) (same k)
  member_same env x y q w s (copies count parts) h same = λ k. are_equal (q k) (same k)
  member_same env x y q w s (sign as_signed e) h same = λ k. are_equal (q k) (same k)

  mutual
    pub val_same : (env : List ℕ) (e : ExprTerm) → AllSame sh a b (reads sh env e) → (w : ℕ) (s : Bool) → val a env e w s ≡ val b env e w s
    val_same env (typed from signed n) h w s = node_val_same env from signed n h w s

    node_val_same : (env : List ℕ) (from : ℕ) (signed : Bool) (n : NodeTerm) → AllSame sh a b (node_reads sh env n) → (w : ℕ) (s : Bool) → node_val a env from signed n w s ≡ node_val b env from signed n w s
    node_val_same env from signed (number v every) h w s = refl
    node_val_same env from signed (prop p) h w s = ap (extend_of s w from) (same_prop p (sh.is_array p) h)
    node_val_same env from signed (element p e) h w s =
        ap (extend_of s w from) (h.0 ∙ ap (λ v. element_at b p (read_of (sign_of e) (size_of e) v)) (val_same env e h.1 (size_of e) (sign_of e)))
    node_val_same env from signed (cell p m first second) h w s =
        let parts = AllSame-parts sh a b (reads sh env first) (reads sh env second) h.1 in
        ap (extend_of s w from)
        (h.0
        ∙ (λ k. cell_at b p m (read_of (sign_of first) (size_of first) (val_same env first parts.0 (size_of first) (sign_of first) k))
        (read_of (sign_of second) (size_of second) (val_same env second parts.1 (size_of second) (sign_of second) k))))
    node_val_same env from signed (size p m) h w s = ap (λ n. extend_of s w 32 (n / m)) h.0
    node_val_same env from signed (script v) h w s = ap (extend_of s w from) (around.script v)
    node_val_same env from signed (loop_index k) h w s = refl
    node_val_same env from signed (reduce p op body) h w s =
        ap (extend_of s w (size_of body))
        (fold_same op (size_of body) (a.size p) (λ i. val a (env ++ i ∷ []) body (size_of body) (sign_of body)) (λ i. val b (env ++ i ∷ []) body (size_of body) (sign_of body))
        (λ i lt. val_same (env ++ i ∷ []) body (AllSame-turns sh a b (sh.size p) (λ x. reads sh (env ++ x ∷ []) body) h.1 i (omega (arith, lt, h.0.0))) (size_of body) (sign_of body))
        ∙ ap (λ n. fold_of op (size_of body) n (λ i. val b (env ++ i ∷ []) body (size_of body) (sign_of body))) (h.0.0 ∙ sym h.0.1))
    node_val_same env from signed (of_object o e) h w s = val_same env e h w s
    node_val_same env from signed (bit_select base first low) h w s =
        let parts = AllSame-parts sh a b (reads sh env base) (reads sh env first) h in
        rw (val_same env base parts.0 (size_of base) (sign_of base), val_same env first parts.1 (size_of first) (sign_of first)) refl
    node_val_same env from signed (part_select base first last low) h w s =
        let parts = AllSame-parts sh a b (reads sh env base ++ reads sh env first) (reads sh env last) h in
        let more = AllSame-parts sh a b (reads sh env base) (reads sh env first) parts.0 in
        rw (val_same env base more.0 (size_of base) (sign_of base), val_same env last parts.1 (size_of last) (sign_of last)) refl
    node_val_same env from signed (unary op e) h w s = simp (val_same env e h)
    node_val_same env from signed (binary op l r) h w s =
        let parts = AllSame-parts sh a b (reads sh env l) (reads sh env r) h in
        simp (val_same env l parts.0, val_same env r parts.1)
    node_val_same env from signed (choice t met unmet) h w s =
        let parts = AllSame-parts sh a b (reads sh env t ++ reads sh env met) (reads sh env unmet) h in
        let more = AllSame-parts sh a b (reads sh env t) (reads sh env met) parts.0 in
        simp (val_same env t more.0, val_same env met more.1, val_same env unmet parts.1)
    node_val_same env from signed (inside l rs) h w s =
        let parts = AllSame-parts sh a b (reads sh env l) (ranges_read sh env rs) h in
        ap (truth w s) (some_same env (operand_of a env l) (operand_of b env l) (same_operand env l (λ n t. val_same env l parts.0 n t)) rs parts.1)
    node_val_same env from signed (join parts) h w s = rw (joined_same env parts h) refl
    node_val_same env from signed (copies count parts) h w s =
        let both = AllSame-parts sh a b (reads sh env count) (exprs_read sh env parts) h in
        rw (val_same env count both.0 (size_of count) (sign_of count), joined_same env parts both.1) refl
    node_val_same env from signed (sign as_signed e) h w s = rw (val_same env e h (size_of e) (sign_of e)) refl

    joined_same : (env : List ℕ) (es : ExprTerms) → AllSame sh a b (exprs_read sh env es) → joined a env es ≡ joined b env es
    joined_same env no_exprs h = refl
    joined_same env (more_exprs e es) h =
        let parts = AllSame-parts sh a b (reads sh env e) (exprs_read sh env es) h in
        rw (val_same env e parts.0 (size_of e) (sign_of e), joined_same env es parts.1) refl

    some_same : (env : List ℕ) (x y : Operand) → x ≡ y → (rs : RangeTerms) → AllSame sh a b (ranges_read sh env rs) → fits_some a env x rs ≡ fits_some b env y rs
    some_same env x y q no_ranges h = refl
    some_same env x y q (more_ranges r rs) h =
        let parts = AllSame-parts sh a b (range_reads sh env r) (ranges_read sh env rs) h in
        λ k. range_same env x y q r parts.0 k || some_same env x y q rs parts.1 k

    pub range_same : (env : List ℕ) (x y : Operand) → x ≡ y → (r : RangeTerm) → AllSame sh a b (range_reads sh env r) → fits a env x r ≡ fits b env y r
    range_same env x y q (one (typed from signed n)) h = member_same env x y q from signed n h (λ k. record { size = node_size from n; sign = node_sign signed n; value = λ m t. node_val_same env from signed n h m t k })
    range_same env x y q (span low high) h =
        let parts = AllSame-parts sh a b (bound_reads sh env low) (bound_reads sh env high) h in
        λ k. from_same env x y q low parts.0 k && up_to_same env x y q high parts.1 k

    from_same : (env : List ℕ) (x y : Operand) → x ≡ y → (t : BoundTerm) → AllSame sh a b (bound_reads sh env t) → is_from a env x t ≡ is_from b env y t
    from_same env x y q (value e) h = λ k. not (is_below (q k) (same_operand env e (λ n t. val_same env e h n t) k))
    from_same env x y q dollar h = refl

    up_to_same : (env : List ℕ) (x y : Operand) → x ≡ y → (t : BoundTerm) → AllSame sh a b (bound_reads sh env t) → is_up_to a env x t ≡ is_up_to b env y t
    up_to_same env x y q (value e) h = λ k. not (is_below (same_operand env e (λ n t. val_same env e h n t) k) (q k))
    up_to_same env x y q dollar h = refl

  -- ---- the parts of an occurrence

  alone_same : (env : List ℕ) (e : ExprTerm) → AllSame sh a b (reads sh env e) → alone a env e ≡ alone b env e
  alone_same env e h = val_same env e h (size_of e) (sign_of e)

  weight_same : (env : List ℕ) (w : Option (Share × ExprTerm)) → AllSame sh a b (weight_reads sh env w) → has_weight a env w ≡ has_weight b env w
  weight_same env None h = refl
  weight_same env (Some w) h = ap is_set (alone_same env w.1 h)

  dealt_same : (env : List ℕ) (e : ExprTerm) → AllSame sh a b (reads sh env e) → (ds : List DistTerm) → AllSame sh a b (dist_reads sh env ds) → is_dealt a env e ds ≡ is_dealt b env e ds
  dealt_same env e he [] h = refl
  dealt_same env e he (d ∷ ds) h =
      let parts = AllSame-parts sh a b (range_reads sh env d.range ++ weight_reads sh env d.weight) (dist_reads sh env ds) h in
      let more = AllSame-parts sh a b (range_reads sh env d.range) (weight_reads sh env d.weight) parts.0 in
      let left = same_operand env e (λ n t. val_same env e he n t) in
      λ k. (weight_same env d.weight more.1 k && range_same env (operand_of a env e) (operand_of b env e) left d.range more.0 k) || dealt_same env e he ds parts.1 k

  fact_same : (env : List ℕ) (f : Fact) → AllSame sh a b (fact_reads sh env f) → is_fact a env f ≡ is_fact b env f
  fact_same env (stated e) h = ap is_set (alone_same env e h)
  fact_same env (dealt e ds) h = let parts = AllSame-parts sh a b (reads sh env e) (dist_reads sh env ds) h in dealt_same env e parts.0 ds parts.1
  fact_same env (disabled target) h = refl

  guards_same : (gs : List Guard) → AllSame sh a b (guards_read sh gs) → are_met a gs ≡ are_met b gs
  guards_same [] h = refl
  guards_same (g ∷ gs) h =
      let parts = AllSame-parts sh a b (reads sh g.env g.test) (guards_read sh gs) h in
      let same = alone_same g.env g.test parts.0 in
      λ k. (if g.wanted then is_set (same k) else not (is_set (same k))) && guards_same gs parts.1 k

  -- what an occurrence does not mention does not matter to it
  pub same_truth : (o : Occurrence) → AllSame sh a b (reads_of sh o) → is_true a o ≡ is_true b o
  same_truth o h =
      let parts = AllSame-parts sh a b (fact_reads sh o.place.env o.fact ++ guards_read sh o.place.guards) (map of_size o.place.over) h in
      let more = AllSame-parts sh a b (fact_reads sh o.place.env o.fact) (guards_read sh o.place.guards) parts.0 in
      λ k. not (guards_same o.place.guards more.1 k) || fact_same o.place.env o.fact more.0 k
