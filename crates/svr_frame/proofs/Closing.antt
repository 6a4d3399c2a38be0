-- A closed expression has the size, the sign and the value of the one that it was made of.
use Rattle.std.proofs.Common.{◌≡◌, ℕ, suc, append_assoc, ◌+◌, ◌-◌, ◌<◌, ◌≤◌, Bool, true, false, refl, sym, ◌∙◌, ap, List, [], ◌∷◌, ◌++◌, length, Option, None, Some, arith}
use Rattle.std.specs.Prelude.{nat_lt, if◌then◌else◌, slice_index, ◌||◌, ◌&&◌, not, max}
use Rattle.std.proofs.lemmas.Bool.{ltb-true, ltb-false, lt-ltb, le-ltb}
use Rattle.std.proofs.lemmas.List.{length-append, get_or-append-add, get_or_append_left}
use Rattle.svr_typed.specs.ExprTerm.{ExprTerm, typed, NodeTerm, number, prop, element, cell, size, script, loop_index, reduce, of_object, bit_select, part_select, unary, binary, choice, inside, join, copies, sign, ExprTerms, no_exprs, more_exprs, RangeTerm, one, span, RangeTerms, no_ranges, more_ranges, BoundTerm, value, dollar}
use Rattle.svr_eval.specs.Reading.{Reading}
use Rattle.svr_num.specs.Num.{extend_of}
use Rattle.svr_operator.specs.declared.Fold.{Fold}
use Rattle.svr_eval.specs.Operator.{unary_kind, binary_kind, fold_of}
use Rattle.svr_eval.specs.Value.{Operand, size_of, node_size, sizes, sign_of, node_sign, val, node_val, joined, fits_some, fits, is_from, is_up_to, is_below, equals_member, index_of, property_of, node_property, operand_of, truth, alone}
use Rattle.svr_frame.specs.Closed.{index_number, closed_within, closed_node, closed_exprs, closed_ranges, closed_range, closed_bound, closed}

-- ---- the k-th loop outwards, in two lists of indexes

inner_index : (env inner : List ℕ) (k : ℕ) → nat_lt k (length inner) ≡ true → index_of inner k ≡ index_of (env ++ inner) k
inner_index env inner k h =
    let lt = ltb-true k (length inner) h in
    let len = length-append env inner in
    let place : length (env ++ inner) - 1 - k ≡ length env + (length inner - 1 - k) = omega (arith, len, lt) in
    ap (λ b. if b then slice_index inner (length inner - 1 - k) else 0) h
    ∙ sym (get_or-append-add env inner (length inner - 1 - k) 0)
    ∙ ap (slice_index (env ++ inner)) (sym place)
    ∙ sym (ap (λ b. if b then slice_index (env ++ inner) (length (env ++ inner) - 1 - k) else 0) (lt-ltb k (length (env ++ inner)) (omega (arith, len, lt))))

outer_index : (env inner : List ℕ) (k : ℕ) → nat_lt k (length inner) ≡ false → index_of env (k - length inner) ≡ index_of (env ++ inner) k
outer_index env inner k h = by_place (nat_lt (k - length inner) (length env)) refl
  where
    le : length inner ≤ k
    le = ltb-false k (length inner) h

    len : length (env ++ inner) ≡ length env + length inner
    len = length-append env inner

    by_place : (b : Bool) → nat_lt (k - length inner) (length env) ≡ b → index_of env (k - length inner) ≡ index_of (env ++ inner) k
    by_place true e =
        let lt = ltb-true (k - length inner) (length env) e in
        let place : length (env ++ inner) - 1 - k ≡ length env - 1 - (k - length inner) = omega (arith, len, lt, le) in
        ap (λ b. if b then slice_index env (length env - 1 - (k - length inner)) else 0) e
        ∙ sym (get_or_append_left env inner 0 (length env - 1 - (k - length inner)) (omega (arith, lt)))
        ∙ ap (slice_index (env ++ inner)) (sym place)
        ∙ sym (ap (λ b. if b then slice_index (env ++ inner) (length (env ++ inner) - 1 - k) else 0) (lt-ltb k (length (env ++ inner)) (omega (arith, len, lt, le))))
    by_place false e =
        let ge = ltb-false (k - length inner) (length env) e in
        ap (λ b. if b then slice_index env (length env - 1 - (k - length inner)) else 0) e
        ∙ sym (ap (λ b. if b then slice_index (env ++ inner) (length (env ++ inner) - 1 - k) else 0) (le-ltb k (length (env ++ inner)) (omega (arith, len, ge, le))))

-- ---- sizes and signs

module _ (env : List ℕ) where
  loop_size : (c : Bool) (w : ℕ) (s : Bool) (k i : ℕ) → size_of (if c then typed w s (loop_index k) else index_number i) ≡ 32
  loop_size true w s k i = refl
  loop_size false w s k i = refl

  loop_sign : (c : Bool) (w : ℕ) (s : Bool) (k i : ℕ) → sign_of (if c then typed w s (loop_index k) else index_number i) ≡ true
  loop_sign true w s k i = refl
  loop_sign false w s k i = refl

  loop_property : (c : Bool) (w : ℕ) (s : Bool) (k i : ℕ) → property_of (if c then typed w s (loop_index k) else index_number i) ≡ None
  loop_property true w s k i = refl
  loop_property false w s k i = refl

  mutual
    pub size_closed : (own : ℕ) (e : ExprTerm) → size_of (closed_within env own e) ≡ size_of e
    size_closed own (typed w s n) = node_size_closed own w s n

    node_size_closed : (own : ℕ) (w : ℕ) (s : Bool) (n : NodeTerm) → size_of (closed_node env own w s n) ≡ node_size w n
    node_size_closed own w s (number v every) = refl
    node_size_closed own w s (prop p) = refl
    node_size_closed own w s (element p e) = refl
    node_size_closed own w s (cell p m first second) = refl
    node_size_closed own w s (size p m) = refl
    node_size_closed own w s (script v) = refl
    node_size_closed own w s (loop_index k) = loop_size (nat_lt k own) w s k (index_of env (k - own))
    node_size_closed own w s (reduce p op body) = size_closed (suc own) body
    node_size_closed own w s (of_object o e) = size_closed own e
    node_size_closed own w s (bit_select base first low) = refl
    node_size_closed own w s (part_select base first last low) = refl
    node_size_closed own w s (unary op e) = rw (size_closed own e) refl
    node_size_closed own w s (binary op l r) = rw (size_closed own l, size_closed own r) refl
    node_size_closed own w s (choice t met unmet) = rw (size_closed own met, size_closed own unmet) refl
    node_size_closed own w s (inside l rs) = refl
    node_size_closed own w s (join parts) = sizes_closed own parts
    node_size_closed own w s (copies count parts) = refl
    node_size_closed own w s (sign as_signed e) = size_closed own e

    pub sizes_closed : (own : ℕ) (es : ExprTerms) → sizes (closed_exprs env own es) ≡ sizes es
    sizes_closed own no_exprs = refl
    sizes_closed own (more_exprs e es) = rw (size_closed own e, sizes_closed own es) refl

  mutual
    pub sign_closed : (own : ℕ) (e : ExprTerm) → sign_of (closed_within env own e) ≡ sign_of e
    sign_closed own (typed w s n) = node_sign_closed own w s n

    node_sign_closed : (own : ℕ) (w : ℕ) (s : Bool) (n : NodeTerm) → sign_of (closed_node env own w s n) ≡ node_sign s n
    node_sign_closed own w s (number v every) = refl
    node_sign_closed own w s (prop p) = refl
    node_sign_closed own w s (element p e) = refl
    node_sign_closed own w s (cell p m first second) = refl
    node_sign_closed own w s (size p m) = refl
    node_sign_closed own w s (script v) = refl
    node_sign_closed own w s (loop_index k) = loop_sign (nat_lt k own) w s k (index_of env (k - own))
    node_sign_closed own w s (reduce p op body) = sign_closed (suc own) body
    node_sign_closed own w s (of_object o e) = sign_closed own e
    node_sign_closed own w s (bit_select base first low) = refl
    node_sign_closed own w s (part_select base first last low) = refl
    node_sign_closed own w s (unary op e) = rw (sign_closed own e) refl
    node_sign_closed own w s (binary op l r) = rw (sign_closed own l, sign_closed own r) refl
    node_sign_closed own w s (choice t met unmet) = rw (sign_closed own met, sign_closed own unmet) refl
    node_sign_closed own w s (inside l rs) = refl
    node_sign_closed own w s (join parts) = refl
    node_sign_closed own w s (copies count parts) = refl
    node_sign_closed own w s (sign as_signed e) = refl

  pub property_closed : (own : ℕ) (e : ExprTerm) → property_of (closed_within env own e) ≡ property_of e
  property_closed own (typed w s n) = by_node n
    where
      by_node : (n : NodeTerm) → property_of (closed_node env own w s n) ≡ node_property n
      by_node (number v every) = refl
      by_node (prop p) = refl
      by_node (element p e) = refl
      by_node (cell p m first second) = refl
      by_node (size p m) = refl
      by_node (script v) = refl
      by_node (loop_index k) = loop_property (nat_lt k own) w s k (index_of env (k - own))
      by_node (reduce p op body) = refl
      by_node (of_object o e) = refl
      by_node (bit_select base first low) = refl
      by_node (part_select base first last low) = refl
      by_node (unary op e) = refl
      by_node (binary op l r) = refl
      by_node (choice t met unmet) = refl
      by_node (inside l rs) = refl
      by_node (join parts) = refl
      by_node (copies count parts) = refl
      by_node (sign as_signed e) = refl

-- ---- values, where the loops of the expression itself stand at `inner`

module _ (env : List ℕ) (a : Reading) where
  same_operand : (inner : List ℕ) (e : ExprTerm) → ((n : ℕ) (t : Bool) → val a inner (closed_within env (length inner) e) n t ≡ val a (env ++ inner) e n t)
      → operand_of a inner (closed_within env (length inner) e) ≡ operand_of a (env ++ inner) e
  same_operand inner e h = λ k. record { size = size_closed env (length inner) e k; sign = sign_closed env (length inner) e k; value = λ n t. h n t k }

  loop_val : (inner : List ℕ) (c : Bool) (k : ℕ) → nat_lt k (length inner) ≡ c → (from : ℕ) (signed : Bool) (w : ℕ) (s : Bool)
      → val a inner (if c then typed from signed (loop_index k) else index_number (index_of env (k - length inner))) w s ≡ node_val a (env ++ inner) from signed (loop_index k) w s
  loop_val inner true k h from signed w s = rw (inner_index env inner k h) refl
  loop_val inner false k h from signed w s = rw (outer_index env inner k h) refl

  -- in the body of a reduction, at an index
  in_body : (inner : List ℕ) (i : ℕ) (e : ExprTerm)
      → ((n : ℕ) (t : Bool) → val a (inner ++ i ∷ []) (closed_within env (length (inner ++ i ∷ [])) e) n t ≡ val a (env ++ (inner ++ i ∷ [])) e n t)
      → (n : ℕ) (t : Bool) → val a (inner ++ i ∷ []) (closed_within env (suc (length inner)) e) n t ≡ val a ((env ++ inner) ++ i ∷ []) e n t
  in_body inner i e h n t =
      let long : suc (length inner) ≡ length (inner ++ i ∷ []) = omega (arith, length-append inner (i ∷ [])) in
      ap (λ m. val a (inner ++ i ∷ []) (closed_within env m e) n t) long
      ∙ h n t
      ∙ ap (λ (x : List ℕ). val a x e n t) (sym (append_assoc env inner (i ∷ [])))

  mutual
    pub val_closed : (inner : List ℕ) (e : ExprTerm) (w : ℕ) (s : Bool) → val a inner (closed_within env (length inner) e) w s ≡ val a (env ++ inner) e w s
    val_closed inner (typed from signed n) w s = node_val_closed inner from signed n w s

    node_val_closed : (inner : List ℕ) (from : ℕ) (signed : Bool) (n : NodeTerm) (w : ℕ) (s : Bool) → val a inner (closed_node env (length inner) from signed n) w s ≡ node_val a (env ++ inner) from signed n w s
    node_val_closed inner from signed (number v every) w s = refl
    node_val_closed inner from signed (prop p) w s = refl
    node_val_closed inner from signed (element p e) w s = simp (size_closed env (length inner) e, sign_closed env (length inner) e, val_closed inner e)
    node_val_closed inner from signed (cell p m first second) w s =
        simp (size_closed env (length inner) first, sign_closed env (length inner) first, val_closed inner first, size_closed env (length inner) second, sign_closed env (length inner) second, val_closed inner second)
    node_val_closed inner from signed (size p m) w s = refl
    node_val_closed inner from signed (script v) w s = refl
    node_val_closed inner from signed (loop_index k) w s = loop_val inner (nat_lt k (length inner)) k refl from signed w s
    node_val_closed inner from signed (reduce p op body) w s =
        λ k. extend_of s w (size_closed env (suc (length inner)) body k)
        (fold_of op (size_closed env (suc (length inner)) body k) (a.size p) (λ i. in_body inner i body (λ n t. val_closed (inner ++ i ∷ []) body n t) (size_closed env (suc (length inner)) body k) (sign_closed env (suc (length inner)) body k) k))
    node_val_closed inner from signed (of_object o e) w s = val_closed inner e w s
    node_val_closed inner from signed (bit_select base first low) w s =
        simp (size_closed env (length inner) base, sign_closed env (length inner) base, size_closed env (length inner) first, sign_closed env (length inner) first, val_closed inner base, val_closed inner first)
    node_val_closed inner from signed (part_select base first last low) w s =
        simp (size_closed env (length inner) base, sign_closed env (length inner) base, size_closed env (length inner) last, sign_closed env (length inner) last, val_closed inner base, val_closed inner last)
    node_val_closed inner from signed (unary op e) w s = simp (size_closed env (length inner) e, sign_closed env (length inner) e, val_closed inner e)
    node_val_closed inner from signed (binary op l r) w s =
        simp (size_closed env (length inner) l, sign_closed env (length inner) l, size_closed env (length inner) r, sign_closed env (length inner) r, val_closed inner l, val_closed inner r)
    node_val_closed inner from signed (choice t met unmet) w s =
        simp (size_closed env (length inner) t, sign_closed env (length inner) t, val_closed inner t, val_closed inner met, val_closed inner unmet)
    node_val_closed inner from signed (inside l rs) w s =
        ap (truth w s) (some_closed inner (operand_of a inner (closed_within env (length inner) l)) (operand_of a (env ++ inner) l) (same_operand inner l (λ n t. val_closed inner l n t)) rs)
    node_val_closed inner from signed (join parts) w s = simp (sizes_closed env (length inner) parts, joined_closed inner parts)
    node_val_closed inner from signed (copies count parts) w s =
        simp (size_closed env (length inner) count, sign_closed env (length inner) count, val_closed inner count, sizes_closed env (length inner) parts, joined_closed inner parts)
    node_val_closed inner from signed (sign as_signed e) w s = simp (size_closed env (length inner) e, sign_closed env (length inner) e, val_closed inner e)

    joined_closed : (inner : List ℕ) (es : ExprTerms) → joined a inner (closed_exprs env (length inner) es) ≡ joined a (env ++ inner) es
    joined_closed inner no_exprs = refl
    joined_closed inner (more_exprs e es) = simp (size_closed env (length inner) e, sign_closed env (length inner) e, val_closed inner e, sizes_closed env (length inner) es, joined_closed inner es)

    some_closed : (inner : List ℕ) (left' left : Operand) → left' ≡ left → (rs : RangeTerms) → fits_some a inner left' (closed_ranges env (length inner) rs) ≡ fits_some a (env ++ inner) left rs
    some_closed inner left' left h no_ranges = refl
    some_closed inner left' left h (more_ranges r rs) = rw (fits_closed inner left' left h r, some_closed inner left' left h rs) refl

    pub fits_closed : (inner : List ℕ) (left' left : Operand) → left' ≡ left → (r : RangeTerm) → fits a inner left' (closed_range env (length inner) r) ≡ fits a (env ++ inner) left r
    fits_closed inner left' left h (one e) =
        λ k. equals_member a (h k) (property_closed env (length inner) e k) (same_operand inner e (λ n t. val_closed inner e n t) k)
    fits_closed inner left' left h (span low high) = rw (from_closed inner left' left h low, up_to_closed inner left' left h high) refl

    from_closed : (inner : List ℕ) (left' left : Operand) → left' ≡ left → (b : BoundTerm) → is_from a inner left' (closed_bound env (length inner) b) ≡ is_from a (env ++ inner) left b
    from_closed inner left' left h (value e) = λ k. not (is_below (h k) (same_operand inner e (λ n t. val_closed inner e n t) k))
    from_closed inner left' left h dollar = refl

    up_to_closed : (inner : List ℕ) (left' left : Operand) → left' ≡ left → (b : BoundTerm) → is_up_to a inner left' (closed_bound env (length inner) b) ≡ is_up_to a (env ++ inner) left b
    up_to_closed inner left' left h (value e) = λ k. not (is_below (same_operand inner e (λ n t. val_closed inner e n t) k) (h k))
    up_to_closed inner left' left h dollar = refl

-- ---- whole expressions

nothing_inside : (env : List ℕ) → env ++ [] ≡ env
nothing_inside [] = refl
nothing_inside (i ∷ is) = ap (λ (x : List ℕ). i ∷ x) (nothing_inside is)

module _ (a : Reading) (env : List ℕ) where
  pub val_of_closed : (e : ExprTerm) (w : ℕ) (s : Bool) → val a [] (closed env e) w s ≡ val a env e w s
  val_of_closed e w s = val_closed env a [] e w s ∙ ap (λ (x : List ℕ). val a x e w s) (nothing_inside env)

  pub alone_closed : (e : ExprTerm) → alone a [] (closed env e) ≡ alone a env e
  alone_closed e = rw (size_closed env 0 e, sign_closed env 0 e) (val_of_closed e (size_of e) (sign_of e))

  pub operand_closed : (e : ExprTerm) → operand_of a [] (closed env e) ≡ operand_of a env e
  operand_closed e = same_operand env a [] e (λ n t. val_closed env a [] e n t) ∙ ap (λ (x : List ℕ). operand_of a x e) (nothing_inside env)

  pub range_closed : (e : ExprTerm) (r : RangeTerm) → fits a [] (operand_of a [] (closed env e)) (closed_range env 0 r) ≡ fits a env (operand_of a env e) r
  range_closed e r =
      fits_closed env a [] (operand_of a [] (closed env e)) (operand_of a (env ++ []) e) (same_operand env a [] e (λ n t. val_closed env a [] e n t)) r
      ∙ ap (λ (x : List ℕ). fits a x (operand_of a x e) r) (nothing_inside env)
