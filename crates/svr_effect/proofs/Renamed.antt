-- An expression whose properties and script variables have other numbers has the same value over a reading that has the same at these numbers, and as many numbers as it names are enough.
use Rattle.std.proofs.Common.{◌≡◌, ◌<◌, ◌/◌, ◌==◌, ◌+◌, ◌*◌, ◌^◌, ℕ, ℤ, pos, negsuc, Bool, not, ◌&&◌, ◌||◌, refl, sym, ◌∙◌, ap, subst, List, [], ◌∷◌, ◌++◌, max}
use Rattle.std.specs.Prelude.{◌-ℤ◌, ◌+ℤ◌, nat_lt, if◌then◌else◌}
use Rattle.svr_num.specs.Num.{extend_of, read_of}
use Rattle.svr_typed.specs.ExprTerm.{ExprTerm, typed, NodeTerm, number, prop, element, cell, size, script, loop_index, reduce, of_object, bit_select, part_select, unary, binary, choice, inside, join, copies, sign, ExprTerms, no_exprs, more_exprs, RangeTerm, one, span, RangeTerms, no_ranges, more_ranges, BoundTerm, value, dollar}
use Rattle.svr_eval.specs.Operator.{binary_kind, unary_kind, binary_size, binary_sign, unary_size, unary_sign, fold_of}
use Rattle.svr_eval.specs.Reading.{Reading, blank}
use Rattle.svr_eval.specs.Value.{Operand, size_of, node_size, sizes, sign_of, node_sign, val, node_val, joined, fits_some, fits, is_from, is_up_to, is_below, are_equal, equals_member, node_property, has_element, any_below, element_at, cell_at, bits_from, copied, unary_val, binary_val, operand_of, alone, truth, is_set}
use Rattle.svr_eval.specs.Typed.{IsConstant, NodeIsConstant, AreConstant, RangesAreConstant, RangeIsConstant, BoundIsConstant, constant, IsTyped, NodeIsTyped, AreTyped, RangesAreTyped, RangeIsTyped, BoundIsTyped, CanRead, NodeCanRead, AllCanRead, RangesCanRead, RangeCanRead, BoundCanRead}
use Rattle.svr_effect.specs.Renamed.{renamed, renamed_node, renamed_all, renamed_ranges, renamed_range, renamed_bound, EachName, EachInNode, EachInAll, EachInRanges, EachInRange, EachInBound}

module _ (at var : ℕ → ℕ) where
  -- ---- sizes and signs stay

  mutual
    pub size_same : (e : ExprTerm) → size_of (renamed at var e) ≡ size_of e
    size_same (typed w s n) = node_size_same w n

    node_size_same : (w : ℕ) (n : NodeTerm) → node_size w (renamed_node at var n) ≡ node_size w n
    node_size_same w (number v every) = refl
    node_size_same w (prop p) = refl
    node_size_same w (element p e) = refl
    node_size_same w (cell p m first second) = refl
    node_size_same w (size p m) = refl
    node_size_same w (script v) = refl
    node_size_same w (loop_index k) = refl
    node_size_same w (reduce p op body) = size_same body
    node_size_same w (of_object o e) = size_same e
    node_size_same w (bit_select base first low) = refl
    node_size_same w (part_select base first last low) = refl
    node_size_same w (unary op e) = ap (unary_size (unary_kind op)) (size_same e)
    node_size_same w (binary op l r) = λ k. binary_size (binary_kind op) (size_same l k) (size_same r k)
    node_size_same w (choice t met unmet) = λ k. max (size_same met k) (size_same unmet k)
    node_size_same w (inside l members) = refl
    node_size_same w (join parts) = sizes_same parts
    node_size_same w (copies count parts) = refl
    node_size_same w (sign s e) = size_same e

    sizes_same : (es : ExprTerms) → sizes (renamed_all at var es) ≡ sizes es
    sizes_same no_exprs = refl
    sizes_same (more_exprs e es) = λ k. size_same e k + sizes_same es k

  mutual
    pub sign_same : (e : ExprTerm) → sign_of (renamed at var e) ≡ sign_of e
    sign_same (typed w s n) = node_sign_same s n

    node_sign_same : (s : Bool) (n : NodeTerm) → node_sign s (renamed_node at var n) ≡ node_sign s n
    node_sign_same s (number v every) = refl
    node_sign_same s (prop p) = refl
    node_sign_same s (element p e) = refl
    node_sign_same s (cell p m first second) = refl
    node_sign_same s (size p m) = refl
    node_sign_same s (script v) = refl
    node_sign_same s (loop_index k) = refl
    node_sign_same s (reduce p op body) = sign_same body
    node_sign_same s (of_object o e) = sign_same e
    node_sign_same s (bit_select base first low) = refl
    node_sign_same s (part_select base first last low) = refl
    node_sign_same s (unary op e) = ap (unary_sign (unary_kind op)) (sign_same e)
    node_sign_same s (binary op l r) = λ k. binary_sign (binary_kind op) (sign_same l k) (sign_same r k)
    node_sign_same s (choice t met unmet) = λ k. sign_same met k && sign_same unmet k
    node_sign_same s (inside l members) = refl
    node_sign_same s (join parts) = refl
    node_sign_same s (copies count parts) = refl
    node_sign_same s (sign signed e) = refl

  -- ---- a constant expression stays as it is

  mutual
    constant_same : (e : ExprTerm) → IsConstant e → renamed at var e ≡ e
    constant_same (typed w s n) h = ap (typed w s) (constant_node_same n h)

    constant_node_same : (n : NodeTerm) → NodeIsConstant n → renamed_node at var n ≡ n
    constant_node_same (number v every) h = refl
    constant_node_same (prop p) h = absurd h
    constant_node_same (element p e) h = absurd h
    constant_node_same (cell p m first second) h = absurd h
    constant_node_same (size p m) h = absurd h
    constant_node_same (script v) h = absurd h
    constant_node_same (loop_index k) h = absurd h
    constant_node_same (reduce p op body) h = absurd h
    constant_node_same (of_object o e) h = absurd h
    constant_node_same (bit_select base first low) h = absurd h
    constant_node_same (part_select base first last low) h = absurd h
    constant_node_same (unary op e) h = ap (unary op) (constant_same e h)
    constant_node_same (binary op l r) h = λ k. binary op (constant_same l h.0 k) (constant_same r h.1 k)
    constant_node_same (choice t met unmet) h = λ k. choice (constant_same t h.0 k) (constant_same met h.1 k) (constant_same unmet h.2 k)
    constant_node_same (inside l members) h = λ k. inside (constant_same l h.0 k) (constant_ranges_same members h.1 k)
    constant_node_same (join parts) h = ap join (constant_all_same parts h)
    constant_node_same (copies count parts) h = λ k. copies (constant_same count h.0 k) (constant_all_same parts h.1 k)
    constant_node_same (sign s e) h = ap (sign s) (constant_same e h)

    constant_all_same : (es : ExprTerms) → AreConstant es → renamed_all at var es ≡ es
    constant_all_same no_exprs h = refl
    constant_all_same (more_exprs e es) h = λ k. more_exprs (constant_same e h.0 k) (constant_all_same es h.1 k)

    constant_ranges_same : (rs : RangeTerms) → RangesAreConstant rs → renamed_ranges at var rs ≡ rs
    constant_ranges_same no_ranges h = refl
    constant_ranges_same (more_ranges r rs) h = λ k. more_ranges (constant_range_same r h.0 k) (constant_ranges_same rs h.1 k)

    constant_range_same : (r : RangeTerm) → RangeIsConstant r → renamed_range at var r ≡ r
    constant_range_same (one e) h = ap one (constant_same e h)
    constant_range_same (span low high) h = λ k. span (constant_bound_same low h.0 k) (constant_bound_same high h.1 k)

    constant_bound_same : (b : BoundTerm) → BoundIsConstant b → renamed_bound at var b ≡ b
    constant_bound_same (value e) h = ap value (constant_same e h)
    constant_bound_same dollar h = refl

  -- ---- stored sizes and signs stay right

  -- bounds of a part-select
  bounds_same : (first last : ExprTerm) (w : ℕ) → IsConstant first → IsConstant last → constant first -ℤ constant last +ℤ pos 1 ≡ pos w
      → IsConstant (renamed at var first) × IsConstant (renamed at var last) × (constant (renamed at var first) -ℤ constant (renamed at var last) +ℤ pos 1 ≡ pos w)
  bounds_same first last w f l h = (
    subst IsConstant (sym (constant_same first f)) f,
    subst IsConstant (sym (constant_same last l)) l,
    (λ k. constant (constant_same first f k) -ℤ constant (constant_same last l k) +ℤ pos 1) ∙ h,
  )

  -- a count of copies
  count_same : (count : ExprTerm) (parts : ExprTerms) (w : ℕ) → IsConstant count → alone blank [] count * sizes parts ≡ w → constant count ≡ pos (alone blank [] count)
      → IsConstant (renamed at var count) × (alone blank [] (renamed at var count) * sizes (renamed_all at var parts) ≡ w) × (constant (renamed at var count) ≡ pos (alone blank [] (renamed at var count)))
  count_same count parts w c many is = (
    subst IsConstant (sym (constant_same count c)) c,
    (λ k. alone blank [] (constant_same count c k) * sizes_same parts k) ∙ many,
    subst (λ (e : ExprTerm). constant e ≡ pos (alone blank [] e)) (sym (constant_same count c)) is,
  )

  mutual
    pub typed_same : (e : ExprTerm) → IsTyped e → IsTyped (renamed at var e)
    typed_same (typed w s n) h = (h.0, h.1, node_size_same w n ∙ h.2, node_sign_same s n ∙ h.3, node_typed_same w n h.4)

    node_typed_same : (w : ℕ) (n : NodeTerm) → NodeIsTyped w n → NodeIsTyped w (renamed_node at var n)
    node_typed_same w (number v every) h = h
    node_typed_same w (prop p) h = tt
    node_typed_same w (element p e) h = typed_same e h
    node_typed_same w (cell p m first second) h = (h.0, typed_same first h.1, typed_same second h.2)
    node_typed_same w (size p m) h = h
    node_typed_same w (script v) h = tt
    node_typed_same w (loop_index k) h = tt
    node_typed_same w (reduce p op body) h = typed_same body h
    node_typed_same w (of_object o e) h = typed_same e h
    node_typed_same w (bit_select base first low) h = (typed_same base h.0, typed_same first h.1)
    node_typed_same w (part_select base first last low) h =
        let bounds = bounds_same first last w h.3 h.4 h.5 in
        (typed_same base h.0, typed_same first h.1, typed_same last h.2, bounds.0, bounds.1, bounds.2)
    node_typed_same w (unary op e) h = typed_same e h
    node_typed_same w (binary op l r) h = (typed_same l h.0, typed_same r h.1)
    node_typed_same w (choice t met unmet) h = (typed_same t h.0, typed_same met h.1, typed_same unmet h.2)
    node_typed_same w (inside l members) h = (typed_same l h.0, ranges_typed_same members h.1)
    node_typed_same w (join parts) h = all_typed_same parts h
    node_typed_same w (copies count parts) h =
        let same = count_same count parts w h.1 h.3 h.4 in
        (typed_same count h.0, same.0, all_typed_same parts h.2, same.1, same.2)
    node_typed_same w (sign s e) h = typed_same e h

    all_typed_same : (es : ExprTerms) → AreTyped es → AreTyped (renamed_all at var es)
    all_typed_same no_exprs h = tt
    all_typed_same (more_exprs e es) h = (typed_same e h.0, all_typed_same es h.1)

    ranges_typed_same : (rs : RangeTerms) → RangesAreTyped rs → RangesAreTyped (renamed_ranges at var rs)
    ranges_typed_same no_ranges h = tt
    ranges_typed_same (more_ranges r rs) h = (range_typed_same r h.0, ranges_typed_same rs h.1)

    range_typed_same : (r : RangeTerm) → RangeIsTyped r → RangeIsTyped (renamed_range at var r)
    range_typed_same (one e) h = typed_same e h
    range_typed_same (span low high) h = (bound_typed_same low h.0, bound_typed_same high h.1)

    bound_typed_same : (b : BoundTerm) → BoundIsTyped b → BoundIsTyped (renamed_bound at var b)
    bound_typed_same (value e) h = typed_same e h
    bound_typed_same dollar h = tt

  -- ---- over a reading that has the same at the new numbers

  module _ (whole part : Reading) where
    -- all numbers of a property and its size
    abbrev pub SameProp : ℕ → Type 0
    SameProp p = ((i : ℕ) → part.element (at p) i ≡ whole.element p i) × (part.size (at p) ≡ whole.size p)

    abbrev pub SameVar : ℕ → Type 0
    SameVar v = part.script (var v) ≡ whole.script v

    elements_below : (p w : ℕ) → SameProp p → ((i : ℕ) → whole.element p i < 2 ^ w) → (i : ℕ) → part.element (at p) i < 2 ^ w
    elements_below p w same h i = subst (λ (n : ℕ). n < 2 ^ w) (sym (same.0 i)) (h i)

    mutual
      pub can_read : (depth : ℕ) (e : ExprTerm) → EachName SameProp SameVar e → CanRead whole depth e → CanRead part depth (renamed at var e)
      can_read depth (typed w s n) g h = node_can_read depth w n g h

      node_can_read : (depth w : ℕ) (n : NodeTerm) → EachInNode SameProp SameVar n → NodeCanRead whole depth w n → NodeCanRead part depth w (renamed_node at var n)
      node_can_read depth w (number v every) g h = tt
      node_can_read depth w (prop p) g h = elements_below p w g h
      node_can_read depth w (element p e) g h = (can_read depth e g.1 h.0, elements_below p w g.0 h.1)
      node_can_read depth w (cell p m first second) g h = (can_read depth first g.1 h.0, can_read depth second g.2 h.1, elements_below p w g.0 h.2)
      node_can_read depth w (size p m) g h = subst (λ (n : ℕ). n < 2 ^ 32) (sym g.1) h
      node_can_read depth w (script v) g h = subst (λ (n : ℕ). n < 2 ^ w) (sym g) h
      node_can_read depth w (loop_index k) g h = h
      node_can_read depth w (reduce p op body) g h = (h.0, can_read (depth + 1) body g.1 h.1)
      node_can_read depth w (of_object o e) g h = h
      node_can_read depth w (bit_select base first low) g h = (can_read depth base g.0 h.0, can_read depth first g.1 h.1)
      node_can_read depth w (part_select base first last low) g h = (can_read depth base g.0 h.0, can_read depth first g.1 h.1, can_read depth last g.2 h.2)
      node_can_read depth w (unary op e) g h = can_read depth e g h
      node_can_read depth w (binary op l r) g h = (can_read depth l g.0 h.0, can_read depth r g.1 h.1)
      node_can_read depth w (choice t met unmet) g h = (can_read depth t g.0 h.0, can_read depth met g.1 h.1, can_read depth unmet g.2 h.2)
      node_can_read depth w (inside l members) g h = (can_read depth l g.0 h.0, ranges_can_read depth members g.1 h.1)
      node_can_read depth w (join parts) g h = all_can_read depth parts g h
      node_can_read depth w (copies count parts) g h = (can_read depth count g.0 h.0, all_can_read depth parts g.1 h.1)
      node_can_read depth w (sign s e) g h = can_read depth e g h

      all_can_read : (depth : ℕ) (es : ExprTerms) → EachInAll SameProp SameVar es → AllCanRead whole depth es → AllCanRead part depth (renamed_all at var es)
      all_can_read depth no_exprs g h = tt
      all_can_read depth (more_exprs e es) g h = (can_read depth e g.0 h.0, all_can_read depth es g.1 h.1)

      ranges_can_read : (depth : ℕ) (rs : RangeTerms) → EachInRanges SameProp SameVar rs → RangesCanRead whole depth rs → RangesCanRead part depth (renamed_ranges at var rs)
      ranges_can_read depth no_ranges g h = tt
      ranges_can_read depth (more_ranges r rs) g h = (range_can_read depth r g.0 h.0, ranges_can_read depth rs g.1 h.1)

      range_can_read : (depth : ℕ) (r : RangeTerm) → EachInRange SameProp SameVar r → RangeCanRead whole depth r → RangeCanRead part depth (renamed_range at var r)
      range_can_read depth (one e) g h = can_read depth e g h
      range_can_read depth (span low high) g h = (bound_can_read depth low g.0 h.0, bound_can_read depth high g.1 h.1)

      bound_can_read : (depth : ℕ) (b : BoundTerm) → EachInBound SameProp SameVar b → BoundCanRead whole depth b → BoundCanRead part depth (renamed_bound at var b)
      bound_can_read depth (value e) g h = can_read depth e g h
      bound_can_read depth dollar g h = tt

    -- ---- values

    element_is : (p : ℕ) → SameProp p → (i : ℤ) → element_at part (at p) i ≡ element_at whole p i
    element_is p h (pos i) = h.0 i
    element_is p h (negsuc i) = refl

    cell_is : (p m : ℕ) → SameProp p → (i j : ℤ) → cell_at part (at p) m i j ≡ cell_at whole p m i j
    cell_is p m h (pos i) (pos j) = ap (λ (x : ℕ). if nat_lt j m then x else 0) (h.0 (i * m + j))
    cell_is p m h (pos i) (negsuc j) = refl
    cell_is p m h (negsuc i) j = refl

    members_are : (p w n : ℕ) (t : Bool) (v : ℕ) → SameProp p → has_element part (at p) w n t v ≡ has_element whole p w n t v
    unfolding has_element
    members_are p w n t v h = λ k. any_below (h.1 k) (λ i. v == extend_of t n w (h.0 i k))

    -- the same at each width and sign
    abbrev Everywhere : List ℕ → ExprTerm → Type 0
    Everywhere env e = (n : ℕ) (t : Bool) → val part env (renamed at var e) n t ≡ val whole env e n t

    alone_is : (env : List ℕ) (e : ExprTerm) → Everywhere env e → alone part env (renamed at var e) ≡ alone whole env e
    alone_is env e all = (λ k. val part env (renamed at var e) (size_same e k) (sign_same e k)) ∙ all (size_of e) (sign_of e)

    index_is : (env : List ℕ) (e : ExprTerm) → Everywhere env e
        → read_of (sign_of (renamed at var e)) (size_of (renamed at var e)) (alone part env (renamed at var e)) ≡ read_of (sign_of e) (size_of e) (alone whole env e)
    index_is env e all = λ k. read_of (sign_same e k) (size_same e k) (alone_is env e all k)

    -- at the width and the sign of two operands
    pair_is : (env : List ℕ) (e l r : ExprTerm) → Everywhere env e
        → val part env (renamed at var e) (max (size_of (renamed at var l)) (size_of (renamed at var r))) (sign_of (renamed at var l) && sign_of (renamed at var r))
        ≡ val whole env e (max (size_of l) (size_of r)) (sign_of l && sign_of r)
    pair_is env e l r all = (λ k. val part env (renamed at var e) (max (size_same l k) (size_same r k)) (sign_same l k && sign_same r k)) ∙ all (max (size_of l) (size_of r)) (sign_of l && sign_of r)

    operand_is : (env : List ℕ) (e : ExprTerm) → Everywhere env e → operand_of part env (renamed at var e) ≡ operand_of whole env e
    operand_is env e all = λ k. record { size = size_same e k; sign = sign_same e k; value = λ n t. all n t k }

    -- a member of a set that is a property stands for its elements
    member_is : (env : List ℕ) (x y : Operand) → x ≡ y → (w : ℕ) (s : Bool) (n : NodeTerm) → EachInNode SameProp SameVar n
        → operand_of part env (typed w s (renamed_node at var n)) ≡ operand_of whole env (typed w s n)
        → equals_member part x (node_property (renamed_node at var n)) (operand_of part env (typed w s (renamed_node at var n))) ≡ equals_member whole y (node_property n) (operand_of whole env (typed w s n))
    member_is env x y q w s (number v every) h same = λ k. are_equal (q k) (same k)
    member_is env x y q w s (prop p) h same =
        members_are p w (max x.size w) (x.sign && s) (x.value (max x.size w) (x.sign && s)) h
        ∙ ap (λ (z : Operand). has_element whole p w (max z.size w) (z.sign && s) (z.value (max z.size w) (z.sign && s))) q
    member_is env x y q w s (element p e) h same = λ k. are_equal (q k) (same k)
    member_is env x y q w s (cell p m first second) h same = λ k. are_equal (q k) (same k)
    member_is env x y q w s (size p m) h same = λ k. are_equal (q k) (same k)
    member_is env x y q w s (script v) h same = λ k. are_equal (q k) (same k)
    member_is env x y q w s (loop_index i) h same = λ k. are_equal (q k) (same k)
    member_is env x y q w s (reduce p op body) h same = λ k. are_equal (q k) (same k)
    member_is env x y q w s (of_object o e) h same = λ k. are_equal (q k) (same k)
    member_is env x y q w s (bit_select base first low) h same = λ k. are_equal (q k) (same k)
    member_is env x y q w s (part_select base first last low) h same = λ k. are_equal (q k) (same k)
    member_is env x y q w s (unary op e) h same = λ k. are_equal (q k) (same k)
    member_is env x y q w s (binary op l r) h same = λ k. are_equal (q k) (same k)
    member_is env x y q w s (choice t met unmet) h same = λ k. are_equal (q k) (same k)
    member_is env x y q w s (inside l rs) h same = λ k. are_equal (q k) (same k)
    member_is env x y q w s (join parts) h same = λ k. are_equal (q k) (same k)
    member_is env x y q w s (copies count parts) h same = λ k. are_equal (q k) (same k)
    member_is env x y q w s (sign as_signed e) h same = λ k. are_equal (q k) (same k)

    mutual
      pub value_same : (env : List ℕ) (e : ExprTerm) → EachName SameProp SameVar e → (w : ℕ) (s : Bool) → val part env (renamed at var e) w s ≡ val whole env e w s
      value_same env (typed from signed n) h w s = node_value_same env from signed n h w s

      node_value_same : (env : List ℕ) (from : ℕ) (signed : Bool) (n : NodeTerm) → EachInNode SameProp SameVar n → (w : ℕ) (s : Bool)
          → node_val part env from signed (renamed_node at var n) w s ≡ node_val whole env from signed n w s
      node_value_same env from signed (number v every) h w s = refl
      node_value_same env from signed (prop p) h w s = ap (extend_of s w from) (h.0 0)
      node_value_same env from signed (element p e) h w s =
          let index = index_is env e (value_same env e h.1) in
          ap (extend_of s w from) (ap (element_at part (at p)) index ∙ element_is p h.0 (read_of (sign_of e) (size_of e) (alone whole env e)))
      node_value_same env from signed (cell p m first second) h w s =
          let outer = index_is env first (value_same env first h.1) in
          let inner = index_is env second (value_same env second h.2) in
          ap (extend_of s w from)
          ((λ k. cell_at part (at p) m (outer k) (inner k))
          ∙ cell_is p m h.0 (read_of (sign_of first) (size_of first) (alone whole env first)) (read_of (sign_of second) (size_of second) (alone whole env second)))
      node_value_same env from signed (size p m) h w s = ap (λ (n : ℕ). extend_of s w 32 (n / m)) h.1
      node_value_same env from signed (script v) h w s = ap (extend_of s w from) h
      node_value_same env from signed (loop_index i) h w s = refl
      node_value_same env from signed (reduce p op body) h w s =
          λ k. extend_of s w (size_same body k) (fold_of op (size_same body k) (h.0.1 k) (λ i. alone_is (env ++ i ∷ []) body (value_same (env ++ i ∷ []) body h.1) k))
      node_value_same env from signed (of_object o e) h w s = value_same env e h w s
      node_value_same env from signed (bit_select base first low) h w s =
          λ k. extend_of s w 1 (bits_from (index_is env first (value_same env first h.1) k -ℤ low) 1 (alone_is env base (value_same env base h.0) k))
      node_value_same env from signed (part_select base first last low) h w s =
          λ k. extend_of s w from (bits_from (index_is env last (value_same env last h.2) k -ℤ low) from (alone_is env base (value_same env base h.0) k))
      node_value_same env from signed (unary op e) h w s =
          λ k. unary_val (unary_kind op) w s (size_same e k) (value_same env e h w s k) (alone_is env e (value_same env e h) k)
      node_value_same env from signed (binary op l r) h w s =
          λ k. binary_val (binary_kind op) w s (max (size_same l k) (size_same r k)) (sign_same l k && sign_same r k)
          (value_same env l h.0 w s k) (value_same env r h.1 w s k) (pair_is env l l r (value_same env l h.0) k) (pair_is env r l r (value_same env r h.1) k)
          (alone_is env l (value_same env l h.0) k) (alone_is env r (value_same env r h.1) k)
      node_value_same env from signed (choice t met unmet) h w s =
          λ k. if is_set (alone_is env t (value_same env t h.0) k) then value_same env met h.1 w s k else value_same env unmet h.2 w s k
      node_value_same env from signed (inside l rs) h w s =
          ap (truth w s) (some_same env (operand_of part env (renamed at var l)) (operand_of whole env l) (operand_is env l (value_same env l h.0)) rs h.1)
      node_value_same env from signed (join parts) h w s = λ k. extend_of s w (sizes_same parts k) (joined_same env parts h k)
      node_value_same env from signed (copies count parts) h w s =
          λ k. extend_of s w from (copied (alone_is env count (value_same env count h.0) k) (sizes_same parts k) (joined_same env parts h.1 k))
      node_value_same env from signed (sign as_signed e) h w s = λ k. extend_of s w (size_same e k) (alone_is env e (value_same env e h) k)

      joined_same : (env : List ℕ) (es : ExprTerms) → EachInAll SameProp SameVar es → joined part env (renamed_all at var es) ≡ joined whole env es
      joined_same env no_exprs h = refl
      joined_same env (more_exprs e es) h = λ k. alone_is env e (value_same env e h.0) k * 2 ^ sizes_same es k + joined_same env es h.1 k

      some_same : (env : List ℕ) (x y : Operand) → x ≡ y → (rs : RangeTerms) → EachInRanges SameProp SameVar rs → fits_some part env x (renamed_ranges at var rs) ≡ fits_some whole env y rs
      some_same env x y q no_ranges h = refl
      some_same env x y q (more_ranges r rs) h = λ k. range_same env x y q r h.0 k || some_same env x y q rs h.1 k

      range_same : (env : List ℕ) (x y : Operand) → x ≡ y → (r : RangeTerm) → EachInRange SameProp SameVar r → fits part env x (renamed_range at var r) ≡ fits whole env y r
      range_same env x y q (one (typed from signed n)) h =
          member_is env x y q from signed n h (λ k. record { size = node_size_same from n k; sign = node_sign_same signed n k; value = λ m t. node_value_same env from signed n h m t k })
      range_same env x y q (span low high) h = λ k. from_same env x y q low h.0 k && up_to_same env x y q high h.1 k

      from_same : (env : List ℕ) (x y : Operand) → x ≡ y → (b : BoundTerm) → EachInBound SameProp SameVar b → is_from part env x (renamed_bound at var b) ≡ is_from whole env y b
      from_same env x y q (value e) h = λ k. not (is_below (q k) (operand_is env e (value_same env e h) k))
      from_same env x y q dollar h = refl

      up_to_same : (env : List ℕ) (x y : Operand) → x ≡ y → (b : BoundTerm) → EachInBound SameProp SameVar b → is_up_to part env x (renamed_bound at var b) ≡ is_up_to whole env y b
      up_to_same env x y q (value e) h = λ k. not (is_below (operand_is env e (value_same env e h) k) (q k))
      up_to_same env x y q dollar h = refl
