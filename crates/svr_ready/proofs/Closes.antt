-- A closed expression is typed, can be read without a loop around it, and stands in the frame, where the one that it was made of is and does so inside its loops.
use Rattle.std.proofs.Common.{◌≡◌, ◌<◌, ◌≤◌, ◌^◌, ℕ, zero, suc, ◌+◌, ◌-◌, ◌*◌, Bool, true, false, not, ◌&&◌, refl, sym, ◌∙◌, ap, subst, List, [], ◌∷◌, arith}
use Rattle.std.specs.Prelude.{⊤, nat_lt, if◌then◌else◌}
use Rattle.std.proofs.lemmas.Bool.{ltb-true, ltb-false}
use Rattle.svr_limits.specs.declared.limit.TheConstants.{LOOP_LIMIT}
use Rattle.svr_typed.specs.ExprTerm.{ExprTerm, typed, NodeTerm, number, prop, element, cell, size, script, loop_index, reduce, of_object, bit_select, part_select, unary, binary, choice, inside, join, copies, sign, ExprTerms, no_exprs, more_exprs, RangeTerm, one, span, RangeTerms, no_ranges, more_ranges, BoundTerm, value, dollar}
use Rattle.svr_eval.specs.Reading.{Reading, blank}
use Rattle.svr_eval.specs.Value.{index_of, alone}
use Rattle.svr_eval.specs.Typed.{IsConstant, NodeIsConstant, AreConstant, RangesAreConstant, RangeIsConstant, BoundIsConstant, IsTyped, NodeIsTyped, AreTyped, RangesAreTyped, RangeIsTyped, BoundIsTyped, CanRead, NodeCanRead, AllCanRead, RangesCanRead, RangeCanRead, BoundCanRead}
use Rattle.svr_frame.specs.Frame.{FrameTerm, state_sizes, is_random}
use Rattle.svr_frame.specs.Reads.{Read, property_read, is_size_read}
use Rattle.svr_frame.specs.Phases.{shape_at}
use Rattle.svr_frame.specs.Closed.{index_number, closed_within, closed_node, closed_exprs, closed_ranges, closed_range, closed_bound}
use Rattle.svr_frame.specs.Sound.{ExprIsIn, NodeIsIn, ExprsAreIn, RangesAreIn, RangeIsIn, BoundIsIn, stands_still}
use Rattle.svr_frame.proofs.Closing.{size_closed, sizes_closed, sign_closed}
use Rattle.svr_frame.proofs.Blind.{any_reads}

-- ---- constants have no loop variable

module _ (env : List ℕ) where
  mutual
    constant_closed : (own : ℕ) (e : ExprTerm) → IsConstant e → closed_within env own e ≡ e
    constant_closed own (typed w s n) h = constant_node own w s n h

    constant_node : (own w : ℕ) (s : Bool) (n : NodeTerm) → NodeIsConstant n → closed_node env own w s n ≡ typed w s n
    constant_node own w s (number v every) h = refl
    constant_node own w s (prop p) h = absurd h
    constant_node own w s (element p e) h = absurd h
    constant_node own w s (cell p m first second) h = absurd h
    constant_node own w s (size p m) h = absurd h
    constant_node own w s (script v) h = absurd h
    constant_node own w s (loop_index k) h = absurd h
    constant_node own w s (reduce p op body) h = absurd h
    constant_node own w s (of_object o e) h = absurd h
    constant_node own w s (bit_select base first low) h = absurd h
    constant_node own w s (part_select base first last low) h = absurd h
    constant_node own w s (unary op e) h = λ i. typed w s (unary op (constant_closed own e h i))
    constant_node own w s (binary op l r) h = λ i. typed w s (binary op (constant_closed own l h.0 i) (constant_closed own r h.1 i))
    constant_node own w s (choice t met unmet) h = λ i. typed w s (choice (constant_closed own t h.0 i) (constant_closed own met h.1 i) (constant_closed own unmet h.2 i))
    constant_node own w s (inside l rs) h = λ i. typed w s (inside (constant_closed own l h.0 i) (constant_ranges own rs h.1 i))
    constant_node own w s (join parts) h = λ i. typed w s (join (constant_exprs own parts h i))
    constant_node own w s (copies count parts) h = λ i. typed w s (copies (constant_closed own count h.0 i) (constant_exprs own parts h.1 i))
    constant_node own w s (sign as_signed e) h = λ i. typed w s (sign as_signed (constant_closed own e h i))

    constant_exprs : (own : ℕ) (es : ExprTerms) → AreConstant es → closed_exprs env own es ≡ es
    constant_exprs own no_exprs h = refl
    constant_exprs own (more_exprs e es) h = λ i. more_exprs (constant_closed own e h.0 i) (constant_exprs own es h.1 i)

    constant_ranges : (own : ℕ) (rs : RangeTerms) → RangesAreConstant rs → closed_ranges env own rs ≡ rs
    constant_ranges own no_ranges h = refl
    constant_ranges own (more_ranges r rs) h = λ i. more_ranges (constant_range own r h.0 i) (constant_ranges own rs h.1 i)

    constant_range : (own : ℕ) (r : RangeTerm) → RangeIsConstant r → closed_range env own r ≡ r
    constant_range own (one e) h = λ i. one (constant_closed own e h i)
    constant_range own (span low high) h = λ i. span (constant_bound own low h.0 i) (constant_bound own high h.1 i)

    constant_bound : (own : ℕ) (b : BoundTerm) → BoundIsConstant b → closed_bound env own b ≡ b
    constant_bound own (value e) h = λ i. value (constant_closed own e h i)
    constant_bound own dollar h = refl

  -- ---- sizes and signs are stored right, where the indexes are ints

  module _ (small : (k : ℕ) → index_of env k < 2 ^ 32) where
    loop_typed : (c : Bool) (w : ℕ) (s : Bool) (k i : ℕ) → IsTyped (typed w s (loop_index k)) → i < 2 ^ 32 → IsTyped (if c then typed w s (loop_index k) else index_number i)
    loop_typed true w s k i h lt = h
    loop_typed false w s k i h lt = (omega arith, omega arith, refl, refl, lt)

    mutual
      pub typed_closed : (own : ℕ) (e : ExprTerm) → IsTyped e → IsTyped (closed_within env own e)
      typed_closed own (typed w s (number v every)) h = h
      typed_closed own (typed w s (prop p)) h = h
      typed_closed own (typed w s (element p e)) h = (h.0, h.1, h.2, h.3, typed_closed own e h.4)
      typed_closed own (typed w s (cell p m first second)) h = (h.0, h.1, h.2, h.3, (h.4.0, typed_closed own first h.4.1, typed_closed own second h.4.2))
      typed_closed own (typed w s (size p m)) h = h
      typed_closed own (typed w s (script v)) h = h
      typed_closed own (typed w s (loop_index k)) h = loop_typed (nat_lt k own) w s k (index_of env (k - own)) h (small (k - own))
      typed_closed own (typed w s (reduce p op body)) h =
          (h.0, h.1, size_closed env own (typed w s (reduce p op body)) ∙ h.2, sign_closed env own (typed w s (reduce p op body)) ∙ h.3, typed_closed (suc own) body h.4)
      typed_closed own (typed w s (of_object o e)) h =
          (h.0, h.1, size_closed env own (typed w s (of_object o e)) ∙ h.2, sign_closed env own (typed w s (of_object o e)) ∙ h.3, typed_closed own e h.4)
      typed_closed own (typed w s (bit_select base first low)) h = (h.0, h.1, h.2, h.3, (typed_closed own base h.4.0, typed_closed own first h.4.1))
      typed_closed own (typed w s (part_select base first last low)) h =
          subst (λ (x : ExprTerm). IsTyped (typed w s (part_select (closed_within env own base) x (closed_within env own last) low))) (sym (constant_closed own first h.4.3))
          (subst (λ (x : ExprTerm). IsTyped (typed w s (part_select (closed_within env own base) first x low))) (sym (constant_closed own last h.4.4))
          (h.0, h.1, h.2, h.3, (typed_closed own base h.4.0, h.4.1, h.4.2, h.4.3, h.4.4, h.4.5)))
      typed_closed own (typed w s (unary op e)) h =
          (h.0, h.1, size_closed env own (typed w s (unary op e)) ∙ h.2, sign_closed env own (typed w s (unary op e)) ∙ h.3, typed_closed own e h.4)
      typed_closed own (typed w s (binary op l r)) h =
          (h.0, h.1, size_closed env own (typed w s (binary op l r)) ∙ h.2, sign_closed env own (typed w s (binary op l r)) ∙ h.3, (typed_closed own l h.4.0, typed_closed own r h.4.1))
      typed_closed own (typed w s (choice t met unmet)) h =
          (h.0, h.1, size_closed env own (typed w s (choice t met unmet)) ∙ h.2, sign_closed env own (typed w s (choice t met unmet)) ∙ h.3, (typed_closed own t h.4.0, typed_closed own met h.4.1, typed_closed own unmet h.4.2))
      typed_closed own (typed w s (inside l rs)) h = (h.0, h.1, h.2, h.3, (typed_closed own l h.4.0, ranges_typed own rs h.4.1))
      typed_closed own (typed w s (join parts)) h = (h.0, h.1, sizes_closed env own parts ∙ h.2, h.3, all_typed own parts h.4)
      typed_closed own (typed w s (copies count parts)) h =
          subst (λ (x : ExprTerm). IsTyped (typed w s (copies x (closed_exprs env own parts)))) (sym (constant_closed own count h.4.1))
          (h.0, h.1, h.2, h.3, (h.4.0, h.4.1, all_typed own parts h.4.2, ap (λ k. alone blank [] count * k) (sizes_closed env own parts) ∙ h.4.3, h.4.4))
      typed_closed own (typed w s (sign as_signed e)) h = (h.0, h.1, size_closed env own (typed w s (sign as_signed e)) ∙ h.2, h.3, typed_closed own e h.4)

      all_typed : (own : ℕ) (es : ExprTerms) → AreTyped es → AreTyped (closed_exprs env own es)
      all_typed own no_exprs h = tt
      all_typed own (more_exprs e es) h = (typed_closed own e h.0, all_typed own es h.1)

      ranges_typed : (own : ℕ) (rs : RangeTerms) → RangesAreTyped rs → RangesAreTyped (closed_ranges env own rs)
      ranges_typed own no_ranges h = tt
      ranges_typed own (more_ranges r rs) h = (range_typed own r h.0, ranges_typed own rs h.1)

      pub range_typed : (own : ℕ) (r : RangeTerm) → RangeIsTyped r → RangeIsTyped (closed_range env own r)
      range_typed own (one e) h = typed_closed own e h
      range_typed own (span low high) h = (bound_typed own low h.0, bound_typed own high h.1)

      bound_typed : (own : ℕ) (b : BoundTerm) → BoundIsTyped b → BoundIsTyped (closed_bound env own b)
      bound_typed own (value e) h = typed_closed own e h
      bound_typed own dollar h = tt

  -- ---- what is read, with the loops of the expression's own reductions alone around it

  module _ (a : Reading) where
    loop_reads : (w : ℕ) (s : Bool) (k i own : ℕ) (c : Bool) → nat_lt k own ≡ c → CanRead a own (if c then typed w s (loop_index k) else index_number i)
    loop_reads w s k i own true e = ltb-true k own e
    loop_reads w s k i own false e = tt

    mutual
      pub reads_closed : (depth own : ℕ) → own ≤ depth → (e : ExprTerm) → CanRead a depth e → CanRead a own (closed_within env own e)
      reads_closed depth own le (typed w s (number v every)) h = tt
      reads_closed depth own le (typed w s (prop p)) h = h
      reads_closed depth own le (typed w s (element p e)) h = (reads_closed depth own le e h.0, h.1)
      reads_closed depth own le (typed w s (cell p m first second)) h = (reads_closed depth own le first h.0, reads_closed depth own le second h.1, h.2)
      reads_closed depth own le (typed w s (size p m)) h = h
      reads_closed depth own le (typed w s (script v)) h = h
      reads_closed depth own le (typed w s (loop_index k)) h = loop_reads w s k (index_of env (k - own)) own (nat_lt k own) refl
      reads_closed depth own le (typed w s (reduce p op body)) h =
          (omega (arith, le, h.0), subst (λ (d : ℕ). CanRead a d (closed_within env (suc own) body)) (let e : suc own ≡ own + 1 = omega arith in e) (reads_closed (depth + 1) (suc own) (omega (arith, le)) body h.1))
      reads_closed depth own le (typed w s (of_object o e)) h = absurd h
      reads_closed depth own le (typed w s (bit_select base first low)) h = (reads_closed depth own le base h.0, reads_closed depth own le first h.1)
      reads_closed depth own le (typed w s (part_select base first last low)) h = (reads_closed depth own le base h.0, reads_closed depth own le first h.1, reads_closed depth own le last h.2)
      reads_closed depth own le (typed w s (unary op e)) h = reads_closed depth own le e h
      reads_closed depth own le (typed w s (binary op l r)) h = (reads_closed depth own le l h.0, reads_closed depth own le r h.1)
      reads_closed depth own le (typed w s (choice t met unmet)) h = (reads_closed depth own le t h.0, reads_closed depth own le met h.1, reads_closed depth own le unmet h.2)
      reads_closed depth own le (typed w s (inside l rs)) h = (reads_closed depth own le l h.0, ranges_read depth own le rs h.1)
      reads_closed depth own le (typed w s (join parts)) h = all_read depth own le parts h
      reads_closed depth own le (typed w s (copies count parts)) h = (reads_closed depth own le count h.0, all_read depth own le parts h.1)
      reads_closed depth own le (typed w s (sign as_signed e)) h = reads_closed depth own le e h

      all_read : (depth own : ℕ) → own ≤ depth → (es : ExprTerms) → AllCanRead a depth es → AllCanRead a own (closed_exprs env own es)
      all_read depth own le no_exprs h = tt
      all_read depth own le (more_exprs e es) h = (reads_closed depth own le e h.0, all_read depth own le es h.1)

      ranges_read : (depth own : ℕ) → own ≤ depth → (rs : RangeTerms) → RangesCanRead a depth rs → RangesCanRead a own (closed_ranges env own rs)
      ranges_read depth own le no_ranges h = tt
      ranges_read depth own le (more_ranges r rs) h = (range_read depth own le r h.0, ranges_read depth own le rs h.1)

      pub range_read : (depth own : ℕ) → own ≤ depth → (r : RangeTerm) → RangeCanRead a depth r → RangeCanRead a own (closed_range env own r)
      range_read depth own le (one e) h = reads_closed depth own le e h
      range_read depth own le (span low high) h = (bound_read depth own le low h.0, bound_read depth own le high h.1)

      bound_read : (depth own : ℕ) → own ≤ depth → (b : BoundTerm) → BoundCanRead a depth b → BoundCanRead a own (closed_bound env own b)
      bound_read depth own le (value e) h = reads_closed depth own le e h
      bound_read depth own le dollar h = tt

  -- ---- it stands in the frame

  module _ (f : FrameTerm) where
    still_closed : (own : ℕ) (e : ExprTerm) → stands_still f e ≡ true → stands_still f (closed_within env own e) ≡ true
    still_closed own e h =
        ap not (any_reads (shape_at f (state_sizes f)) (shape_at f (state_sizes f)) (λ p. refl) (λ (r : Read). not (is_size_read r) && is_random f (property_read r)) (λ p x y u v. refl, λ p m x y u v u' v'. refl) env [] [] own e) ∙ h

    loop_in : (whole : Bool) (c : Bool) (w : ℕ) (s : Bool) (k i : ℕ) → ExprIsIn f whole (if c then typed w s (loop_index k) else index_number i)
    loop_in whole true w s k i = tt
    loop_in whole false w s k i = tt

    mutual
      pub in_closed : (own : ℕ) (whole : Bool) (e : ExprTerm) → ExprIsIn f whole e → ExprIsIn f whole (closed_within env own e)
      in_closed own whole (typed w s (number v every)) h = tt
      in_closed own whole (typed w s (prop p)) h = h
      in_closed own whole (typed w s (element p e)) h = (h.0, h.1, in_closed own false e h.2)
      in_closed own whole (typed w s (cell p m first second)) h = (h.0, h.1, h.2, in_closed own false first h.3, in_closed own false second h.4)
      in_closed own whole (typed w s (size p m)) h = h
      in_closed own whole (typed w s (script v)) h = h
      in_closed own whole (typed w s (loop_index k)) h = loop_in whole (nat_lt k own) w s k (index_of env (k - own))
      in_closed own whole (typed w s (reduce p op body)) h = (h.0, h.1, in_closed (suc own) false body h.2)
      in_closed own whole (typed w s (of_object o e)) h = absurd h
      in_closed own whole (typed w s (bit_select base first low)) h = (in_closed own false base h.0, in_closed own false first h.1, still_closed own first h.2)
      in_closed own whole (typed w s (part_select base first last low)) h = (in_closed own false base h.0, in_closed own false first h.1, in_closed own false last h.2)
      in_closed own whole (typed w s (unary op e)) h = in_closed own false e h
      in_closed own whole (typed w s (binary op l r)) h = (in_closed own false l h.0, in_closed own false r h.1)
      in_closed own whole (typed w s (choice t met unmet)) h = (in_closed own false t h.0, in_closed own false met h.1, in_closed own false unmet h.2)
      in_closed own whole (typed w s (inside l rs)) h = (in_closed own false l h.0, ranges_in own rs h.1)
      in_closed own whole (typed w s (join parts)) h = all_in own false parts h
      in_closed own whole (typed w s (copies count parts)) h = (in_closed own false count h.0, all_in own false parts h.1)
      in_closed own whole (typed w s (sign as_signed e)) h = in_closed own false e h

      all_in : (own : ℕ) (whole : Bool) (es : ExprTerms) → ExprsAreIn f whole es → ExprsAreIn f whole (closed_exprs env own es)
      all_in own whole no_exprs h = tt
      all_in own whole (more_exprs e es) h = (in_closed own whole e h.0, all_in own whole es h.1)

      ranges_in : (own : ℕ) (rs : RangeTerms) → RangesAreIn f rs → RangesAreIn f (closed_ranges env own rs)
      ranges_in own no_ranges h = tt
      ranges_in own (more_ranges r rs) h = (range_in own true r h.0, ranges_in own rs h.1)

      pub range_in : (own : ℕ) (whole : Bool) (r : RangeTerm) → RangeIsIn f whole r → RangeIsIn f whole (closed_range env own r)
      range_in own whole (one e) h = in_closed own whole e h
      range_in own whole (span low high) h = (bound_in own low h.0, bound_in own high h.1)

      bound_in : (own : ℕ) (b : BoundTerm) → BoundIsIn f b → BoundIsIn f (closed_bound env own b)
      bound_in own (value e) h = in_closed own false e h
      bound_in own dollar h = tt
