-- The numbers that constants are.
use Rattle.std.proofs.Common.{◌≡◌, ℕ, ◌≤◌, ◌<◌, ◌^◌, ◌-◌, suc, ℤ, pos, negsuc, Bool, true, false, cond, nat_lt, [], refl, sym, ap, subst, ◌∙◌, arith}
use Rattle.std.specs.Prelude.{◌≤ℤ◌, ◌<ℤ◌}
use Rattle.std.proofs.lemmas.Int.{ints}
use Rattle.std.proofs.Math.Pow.{pow_mono}
use Rattle.svr_num.specs.Num.{read_of, signed_of}
use Rattle.svr_typed.specs.ExprTerm.{ExprTerm, typed, NodeTerm, number, prop, element, cell, size, script, loop_index, reduce, of_object, bit_select, part_select, unary, binary, choice, inside, join, copies, sign, ExprTerms, no_exprs, more_exprs, RangeTerm, one, span, RangeTerms, no_ranges, more_ranges, BoundTerm, value, dollar}
use Rattle.svr_typed.specs.declared.expr.TExpr.{TExpr, fold_out-TExpr}
use Rattle.svr_typed.specs.ExprTerm.{expr_term, node_term, bound_step, node_step, range_step, expr_step}
use Rattle.svr_eval.specs.Reading.{Reading, blank}
use Rattle.svr_eval.specs.Value.{alone, size_of, sign_of}
use Rattle.svr_eval.specs.Typed.{IsTyped, IsConstant, NodeIsConstant, AreConstant, RangesAreConstant, RangeIsConstant, BoundIsConstant, constant, CanRead, NodeCanRead, AllCanRead, RangesCanRead, RangeCanRead, BoundCanRead}
use Rattle.svr_elab_part.specs.Shapes.{stored_sign}

-- ---- at most 64 bits

signed_low : (w n : ℕ) (b : Bool) → 2 ^ w ≤ 2 ^ 64 → negsuc (2 ^ 64) ≤ℤ cond b (pos n) (negsuc (2 ^ w - suc n))
signed_low w n true h = grind (arith, ints)
signed_low w n false h = grind (arith, ints, h)

pub read_low : (s : Bool) (w n : ℕ) → w ≤ 64 → negsuc (2 ^ 64) ≤ℤ read_of s w n
read_low true w n h = signed_low w n (nat_lt n (2 ^ (w - 1))) (pow_mono h)
read_low false w n h = grind (arith, ints)

signed_high : (w n : ℕ) (b : Bool) → n < 2 ^ w → 2 ^ w ≤ 2 ^ 64 → cond b (pos n) (negsuc (2 ^ w - suc n)) <ℤ pos (2 ^ 64)
signed_high w n true k h = grind (arith, ints, k, h)
signed_high w n false k h = grind (arith, ints)

pub read_high : (s : Bool) (w n : ℕ) → w ≤ 64 → n < 2 ^ w → read_of s w n <ℤ pos (2 ^ 64)
read_high true w n h k = signed_high w n (nat_lt n (2 ^ (w - 1))) k (pow_mono h)
read_high false w n h k = let m : 2 ^ w ≤ 2 ^ 64 = pow_mono h in grind (arith, ints, m, k)

-- ---- a constant reads nothing

module _ (a : Reading) where
  mutual
    pub reads_nothing : (depth : ℕ) → (e : ExprTerm) → IsConstant e → CanRead a depth e
    reads_nothing d (typed w s n) h = node_reads d w n h

    node_reads : (depth w : ℕ) (n : NodeTerm) → NodeIsConstant n → NodeCanRead a depth w n
    node_reads d w (number v every) h = h
    node_reads d w (prop p) h = absurd h
    node_reads d w (element p e) h = absurd h
    node_reads d w (cell p m i j) h = absurd h
    node_reads d w (size p m) h = absurd h
    node_reads d w (script v) h = absurd h
    node_reads d w (loop_index k) h = absurd h
    node_reads d w (reduce p op body) h = absurd h
    node_reads d w (of_object o e) h = absurd h
    node_reads d w (bit_select base first low) h = absurd h
    node_reads d w (part_select base first last low) h = absurd h
    node_reads d w (unary op e) h = reads_nothing d e h
    node_reads d w (binary op l r) h = (reads_nothing d l h.0, reads_nothing d r h.1)
    node_reads d w (choice t met unmet) h = (reads_nothing d t h.0, reads_nothing d met h.1, reads_nothing d unmet h.2)
    node_reads d w (inside l members) h = (reads_nothing d l h.0, ranges_read d members h.1)
    node_reads d w (join parts) h = all_read d parts h
    node_reads d w (copies count parts) h = (reads_nothing d count h.0, all_read d parts h.1)
    node_reads d w (sign signed e) h = reads_nothing d e h

    all_read : (depth : ℕ) → (es : ExprTerms) → AreConstant es → AllCanRead a depth es
    all_read d no_exprs h = h
    all_read d (more_exprs e es) h = (reads_nothing d e h.0, all_read d es h.1)

    ranges_read : (depth : ℕ) → (rs : RangeTerms) → RangesAreConstant rs → RangesCanRead a depth rs
    ranges_read d no_ranges h = h
    ranges_read d (more_ranges r rs) h = (range_reads d r h.0, ranges_read d rs h.1)

    range_reads : (depth : ℕ) → (r : RangeTerm) → RangeIsConstant r → RangeCanRead a depth r
    range_reads d (one e) h = reads_nothing d e h
    range_reads d (span low high) h = (bound_reads d low h.0, bound_reads d high h.1)

    bound_reads : (depth : ℕ) → (b : BoundTerm) → BoundIsConstant b → BoundCanRead a depth b
    bound_reads d (value e) h = reads_nothing d e h
    bound_reads d dollar h = h

pub small : (e : ExprTerm) → IsTyped e → size_of e ≤ 64
small (typed w s n) h = omega (arith, h.1, h.2)

-- the number that the value of a constant reads as, by the sign that is written at it
pub number_is : (e : ExprTerm) (s : Bool) (v m : ℕ) → sign_of e ≡ s → v ≡ alone blank [] e → m ≡ size_of e → read_of s m v ≡ constant e
number_is e s v m h k is =
    ap (λ t. read_of t m v) (sym h) ∙ ap (λ n. read_of (sign_of e) n v) is ∙ ap (read_of (sign_of e) (size_of e)) k

pub own_sign : (e : ExprTerm) (w : ℕ) (s : Bool) (n : NodeTerm) → e ≡ typed w s n → IsTyped e → sign_of e ≡ s
own_sign e w s n h t = let P : ExprTerm → Type 0 = IsTyped in ap sign_of h ∙ (subst P h t).3

pub stored : (t : TExpr) → expr_term t ≡ typed t.width t.signed (node_term t.node)
stored t = fold_out-TExpr BoundTerm NodeTerm RangeTerm ExprTerm bound_step node_step range_step expr_step t

pub sign_stored : (t : TExpr) → stored_sign (expr_term t) ≡ t.signed
sign_stored t = ap stored_sign (stored t)
