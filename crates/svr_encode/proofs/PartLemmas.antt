-- Parts that are the same as earlier ones
use Rattle.std.proofs.Common.{◌≡◌, ℕ, zero, suc, ◌+◌, ◌<◌, Bool, List, [], ◌∷◌, ◌++◌, length, map, get_or, None, Some, refl, sym, ap, ◌∙◌, subst, arith, append_assoc, drop, drop-cons, add-one, Vec, Global}
use Rattle.std.specs.Prelude.{Result, Ok, Err, IfOk}
use Rattle.svr_typed.specs.declared.expr.TExpr.{TExpr}
use Rattle.svr_typed.specs.declared.expr.TRange.{TRange}
use Rattle.svr_typed.specs.ExprTerm.{ExprTerm, NodeTerm, expr_term, expr_terms, node_term, range_term, range_terms}
use Rattle.svr_eval.specs.Typed.{IsTyped, AreTyped, RangeIsTyped, RangesAreTyped}
use Rattle.svr_encode.specs.declared.part.Part.{Part}
use Rattle.svr_encode.specs.Parts.{PartTerm, part_term, alone_part, alone_parts, body_parts, range_parts, set_parts, node_parts, parts_of, IsRepeat, AreRepeats}
use Rattle.svr_encode.proofs.TreeLemmas.{stored}

pub no_repeat : (before : List PartTerm) (p : Part) → p.same ≡ None → IsRepeat before p
no_repeat before p h = record { earlier = λ k e. cc }

nothing_more : (xs : List PartTerm) → xs ++ [] ≡ xs
nothing_more [] = refl
nothing_more (x ∷ xs) = ap (λ ys. x ∷ ys) (nothing_more xs)

next : (before : List PartTerm) (p : PartTerm) (ps : List PartTerm) → before ++ p ∷ ps ≡ (before ++ p ∷ []) ++ ps
next [] p ps = refl
next (b ∷ before) p ps = ap (λ ys. b ∷ ys) (next before p ps)

pub repeats_more : (before : List PartTerm) (ps : List Part) (p : Part) → AreRepeats before ps → IsRepeat (before ++ map part_term ps) p → AreRepeats before (ps ++ p ∷ [])
repeats_more before [] p h r = (subst (λ (ts : List PartTerm). IsRepeat ts p) (nothing_more before) r, tt)
repeats_more before (q ∷ ps) p h r =
    (h.0, repeats_more (before ++ part_term q ∷ []) ps p h.1 (subst (λ (ts : List PartTerm). IsRepeat ts p) (next before (part_term q) (map part_term ps)) r))

pub in_front : (xs ys : List PartTerm) (k : ℕ) (d : PartTerm) → k < length xs → get_or (xs ++ ys) k d ≡ get_or xs k d
in_front [] ys k d h = absurd (omega arith)
in_front (x ∷ xs) ys zero d h = refl
in_front (x ∷ xs) ys (suc k) d h = in_front xs ys k d (omega arith)

pub one_longer : (xs : List PartTerm) (x : PartTerm) → length (xs ++ x ∷ []) ≡ length xs + 1
one_longer [] x = refl
one_longer (y ∷ xs) x = omega (arith, one_longer xs x)

-- the part at a place that is said to be the same as an earlier one is
pub repeat_at : (before : List PartTerm) (ps : List Part) (j : ℕ) (p : Part) → AreRepeats before ps → j < length ps → p ≡ get_or ps j p → (k : ℕ) → p.same ≡ Some k
    → (k < length before + j) × (get_or (before ++ map part_term ps) k (part_term p) ≡ part_term p)
repeat_at before [] j p h l e k s = absurd (omega arith)
repeat_at before (q ∷ ps) zero p h l e k s =
    let r = subst (λ (x : Part). IsRepeat before x) (sym e) h.0 in
    let f = r.earlier k s in
    (omega (arith, f.0), in_front before (map part_term (q ∷ ps)) k (part_term p) f.0 ∙ f.1)
repeat_at before (q ∷ ps) (suc j) p h l e k s =
    let f = repeat_at (before ++ part_term q ∷ []) ps j p h.1 (omega arith) e k s in
    (omega (arith, f.0, one_longer before (part_term q)), ap (λ ts. get_or ts k (part_term p)) (next before (part_term q) (map part_term ps)) ∙ f.1)

pub term_at : (ps : List Part) (j : ℕ) (p : Part) (d : PartTerm) → j < length ps → p ≡ get_or ps j p → get_or (map part_term ps) j d ≡ part_term p
term_at [] j p d l e = absurd (omega arith)
term_at (q ∷ ps) zero p d l e = ap part_term (sym e)
term_at (q ∷ ps) (suc j) p d l e = term_at ps j p d (omega arith) e

pub terms_len : (ps : List Part) → length (map part_term ps) ≡ length ps
terms_len [] = refl
terms_len (p ∷ ps) = ap suc (terms_len ps)

-- the last part
pub behind_all : (ps : List Part) (p : Part) (d : PartTerm) → (length ps < length (map part_term (ps ++ p ∷ []))) × (get_or (map part_term (ps ++ p ∷ [])) (length ps) d ≡ part_term p)
behind_all [] p d = (omega arith, refl)
behind_all (q ∷ ps) p d = let h = behind_all ps p d in (omega (arith, h.0), h.1)

cut : (k : ℕ) (es : List TExpr) (x : TExpr) → k < length es → x ≡ get_or es k x → drop k es ≡ x ∷ drop (k + 1) es
cut k es x h is = drop-cons es k x h ∙ ap (λ y. y ∷ drop (suc k) es) (sym is) ∙ ap (λ j. x ∷ drop j es) (sym (add-one k))

-- one expression more, alone
pub alone_more : (ts all : List PartTerm) (t : PartTerm) (k : ℕ) (es : List TExpr) (x : TExpr) → k < length es → x ≡ get_or es k x → t ≡ alone_part (expr_term x) → (ts ++ alone_parts (expr_terms (drop k es))) ≡ all
    → ((ts ++ t ∷ []) ++ alone_parts (expr_terms (drop (k + 1) es))) ≡ all
alone_more ts all t k es x h is same e =
    sym (next ts t (alone_parts (expr_terms (drop (k + 1) es))))
    ∙ ap (λ u. ts ++ u ∷ alone_parts (expr_terms (drop (k + 1) es))) same
    ∙ ap (λ ys. ts ++ alone_parts (expr_terms ys)) (sym (cut k es x h is)) ∙ e

pub exprs_typed : (k : ℕ) (es : List TExpr) (x : TExpr) → k < length es → x ≡ get_or es k x → AreTyped (expr_terms (drop k es)) → IsTyped (expr_term x) × AreTyped (expr_terms (drop (k + 1) es))
exprs_typed k es x h is t = subst (λ (ys : List TExpr). AreTyped (expr_terms ys)) (cut k es x h is) t

cut_range : (k : ℕ) (rs : List TRange) (x : TRange) → k < length rs → x ≡ get_or rs k x → drop k rs ≡ x ∷ drop (k + 1) rs
cut_range k rs x h is = drop-cons rs k x h ∙ ap (λ y. y ∷ drop (suc k) rs) (sym is) ∙ ap (λ j. x ∷ drop j rs) (sym (add-one k))

-- one range more
pub set_more : (ts more all : List PartTerm) (left : ExprTerm) (k : ℕ) (rs : List TRange) (x : TRange) → k < length rs → x ≡ get_or rs k x → more ≡ ts ++ range_parts left (range_term x) → (ts ++ set_parts left (range_terms (drop k rs))) ≡ all
    → (more ++ set_parts left (range_terms (drop (k + 1) rs))) ≡ all
set_more ts more all left k rs x h is same e =
    ap (λ us. us ++ set_parts left (range_terms (drop (k + 1) rs))) same
    ∙ append_assoc ts (range_parts left (range_term x)) (set_parts left (range_terms (drop (k + 1) rs)))
    ∙ ap (λ ys. ts ++ set_parts left (range_terms ys)) (sym (cut_range k rs x h is)) ∙ e

pub ranges_typed : (k : ℕ) (rs : List TRange) (x : TRange) → k < length rs → x ≡ get_or rs k x → RangesAreTyped (range_terms (drop k rs)) → RangeIsTyped (range_term x) × RangesAreTyped (range_terms (drop (k + 1) rs))
ranges_typed k rs x h is t = subst (λ (ys : List TRange). RangesAreTyped (range_terms ys)) (cut_range k rs x h is) t

-- the parts of the node are those of the expression
pub parts_give : {E : Type 0} (count : ℕ → ℕ) (e : TExpr) (n : NodeTerm) (w : ℕ) (s : Bool) (r : Result (Vec Part Global) E) → node_term e.node ≡ n
    → IfOk r (λ ps. map part_term ps.items ≡ node_parts count n w s) → IfOk r (λ ps. map part_term ps.items ≡ parts_of count (expr_term e) w s)
parts_give count e n w s (Ok ps) is h = h ∙ sym (ap (λ t. parts_of count t w s) (stored e) ∙ ap (λ m. node_parts count m w s) is)
parts_give count e n w s (Err x) is h = tt

-- so many bodies
pub bodies_give : {E : Type 0} (r : Result (Vec Part Global) E) (k n : ℕ) (e : ExprTerm) → k ≡ n → IfOk r (λ ps. map part_term ps.items ≡ body_parts k e) → IfOk r (λ ps. map part_term ps.items ≡ body_parts n e)
bodies_give (Ok ps) k n e is h = h ∙ ap (λ j. body_parts j e) is
bodies_give (Err x) k n e is h = tt
