-- One more turn of a loop over parts or members.
use Rattle.std.proofs.Common.{◌≡◌, ◌<◌, ℕ, zero, suc, ◌+◌, sym, ap, ◌∙◌, List, [], ◌∷◌, ◌++◌, length, drop, get_or, map}
use Rattle.std.proofs.lemmas.List.{at_drop_more}
use Rattle.svr_typed.specs.declared.expr.TExpr.{TExpr}
use Rattle.svr_typed.specs.declared.expr.TRange.{TRange}
use Rattle.svr_typed.specs.ExprTerm.{expr_terms, range_terms}
use Rattle.svr_eval.specs.Reading.{Reading}
use Rattle.svr_eval.specs.Typed.{AreTyped, RangesAreTyped, AllCanRead, RangesCanRead}
use Rattle.svr_mention.proofs.Appended.{after}

-- what one more element puts is what was left from it on
pub turned : {X A B : Type 0} (m : A → B) (f : List X → List A) (here : List A) (es : List X) (i : ℕ) (e : X) (old new all : List B)
    → i < length es → e ≡ get_or es i e → f (e ∷ drop (i + 1) es) ≡ here ++ f (drop (i + 1) es) → new ≡ old ++ map m here
    → old ++ map m (f (drop i es)) ≡ all → new ++ map m (f (drop (i + 1) es)) ≡ all
turned m f here es i e old new all less at one put told =
    after m old new here (f (drop (i + 1) es)) put
    ∙ ap (λ xs. old ++ map m xs) (sym (at_drop_more f es i e less ∙ ap (λ z. f (z ∷ drop (i + 1) es)) (sym at) ∙ one))
    ∙ told

pub exprs_typed : (es : List TExpr) (k : ℕ) → AreTyped (expr_terms es) → AreTyped (expr_terms (drop k es))
exprs_typed es zero h = h
exprs_typed [] (suc k) h = tt
exprs_typed (e ∷ es) (suc k) h = exprs_typed es k h.1

pub exprs_can_read : (a : Reading) (depth : ℕ) (es : List TExpr) (k : ℕ) → AllCanRead a depth (expr_terms es) → AllCanRead a depth (expr_terms (drop k es))
exprs_can_read a depth es zero h = h
exprs_can_read a depth [] (suc k) h = tt
exprs_can_read a depth (e ∷ es) (suc k) h = exprs_can_read a depth es k h.1

pub ranges_typed : (rs : List TRange) (k : ℕ) → RangesAreTyped (range_terms rs) → RangesAreTyped (range_terms (drop k rs))
ranges_typed rs zero h = h
ranges_typed [] (suc k) h = tt
ranges_typed (r ∷ rs) (suc k) h = ranges_typed rs k h.1

pub ranges_can_read : (a : Reading) (depth : ℕ) (rs : List TRange) (k : ℕ) → RangesCanRead a depth (range_terms rs) → RangesCanRead a depth (range_terms (drop k rs))
ranges_can_read a depth rs zero h = h
ranges_can_read a depth [] (suc k) h = tt
ranges_can_read a depth (r ∷ rs) (suc k) h = ranges_can_read a depth rs k h.1
