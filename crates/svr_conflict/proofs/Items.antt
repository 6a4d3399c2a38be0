-- Trees that stand for the items of a call, and lists that are read from another one
use Rattle.std.proofs.Common.{◌≡◌, ◌<◌, ◌+◌, ℕ, List, [], ◌∷◌, ◌++◌, map, length, take, get_or, sym, ap, ◌∙◌, subst}
use Rattle.std.specs.List.{AllZip}
use Rattle.std.proofs.lemmas.List.{map-append, length-append, length-map, take_more}
use Rattle.svr_typed.specs.declared.expr.TExpr.{TExpr}
use Rattle.svr_typed.specs.ExprTerm.{ExprTerm, expr_term}
use Rattle.svr_eval.specs.Reading.{reading_of}
use Rattle.svr_frame.specs.declared.part.Part.TheVariants.{All as Whole}
use Rattle.svr_frame.specs.Frame.{FrameTerm, state_at}
use Rattle.svr_frame.specs.Occurrences.{Occurrence, closed_of}
use Rattle.svr_frame.specs.Phases.{domain_items, hard_of, live_of}
use Rattle.svr_frame.specs.Sound.{IsSound, SizesFit}
use Rattle.svr_clauses.specs.Encodable.{AreEncodable}
use Rattle.svr_clauses.proofs.Encodable.{both_encodable, hard_encodable, live_encodable}
use Rattle.svr_phase.specs.Spent.{closed_at}
use Rattle.svr_counts.specs.Hard.{hard_by_item, joined}
use Rattle.svr_conflict.proofs.Told.{hard_is}

-- the hard items, and the soft ones behind them, in one list
pub items_stand : (f : FrameTerm) (ns : List ℕ) (all hard soft : List TExpr) → map expr_term all ≡ map expr_term hard ++ map expr_term soft → map expr_term hard ≡ closed_at f ns (hard_of f Whole ns) → map expr_term soft ≡ closed_at f ns (live_of f Whole ns)
    → map expr_term all ≡ closed_at f ns (hard_of f Whole ns ++ live_of f Whole ns)
items_stand f ns all hard soft e h s = e ∙ (λ i. h i ++ s i) ∙ sym (map-append (closed_of (state_at f ns)) (hard_of f Whole ns) (live_of f Whole ns))

pub items_encodable : (f : FrameTerm) (ns : List ℕ) → IsSound f → SizesFit f ns → AreEncodable f Whole (reading_of f.state) (state_at f ns) (hard_of f Whole ns ++ live_of f Whole ns)
items_encodable f ns sound fit =
    both_encodable f Whole (reading_of f.state) (state_at f ns) (hard_of f Whole ns) (live_of f Whole ns) (hard_encodable f Whole ns sound fit) (live_encodable f Whole ns sound fit)

-- how many trees stand for the hard items
pub hard_long : (f : FrameTerm) (ns : List ℕ) (hard : List TExpr) → map expr_term hard ≡ closed_at f ns (hard_of f Whole ns) → length hard ≡ length (domain_items f Whole ns) + length (joined (hard_by_item f ns))
hard_long f ns hard h =
    sym (length-map hard expr_term)
    ∙ ap (λ (es : List ExprTerm). length es) h
    ∙ length-map (hard_of f Whole ns) (closed_of (state_at f ns))
    ∙ ap (λ (os : List Occurrence). length os) (hard_is f ns)
    ∙ length-append (domain_items f Whole ns) (joined (hard_by_item f ns))

-- ---- one element more of both lists

zip_push : {A B : Type 0} (R : A → B → Type 0) (xs : List A) (ys : List B) (x : A) (y : B) → AllZip R xs ys → R x y → AllZip R (xs ++ x ∷ []) (ys ++ y ∷ [])
zip_push R [] [] x y h r = (r, tt)
zip_push R [] (b ∷ ys) x y h r = absurd h
zip_push R (a ∷ xs) [] x y h r = absurd h
zip_push R (a ∷ xs) (b ∷ ys) x y h r = (h.0, zip_push R xs ys x y h.1 r)

pub zip_more : {A B : Type 0} (R : A → B → Type 0) (xs : List A) (ys new : List B) (i : ℕ) (x : A) (y : B) → i < length xs → x ≡ get_or xs i x → new ≡ ys ++ y ∷ [] → AllZip R (take i xs) ys → R x y → AllZip R (take (i + 1) xs) new
zip_more {A} {B} R xs ys new i x y lt is pushed h r =
    subst (λ (l : List A). AllZip R l new) (ap (λ (z : A). take i xs ++ z ∷ []) is ∙ sym (take_more xs i x lt))
    (subst (λ (l : List B). AllZip R (take i xs ++ x ∷ []) l) (sym pushed) (zip_push R (take i xs) ys x y h r))
