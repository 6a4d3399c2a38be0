-- The members of `unique`, one by one.
use Rattle.std.proofs.Common.{◌≡◌, ◌<◌, ℕ, suc, ◌+◌, ◌-◌, Bool, add-one, ◌∙◌, ap, List, [], ◌∷◌, ◌++◌, arith, append_assoc}
use Rattle.std.proofs.lemmas.List.{map-append}
use Rattle.svr_typed.specs.ExprTerm.{ExprTerm, typed, element}
use Rattle.svr_eval.specs.Reading.{Reading}
use Rattle.svr_expand.specs.declared.pairs.UniqueMember.{UniqueMember}
use Rattle.svr_expand.specs.declared.pairs.UniqueMember.TheVariants as operand
use Rattle.svr_frame.specs.Closed.{index_number}
use Rattle.svr_frame.specs.Occurrences.{elements_from}
use Rattle.svr_expand.specs.Operands.{operand_expr, operand_exprs, MemberIsReady, AllReady}

pub ready_more : (a : Reading) (depth : ℕ) (xs : List UniqueMember) (x : UniqueMember) → AllReady a depth xs → MemberIsReady a depth x → AllReady a depth (xs ++ x ∷ [])
ready_more a depth [] x h k = (k, tt)
ready_more a depth (y ∷ xs) x h k = (h.0, ready_more a depth xs x h.1 k)

pub more_elements : (p w : ℕ) (s : Bool) (i n : ℕ) (out : List UniqueMember) → i < n
    → operand_exprs (out ++ operand.Element p i w s ∷ []) ++ elements_from p w s (i + 1) (n - (i + 1)) ≡ operand_exprs out ++ elements_from p w s i (n - i)
more_elements p w s i n out less =
    let left : n - i ≡ suc (n - (i + 1)) = omega (arith, less) in
    let next : i + 1 ≡ suc i = add-one i in
    rw (left, map-append operand_expr out (operand.Element p i w s ∷ []), next) (append_assoc (operand_exprs out) (typed w s (element p (index_number i)) ∷ []) (elements_from p w s (suc i) (n - suc i)))

-- what is left after a member
pub next : (old mid xs ys : List ExprTerm) → mid ≡ old ++ xs → mid ++ ys ≡ old ++ (xs ++ ys)
next old mid xs ys h = ap (λ zs. zs ++ ys) h ∙ append_assoc old xs ys
