-- Lists of refusals without a refusal
use Rattle.std.proofs.Common.{◌≡◌, ℕ, suc, ◌+◌, Bool, true, false, List, [], ◌∷◌, ◌++◌, length, refl, ap, arith}
use Rattle.svr_refusal.specs.declared.refusal.Refusal.{Refusal}
use Rattle.svr_cover_checked.specs.declared.fault.CoverFault.{CoverFault}
use Rattle.svr_cover_checked.specs.Numbers.{unless}

pub left_empty : (xs ys : List CoverFault) → xs ++ ys ≡ [] → xs ≡ []
left_empty [] ys e = refl
left_empty (x ∷ xs) ys e = let n : length ((x ∷ xs) ++ ys) ≡ 0 = ap length e in let m : suc (length (xs ++ ys)) ≡ 0 = n in absurd (omega (arith, m))

pub right_empty : (xs ys : List CoverFault) → xs ++ ys ≡ [] → ys ≡ []
right_empty [] ys e = e
right_empty (x ∷ xs) ys e = let n : length ((x ∷ xs) ++ ys) ≡ 0 = ap length e in let m : suc (length (xs ++ ys)) ≡ 0 = n in absurd (omega (arith, m))

pub unless_fine : (b : Bool) (why : Refusal) (token : ℕ) → unless b why token ≡ [] → b ≡ true
unless_fine true why token e = refl
unless_fine false why token e = let n : 1 ≡ 0 = ap length e in absurd (omega (arith, n))
