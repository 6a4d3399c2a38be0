-- A list of tokens that is numbered.
use Rattle.std.proofs.Common.{◌≡◌, ℕ, suc, ◌+◌, ◌<◌, List, [], ◌∷◌, length, drop, refl, ap, arith}
use Rattle.svr_token.specs.declared.Lexeme.{Lexeme}
use Rattle.std.specs.List.{slice_get}
use Rattle.svr_tree.specs.Tokens.{numbered}
use Rattle.svr_reader.specs.Outcomes.{lexeme_at, number_at, next}

pub length-numbered : (n : ℕ) (cs : List Lexeme) → length (numbered n cs) ≡ length cs
length-numbered n [] = refl
length-numbered n (q ∷ cs) = ap suc (length-numbered (suc n) cs)

pub number_at-numbered : (n : ℕ) (cs : List Lexeme) → 0 < length cs → number_at (numbered n cs) ≡ n
number_at-numbered n [] h = absurd (omega arith)
number_at-numbered n (q ∷ cs) h = refl

pub next-numbered : (n : ℕ) (cs : List Lexeme) → 0 < length cs → next (numbered n cs) ≡ numbered (n + 1) (drop 1 cs)
next-numbered n [] h = absurd (omega arith)
next-numbered n (q ∷ cs) h = let e : suc n ≡ n + 1 = omega arith in ap (λ v. numbered v cs) e

pub lexeme_at-numbered : (n : ℕ) (cs : List Lexeme) → lexeme_at (numbered n cs) ≡ slice_get cs 0
lexeme_at-numbered n [] = refl
lexeme_at-numbered n (q ∷ cs) = refl

pub ruleset of_numbered = (length-numbered, number_at-numbered, next-numbered, lexeme_at-numbered)
