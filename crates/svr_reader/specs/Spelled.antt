-- What the tokens of a text spell, one by one.
use Rattle.std.specs.Prelude.{◌≡◌, List, [], ◌∷◌, ℕ}
use Rattle.svr_token.specs.declared.Lexeme.{Lexeme}
use Rattle.svr_token.specs.declared.token.Token.{Token}
use Rattle.svr_token.specs.Tokens.{IsTokenOf}

abbrev pub AreSpelled : List ℕ → List Token → List Lexeme → Type 0
AreSpelled text [] [] = Unit {0}
AreSpelled text [] (l ∷ ls) = ⊥
AreSpelled text (t ∷ ts) [] = ⊥
AreSpelled text (t ∷ ts) (l ∷ ls) = IsTokenOf text t l × AreSpelled text ts ls

-- no other lexemes are spelled by the tokens
abbrev pub SpellNoOther : List ℕ → List Token → List Lexeme → Type 0
SpellNoOther text tokens lexemes = (others : List Lexeme) → AreSpelled text tokens others → others ≡ lexemes
