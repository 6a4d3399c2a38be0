-- One more token that spells a lexeme.
use Rattle.std.proofs.Common.{◌≡◌, ℕ, zero, suc, ◌+◌, ◌<◌, List, [], ◌∷◌, ◌++◌, length, take, get_or, ◌∙◌, ap, arith, add-one}
use Rattle.svr_token.specs.declared.Lexeme.{Lexeme}
use Rattle.svr_token.specs.declared.Token.{Token}
use Rattle.svr_token.specs.Tokens.{IsTokenOf}
use Rattle.svr_reader.specs.Spelled.{AreSpelled, SpellNoOther}

pub spelled_more : (text : List ℕ) (ts : List Token) (ls : List Lexeme) (l : Lexeme) (i : ℕ) (d : Token) → i < length ts
    → AreSpelled text (take i ts) ls → IsTokenOf text (get_or ts i d) l → AreSpelled text (take (i + 1) ts) (ls ++ l ∷ [])
spelled_more text ts ls l i d less h s = rw (add-one i) (more ts ls i less h s)
  where
    more : (ts : List Token) (ls : List Lexeme) (i : ℕ) → i < length ts
        → AreSpelled text (take i ts) ls → IsTokenOf text (get_or ts i d) l → AreSpelled text (take (suc i) ts) (ls ++ l ∷ [])
    more [] ls i less h s = absurd (omega (arith, less))
    more (t ∷ ts) [] zero less h s = (s, tt)
    more (t ∷ ts) (k ∷ ls) zero less h s = absurd h
    more (t ∷ ts) [] (suc i) less h s = absurd h
    more (t ∷ ts) (k ∷ ls) (suc i) less h s = (h.0, more ts ls i (omega (arith, less)) h.1 s)

-- and no other one
pub other_more : (text : List ℕ) (ts : List Token) (ls : List Lexeme) (l : Lexeme) (i : ℕ) (d : Token) → i < length ts
    → AreSpelled text (take i ts) ls → SpellNoOther text (take i ts) ls → ((k : Lexeme) → IsTokenOf text (get_or ts i d) k → k ≡ l) → SpellNoOther text (take (i + 1) ts) (ls ++ l ∷ [])
other_more text ts ls l i d less h none is = rw (add-one i) (more ts ls i less h none is)
  where
    more : (ts : List Token) (ls : List Lexeme) (i : ℕ) → i < length ts
        → AreSpelled text (take i ts) ls → SpellNoOther text (take i ts) ls → ((k : Lexeme) → IsTokenOf text (get_or ts i d) k → k ≡ l) → SpellNoOther text (take (suc i) ts) (ls ++ l ∷ [])
    more [] ls i less h none is os s = absurd (omega (arith, less))
    more (t ∷ ts) ls zero less h none is [] s = absurd s
    more (t ∷ ts) ls zero less h none is (o ∷ []) s = ap (λ z. z ∷ []) (is o s.0) ∙ ap (λ z. z ++ l ∷ []) (none [] tt)
    more (t ∷ ts) ls zero less h none is (o ∷ (p ∷ os)) s = absurd s.1
    more (t ∷ ts) ls (suc i) less h none is [] s = absurd s
    more (t ∷ ts) [] (suc i) less h none is (o ∷ os) s = absurd h
    more (t ∷ ts) (k ∷ ls) (suc i) less h none is (o ∷ os) s =
        let first : o ∷ ls ≡ k ∷ ls = none (o ∷ ls) (s.0, h.1) in
        let same : o ≡ k = cc in
        ap (λ z. o ∷ z) (more ts ls i (omega (arith, less)) h.1 (λ zs w. rest zs (none (o ∷ zs) (s.0, w))) is os s.1) ∙ ap (λ z. z ∷ (ls ++ l ∷ [])) same
      where
        rest : (zs : List Lexeme) → o ∷ zs ≡ k ∷ ls → zs ≡ ls
        rest zs e = cc
