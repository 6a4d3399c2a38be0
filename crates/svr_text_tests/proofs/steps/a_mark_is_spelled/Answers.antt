use Rattle.std.proofs.Common.{ℕ, zero, suc, ◌<◌, [], ◌∷◌, refl, arith, slice_index_or}
use Rattle.svr_token.specs.declared.Lexeme.{Lexeme}
use Rattle.svr_token.specs.declared.Lexeme.TheVariants as l
use Rattle.svr_token.specs.declared.Mark.TheVariants as m
use Rattle.svr_token.specs.declared.Kind.TheVariants as k
use Rattle.svr_token.specs.declared.Token.{Token}
use Rattle.svr_token.specs.Tokens.{IsTokenOf}
use Rattle.svr_text_tests.proofs.steps.a_mark_is_spelled.Goals as goal

semicolon : (i : ℕ) (d : Token) → i < 1 → (x : Lexeme) × IsTokenOf (59 ∷ []) (slice_index_or {A = Token} (record { kind = k.Mark; start = 0; stop = 1 } ∷ []) i d) x
semicolon zero d h = (l.Mark m.Semicolon, record { ordered = omega arith; within = omega arith; spells = refl })
semicolon (suc i) d h = absurd (omega (arith, h))

pub lexemes-requires : goal.lexemes-requires
lexemes-requires g c = semicolon
