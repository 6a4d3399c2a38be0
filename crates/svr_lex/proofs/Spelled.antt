-- Each token of a text spells a lexeme.
use Rattle.std.proofs.Common.{◌≡◌, ℕ, ◌+◌, ◌-◌, List, [], ◌∷◌, ◌++◌, length, take, drop, Option, Some, None, inl, inr, refl, sym, ap, ◌∙◌, subst, arith, length-append, zero, suc}
use Rattle.std.proofs.lemmas.List.{take_at, drop_at}
use Rattle.std.proofs.Common.{drop-drop}
use Rattle.std.specs.Prelude.{All}
use Rattle.svr_token.specs.Tables.{word_of}
use Rattle.svr_token.specs.Lexemes.{IsName, IsLawfulLiteral, value_of, width_of, is_signed, Spells}
use Rattle.svr_token.specs.Faults.{BeginsWithLiteral, IsSound, bad_literal, literal_too_wide}
use Rattle.svr_token.specs.Tokens.{BeginsWithLexeme, IsToken, Tokenizes, done, past_gap, past_lexeme, IsTokenOf, token_bytes}
use Rattle.svr_token.specs.declared.token.Kind.{Kind}
use Rattle.svr_token.specs.declared.token.Kind.TheVariants as k
use Rattle.svr_token.specs.declared.token.Token.{Token}
use Rattle.svr_token.specs.declared.lexeme.Lexeme.{Lexeme}
use Rattle.svr_token.specs.declared.lexeme.Lexeme.TheVariants as l
use Rattle.svr_token.specs.declared.lexeme.NameKind.TheVariants as n
use Rattle.svr_token.proofs.Exact.{word_spelled, plain_spelled}

name_has_lexeme : (bytes : List ℕ) → IsName bytes → (found : Option Lexeme) → word_of bytes ≡ found → (lexeme : Lexeme) × Spells lexeme bytes
name_has_lexeme bytes name None e = (l.Name n.Plain, plain_spelled bytes name e)
name_has_lexeme bytes name (Some lexeme) e = (lexeme, word_spelled bytes lexeme e)

-- a longest lexeme where no fault stands spells one
has_lexeme : (text bytes rest : List ℕ) (kind : Kind) → IsSound text → BeginsWithLexeme text kind bytes rest → (lexeme : Lexeme) × Spells lexeme bytes
has_lexeme text bytes rest k.Name sound begins = name_has_lexeme bytes begins.is_lexeme (word_of bytes) refl
has_lexeme text bytes rest k.System sound begins = (l.System begins.is_lexeme.0, begins.is_lexeme.1)
has_lexeme text bytes rest k.Mark sound begins = (l.Mark begins.is_lexeme.0, begins.is_lexeme.1)
has_lexeme text bytes rest k.Literal sound begins =
    let literal = begins.is_lexeme.0 in
    let front : BeginsWithLiteral text literal rest = record {
      bytes = bytes;
      writes = begins.is_lexeme.1;
      whole = begins.whole;
      longest = λ other front more writes e. begins.longest k.Literal front more (other, writes) e;
    } in
    let lawful : IsLawfulLiteral literal bytes = record {
      writes = begins.is_lexeme.1;
      has_size = λ zero_size. sound bad_literal (inr (record { literal = literal; rest = rest; begins = front; ill = inl zero_size }));
      narrow = λ wide. sound literal_too_wide (record { literal = literal; rest = rest; begins = front; wide = wide });
    } in
    (l.Literal (value_of literal) (width_of literal) (is_signed literal), (literal, lawful, refl, refl, refl))

abbrev pub HasLexeme : List ℕ → Token → Type 0
HasLexeme text token = (lexeme : Lexeme) × IsTokenOf text token lexeme

cut_back : (a n : ℕ) → (a + n) - a ≡ n
cut_back a n = omega arith

token_has_lexeme : (whole text bytes rest : List ℕ) (kind : Kind) (at : ℕ) (token : Token) → drop at whole ≡ text → at + length text ≡ length whole → IsSound text → BeginsWithLexeme text kind bytes rest
    → IsToken token kind at (length bytes) → HasLexeme whole token
token_has_lexeme whole text bytes rest kind at token here size sound begins is =
    let found = has_lexeme text bytes rest kind sound begins in
    let sum : length text ≡ length bytes + length rest = ap length begins.whole ∙ length-append bytes rest in
    let cut : token_bytes whole token ≡ bytes =
    rw (is.start, is.stop) (ap (λ m. take m (drop at whole)) (cut_back at (length bytes)) ∙ ap (take (length bytes)) (here ∙ begins.whole) ∙ take_at bytes rest (length bytes) refl) in
    (found.0, record { ordered = rw (is.start, is.stop) (omega arith); within = rw is.stop (omega arith); spells = subst (Spells found.0) (sym cut) found.1 })

drop_past : (whole text front rest : List ℕ) (at : ℕ) → drop at whole ≡ text → text ≡ front ++ rest → drop (at + length front) whole ≡ rest
drop_past whole text front rest at here e = sym (drop-drop (length front) at whole) ∙ ap (drop (length front)) (here ∙ e) ∙ drop_at front rest (length front) refl

all_none : (P : Token → Type 0) → All P []
all_none P k d less = absurd (omega arith)

all_more : (P : Token → Type 0) (x : Token) (xs : List Token) → P x → All P xs → All P (x ∷ xs)
all_more P x xs p rest zero d less = p
all_more P x xs p rest (suc k) d less = rest k d (omega arith)

pub spelled_all : {at : ℕ} {text : List ℕ} {tokens : List Token} {end : ℕ} {rest : List ℕ} → Tokenizes at text tokens end rest → (whole : List ℕ) → drop at whole ≡ text → at + length text ≡ length whole
    → All (HasLexeme whole) tokens
spelled_all done whole here size = all_none (HasLexeme whole)
spelled_all {at} {text} (past_gap space behind sound begins p) whole here size =
    spelled_all p whole (drop_past whole text space behind at here begins.whole) (place begins.whole)
  where
    place : text ≡ space ++ behind → at + length space + length behind ≡ length whole
    place e = let sum : length text ≡ length space + length behind = ap length e ∙ length-append space behind in omega arith
spelled_all {at} {text} (past_lexeme token kind bytes behind sound begins is p) whole here size =
    all_more (HasLexeme whole) token _ (token_has_lexeme whole text bytes behind kind at token here size sound begins is)
    (spelled_all p whole (drop_past whole text bytes behind at here begins.whole) (place begins.whole))
  where
    place : text ≡ bytes ++ behind → at + length bytes + length behind ≡ length whole
    place e = let sum : length text ≡ length bytes + length behind = ap length e ∙ length-append bytes behind in omega arith
