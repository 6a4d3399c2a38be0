-- What a text begins with, as the code holds it.
use Rattle.std.specs.Prelude.{◌≡◌, ◌≢◌, ◌≤◌, ℕ, List, [], ◌∷◌, ◌++◌, length, codes, false}
use Rattle.svr_token.specs.Bytes.{is_blank, is_name_start}
use Rattle.svr_token.specs.Spellings.{mark_text, system_text}
use Rattle.svr_token.specs.Lexemes.{IsName, IsLexeme}
use Rattle.svr_token.specs.Gaps.{BeginsWithGap}
use Rattle.svr_token.specs.Faults.{HasLowestFault, IsSound, IsOpenComment, BeginsUnknownSystemName}
use Rattle.svr_token.specs.Literals.{HasNoLiteral}
use Rattle.svr_token.specs.Tokens.{BeginsWithLexeme}
use Rattle.svr_token.specs.declared.token.Kind.TheVariants as k
use Rattle.svr_token.specs.declared.lexeme.Mark.{Mark}
use Rattle.svr_token.specs.declared.lexeme.SystemName.{SystemName}
use Rattle.svr_lex.specs.Lexing.{fault_of}
use Rattle.svr_lex.specs.declared.front.Front.{Front}
use Rattle.svr_lex.specs.declared.front.Front.TheVariants as f

abbrev pub IsTextFront : List ℕ → Front → Type 0
IsTextFront text f.End = text ≡ []
IsTextFront text (f.Gap gap rest) = IsSound text × BeginsWithGap text gap.now rest.now
IsTextFront text (f.Lexeme kind lexeme rest) = IsSound text × BeginsWithLexeme text kind lexeme.now rest.now
IsTextFront text (f.Fault flaw) = HasLowestFault (fault_of flaw) text

-- the text begins with no blank, no name, no `/` and no `$`
pub record StartsOther (text : List ℕ) : Type 0 where
  pub byte : ℕ
  pub more : List ℕ
  pub whole : text ≡ byte ∷ more
  pub no_blank : is_blank byte ≡ false
  pub no_name : is_name_start byte ≡ false
  pub no_slash : byte ≢ 47
  pub no_dollar : byte ≢ 36

-- only a mark can begin the text
pub record MarkOrNothing (text : List ℕ) : Type 0 where
  pub byte : ℕ
  pub more : List ℕ
  pub begins : text ≡ byte ∷ more
  pub no_blank : is_blank byte ≡ false
  pub no_gap : (gap rest : List ℕ) → BeginsWithGap text gap rest → ⊥
  pub no_comment : IsOpenComment text → ⊥
  pub no_name : (bytes rest : List ℕ) → IsName bytes → text ≢ bytes ++ rest
  pub no_system : (system : SystemName) (rest : List ℕ) → text ≢ system_text system ++ rest
  pub no_unknown : BeginsUnknownSystemName text → ⊥
  pub no_literal : HasNoLiteral text

-- the text begins with a mark of this length
pub record HasMark (text mark rest : List ℕ) (len : ℕ) : Type 0 where
  pub whole : text ≡ mark ++ rest
  pub is_mark : IsLexeme k.Mark mark
  pub size : length mark ≡ len

-- the text begins with this mark, and with no longer one
pub record BeginsWithMark (text mark rest : List ℕ) : Type 0 where
  pub whole : text ≡ mark ++ rest
  pub is_mark : IsLexeme k.Mark mark
  pub longest : (other : Mark) (more : List ℕ) → text ≡ mark_text other ++ more → length (mark_text other) ≤ length mark

-- the first `*/` of the text stands behind the body
pub record EndsComment (text body rest : List ℕ) : Type 0 where
  pub whole : text ≡ body ++ (codes "*/" ++ rest)
  pub first : (front back : List ℕ) → body ++ codes "*/" ≡ front ++ (codes "*/" ++ back) → back ≡ []
