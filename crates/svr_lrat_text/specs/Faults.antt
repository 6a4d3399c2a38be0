-- Texts that are files within the limits, and the first fault of any other
use Rattle.std.specs.Prelude.{◌≡◌, ℕ, Bool, true, false, List, [], ◌∷◌, ◌++◌}
use Rattle.svr_lrat_text.specs.declared.cursor.Token.{Token}
use Rattle.svr_lrat_text.specs.declared.word.Word.{Word}
use Rattle.svr_lrat_file.specs.Views.{FileView}
use Rattle.svr_lrat_text.specs.declared.fault.LratFault.{LratFault}
use Rattle.svr_lrat_text.specs.declared.fault.LratFault.TheVariants as e
use Rattle.svr_lrat_text.specs.Words.{tokens_of, words}
use Rattle.svr_lrat_text.specs.File.{file_words, is_file}

-- the text is this file, which is within the limits
pub record IsFileOf (text : List ℕ) (file : FileView) : Type 0 where
  pub written : words (tokens_of text) ≡ file_words file
  pub within : is_file true file ≡ true

-- some file begins with these words; where limits count, one within the limits
pub record IsFront (limited : Bool) (front : List Word) : Type 0 where
  pub file : FileView
  pub rest : List Word
  pub is : is_file limited file ≡ true
  pub whole : file_words file ≡ front ++ rest

-- the tokens before the one at this place are the front of a file within the limits
pub record Stops (text : List ℕ) (place : ℕ) (front : List Token) (token : Token) : Type 0 where
  pub rest : List Token
  pub whole : tokens_of text ≡ front ++ token ∷ rest
  pub place_is : token.at ≡ place
  pub is_front : IsFront true (words front)

-- the first token with which the tokens are no front of any file
pub record IsBad (text : List ℕ) (place : ℕ) : Type 0 where
  pub front : List Token
  pub token : Token
  pub stops : Stops text place front token
  pub none : IsFront false (words (front ++ token ∷ [])) → ⊥

-- the first token with which they are the front of a file, and of none within the limits
pub record IsTooLarge (text : List ℕ) (place : ℕ) : Type 0 where
  pub front : List Token
  pub token : Token
  pub stops : Stops text place front token
  pub some : IsFront false (words (front ++ token ∷ []))
  pub none : IsFront true (words (front ++ token ∷ [])) → ⊥

abbrev pub IsFaultOf : List ℕ → LratFault → Type 0
IsFaultOf text (e.Bad at) = IsBad text at
IsFaultOf text (e.TooLarge at) = IsTooLarge text at
IsFaultOf text e.NoMemory = Unit {0}
