-- What stands between lexemes: white space and comments (IEEE 1800-2017, 5.3 and 5.4).
use Rattle.std.specs.Prelude.{◌≡◌, ◌⊎◌, ℕ, true, List, [], ◌∷◌, ◌++◌, codes}
use Rattle.std.specs.List.{list_all}
use Rattle.svr_token.specs.Bytes.{is_blank, is_within_line, Stops}

-- one blank byte
pub record IsBlank (gap : List ℕ) : Type 0 where
  pub byte : ℕ
  pub blank : is_blank byte ≡ true
  pub whole : gap ≡ byte ∷ []

-- `//` and all up to the end of the line, which is a newline or the end of the text
pub record IsLineComment (gap rest : List ℕ) : Type 0 where
  pub body : List ℕ
  pub whole : gap ≡ codes "//" ++ body
  pub within : list_all is_within_line body ≡ true
  pub stops : Stops is_within_line rest

-- `/*`, and all up to the first `*/` behind it
pub record IsBlockComment (gap : List ℕ) : Type 0 where
  pub body : List ℕ
  pub whole : gap ≡ codes "/*" ++ (body ++ codes "*/")
  pub first : (front back : List ℕ) → body ++ codes "*/" ≡ front ++ (codes "*/" ++ back) → back ≡ []

-- the text begins with this gap
pub record BeginsWithGap (text gap rest : List ℕ) : Type 0 where
  pub whole : text ≡ gap ++ rest
  pub kind : IsBlank gap ⊎ IsLineComment gap rest ⊎ IsBlockComment gap
