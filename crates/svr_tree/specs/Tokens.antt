-- Tokens as the grammar sees them, and the entries of a spelling.
use Rattle.std.specs.Prelude.{◌≡◌, ℕ, suc, List, [], ◌∷◌, ◌++◌}
use Rattle.svr_token.specs.declared.Lexeme.{Lexeme}
use Rattle.svr_token.specs.declared.Lexeme.TheVariants as lexeme
use Rattle.svr_token.specs.declared.Word.{Word}
use Rattle.svr_token.specs.declared.Mark.{Mark}
use Rattle.svr_token.specs.declared.Mark.TheVariants as m
use Rattle.svr_token.specs.declared.NameKind.{NameKind}
use Rattle.svr_token.specs.declared.NameKind.TheVariants as name_kind

-- a token: its number and what it spells
pub record Tok : Type 0 where
  pub at : ℕ
  pub lexeme : Lexeme

-- lexemes as tokens, the first of which has the number n
abbrev pub numbered : ℕ → List Lexeme → List Tok
numbered n [] = []
numbered n (l ∷ ls) = record { at = n; lexeme = l } ∷ numbered (suc n) ls

-- What a tree says of one token: the lexeme at this number, the lexeme at any number, a name at this number (IEEE 1800-2017, 5.6), or a name other than `randomize`.
pub data Entry : Type 0 where
  On : ℕ → Lexeme → Entry
  Any : Lexeme → Entry
  Name : ℕ → Entry
  OtherName : ℕ → Entry

pub record IsNameLexeme (l : Lexeme) : Type 0 where
  pub kind : NameKind
  pub is : l ≡ lexeme.Name kind

pub record IsOtherName (l : Lexeme) : Type 0 where
  pub kind : NameKind
  pub is : l ≡ lexeme.Name kind
  pub other : kind ≡ name_kind.Randomize → ⊥

abbrev pub Fits : Entry → Tok → Type 0
Fits (On n l) t = (t.at ≡ n) × (t.lexeme ≡ l)
Fits (Any l) t = t.lexeme ≡ l
Fits (Name n) t = (t.at ≡ n) × IsNameLexeme t.lexeme
Fits (OtherName n) t = (t.at ≡ n) × IsOtherName t.lexeme

-- entry by entry, and then the rest
abbrev pub FitEach : List Tok → List Entry → List Tok → Type 0
FitEach i [] rest = i ≡ rest
FitEach [] (e ∷ es) rest = ⊥
FitEach (t ∷ i) (e ∷ es) rest = Fits e t × FitEach i es rest

-- the tokens `i` fit the entries one by one, and then comes the rest
pub record FitsAll (i : List Tok) (es : List Entry) (rest : List Tok) : Type 0 where
  pub each : FitEach i es rest

-- ---- short words for entries

abbrev pub word : Word → Entry
word w = Any (lexeme.Word w)

abbrev pub word_on : ℕ → Word → Entry
word_on n w = On n (lexeme.Word w)

abbrev pub mark : Mark → Entry
mark k = Any (lexeme.Mark k)

abbrev pub mark_on : ℕ → Mark → Entry
mark_on n k = On n (lexeme.Mark k)

-- ---- spellings of lists

-- x { x }
abbrev pub each_spelling : {A : Type 0} → (A → List Entry) → List A → List Entry
each_spelling f [] = []
each_spelling f (x ∷ xs) = f x ++ each_spelling f xs

-- { "," x }
abbrev pub followed : {A : Type 0} → (A → List Entry) → List A → List Entry
followed f [] = []
followed f (x ∷ xs) = mark m.Comma ∷ (f x ++ followed f xs)

-- x { "," x }
abbrev pub listed : {A : Type 0} → (A → List Entry) → List A → List Entry
listed f [] = []
listed f (x ∷ xs) = f x ++ followed f xs

-- NAME { "," NAME }
abbrev pub names_listed : List ℕ → List Entry
names_listed ns = listed (λ n. Name n ∷ []) ns

-- ---- forms of lists

abbrev pub Each : {A : Type 0} → (A → Type 0) → List A → Type 0
Each P [] = Unit {0}
Each P (x ∷ xs) = P x × Each P xs

-- one or more
abbrev pub OneOrMore : {A : Type 0} → (A → Type 0) → List A → Type 0
OneOrMore P [] = ⊥
OneOrMore P (x ∷ xs) = P x × Each P xs
