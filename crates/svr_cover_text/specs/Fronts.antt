-- Words that begin with groups, where these end, and the first fault of any others
use Rattle.std.specs.Prelude.{◌≡◌, ℕ, false, List, [], ◌∷◌, ◌++◌, length}
use Rattle.svr_cover_text.specs.declared.word.Word.{Word}
use Rattle.svr_cover_text.specs.declared.text.GroupsText.{GroupsText}
use Rattle.svr_cover_text.specs.declared.fault.GroupsFault.{GroupsFault}
use Rattle.svr_cover_text.specs.declared.fault.GroupsFault.TheVariants as e
use Rattle.svr_cover_text.specs.Tree.{GroupTree, list_text}
use Rattle.svr_cover_text.specs.Spelled.{groups_words, begins_group}

-- the groups, and how many words write them
abbrev pub groups_text : List GroupTree → GroupsText
groups_text ts = record { list = list_text ts; used = length (groups_words ts) }

-- the words begin with these groups, and with no further one
pub record BeginWith (ws : List Word) (groups : List GroupTree) : Type 0 where
  pub rest : List Word
  pub whole : ws ≡ groups_words groups ++ rest
  pub last : begins_group rest ≡ false

-- the words begin with groups and no further one, and this is the text that is kept of them
abbrev pub IsTextOf : List Word → GroupsText → Type 0
IsTextOf ws text = (groups : List GroupTree) × BeginWith ws groups × (groups_text groups ≡ text)

-- some groups begin with these words
pub record IsFront (front : List Word) : Type 0 where
  pub groups : List GroupTree
  pub rest : List Word
  pub whole : groups_words groups ≡ front ++ rest

-- the word of this number is the first with which the words begin no groups, and stands inside of a group
pub record IsUnexpected (ws : List Word) (number : ℕ) : Type 0 where
  pub front : List Word
  pub word : Word
  pub rest : List Word
  pub whole : ws ≡ front ++ word ∷ rest
  pub place : length front ≡ number
  pub is_front : IsFront front
  pub inside : (groups : List GroupTree) → front ≡ groups_words groups → ⊥
  pub none : IsFront (front ++ word ∷ []) → ⊥

abbrev pub IsFaultOf : List Word → GroupsFault → Type 0
IsFaultOf ws (e.Unexpected number) = IsUnexpected ws number
IsFaultOf ws e.NoMemory = Unit {0}
