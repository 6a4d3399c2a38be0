-- Words that are a text of `randsequence`, and the first fault of any others
use Rattle.std.specs.Prelude.{◌≡◌, ℕ, List, [], ◌∷◌, ◌++◌, length}
use Rattle.svr_seq_text.specs.declared.word.Word.{Word}
use Rattle.svr_seq_text.specs.declared.text.SeqText.{SeqText}
use Rattle.svr_seq_text.specs.declared.fault.SeqTextFault.{SeqTextFault}
use Rattle.svr_seq_text.specs.declared.fault.SeqTextFault.TheVariants as e
use Rattle.svr_seq_text.specs.Tree.{SeqTree, text_of}
use Rattle.svr_seq_text.specs.Spelled.{seq_words}

-- the words write a tree, from the first to the last, and this is the text that is kept of it
abbrev pub IsTextOf : List Word → SeqText → Type 0
IsTextOf ws text = (tree : SeqTree) × (ws ≡ seq_words tree) × (text_of tree ≡ text)

-- some text begins with these words
pub record IsFront (front : List Word) : Type 0 where
  pub tree : SeqTree
  pub rest : List Word
  pub whole : seq_words tree ≡ front ++ rest

-- the word of this number is the first with which the words begin no text
pub record IsUnexpected (ws : List Word) (number : ℕ) : Type 0 where
  pub front : List Word
  pub word : Word
  pub rest : List Word
  pub whole : ws ≡ front ++ word ∷ rest
  pub place : length front ≡ number
  pub is_front : IsFront front
  pub none : IsFront (front ++ word ∷ []) → ⊥

abbrev pub IsFaultOf : List Word → SeqTextFault → Type 0
IsFaultOf ws (e.Unexpected number) = IsUnexpected ws number
IsFaultOf ws e.NoMemory = Unit {0}
