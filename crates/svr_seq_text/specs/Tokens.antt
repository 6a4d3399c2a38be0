-- The same for the tokens of a text, as the crates above say it
use Rattle.std.specs.Prelude.{◌≡◌, ◌⊎◌, ℕ, List, Result, MatchResult}
use Rattle.svr_token.specs.declared.token.Token.{Token}
use Rattle.svr_seq_text.specs.declared.word.Word.{Word}
use Rattle.svr_seq_text.specs.declared.text.SeqText.{SeqText}
use Rattle.svr_seq_text.specs.Words.{AreWords}
use Rattle.svr_seq_text.specs.Tree.{SeqTree, text_of}
use Rattle.svr_seq_text.specs.Spelled.{seq_words}
use Rattle.svr_seq_text.specs.declared.fault.SeqTextFault.{SeqTextFault}
use Rattle.svr_seq_text.specs.declared.fault.SeqTextFault.TheVariants as e
use Rattle.svr_seq_text.specs.Fronts.{IsTextOf, IsUnexpected, IsFaultOf}

-- the tokens write the tree, from the first to the last
abbrev pub WriteTree : List ℕ → List Token → SeqTree → Type 0
WriteTree text tokens tree = (ws : List Word) × AreWords text 0 tokens ws × (ws ≡ seq_words tree)

-- the tokens write a tree, and this text is kept of it
abbrev pub WriteText : List ℕ → List Token → SeqText → Type 0
WriteText text tokens kept = (ws : List Word) × AreWords text 0 tokens ws × IsTextOf ws kept

-- the token of this number is the first with which the tokens begin no text
abbrev pub StopAt : List ℕ → List Token → ℕ → Type 0
StopAt text tokens number = (ws : List Word) × AreWords text 0 tokens ws × IsUnexpected ws number

abbrev pub HaveFault : List ℕ → List Token → SeqTextFault → Type 0
HaveFault text tokens fault = (ws : List Word) × AreWords text 0 tokens ws × IsFaultOf ws fault

-- want of memory aside, tokens that write a tree are answered by what is kept of it
abbrev pub AnswersTrees : List ℕ → List Token → Result SeqText SeqTextFault → Type 0
AnswersTrees text tokens answer = (ws : List Word) → AreWords text 0 tokens ws → (tree : SeqTree) → ws ≡ seq_words tree → MatchResult answer (λ s. s ≡ text_of tree) (λ x. x ≡ e.NoMemory)

-- and any others by the token at which they stop
abbrev pub AnswersStops : List ℕ → List Token → Result SeqText SeqTextFault → Type 0
AnswersStops text tokens answer = (ws : List Word) → AreWords text 0 tokens ws → (n : ℕ) → IsUnexpected ws n → MatchResult answer (λ s. ⊥) (λ x. (x ≡ e.Unexpected n) ⊎ (x ≡ e.NoMemory))
