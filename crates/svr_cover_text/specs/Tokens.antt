-- The same for the tokens of a text, as the crates above say it
use Rattle.std.specs.Prelude.{◌≡◌, ◌⊎◌, ℕ, List, Result, MatchResult}
use Rattle.svr_token.specs.declared.token.Token.{Token}
use Rattle.svr_cover_text.specs.declared.word.Word.{Word}
use Rattle.svr_cover_text.specs.declared.text.GroupsText.{GroupsText}
use Rattle.svr_cover_text.specs.declared.fault.GroupsFault.{GroupsFault}
use Rattle.svr_cover_text.specs.declared.fault.GroupsFault.TheVariants as e
use Rattle.svr_cover_text.specs.Words.{AreWords}
use Rattle.svr_cover_text.specs.Tree.{GroupTree}
use Rattle.svr_cover_text.specs.Fronts.{groups_text, BeginWith, IsTextOf, IsUnexpected, IsFaultOf}

-- the tokens begin with these groups, and with no further one
abbrev pub WriteGroups : List ℕ → List Token → List GroupTree → Type 0
WriteGroups text tokens groups = (ws : List Word) × AreWords text 0 tokens ws × BeginWith ws groups

-- the tokens begin with groups, and this text is kept of them
abbrev pub WriteText : List ℕ → List Token → GroupsText → Type 0
WriteText text tokens kept = (ws : List Word) × AreWords text 0 tokens ws × IsTextOf ws kept

-- the token of this number is the first with which the tokens begin no groups
abbrev pub StopAt : List ℕ → List Token → ℕ → Type 0
StopAt text tokens number = (ws : List Word) × AreWords text 0 tokens ws × IsUnexpected ws number

abbrev pub HaveFault : List ℕ → List Token → GroupsFault → Type 0
HaveFault text tokens fault = (ws : List Word) × AreWords text 0 tokens ws × IsFaultOf ws fault

-- want of memory aside, tokens that begin with groups are answered by what is kept of them
abbrev pub AnswersGroups : List ℕ → List Token → Result GroupsText GroupsFault → Type 0
AnswersGroups text tokens answer = (ws : List Word) → AreWords text 0 tokens ws → (groups : List GroupTree) → BeginWith ws groups → MatchResult answer (λ s. s ≡ groups_text groups) (λ x. x ≡ e.NoMemory)

-- and any others by the token at which they stop
abbrev pub AnswersStops : List ℕ → List Token → Result GroupsText GroupsFault → Type 0
AnswersStops text tokens answer = (ws : List Word) → AreWords text 0 tokens ws → (n : ℕ) → IsUnexpected ws n → MatchResult answer (λ s. ⊥) (λ x. (x ≡ e.Unexpected n) ⊎ (x ≡ e.NoMemory))
