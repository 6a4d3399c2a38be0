-- The design of a script in which nothing is refused: it is there, and its constraints stand in it.
use Rattle.std.specs.Prelude.{◌≡◌, ◌≤◌, ℕ, List, [], MatchOption, ⊤}
use Rattle.svr_limits.specs.declared.limit.TheConstants.{HEIGHT_LIMIT}
use Rattle.svr_token.specs.declared.Token.{Token}
use Rattle.svr_tree.specs.ScriptTree.{ScriptTree}
use Rattle.svr_tree.specs.ScriptGrammar.{IsLevelled, height}
use Rattle.svr_design.specs.Lawful.{IsLawful}
use Rattle.svr_elab_fit_laws.specs.ReadScripts.{ScriptFits, IsReadFrom}
use Rattle.svr_elab.specs.Script.{faults_of, design_in}
use Rattle.svr_elab_expr_laws.specs.Known.{IsKnown}
use Rattle.svr_elab_item_laws.specs.Lawful.{ThereIs}
use Rattle.svr_elab_lawful_laws.specs.Places.{names_of}
use Rattle.svr_elab_lawful_laws.specs.Walks.{SetsStand}
use Rattle.svr_elab_lawful_laws.specs.Together.{BlocksStand}

-- a script that was read: the grammar is met, nothing is higher than the limit, and literals fit
pub record WasRead (s : ScriptTree) : Type 0 where
  pub levelled : IsLevelled s
  pub low : height s ≤ HEIGHT_LIMIT
  pub fits : ScriptFits s

-- ---- the laws

abbrev pub AcceptedHasADesign : Type 0
AcceptedHasADesign = (text : ℕ → List ℕ) (s : ScriptTree) → IsLevelled s → faults_of text s ≡ [] → IsKnown (design_in text s)

abbrev pub AcceptedBlocksStand : Type 0
AcceptedBlocksStand = (text : ℕ → List ℕ) (s : ScriptTree) → WasRead s → faults_of text s ≡ [] → MatchOption (design_in text s) ⊤ BlocksStand

abbrev pub AcceptedSetsStand : Type 0
AcceptedSetsStand = (text : ℕ → List ℕ) (s : ScriptTree) → IsLevelled s → faults_of text s ≡ [] → MatchOption (design_in text s) ⊤ (λ d. SetsStand d (names_of text s))

-- a script that was read and in which nothing is refused has a design, and it is lawful
abbrev pub WhatIsAcceptedIsLawful : Type 0
WhatIsAcceptedIsLawful = (text : ℕ → List ℕ) (s : ScriptTree) → WasRead s → faults_of text s ≡ [] → ThereIs IsLawful (design_in text s)

-- a script that the tokens of a text spell, `text` saying what each token spells
abbrev pub WhatIsReadAndAcceptedIsLawful : Type 0
WhatIsReadAndAcceptedIsLawful = (source : List ℕ) (tokens : List Token) (text : ℕ → List ℕ) (s : ScriptTree) → IsReadFrom source tokens s → faults_of text s ≡ [] → ThereIs IsLawful (design_in text s)
