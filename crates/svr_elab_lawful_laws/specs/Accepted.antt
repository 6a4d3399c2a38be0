-- The design of a script that was read and in which nothing is refused is lawful, where its constraints stand.
use Rattle.std.specs.Prelude.{◌≡◌, ◌≤◌, ℕ, List, [], MatchOption, ⊤}
use Rattle.svr_limits.specs.declared.limit.TheConstants.{HEIGHT_LIMIT}
use Rattle.svr_tree.specs.ScriptTree.{ScriptTree}
use Rattle.svr_tree.specs.ScriptGrammar.{IsLevelled, height}
use Rattle.svr_design.specs.Lawful.{IsLawful}
use Rattle.svr_elab_fit_laws.specs.ReadScripts.{ScriptFits}
use Rattle.svr_elab.specs.Script.{faults_of, design_in}
use Rattle.svr_elab_lawful_laws.specs.Places.{names_of}
use Rattle.svr_elab_lawful_laws.specs.Walks.{SetsStand}
use Rattle.svr_elab_lawful_laws.specs.Together.{BlocksStand}

-- the constraint blocks of its classes, and the sets behind calls
abbrev pub AcceptedIsLawful : Type 0
AcceptedIsLawful =
    (text : ℕ → List ℕ) (s : ScriptTree) → IsLevelled s → height s ≤ HEIGHT_LIMIT → ScriptFits s → faults_of text s ≡ []
    → MatchOption (design_in text s) ⊤ (λ d. BlocksStand d → SetsStand d (names_of text s) → IsLawful d)
