-- The design of a script in which nothing is refused is lawful, where its blocks and its statements stand.
use Rattle.std.specs.Prelude.{◌≡◌, ◌<◌, ◌^◌, ℕ, List, [], map, Some, MatchOption, ⊤}
use Rattle.svr_typed.specs.ClassTerm.{ClassTerm}
use Rattle.svr_typed.specs.StmtTerm.{DesignTerm}
use Rattle.svr_tree.specs.ScriptTree.{ScriptTree}
use Rattle.svr_tree.specs.ScriptGrammar.{IsLevelled}
use Rattle.svr_flat.specs.Flat.{flat_class_of}
use Rattle.svr_design.specs.Statements.{AllStmtsStand}
use Rattle.svr_design.specs.Lawful.{Every, EachFrom, BlockStands, IsLawful}
use Rattle.svr_elab_fault.specs.Refusals.{first_one}
use Rattle.svr_elab_block.specs.Blocks.{bodies, no_bodies}
use Rattle.svr_elab_fit_laws.specs.ReadScripts.{blocks_in}
use Rattle.svr_elab.specs.Script.{faults_of, design_in}
use Rattle.svr_elab_lawful_laws.specs.Places.{names_of}

abbrev pub BlocksStand : DesignTerm → Type 0
BlocksStand d = EachFrom (λ k (c : ClassTerm). Every (BlockStands (flat_class_of d.classes k).props) c.blocks) 0 d.classes

-- all that is left of a lawful design are its blocks and its statements, where the script does not declare too many blocks
abbrev pub LawfulButForWalks : Type 0
LawfulButForWalks =
    (text : ℕ → List ℕ) (s : ScriptTree) → IsLevelled s → blocks_in s.classes < 2 ^ 32 → faults_of text s ≡ []
    → MatchOption (design_in text s) ⊤ (λ d. BlocksStand d → AllStmtsStand d d.stmts → IsLawful d)

-- the blocks of its classes are those that elaboration gives
abbrev pub BlocksAreThose : Type 0
BlocksAreThose =
    (text : ℕ → List ℕ) (s : ScriptTree) → IsLevelled s → faults_of text s ≡ []
    → MatchOption (design_in text s) ⊤ (λ d. (bodies first_one (names_of text s) (no_bodies first_one) 0 s.classes).blocks ≡ Some (map (λ (c : ClassTerm). c.blocks) d.classes))
