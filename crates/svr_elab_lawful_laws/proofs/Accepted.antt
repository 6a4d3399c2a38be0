-- All that is left of a lawful design are its constraints.
use Rattle.std.proofs.Common.{Option}
use Rattle.std.specs.Prelude.{⊤, MatchOption}
use Rattle.svr_typed.specs.StmtTerm.{DesignTerm}
use Rattle.svr_design.specs.Statements.{AllStmtsStand}
use Rattle.svr_design.specs.Lawful.{IsLawful}
use Rattle.svr_elab.specs.Script.{design_in}
use Rattle.svr_elab_lawful_laws.specs.Places.{names_of}
use Rattle.svr_elab_lawful_laws.specs.Walks.{SetsStand, BlocksNamed}
use Rattle.svr_elab_lawful_laws.specs.Together.{BlocksStand}
use Rattle.svr_elab_lawful_laws.specs.Accepted.{AcceptedIsLawful}
use Rattle.svr_elab_lawful_laws.proofs.Together.{lawful_but_for_walks}
use Rattle.svr_elab_lawful_laws.proofs.Initial.{two, statements_stand}
use Rattle.svr_elab_lawful_laws.proofs.Sets.{units_are_read}
use Rattle.svr_elab_lawful_laws.proofs.Named.{blocks_are_named}

pub accepted_is_lawful : AcceptedIsLawful
accepted_is_lawful text s is low fits f =
    let o : Option DesignTerm = design_in text s in
    let walks : MatchOption o ⊤ (λ d. SetsStand d (names_of text s) → AllStmtsStand d d.stmts) =
    two (λ d. BlocksNamed d (names_of text s)) (λ d. BlocksNamed d (names_of text s) → SetsStand d (names_of text s) → AllStmtsStand d d.stmts) (λ d. SetsStand d (names_of text s) → AllStmtsStand d d.stmts)
    (λ d b k. k b) o (blocks_are_named text s is f) (statements_stand text s is (units_are_read s is low fits) f) in
    two (λ d. BlocksStand d → AllStmtsStand d d.stmts → IsLawful d) (λ d. SetsStand d (names_of text s) → AllStmtsStand d d.stmts) (λ d. BlocksStand d → SetsStand d (names_of text s) → IsLawful d)
    (λ d k w blocks sets. k blocks (w sets)) o (lawful_but_for_walks text s is fits.few_blocks f) walks
