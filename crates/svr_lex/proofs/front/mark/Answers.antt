use Rattle.svr_lex.proofs.Lexemes.{mark_found, nothing_found}
use Rattle.svr_lex.proofs.front.mark.Goals as goal

pub returns-in-Some : goal.returns-in-Some
returns-in-Some c = mark_found _ _ _ c.requires c.in-Some.ensures.found

pub returns-in-None : goal.returns-in-None
returns-in-None c = nothing_found _ c.requires c.in-None.ensures.none
