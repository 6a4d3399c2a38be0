use Rattle.svr_lex.proofs.Lexemes.{lacking, other_only}
use Rattle.svr_lex.proofs.front.literal_or_mark.Goals as goal

pub returns-in-LacksDigit : goal.returns-in-LacksDigit
returns-in-LacksDigit c = lacking _ c.requires c.in-LacksDigit.ensures

pub mark-requires : goal.mark-requires
mark-requires c = other_only _ c.requires c.in-Absent.ensures
