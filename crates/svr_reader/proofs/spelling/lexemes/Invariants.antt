use Rattle.std.proofs.Common.{take}
use Rattle.svr_reader.specs.Spelled.{AreSpelled, SpellNoOther}
use Rattle.svr_reader.proofs.spelling.lexemes.Given as goal

abbrev pub invariant-loop-token : goal.invariant-loop-token
invariant-loop-token l = record {
  spelled : AreSpelled l.text (take l.token-index l.tokens) l.found.items;
  exact : SpellNoOther l.text (take l.token-index l.tokens) l.found.items;
}
