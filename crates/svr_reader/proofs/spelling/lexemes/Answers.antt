use Rattle.std.proofs.Common.{[], ◌∷◌, refl}
use Rattle.svr_token.specs.declared.Lexeme.{Lexeme}
use Rattle.svr_reader.specs.Spelled.{SpellNoOther}
use Rattle.svr_reader.proofs.Spelled.{spelled_more, other_more}
use Rattle.svr_reader.proofs.spelling.lexemes.Goals as goal

pub loop-token-preserved : goal.loop-token-preserved
loop-token-preserved c = record {
  spelled = rw c.in_ok-push.ensures.items (spelled_more c.args.text.now c.args.tokens.now c.loop-token.found.items c.spelled.result c.loop-token.token-index _ c.loop-token-test.true c.loop-token.invariant.spelled c.spelled.ensures.is);
  exact = rw c.in_ok-push.ensures.items (other_more c.args.text.now c.args.tokens.now c.loop-token.found.items c.spelled.result c.loop-token.token-index _ c.loop-token-test.true c.loop-token.invariant.spelled c.loop-token.invariant.exact c.spelled.ensures.exact);
}
