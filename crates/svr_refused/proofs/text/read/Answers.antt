use Rattle.std.proofs.Common.{sym, subst, List}
use Rattle.std.specs.Prelude.{All}
use Rattle.svr_token.specs.declared.Lexeme.{Lexeme}
use Rattle.svr_token.specs.declared.token.Token.{Token}
use Rattle.svr_token.specs.Tokens.{IsTokenOf}
use Rattle.svr_refused.proofs.text.read.Goals as goal

pub parse-requires-clause-spelled : goal.parse-requires-clause-spelled
parse-requires-clause-spelled c =
    subst (λ (ts : List Token). All (λ t. (l : Lexeme) × IsTokenOf c.args.text.now t l) ts) (sym c.deref.ensures.value) c.in-Ok.ensures.spelled
