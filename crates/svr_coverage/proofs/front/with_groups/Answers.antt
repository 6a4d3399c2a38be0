use Rattle.std.proofs.Common.{sym, subst, List}
use Rattle.std.specs.Prelude.{All}
use Rattle.svr_token.specs.declared.lexeme.Lexeme.{Lexeme}
use Rattle.svr_token.specs.declared.token.Token.{Token}
use Rattle.svr_token.specs.Tokens.{IsTokenOf, IsTokenized}
use Rattle.svr_coverage.specs.Front.{BeginsWith}
use Rattle.svr_coverage.proofs.front.with_groups.Goals as goal

pub groups_of-requires-clause-spelled : goal.groups_of-requires-clause-spelled
groups_of-requires-clause-spelled c =
    subst (λ (ts : List Token). All (λ t. (l : Lexeme) × IsTokenOf c.args.text.now t l) ts) (sym c.deref.ensures.value) c.requires.spelled

pub groups_of-requires-clause-tokens : goal.groups_of-requires-clause-tokens
groups_of-requires-clause-tokens c = subst (λ (ts : List Token). IsTokenized c.args.text.now ts) (sym c.deref.ensures.value) c.requires.tokens

pub returns-in-Ok-clause-front : goal.returns-in-Ok-clause-front
returns-in-Ok-clause-front c = subst (λ (ts : List Token). BeginsWith c.args.text.now ts c.in-Ok.groups) c.deref.ensures.value c.in-Ok.ensures.groups
