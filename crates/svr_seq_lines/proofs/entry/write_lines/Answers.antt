use Rattle.std.proofs.Common.{refl, sym, subst, List}
use Rattle.std.specs.Prelude.{All}
use Rattle.svr_token.specs.declared.lexeme.Lexeme.{Lexeme}
use Rattle.svr_token.specs.declared.token.Token.{Token}
use Rattle.svr_token.specs.Tokens.{IsTokenOf}
use Rattle.svr_seq_lines.proofs.Telling.{on_ok, refusal_told, nothing_told}
use Rattle.svr_seq_lines.proofs.entry.write_lines.Goals as goal

pub lines_of-requires-clause-spelled : goal.lines_of-requires-clause-spelled
lines_of-requires-clause-spelled g c =
    subst (λ (ts : List Token). All (λ t. (l : Lexeme) × IsTokenOf c.args.text.now t l) ts) (sym c.deref.ensures.value) c.in-Ok.ensures.spelled

pub returns-in-Err-clause-tells : goal.returns-in-Err-clause-tells
returns-in-Err-clause-tells g c = refusal_told c.args.text.now c.args.seed c.args.count c.lexical.result _ c.lexical.ensures.refused

pub returns-in-Err-clause-kept : goal.returns-in-Err-clause-kept
returns-in-Err-clause-kept g c = on_ok c.lexical.result _ refl

pub returns-in-Err-clause-stops : goal.returns-in-Err-clause-stops
returns-in-Err-clause-stops g c = nothing_told c.args.text.now c.args.seed c.args.count c.lexical.result _ _ c.lexical.ensures.memory
