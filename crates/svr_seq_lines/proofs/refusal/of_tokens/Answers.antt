use Rattle.std.proofs.Common.{sym, subst}
use Rattle.svr_seq_made.specs.declared.fault.SeqFault.TheVariants.{Refused}
use Rattle.svr_seq_made.specs.Reading.{IsRefused}
use Rattle.svr_seq_lines.specs.declared.end.End.{End}
use Rattle.svr_seq_lines.specs.Sequence.{Refuses}
use Rattle.svr_seq_lines.proofs.Telling.{token_refused}
use Rattle.svr_seq_lines.proofs.refusal.of_tokens.Goals as goal

pub returns-in-Refused-clause-refused : goal.returns-in-Refused-clause-refused
returns-in-Refused-clause-refused c =
    let first : IsRefused c.args.text.now c.args.tokens.now (Refused c.in-Refused.why c.in-Refused.token) = subst (λ f. IsRefused c.args.text.now c.args.tokens.now f) c.in-Refused.is c.requires.fault in
    subst (λ (said : End). Refuses c.args.text.now said) (sym c.at_token.ensures) (token_refused c.args.text.now c.args.tokens.now c.in-Refused.why c.in-Refused.token c.requires.tokens first)
