use Rattle.std.proofs.Common.{sym, ◌∙◌}
use Rattle.svr_token.proofs.Heads.{sign_taken}
use Rattle.svr_token.proofs.literal.split_sign.Goals as goal

pub returns-in-Some : goal.returns-in-Some
returns-in-Some c = sign_taken _ _ _ c.in-Some.ensures.cases.0 (sym c.is_sign_letter.ensures ∙ c.if-is_sign_letter.true)
