use Rattle.std.proofs.Common.{ap, Err}
use Rattle.svr_lex.proofs.Lexemes.{running_on, zero_sized, wide_at}
use Rattle.svr_lex.proofs.Cuts.{literal_at}
use Rattle.svr_lex.proofs.front.literal_within.Goals as goal

pub returns-then-runs_on : goal.returns-then-runs_on
returns-then-runs_on c = running_on _ _ _ c.requires.starts c.requires.begins (c.runs_on.ensures.yes c.if-runs_on.true)

pub returns-in-Ok : goal.returns-in-Ok
returns-in-Ok c =
    literal_at _ _ _ _ _ c.requires.starts c.requires.begins (c.runs_on.ensures.no c.if-runs_on.false) c.in-Ok.ensures.lawful c.split_at.ensures.front c.split_at.ensures.back

pub returns-in-Err-ZeroSize : goal.returns-in-Err-ZeroSize
returns-in-Err-ZeroSize c =
    zero_sized _ _ _ c.requires.starts c.requires.begins (c.in-Err-ZeroSize.ensures.zero_size (ap (λ x. Err x) c.in-Err-ZeroSize.field-0-is))

pub returns-in-Err-TooWide : goal.returns-in-Err-TooWide
returns-in-Err-TooWide c =
    let wide = c.in-Err-TooWide.ensures.too_wide (ap (λ x. Err x) c.in-Err-TooWide.field-0-is) in
    wide_at _ _ _ c.requires.starts c.requires.begins (c.runs_on.ensures.no c.if-runs_on.false) wide.1 wide.0
