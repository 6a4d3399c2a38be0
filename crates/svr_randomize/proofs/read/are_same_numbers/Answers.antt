use Rattle.std.proofs.Common.{sym, ◌∙◌}
use Rattle.svr_randomize.proofs.Rows.{same_if_told}
use Rattle.svr_randomize.proofs.read.are_same_numbers.Goals as goal

pub returns : goal.returns
returns c = λ told. same_if_told c.args.numbers.now c.args.others.now (sym c.eq.ensures ∙ told)
