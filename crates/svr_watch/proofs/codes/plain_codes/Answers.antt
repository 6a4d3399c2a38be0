use Rattle.std.proofs.Common.{◌∙◌, sym}
use Rattle.svr_watch.proofs.codes.plain_codes.Goals as goal

pub returns : goal.returns
returns c = record { codes = c.in_ok-codes.ensures; plain = sym c.have_opposites.ensures ∙ c.if-have_opposites.false }
