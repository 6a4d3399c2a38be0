use Rattle.std.proofs.Common.{sym, subst}
use Rattle.svr_frame.specs.Sound.{IsSound}
use Rattle.svr_randomize_tests.proofs.Sound.{sample_is_sound}
use Rattle.svr_randomize_tests.proofs.sample.sample.Goals as goal

pub returns : goal.returns
returns c = subst IsSound (sym c.in_ok-frame.ensures) (sample_is_sound c.args.form)
