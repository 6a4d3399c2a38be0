use Rattle.std.proofs.Common.{sym}
use Rattle.std.specs.Prelude.{slice_index}
use Rattle.svr_phase.proofs.Preferred.{same_sizes_in}
use Rattle.svr_values.proofs.chosen.with_chosen.Goals as goal

pub returns : goal.returns
returns c = λ k. record {
  element = λ p i. c.in_ok-values.ensures p i k;
  size = λ p. sym (same_sizes_in c.args.chosen.now p (slice_index c.args.a.sizes p)) k;
  script = λ v. slice_index c.args.a.script v;
}
