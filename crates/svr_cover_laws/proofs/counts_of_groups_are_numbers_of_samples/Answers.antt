use Rattle.svr_cover_laws.proofs.Numbers.{groups_are}
use Rattle.svr_cover_laws.proofs.counts_of_groups_are_numbers_of_samples.Goals as goal

pub returns : goal.returns
returns g c = λ class values groups counters ss laid stored few. groups_are class values groups counters ss laid stored few
