use Rattle.svr_cover_laws.proofs.Numbers.{tuples_are}
use Rattle.svr_cover_laws.proofs.counts_of_tuples_are_numbers_of_samples.Goals as goal

pub returns : goal.returns
returns g c = λ class values groups counters ss laid stored few. tuples_are class values groups counters ss laid stored few
