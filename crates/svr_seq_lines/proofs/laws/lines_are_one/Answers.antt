use Rattle.svr_seq_lines.proofs.Excluded.{one_list}
use Rattle.svr_seq_lines.proofs.laws.lines_are_one.Goals as goal

pub returns : goal.returns
returns c = one_list
