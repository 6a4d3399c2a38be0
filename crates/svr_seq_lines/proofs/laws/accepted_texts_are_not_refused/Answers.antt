use Rattle.svr_seq_lines.proofs.Excluded.{not_refused}
use Rattle.svr_seq_lines.proofs.laws.accepted_texts_are_not_refused.Goals as goal

pub returns : goal.returns
returns c = not_refused
