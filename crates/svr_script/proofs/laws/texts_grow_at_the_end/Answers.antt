use Rattle.svr_script.proofs.Runs.{text_joined, journal_joined, is_front, is_front_of_journal}
use Rattle.svr_script.proofs.laws.texts_grow_at_the_end.Goals as goal

pub returns : goal.returns
returns c = record {
  text = λ how es fs. text_joined how es fs;
  journal = λ es fs. journal_joined es fs;
  front = λ how es e n. is_front how es e n;
  journal_front = λ es e n. is_front_of_journal es e n;
}
