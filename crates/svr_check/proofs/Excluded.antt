-- A file is no other text.
use Rattle.svr_lrat_text.proofs.Exact.{file-not-bad, file-not-large}
use Rattle.svr_check.specs.Checked.{by_grammar, by_size, FilesAreJudged}

pub files_are_judged : FilesAreJudged
files_are_judged text file number place is (by_grammar at bad number_is place_is) = file-not-bad text file at is bad
files_are_judged text file number place is (by_size at large number_is place_is) = file-not-large text file at is large
