use Rattle.std.proofs.Common.{rules, arith, codes, ◌≡◌, ◌≤◌}
use Rattle.clap.specs.Matches.{found_of}
use Rattle.clap.specs.Walk.{one_of, rows_of}
use Rattle.svr_words.specs.Words.{number_or}
use Rattle.svr_words.proofs.Taking.{in_range}
use Rattle.svr_words.proofs.take.seq_of.Goals as goal

pub overflow_cast-result : goal.overflow_cast-result
overflow_cast-result c =
    let is : c.number-count.result ≡ number_or 1 (one_of (codes "count") (rows_of (found_of c.args.matches.now))) = search rules in
    let range = in_range (found_of c.args.matches.now) (codes "count") 1 100000 1 c.requires.count (omega arith) (omega arith) in
    let most : c.number-count.result ≤ 100000 = rw is range.1 in
    omega arith
