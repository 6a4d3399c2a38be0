use Rattle.std.proofs.Common.{rules, arith, codes, ◌≡◌, ◌≤◌}
use Rattle.clap.specs.Matches.{found_of}
use Rattle.clap.specs.Walk.{one_of, rows_of}
use Rattle.svr_words.specs.Words.{number_or}
use Rattle.svr_words.proofs.Taking.{at_most}
use Rattle.svr_words.proofs.take.load_of.Goals as goal

pub overflow_cast-result : goal.overflow_cast-result
overflow_cast-result c =
    let is : c.number-count.result ≡ number_or 0 (one_of (codes "N") (rows_of (found_of c.args.matches.now))) = search rules in
    let top : number_or 0 (one_of (codes "N") (rows_of (found_of c.args.matches.now))) ≤ 2000 = at_most (found_of c.args.matches.now) (codes "N") 1 2000 0 c.requires.count (omega arith) in
    let most : c.number-count.result ≤ 2000 = rw is top in
    omega arith

pub returns-clause-small : goal.returns-clause-small
returns-clause-small c =
    let is : c.number-count.result ≡ number_or 0 (one_of (codes "N") (rows_of (found_of c.args.matches.now))) = search rules in
    let top : number_or 0 (one_of (codes "N") (rows_of (found_of c.args.matches.now))) ≤ 2000 = at_most (found_of c.args.matches.now) (codes "N") 1 2000 0 c.requires.count (omega arith) in
    rw is top
