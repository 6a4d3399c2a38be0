use Rattle.std.proofs.Common.{rules, arith, codes, sym, subst, ◌≡◌, ◌≤◌}
use Rattle.clap.specs.Matches.{found_of}
use Rattle.clap.specs.Walk.{one_of, rows_of}
use Rattle.svr_words.specs.Words.{number_or}
use Rattle.svr_words.proofs.Taking.{in_range}
use Rattle.svr_words.proofs.take.options.Goals as goal

pub overflow_cast-result : goal.overflow_cast-result
overflow_cast-result c =
    let is : c.number-size_cap.result ≡ number_or 256 (one_of (codes "size-cap") (rows_of (found_of c.args.matches.now))) = search rules in
    let range = in_range (found_of c.args.matches.now) (codes "size-cap") 1 2048 256 c.requires.size_cap (omega arith) (omega arith) in
    let most : c.number-size_cap.result ≤ 2048 = rw is range.1 in
    omega arith

pub returns-clause-ranges : goal.returns-clause-ranges
returns-clause-ranges c =
    let cap_is : c.number-size_cap.result ≡ number_or 256 (one_of (codes "size-cap") (rows_of (found_of c.args.matches.now))) = search rules in
    let cap = in_range (found_of c.args.matches.now) (codes "size-cap") 1 2048 256 c.requires.size_cap (omega arith) (omega arith) in
    let some : 1 ≤ c.number-size_cap.result = rw cap_is cap.0 in
    let most : c.number-size_cap.result ≤ 2048 = rw cap_is cap.1 in
    let budget_is : c.number-budget.result ≡ number_or 131072 (one_of (codes "budget") (rows_of (found_of c.args.matches.now))) = search rules in
    let budget = in_range (found_of c.args.matches.now) (codes "budget") 1 16777216 131072 c.requires.budget (omega arith) (omega arith) in
    let least : 1 ≤ c.number-budget.result = rw budget_is budget.0 in
    (least, some, most)
