use Rattle.std.proofs.Common.{◌≡◌, length, arith}
use Rattle.std.proofs.lemmas.Grind.{common_steps}
use Rattle.svr_query.specs.Logged.{valuation_of}
use Rattle.svr_eval.specs.declared.assign.Assign.{Assign}
use Rattle.svr_found.specs.Listed.{rows_read}
use Rattle.svr_found.proofs.Listing.{listed_reads, listed_long}
use Rattle.svr_found.proofs.numbers.reading_found.Goals as goal

pub returns-clause-reads : goal.returns-clause-reads
returns-clause-reads c =
    let i = c.args.inputs.now in
    let a : Assign = record { values = c.in_ok-numbers.numbers; sizes = c.in_ok-sizes.sizes; script = c.in_ok-script.script } in
    let built : a ≡ record { values = rows_read i (valuation_of c.args.values.now) (length i.sizes.now); sizes = i.sizes.now; script = i.state.now.script } = grind (arith, common_steps) in
    listed_reads i (valuation_of c.args.values.now) c.requires.past c.requires.sizes a built

pub returns-clause-long : goal.returns-clause-long
returns-clause-long c =
    let i = c.args.inputs.now in
    let a : Assign = record { values = c.in_ok-numbers.numbers; sizes = c.in_ok-sizes.sizes; script = c.in_ok-script.script } in
    let built : a ≡ record { values = rows_read i (valuation_of c.args.values.now) (length i.sizes.now); sizes = i.sizes.now; script = i.state.now.script } = grind (arith, common_steps) in
    listed_long i (valuation_of c.args.values.now) c.requires.past c.requires.sizes a built
