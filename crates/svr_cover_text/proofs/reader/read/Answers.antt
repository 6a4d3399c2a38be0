use Rattle.svr_cover_text.proofs.Way.{comes-from, told-memory, clause-groups, clause-within, clause-fault, clause-only_groups, clause-only_fault}
use Rattle.svr_cover_text.proofs.reader.read.Goals as goal

pub returns-in-Ok-clause-groups : goal.returns-in-Ok-clause-groups
returns-in-Ok-clause-groups c =
    clause-groups c.args.text.now c.args.tokens.now c.run_through.new.reading c.in-Ok.at c.told.result
    (comes-from c.args.text.now c.args.tokens.now c.run_through.new.reading c.new-reading.result c.in-Ok.at c.new-reading.ensures c.in-Ok.ensures.stops) c.told.ensures c.requires.spelled

pub returns-in-Ok-clause-within : goal.returns-in-Ok-clause-within
returns-in-Ok-clause-within c = clause-within c.args.tokens.now c.run_through.new.reading c.in-Ok.at c.told.result c.in-Ok.ensures.within c.told.ensures

pub returns-in-Ok-clause-fault : goal.returns-in-Ok-clause-fault
returns-in-Ok-clause-fault c =
    clause-fault c.args.text.now c.args.tokens.now c.run_through.new.reading c.in-Ok.at c.told.result
    (comes-from c.args.text.now c.args.tokens.now c.run_through.new.reading c.new-reading.result c.in-Ok.at c.new-reading.ensures c.in-Ok.ensures.stops) c.told.ensures c.requires.spelled

pub returns-in-Ok-clause-only_groups : goal.returns-in-Ok-clause-only_groups
returns-in-Ok-clause-only_groups c =
    clause-only_groups c.args.text.now c.args.tokens.now c.run_through.new.reading c.in-Ok.at c.told.result
    (comes-from c.args.text.now c.args.tokens.now c.run_through.new.reading c.new-reading.result c.in-Ok.at c.new-reading.ensures c.in-Ok.ensures.stops) c.told.ensures

pub returns-in-Ok-clause-only_fault : goal.returns-in-Ok-clause-only_fault
returns-in-Ok-clause-only_fault c =
    clause-only_fault c.args.text.now c.args.tokens.now c.run_through.new.reading c.in-Ok.at c.told.result
    (comes-from c.args.text.now c.args.tokens.now c.run_through.new.reading c.new-reading.result c.in-Ok.at c.new-reading.ensures c.in-Ok.ensures.stops) c.told.ensures

pub returns-in-Err-clause-fault : goal.returns-in-Err-clause-fault
returns-in-Err-clause-fault c = told-memory c.args.text.now c.args.tokens.now c.requires.spelled
