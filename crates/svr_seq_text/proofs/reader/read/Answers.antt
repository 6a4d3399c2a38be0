use Rattle.svr_seq_text.proofs.Way.{comes-from, told-memory, clause-tree, clause-fault, clause-only_tree, clause-only_fault}
use Rattle.svr_seq_text.proofs.Few.{few-prods}
use Rattle.svr_seq_text.proofs.reader.read.Goals as goal

pub returns-in-Ok-clause-tree : goal.returns-in-Ok-clause-tree
returns-in-Ok-clause-tree c =
    clause-tree c.args.text.now c.args.tokens.now c.in-Ok.stuck c.run_through.new.reading c.told.result
    (comes-from c.args.text.now c.args.tokens.now c.in-Ok.stuck c.run_through.new.reading c.new-reading.result c.new-reading.ensures c.in-Ok.ensures) c.told.ensures c.requires.spelled

pub returns-in-Ok-clause-fault : goal.returns-in-Ok-clause-fault
returns-in-Ok-clause-fault c =
    clause-fault c.args.text.now c.args.tokens.now c.in-Ok.stuck c.run_through.new.reading c.told.result
    (comes-from c.args.text.now c.args.tokens.now c.in-Ok.stuck c.run_through.new.reading c.new-reading.result c.new-reading.ensures c.in-Ok.ensures) c.told.ensures c.requires.spelled

pub returns-in-Ok-clause-only_tree : goal.returns-in-Ok-clause-only_tree
returns-in-Ok-clause-only_tree c =
    clause-only_tree c.args.text.now c.args.tokens.now c.in-Ok.stuck c.run_through.new.reading c.told.result
    (comes-from c.args.text.now c.args.tokens.now c.in-Ok.stuck c.run_through.new.reading c.new-reading.result c.new-reading.ensures c.in-Ok.ensures) c.told.ensures

pub returns-in-Ok-clause-only_fault : goal.returns-in-Ok-clause-only_fault
returns-in-Ok-clause-only_fault c =
    clause-only_fault c.args.text.now c.args.tokens.now c.in-Ok.stuck c.run_through.new.reading c.told.result
    (comes-from c.args.text.now c.args.tokens.now c.in-Ok.stuck c.run_through.new.reading c.new-reading.result c.new-reading.ensures c.in-Ok.ensures) c.told.ensures

pub returns-in-Err-clause-fault : goal.returns-in-Err-clause-fault
returns-in-Err-clause-fault c = told-memory c.args.text.now c.args.tokens.now c.requires.spelled

pub returns-in-Ok-clause-few : goal.returns-in-Ok-clause-few
returns-in-Ok-clause-few c =
    few-prods c.args.text.now c.args.tokens.now c.told.result c.requires.few
    (clause-tree c.args.text.now c.args.tokens.now c.in-Ok.stuck c.run_through.new.reading c.told.result
    (comes-from c.args.text.now c.args.tokens.now c.in-Ok.stuck c.run_through.new.reading c.new-reading.result c.new-reading.ensures c.in-Ok.ensures) c.told.ensures c.requires.spelled)
