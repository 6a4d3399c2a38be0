use Rattle.svr_lrat_text.proofs.Exact.{told-fault, told-file, told-only_file, told-only_bad, told-only_large}
use Rattle.svr_lrat_text.proofs.reader.read_lrat.Goals as goal

pub returns-clause-file : goal.returns-clause-file
returns-clause-file c = told-file c.args.text.now c.new-cursor.result c.read_file.result c.new-cursor.ensures c.read_file.ensures.written c.read_file.ensures.within

pub returns-clause-fault : goal.returns-clause-fault
returns-clause-fault c = told-fault c.args.text.now c.new-cursor.result c.read_file.result c.new-cursor.ensures c.read_file.ensures.fault

pub returns-clause-only_file : goal.returns-clause-only_file
returns-clause-only_file c = told-only_file c.args.text.now c.new-cursor.result c.read_file.result c.new-cursor.ensures
    (told-file c.args.text.now c.new-cursor.result c.read_file.result c.new-cursor.ensures c.read_file.ensures.written c.read_file.ensures.within) c.read_file.ensures.fault

pub returns-clause-only_bad : goal.returns-clause-only_bad
returns-clause-only_bad c = told-only_bad c.args.text.now c.new-cursor.result c.read_file.result c.new-cursor.ensures
    (told-file c.args.text.now c.new-cursor.result c.read_file.result c.new-cursor.ensures c.read_file.ensures.written c.read_file.ensures.within) c.read_file.ensures.fault

pub returns-clause-only_large : goal.returns-clause-only_large
returns-clause-only_large c = told-only_large c.args.text.now c.new-cursor.result c.read_file.result c.new-cursor.ensures
    (told-file c.args.text.now c.new-cursor.result c.read_file.result c.new-cursor.ensures c.read_file.ensures.written c.read_file.ensures.within) c.read_file.ensures.fault
