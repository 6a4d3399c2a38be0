use Rattle.svr_seq_made.proofs.Told.{told-made, told-sound, told-refused, told-fault}
use Rattle.svr_seq_made.proofs.Only.{found-only-seq, found-only-refusal, fault-only-seq, fault-only-refusal}
use Rattle.svr_seq_made.proofs.entry.read_seq.Goals as goal

pub returns-in-Ok-clause-made : goal.returns-in-Ok-clause-made
returns-in-Ok-clause-made c = told-made c.args.text.now c.args.tokens.now c.in-Ok.found c.make.result c.in-Ok.ensures.tree c.make.ensures

pub returns-in-Ok-clause-refused : goal.returns-in-Ok-clause-refused
returns-in-Ok-clause-refused c = told-refused c.args.text.now c.args.tokens.now c.in-Ok.found c.make.result c.in-Ok.ensures.tree c.make.ensures

pub returns-in-Err-clause-refused : goal.returns-in-Err-clause-refused
returns-in-Err-clause-refused c = told-fault c.args.text.now c.args.tokens.now c.in-Err.fault c.refusal_of.result c.refusal_of.ensures c.in-Err.ensures.fault

pub returns-in-Ok-clause-sound : goal.returns-in-Ok-clause-sound
returns-in-Ok-clause-sound c = told-sound c.args.text.now c.args.tokens.now c.in-Ok.found c.make.result c.in-Ok.ensures.tree c.make.ensures

pub returns-in-Ok-clause-only_seq : goal.returns-in-Ok-clause-only_seq
returns-in-Ok-clause-only_seq c = found-only-seq c.args.text.now c.args.tokens.now c.in-Ok.found c.make.result c.in-Ok.ensures.only_tree c.make.ensures

pub returns-in-Ok-clause-only_refusal : goal.returns-in-Ok-clause-only_refusal
returns-in-Ok-clause-only_refusal c = found-only-refusal c.args.text.now c.args.tokens.now c.in-Ok.found c.make.result c.in-Ok.ensures.only_tree c.in-Ok.ensures.only_fault c.make.ensures

pub returns-in-Err-clause-only_seq : goal.returns-in-Err-clause-only_seq
returns-in-Err-clause-only_seq c = fault-only-seq c.args.text.now c.args.tokens.now c.in-Err.fault c.refusal_of.result c.refusal_of.ensures c.in-Err.ensures.only_tree

pub returns-in-Err-clause-only_refusal : goal.returns-in-Err-clause-only_refusal
returns-in-Err-clause-only_refusal c = fault-only-refusal c.args.text.now c.args.tokens.now c.in-Err.fault c.refusal_of.result c.refusal_of.ensures c.in-Err.ensures.only_tree c.in-Err.ensures.only_fault
