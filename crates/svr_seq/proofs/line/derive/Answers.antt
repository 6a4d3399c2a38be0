use Rattle.std.proofs.lemmas.Result.{IfOk-weaker}
use Rattle.svr_seq.specs.SeqTerm.{seq_term}
use Rattle.svr_seq.proofs.Lawful.{ends_derived}
use Rattle.svr_seq.proofs.line.derive.Goals as goal

pub returns-clause-derived : goal.returns-clause-derived
returns-clause-derived c = IfOk-weaker c.line_within.result _ _ (λ end is sound. ends_derived (seq_term c.args.seq.now) sound c.args.draws.now end is) c.line_within.ensures.line
