use Rattle.std.proofs.Common.{List, ap, map}
use Rattle.std.proofs.lemmas.List.{take_rest}
use Rattle.svr_seq.specs.declared.tree.Act.{Act}
use Rattle.svr_seq.specs.SeqTerm.{act_terms}
use Rattle.svr_seq.specs.Line.{statement}
use Rattle.svr_seq.proofs.Pushed.{first_act}
use Rattle.svr_seq.proofs.stack.next_act.Goals as goal

pub returns-in_ok-push-in-len1-up-clause-tasks : goal.returns-in_ok-push-in-len1-up-clause-tasks
returns-in_ok-push-in-len1-up-clause-tasks c =
    first_act c.args.acts.now c.act-item.result _ c.args.stack.now _ c.in-len1-up.len_at_least c.act-item.is c.in_ok-push-in-len1-up.ensures.ok
    (ap (λ (l : List Act). map statement (act_terms l)) (take_rest c.args.acts.now 1))
