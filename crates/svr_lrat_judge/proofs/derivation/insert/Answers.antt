use Rattle.svr_lrat_judge.proofs.derivation.insert.Goals as goal

pub returns : goal.returns
returns c = λ i q. c.in_ok-insert.ensures.updates.0 q i
