use Rattle.svr_words.proofs.take.run_of.Goals as goal

pub is_set-conflicts-requires : goal.is_set-conflicts-requires
is_set-conflicts-requires c = c.requires.conflicts

pub is_set-lrat-requires : goal.is_set-lrat-requires
is_set-lrat-requires c = c.requires.lrat

pub returns-clause-run : goal.returns-clause-run
returns-clause-run c = λ i. record { opts = c.options-opts.ensures.options i; conflicts = c.is_set-conflicts.ensures i; lrat = c.is_set-lrat.ensures i }
