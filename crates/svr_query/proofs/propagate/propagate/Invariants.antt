use Rattle.svr_query.proofs.propagate.propagate.Given as goal

abbrev pub ghosts-count_visits : goal.ghosts-count_visits
ghosts-count_visits a = record { name = a.blank.name; parts = a.blank.parts }
