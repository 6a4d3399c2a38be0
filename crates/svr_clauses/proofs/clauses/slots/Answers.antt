use Rattle.svr_clauses.proofs.clauses.slots.Goals as goal

pub unknowns-requires : goal.unknowns-requires
unknowns-requires c = c.requires.properties
