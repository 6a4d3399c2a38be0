use Rattle.svr_elab_lawful_laws.proofs.Reading.{accepted_reads}
use Rattle.svr_elab_lawful_laws.proofs.Statements.{statement_places_stand}
use Rattle.svr_elab_lawful_laws.proofs.law.accepted_reads.Goals as goal

pub returns-clause-reads : goal.returns-clause-reads
returns-clause-reads c = accepted_reads

pub returns-clause-places : goal.returns-clause-places
returns-clause-places c = statement_places_stand
