use Rattle.svr_randomize.proofs.clauses.made.Goals as goal

pub returns : goal.returns
returns c = record { sizes = c.in_ok-read.ensures.sizes; read = c.in_ok-read.ensures.read; items = c.in_ok-items.ensures }
