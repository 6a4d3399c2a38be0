use Rattle.svr_watch.proofs.OfArena.{arena-of}
use Rattle.svr_cdcl.proofs.search.Search.arena.Goals as goal

pub returns : goal.returns
returns c =
    let a = c.self.inside in
    rw (c.arena.ensures, ← c.self.view_is) (arena-of a.store c.vars.ensures.kept)
