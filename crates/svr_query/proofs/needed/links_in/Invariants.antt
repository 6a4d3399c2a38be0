use Rattle.std.proofs.Common.{take}
use Rattle.svr_query.specs.Needed.{AreLinksIn}
use Rattle.svr_query.proofs.needed.links_in.Given as goal

abbrev pub invariant-loop-link : goal.invariant-loop-link
invariant-loop-link l = AreLinksIn l.clauses l.places (take l.link-index l.links) l.found.items
