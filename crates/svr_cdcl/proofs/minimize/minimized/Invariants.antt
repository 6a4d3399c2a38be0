use Rattle.std.proofs.Common.{◌≡◌, ◌≤◌, true}
use Rattle.svr_chain.specs.Clauses.{has}
use Rattle.svr_watch.specs.Store.{clauses_of}
use Rattle.svr_cdcl.specs.Marks.{are_below}
use Rattle.svr_cdcl.specs.Walk.{Walk}
use Rattle.svr_cdcl.proofs.minimize.minimized.Given as goal

abbrev pub invariant-walk : goal.invariant-walk
invariant-walk l = record {
  walk : Walk (clauses_of l.store) l.trail.entries l.fn.number l.marks.entries l.lits.items l.links.items l.left;
  short : l.left ≤ l.fn.place;
  pivot : has l.lits.items l.fn.pivot ≡ true;
  below : are_below l.trail.entries l.fn.place l.fn.pivot l.marks.entries l.lits.items ≡ true;
}

abbrev pub decreases-walk : goal.decreases-walk
decreases-walk l = l.left
