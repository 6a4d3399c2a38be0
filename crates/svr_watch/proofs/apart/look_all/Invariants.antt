use Rattle.std.proofs.Common.{◌≡◌, ◌+◌, ◌-◌, ◌≤◌, drop, length}
use Rattle.svr_trail.specs.Trail.{IsGrown}
use Rattle.svr_watch.specs.Store.{clauses_of, visits_in}
use Rattle.svr_watch.specs.Watch.{AreSettled}
use Rattle.svr_watch.proofs.apart.look_all.Given as goal

abbrev pub invariant-places : goal.invariant-places
invariant-places g l = record {
  vars : l.trail.vars ≡ l.fn.trail.vars;
  grown : IsGrown (clauses_of l.store) l.fn.trail.entries l.trail.entries;
  settled : AreSettled l.trail.entries l.seen l.store;
  high : l.seen ≤ length l.store.held;
  steps : l.steps + visits_in (drop l.seen l.store.held) ≤ l.fn.steps + visits_in (drop l.fn.seen l.store.held);
}

abbrev pub decreases-places : goal.decreases-places
decreases-places g l = length l.store.held - l.seen
