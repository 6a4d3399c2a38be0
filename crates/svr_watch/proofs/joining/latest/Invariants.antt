use Rattle.std.proofs.Common.{◌≡◌, ◌-◌, ◌<◌, ◌≤◌, ℕ, take, length, get_or, nat_lt}
use Rattle.svr_trail.specs.Trail.{is_false, value_in}
use Rattle.svr_watch.specs.Codes.{lit_of}
use Rattle.svr_watch.specs.Watch.{IsLatest}
use Rattle.svr_watch.proofs.joining.latest.Given as goal

abbrev pub invariant-places : goal.invariant-places
invariant-places l = record {
  low : l.from ≤ l.best;
  high : l.best < l.place;
  end : l.place ≤ length l.codes;
  latest : IsLatest l.trail.entries l.codes l.from l.place l.best;
  at : (h : ℕ) → h ≤ length l.trail.entries → is_false (value_in (take h l.trail.entries) (lit_of (get_or l.codes l.best 0))) ≡ nat_lt l.last h;
}

abbrev pub decreases-places : goal.decreases-places
decreases-places l = length l.codes - l.place
