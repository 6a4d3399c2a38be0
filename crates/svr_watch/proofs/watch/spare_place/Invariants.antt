use Rattle.std.proofs.Common.{length, ◌-◌, ◌≡◌, ℕ, ◌≤◌, ◌<◌, true, slice_index}
use Rattle.svr_watch.specs.Codes.{lit_of}
use Rattle.svr_trail.specs.Trail.{value_in, is_false}
use Rattle.svr_watch.proofs.watch.spare_place.Given as goal

abbrev pub invariant-places : goal.invariant-places
invariant-places l = record {
  low : 2 ≤ l.place;
  seen : (j : ℕ) → 2 ≤ j → j < l.place → is_false (value_in l.trail.entries (lit_of (slice_index l.codes j))) ≡ true;
}

abbrev pub decreases-places : goal.decreases-places
decreases-places l = length l.codes - l.place
