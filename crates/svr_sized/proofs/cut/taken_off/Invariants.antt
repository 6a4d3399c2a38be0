use Rattle.std.proofs.Common.{◌≡◌, ◌++◌, reverse, length}
use Rattle.svr_sized.proofs.cut.taken_off.Given as goal

abbrev pub invariant-loop-place : goal.invariant-loop-place
invariant-loop-place g l = record {
  whole : l.front ++ reverse l.turned ≡ l.fn.items;
  count : length l.turned ≡ l._place;
}
