use Rattle.std.proofs.Common.{◌≡◌, [], map}
use Rattle.std.specs.List.{range_with_len}
use Rattle.svr_frame.specs.Frame.{frame_term}
use Rattle.svr_frame.specs.Making.{is_free}
use Rattle.svr_frame_of.specs.Callable.{with_free}
use Rattle.svr_frame_of.proofs.free.free_sizes.Given as goal

abbrev pub invariant-loop-prop : goal.invariant-loop-prop
invariant-loop-prop l = record {
  same : with_free (frame_term l.frame) [] ≡ with_free (frame_term l.initial.frame) [];
  told : l.free ≡ map (is_free (frame_term l.initial.frame)) (range_with_len 0 l.prop);
}
