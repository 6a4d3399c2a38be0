use Rattle.std.proofs.Common.{◌≡◌, map, length}
use Rattle.svr_elab_names.specs.Tables.{prop_of}
use Rattle.svr_elab_random.specs.Random as spec
use Rattle.svr_elab_random.proofs.Marked.{first_marked}
use Rattle.svr_elab_random.proofs.random.mark.Given as goal

abbrev pub invariant-loop-i : goal.invariant-loop-i
invariant-loop-i l = record {
  count : length l.props.entries ≡ length l.initial.props.entries;
  marked : map prop_of l.props.entries ≡ first_marked (spec.with_list l.listed.keys) l.i (map prop_of l.initial.props.entries);
}
