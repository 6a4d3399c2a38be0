use Rattle.std.proofs.Common.{◌≡◌, ◌+◌, length}
use Rattle.svr_cover_checked.specs.Design.{prop_from}
use Rattle.svr_cover_checked.proofs.design.prop_of.Given as goal

abbrev pub invariant-props : goal.invariant-props
invariant-props l = record {
  place : l.at + length l.left ≡ length l.props;
  found : prop_from 0 l.props l.name ≡ prop_from l.at l.left l.name;
}

abbrev pub decreases-props : goal.decreases-props
decreases-props l = length l.left
