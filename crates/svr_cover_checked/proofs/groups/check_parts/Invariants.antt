use Rattle.std.proofs.Common.{◌≡◌, ◌+◌, length}
use Rattle.svr_cover_checked.specs.Refusals.{parts_refusals, parts_total}
use Rattle.svr_cover_checked.specs.Seen.{seen}
use Rattle.svr_cover_checked.proofs.groups.check_parts.Given as goal

abbrev pub invariant-parts : goal.invariant-parts
invariant-parts l = record {
  place : l.at + length l.left ≡ length l.parts;
  refused : parts_refusals (seen l.about) 0 l.total l.parts ≡ parts_refusals (seen l.about) l.at l.sum l.left;
  total : parts_total (seen l.about) 0 l.total l.parts ≡ parts_total (seen l.about) l.at l.sum l.left;
}

abbrev pub decreases-parts : goal.decreases-parts
decreases-parts l = length l.left
