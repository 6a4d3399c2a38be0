use Rattle.std.proofs.Common.{◌≡◌, ◌+◌, suc, length}
use Rattle.svr_cover_checked.specs.Seen.{seen}
use Rattle.svr_cover_made.specs.Plan.{with_parts, no_parts}
use Rattle.svr_cover_made.proofs.plan.all_parts.Given as goal

abbrev pub invariant-parts : goal.invariant-parts
invariant-parts l = record {
  place : l.at + length l.left ≡ length l.parts;
  made : with_parts (seen l.about) l.ranks 0 (no_parts (suc l.first)) l.parts ≡ with_parts (seen l.about) l.ranks l.at l.done l.left;
}

abbrev pub decreases-parts : goal.decreases-parts
decreases-parts l = length l.left
