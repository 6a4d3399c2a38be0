use Rattle.std.proofs.Common.{◌≡◌, ◌++◌, drop, fold}
use Rattle.svr_lrat_made.specs.Made.{clause_at, with_link}
use Rattle.svr_lrat_made.proofs.lines.resolved.Given as goal

abbrev pub invariant-loop-link : goal.invariant-loop-link
invariant-loop-link l =
    fold (with_link (l.given ++ l.derived)) l.so_far (drop l.link-index l.links) ≡ fold (with_link (l.given ++ l.derived)) (clause_at (l.given ++ l.derived) l.fn.step.start) l.links
