use Rattle.std.proofs.Common.{◌≡◌, ◌++◌, List, map, reverse, length}
use Rattle.std.specs.Prelude.{slice_index}
use Rattle.svr_typed.specs.ExprTerm.{expr_term}
use Rattle.svr_mention.specs.declared.mention.Mention.{Mention}
use Rattle.svr_expand.specs.Expanded.{findings, asked_exprs, wished_exprs}
use Rattle.svr_expand.specs.Targeted.{HoldsTargets}
use Rattle.svr_expand.proofs.Sorting.{wished_before}
use Rattle.svr_expand.proofs.sort.sorted.Given as goal

abbrev pub invariant-loop-finding : goal.invariant-loop-finding
invariant-loop-finding l = record {
  hard : asked_exprs (findings l.left) ++ reverse (map expr_term l.hard) ≡ asked_exprs (findings l.fn.found);
  soft : (ts : List Mention) × HoldsTargets (λ p. slice_index l.sizes p) l.targets ts
      × (map expr_term l.soft ++ wished_before (λ p. slice_index l.sizes p) ts (findings l.left) ≡ wished_exprs (λ p. slice_index l.sizes p) (findings l.fn.found));
}

abbrev pub decreases-loop-finding : goal.decreases-loop-finding
decreases-loop-finding l = length l.left
