use Rattle.std.proofs.Common.{◌≡◌, ◌++◌, ◌-◌, ℕ}
use Rattle.std.specs.Prelude.{slice_index}
use Rattle.svr_eval.specs.Reading.{Reading}
use Rattle.svr_frame.specs.Occurrences.{elements_from}
use Rattle.svr_expand.specs.Operands.{operand_exprs, AllReady}
use Rattle.svr_expand.proofs.pairs.add_elements.Given as goal

abbrev pub invariant-loop-at : goal.invariant-loop-at
invariant-loop-at l = record {
  fine : (a : Reading) (depth : ℕ) → AllReady a depth l.initial.out → AllReady a depth l.out;
  told : operand_exprs l.out ++ elements_from l.prop l.width l.signed l.at (slice_index l.set.sizes.now l.prop - l.at)
      ≡ operand_exprs l.initial.out ++ elements_from l.prop l.width l.signed 0 (slice_index l.set.sizes.now l.prop);
}
