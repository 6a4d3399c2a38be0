use Rattle.std.proofs.Common.{◌≡◌, ◌*◌}
use Rattle.svr_eval.specs.Value.{copied}
use Rattle.svr_eval.proofs.parts.copied.Given as goal

abbrev pub invariant-loop-made : goal.invariant-loop-made
invariant-loop-made l = record {
  value : l.whole.value ≡ copied l.made l.part.width l.part.value;
  width : l.whole.width ≡ l.made * l.part.width;
}
