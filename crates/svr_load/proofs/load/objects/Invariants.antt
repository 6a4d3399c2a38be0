use Rattle.std.proofs.Common.{◌≡◌, string_bytes}
use Rattle.svr_load.specs.Script.{up_to, object_text}
use Rattle.svr_load.proofs.load.objects.Given as goal

abbrev pub invariant-loop-i : goal.invariant-loop-i
invariant-loop-i l = string_bytes l.text ≡ up_to l.i object_text
