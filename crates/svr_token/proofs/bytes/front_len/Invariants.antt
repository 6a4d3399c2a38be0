use Rattle.std.proofs.Common.{◌≡◌, true, take}
use Rattle.std.specs.List.{list_all}
use Rattle.svr_token.specs.Bytes.{class_test}
use Rattle.svr_token.proofs.bytes.front_len.Given as goal

abbrev pub invariant-loop-i : goal.invariant-loop-i
invariant-loop-i l = list_all (class_test l.class) (take l.i l.text) ≡ true
