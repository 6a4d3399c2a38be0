use Rattle.std.proofs.Common.{◌≡◌, true, take}
use Rattle.std.specs.List.{list_all}
use Rattle.svr_lrat_text.specs.Words.{is_of_kind}
use Rattle.svr_lrat_text.proofs.cursor.front_len.Given as goal

abbrev pub invariant-loop-i : goal.invariant-loop-i
invariant-loop-i l = list_all (is_of_kind l.blank) (take l.i l.text) ≡ true
