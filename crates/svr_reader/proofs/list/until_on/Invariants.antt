use Rattle.std.proofs.Common.{List, length, ◌+◌, ◌-◌, ◌≤◌, ◌<◌, ◌^◌}
use Rattle.svr_tree.specs.Tokens.{Tok}
use Rattle.svr_reader.specs.Calls.{cap, Until}
use Rattle.svr_reader.proofs.list.until_on.Given as goal

abbrev pub invariant-loop-turn : goal.invariant-loop-turn
invariant-loop-turn g l = record {
  keeps : (r : _) (j : List Tok) → Until l.end (goal.F-post g l.one) (cap - l._turn) (l.found, l.height) l.cursor r j
      → Until l.end (goal.F-post g l.one) cap (l.fn.first, l.fn.first_height) l.fn.cursor r j;
  few : l._turn + length l.cursor ≤ l.left;
  low : l.left < 2 ^ 32;
}
