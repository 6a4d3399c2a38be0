use Rattle.std.proofs.Common.{◌≡◌, ◌-◌, ◌+◌, ◌^◌, ◌<◌, ◌≤◌, length}
use Rattle.svr_tree.specs.ExprTree.{expr_tree}
use Rattle.svr_reader.specs.Outcomes.{turns}
use Rattle.svr_reader.specs.Calls.{cap, height_view}
use Rattle.svr_expr.specs.ExprRules.{suffix_step, with_suffixes, within}
use Rattle.svr_expr.proofs.reader.Reader.with_suffixes.Given as goal

abbrev pub invariant-loop-turn : goal.invariant-loop-turn
invariant-loop-turn g l = record {
  gives : within cap l.self.room (with_suffixes l.at (height_view expr_tree (l.fn.first, l.fn.first_height))) l.fn.cursor ≡ turns (cap - l._turn) (λ s. within cap l.self.room (suffix_step l.at s)) (height_view expr_tree (l.base, l.height)) l.cursor;
  low : l.height ≤ l.self.room + 1;
  few : l._turn + length l.cursor ≤ l.left;
  all : l.left < 2 ^ 32;
}
