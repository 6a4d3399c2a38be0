use Rattle.std.proofs.Common.{◌≡◌, ◌-◌, ◌+◌, ◌^◌, ◌<◌, ◌≤◌, length}
use Rattle.svr_tree.specs.ExprTree.{expr_tree}
use Rattle.svr_reader.specs.Outcomes.{turns}
use Rattle.svr_reader.specs.Calls.{cap, height_view}
use Rattle.svr_expr.specs.ExprRules.{climb, climb_step, within}
use Rattle.svr_expr.proofs.reader.Reader.climb.Given as goal

abbrev pub invariant-loop-turn : goal.invariant-loop-turn
invariant-loop-turn g l = record {
  gives : within cap l.self.room (climb l.at l.least (height_view expr_tree (l.fn.first, l.fn.first_height))) l.fn.cursor ≡ turns (cap - l._turn) (λ s. within cap l.self.room (climb_step l.at l.least s)) ((height_view expr_tree (l.left, l.height), l.most)) l.cursor;
  low : l.height ≤ l.self.room + 1;
  few : l._turn + length l.cursor ≤ l.tokens;
  all : l.tokens < 2 ^ 32;
}
