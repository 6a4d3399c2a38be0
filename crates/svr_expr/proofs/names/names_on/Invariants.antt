use Rattle.std.proofs.Common.{◌≡◌, ◌-◌, ◌+◌, ◌^◌, ◌<◌, ◌≤◌, length}
use Rattle.svr_reader.specs.Outcomes.{turns}
use Rattle.svr_reader.specs.Answers.{plainly}
use Rattle.svr_reader.specs.Calls.{cap}
use Rattle.svr_expr.specs.ExprRules.{names_on, name_step}
use Rattle.svr_expr.proofs.names.names_on.Given as goal

abbrev pub invariant-loop-turn : goal.invariant-loop-turn
invariant-loop-turn l = record {
  gives : plainly (names_on (l.fn.first, l.fn.first_kind)) l.fn.cursor ≡ turns (cap - l._turn) (λ s. plainly (name_step s)) (l.names, l.kind) l.cursor;
  few : l._turn + length l.cursor ≤ l.left;
  all : l.left < 2 ^ 32;
}
