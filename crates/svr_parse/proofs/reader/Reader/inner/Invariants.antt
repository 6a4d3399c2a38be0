use Rattle.std.proofs.Common.{◌≡◌, ◌+◌, ◌-◌, ◌≤◌, ◌<◌, ◌^◌, length, map}
use Rattle.svr_tree.specs.DeclTree.{var_tree}
use Rattle.svr_reader.specs.Outcomes.{turns}
use Rattle.svr_reader.specs.Calls.{cap}
use Rattle.svr_parse.specs.ScriptRules.{within, inner_step, inner}
use Rattle.svr_parse.proofs.reader.Reader.inner.Given as goal

abbrev pub invariant-loop-turn : goal.invariant-loop-turn
invariant-loop-turn l = record {
  keeps : within cap l.self.room inner l.fn.cursor ≡ turns (cap - l._turn) (λ s. within cap l.self.room (inner_step s)) (map var_tree l.vars, l.vars_height) l.cursor;
  few : l._turn + length l.cursor ≤ l.left;
  low : l.left < 2 ^ 32;
}
