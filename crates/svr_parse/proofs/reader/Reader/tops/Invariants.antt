use Rattle.std.proofs.Common.{◌≡◌, ◌+◌, ◌-◌, ◌≤◌, ◌<◌, ◌^◌, length, map}
use Rattle.svr_tree.specs.DeclTree.{type_decl_tree, class_tree}
use Rattle.svr_reader.specs.Outcomes.{turns}
use Rattle.svr_reader.specs.Calls.{cap}
use Rattle.svr_parse.specs.ScriptRules.{within, top_step, tops}
use Rattle.svr_parse.proofs.reader.Reader.tops.Given as goal

abbrev pub invariant-loop-turn : goal.invariant-loop-turn
invariant-loop-turn l = record {
  keeps : within cap l.self.room tops l.fn.cursor
      ≡ turns (cap - l._turn) (λ s. within cap l.self.room (top_step s)) (record { types = map type_decl_tree l.types; classes = map class_tree l.classes; order = l.order }, l.highest) l.cursor;
  few : l._turn + length l.cursor ≤ l.left;
  low : l.left < 2 ^ 32;
}
