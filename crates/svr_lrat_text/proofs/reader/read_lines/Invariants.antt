use Rattle.std.proofs.Common.{◌≡◌, ◌++◌, true, length}
use Rattle.std.specs.List.{list_all, flat_map}
use Rattle.svr_lrat_text.specs.Words.{words}
use Rattle.svr_lrat_text.specs.File.{line_words, is_line}
use Rattle.svr_lrat_text.specs.Reading.{after, at_line}
use Rattle.svr_lrat_text.proofs.reader.read_lines.Given as goal

abbrev pub invariant-lines : goal.invariant-lines
invariant-lines l = record {
  written : words l.fn.cursor ≡ flat_map line_words l.lines.items ++ words l.cursor;
  within : list_all (is_line true l.vars) l.lines.items ≡ true;
  goes : after (at_line l.vars) l.fn.cursor ≡ after (at_line l.vars) l.cursor;
}

abbrev pub decreases-lines : goal.decreases-lines
decreases-lines l = length l.cursor
