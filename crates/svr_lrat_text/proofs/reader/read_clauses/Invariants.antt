use Rattle.std.proofs.Common.{◌≡◌, ◌++◌, ◌-◌, true, length}
use Rattle.std.specs.List.{list_all, flat_map}
use Rattle.svr_lrat_text.specs.Words.{words}
use Rattle.svr_lrat_text.specs.File.{clause_words, is_clause}
use Rattle.svr_lrat_text.specs.Reading.{after, at_clauses}
use Rattle.svr_lrat_text.proofs.reader.read_clauses.Given as goal

abbrev pub invariant-loop : goal.invariant-loop
invariant-loop l = record {
  written : words l.fn.cursor ≡ flat_map clause_words l.clauses.items ++ words l.cursor;
  within : list_all (is_clause true l.vars) l.clauses.items ≡ true;
  counted : length l.clauses.items ≡ l.counter;
  goes : after (at_clauses l.vars l.fn.count) l.fn.cursor ≡ after (at_clauses l.vars (l.fn.count - l.counter)) l.cursor;
}
