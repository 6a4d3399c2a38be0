use Rattle.std.proofs.Common.{◌≡◌, ◌++◌, true, map, length}
use Rattle.std.specs.List.{list_all}
use Rattle.svr_lrat_text.specs.declared.word.Word.TheVariants as w
use Rattle.svr_lrat_text.specs.Words.{words}
use Rattle.svr_lrat_text.specs.File.{is_entry}
use Rattle.svr_lrat_text.specs.Reading.{Place, after, in_list}
use Rattle.svr_lrat_text.proofs.reader.read_numbers.Given as goal

abbrev pub invariant-entries : goal.invariant-entries
invariant-entries l = record {
  written : words l.fn.cursor ≡ map (λ n. w.Number n) l.numbers.items ++ words l.cursor;
  within : list_all (is_entry true l.most l.signed) l.numbers.items ≡ true;
  goes : (next : Place) → after (in_list l.most l.signed next) l.fn.cursor ≡ after (in_list l.most l.signed next) l.cursor;
}

abbrev pub decreases-entries : goal.decreases-entries
decreases-entries l = length l.cursor
