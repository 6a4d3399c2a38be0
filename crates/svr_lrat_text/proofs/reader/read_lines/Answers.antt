use Rattle.std.proofs.Common.{◌≡◌, List, [], ◌∷◌, ◌++◌, true, ap, ◌∙◌}
use Rattle.std.specs.List.{flat_map}
use Rattle.std.proofs.lemmas.Result.{err_from_is_err_and}
use Rattle.svr_lrat_file.specs.declared.file.Line.{Line}
use Rattle.svr_lrat_text.specs.File.{line_words, is_line}
use Rattle.svr_lrat_text.specs.Reading.{at_line}
use Rattle.svr_lrat_text.proofs.Steps.{stop-before, memory-stops}
use Rattle.svr_lrat_text.proofs.Taking.{clauses-written, all-more, line-shorter}
use Rattle.svr_lrat_text.proofs.reader.read_lines.Goals as goal

pub returns-in_err-next-clause-fault : goal.returns-in_err-next-clause-fault
returns-in_err-next-clause-fault c =
    let p = err_from_is_err_and c.from_residual.result c.from_residual.ensures.1 in
    rw (p.1, p.2) (stop-before (at_line c.args.vars) (at_line c.args.vars) c.args.cursor.now c.lines.cursor c.in_err-next.field-0.0 c.lines.invariant.goes c.in_err-next.ensures.goes)

pub returns-in_err-keep-in-Some-clause-fault : goal.returns-in_err-keep-in-Some-clause-fault
returns-in_err-keep-in-Some-clause-fault c =
    let p = err_from_is_err_and c.from_residual-in_err-keep-in-Some.result c.from_residual-in_err-keep-in-Some.ensures.1 in
    rw (p.1, p.2) (memory-stops (at_line c.args.vars) c.args.cursor.now c.in_err-keep-in-Some.field-0.0 c.in_err-keep-in-Some.ensures.memory)

pub returns-in-None-clause-written : goal.returns-in-None-clause-written
returns-in-None-clause-written c =
    let e = rw c.in-None.is at c.in_ok-next.ensures.written in
    c.lines.invariant.written ∙ ap (λ z. flat_map line_words c.lines.lines.items ++ z) e

pub lines-preserved : goal.lines-preserved
lines-preserved c =
    let x : Line = c.in-Some.line in
    let ls : List Line = c.lines.lines.items in
    let e = rw c.in-Some.is at c.in_ok-next.ensures.written in
    let m = rw c.in-Some.is at c.in_ok-next.ensures.within in
    let g = rw c.in-Some.is at c.in_ok-next.ensures.goes in
    let kept : c.keep.new.items.items ≡ ls ++ x ∷ [] = c.in_ok-keep-in-Some.ensures.kept in
    record {
      written = rw kept (clauses-written line_words ls x _ _ _ c.lines.invariant.written e);
      within = rw kept (all-more (is_line true c.args.vars) ls x c.lines.invariant.within m);
      goes = c.lines.invariant.goes ∙ g;
    }

pub lines-smaller : goal.lines-smaller
lines-smaller c =
    let e = rw c.in-Some.is at c.in_ok-next.ensures.written in
    line-shorter c.in-Some.line c.lines.cursor c.read_line.new.cursor e
