use Rattle.std.proofs.Common.{◌≡◌, List, [], ◌∷◌, ◌++◌, true, Some, ap, ◌∙◌}
use Rattle.std.proofs.lemmas.Result.{err_from_is_err_and}
use Rattle.svr_lrat_file.specs.declared.file.Number.{Number}
use Rattle.svr_lrat_text.specs.File.{is_entry}
use Rattle.svr_lrat_text.specs.Reading.{in_list}
use Rattle.svr_lrat_text.proofs.Steps.{stop-before, memory-stops}
use Rattle.svr_lrat_text.proofs.Taking.{took-entry, took-zero, entry-stops, written-more, written-end, all-more}
use Rattle.svr_lrat_text.proofs.reader.read_numbers.Goals as goal

pub returns-in_err-found-clause-goes : goal.returns-in_err-found-clause-goes
returns-in_err-found-clause-goes c = λ next.
    let p = err_from_is_err_and c.from_residual.result c.from_residual.ensures.1 in
    rw (p.1, p.2)
    (stop-before (in_list c.args.most c.args.signed next) (in_list c.args.most c.args.signed next) c.args.cursor.now c.entries.cursor c.in_err-found.field-0.0 (c.entries.invariant.goes next)
    (entry-stops c.args.most c.args.signed next c.entries.cursor c.next-token.new.self c.next-token.result c.in_err-found.field-0.0 c.next-token.ensures c.in_err-found.ensures))

pub returns-in_err-keep-in-Some-clause-goes : goal.returns-in_err-keep-in-Some-clause-goes
returns-in_err-keep-in-Some-clause-goes c = λ next.
    let p = err_from_is_err_and c.from_residual-in_err-keep-in-Some.result c.from_residual-in_err-keep-in-Some.ensures.1 in
    rw (p.1, p.2) (memory-stops (in_list c.args.most c.args.signed next) c.args.cursor.now c.in_err-keep-in-Some.field-0.0 c.in_err-keep-in-Some.ensures.memory)

pub returns-in-None-clause-written : goal.returns-in-None-clause-written
returns-in-None-clause-written c =
    let z = took-zero c.args.most c.args.signed c.entries.cursor c.next-token.new.self c.next-token.result c.next-token.ensures (c.in_ok-found.ensures ∙ ap (λ o. Some o) c.in-None.is) in
    rw c.from_vec.ensures (written-end c.entries.numbers.items _ _ _ c.entries.invariant.written z.written)

pub returns-in-None-clause-goes : goal.returns-in-None-clause-goes
returns-in-None-clause-goes c = λ next.
    let z = took-zero c.args.most c.args.signed c.entries.cursor c.next-token.new.self c.next-token.result c.next-token.ensures (c.in_ok-found.ensures ∙ ap (λ o. Some o) c.in-None.is) in
    c.entries.invariant.goes next ∙ z.goes next

pub entries-preserved : goal.entries-preserved
entries-preserved c =
    let n : Number = c.in-Some.number in
    let ns : List Number = c.entries.numbers.items in
    let t = took-entry c.args.most c.args.signed c.entries.cursor c.next-token.new.self c.next-token.result n c.next-token.ensures (c.in_ok-found.ensures ∙ ap (λ o. Some o) c.in-Some.is) in
    let kept : c.keep.new.items.items ≡ ns ++ n ∷ [] = c.in_ok-keep-in-Some.ensures.kept in
    record {
      written = rw kept (written-more ns n _ _ _ c.entries.invariant.written t.written);
      within = rw kept (all-more (is_entry true c.args.most c.args.signed) ns n c.entries.invariant.within t.may);
      goes = λ next. c.entries.invariant.goes next ∙ t.goes next;
    }

pub entries-smaller : goal.entries-smaller
entries-smaller c =
    let t = took-entry c.args.most c.args.signed c.entries.cursor c.next-token.new.self c.next-token.result c.in-Some.number c.next-token.ensures (c.in_ok-found.ensures ∙ ap (λ o. Some o) c.in-Some.is) in
    t.shorter
