use Rattle.std.proofs.Common.{◌≡◌, ◌+◌, ◌<◌, true, false, [], length, get_or, refl, sym, ◌∙◌, arith}
use Rattle.std.proofs.lemmas.List.{get_or_read}
use Rattle.svr_chain.specs.Views.{StepView}
use Rattle.svr_lrat_made.proofs.Marking.{back_marked, back_unmarked}
use Rattle.svr_lrat_made.proofs.needed.mark_back.Goals as goal

pub returns-then-not-index-clause-marked : goal.returns-then-not-index-clause-marked
returns-then-not-index-clause-marked c = λ g m.
    let h : c.args.place < length c.args.marks.now.items = omega arith in
    let d : StepView = record { start = 0; links = [] } in
    let t : get_or c.args.marks.now.items c.args.place false ≡ false = sym (get_or_read c.args.marks.now.items c.args.place c.index.result.now h c.index.ensures false) ∙ c.if-not-index.true in
    back_unmarked g c.args.first c.args.steps.now c.args.marks.now.items c.args.marks.now.items (c.args.place + 1) c.args.place c.requires.within refl m d refl t

pub returns-clause-marked : goal.returns-clause-marked
returns-clause-marked c = λ g m.
    let h : c.args.place < length c.args.marks.now.items = omega arith in
    let t : get_or c.args.marks.now.items c.args.place false ≡ true = sym (get_or_read c.args.marks.now.items c.args.place c.index.result.now h c.index.ensures false) ∙ c.if-not-index.false in
    back_marked g c.args.first c.args.steps.now c.args.marks.now.items c.mark_used.new.marks.items (c.args.place + 1) c.args.place c.requires.within refl m c.index-steps-place.result c.index-steps-place.is t c.mark_used.ensures.marked
