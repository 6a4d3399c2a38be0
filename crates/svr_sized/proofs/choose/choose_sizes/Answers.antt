use Rattle.std.proofs.Common.{sym, ap, ◌∙◌, subst}
use Rattle.std.proofs.lemmas.Result.{IfOk-weaker}
use Rattle.svr_eval.specs.Reading.{reading_of}
use Rattle.svr_frame.specs.declared.part.Part.TheVariants.{Sizes}
use Rattle.svr_frame.specs.Frame.{frame_term, state_at}
use Rattle.svr_frame.specs.Sound.{SizesFit}
use Rattle.svr_draw.specs.Words.{generator, word_of}
use Rattle.svr_phase.specs.Sizes.{preferred_with}
use Rattle.svr_phase.proofs.Preferred.{state_sizes_fit}
use Rattle.svr_clauses.proofs.Encodable.{all_typed, all_readable}
use Rattle.svr_sized.specs.declared.scope.Scope.TheVariants.{Wished}
use Rattle.svr_sized.specs.Questions.{hard_over, soft_over}
use Rattle.svr_sized.proofs.Decided.{hard_encodable, soft_encodable, fit_told, preferred_fit}
use Rattle.svr_sized.proofs.choose.choose_sizes.Goals as goal

pub wanted_in-requires-clause-fit : goal.wanted_in-requires-clause-fit
wanted_in-requires-clause-fit c = subst (SizesFit (frame_term c.args.frame.now)) (sym c.as_slice-sizes.ensures) (state_sizes_fit (frame_term c.args.frame.now) c.requires.sound)

pub all_fit-requires-clause-typed_hard : goal.all_fit-requires-clause-typed_hard
all_fit-requires-clause-typed_hard c =
    let f = frame_term c.args.frame.now in
    let cap = c.args.opts.size_cap in
    let a = reading_of c.in_ok-wish.wish in
    let words = word_of (generator c.args.opts.seed c.args.number) in
    let same = c.in_ok-wish.ensures ∙ ap (λ ns. preferred_with f Sizes ns cap words c.args.chosen.now) c.as_slice-sizes.ensures in
    all_typed f Sizes a (state_at f f.state.sizes) c.in_ok-asked.asked.hard (hard_over f cap Wished) c.in_ok-asked.ensures.hard (hard_encodable f c.requires.sound cap c.requires.cap words c.args.chosen.now c.requires.chosen a same)

pub all_fit-requires-clause-typed_soft : goal.all_fit-requires-clause-typed_soft
all_fit-requires-clause-typed_soft c =
    let f = frame_term c.args.frame.now in
    let cap = c.args.opts.size_cap in
    let a = reading_of c.in_ok-wish.wish in
    let words = word_of (generator c.args.opts.seed c.args.number) in
    let same = c.in_ok-wish.ensures ∙ ap (λ ns. preferred_with f Sizes ns cap words c.args.chosen.now) c.as_slice-sizes.ensures in
    all_typed f Sizes a (state_at f f.state.sizes) c.in_ok-asked.asked.soft (soft_over f Wished) c.in_ok-asked.ensures.soft (soft_encodable f c.requires.sound cap c.requires.cap words c.args.chosen.now c.requires.chosen a same)

pub all_fit-requires-clause-reads_hard : goal.all_fit-requires-clause-reads_hard
all_fit-requires-clause-reads_hard c =
    let f = frame_term c.args.frame.now in
    let cap = c.args.opts.size_cap in
    let a = reading_of c.in_ok-wish.wish in
    let words = word_of (generator c.args.opts.seed c.args.number) in
    let same = c.in_ok-wish.ensures ∙ ap (λ ns. preferred_with f Sizes ns cap words c.args.chosen.now) c.as_slice-sizes.ensures in
    all_readable f Sizes a (state_at f f.state.sizes) c.in_ok-asked.asked.hard (hard_over f cap Wished) c.in_ok-asked.ensures.hard (hard_encodable f c.requires.sound cap c.requires.cap words c.args.chosen.now c.requires.chosen a same)

pub all_fit-requires-clause-reads_soft : goal.all_fit-requires-clause-reads_soft
all_fit-requires-clause-reads_soft c =
    let f = frame_term c.args.frame.now in
    let cap = c.args.opts.size_cap in
    let a = reading_of c.in_ok-wish.wish in
    let words = word_of (generator c.args.opts.seed c.args.number) in
    let same = c.in_ok-wish.ensures ∙ ap (λ ns. preferred_with f Sizes ns cap words c.args.chosen.now) c.as_slice-sizes.ensures in
    all_readable f Sizes a (state_at f f.state.sizes) c.in_ok-asked.asked.soft (soft_over f Wished) c.in_ok-asked.ensures.soft (soft_encodable f c.requires.sound cap c.requires.cap words c.args.chosen.now c.requires.chosen a same)

pub returns-then-all_fit : goal.returns-then-all_fit
returns-then-all_fit c =
    let f = frame_term c.args.frame.now in
    let cap = c.args.opts.size_cap in
    let a = reading_of c.in_ok-wish.wish in
    let chosen = c.args.chosen.now in
    let words = word_of (generator c.args.opts.seed c.args.number) in
    let same = c.in_ok-wish.ensures ∙ ap (λ ns. preferred_with f Sizes ns cap words chosen) c.as_slice-sizes.ensures in
    preferred_fit f c.requires.sound cap c.requires.cap words chosen c.requires.chosen a same _ (sym (fit_told f c.requires.sound cap c.requires.cap words chosen c.requires.chosen a same _ _ c.in_ok-asked.ensures.hard c.in_ok-asked.ensures.soft) ∙ sym c.all_fit.ensures ∙ c.if-all_fit.true) c.in_ok-sizes_of.ensures c.args.opts.budget

pub returns : goal.returns
returns c =
    let f = frame_term c.args.frame.now in
    let cap = c.args.opts.size_cap in
    let a = reading_of c.in_ok-wish.wish in
    let chosen = c.args.chosen.now in
    let words = word_of (generator c.args.opts.seed c.args.number) in
    let same = c.in_ok-wish.ensures ∙ ap (λ ns. preferred_with f Sizes ns cap words chosen) c.as_slice-sizes.ensures in
    let fails = sym (fit_told f c.requires.sound cap c.requires.cap words chosen c.requires.chosen a same _ _ c.in_ok-asked.ensures.hard c.in_ok-asked.ensures.soft) ∙ sym c.all_fit.ensures ∙ c.if-all_fit.false in
    IfOk-weaker c.searched.result _ _ (λ r h. h words fails) c.searched.ensures
