use Rattle.std.proofs.Common.{sym, ap, subst, ◌∙◌}
use Rattle.svr_frame.specs.declared.part.Part.TheVariants.{All as Whole}
use Rattle.svr_frame.specs.Frame.{frame_term}
use Rattle.svr_frame.specs.Satisfaction.{IsAssignment}
use Rattle.svr_draw.specs.Words.{generator, word_of}
use Rattle.svr_phase.specs.Sizes.{preferred_with}
use Rattle.svr_phase.proofs.ChosenValues.{with_cyclic_is}
use Rattle.svr_randomize.proofs.Keeping.{kept_behind}
use Rattle.svr_randomize.proofs.values.values_answer.Goals as goal

pub decided-requires-clause-wish : goal.decided-requires-clause-wish
decided-requires-clause-wish c =
    let f = frame_term c.args.frame.now in
    let words = word_of (generator c.args.opts.seed c.args.number) in
    let is = with_cyclic_is f c.args.sizes.now c.requires.sound c.requires.fit c.args.opts.size_cap c.requires.cap words c.args.chosen.values c.requires.chosen in
    subst (IsAssignment f Whole c.args.sizes.now c.args.chosen.values)
    (sym (c.in_ok-preferred.ensures ∙ ap (preferred_with f Whole c.args.sizes.now c.args.opts.size_cap words) c.as_slice-values.ensures)) is

pub decided-requires-clause-items : goal.decided-requires-clause-items
decided-requires-clause-items c = c.in_ok-last.ensures.items

pub returns-clause-answer : goal.returns-clause-answer
returns-clause-answer c =
    let f = frame_term c.args.frame.now in
    let words = word_of (generator c.args.opts.seed c.args.number) in
    λ used is reached. c.in_ok-found.ensures.answer used words c.args.opts.size_cap c.requires.cap is
    (c.in_ok-preferred.ensures ∙ ap (preferred_with f Whole c.args.sizes.now c.args.opts.size_cap words) (c.as_slice-values.ensures ∙ is.chosen)) reached

pub returns-clause-kept : goal.returns-clause-kept
returns-clause-kept c =
    let f = frame_term c.args.frame.now in
    kept_behind f c.args.sizes.now c.in_ok-last.last.read c.in_ok-found.found.left c.keep.new.kept c.requires.sound c.requires.fit c.in_ok-last.ensures.sizes c.in_ok-last.ensures.read c.in_ok-found.ensures.left c.keep.ensures
