use Rattle.std.proofs.Common.{◌∙◌, sym, subst, List}
use Rattle.std.specs.List.{All}
use Rattle.svr_typed.specs.declared.expr.TExpr.{TExpr}
use Rattle.svr_typed.specs.ExprTerm.{expr_term}
use Rattle.svr_eval.specs.Reading.{reading_of}
use Rattle.svr_eval.specs.Typed.{IsTyped, CanRead}
use Rattle.svr_frame.specs.declared.part.Part.TheVariants.{All as Whole}
use Rattle.svr_frame.specs.Frame.{frame_term}
use Rattle.svr_phase.proofs.ChosenValues.{with_none_fixed}
use Rattle.svr_settled.specs.Steps.{steps}
use Rattle.svr_solution.proofs.Solved.{typed, readable, few, model, spelled, needed_are, hold_is, solved}
use Rattle.svr_solution.proofs.solve.solution.Goals as goal

pub needed_items-requires : goal.needed_items-requires
needed_items-requires c =
    few (frame_term c.args.frame.now) c.args.sizes.now c.requires.sound c.requires.fit c.args.encoding.now c.requires.encodes c.args.chosen.now c.requires.met.0 c.args.met.now c.requires.met.1 c.as_slice-items.result.now c.as_slice-fates.result.now
    c.as_slice-items.ensures.value c.as_slice-fates.ensures.value

pub settle-requires-clause-slots : goal.settle-requires-clause-slots
settle-requires-clause-slots c = c.as_slice-slots.ensures.value ∙ c.requires.encodes.slots

pub settle-requires-clause-typed : goal.settle-requires-clause-typed
settle-requires-clause-typed c =
    let f = frame_term c.args.frame.now in
    subst (λ (xs : List TExpr). All (λ e. IsTyped (expr_term e)) xs) (sym c.as_slice-items.ensures.value)
    (typed f c.args.sizes.now c.requires.sound c.requires.fit c.args.encoding.now c.requires.encodes (reading_of c.args.wanted.now)
    (with_none_fixed f Whole c.args.sizes.now c.args.chosen.now (reading_of c.args.wanted.now) c.requires.wanted))

pub settle-requires-clause-readable : goal.settle-requires-clause-readable
settle-requires-clause-readable c = λ r is.
    subst (λ (xs : List TExpr). All (λ e. CanRead r 0 (expr_term e)) xs) (sym c.as_slice-items.ensures.value)
    (readable (frame_term c.args.frame.now) c.args.sizes.now c.requires.sound c.requires.fit c.args.encoding.now c.requires.encodes r is)

pub settle-requires-clause-wanted : goal.settle-requires-clause-wanted
settle-requires-clause-wanted c = with_none_fixed (frame_term c.args.frame.now) Whole c.args.sizes.now c.args.chosen.now (reading_of c.args.wanted.now) c.requires.wanted

pub settle-requires-clause-fits : goal.settle-requires-clause-fits
settle-requires-clause-fits c =
    let f = frame_term c.args.frame.now in
    with_none_fixed f Whole c.args.sizes.now c.args.chosen.now (reading_of c.in_ok-found.found)
    (c.in_ok-found.ensures.fits c.args.chosen.now c.requires.chosen
    (spelled f c.args.sizes.now c.requires.sound c.requires.fit c.args.encoding.now c.requires.encodes c.args.chosen.now c.requires.met.0 c.args.met.now c.requires.met.1 c.as_slice-values.result.now c.as_slice-values.ensures.value))

pub settle-requires-clause-meets : goal.settle-requires-clause-meets
settle-requires-clause-meets c =
    let f = frame_term c.args.frame.now in
    let met = c.requires.met in
    let true_ones = spelled f c.args.sizes.now c.requires.sound c.requires.fit c.args.encoding.now c.requires.encodes c.args.chosen.now met.0 c.args.met.now met.1 c.as_slice-values.result.now c.as_slice-values.ensures.value in
    let are = needed_are f c.args.sizes.now c.requires.sound c.requires.fit c.args.encoding.now c.requires.encodes c.args.chosen.now met.0 c.args.met.now met.1 c.as_slice-items.result.now c.as_slice-fates.result.now c.as_slice-marks.result.now
    c.as_slice-items.ensures.value c.as_slice-fates.ensures.value (c.as_slice-marks.ensures.value ∙ c.in_ok-needed.ensures) in
    hold_is f c.args.sizes.now c.requires.sound c.requires.fit c.args.encoding.now c.requires.encodes c.args.chosen.now met.0 c.args.met.now met.1 _ are (reading_of c.in_ok-found.found)
    (with_none_fixed f Whole c.args.sizes.now c.args.chosen.now (reading_of c.in_ok-found.found) (c.in_ok-found.ensures.fits c.args.chosen.now c.requires.chosen true_ones))
    ∙ c.in_ok-found.ensures.meets c.args.chosen.now c.args.met.now.fates.items
    (model f c.args.sizes.now c.requires.sound c.requires.fit c.args.encoding.now c.requires.encodes c.args.chosen.now met.0 c.args.met.now met.1 c.as_slice-values.result.now c.as_slice-values.ensures.value)

pub returns-clause-fits : goal.returns-clause-fits
returns-clause-fits c =
    let f = frame_term c.args.frame.now in
    let met = c.requires.met in
    let true_ones = spelled f c.args.sizes.now c.requires.sound c.requires.fit c.args.encoding.now c.requires.encodes c.args.chosen.now met.0 c.args.met.now met.1 c.as_slice-values.result.now c.as_slice-values.ensures.value in
    let is_found = c.in_ok-found.ensures.fits c.args.chosen.now c.requires.chosen true_ones in
    c.in_ok-settled.ensures.fits c.args.chosen.now c.requires.wanted.chosen is_found.chosen

pub returns-clause-solves : goal.returns-clause-solves
returns-clause-solves c = λ used words budget cap choices le same wish.
    let f = frame_term c.args.frame.now in
    let met = c.requires.met in
    let true_ones = spelled f c.args.sizes.now c.requires.sound c.requires.fit c.args.encoding.now c.requires.encodes c.args.chosen.now met.0 c.args.met.now met.1 c.as_slice-values.result.now c.as_slice-values.ensures.value in
    let is_model = model f c.args.sizes.now c.requires.sound c.requires.fit c.args.encoding.now c.requires.encodes c.args.chosen.now met.0 c.args.met.now met.1 c.as_slice-values.result.now c.as_slice-values.ensures.value in
    let are = needed_are f c.args.sizes.now c.requires.sound c.requires.fit c.args.encoding.now c.requires.encodes c.args.chosen.now met.0 c.args.met.now met.1 c.as_slice-items.result.now c.as_slice-fates.result.now c.as_slice-marks.result.now
    c.as_slice-items.ensures.value c.as_slice-fates.ensures.value (c.as_slice-marks.ensures.value ∙ c.in_ok-needed.ensures) in
    let is_found = c.in_ok-found.ensures.fits c.args.chosen.now c.requires.chosen true_ones in
    let is_settled = c.in_ok-settled.ensures.fits c.args.chosen.now c.requires.wanted.chosen is_found.chosen in
    solved f c.args.sizes.now c.requires.sound c.requires.fit c.args.encoding.now c.requires.encodes c.args.chosen.now met.0 c.args.met.now met.1 used words budget cap choices le same c.requires.chosen
    (reading_of c.args.wanted.now) (reading_of c.in_ok-found.found) (reading_of c.in_ok-settled.settled) wish is_found
    (c.in_ok-found.ensures.meets c.args.chosen.now c.args.met.now.fates.items is_model)
    is_settled
    (sym (hold_is f c.args.sizes.now c.requires.sound c.requires.fit c.args.encoding.now c.requires.encodes c.args.chosen.now met.0 c.args.met.now met.1 _ are (reading_of c.in_ok-settled.settled)
    (with_none_fixed f Whole c.args.sizes.now c.args.chosen.now (reading_of c.in_ok-settled.settled) is_settled))
    ∙ c.in_ok-settled.ensures.meets)
    (c.in_ok-settled.ensures.steps
    ∙ (λ k. steps (are k) (reading_of c.args.wanted.now) (reading_of c.in_ok-found.found) ((c.as_slice-slots.ensures.value ∙ c.requires.encodes.slots) k)))
