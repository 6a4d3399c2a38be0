use Rattle.std.proofs.Common.{◌≡◌, ◌∙◌}
use Rattle.std.proofs.lemmas.Result.{IfOk-weaker}
use Rattle.svr_query.specs.Logged.{valuation_of}
use Rattle.svr_eval.specs.declared.assign.Assign.{Assign}
use Rattle.svr_eval.specs.Reading.{reading_of}
use Rattle.svr_frame.specs.Frame.{frame_term}
use Rattle.svr_inputs.specs.Inputs.{read_at}
use Rattle.svr_found.proofs.OfPhase.{short, few, past, unsought, read_as}
use Rattle.svr_found.proofs.found.slots_found.Goals as goal

pub reading_found-requires-clause-short : goal.reading_found-requires-clause-short
reading_found-requires-clause-short c =
    short c.args.inputs.now (frame_term c.args.frame.now) c.args.slots.now c.requires.sound c.requires.fit c.requires.slots c.requires.state c.requires.numbers c.requires.sizes c.requires.bits

pub reading_found-requires-clause-few : goal.reading_found-requires-clause-few
reading_found-requires-clause-few c =
    few c.args.inputs.now (frame_term c.args.frame.now) c.args.slots.now c.requires.sound c.requires.fit c.requires.slots c.requires.state c.requires.numbers c.requires.sizes c.requires.bits

pub reading_found-requires-clause-past : goal.reading_found-requires-clause-past
reading_found-requires-clause-past c =
    past c.args.inputs.now (frame_term c.args.frame.now) c.args.slots.now c.requires.sound c.requires.fit c.requires.slots c.requires.state c.requires.numbers c.requires.sizes c.requires.bits

pub reading_found-requires-clause-sizes : goal.reading_found-requires-clause-sizes
reading_found-requires-clause-sizes c =
    unsought c.args.inputs.now (frame_term c.args.frame.now) c.args.slots.now c.requires.sound c.requires.fit c.requires.slots c.requires.state c.requires.numbers c.requires.sizes c.requires.bits

pub returns-clause-reads : goal.returns-clause-reads
returns-clause-reads c =
    IfOk-weaker c.reading_found.result (λ (a : Assign). reading_of a ≡ read_at c.args.inputs.now (valuation_of c.args.values.now)) _
    (λ a h.
    h
    ∙ read_as c.args.inputs.now (frame_term c.args.frame.now) c.args.slots.now c.requires.sound c.requires.fit c.requires.slots c.requires.state c.requires.numbers c.requires.sizes c.requires.bits (valuation_of c.args.values.now))
    c.reading_found.ensures.reads
