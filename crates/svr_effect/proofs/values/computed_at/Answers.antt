use Rattle.std.proofs.Common.{◌∙◌}
use Rattle.svr_eval.specs.Reading.{reading_of}
use Rattle.svr_effect.proofs.Computed as computed
use Rattle.svr_effect.proofs.values.computed_at.Goals as goal

pub value_at-found-requires-clause-typed : goal.value_at-found-requires-clause-typed
value_at-found-requires-clause-typed c =
    computed.typed_over c.args.world.now (reading_of c.in_ok-own.own.objects) c.args.e.now c.in_ok-own.own.expr c.new-outside.result c.in_ok-own.ensures.expr c.in_ok-own.ensures.objects c.new-outside.ensures c.requires.computed

pub value_at-found-requires-clause-reads : goal.value_at-found-requires-clause-reads
value_at-found-requires-clause-reads c =
    computed.reads_over c.args.world.now (reading_of c.in_ok-own.own.objects) c.args.e.now c.in_ok-own.own.expr c.new-outside.result c.in_ok-own.ensures.expr c.in_ok-own.ensures.objects c.new-outside.ensures c.requires.computed

pub value_at-found-requires-clause-wide : goal.value_at-found-requires-clause-wide
value_at-found-requires-clause-wide c =
    computed.wide_at c.args.world.now (reading_of c.in_ok-own.own.objects) c.args.e.now c.in_ok-own.own.expr c.new-outside.result c.in_ok-own.ensures.expr c.in_ok-own.ensures.objects c.new-outside.ensures c.requires.computed c.args.width c.requires.wide

pub returns-clause-value : goal.returns-clause-value
returns-clause-value c =
    c.value_at-found.ensures.value
    ∙ computed.value_at c.args.world.now (reading_of c.in_ok-own.own.objects) c.args.e.now c.in_ok-own.own.expr c.new-outside.result c.in_ok-own.ensures.expr c.in_ok-own.ensures.objects c.new-outside.ensures c.requires.computed c.args.width
