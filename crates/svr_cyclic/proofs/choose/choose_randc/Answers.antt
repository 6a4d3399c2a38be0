use Rattle.std.proofs.Common.{◌≡◌, length, sym, ◌∙◌, arith}
use Rattle.std.proofs.lemmas.List.{nil_from_length}
use Rattle.svr_frame.specs.Frame.{frame_term}
use Rattle.svr_call.specs.Call.{call_of}
use Rattle.svr_cyclic.proofs.Ended.{nothing_chosen}
use Rattle.svr_cyclic.proofs.choose.choose_randc.Goals as goal

pub cyclic_props-requires : goal.cyclic_props-requires
cyclic_props-requires c = c.requires.sound.properties

pub returns-then-count-eq0-clause-ends : goal.returns-then-count-eq0-clause-ends
returns-then-count-eq0-clause-ends c =
    let none : length c.in_ok-props.props ≡ 0 = omega (arith, c.if-count-eq0.true, c.len-count.ensures) in
    (nothing_chosen (call_of c.args.world.now c.args.object (frame_term c.args.frame.now) c.args.number c.args.opts) c.requires.light (sym c.in_ok-props.ensures ∙ nil_from_length c.in_ok-props.props none) c.nothing.result c.nothing.ensures).0

pub returns-then-count-eq0-clause-fits : goal.returns-then-count-eq0-clause-fits
returns-then-count-eq0-clause-fits c =
    let none : length c.in_ok-props.props ≡ 0 = omega (arith, c.if-count-eq0.true, c.len-count.ensures) in
    (nothing_chosen (call_of c.args.world.now c.args.object (frame_term c.args.frame.now) c.args.number c.args.opts) c.requires.light (sym c.in_ok-props.ensures ∙ nil_from_length c.in_ok-props.props none) c.nothing.result c.nothing.ensures).1

pub chosen_in_turn-requires-clause-props : goal.chosen_in_turn-requires-clause-props
chosen_in_turn-requires-clause-props c = c.as_slice.ensures ∙ c.in_ok-props.ensures
