use Rattle.std.proofs.Common.{ap, map}
use Rattle.svr_typed.specs.ExprTerm.{expr_term}
use Rattle.svr_typed.specs.ItemTerm.{item_terms}
use Rattle.svr_eval.specs.Reading.{reading_of}
use Rattle.svr_frame.specs.Frame.{frame_term}
use Rattle.svr_expand.specs.Expanded.{place_of, findings}
use Rattle.svr_expand.specs.declared.around.Around.{Outside}
use Rattle.svr_expand.proofs.Active.{outside_is, walked, hard_found, soft_found}
use Rattle.svr_expand.proofs.Standing.{ready_there}
use Rattle.svr_expand.proofs.phase.active_items.Goals as goal

pub add_items-requires-clause-ready : goal.add_items-requires-clause-ready
add_items-requires-clause-ready c =
    ready_there (frame_term c.args.frame.now) c.args.sizes.now c.args.part (reading_of c.args.state.now) c.new.result (item_terms c.as_slice-items.result.now) c.requires.sound c.requires.fit c.requires.cut c.new.ensures (ap item_terms c.as_slice-items.ensures)

pub returns-clause-hard : goal.returns-clause-hard
returns-clause-hard c =
    let f = frame_term c.args.frame.now in
    let a = reading_of c.args.state.now in
    let all = walked f c.args.part c.args.sizes.now a c.requires.cut (place_of Outside c.new.result) (item_terms c.as_slice-items.result.now) (findings c.new-found.result) (findings c.add_items.new.out) (ap findings c.new-found.ensures) (outside_is c.new.result c.new.ensures) (ap item_terms c.as_slice-items.ensures) c.in_ok-add_items.ensures in
    hard_found f c.args.part c.args.sizes.now a c.requires.cut (findings c.add_items.new.out) (map expr_term c.in_ok-asked.asked.hard) all c.in_ok-asked.ensures.hard

pub returns-clause-soft : goal.returns-clause-soft
returns-clause-soft c =
    let f = frame_term c.args.frame.now in
    let a = reading_of c.args.state.now in
    let all = walked f c.args.part c.args.sizes.now a c.requires.cut (place_of Outside c.new.result) (item_terms c.as_slice-items.result.now) (findings c.new-found.result) (findings c.add_items.new.out) (ap findings c.new-found.ensures) (outside_is c.new.result c.new.ensures) (ap item_terms c.as_slice-items.ensures) c.in_ok-add_items.ensures in
    soft_found f c.args.part c.args.sizes.now a c.requires.cut (findings c.add_items.new.out) (map expr_term c.in_ok-asked.asked.soft) all c.in_ok-asked.ensures.soft
