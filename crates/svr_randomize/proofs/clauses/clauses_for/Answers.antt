use Rattle.std.proofs.Common.{◌++◌, List, subst}
use Rattle.svr_typed.specs.ExprTerm.{ExprTerm}
use Rattle.svr_eval.specs.Reading.{reading_of}
use Rattle.svr_frame.specs.declared.part.Part.TheVariants.{All as Whole}
use Rattle.svr_frame.specs.Frame.{frame_term, state_at}
use Rattle.svr_frame.specs.Phases.{hard_of, live_of}
use Rattle.svr_encoded.specs.Encodes.{Encodes}
use Rattle.svr_clauses.proofs.Encodable.{all_typed, all_inside, all_readable, all_fixed}
use Rattle.svr_randomize.proofs.Items.{items_stand, items_encodable}
use Rattle.svr_randomize.proofs.clauses.clauses_for.Goals as goal

pub clauses_of-requires-clause-typed : goal.clauses_of-requires-clause-typed
clauses_of-requires-clause-typed c =
    let f = frame_term c.args.frame.now in
    let ns = c.args.sizes.now in
    all_typed f Whole (reading_of f.state) (state_at f ns) c.in_ok-all.all (hard_of f Whole ns ++ live_of f Whole ns)
    (items_stand f ns c.in_ok-all.all c.args.items.hard c.args.items.soft c.in_ok-all.ensures c.requires.items.hard c.requires.items.soft) (items_encodable f ns c.requires.sound c.requires.fit)

pub clauses_of-requires-clause-inside : goal.clauses_of-requires-clause-inside
clauses_of-requires-clause-inside c =
    let f = frame_term c.args.frame.now in
    let ns = c.args.sizes.now in
    all_inside f Whole (reading_of f.state) (state_at f ns) c.in_ok-all.all (hard_of f Whole ns ++ live_of f Whole ns)
    (items_stand f ns c.in_ok-all.all c.args.items.hard c.args.items.soft c.in_ok-all.ensures c.requires.items.hard c.requires.items.soft) (items_encodable f ns c.requires.sound c.requires.fit)

pub clauses_of-requires-clause-readable : goal.clauses_of-requires-clause-readable
clauses_of-requires-clause-readable c =
    let f = frame_term c.args.frame.now in
    let ns = c.args.sizes.now in
    all_readable f Whole (reading_of f.state) (state_at f ns) c.in_ok-all.all (hard_of f Whole ns ++ live_of f Whole ns)
    (items_stand f ns c.in_ok-all.all c.args.items.hard c.args.items.soft c.in_ok-all.ensures c.requires.items.hard c.requires.items.soft) (items_encodable f ns c.requires.sound c.requires.fit)

pub clauses_of-requires-clause-fixed : goal.clauses_of-requires-clause-fixed
clauses_of-requires-clause-fixed c =
    let f = frame_term c.args.frame.now in
    let ns = c.args.sizes.now in
    all_fixed f Whole (reading_of f.state) (state_at f ns) c.in_ok-all.all (hard_of f Whole ns ++ live_of f Whole ns)
    (items_stand f ns c.in_ok-all.all c.args.items.hard c.args.items.soft c.in_ok-all.ensures c.requires.items.hard c.requires.items.soft) (items_encodable f ns c.requires.sound c.requires.fit)

pub returns : goal.returns
returns c =
    let f = frame_term c.args.frame.now in
    let ns = c.args.sizes.now in
    subst (λ (es : List ExprTerm). Encodes (frame_term c.args.frame.now) Whole c.args.sizes.now 1 es c.in_ok-encoding.encoding)
    (items_stand f ns c.in_ok-all.all c.args.items.hard c.args.items.soft c.in_ok-all.ensures c.requires.items.hard c.requires.items.soft) c.in_ok-encoding.ensures
