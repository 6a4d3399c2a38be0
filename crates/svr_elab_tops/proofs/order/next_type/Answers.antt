use Rattle.svr_token.specs.Names.{names_of}
use Rattle.svr_elab_type.specs.Seen.{globals_part}
use Rattle.svr_elab_tops.proofs.Turns.{type_turn, type_fits, no_type}
use Rattle.svr_elab_tops.proofs.order.next_type.Goals as goal

pub returns-in-None-clause-value : goal.returns-in-None-clause-value
returns-in-None-clause-value c =
    let ds = c.args.types.now in
    let i = c.args.place in
    λ os more. no_type (globals_part (names_of c.args.names.now) c.args.known) os ds i more c.in-None.ensures.lookup.3

pub type_decl-requires-clause-fits : goal.type_decl-requires-clause-fits
type_decl-requires-clause-fits c =
    let ds = c.args.types.now in
    let i = c.args.place in
    let d = c.in-Some.decl.now in
    (type_fits ds i d c.in-Some.ensures.lookup.3.0 c.in-Some.ensures.lookup.1 c.requires.fits).0

pub returns-in_ok-type_decl-in-Some-clause-value : goal.returns-in_ok-type_decl-in-Some-clause-value
returns-in_ok-type_decl-in-Some-clause-value c =
    let text = names_of c.args.names.now in
    let ds = c.args.types.now in
    let i = c.args.place in
    let d = c.in-Some.decl.now in
    λ os more. type_turn (globals_part text c.args.known) os _ ds i d more c.in-Some.ensures.lookup.3.0 c.in-Some.ensures.lookup.1 c.in_ok-type_decl-in-Some.ensures.value
