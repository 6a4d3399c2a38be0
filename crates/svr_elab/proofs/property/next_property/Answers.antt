use Rattle.svr_elab_names.specs.Tables.{prop_of}
use Rattle.svr_elab.specs.Script as spec
use Rattle.svr_elab.proofs.Drawn.{known_next}
use Rattle.svr_elab.proofs.property.next_property.Goals as goal

pub returns-in_ok-all-in-Some : goal.returns-in_ok-all-in-Some
returns-in_ok-all-in-Some c =
    let x = c.in_ok-known-in-Some in
    known_next prop_of spec.property c.args.known c.in_ok-all-in-Some.all c.args.props.now.entries c.args.place (c.in-Some.name.now, c.in-Some.entry.now) x.next
    c.in-Some.ensures.entry (rw x.ensures.made at c.property-next.ensures) (rw x.ensures.held at c.in_ok-all-in-Some.ensures)
