use Rattle.svr_elab_names.specs.Tables.{var_of}
use Rattle.svr_elab.specs.Script as spec
use Rattle.svr_elab.proofs.Drawn.{known_next}
use Rattle.svr_elab.proofs.design.next_variable.Goals as goal

pub returns-in_ok-all-in-Some : goal.returns-in_ok-all-in-Some
returns-in_ok-all-in-Some c =
    let x = c.in_ok-known-in-Some in
    known_next var_of spec.variable c.args.known c.in_ok-all-in-Some.all c.args.vars.now.entries c.args.place (c.in-Some.name.now, c.in-Some.stand.now) x.next
    c.in-Some.ensures.entry (rw x.ensures.made at c.variable-next.ensures) (rw x.ensures.held at c.in_ok-all-in-Some.ensures)
