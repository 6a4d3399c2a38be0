use Rattle.std.proofs.Common.{◌≡◌, rules}
use Rattle.svr_elab_names.proofs.Shared.{own}
use Rattle.svr_elab_class.proofs.property.and_own.Goals as goal

pub returns-in-Ok : goal.returns-in-Ok
returns-in-Ok c =
    let table = c.and_prop.new.props in
    let written : (c.make_mut.follows.lender table).value ≡ table = search rules in
    rw written (rw (own c.args.props.now.value _ c.in-Ok.ensures.value) at c.and_prop.ensures)
