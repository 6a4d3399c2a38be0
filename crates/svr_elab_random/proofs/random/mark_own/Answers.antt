use Rattle.std.proofs.Common.{◌≡◌, rules}
use Rattle.svr_elab_random.proofs.Unlisted.{marked_own}
use Rattle.svr_elab_random.proofs.random.mark_own.Goals as goal

pub returns-in-Ok : goal.returns-in-Ok
returns-in-Ok c =
    let own = c.mark.new.props in
    let written : (c.make_mut.follows.lender own).value ≡ own = search rules in
    rw written (marked_own c.args.listed.now.keys c.args.props.now.value _ _ c.in-Ok.ensures.value c.mark.ensures)
