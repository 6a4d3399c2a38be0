use Rattle.svr_elab_random.proofs.Unlisted.{left_shared}
use Rattle.svr_elab_random.proofs.random.mark_shared.Goals as goal

pub returns : goal.returns
returns c =
    left_shared c.args.listed.now.keys c.args.props.now.value c.as_ref.result.now c.any_becomes_random.result
    c.as_ref.ensures c.any_becomes_random.ensures c.if-any_becomes_random.false
