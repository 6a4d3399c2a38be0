use Rattle.std.proofs.Common.{sym, ◌∙◌}
use Rattle.svr_elab_random.proofs.Unlisted.{any_random}
use Rattle.svr_elab_random.proofs.random.any_becomes_random.Goals as goal

pub returns : goal.returns
returns c = (rw (c.as_slice.ensures, c.values.ensures.rest) at c.any_entry.ensures) ∙ sym (any_random c.args.listed.now.keys c.args.props.now.entries)
