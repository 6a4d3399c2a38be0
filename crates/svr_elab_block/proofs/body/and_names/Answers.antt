use Rattle.std.proofs.Common.{ap}
use Rattle.svr_elab_fault.specs.Refusals.{first_one}
use Rattle.svr_elab_block.specs.Blocks as spec
use Rattle.svr_elab_block.specs.Seen.{body_part}
use Rattle.svr_elab_block.proofs.body.and_names.Goals as goal

pub returns : goal.returns
returns c =
    rw c.in_ok-part.ensures.held (ap (spec.with_names first_one (body_part c.args.part)) (rw c.in_ok-part.ensures.made at c.declare-declared.ensures))
