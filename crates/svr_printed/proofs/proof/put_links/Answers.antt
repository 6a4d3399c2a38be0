use Rattle.std.proofs.Common.{◌++◌, refl, arith}
use Rattle.std.specs.List.{flat_map}
use Rattle.svr_script.specs.ProofText.{link_text}
use Rattle.svr_stream.proofs.Rows.{left_all, row_copy, row_none}
use Rattle.svr_printed.proofs.proof.put_links.Goals as goal

pub loop-link-init : goal.loop-link-init
loop-link-init g c = left_all

pub loop-link-preserved : goal.loop-link-preserved
loop-link-preserved g c =
    row_copy (flat_map link_text) c.args.links.now c.loop-link.link-index _ c.loop-link.invariant c.put_link.ensures (omega arith) refl

pub returns : goal.returns
returns g c = row_none (flat_map link_text) c.args.links.now c.loop-link.link-index c.loop-link.invariant (omega arith) refl
