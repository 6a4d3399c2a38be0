use Rattle.std.proofs.Common.{map, option_map, ap, ◌∙◌}
use Rattle.svr_typed.specs.ClassTerm.{block_term}
use Rattle.svr_elab_part.specs.Shapes.{and_more}
use Rattle.svr_elab_block.proofs.Forms.{told, more_seen}
use Rattle.svr_elab_block.proofs.body.with_typed.Goals as goal

pub returns : goal.returns
returns c =
    told c.and_more.result c.and_more.ensures
    (λ done is.
    ap (option_map (map block_term)) is ∙ more_seen block_term c.args.blocks.now c.in_ok-block.block
    ∙ ap (and_more (option_map (map block_term) c.args.blocks.now)) c.in_ok-block.ensures)
