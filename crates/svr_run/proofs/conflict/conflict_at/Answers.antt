use Rattle.std.proofs.Common.{◌<◌, ◌^◌, List, length, sym, subst}
use Rattle.svr_typed.specs.declared.class.TBlock.{TBlock}
use Rattle.svr_frame_of.proofs.Steps.{few_blocks}
use Rattle.svr_run.proofs.conflict.conflict_at.Goals as goal

pub item_names-requires : goal.item_names-requires
item_names-requires c = subst (λ (bs : List TBlock). length bs < 2 ^ 32) (sym c.as_slice-blocks.ensures) (few_blocks c.args.frame.now.class.blocks c.requires.few_blocks)
