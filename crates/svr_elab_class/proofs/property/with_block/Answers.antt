use Rattle.std.proofs.Common.{sym, ◌∙◌}
use Rattle.svr_elab_class.specs.Seen.{class_part}
use Rattle.svr_elab_class.proofs.Forms.{block_twice, block_more}
use Rattle.svr_elab_class.proofs.property.with_block.Goals as goal

pub returns-then-is_among : goal.returns-then-is_among
returns-then-is_among c =
    block_twice (class_part c.args.part) (class_part c.and_fault.result) c.args.spelled.now c.args.name _ c.and_fault.ensures c.when.ensures (sym c.is_among.ensures ∙ c.if-is_among.true)

pub returns : goal.returns
returns c =
    let made = c.in_ok-part.ensures.made in
    rw c.in_ok-part.ensures.held
    (block_more (class_part c.args.part) c.args.spelled.now c.args.name _ _
    (rw (rw made at c.both.ensures.first) at c.with_name-own.ensures) (rw (rw made at c.both.ensures.second) at c.with_name-blocks.ensures) (sym c.is_among.ensures ∙ c.if-is_among.false))
