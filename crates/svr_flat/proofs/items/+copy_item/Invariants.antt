use Rattle.std.proofs.Common.{◌≡◌, ◌+◌, ◌*◌, max, take}
use Rattle.svr_typed.specs.declared.item.TItem.{size-TItem}
use Rattle.svr_flat.proofs.items.+copy_item.Given as goal

abbrev pub invariant-copy_items-loop-item : goal.invariant-copy_items-loop-item
invariant-copy_items-loop-item l = l.copies ≡ take l.item-index l.items

abbrev pub decreases-copy_item : goal.decreases-copy_item
decreases-copy_item l = 4 * size-TItem l.item.now

abbrev pub decreases-copy_implication : goal.decreases-copy_implication
decreases-copy_implication l = 4 * goal.size-copy_implication l + 2

abbrev pub decreases-copy_branch : goal.decreases-copy_branch
decreases-copy_branch l = 4 * goal.size-copy_branch l + 2

abbrev pub decreases-copy_branch_else : goal.decreases-copy_branch_else
decreases-copy_branch_else l = 4 * goal.size-copy_branch_else l + 2

abbrev pub decreases-copy_loop : goal.decreases-copy_loop
decreases-copy_loop l = 4 * goal.size-copy_loop l + 2

abbrev pub decreases-copy_items : goal.decreases-copy_items
decreases-copy_items l = 4 * goal.size-copy_items l + 1
