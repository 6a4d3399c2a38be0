use Rattle.svr_item.proofs.items.+item.Given as goal

abbrev pub decreases-item : goal.decreases-item
decreases-item l = l.room
