use Rattle.std.proofs.Common.{◌≡◌, drop}
use Rattle.svr_typed.specs.ItemTerm.{item_terms}
use Rattle.svr_expand.specs.Expanded.{any_disables}
use Rattle.svr_expand.proofs.walk.+disables.Given as goal

abbrev pub invariant-have_disable-loop-item : goal.invariant-have_disable-loop-item
invariant-have_disable-loop-item l = any_disables (item_terms (drop l.item-index l.items)) ≡ any_disables (item_terms l.items)
