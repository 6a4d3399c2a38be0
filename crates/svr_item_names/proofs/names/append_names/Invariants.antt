use Rattle.std.proofs.Common.{◌≡◌, ◌+◌, ◌++◌, drop}
use Rattle.svr_typed.specs.ItemTerm.{item_terms}
use Rattle.svr_item_names.specs.Names.{entry_names}
use Rattle.svr_item_names.proofs.names.append_names.Given as goal

abbrev pub invariant-loop-place : goal.invariant-loop-place
invariant-loop-place l = l.names ++ entry_names l.block (l.place + 1) (item_terms (drop l.place l.items)) ≡ l.initial.names ++ entry_names l.block 1 (item_terms l.items)
