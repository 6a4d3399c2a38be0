use Rattle.std.proofs.Common.{◌≡◌, ℕ, ◌||◌, List, map, take}
use Rattle.std.specs.List.{list_any}
use Rattle.svr_elab_names.specs.Names.{is_same}
use Rattle.svr_elab_names.specs.Tables.{bytes_of}
use Rattle.svr_elab_block.proofs.inherit.with_names.Given as goal

abbrev pub invariant-loop-name : goal.invariant-loop-name
invariant-loop-name l =
    (q : List ℕ) → list_any (is_same q) (map bytes_of l.names.keys) ≡ (list_any (is_same q) (map bytes_of l.initial.names.keys) || list_any (is_same q) (map bytes_of (take l.name-index l.more)))
