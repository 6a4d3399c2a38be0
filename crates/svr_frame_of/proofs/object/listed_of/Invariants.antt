use Rattle.std.proofs.Common.{◌≡◌, ◌==◌, map}
use Rattle.std.specs.List.{list_any, range_with_len}
use Rattle.svr_frame_of.proofs.object.listed_of.Given as goal

abbrev pub invariant-loop-prop : goal.invariant-loop-prop
invariant-loop-prop l = l.random ≡ map (λ p. list_any (λ q. q == p) l.listed) (range_with_len 0 l.prop)
