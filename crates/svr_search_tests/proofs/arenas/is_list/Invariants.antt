use Rattle.std.proofs.Common.{◌≡◌, true}
use Rattle.std.specs.Prelude.{IfSome}
use Rattle.svr_arena.specs.Layout.{is_in, watched}
use Rattle.svr_search_tests.proofs.arenas.is_list.Given as goal

abbrev pub invariant-loop-wanted : goal.invariant-loop-wanted
invariant-loop-wanted l = IfSome l.at (λ c. is_in c (watched l.arena l.lit) ≡ true)
