use Rattle.std.proofs.Common.{◌≡◌, ℕ, ◌+◌, ◌&&◌, ◌||◌, nat_lt, nat_eq, false, length, take, get_or}
use Rattle.std.specs.List.{list_any}
use Rattle.svr_chain.specs.declared.log.Link.{Link}
use Rattle.svr_lrat_made.proofs.needed.mark_used.Given as goal

abbrev pub invariant-loop-link : goal.invariant-loop-link
invariant-loop-link l = record {
  long : length l.marks.items ≡ length l.fn.marks.items;
  marked : (k : ℕ) → get_or l.marks.items k false ≡ (get_or l.initial.marks.items k false || (nat_lt k l.limit && list_any (λ (x : Link). nat_eq x.clause (l.first + k)) (take l.link-index l.links)));
}
