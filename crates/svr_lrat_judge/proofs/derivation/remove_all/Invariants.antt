use Rattle.std.proofs.Common.{◌≡◌, ◌&&◌, fold, take, drop, nat_eq}
use Rattle.indexmap.specs.IndexMap.{get}
use Rattle.svr_lrat_judge.specs.Verdict.{without_number, are_live}
use Rattle.svr_lrat_judge.proofs.derivation.remove_all.Given as goal

abbrev pub invariant-loop-id : goal.invariant-loop-id
invariant-loop-id l = record {
  rest : get nat_eq l.clauses ≡ fold without_number (get nat_eq l.fn.clauses) (take l.id-index l.ids);
  each : (l.live && are_live (get nat_eq l.clauses) (drop l.id-index l.ids)) ≡ are_live (get nat_eq l.fn.clauses) l.ids;
}
