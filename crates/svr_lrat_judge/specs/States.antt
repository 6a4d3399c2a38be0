-- The state of a derivation, as it is held
use Rattle.std.specs.Prelude.{nat_eq}
use Rattle.indexmap.specs.IndexMap.{get}
use Rattle.svr_lrat_judge.specs.declared.derivation.Derivation.{Derivation}
use Rattle.svr_lrat_judge.specs.Verdict.{State}

abbrev pub state_at : Derivation → State
state_at d = record { live = get nat_eq d.clauses; last = d.last; has_empty = d.has_empty; fault = d.fault }
