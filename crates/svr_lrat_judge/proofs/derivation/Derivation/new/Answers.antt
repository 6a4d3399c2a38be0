use Rattle.std.proofs.Common.{ℕ, List, nat_eq, false, None, ap}
use Rattle.std.specs.Map.{lookup}
use Rattle.svr_chain.specs.declared.clause.Lit.{Lit}
use Rattle.svr_lrat_judge.specs.Verdict.{State}
use Rattle.svr_lrat_judge.proofs.derivation.Derivation.new.Goals as goal

pub returns : goal.returns
returns c =
    let held : List (ℕ × List Lit) → State = λ es. record { live = λ k. lookup (nat_eq k) es; last = 0; has_empty = false; fault = None } in
    ap held c.new-clauses.ensures.empty
