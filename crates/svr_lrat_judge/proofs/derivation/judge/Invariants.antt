use Rattle.std.proofs.Common.{◌≡◌, fold}
use Rattle.svr_lrat_judge.specs.States.{state_at}
use Rattle.svr_lrat_judge.specs.Verdict.{start, with_input, after_line}
use Rattle.svr_lrat_judge.proofs.derivation.judge.Given as goal

abbrev pub invariant-loop-clause : goal.invariant-loop-clause
invariant-loop-clause l = state_at l.derivation ≡ fold with_input start l.yielded

abbrev pub invariant-loop-line : goal.invariant-loop-line
invariant-loop-line l = state_at l.derivation ≡ fold after_line (fold with_input start l.fn.file.clauses) l.yielded
