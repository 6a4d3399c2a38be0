-- What is left of a clause, literal by literal
use Rattle.std.specs.Prelude.{List, if◌then◌else◌}
use Rattle.svr_chain.specs.declared.clause.Lit.{Lit}
use Rattle.svr_chain.specs.Clauses.{same_lit, flip, has}
use Rattle.svr_lrat_judge.specs.declared.verdict.LratReason.TheVariants as reason
use Rattle.svr_lrat_judge.specs.declared.hints.Hinted.{Hinted}
use Rattle.svr_lrat_judge.specs.declared.hints.Hinted.TheVariants as h

abbrev pub with_left : Hinted → Lit → Hinted
with_left h.Shown l = h.Unit l
with_left (h.Unit first) l = if same_lit first l then h.Unit first else h.Fault reason.TwoLeft
with_left (h.Fault r) l = h.Fault r

abbrev pub left_step : List Lit → Hinted → Lit → Hinted
left_step known so_far l = if has known (flip l) then so_far else with_left so_far l
