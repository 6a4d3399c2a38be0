use Rattle.std.proofs.Common.{ℕ, ◌-◌, Option, subst, ap, ◌∙◌}
use Rattle.std.proofs.lemmas.List.{take_rest}
use Rattle.svr_elab_order.specs.Cycles.{IsFirstCycle, all_refused}
use Rattle.svr_elab_order.proofs.Firsts.{cycles_none, cycles_some}
use Rattle.svr_elab_order.proofs.refuse.cycle_fault.Goals as goal

pub returns-in-None : goal.returns-in-None
returns-in-None c =
    let P : Option ℕ → Type 0 = λ r. IsFirstCycle c.args.orders.now c.args.given r in
    cycles_none c.args.orders.now c.args.given (subst P c.in-None.is c.in_ok-first_cycle.ensures)

pub returns-in-Some : goal.returns-in-Some
returns-in-Some c =
    let P : Option ℕ → Type 0 = λ r. IsFirstCycle c.args.orders.now c.args.given r in
    c.refused.ensures
    ∙ ap all_refused (take_rest c.args.orders.now (c.in-Some.count - 1))
    ∙ cycles_some c.args.orders.now c.args.given c.in-Some.count (subst P c.in-Some.is c.in_ok-first_cycle.ensures)
