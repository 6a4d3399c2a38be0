use Rattle.std.proofs.Common.{rules, ◌≡◌, ◌∷◌, sym, ap, option_map}
use Rattle.svr_typed.specs.ExprTerm.{expr_term}
use Rattle.svr_frame.specs.Occurrences as spec
use Rattle.svr_frame.specs.Occurrences.{Guard}
use Rattle.svr_closed.proofs.Forms.{made_is}
use Rattle.svr_expand.specs.Expanded.{guards_of}
use Rattle.svr_expand.specs.declared.around.Around.{the_lemmas}
use Rattle.svr_expand.proofs.guards.+condition.Goals as goal

pub returns-in-Under : goal.returns-in-Under
returns-in-Under t c =
    let g : Guard = record { test = expr_term c.in-Under.test.now; wanted = c.in-Under.wanted; env = c.in-Under.env.now } in
    let outer = spec.condition (guards_of c.in-Under.others.now) in
    let step : guards_of c.args.at.now ≡ g ∷ guards_of c.in-Under.others.now = search (rules, the_lemmas) in
    made_is (option_map expr_term) c.with_own.result _ _ (ap spec.condition (sym step)) (c.with_own.ensures outer (spec.guard_expr g) c.condition-in-Under.ensures c.guard-own.ensures)
