use Rattle.std.proofs.Common.{◌≡◌, ℕ, sym, subst}
use Rattle.std.specs.Prelude.{[], IfOk}
use Rattle.svr_typed.specs.ExprTerm.{expr_term}
use Rattle.svr_eval.specs.Value.{sign_of, val}
use Rattle.svr_script.specs.Numbered.{numbered, reading_of_world}
use Rattle.svr_effect.proofs.Computed as computed
use Rattle.svr_effect.proofs.values.alone.Goals as goal

pub computed_at-requires-clause-high : goal.computed_at-requires-clause-high
computed_at-requires-clause-high c = computed.at_most c.args.e.now c.requires.own

pub returns-clause-value : goal.returns-clause-value
returns-clause-value c =
    let e = expr_term c.args.e.now in
    subst (λ (n : ℕ). IfOk c.computed_at.result (λ v. v.value ≡ val (reading_of_world c.args.world.now) [] (numbered e) n (sign_of e))) (sym (computed.own_width c.args.e.now c.requires.own)) c.computed_at.ensures.value

pub returns-clause-width : goal.returns-clause-width
returns-clause-width c = subst (λ (n : ℕ). IfOk c.computed_at.result (λ v. v.width ≡ n)) (sym (computed.own_width c.args.e.now c.requires.own)) c.computed_at.ensures.width
