use Rattle.std.proofs.Common.{◌≡◌, ◌∙◌, ◌∷◌, [], ap, subst, ℕ, List, arith, length, take, cond}
use Rattle.std.proofs.lemmas.List.{length-take-le}
use Rattle.svr_chain.specs.declared.clause.Lit.{Lit}
use Rattle.svr_chain.specs.Valuations.{lit_value}
use Rattle.svr_gate.specs.Numbers.{number}
use Rattle.svr_gate.specs.Gates.{table_value}
use Rattle.svr_gate.specs.Circuit.{Tells, GivesNumber}
use Rattle.svr_gate.proofs.Circuits.{later, Tells-later}
use Rattle.svr_arith.proofs.DivisionLemmas.{goes_tells, left_gives}
use Rattle.svr_arith.proofs.division.step.Goals as goal

pub returns-in_err-goes-clause-extends : goal.returns-in_err-goes-clause-extends
returns-in_err-goes-clause-extends c = search later

pub returns-in_err-left-clause-extends : goal.returns-in_err-left-clause-extends
returns-in_err-left-clause-extends c = search later

pub returns-clause-extends : goal.returns-clause-extends
returns-clause-extends c = search later

pub returns-clause-goes : goal.returns-clause-goes
returns-clause-goes c =
    Tells-later c.choose.ensures.extends
    (goes_tells c.difference.new.b c.define.new.self c.choose.new.b c.in_ok-less.less.items c.args.rest.now c.args.y.now c.in_ok-left.left.items c.args.fits c.in_ok-goes.goes c.index-is_enough.result.now c.requires.len c.define.ensures.extends c.choose.ensures.extends c.in_ok-less.ensures.value
    (subst (λ (l : Lit). Tells c.define.new.self c.in_ok-goes.goes (λ a. table_value 0x8 (number a (c.args.fits ∷ l ∷ [])))) c.index-is_enough.ensures c.in_ok-goes.ensures.value))

pub returns-clause-rest : goal.returns-clause-rest
returns-clause-rest c =
    left_gives c.difference.new.b c.define.new.self c.choose.new.b c.in_ok-less.less.items c.args.rest.now c.args.y.now c.in_ok-left.left.items c.args.fits c.in_ok-goes.goes c.index-is_enough.result.now c.requires.len c.define.ensures.extends c.choose.ensures.extends c.in_ok-less.ensures.value
    (subst (λ (l : Lit). Tells c.define.new.self c.in_ok-goes.goes (λ a. table_value 0x8 (number a (c.args.fits ∷ l ∷ [])))) c.index-is_enough.ensures c.in_ok-goes.ensures.value)
    (subst (λ (v : List Lit). GivesNumber c.choose.new.b c.in_ok-left.left.items (length c.args.rest.now) (λ a. cond (lit_value a c.in_ok-goes.goes) (number a v) (number a c.args.rest.now))) low
    (subst (λ (k : ℕ). GivesNumber c.choose.new.b c.in_ok-left.left.items k (λ a. cond (lit_value a c.in_ok-goes.goes) (number a c.deref.result.now) (number a c.args.rest.now))) len c.in_ok-left.ensures.value)) where
      low : c.deref.result.now ≡ take (length c.args.rest.now) c.in_ok-less.less.items
      low = c.deref.ensures.value ∙ c.truncate.ensures.items

      len : length c.deref.result.now ≡ length c.args.rest.now
      len = ap length low ∙ length-take-le (length c.args.rest.now) c.in_ok-less.less.items (omega (arith, c.in_ok-less.ensures.value.len))
