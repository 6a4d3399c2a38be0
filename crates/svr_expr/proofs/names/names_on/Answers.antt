use Rattle.std.proofs.Common.{rules, arith, [], ◌∷◌}
use Rattle.std.proofs.lemmas.Grind.{common_steps}
use Rattle.svr_reader.specs.Outcomes.{turns}
use Rattle.svr_reader.specs.Calls.{cap}
use Rattle.svr_reader.proofs.Turns.{one_more, at_first}
use Rattle.svr_token.specs.declared.Mark.TheVariants as m
use Rattle.svr_reader.specs.declared.fixed.Fixed.TheVariants as f
use Rattle.svr_reader.proofs.Calls.{below, few, eaten_less}
use Rattle.svr_expr.proofs.Shorter.{name_less}
use Rattle.svr_expr.specs.ExprRules.{name_step, names_on}
use Rattle.svr_reader.specs.Answers.{plainly}
use Rattle.svr_expr.proofs.names.names_on.Goals as goal

pub returns-then-not-eat : goal.returns-then-not-eat
unfolding name_step
returns-then-not-eat c =
    let e = one_more (λ n. turns n (λ s. plainly (name_step s)) (c.loop-turn.names, c.loop-turn.kind) c.loop-turn.cursor) cap c.loop-turn._turn (below c.loop-turn._turn (few _ _ c.loop-turn-test.true c.loop-turn.invariant.all)) c.loop-turn.invariant.gives in
    first_of (search rules, grind (arith, common_steps))

pub returns-in_err-name : goal.returns-in_err-name
unfolding name_step
returns-in_err-name c =
    let e = one_more (λ n. turns n (λ s. plainly (name_step s)) (c.loop-turn.names, c.loop-turn.kind) c.loop-turn.cursor) cap c.loop-turn._turn (below c.loop-turn._turn (few _ _ c.loop-turn-test.true c.loop-turn.invariant.all)) c.loop-turn.invariant.gives in
    first_of (search rules, grind (arith, common_steps))

pub loop-turn-preserved : goal.loop-turn-preserved
unfolding name_step
loop-turn-preserved c = record {
  gives =
      let e = one_more (λ n. turns n (λ s. plainly (name_step s)) (c.loop-turn.names, c.loop-turn.kind) c.loop-turn.cursor) cap c.loop-turn._turn (below c.loop-turn._turn (few _ _ c.loop-turn-test.true c.loop-turn.invariant.all)) c.loop-turn.invariant.gives in
      first_of (search rules, grind (arith, common_steps));
  few =
      let less = eaten_less (f.Mark m.Dot) c.loop-turn.cursor c.eat.new.self (search rules) in
      let less2 = name_less c.eat.new.self (c.in_ok-name.name, c.in_ok-name.name_kind) c.known_name.new.self (search rules) in
      omega (arith, less, less2, c.loop-turn.invariant.few);
  all = c.loop-turn.invariant.all;
}

pub loop-turn-init : goal.loop-turn-init
unfolding names_on
loop-turn-init c = record {
  gives =
      let e = at_first (λ n. turns n (λ s. plainly (name_step s)) (c.args.first ∷ [], c.args.first_kind) c.args.cursor.now) cap in
      first_of (search rules, grind (arith, common_steps));
  few = omega arith;
  all = omega arith;
}
