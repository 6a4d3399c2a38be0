use Rattle.std.proofs.Common.{rules, arith}
use Rattle.std.proofs.lemmas.Grind.{common_steps}
use Rattle.svr_tree.specs.ExprTree.{expr_tree}
use Rattle.svr_tree.specs.Operators.{selection_level}
use Rattle.svr_reader.specs.Outcomes.{turns}
use Rattle.svr_reader.specs.Calls.{cap, height_view}
use Rattle.svr_reader.proofs.Turns.{one_more, at_first}
use Rattle.svr_reader.proofs.Calls.{below, few}
use Rattle.svr_expr.proofs.Shorter.{extend_less}
use Rattle.svr_expr.specs.ExprRules.{climb, climb_step, within}
use Rattle.svr_expr.proofs.reader.Reader.climb.Goals as goal

pub returns-in_default-clause-gives : goal.returns-in_default-clause-gives
unfolding climb_step
returns-in_default-clause-gives g c =
    let e = one_more (λ n. turns n (λ s. within cap c.args.self.now.room (climb_step c.args.at c.args.least s)) ((height_view expr_tree (c.loop-turn.left, c.loop-turn.height), c.loop-turn.most)) c.loop-turn.cursor) cap c.loop-turn._turn (below c.loop-turn._turn (few _ _ c.loop-turn-test.true c.loop-turn.invariant.all)) c.loop-turn.invariant.gives in
    first_of (search rules, grind (arith, common_steps))

pub returns-then-not-goes_on-clause-gives : goal.returns-then-not-goes_on-clause-gives
unfolding climb_step
returns-then-not-goes_on-clause-gives g c =
    let e = one_more (λ n. turns n (λ s. within cap c.args.self.now.room (climb_step c.args.at c.args.least s)) ((height_view expr_tree (c.loop-turn.left, c.loop-turn.height), c.loop-turn.most)) c.loop-turn.cursor) cap c.loop-turn._turn (below c.loop-turn._turn (few _ _ c.loop-turn-test.true c.loop-turn.invariant.all)) c.loop-turn.invariant.gives in
    first_of (search rules, grind (arith, common_steps))

pub returns-in_err-longer-clause-gives : goal.returns-in_err-longer-clause-gives
unfolding climb_step
returns-in_err-longer-clause-gives g c =
    let e = one_more (λ n. turns n (λ s. within cap c.args.self.now.room (climb_step c.args.at c.args.least s)) ((height_view expr_tree (c.loop-turn.left, c.loop-turn.height), c.loop-turn.most)) c.loop-turn.cursor) cap c.loop-turn._turn (below c.loop-turn._turn (few _ _ c.loop-turn-test.true c.loop-turn.invariant.all)) c.loop-turn.invariant.gives in
    first_of (search rules, grind (arith, common_steps))

pub loop-turn-preserved : goal.loop-turn-preserved
unfolding climb_step
loop-turn-preserved g c = record {
  gives =
      let e = one_more (λ n. turns n (λ s. within cap c.args.self.now.room (climb_step c.args.at c.args.least s)) ((height_view expr_tree (c.loop-turn.left, c.loop-turn.height), c.loop-turn.most)) c.loop-turn.cursor) cap c.loop-turn._turn (below c.loop-turn._turn (few _ _ c.loop-turn-test.true c.loop-turn.invariant.all)) c.loop-turn.invariant.gives in
      first_of (search rules, grind (arith, common_steps));
  low = first_of (search rules, omega arith);
  few = let less = extend_less c.args.self.now.room c.args.at (height_view expr_tree (c.loop-turn.left, c.loop-turn.height)) c.in-Some.connective c.loop-turn.cursor (height_view expr_tree (c.in_ok-longer.longer, c.in_ok-longer.longer_height)) c.extend.new.cursor (search rules) in omega (arith, less, c.loop-turn.invariant.few);
  all = c.loop-turn.invariant.all;
}

pub loop-turn-init : goal.loop-turn-init
unfolding climb
loop-turn-init g c = record {
  gives =
      let e = at_first (λ n. turns n (λ s. within cap c.args.self.now.room (climb_step c.args.at c.args.least s)) ((height_view expr_tree (c.args.first, c.args.first_height), selection_level)) c.args.cursor.now) cap in
      first_of (search rules, grind (arith, common_steps));
  low = first_of (search rules, omega arith);
  few = omega arith;
  all = omega arith;
}
