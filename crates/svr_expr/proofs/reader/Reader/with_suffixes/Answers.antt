use Rattle.std.proofs.Common.{rules, arith}
use Rattle.std.proofs.lemmas.Grind.{common_steps}
use Rattle.svr_tree.specs.ExprTree.{expr_tree}
use Rattle.svr_reader.specs.Outcomes.{turns}
use Rattle.svr_reader.specs.Calls.{cap, height_view}
use Rattle.svr_reader.proofs.Turns.{one_more, at_first}
use Rattle.svr_reader.proofs.Calls.{below, few}
use Rattle.svr_expr.proofs.Shorter.{select_less}
use Rattle.svr_expr.specs.ExprRules.{suffix_step, with_suffixes, within}
use Rattle.svr_expr.proofs.reader.Reader.with_suffixes.Goals as goal

pub returns-in_err-longer-in-Some-Mark-OpenBracket-clause-gives : goal.returns-in_err-longer-in-Some-Mark-OpenBracket-clause-gives
unfolding suffix_step
returns-in_err-longer-in-Some-Mark-OpenBracket-clause-gives g c =
    let e = one_more (λ n. turns n (λ s. within cap c.args.self.now.room (suffix_step c.args.at s)) (height_view expr_tree (c.loop-turn.base, c.loop-turn.height)) c.loop-turn.cursor) cap c.loop-turn._turn (below c.loop-turn._turn (few _ _ c.loop-turn-test.true c.loop-turn.invariant.all)) c.loop-turn.invariant.gives in
    first_of (search rules, grind (arith, common_steps))

pub returns-in-Some-Mark-OpenParen-clause-gives : goal.returns-in-Some-Mark-OpenParen-clause-gives
unfolding suffix_step
returns-in-Some-Mark-OpenParen-clause-gives g c =
    let e = one_more (λ n. turns n (λ s. within cap c.args.self.now.room (suffix_step c.args.at s)) (height_view expr_tree (c.loop-turn.base, c.loop-turn.height)) c.loop-turn.cursor) cap c.loop-turn._turn (below c.loop-turn._turn (few _ _ c.loop-turn-test.true c.loop-turn.invariant.all)) c.loop-turn.invariant.gives in
    first_of (search rules, grind (arith, common_steps))

pub returns-in_default-clause-gives : goal.returns-in_default-clause-gives
unfolding suffix_step
returns-in_default-clause-gives g c =
    let e = one_more (λ n. turns n (λ s. within cap c.args.self.now.room (suffix_step c.args.at s)) (height_view expr_tree (c.loop-turn.base, c.loop-turn.height)) c.loop-turn.cursor) cap c.loop-turn._turn (below c.loop-turn._turn (few _ _ c.loop-turn-test.true c.loop-turn.invariant.all)) c.loop-turn.invariant.gives in
    first_of (search rules, grind (arith, common_steps))

pub loop-turn-preserved : goal.loop-turn-preserved
unfolding suffix_step
loop-turn-preserved g c = record {
  gives =
      let e = one_more (λ n. turns n (λ s. within cap c.args.self.now.room (suffix_step c.args.at s)) (height_view expr_tree (c.loop-turn.base, c.loop-turn.height)) c.loop-turn.cursor) cap c.loop-turn._turn (below c.loop-turn._turn (few _ _ c.loop-turn-test.true c.loop-turn.invariant.all)) c.loop-turn.invariant.gives in
      first_of (search rules, grind (arith, common_steps));
  low = first_of (search rules, omega arith);
  few = let less = select_less c.args.self.now.room c.args.at (height_view expr_tree (c.loop-turn.base, c.loop-turn.height)) c.loop-turn.cursor (height_view expr_tree (c.in_ok-longer-in-Some-Mark-OpenBracket.longer, c.in_ok-longer-in-Some-Mark-OpenBracket.longer_height)) c.select_on.new.cursor (search rules) in omega (arith, less, c.loop-turn.invariant.few);
  all = c.loop-turn.invariant.all;
}

pub loop-turn-init : goal.loop-turn-init
unfolding with_suffixes
loop-turn-init g c = record {
  gives =
      let e = at_first (λ n. turns n (λ s. within cap c.args.self.now.room (suffix_step c.args.at s)) (height_view expr_tree (c.args.first, c.args.first_height)) c.args.cursor.now) cap in
      first_of (search rules, grind (arith, common_steps));
  low = first_of (search rules, omega arith);
  few = omega arith;
  all = omega arith;
}
