use Rattle.std.proofs.Common.{List, [], ◌<◌, length, rules, arith, map}
use Rattle.std.proofs.lemmas.Grind.{common_steps}
use Rattle.svr_tree.specs.DeclTree.{VarTree, var_tree}
use Rattle.svr_reader.specs.Outcomes.{turns, go}
use Rattle.svr_reader.specs.Calls.{cap}
use Rattle.svr_reader.specs.Lists.{WithHeight, with_last}
use Rattle.svr_parse.specs.ScriptRules.{inner, within, inner_step}
use Rattle.svr_reader.proofs.Calls.{few}
use Rattle.svr_reader.proofs.Turns.{at_first}
use Rattle.svr_parse.proofs.Local.{inner_leaves}
use Rattle.svr_parse.proofs.Looping.{turn_fails, turn_is}
use Rattle.svr_parse.proofs.reader.Reader.inner.Goals as goal

pub returns-in_err-found : goal.returns-in_err-found
returns-in_err-found c =
    let s : WithHeight (List VarTree) = (map var_tree c.loop-turn.vars, c.loop-turn.vars_height) in
    let e = turn_fails (λ s2. within cap c.args.self.now.room (inner_step s2)) _ c.loop-turn._turn s c.loop-turn.cursor (few _ _ c.loop-turn-test.true c.loop-turn.invariant.low) c.loop-turn.invariant.keeps _ (c.in_err-found.ensures s) in
    first_of (search rules, grind (arith, common_steps))

pub loop-turn-preserved : goal.loop-turn-preserved
loop-turn-preserved c =
    let s : WithHeight (List VarTree) = (map var_tree c.loop-turn.vars, c.loop-turn.vars_height) in
    let e = turn_is (λ s2. within cap c.args.self.now.room (inner_step s2)) _ c.loop-turn._turn s c.loop-turn.cursor (few _ _ c.loop-turn-test.true c.loop-turn.invariant.low) c.loop-turn.invariant.keeps _ _ (c.in_ok-found.ensures s) in
    let less : length c.declared.new.cursor < length c.loop-turn.cursor = inner_leaves cap c.args.self.now.room s c.loop-turn.cursor (go (with_last s (var_tree c.in-Var.found, c.in-Var.height))) c.declared.new.cursor (search rules) in
    record {
      keeps = first_of (search rules, grind (arith, common_steps));
      few = first_of (omega (arith, less, c.loop-turn.invariant.few), grind (arith, common_steps));
      low = c.loop-turn.invariant.low;
    }

pub returns-in-Stmt : goal.returns-in-Stmt
returns-in-Stmt c =
    let s : WithHeight (List VarTree) = (map var_tree c.loop-turn.vars, c.loop-turn.vars_height) in
    let e = turn_is (λ s2. within cap c.args.self.now.room (inner_step s2)) _ c.loop-turn._turn s c.loop-turn.cursor (few _ _ c.loop-turn-test.true c.loop-turn.invariant.low) c.loop-turn.invariant.keeps _ _ (c.in_ok-found.ensures s) in
    first_of (search rules, grind (arith, common_steps))

pub returns-in-Nothing : goal.returns-in-Nothing
returns-in-Nothing c =
    let s : WithHeight (List VarTree) = (map var_tree c.loop-turn.vars, c.loop-turn.vars_height) in
    let e = turn_is (λ s2. within cap c.args.self.now.room (inner_step s2)) _ c.loop-turn._turn s c.loop-turn.cursor (few _ _ c.loop-turn-test.true c.loop-turn.invariant.low) c.loop-turn.invariant.keeps _ _ (c.in_ok-found.ensures s) in
    first_of (search rules, grind (arith, common_steps))

pub loop-turn-init : goal.loop-turn-init
unfolding inner
loop-turn-init c = record {
  keeps =
      let e = at_first (λ n. turns n (λ s. within cap c.args.self.now.room (inner_step s)) ([], 0) c.args.cursor.now) cap in
      first_of (search rules, grind (arith, common_steps));
  few = omega arith;
  low = omega arith;
}
