use Rattle.std.proofs.Common.{◌<◌, length, rules, arith, map}
use Rattle.std.proofs.lemmas.Grind.{common_steps}
use Rattle.svr_tree.specs.DeclTree.{type_decl_tree, class_tree}
use Rattle.svr_reader.specs.Outcomes.{turns, go}
use Rattle.svr_reader.specs.Calls.{cap}
use Rattle.svr_reader.specs.Lists.{WithHeight}
use Rattle.svr_parse.specs.ScriptRules.{Tops, no_tops, with_type, with_class, tops, within, top_step}
use Rattle.svr_reader.proofs.Calls.{few}
use Rattle.svr_reader.proofs.Turns.{at_first}
use Rattle.svr_parse.proofs.Local.{top_leaves}
use Rattle.svr_parse.proofs.Looping.{turn_fails, turn_is}
use Rattle.svr_parse.proofs.reader.Reader.tops.Goals as goal
use Rattle.svr_parse.proofs.reader.Reader.tops.Goals.{in-Type+in_ok-push-in-Type+in_ok-push-in-Type-2, in-Class+in_ok-push-in-Class+in_ok-push-in-Class-2}

pub returns-in_err-found : goal.returns-in_err-found
returns-in_err-found c =
    let s : WithHeight Tops = (record { types = map type_decl_tree c.loop-turn.types; classes = map class_tree c.loop-turn.classes; order = c.loop-turn.order }, c.loop-turn.highest) in
    let e = turn_fails (λ s2. within cap c.args.self.now.room (top_step s2)) _ c.loop-turn._turn s c.loop-turn.cursor (few _ _ c.loop-turn-test.true c.loop-turn.invariant.low) c.loop-turn.invariant.keeps _ (c.in_err-found.ensures s) in
    first_of (search rules, grind (arith, common_steps))

pub returns-in-Unit : goal.returns-in-Unit
returns-in-Unit c =
    let s : WithHeight Tops = (record { types = map type_decl_tree c.loop-turn.types; classes = map class_tree c.loop-turn.classes; order = c.loop-turn.order }, c.loop-turn.highest) in
    let e = turn_is (λ s2. within cap c.args.self.now.room (top_step s2)) _ c.loop-turn._turn s c.loop-turn.cursor (few _ _ c.loop-turn-test.true c.loop-turn.invariant.low) c.loop-turn.invariant.keeps _ _ (c.in_ok-found.ensures s) in
    first_of (search rules, grind (arith, common_steps))

pub loop-turn-preserved : goal.loop-turn-preserved
loop-turn-preserved c =
    let s : WithHeight Tops = (record { types = map type_decl_tree c.loop-turn.types; classes = map class_tree c.loop-turn.classes; order = c.loop-turn.order }, c.loop-turn.highest) in
    let e = turn_is (λ s2. within cap c.args.self.now.room (top_step s2)) _ c.loop-turn._turn s c.loop-turn.cursor (few _ _ c.loop-turn-test.true c.loop-turn.invariant.low) c.loop-turn.invariant.keeps _ _ (c.in_ok-found.ensures s) in
    elim c.match-branch-2.branch [
      | in-Type+in_ok-push-in-Type+in_ok-push-in-Type-2 w ↦ record {
        keeps = first_of (search rules, grind (arith, common_steps));
        few =
            let less : length c.top.new.cursor < length c.loop-turn.cursor = top_leaves cap c.args.self.now.room s c.loop-turn.cursor (go (with_type s (type_decl_tree w.in-Type.found, w.in-Type.height))) c.top.new.cursor (search rules) in
            omega (arith, less, c.loop-turn.invariant.few);
        low = c.loop-turn.invariant.low;
      }
      | in-Class+in_ok-push-in-Class+in_ok-push-in-Class-2 w ↦ record {
        keeps = first_of (search rules, grind (arith, common_steps));
        few =
            let less : length c.top.new.cursor < length c.loop-turn.cursor = top_leaves cap c.args.self.now.room s c.loop-turn.cursor (go (with_class s (class_tree w.in-Class.found, w.in-Class.height))) c.top.new.cursor (search rules) in
            omega (arith, less, c.loop-turn.invariant.few);
        low = c.loop-turn.invariant.low;
      }
    ]

pub loop-turn-init : goal.loop-turn-init
unfolding tops
loop-turn-init c = record {
  keeps =
      let e = at_first (λ n. turns n (λ s. within cap c.args.self.now.room (top_step s)) no_tops c.args.cursor.now) cap in
      first_of (search rules, grind (arith, common_steps));
  few = omega arith;
  low = omega arith;
}
