use Rattle.std.proofs.Common.{rules, arith, ap, length}
use Rattle.svr_reader.proofs.Calls.{few, until_wanting, until_failed, until_ended, until_kept, eaten_same}
use Rattle.svr_reader.proofs.list.until_on.Goals as goal

pub returns-then-eat : goal.returns-then-eat
returns-then-eat g c = until_ended _ _ _ (few _ _ c.loop-turn-test.true c.loop-turn.invariant.low) c.loop-turn.invariant.keeps (search rules) (search rules)

pub returns-in_err-part : goal.returns-in_err-part
returns-in_err-part g c = until_failed _ _ _ _ _ _ (few _ _ c.loop-turn-test.true c.loop-turn.invariant.low) c.loop-turn.invariant.keeps (search rules) c.in_err-part.ensures (search rules)

pub returns-in_err-push : goal.returns-in_err-push
returns-in_err-push g c = until_wanting _ _ (search rules)

pub loop-turn-preserved : goal.loop-turn-preserved
loop-turn-preserved g c = record {
  keeps = until_kept _ _ _ _ (few _ _ c.loop-turn-test.true c.loop-turn.invariant.low) c.loop-turn.invariant.keeps (search rules) c.in_ok-part.ensures (search rules);
  few = let less = c.requires.takes _ _ _ c.in_ok-part.ensures in let same = eaten_same c.args.end c.loop-turn.cursor c.eat.new.self (search rules) in omega (arith, less, ap (λ z. length z) same, c.loop-turn.invariant.few);
  low = c.loop-turn.invariant.low;
}
