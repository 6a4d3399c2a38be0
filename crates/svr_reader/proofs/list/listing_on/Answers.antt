use Rattle.std.proofs.Common.{rules, arith}
use Rattle.svr_token.specs.declared.Mark.TheVariants as m
use Rattle.svr_reader.specs.declared.fixed.Fixed.TheVariants as f
use Rattle.svr_reader.proofs.Calls.{few, list_wanting, list_failed, listed, list_kept, eaten_less}
use Rattle.svr_reader.proofs.list.listing_on.Goals as goal

pub returns-in_err-part : goal.returns-in_err-part
returns-in_err-part g c = list_failed _ _ _ _ _ _ (few _ _ c.loop-turn-test.true c.loop-turn.invariant.low) c.loop-turn.invariant.keeps c.in_err-part.ensures (search rules)

pub returns-in_err-push : goal.returns-in_err-push
returns-in_err-push g c = list_wanting _ _ (search rules)

pub returns-then-not-eat : goal.returns-then-not-eat
returns-then-not-eat g c = listed _ _ _ _ _ _ (few _ _ c.loop-turn-test.true c.loop-turn.invariant.low) c.loop-turn.invariant.keeps c.in_ok-part.ensures (search rules) (search rules)

pub loop-turn-preserved : goal.loop-turn-preserved
loop-turn-preserved g c = record {
  keeps = list_kept _ _ _ _ _ (few _ _ c.loop-turn-test.true c.loop-turn.invariant.low) c.loop-turn.invariant.keeps c.in_ok-part.ensures (search rules) (search rules);
  few = let no_more = c.requires.takes _ _ _ c.in_ok-part.ensures in let less = eaten_less (f.Mark m.Comma) c.one.new.arg2 c.eat.new.self (search rules) in omega (arith, no_more, less, c.loop-turn.invariant.few);
  low = c.loop-turn.invariant.low;
}
