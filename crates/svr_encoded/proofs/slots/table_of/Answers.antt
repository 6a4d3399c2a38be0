use Rattle.std.proofs.Common.{◌≡◌, ◌<◌, ◌-◌, suc, length, arith}
use Rattle.svr_frame.specs.Satisfaction.{is_at, is_size_of}
use Rattle.svr_encoded.proofs.SlotLemmas.{place_more}
use Rattle.svr_encoded.proofs.slots.table_of.Goals as goal

pub loop-at-preserved : goal.loop-at-preserved
loop-at-preserved c =
    let lt : c.loop-at.at - 1 < length c.args.slots.now = omega (arith, c.loop-at.invariant.within) in
    let up : suc (c.loop-at.at - 1) ≡ c.loop-at.at = omega (arith, c.loop-at-test.true) in
    record {
      within = omega (arith, lt);
      numbers = λ p j. place_more (is_at p j) c.args.slots.now (c.loop-at.at - 1) c.loop-at.at _ _ _ lt up (c.in_ok-set.ensures.numbers p j) (c.loop-at.invariant.numbers p j);
      sizes = λ p. place_more (is_size_of p) c.args.slots.now (c.loop-at.at - 1) c.loop-at.at _ _ _ lt up (c.in_ok-set.ensures.sizes p) (c.loop-at.invariant.sizes p);
    }
