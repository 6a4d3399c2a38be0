use Rattle.std.proofs.Common.{map, reverse, arith}
use Rattle.svr_elab_names.specs.Tables.{bytes_of}
use Rattle.svr_elab_target.proofs.Fronts.{first_back, next_back, none_left, no_name}
use Rattle.svr_elab_target.proofs.chain.with_names.Goals as goal

pub loop-left-init : goal.loop-left-init
loop-left-init c = record { within = omega arith; told = first_back (reverse (map bytes_of c.args.names.keys)) c.args.own.now }

pub loop-left-preserved : goal.loop-left-preserved
loop-left-preserved c =
    let more = c.loop-left-test.true in
    let before = c.loop-left.invariant in
    record {
      within = omega (arith, more, before.within);
      told = next_back c.loop-left.names.keys c.in_ok-names.names.keys c.args.own.now c.loop-left.left no_name _ more before.within c.in_ok-names.ensures before.told;
    }

pub returns : goal.returns
returns c = none_left (reverse (map bytes_of c.loop-left.names.keys)) _ c.args.own.now c.loop-left.left c.loop-left-test.false c.loop-left.invariant.told
