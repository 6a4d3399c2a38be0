use Rattle.std.proofs.Common.{map, ap, ◌∙◌, arith}
use Rattle.svr_token.specs.Names.{names_of}
use Rattle.svr_elab_names.specs.Tables.{bytes_of}
use Rattle.svr_elab_block.specs.Blocks.{and_kept}
use Rattle.svr_elab_block.proofs.Standing.{first_back, next_back, none_left}
use Rattle.svr_elab_block.proofs.inherit.and_back.Goals as goal

pub loop-left-init : goal.loop-left-init
loop-left-init c = record { within = omega arith; told = first_back (names_of c.args.names) (map bytes_of c.args.own.now.keys) c.args.orders.now c.args.back.now.items }

pub loop-left-preserved : goal.loop-left-preserved
loop-left-preserved c =
    let more = c.loop-left-test.true in
    let before = c.loop-left.invariant in
    record {
      within = omega (arith, more, before.within);
      told =
          next_back (names_of c.args.names) (map bytes_of c.args.own.now.keys) c.args.orders.now c.loop-left.back.items c.and_kept.new.orders.items _ c.loop-left.left c.index-orders-left.result more before.within
          (c.in_ok-and_kept.ensures ∙ ap (and_kept (names_of c.args.names) (map bytes_of c.args.own.now.keys) c.loop-left.back.items) c.index-orders-left.is) before.told;
    }

pub returns : goal.returns
returns c = none_left (names_of c.args.names) (map bytes_of c.args.own.now.keys) c.args.orders.now c.loop-left.back.items _ c.loop-left.left c.loop-left-test.false c.loop-left.invariant.told
