use Rattle.std.proofs.Common.{map, reverse}
use Rattle.svr_token.specs.Names.{names_of}
use Rattle.svr_elab_names.specs.Tables.{bytes_of}
use Rattle.svr_elab_block.proofs.Chain.{fewer, gathered_first, gathered_more, gathered_all}
use Rattle.svr_elab_block.proofs.Standing.{both_first}
use Rattle.svr_elab_block.proofs.inherit.inherited_back.Goals as goal

pub up-init : goal.up-init
up-init c =
    gathered_first (names_of c.args.names) c.args.chain.now (map bytes_of c.with_names.new.names.keys) (map bytes_of c.args.own.now.keys) c.args.base c.new-back.result.items c.new-back.ensures.items
    (both_first c.new-replaced.result.keys c.as_slice.result.now c.args.own.now.keys c.with_names.new.names.keys c.new-replaced.ensures.empty c.as_slice.ensures.keys c.in_ok-with_names.ensures)

pub up-preserved : goal.up-preserved
up-preserved c =
    gathered_more (names_of c.args.names) c.args.chain.now (map bytes_of c.up.replaced.keys) (map bytes_of c.and_class_names.new.names.keys) c.up.next c.base_before-next.result c.in-Some.at
    (reverse c.up.back.items) (reverse c.and_class_back.new.back.items) _ c.in-Some.is c.base_before-next.ensures c.in_ok-and_class_names.ensures c.in_ok-and_class_back.ensures c.up.invariant

pub up-smaller : goal.up-smaller
up-smaller c = fewer c.args.chain.now c.in-Some.at c.up.next c.base_before-next.result c.in-Some.is c.base_before-next.ensures

pub returns : goal.returns
returns c = gathered_all (names_of c.args.names) c.args.chain.now (map bytes_of c.up.replaced.keys) c.up.next (reverse c.up.back.items) _ c.in_default.is c.up.invariant
