use Rattle.std.proofs.Common.{map, reverse}
use Rattle.svr_elab_names.specs.Tables.{class_of, bytes_of}
use Rattle.svr_elab_target.proofs.Chains.{fewer, gathered_first, gathered_more, gathered_all}
use Rattle.svr_elab_target.proofs.chain.names_back.Goals as goal

pub up-init : goal.up-init
up-init c = gathered_first (map class_of c.args.classes.now) c.args.class c.new-names.result.keys c.new-names.ensures.empty

pub up-preserved : goal.up-preserved
up-preserved c =
    gathered_more (map class_of c.args.classes.now) (reverse (map bytes_of c.up.names.keys)) (reverse (map bytes_of c.in_ok-names.names.keys)) c.up.next c.base_before-next.result c.in-Some.at _
    c.in-Some.is c.base_before-next.ensures c.in_ok-names.ensures c.up.invariant

pub up-smaller : goal.up-smaller
up-smaller c = fewer (map class_of c.args.classes.now) c.in-Some.at c.up.next c.base_before-next.result c.in-Some.is c.base_before-next.ensures

pub returns : goal.returns
returns c = gathered_all (map class_of c.args.classes.now) (reverse (map bytes_of c.up.names.keys)) c.up.next _ c.in_default.is c.up.invariant
