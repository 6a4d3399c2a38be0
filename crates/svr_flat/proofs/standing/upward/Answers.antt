use Rattle.std.proofs.Common.{map}
use Rattle.svr_typed.specs.ClassTerm.{block_terms, class_terms}
use Rattle.svr_flat.specs.Named.{bytes_of}
use Rattle.svr_flat.specs.Along.{blocks_along}
use Rattle.svr_flat.proofs.Stacked.{gathered_first, gathered_more, gathered_last}
use Rattle.svr_flat.proofs.standing.upward.Goals as goal

pub classes-init : goal.classes-init
classes-init c =
    gathered_first c.new-names.result.keys c.new-kept.result.items (blocks_along (class_terms c.args.classes.now) c.args.lineage.now (block_terms c.args.base.now)) c.new-names.ensures.empty c.new-kept.ensures.items

pub classes-preserved : goal.classes-preserved
classes-preserved c =
    let cs = class_terms c.args.classes.now in
    gathered_more (map bytes_of c.classes.names.keys) (map bytes_of c.in_ok-longer.more.keys) (blocks_along cs c.classes.left.now (block_terms c.classes.above.now))
    (blocks_along cs c.in-Some.others.now (block_terms c.in-Some.inherited.now)) (block_terms c.in-Some.own.now)
    (map block_terms c.classes.kept.items) (map block_terms c.in_ok-longer.longer.items) (blocks_along cs c.args.lineage.now (block_terms c.args.base.now))
    c.in-Some.ensures.over c.in_ok-longer.ensures.names c.in_ok-longer.ensures.kept c.classes.invariant

pub returns : goal.returns
returns c =
    let cs = class_terms c.args.classes.now in
    let stands = c.in_ok-kept.ensures in
    let last_is = rw stands.1 at c.standing-last.ensures in
    gathered_last (map bytes_of c.classes.names.keys) (blocks_along cs c.classes.left.now (block_terms c.classes.above.now)) (block_terms c.classes.above.now) c.classes.kept.items _ stands.0
    (blocks_along cs c.args.lineage.now (block_terms c.args.base.now)) c.in_default.ensures.over stands.2 last_is c.classes.invariant
