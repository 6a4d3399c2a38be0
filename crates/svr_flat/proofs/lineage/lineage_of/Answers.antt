use Rattle.std.proofs.Common.{◌∙◌, sym, length}
use Rattle.svr_typed.specs.ClassTerm.{class_terms}
use Rattle.svr_flat.proofs.Flattened.{lineage_step, unknown_some, fewer}
use Rattle.svr_flat.proofs.lineage.lineage_of.Goals as goal

pub up-preserved : goal.up-preserved
up-preserved c =
    let here = unknown_some (length c.args.known.now.flats.now) c.args.known.now.marks.now c.up.next c.in-Some.at (sym c.unknown.ensures ∙ c.in-Some.is) in
    lineage_step _ _ _ c.in-Some.at _ _ _ c.in_ok-push.ensures c.base_before-next.ensures here c.up.invariant

pub up-smaller : goal.up-smaller
up-smaller c =
    let here = unknown_some (length c.args.known.now.flats.now) c.args.known.now.marks.now c.up.next c.in-Some.at (sym c.unknown.ensures ∙ c.in-Some.is) in
    fewer (class_terms c.args.classes.now) c.in-Some.at c.up.next _ here c.base_before-next.ensures
