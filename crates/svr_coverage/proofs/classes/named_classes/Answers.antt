use Rattle.std.proofs.Common.{◌∙◌, sym, ap}
use Rattle.svr_token.specs.Names.{names_of}
use Rattle.svr_cover_checked.specs.Design.{class_from}
use Rattle.svr_coverage.proofs.Named.{one_named}
use Rattle.svr_coverage.proofs.classes.named_classes.Goals as goal

pub groups-preserved : goal.groups-preserved
groups-preserved c =
    one_named (names_of c.args.names) c.as_slice-classes.result.now c.args.design.now.classes _ _ c.groups.left.now c.in-Some.others.now c.in-Some.group.now c.class_of-class.result _
    c.in-Some.ensures.cases.0 (c.class_of-class.ensures ∙ ap (class_from 0 c.as_slice-classes.result.now) c.name.ensures) (sym c.as_slice-classes.ensures) c.in_ok-with_class.ensures c.groups.invariant
