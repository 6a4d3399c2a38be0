use Rattle.std.proofs.Common.{◌<◌, false, length, None}
use Rattle.svr_trail.specs.declared.Entry.{Entry}
use Rattle.svr_cdcl.proofs.Passed.{between-more}
use Rattle.svr_cdcl.proofs.marks.behind_marked.Goals as goal

pub loop-mark-preserved : goal.loop-mark-preserved
loop-mark-preserved c =
    let d : Entry = record { lit = record { var = 0; neg = false }; reason = None } in
    let i = c.loop-mark.mark-index in
    let ms = c.args.marks.now in
    let h : i < length ms = c.loop-mark-test.true in
    let r = c.raised-behind.ensures in
    (r.within, between-more c.args.trail.now.entries c.loop-mark.behind c.raised-behind.result c.args.place ms i d r.up h c.loop-mark.invariant.1 r.between)
