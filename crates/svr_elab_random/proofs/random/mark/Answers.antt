use Rattle.std.proofs.Common.{refl, map, length}
use Rattle.svr_elab_names.specs.Tables.{prop_of}
use Rattle.svr_elab_random.proofs.Marked.{marked_more, as_many}
use Rattle.svr_elab_random.proofs.random.mark.Goals as goal

pub loop-i-preserved : goal.loop-i-preserved
loop-i-preserved c =
    let es = c.loop-i.props.entries in
    let i = c.loop-i.i in
    let entry = c.with_list-entry.result in
    let start = c.args.props.now.entries in
    record {
      count = as_many i es _ entry (length start) refl c.loop-i.invariant.count;
      marked = marked_more c.args.listed.now.keys i es _ (map prop_of start) c.index.result.now entry c.loop-i.invariant.marked c.index.ensures c.with_list-entry.ensures.property c.with_list-entry.ensures.first refl;
    }
