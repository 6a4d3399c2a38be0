use Rattle.std.proofs.Common.{◌+◌, List, ℕ, map, drop, get_or}
use Rattle.std.proofs.lemmas.List.{at_drop_more}
use Rattle.svr_token.specs.Names.{names_of}
use Rattle.svr_elab_names.specs.Names.{class_props}
use Rattle.svr_elab_names.specs.Tables.{class_of, bytes_of}
use Rattle.svr_elab_target.proofs.Listed.{next_name}
use Rattle.svr_elab_target.proofs.list.names_fault.Goals as goal

pub loop-name-preserved : goal.loop-name-preserved
loop-name-preserved c =
    let list = c.args.list.now in
    let i = c.loop-name.name-index in
    record {
      same = next_name (names_of c.args.names.now.names) (class_props (map class_of c.args.names.now.classes.now) c.args.class) (map bytes_of c.loop-name.before.keys) (map bytes_of c.in_ok-before.before.keys)
          c.loop-name.fault c.name_fault.result c.earlier-fault.result (get_or list i 0) (drop (i + 1) list) (drop i list) _ (at_drop_more (λ (ns : List ℕ). ns) list i 0 c.loop-name-test.true)
          c.loop-name.invariant.same c.name_fault.ensures c.earlier-fault.ensures (rw c.name.ensures at c.in_ok-before.ensures);
    }
