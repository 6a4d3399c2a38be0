use Rattle.std.proofs.Common.{[], map, sym}
use Rattle.std.proofs.lemmas.Result.{IfOk-weaker}
use Rattle.svr_tree.specs.ItemTree.{item_trees}
use Rattle.svr_elab_names.specs.Tables.{space_of, prop_of}
use Rattle.svr_elab_item.specs.Seen.{items_part}
use Rattle.svr_elab_list.proofs.Fitting.{props_are, no_props}
use Rattle.svr_elab_list.proofs.Forms.{in_line_is}
use Rattle.svr_elab_list.proofs.call.set_in_line.Goals as goal

pub returns-in-None : goal.returns-in-None
returns-in-None c =
    IfOk-weaker c.items_alone.result _ _
    (λ p h. in_line_is (space_of c.args.names.now) c.args.class [] (items_part p) (item_trees c.args.list.now) h (sym (no_props c.args.names.now.classes.now c.args.class c.in-None.ensures.lookup.3)))
    c.items_alone.ensures

pub returns-in-Some : goal.returns-in-Some
returns-in-Some c =
    IfOk-weaker c.items_with.result _ _
    (λ p h. in_line_is (space_of c.args.names.now) c.args.class (map prop_of c.as_ref.result.now.entries) (items_part p) (item_trees c.args.list.now) h
    (rw c.as_ref.ensures (props_are c.args.names.now.classes.now c.args.class c.in-Some.class.now c.in-Some.ensures.lookup.1 c.in-Some.ensures.lookup.3.0)))
    c.items_with.ensures
