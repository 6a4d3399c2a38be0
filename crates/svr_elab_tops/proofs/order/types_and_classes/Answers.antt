use Rattle.std.proofs.Common.{◌+◌, ◌^◌, List, length, map, drop, get_or}
use Rattle.std.proofs.lemmas.List.{at_drop_more}
use Rattle.svr_token.specs.Names.{names_of}
use Rattle.svr_tree.specs.declared.Top.{Top}
use Rattle.svr_tree.specs.declared.Top.TheVariants as top
use Rattle.svr_tree.specs.DeclTree.{type_decl_tree, class_tree}
use Rattle.svr_elab_fault.specs.Refusals.{first_one}
use Rattle.svr_elab_type.specs.Seen.{globals_part}
use Rattle.svr_elab_tops.specs.InOrder as spec
use Rattle.svr_elab_tops.proofs.Turns.{turned, room_is, types_fit_at, classes_fit_at, passed_types, passed_classes}
use Rattle.svr_elab_tops.proofs.order.types_and_classes.Goals as goal

pub loop-top-preserved : goal.loop-top-preserved
loop-top-preserved c =
    let text = names_of c.args.names.now in
    let os = c.args.order.now in
    let ts = c.args.types.now in
    let cs = c.args.classes.now in
    let n = c.loop-top.top-index in
    let t = get_or os n top.OfType in
    let at = c.loop-top.places in
    let to = c.behind-places.result in
    let r = c.in_ok-known.known in
    let known = c.loop-top.invariant in
    let whole = spec.types_and_classes first_one (globals_part text c.args.start) os (map type_decl_tree ts) (map class_tree cs) in
    record {
      types_passed = passed_types t at.types n to.types known.types_passed c.behind-places.ensures.types;
      classes_passed = passed_classes t at.classes n to.classes known.classes_passed c.behind-places.ensures.classes;
      enums = room_is r.enums (length ts) (2 ^ 32) _ to.types c.in_ok-known.ensures.enums c.behind-places.ensures.types;
      classes = room_is r.classes (length cs) (2 ^ 32) _ to.classes c.in_ok-known.ensures.classes c.behind-places.ensures.classes;
      members = c.in_ok-known.ensures.members;
      types_fit = types_fit_at t ts at.types to.types known.types_fit c.behind-places.ensures.types;
      classes_fit = classes_fit_at t cs at.classes to.classes known.classes_fit c.behind-places.ensures.classes;
      known = turned (globals_part text c.loop-top.known) (globals_part text r) whole _ (drop (n + 1) os) t ts cs at.types at.classes to.types to.classes
          (c.in_ok-known.ensures.value (drop (n + 1) os)) (at_drop_more (λ (os : List Top). os) os n top.OfType c.loop-top-test.true) c.behind-places.ensures.types c.behind-places.ensures.classes known.known;
    }
