use Rattle.std.proofs.Common.{◌+◌, List, length, map, ap, ◌∙◌}
use Rattle.svr_token.specs.Names.{names_of}
use Rattle.svr_tree.specs.DeclTree.{class_tree}
use Rattle.svr_elab_names.specs.declared.ClassNames.{ClassNames}
use Rattle.svr_elab_names.specs.Tables.{global_of, class_of}
use Rattle.svr_elab_class.specs.Seen.{class_part}
use Rattle.svr_elab_class.proofs.Members.{class_added}
use Rattle.svr_elab_class.proofs.Forms.{told, all_told}
use Rattle.svr_elab_class.proofs.Declared.{class_declared}
use Rattle.svr_elab_class.proofs.class.class_decl.Goals as goal

pub class_inside-part-requires-clause-classes : goal.class_inside-part-requires-clause-classes
class_inside-part-requires-clause-classes c = rw c.in_ok-globals.ensures.classes c.requires.classes

pub class_inside-part-requires-clause-members : goal.class_inside-part-requires-clause-members
class_inside-part-requires-clause-members c =
    let g = c.args.globals in
    class_added (names_of c.args.names.now) (map global_of g.names.entries) _ (map class_of g.classes) _ _ _ c.in_ok-globals.ensures.names c.requires.members

pub returns-clause-value : goal.returns-clause-value
returns-clause-value c =
    let g = c.args.globals in
    let h = c.in_ok-globals.globals in
    let same = c.in_ok-globals-2.ensures.held in
    let last = c.with_class.ensures in
    all_told c.with_class.result last.names last.classes last.enums last.fault
    (λ s names_are classes_are enums_are fault_is.
    class_declared (names_of c.args.names.now) (map global_of g.names.entries) (map global_of h.names.entries) _ (map class_of g.classes) (map class_of h.classes) _ g.enums h.enums _ g.fault h.fault _ _ _ _ _ _ _ _
    (class_tree c.args.decl.now) _ _ (class_part c.in_ok-globals-2.part)
    c.name-spelled.ensures c.base_at-base.ensures c.base_fault-base_fault.ensures c.double-twice.ensures
    c.in_ok-globals.ensures.names (ap (map class_of) c.in_ok-globals.ensures.classes) c.in_ok-globals.ensures.enums c.in_ok-globals.ensures.fault
    (rw c.in_ok-globals-2.ensures.made at c.class_inside-part.ensures)
    c.label_fault.ensures c.earlier-own.ensures c.earlier.ensures c.earlier-2.ensures (rw same at c.earlier-fault.ensures)
    (rw same at names_are) (rw same at classes_are) (rw same at enums_are) fault_is)

pub returns-clause-members : goal.returns-clause-members
returns-clause-members c =
    let g = c.args.globals in
    told c.with_class.result c.with_class.ensures.names
    (λ s names_are.
    class_added (names_of c.args.names.now) (map global_of g.names.entries) _ (map class_of g.classes) _ _ _
    ((rw c.in_ok-globals-2.ensures.held at names_are) ∙ c.in_ok-globals.ensures.names) c.requires.members)

pub returns-clause-enums : goal.returns-clause-enums
returns-clause-enums c = told c.with_class.result c.with_class.ensures.enums (λ s enums_are. (rw c.in_ok-globals-2.ensures.held at enums_are) ∙ c.in_ok-globals.ensures.enums)

pub returns-clause-count : goal.returns-clause-count
returns-clause-count c =
    told c.with_class.result c.with_class.ensures.count
    (λ s count_is. (rw c.in_ok-globals-2.ensures.held at count_is) ∙ ap (λ (ks : List ClassNames). length ks + 1) c.in_ok-globals.ensures.classes)
