use Rattle.std.proofs.Common.{◌≡◌, map, refl, ap, rules}
use Rattle.std.proofs.lemmas.Result.{IfOk-weaker}
use Rattle.svr_token.specs.Names.{names_of}
use Rattle.svr_tree.specs.DeclTree.{member_tree}
use Rattle.svr_elab_names.specs.Tables.{global_of, class_of}
use Rattle.svr_elab_type.specs.Seen.{globals_part}
use Rattle.svr_elab_type.proofs.Declared.{told_as, first_of, second_of, enum_is, one_more}
use Rattle.svr_elab_type.proofs.typedef.enum_type.Goals as goal

pub with_type-requires-clause-members : goal.with_type-requires-clause-members
with_type-requires-clause-members c =
    let x = c.in_ok-classes in
    let y = c.in_ok-classes-2 in
    let table : y.table ≡ x.part.globals = second_of _ _ y.ensures.held in
    let classes : y.classes ≡ x.classes = first_of _ _ y.ensures.held in
    let same : x.classes ≡ c.args.globals.classes = first_of _ _ x.ensures.held in
    rw (table, classes, same, ← c.as_slice.ensures) (rw x.ensures.made at c.enum_members-part.ensures.members)

pub returns-clause-value : goal.returns-clause-value
returns-clause-value c =
    let g = c.args.globals in
    let text = names_of c.args.names.now in
    let x = c.in_ok-classes in
    let y = c.in_ok-classes-2 in
    let before : x.enums ≡ g.enums = second_of _ _ x.ensures.held in
    let table : y.table ≡ x.part.globals = second_of _ _ y.ensures.held in
    let classes : y.classes ≡ x.classes = first_of _ _ y.ensures.held in
    let same : x.classes ≡ g.classes = first_of _ _ x.ensures.held in
    told_as (globals_part text) c.with_type.result _ _ (rw (table, classes, same) at c.with_type.ensures.value)
    (enum_is _ text (map class_of g.classes) _ _ g.enums y.enums c.args.name c.args.base.kind _ _ (map member_tree c.args.list.now)
    (map global_of g.names.entries) (map global_of x.part.globals.entries) x.part.next _ x.part.numbers.keys _ x.part.members g.fault c.args.base.fault _ x.part.fault
    (search rules) c.in_enum-kind.ensures.value c.new.ensures.empty c.new-2.ensures c.earlier.ensures (ap (map class_of) c.as_slice.ensures) (rw x.ensures.made at c.enum_members-part.ensures.part) c.enum_base.ensures
    (rw before at (rw y.ensures.made at c.pushed-enums.ensures)) refl)

pub returns-clause-enums : goal.returns-clause-enums
returns-clause-enums c =
    let g = c.args.globals in
    let x = c.in_ok-classes in
    let y = c.in_ok-classes-2 in
    let before : x.enums ≡ g.enums = second_of _ _ x.ensures.held in
    IfOk-weaker c.with_type.result _ _ (λ s h. one_more g.enums y.enums s.enums _ h (rw before at (rw y.ensures.made at c.pushed-enums.ensures))) c.with_type.ensures.enums

pub returns-clause-classes : goal.returns-clause-classes
returns-clause-classes c =
    let x = c.in_ok-classes in
    let y = c.in_ok-classes-2 in
    let classes : y.classes ≡ x.classes = first_of _ _ y.ensures.held in
    let same : x.classes ≡ c.args.globals.classes = first_of _ _ x.ensures.held in
    rw (classes, same) at c.with_type.ensures.classes
