use Rattle.std.proofs.Common.{map, ap, sym, ◌∙◌, List}
use Rattle.svr_token.specs.Names.{names_of, name_at}
use Rattle.svr_typed.specs.declared.class.TClass.{TClass}
use Rattle.svr_typed.specs.ClassTerm.{flat_term, class_terms}
use Rattle.svr_typed.specs.StmtTerm.{design_term}
use Rattle.svr_coverage.specs.Classes.{named_classes}
use Rattle.svr_coverage.specs.Counters.{HasClasses}
use Rattle.svr_coverage.proofs.Told.{over_design, refused_over_design}
use Rattle.svr_coverage.proofs.counters.make_counters.Goals as goal

pub returns-in-Ok-clause-counters : goal.returns-in-Ok-clause-counters
returns-in-Ok-clause-counters c =
    let known : HasClasses (design_term c.args.design.now) (names_of c.args.names) c.args.groups.now c.as_slice-classes.result.now c.as_slice.result.now =
    record { same = ap class_terms c.as_slice-classes.ensures; inherited = ap (map flat_term) c.as_slice.ensures ∙ c.in-Ok.ensures ∙ ap (λ (cs : List TClass). named_classes (names_of c.args.names) cs c.args.groups.now) (sym c.as_slice-classes.ensures) } in
    over_design (design_term c.args.design.now) c.as_slice-classes.result.now c.as_slice.result.now c.args.groups.now (names_of c.args.names) c.checked.result known c.checked.ensures.counters

pub returns-in-Ok-clause-refused : goal.returns-in-Ok-clause-refused
returns-in-Ok-clause-refused c =
    let known : HasClasses (design_term c.args.design.now) (name_at c.args.names.text.now c.args.names.tokens.now) c.args.groups.now c.as_slice-classes.result.now c.as_slice.result.now =
    record { same = ap class_terms c.as_slice-classes.ensures; inherited = ap (map flat_term) c.as_slice.ensures ∙ c.in-Ok.ensures ∙ ap (λ (cs : List TClass). named_classes (names_of c.args.names) cs c.args.groups.now) (sym c.as_slice-classes.ensures) } in
    refused_over_design (design_term c.args.design.now) c.as_slice-classes.result.now c.as_slice.result.now c.args.groups.now c.args.names.text.now c.args.names.tokens.now c.checked.result known c.checked.ensures.refused
