use Rattle.std.proofs.Common.{ap, ◌∙◌}
use Rattle.svr_token.specs.Names.{names_of}
use Rattle.svr_cover_checked.specs.Design.{class_from, props_of}
use Rattle.svr_cover_made.specs.Plan.{or_zero, all_parts, about_of}
use Rattle.svr_cover_made.proofs.Inside.{plan-is}
use Rattle.svr_cover_made.proofs.groups.group_plan.Goals as goal

pub returns : goal.returns
returns c =
    let text = names_of c.args.names in
    let x = c.args.group.now in
    let class = c.class_of-class.ensures ∙ ap (class_from 0 c.args.classes.now) c.name.ensures in
    c.planned.ensures
    ∙ plan-is text c.args.classes.now c.args.flats.now c.args.first x c.in_ok-number.number c.in_ok-title.title c.in_ok-parts.parts (c.in_ok-number.ensures ∙ ap or_zero class) (c.in_ok-title.ensures ∙ c.name-2.ensures)
    (c.in_ok-parts.ensures ∙ ap (λ z. all_parts (about_of text z x) c.args.first x.parts) (c.props_of.ensures ∙ ap (props_of c.args.flats.now) class))
