use Rattle.std.proofs.Common.{◌∙◌, false, map, length, replicate, sym}
use Rattle.std.specs.List.{range_with_len}
use Rattle.std.proofs.lemmas.List.{length-map}
use Rattle.svr_typed.specs.ClassTerm.{class_term, class_terms}
use Rattle.svr_typed.specs.StmtTerm.{design_term}
use Rattle.svr_effect.specs.Inherited.{wanted_class}
use Rattle.svr_effect.proofs.Flats.{each_class}
use Rattle.svr_effect.proofs.classes.Classes.new.Goals as goal

pub returns : goal.returns
returns c =
    let d = design_term c.args.design.now in
    let cs = class_terms c.args.design.now.classes in
    let first = replicate (length c.args.design.now.classes) false in
    let made = c.in_ok-flats.ensures ∙ (λ i. map (wanted_class (c.deref.ensures.value i) cs) (range_with_len 0 (sym (length-map c.args.design.now.classes class_term) i))) in
    each_class d first c.in_ok-wanted.wanted.items c.in_ok-marks.marks.items _ _ c.in_ok-wanted.ensures c.in_ok-marks.ensures made c.no_class-none.ensures
