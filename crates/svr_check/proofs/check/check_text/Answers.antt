use Rattle.std.proofs.Common.{refl, sym, subst}
use Rattle.svr_lrat_text.specs.Faults.{IsFaultOf, IsBad, IsTooLarge}
use Rattle.svr_check.specs.declared.check.Checked.{Checked}
use Rattle.svr_check.specs.Checked.{by_grammar, by_size, IsChecked}
use Rattle.svr_check.proofs.check.check_text.Goals as goal

pub returns-in-Ok : goal.returns-in-Ok
returns-in-Ok c = record {
  file = c.in-Ok.ensures.file.0;
  written = c.in-Ok.ensures.file.1;
  judged = c.in-Ok.ensures.verdict c.in-Ok.ensures.file.0 c.in-Ok.ensures.file.1;
  sound = λ e. c.in-Ok.ensures.sound e c.in-Ok.ensures.file.0 c.in-Ok.ensures.file.1;
}

pub returns-in-Err-Bad : goal.returns-in-Err-Bad
returns-in-Err-Bad c =
    let first : IsBad c.args.text.now c.in-Err-Bad.at = subst (λ e. IsFaultOf c.args.text.now e) c.in-Err-Bad.field-0-is c.in-Err-Bad.ensures.fault in
    subst (λ (said : Checked). IsChecked c.args.text.now said) (sym c.refused.ensures) (by_grammar c.in-Err-Bad.at first refl refl)

pub returns-in-Err-TooLarge : goal.returns-in-Err-TooLarge
returns-in-Err-TooLarge c =
    let first : IsTooLarge c.args.text.now c.in-Err-TooLarge.at = subst (λ e. IsFaultOf c.args.text.now e) c.in-Err-TooLarge.field-0-is c.in-Err-TooLarge.ensures.fault in
    subst (λ (said : Checked). IsChecked c.args.text.now said) (sym c.refused-in-Err-TooLarge.ensures) (by_size c.in-Err-TooLarge.at first refl refl)
