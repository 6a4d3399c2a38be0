use Rattle.svr_script.proofs.Conflicts.{line_told}
use Rattle.svr_script.proofs.laws.each_unmet_call_has_its_line.Goals as goal

pub returns : goal.returns
returns c = λ d opts call s e t calls asked unmet. line_told d opts call s e t calls asked unmet
