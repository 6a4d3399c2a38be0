use Rattle.svr_lrat_printed.proofs.Parts.{all_three}
use Rattle.svr_lrat_printed.proofs.text.parts_text.Goals as goal

pub returns : goal.returns
returns c = all_three _ _ _ _ _ _ _ c.new-text.ensures.items c.in_ok-put_header.ensures c.in_ok-put_clauses.ensures c.in_ok-put_lines.ensures
