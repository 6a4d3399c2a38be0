use Rattle.svr_lrat_printed.proofs.Parts.{three}
use Rattle.svr_lrat_printed.proofs.text.put_lemma.Goals as goal

pub returns : goal.returns
returns c = three _ _ _ _ _ _ _ c.in_ok-put_id.ensures c.in_ok-put_lemma_lits.ensures c.in_ok-put_last.ensures
