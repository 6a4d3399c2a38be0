use Rattle.svr_token.proofs.Exact.{mark_yes, mark_no}
use Rattle.svr_token.proofs.spelling.is_mark.Goals as goal

pub returns : goal.returns
returns c = record {
  yes = λ e. mark_yes _ _ _ c.mark.ensures c.is_some.ensures e;
  no = λ (m, e). mark_no _ _ _ c.mark.ensures c.is_some.ensures m e;
}
