use Rattle.svr_token.proofs.Exact.{system_yes, system_no}
use Rattle.svr_token.proofs.spelling.is_system_name.Goals as goal

pub returns : goal.returns
returns c = record {
  yes = λ e. system_yes _ _ _ c.system_name.ensures c.is_some.ensures e;
  no = λ (m, e). system_no _ _ _ c.system_name.ensures c.is_some.ensures m e;
}
