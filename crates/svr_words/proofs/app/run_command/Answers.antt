use Rattle.std.proofs.lemmas.Result.{IfOk-weaker}
use Rattle.svr_words.proofs.Apps.{one_more}
use Rattle.svr_words.proofs.app.run_command.Goals as goal

pub returns : goal.returns
returns c =
    let conflicts = one_more _ _ _ _ _ c.in_ok-arg.ensures c.flag.ensures.local c.in_ok-with_options.ensures c.flag.ensures.rule in
    IfOk-weaker c.arg-2.result _ _ (λ r adds. one_more _ _ r _ _ adds c.flag-2.ensures.local conflicts c.flag-2.ensures.rule) c.arg-2.ensures
