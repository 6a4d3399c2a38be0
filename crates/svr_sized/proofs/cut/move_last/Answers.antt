use Rattle.std.proofs.Common.{[], ◌∷◌, length, ap, ◌∙◌, arith}
use Rattle.std.proofs.lemmas.List.{length-append}
use Rattle.svr_sized.proofs.Turned.{moved}
use Rattle.svr_sized.proofs.cut.move_last.Goals as goal

pub returns-in-None-clause-whole : goal.returns-in-None-clause-whole
returns-in-None-clause-whole g c = absurd (omega (arith, c.requires, ap length c.in-None.ensures.0))

pub returns-in-None-clause-count : goal.returns-in-None-clause-count
returns-in-None-clause-count g c = absurd (omega (arith, c.requires, ap length c.in-None.ensures.0))

pub returns-in_ok-push-in-Some-clause-whole : goal.returns-in_ok-push-in-Some-clause-whole
returns-in_ok-push-in-Some-clause-whole g c = moved c.args.front.now _ c.args.turned.now _ c.in-Some.item c.in-Some.ensures c.in_ok-push-in-Some.ensures.ok

pub returns-in_ok-push-in-Some-clause-count : goal.returns-in_ok-push-in-Some-clause-count
returns-in_ok-push-in-Some-clause-count g c = ap length c.in_ok-push-in-Some.ensures.ok ∙ length-append c.args.turned.now (c.in-Some.item ∷ [])
