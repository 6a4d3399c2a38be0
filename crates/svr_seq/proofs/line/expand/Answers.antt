use Rattle.std.proofs.Common.{List, ap, ◌∙◌}
use Rattle.svr_draw.specs.Words.{word_of}
use Rattle.svr_seq.specs.SeqTerm.{PartTerm, RuleTerm}
use Rattle.svr_seq.specs.Line.{parts_tasks, rule_under}
use Rattle.svr_seq.proofs.Pushed.{pushed_of}
use Rattle.svr_seq.proofs.line.expand.Goals as goal

pub returns-clause-tasks : goal.returns-clause-tasks
returns-clause-tasks c =
    pushed_of c.args.stack.now _ _ _ c.in_ok-push.ensures.ok
    (ap (λ (l : List PartTerm). parts_tasks l) (c.drawn_rule-parts.ensures.parts ∙ ap (λ (l : List RuleTerm). rule_under (word_of c.args.draws.now 0) l) c.rules_of.ensures))
