use Rattle.std.proofs.Common.{◌∙◌, sym, take}
use Rattle.svr_chain.specs.Clauses.{same_lit}
use Rattle.svr_trail.specs.Trail.{is_false, value_in}
use Rattle.svr_cdcl.proofs.MarkLemmas.{later-new, later-old, later-same}
use Rattle.svr_cdcl.proofs.level.later.Goals as goal

pub returns-then-is_kept : goal.returns-then-is_kept
returns-then-is_kept c = λ h o.
    later-same c.args.last h (same_lit c.args.lit c.args.pivot) (is_false (value_in (take h c.args.trail.now.entries) c.args.lit)) (sym c.is_kept.ensures ∙ c.if-is_kept.true)

pub returns-then-is_before : goal.returns-then-is_before
returns-then-is_before c = λ h o.
    later-new c.args.last c.falsified_at-at.result h (same_lit c.args.lit c.args.pivot) (is_false (value_in (take h c.args.trail.now.entries) c.args.lit)) (sym c.is_kept.ensures ∙ c.if-is_kept.false)
    (c.falsified_at-at.ensures h o) (sym c.is_before.ensures ∙ c.if-is_before.true)

pub returns-else-is_before : goal.returns-else-is_before
returns-else-is_before c = λ h o.
    later-old c.args.last c.falsified_at-at.result h (same_lit c.args.lit c.args.pivot) (is_false (value_in (take h c.args.trail.now.entries) c.args.lit)) (sym c.is_kept.ensures ∙ c.if-is_kept.false)
    (c.falsified_at-at.ensures h o) (sym c.is_before.ensures ∙ c.if-is_before.false)
