use Rattle.std.proofs.Common.{◌∙◌, sym}
use Rattle.svr_cdcl.proofs.MarkLemmas.{kept-besides, kept-explained}
use Rattle.svr_cdcl.proofs.explain.kept_lit.Goals as goal

pub returns-then-is_false-clause-besides : goal.returns-then-is_false-clause-besides
returns-then-is_false-clause-besides c = λ k h. kept-besides c.args.trail.now.entries c.in-Some.lit k (sym c.is_false.ensures ∙ c.if-is_false.true) (rw c.in-Some.is at h)

pub returns-then-is_false-clause-same : goal.returns-then-is_false-clause-same
returns-then-is_false-clause-same c = λ k h. rw c.in-Some.is (kept-explained c.args.trail.now.entries c.in-Some.lit k h)
