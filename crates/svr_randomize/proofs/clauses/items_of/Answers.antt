use Rattle.std.proofs.Common.{sym, ◌∙◌, subst, Option}
use Rattle.svr_frame.specs.Frame.{frame_term}
use Rattle.svr_randomize.specs.declared.kept.Last.{Last}
use Rattle.svr_randomize.specs.Kept.{IsLast}
use Rattle.svr_randomize.proofs.clauses.items_of.Goals as goal

pub again-requires-clause-last : goal.again-requires-clause-last
again-requires-clause-last c = subst (λ (x : Option Last). IsLast (frame_term c.args.frame.now) x) (sym c.take-last.ensures.value ∙ c.in-Some.is) c.requires.kept
