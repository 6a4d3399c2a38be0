use Rattle.std.proofs.Common.{List, map, sym, ap, ◌∙◌}
use Rattle.svr_typed.specs.declared.expr.TExpr.{TExpr}
use Rattle.svr_typed.specs.ExprTerm.{expr_term}
use Rattle.svr_frame.specs.Frame.{frame_term}
use Rattle.svr_frame.specs.Occurrences.{Occurrence}
use Rattle.svr_phase.specs.Spent.{closed_at}
use Rattle.svr_sized.proofs.items.hard_alone.Goals as goal

pub returns-clause-soft : goal.returns-clause-soft
returns-clause-soft c =
    let f = frame_term c.args.frame.now in
    ap (λ (xs : List TExpr). map expr_term xs) c.new-soft.ensures ∙ ap (λ (os : List Occurrence). closed_at f f.state.sizes os) (sym c.requires.alone)
