use Rattle.std.proofs.Common.{List, map, sym, ap, ◌∙◌, subst}
use Rattle.svr_typed.specs.declared.expr.TExpr.{TExpr}
use Rattle.svr_typed.specs.ExprTerm.{expr_term}
use Rattle.svr_frame.specs.Frame.{frame_term}
use Rattle.svr_sized.specs.declared.found.Found.{Found}
use Rattle.svr_sized.specs.declared.scope.Scope.TheVariants.{Wished}
use Rattle.svr_sized.specs.Ends.{IsFound}
use Rattle.svr_sized.proofs.Decided.{wished_met, wished_spent, proved_alone}
use Rattle.svr_sized.proofs.choose.searched.Goals as goal

pub returns-in-Met : goal.returns-in-Met
returns-in-Met c =
    let f = frame_term c.args.frame.now in
    let o = c.args.opts in
    let m = subst (λ (x : Found). IsFound f o.size_cap c.args.chosen.now o.budget Wished x) c.in-Met.is c.in_ok-found.ensures in
    λ words fails. wished_met f o.size_cap c.args.chosen.now o.budget words c.in-Met.sizes fails m

pub not_within-requires-clause-none : goal.not_within-requires-clause-none
not_within-requires-clause-none c =
    let o = c.args.opts in
    let m = subst (λ (x : Found). IsFound (frame_term c.args.frame.now) o.size_cap c.args.chosen.now o.budget Wished x) c.in-Refuted.is c.in_ok-found.ensures in
    m.0

pub not_within-requires-clause-proved : goal.not_within-requires-clause-proved
not_within-requires-clause-proved c =
    let f = frame_term c.args.frame.now in
    let o = c.args.opts in
    let m = subst (λ (x : Found). IsFound f o.size_cap c.args.chosen.now o.budget Wished x) c.in-Refuted.is c.in_ok-found.ensures in
    λ alone. proved_alone f o.size_cap c.args.chosen.now o.budget c.in-Refuted.encoding c.in-Refuted.proof (sym c.requires.soft ∙ ap (λ (xs : List TExpr). map expr_term xs) (c.is_empty-no_soft.ensures.0 alone)) m

pub returns-in-Spent : goal.returns-in-Spent
returns-in-Spent c =
    let f = frame_term c.args.frame.now in
    let o = c.args.opts in
    let m = subst (λ (x : Found). IsFound f o.size_cap c.args.chosen.now o.budget Wished x) c.in-Spent.is c.in_ok-found.ensures in
    λ words fails. wished_spent f o.size_cap c.args.chosen.now o.budget words c.in-Spent.encoding c.in-Spent.log c.in-Spent.first fails m
