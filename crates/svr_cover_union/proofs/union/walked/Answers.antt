use Rattle.std.proofs.Common.{◌+◌, ◌-◌, ◌<◌, List, length, sym, ◌∙◌, subst}
use Rattle.svr_cover_steps.specs.declared.steps.Step.{Step}
use Rattle.svr_cover_union.specs.declared.union.Way.{Way}
use Rattle.svr_cover_union.proofs.Unions.{IsUnion, begins-union, goes-on, ends-union, fewer}
use Rattle.svr_cover_union.proofs.union.walked.Goals as goal

pub starts-init : goal.starts-init
starts-init c = subst (λ (z : List Step). IsUnion c.args.same c.args.first.now c.args.second.now z 0 0) (sym c.new.ensures) (begins-union c.args.same c.args.first.now c.args.second.now)

pub returns-in-None-clause-rising : goal.returns-in-None-clause-rising
returns-in-None-clause-rising c = c.starts.invariant.rising

pub returns-in-None-clause-bins : goal.returns-in-None-clause-bins
returns-in-None-clause-bins c =
    ends-union c.args.same c.args.first.now c.args.second.now c.starts.way.done c.starts.way.i c.starts.way.j c.starts.invariant (sym c.next_start.ensures ∙ c.in-None.is)

pub starts-preserved : goal.starts-preserved
starts-preserved c =
    subst (λ (w : Way). IsUnion c.args.same c.args.first.now c.args.second.now w.done w.i w.j) (sym c.in_ok-next-in-Some.ensures)
    (goes-on c.args.same c.args.first.now c.args.second.now c.starts.way.done c.starts.way.i c.starts.way.j c.in-Some.start c.requires.first c.requires.second
    (sym c.next_start.ensures ∙ c.in-Some.is) c.starts.invariant)

pub starts-smaller : goal.starts-smaller
starts-smaller c =
    let xs = c.args.first.now in
    let ys = c.args.second.now in
    subst (λ (w : Way). (length xs - w.i) + (length ys - w.j) < (length xs - c.starts.way.i) + (length ys - c.starts.way.j)) (sym c.in_ok-next-in-Some.ensures)
    (fewer xs ys c.starts.way.i c.starts.way.j c.in-Some.start (sym c.next_start.ensures ∙ c.in-Some.is))
