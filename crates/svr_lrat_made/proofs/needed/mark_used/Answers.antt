use Rattle.std.proofs.Common.{◌≡◌, ℕ, ◌+◌, ◌&&◌, ◌||◌, nat_lt, nat_eq, false, get_or, ap, ◌∙◌, subst}
use Rattle.std.specs.List.{list_any}
use Rattle.std.proofs.lemmas.List.{take_all}
use Rattle.svr_chain.specs.declared.log.Link.{Link}
use Rattle.svr_chain.specs.Views.{StepView}
use Rattle.svr_lrat_made.specs.Needed.{uses}
use Rattle.svr_lrat_made.proofs.Marking.{mark_none, mark_link, mark_step}
use Rattle.svr_lrat_made.proofs.needed.mark_used.Goals as goal

pub loop-link-init : goal.loop-link-init
loop-link-init c = record {
  long = c.mark.ensures.long;
  marked = λ k. mark_none (get_or c.mark.new.marks.items k false) (nat_lt k c.args.limit);
}

pub loop-link-preserved : goal.loop-link-preserved
loop-link-preserved c =
    let d : Link = record { pivot = record { var = 0; neg = false }; clause = 0 } in
    record {
      long = c.mark-in-loop-link.ensures.long ∙ c.loop-link.invariant.long;
      marked =
          mark_link c.loop-link.marks.items c.mark.new.marks.items c.mark-in-loop-link.new.marks.items c.args.limit c.args.first c.as_slice-links.result.now c.loop-link.link-index d c.loop-link-test.true
          c.loop-link.invariant.marked c.mark-in-loop-link.ensures.marked;
    }

pub returns-clause-marked : goal.returns-clause-marked
returns-clause-marked c =
    let s : StepView = record { start = c.step.inside.start; links = c.step.inside.links.items } in
    subst (λ (z : StepView). (k : ℕ) → get_or c.loop-link.marks.items k false ≡ (get_or c.args.marks.now.items k false || (nat_lt k c.args.limit && uses z (c.args.first + k)))) c.step.view_is
    (mark_step c.args.marks.now.items c.mark.new.marks.items c.loop-link.marks.items c.args.limit c.args.first s c.mark.ensures.marked
    (λ k.
    c.loop-link.invariant.marked k
    ∙ ap (λ z. get_or c.mark.new.marks.items k false || (nat_lt k c.args.limit && list_any (λ (x : Link). nat_eq x.clause (c.args.first + k)) z))
    (take_all c.loop-link.link-index c.as_slice-links.result.now c.loop-link-test.false ∙ c.as_slice-links.ensures.value)))
