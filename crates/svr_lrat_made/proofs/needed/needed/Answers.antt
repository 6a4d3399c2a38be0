use Rattle.std.proofs.Common.{◌≡◌, ◌+◌, ◌&&◌, ◌||◌, nat_eq, nat_lt, false, length, get_or, refl, ap, ◌∙◌, arith}
use Rattle.std.proofs.lemmas.List.{length-replicate}
use Rattle.svr_lrat_made.proofs.Marking.{marked_goal, all_marked, unset}
use Rattle.svr_lrat_made.proofs.needed.needed.Goals as goal

pub loop-left-init : goal.loop-left-init
loop-left-init c =
    let n : length c.mark.new.marks.items ≡ length c.args.steps.now = c.mark.ensures.long ∙ ap length c.in_ok-marks.ensures ∙ length-replicate (length c.args.steps.now) false in
    record {
      long = n;
      within = omega arith;
      marked =
          marked_goal c.args.goal c.args.first c.args.steps.now c.mark.new.marks.items (length c.args.steps.now) refl n
          (λ k.
          c.mark.ensures.marked k
          ∙ ap (λ b. b || (nat_lt k (length c.args.steps.now) && nat_eq c.args.goal (c.args.first + k)))
          (ap (λ z. get_or z k false) c.in_ok-marks.ensures ∙ unset (length c.args.steps.now) k));
    }

pub returns : goal.returns
returns c = all_marked c.args.goal c.args.first c.args.steps.now c.loop-left.marks.items c.loop-left.left (omega arith) c.loop-left.invariant.long c.loop-left.invariant.marked
