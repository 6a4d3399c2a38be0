use Rattle.std.proofs.Common.{◌≡◌, ◌∷◌, ◌++◌, [], get_or, ap, ◌∙◌}
use Rattle.svr_lrat_judge.specs.Marks.{unmarked}
use Rattle.svr_lrat_judge.proofs.MarkLemmas.{unmarked_more}
use Rattle.svr_lrat_judge.proofs.known.grow.Goals as goal

pub loop-marks-preserved : goal.loop-marks-preserved
loop-marks-preserved c = λ v.
    let e : c.push.new.self.items ≡ c.loop-marks.marks.items ++ unmarked ∷ [] = c.in_ok-push.ensures.items in
    ap (λ m. get_or m v unmarked) e ∙ unmarked_more c.loop-marks.marks.items v ∙ c.loop-marks.invariant v
