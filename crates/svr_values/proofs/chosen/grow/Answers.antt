use Rattle.std.proofs.Common.{ℕ, List, [], ◌∷◌, ◌++◌, get_or, ap, ◌∙◌}
use Rattle.svr_values.proofs.FirstNumbers.{empty_more}
use Rattle.svr_values.proofs.chosen.grow.Goals as goal

pub rows-preserved : goal.rows-preserved
rows-preserved c = λ p.
    ap (λ (rows : List (List ℕ)). get_or rows p []) (c.in_ok-push.ensures.ok ∙ ap (λ (row : List ℕ). c.rows.rows ++ row ∷ []) c.new.ensures) ∙ empty_more c.rows.rows p ∙ c.rows.invariant p
