-- Lines step by step
use Rattle.std.proofs.Common.{◌≡◌, ℕ, Bool, List, ◌∷◌, ◌++◌, ap, ◌∙◌, append_assoc}
use Rattle.svr_chain.specs.declared.clause.Lit.{Lit}
use Rattle.svr_chain.specs.Views.{StepView}
use Rattle.svr_lrat_file.specs.declared.file.Line.{Line}
use Rattle.svr_lrat_made.specs.Made.{with_step, line_of, if_needed, lines_of}

-- one more step
pub lines_more : (number : ℕ → ℕ) (lines more : List Line) (ks next : List (List Lit)) (m : Bool) (marks : List Bool) (s : StepView) (steps : List StepView)
    → more ≡ lines ++ if_needed m (line_of number ks s) → next ≡ with_step ks s
    → more ++ lines_of number next marks steps ≡ lines ++ lines_of number ks (m ∷ marks) (s ∷ steps)
lines_more number lines more ks next m marks s steps e f =
    ap (λ z. z ++ lines_of number next marks steps) e
    ∙ ap (λ z. (lines ++ if_needed m (line_of number ks s)) ++ lines_of number z marks steps) f
    ∙ append_assoc lines (if_needed m (line_of number ks s)) (lines_of number (with_step ks s) marks steps)
