-- Texts with numbers and other texts in them.
use Rattle.std.proofs.Common.{◌≡◌, ℕ, List, [], ◌∷◌, ◌∙◌, ap}
use Rattle.std.specs.Prelude.{codes, decimal}
use Rattle.std.specs.List.{concat}
use Rattle.svr_lrat_judge.specs.declared.verdict.LratReason.{LratReason}
use Rattle.svr_check.specs.Lines.{word, rejected_line}

abbrev rejected_with : ℕ → List ℕ → List ℕ
rejected_with id why = concat (codes "rejected " ∷ decimal id ∷ codes " " ∷ why ∷ codes "\n" ∷ [])

pub rejected_joined : (id : ℕ) (reason : LratReason) (why text : List ℕ) → why ≡ word reason → text ≡ rejected_with id why → text ≡ rejected_line id reason
rejected_joined id reason why text why_is text_is = text_is ∙ ap (λ (t : List ℕ). rejected_with id t) why_is
