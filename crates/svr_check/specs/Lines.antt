-- The line for a verdict.
use Rattle.std.specs.Prelude.{ℕ, List, [], ◌∷◌, codes, decimal}
use Rattle.std.specs.List.{concat}
use Rattle.svr_lrat_judge.specs.declared.verdict.LratReason.{LratReason}
use Rattle.svr_lrat_judge.specs.declared.verdict.LratReason.TheVariants as reason
use Rattle.svr_lrat_judge.specs.declared.verdict.LratVerdict.{LratVerdict}
use Rattle.svr_lrat_judge.specs.declared.verdict.LratVerdict.TheVariants as says

-- the word for a reason
abbrev pub word : LratReason → List ℕ
word reason.Order = codes "order"
word reason.Negative = codes "negative"
word reason.Hint = codes "hint"
word reason.TwoLeft = codes "open"
word reason.Short = codes "short"
word reason.Delete = codes "delete"
word reason.Unfinished = codes "unfinished"

abbrev pub rejected_line : ℕ → LratReason → List ℕ
rejected_line id why = concat (codes "rejected " ∷ decimal id ∷ codes " " ∷ word why ∷ codes "\n" ∷ [])

abbrev pub verdict_line : LratVerdict → List ℕ
verdict_line says.Accepted = codes "accepted\n"
verdict_line (says.Rejected id why) = rejected_line id why
