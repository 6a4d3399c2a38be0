-- What the reader of a text promises.
use Rattle.std.specs.Prelude.{List, ℕ}
use Rattle.svr_typed.specs.StmtTerm.{design_term}
use Rattle.svr_refused.specs.Texts.{HasDesign, IsRefused}
use Rattle.svr_refused.specs.declared.text.Reading.{Reading}
use Rattle.svr_refused.specs.declared.text.Reading.TheVariants as reading

-- what a text within the limit comes to
abbrev pub ComesTo : List ℕ → Reading → Type 0
ComesTo text (reading.Accepted design) = HasDesign text (design_term design)
ComesTo text (reading.Refused line) = IsRefused text line.items
