use Rattle.std.proofs.Common.{◌≡◌, true, false, sym, ◌∙◌}
use Rattle.svr_randomize.proofs.read.is_same_row.Goals as goal

pub returns-then-is_random : goal.returns-then-is_random
returns-then-is_random c = λ told fixed. absurd (let no : true ≡ false = sym c.if-is_random.true ∙ c.is_random.ensures ∙ fixed in cc)

pub returns : goal.returns
returns c = λ told fixed. sym c.row_of.ensures ∙ c.are_same_numbers.ensures told ∙ c.row_of-2.ensures
