use Rattle.std.proofs.Common.{◌≡◌, true, false, sym, ◌∙◌}
use Rattle.svr_randomize.proofs.read.fixed_row.Goals as goal

pub returns-then-is_random : goal.returns-then-is_random
returns-then-is_random c = λ fixed. absurd (let no : true ≡ false = sym c.if-is_random.true ∙ c.is_random.ensures ∙ fixed in cc)
