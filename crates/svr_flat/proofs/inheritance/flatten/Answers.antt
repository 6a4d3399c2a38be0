use Rattle.std.proofs.Common.{sym, ◌∙◌, true≢false, nat_lt}
use Rattle.std.proofs.Math.Bool.{and-false}
use Rattle.svr_flat.proofs.inheritance.flatten.Goals as goal

pub flatten_over-requires : goal.flatten_over-requires
flatten_over-requires c = λ b h. absurd (true≢false (sym h ∙ and-false (nat_lt b 0)))
