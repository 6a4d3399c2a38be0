use Rattle.std.proofs.Common.{◌≡◌, ◌*◌, ◌-◌, ◌/◌, ℕ, ap, ◌∙◌, arith}
use Rattle.svr_counts.proofs.Counted.{pair_number_is}
use Rattle.svr_counts.proofs.members.pair_count.Goals as goal

pub returns : goal.returns
returns c =
    let less : c.saturating_sub.result ≡ c.args.members - 1 = omega arith in
    ap (λ (n : ℕ). n / 2) (c.in_ok-twice.ensures ∙ ap (λ (n : ℕ). c.args.members * n) less) ∙ pair_number_is c.args.members
