use Rattle.std.proofs.Common.{ℕ, ◌-◌, take, ap, ◌∙◌}
use Rattle.std.proofs.lemmas.List.{append-nil}
use Rattle.svr_flat.proofs.Stacked.{joined_more, joined_last}
use Rattle.svr_flat.proofs.standing.joined.Goals as goal

pub loop-list-preserved : goal.loop-list-preserved
loop-list-preserved c = joined_more _ _ c.in-Some.list _ _ _ c.in-Some.ensures.items c.in_ok-append.ensures c.loop-list.invariant

pub returns : goal.returns
returns c =
    let left = c.loop-list.lists.items in
    let gone = c.in_default.ensures.items ∙ append-nil _ ∙ c.in_default.ensures.rest ∙ ap (λ (n : ℕ). take (n - 1) left) c.in_default.ensures.cases.0 in
    joined_last left c.loop-list.blocks _ gone c.loop-list.invariant
