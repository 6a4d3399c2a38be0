use Rattle.std.proofs.Common.{◌∷◌, ◌++◌, [], ℕ, List, ap, ◌∙◌, append_assoc}
use Rattle.svr_cyclic.specs.Values.{lower, higher}
use Rattle.svr_cyclic.proofs.used.inserted.Goals as goal

pub returns : goal.returns
returns c =
    c.in_ok-add_higher.ensures
    ∙ ap (λ (xs : List ℕ). xs ++ higher c.args.value c.args.used.now) (c.in_ok-push.ensures.ok ∙ ap (λ (xs : List ℕ). xs ++ c.args.value ∷ []) (c.in_ok-add_lower.ensures ∙ ap (λ (xs : List ℕ). xs ++ lower c.args.value c.args.used.now) c.new-joined.ensures))
    ∙ append_assoc (lower c.args.value c.args.used.now) (c.args.value ∷ []) (higher c.args.value c.args.used.now)
