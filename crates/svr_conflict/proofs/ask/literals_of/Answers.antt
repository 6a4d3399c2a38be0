use Rattle.std.proofs.Common.{List, drop, ap, ◌∙◌}
use Rattle.std.specs.List.{flat_map}
use Rattle.svr_chain.specs.declared.clause.Lit.{Lit}
use Rattle.svr_vector.specs.Places.{rows}
use Rattle.svr_conflict.specs.Cut.{cut_by}
use Rattle.svr_conflict.proofs.ask.literals_of.Goals as goal

pub returns-clause-groups : goal.returns-clause-groups
returns-clause-groups c =
    c.in_ok-groups.ensures ∙ ap (λ (ls : List Lit). cut_by c.args.counts.now ls) (c.behind-rest.ensures ∙ ap (λ (ls : List Lit). drop c.args.domains ls) c.as_slice-roots.ensures.value)

pub returns-clause-row : goal.returns-clause-row
returns-clause-row c = c.in_ok-row.ensures ∙ ap (λ vs. flat_map (λ row. row) (rows vs)) c.as_slice-bits.ensures.value
