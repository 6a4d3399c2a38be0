use Rattle.std.proofs.Common.{◌++◌, ◌∷◌, [], map, ap, ◌∙◌}
use Rattle.std.proofs.lemmas.List.{map-append}
use Rattle.svr_typed.specs.ClassTerm.{block_terms}
use Rattle.svr_flat.proofs.standing.and_class.Goals as goal

pub returns-clause-kept : goal.returns-clause-kept
returns-clause-kept c =
    let before = c.args.kept.items in
    let stands = rw c.in_ok-kept.ensures.first at c.pushed-kept.ensures in
    let own_is = rw stands.1 at c.standing-own_kept.ensures in
    ap (map block_terms) stands.2 ∙ map-append block_terms before (stands.0 ∷ []) ∙ (λ i. map block_terms before ++ own_is i ∷ [])

pub returns-clause-names : goal.returns-clause-names
returns-clause-names c = rw c.in_ok-kept.ensures.second at c.with_names.ensures
