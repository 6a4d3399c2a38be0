use Rattle.std.proofs.Common.{◌≡◌, ℕ, List, drop, length, sym, ap, ◌∙◌}
use Rattle.std.proofs.lemmas.List.{drop_at}
use Rattle.svr_chain.specs.declared.clause.Lit.{Lit}
use Rattle.svr_phase.specs.Proof.{fixed_lits}
use Rattle.svr_cyclic.proofs.ask.chosen_once.Goals as goal

pub returns : goal.returns
returns c =
    let roots : List Lit = c.args.layout.now.roots.items in
    let fixed : List Lit = fixed_lits c.args.layout.now c.args.sought.now.chosen.now in
    let count : ℕ = length c.as_slice-roots.result.now in
    let n : length roots ≡ count = ap (λ (ls : List Lit). length ls) (sym c.as_slice-roots.ensures.value) in
    c.in_ok-once.ensures.ok ∙ c.behind-chosen.ensures ∙ ap (λ (ls : List Lit). drop count ls) c.requires ∙ drop_at roots fixed count n
