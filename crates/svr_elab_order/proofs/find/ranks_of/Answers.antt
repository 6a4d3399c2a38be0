use Rattle.std.proofs.Common.{true, false, List, ℕ, subst}
use Rattle.svr_elab_order.specs.Graph.{IsRanking, AreHeld, AreAll}
use Rattle.svr_elab_order.proofs.Loops.{all_agree, some_cycle}
use Rattle.svr_elab_order.proofs.find.ranks_of.Goals as goal

pub returns-then-are_all : goal.returns-then-are_all
returns-then-are_all c =
    let names = c.names_past-names.result in
    let os = c.args.orders.now in
    let g = c.in_ok-graph.graph in
    let found = c.in_ok-ranking.ranking in
    let P : List (List ℕ) → Type 0 = λ x. IsRanking x found in
    let Q : List ℕ → Type 0 = AreAll true in
    all_agree names os g found c.of_properties.result c.names_past-names.ensures.above c.in_ok-graph.ensures
    (subst P c.as_slice.ensures c.in_ok-ranking.ensures.ranking) (subst Q c.as_slice-2.ensures.value c.if-are_all.ensures) c.of_properties.ensures

pub returns : goal.returns
returns c =
    let names = c.names_past-names.result in
    let os = c.args.orders.now in
    let g = c.in_ok-graph.graph in
    let found = c.in_ok-ranking.ranking in
    let P : List (List ℕ) → Type 0 = λ x. IsRanking x found in
    let H : List (List ℕ) → Type 0 = λ x. AreHeld x found.ranks.items in
    let Q : List ℕ → Type 0 = AreAll false in
    some_cycle names os g found c.names_past-names.ensures.above c.in_ok-graph.ensures
    (subst P c.as_slice.ensures c.in_ok-ranking.ensures.ranking) (subst H c.as_slice.ensures c.in_ok-ranking.ensures.held) (subst Q c.as_slice-2.ensures.value c.if-are_all.ensures)
