use Rattle.std.proofs.Common.{◌≡◌, ◌++◌, List, Ok, sym, subst}
use Rattle.svr_token.specs.Names.{names_of}
use Rattle.svr_elab_fault.specs.Refusals.{first_one, earlier}
use Rattle.svr_elab_order.specs.Cycles.{cycles}
use Rattle.svr_elab_block.specs.declared.part.ClassOrders.{ClassOrders}
use Rattle.svr_elab_block.specs.Chain.{inherited, all_orders, class_orders, ranks_in, AreRanks, AreRanked}
use Rattle.svr_elab_block.specs.Seen.{body_part, bodies_part}
use Rattle.svr_elab_block.proofs.Forms.{told, body_is}
use Rattle.svr_elab_block.proofs.body.and_body.Goals as goal

pub of_own-check-requires : goal.of_own-check-requires
of_own-check-requires c = subst (AreRanked (names_of c.args.names)) (sym c.as_slice-chain.ensures) c.requires

pub returns-clause-value : goal.returns-clause-value
returns-clause-value c =
    let text = names_of c.args.names in
    let x = c.in_ok-bodies in
    let b = body_part c.args.part in
    let blocks : x.blocks ≡ c.args.part.blocks = rw x.ensures.made at c.beside.ensures.held in
    let check : c.of_own-check.result ≡ Ok x.check = rw x.ensures.made at c.beside.ensures.made in
    let P : List ClassOrders → Type 0 = λ cs.
    earlier c.earlier-before.result x.check.fault ≡ earlier c.earlier-before.result (cycles first_one (inherited text (all_orders text cs) c.args.at.base b.named) b.orders) in
    let Q : List ClassOrders → Type 0 = λ cs. class_orders text (all_orders text cs) x.check.class ≡ inherited text (all_orders text cs) c.args.at.base b.named ++ b.orders in
    told c.and_known.result (c.and_known.ensures.value text)
    (λ s is.
    body_is text (bodies_part text c.args.bodies) (bodies_part text s) c.args.at.base b (class_orders text (all_orders text c.args.bodies.orders) x.check.class) c.earlier-before.result x.check.fault c.earlier-fault.result
    (rw (blocks, x.ensures.held) at is) (subst Q c.as_slice-chain.ensures (rw check at c.of_own-check.ensures.orders)) c.earlier-before.ensures c.earlier-fault.ensures
    (subst P c.as_slice-chain.ensures (rw check at c.of_own-check.ensures.fault)))

pub returns-clause-ranks : goal.returns-clause-ranks
returns-clause-ranks c =
    let text = names_of c.args.names in
    let x = c.in_ok-bodies in
    let b = body_part c.args.part in
    let check : c.of_own-check.result ≡ Ok x.check = rw x.ensures.made at c.beside.ensures.made in
    let P : List ClassOrders → Type 0 = λ cs. AreRanks (ranks_in x.check.class) (inherited text (all_orders text cs) c.args.at.base b.named ++ b.orders) in
    let Q : List ClassOrders → Type 0 = λ cs. class_orders text (all_orders text cs) x.check.class ≡ inherited text (all_orders text cs) c.args.at.base b.named ++ b.orders in
    let ranks : P c.args.bodies.orders = subst P c.as_slice-chain.ensures (rw check at c.of_own-check.ensures.ranks) in
    let orders : Q c.args.bodies.orders = subst Q c.as_slice-chain.ensures (rw check at c.of_own-check.ensures.orders) in
    rw x.ensures.held at c.and_known.ensures.ranks text c.requires (subst (AreRanks (ranks_in x.check.class)) (sym orders) ranks)
