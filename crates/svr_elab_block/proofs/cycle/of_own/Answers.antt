use Rattle.std.proofs.Common.{◌≡◌, ◌++◌, true, map, option_map, ap, sym, ◌∙◌, subst, rules}
use Rattle.std.specs.Rc.{rc_value}
use Rattle.svr_token.specs.Names.{names_of}
use Rattle.svr_elab_fault.specs.Refusals.{earlier}
use Rattle.svr_elab_names.specs.Tables.{bytes_of}
use Rattle.svr_elab_order.specs.Ranks.{are_behind}
use Rattle.svr_elab_block.specs.Chain.{inherited, all_orders, is_agreed, AreRanks}
use Rattle.svr_elab_block.specs.Blocks.{orders_at}
use Rattle.svr_elab_block.proofs.Agreed.{at_ok, agreed, none_told, for_inherited, behind_told}
use Rattle.svr_elab_block.proofs.cycle.of_own.Goals as goal

pub returns-then-do_agree-clause-ranks : goal.returns-then-do_agree-clause-ranks
returns-then-do_agree-clause-ranks c =
    let text = names_of c.args.names in
    let done = all_orders text c.args.chain.now in
    let named = map bytes_of c.args.named.keys in
    let r = option_map rc_value c.in_ok-ranks.ranks in
    let h : AreRanks r (orders_at done c.args.at.base) = at_ok (λ ranks. AreRanks (option_map rc_value ranks) (orders_at done c.args.at.base)) c.inherited_ranks.result c.in_ok-ranks.ranks c.in_ok-ranks.was (c.inherited_ranks.ensures text c.requires) in
    let k : is_agreed r c.args.own ≡ true = search rules in
    subst (λ ranks. AreRanks (option_map rc_value ranks) (inherited text done c.args.at.base named ++ c.args.own)) (sym c.unlooked.ensures.ranks)
    (agreed r (inherited text done c.args.at.base named) c.args.own (for_inherited text r done c.args.at.base named h) k)

pub returns-then-do_agree-clause-fault : goal.returns-then-do_agree-clause-fault
returns-then-do_agree-clause-fault c =
    let text = names_of c.args.names in
    let done = all_orders text c.args.chain.now in
    let named = map bytes_of c.args.named.keys in
    let r = option_map rc_value c.in_ok-ranks.ranks in
    let h : AreRanks r (orders_at done c.args.at.base) = at_ok (λ ranks. AreRanks (option_map rc_value ranks) (orders_at done c.args.at.base)) c.inherited_ranks.result c.in_ok-ranks.ranks c.in_ok-ranks.was (c.inherited_ranks.ensures text c.requires) in
    let k : is_agreed r c.args.own ≡ true = search rules in
    ap (earlier c.args.before) c.unlooked.ensures.fault ∙ none_told r (inherited text done c.args.at.base named) c.args.own (for_inherited text r done c.args.at.base named h) k c.args.before

pub returns-then-are_behind-clause-fault : goal.returns-then-are_behind-clause-fault
returns-then-are_behind-clause-fault c =
    let text = names_of c.args.names in
    let h : are_behind c.args.before c.args.own ≡ true = search rules in
    ap (earlier c.args.before) c.unlooked-then-are_behind.ensures.fault ∙ behind_told c.args.before (inherited text (all_orders text c.args.chain.now) c.args.at.base (map bytes_of c.args.named.keys)) c.args.own h
