use Rattle.std.proofs.Common.{◌≡◌, ◌+◌, Option, None, Some, List, ap, sym, ◌∙◌}
use Rattle.std.specs.Option.{option_map}
use Rattle.svr_typed.specs.declared.item.TDistItem.{TDistItem}
use Rattle.svr_typed.specs.ExprTerm.{expr_term}
use Rattle.svr_typed.specs.ItemTerm.{dist_terms}
use Rattle.svr_eval.specs.Value.{size_of}
use Rattle.svr_frame.specs.Frame.{frame_term}
use Rattle.svr_frame.specs.Weight.{capped}
use Rattle.svr_weight.specs.Costs.{own_cost, members_cost}
use Rattle.svr_weight.specs.Weighing.{joined, mentioned_by, members_mention, plain_weight}
use Rattle.svr_weight.proofs.Caps.{sum_from, leaf_from, own_width}
use Rattle.svr_weight.proofs.items.plain_weight.Goals as goal

pub returns-in-None : goal.returns-in-None
returns-in-None c =
    let f = frame_term c.args.frame.now in
    let part = c.args.part in
    let ns = c.args.sizes.now in
    let e = expr_term c.args.e.now in
    leaf_from part c.args.around c.args.soft _ (mentioned_by f part e) _ (own_cost f part ns e) _ (size_of e) _ c.leaf_weight.ensures c.mentioned_by-mentioned.ensures c.own_cost-own.ensures
    (sym (own_width c.args.e.now c.requires.typed))
    ∙ ap (λ (d : Option (List TDistItem)). capped (plain_weight f part ns c.args.around c.args.soft e (option_map dist_terms d))) (sym c.in-None.is)

pub returns-in-Some : goal.returns-in-Some
returns-in-Some c =
    let f = frame_term c.args.frame.now in
    let part = c.args.part in
    let ns = c.args.sizes.now in
    let e = expr_term c.args.e.now in
    let ds = dist_terms c.as_slice-members.result.now in
    let all = c.joined-all.ensures ∙ (λ k. joined (c.mentioned_by-mentioned.ensures k) (c.members_mention.ensures k)) in
    let set = c.members_cost-set.ensures ∙ ap (λ n. capped (members_cost f part ns n ds)) (sym (own_width c.args.e.now c.requires.typed)) in
    let own = sum_from _ _ (own_cost f part ns e) (members_cost f part ns (size_of e) ds) _ c.add.ensures c.own_cost-own.ensures set in
    leaf_from part c.args.around c.args.soft _ (joined (mentioned_by f part e) (members_mention f part ds)) _ (own_cost f part ns e + members_cost f part ns (size_of e) ds) 1 1 _ c.leaf_weight-in-Some.ensures all own (λ k. 1)
    ∙ ap (λ (d : Option (List TDistItem)). capped (plain_weight f part ns c.args.around c.args.soft e (option_map dist_terms d))) (ap Some c.as_slice-members.ensures ∙ sym c.in-Some.is)
