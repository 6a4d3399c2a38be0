use Rattle.svr_expr.proofs.Shorter.{node_no_more}
use Rattle.std.proofs.Common.{arith, rules, []}
use Rattle.svr_tree.specs.ExprTree.{expr_tree}
use Rattle.svr_reader.specs.Calls.{cap, height_view}
use Rattle.svr_reader.specs.Program.{call}
use Rattle.svr_item.specs.ItemRules.{a_node, part, item}
use Rattle.svr_reader.specs.Lists.{listing, listing_on}
use Rattle.svr_reader.proofs.Listed.{lists_give, lists_low}
use Rattle.svr_item.specs.Parts.{node_listed}
use Rattle.svr_item.proofs.reader.Reader.list.Goals as goal

pub returns-clause-gives : goal.returns-clause-gives
unfolding listing listing_on
returns-clause-gives g c = lists_give cap c.args.self.now.room (part cap c.args.self.now.room (item cap c.args.self.now.room)) expr_tree (call (a_node (node_listed c.args.kind))) _ (λ old new q e. search rules) cap ([], 0) _ _ _ c.listing.ensures

pub returns-clause-low : goal.returns-clause-low
returns-clause-low g c = lists_low c.args.self.now.room cap (λ old new q e. search rules) (omega arith) c.listing.ensures

pub listing-requires-clause-takes : goal.listing-requires-clause-takes
listing-requires-clause-takes g c = λ old new x e. node_no_more c.args.self.now.room (node_listed c.args.kind) old.now (height_view expr_tree x) new.now (search rules)
