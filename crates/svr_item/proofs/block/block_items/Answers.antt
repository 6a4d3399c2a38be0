use Rattle.svr_item.proofs.Local.{block_item_takes}
use Rattle.std.proofs.Common.{arith, rules, []}
use Rattle.svr_token.specs.declared.Mark.TheVariants as m
use Rattle.svr_tree.specs.ItemTree.{item_tree, ItemTree}
use Rattle.svr_reader.specs.declared.fixed.Fixed.TheVariants as f
use Rattle.svr_reader.specs.Calls.{cap, height_view}
use Rattle.svr_reader.specs.Program.{call}
use Rattle.svr_reader.specs.Lists.{until, WithHeight}
use Rattle.svr_reader.proofs.Listed.{until_gives, until_low}
use Rattle.svr_item.specs.ItemRules.{block_item, block_items}
use Rattle.svr_item.proofs.block.block_items.Goals as goal

pub returns-clause-gives : goal.returns-clause-gives
unfolding block_items until
returns-clause-gives c = until_gives {K = Unit {0}} {Ans = λ u. WithHeight ItemTree} cap c.args.room (λ u. block_item cap c.args.room) item_tree (call tt) (f.Mark m.CloseBrace) _ (λ old new q e. search rules) cap ([], 0) _ _ _ c.until.ensures

pub returns-clause-low : goal.returns-clause-low
returns-clause-low c = until_low c.args.room cap (λ old new q e. search rules) (omega arith) c.until.ensures

pub until-requires-clause-takes : goal.until-requires-clause-takes
until-requires-clause-takes c = λ old new x e. block_item_takes cap c.args.room old.now (height_view item_tree x) new.now (search rules)
