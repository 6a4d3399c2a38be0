use Rattle.svr_item.proofs.Local.{item_takes}
use Rattle.std.proofs.Common.{arith, rules, []}
use Rattle.svr_token.specs.declared.Mark.TheVariants as m
use Rattle.svr_tree.specs.ItemTree.{item_tree}
use Rattle.svr_reader.specs.declared.fixed.Fixed.TheVariants as f
use Rattle.svr_reader.specs.Calls.{cap, height_view}
use Rattle.svr_reader.specs.Program.{call}
use Rattle.svr_reader.specs.Lists.{until}
use Rattle.svr_reader.proofs.Listed.{until_gives, until_low}
use Rattle.svr_item.specs.ItemRules.{items, an_item, part, item}
use Rattle.svr_item.proofs.reader.Reader.items.Goals as goal

pub returns-clause-gives : goal.returns-clause-gives
unfolding items until
returns-clause-gives g c = until_gives cap c.args.self.now.room (part cap c.args.self.now.room (item cap c.args.self.now.room)) item_tree (call an_item) (f.Mark m.CloseBrace) _ (λ old new q e. search rules) cap ([], 0) _ _ _ c.until.ensures

pub returns-clause-low : goal.returns-clause-low
returns-clause-low g c = until_low c.args.self.now.room cap (λ old new q e. search rules) (omega arith) c.until.ensures

pub until-requires-clause-takes : goal.until-requires-clause-takes
until-requires-clause-takes g c = λ old new x e. item_takes cap c.args.self.now.room old.now (height_view item_tree x) new.now (search rules)
