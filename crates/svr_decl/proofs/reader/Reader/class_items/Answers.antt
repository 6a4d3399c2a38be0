use Rattle.svr_decl.proofs.Local.{class_item_takes}
use Rattle.std.proofs.Common.{[], arith, rules}
use Rattle.svr_token.specs.declared.Word.TheVariants as w
use Rattle.svr_tree.specs.DeclTree.{class_item_tree}
use Rattle.svr_reader.specs.declared.fixed.Fixed.TheVariants as f
use Rattle.svr_reader.specs.Calls.{cap, height_view}
use Rattle.svr_reader.specs.Lists.{until}
use Rattle.svr_reader.proofs.Listed.{until_gives, until_low}
use Rattle.svr_decl.specs.DeclRules.{part, class_item}
use Rattle.svr_decl.proofs.reader.Reader.class_items.Goals as goal

pub returns-clause-gives : goal.returns-clause-gives
unfolding until
returns-clause-gives c = until_gives cap c.args.self.now.room (part cap c.args.self.now.room) class_item_tree class_item (f.Word w.EndClass) _ (λ old new q p. search rules) cap ([], 0) _ _ _ c.until.ensures

pub returns-clause-low : goal.returns-clause-low
returns-clause-low c = until_low c.args.self.now.room cap (λ old new q p. search rules) (omega arith) c.until.ensures

pub until-requires-clause-takes : goal.until-requires-clause-takes
until-requires-clause-takes c = λ old new x e. class_item_takes cap c.args.self.now.room old.now (height_view class_item_tree x) new.now (search rules)
