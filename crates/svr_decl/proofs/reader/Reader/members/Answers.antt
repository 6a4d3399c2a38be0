use Rattle.svr_decl.proofs.Local.{no_more}
use Rattle.std.proofs.Common.{[], arith, rules}
use Rattle.svr_tree.specs.DeclTree.{member_tree}
use Rattle.svr_reader.specs.Calls.{cap, height_view}
use Rattle.svr_reader.specs.Lists.{listing, listing_on}
use Rattle.svr_reader.proofs.Listed.{lists_give, lists_low}
use Rattle.svr_decl.specs.DeclRules.{part, member}
use Rattle.svr_decl.proofs.reader.Reader.members.Goals as goal

pub returns-clause-gives : goal.returns-clause-gives
unfolding listing listing_on
returns-clause-gives c = lists_give cap c.args.self.now.room (part cap c.args.self.now.room) member_tree member _ (λ old new q p. search rules) cap ([], 0) _ _ _ c.listing.ensures

pub returns-clause-low : goal.returns-clause-low
returns-clause-low c = lists_low c.args.self.now.room cap (λ old new q p. search rules) (omega arith) c.listing.ensures

pub listing-requires-clause-takes : goal.listing-requires-clause-takes
listing-requires-clause-takes c = λ old new x e. no_more c.args.self.now.room member old.now (height_view member_tree x) new.now (search rules)
