use Rattle.svr_stmt.proofs.Local.{no_more}
use Rattle.std.proofs.Common.{rules, []}
use Rattle.svr_reader.specs.Calls.{cap, height_view}
use Rattle.svr_reader.specs.Lists.{listing, listing_on}
use Rattle.svr_reader.proofs.Listed.{lists_give}
use Rattle.svr_stmt.specs.StmtRules.{argument, part, stmt}
use Rattle.svr_stmt.proofs.reader.Reader.arguments.Goals as goal

pub returns : goal.returns
unfolding listing listing_on
returns c = lists_give cap c.args.self.now.room (part cap c.args.self.now.room (stmt cap c.args.self.now.room)) (λ n. n) argument _ (λ old new q e. search rules) cap ([], 0) _ _ _ c.listing.ensures

pub listing-requires-clause-takes : goal.listing-requires-clause-takes
listing-requires-clause-takes c = λ old new x e. no_more c.args.self.now.room argument old.now (height_view (λ n. n) x) new.now (search rules)
