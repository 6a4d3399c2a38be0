use Rattle.std.proofs.Common.{rules}
use Rattle.svr_tree.specs.ExprTree.{expr_tree}
use Rattle.svr_tree.specs.Operators.{implication_level}
use Rattle.svr_reader.specs.Program.{call}
use Rattle.svr_reader.specs.Lists.{listing_on}
use Rattle.svr_reader.specs.Calls.{cap, height_view}
use Rattle.svr_reader.proofs.Listed.{lists_give, lists_low}
use Rattle.svr_expr.specs.ExprRules.{an_expr, expr}
use Rattle.svr_expr.proofs.Shorter.{node_no_more}
use Rattle.svr_expr.proofs.reader.Reader.exprs_on.Goals as goal

pub returns-clause-gives : goal.returns-clause-gives
unfolding listing_on
returns-clause-gives g c =
    lists_give cap c.args.self.now.room (expr cap c.args.self.now.room) expr_tree (call implication_level) _ (λ old new q h. search rules) cap (c.args.first, c.args.first_height) c.args.cursor.now _ _ c.listing_on.ensures

pub returns-clause-low : goal.returns-clause-low
returns-clause-low g c = lists_low c.args.self.now.room cap (λ old new q h. search rules) (c.requires.first) c.listing_on.ensures

pub listing_on-requires-clause-takes : goal.listing_on-requires-clause-takes
listing_on-requires-clause-takes g c = λ old new x e. node_no_more c.args.self.now.room (an_expr implication_level) old.now (height_view expr_tree x) new.now (search rules)
