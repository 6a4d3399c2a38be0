use Rattle.svr_stmt.proofs.Local.{stmt_takes}
use Rattle.std.proofs.Common.{arith, rules, []}
use Rattle.svr_token.specs.declared.Word.TheVariants as w
use Rattle.svr_tree.specs.StmtTree.{stmt_tree}
use Rattle.svr_reader.specs.declared.fixed.Fixed.TheVariants as f
use Rattle.svr_reader.specs.Calls.{cap, height_view}
use Rattle.svr_reader.specs.Program.{call}
use Rattle.svr_reader.specs.Lists.{until}
use Rattle.svr_reader.proofs.Listed.{until_gives, until_low}
use Rattle.svr_stmt.specs.StmtRules.{a_stmt, part, stmt}
use Rattle.svr_stmt.proofs.statement.Within.stmts.Goals as goal

pub returns-clause-gives : goal.returns-clause-gives
unfolding until
returns-clause-gives g c = until_gives cap c.args.self.now.parts.room (part cap c.args.self.now.parts.room (stmt cap c.args.self.now.parts.room)) stmt_tree (call a_stmt) (f.Word w.End) _ (λ old new q e. search rules) cap ([], 0) _ _ _ c.until.ensures

pub returns-clause-low : goal.returns-clause-low
returns-clause-low g c = until_low c.args.self.now.parts.room cap (λ old new q e. search rules) (omega arith) c.until.ensures

pub until-requires-clause-takes : goal.until-requires-clause-takes
until-requires-clause-takes g c = λ old new x e. stmt_takes cap c.args.self.now.parts.room old.now (height_view stmt_tree x) new.now (search rules)
