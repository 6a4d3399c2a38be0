use Rattle.svr_stmt.proofs.Local.{stmt_takes}
use Rattle.std.proofs.Common.{rules}
use Rattle.svr_token.specs.declared.Word.TheVariants as w
use Rattle.svr_tree.specs.StmtTree.{stmt_tree}
use Rattle.svr_reader.specs.declared.fixed.Fixed.TheVariants as f
use Rattle.svr_reader.specs.Calls.{cap, height_view}
use Rattle.svr_reader.specs.Program.{call}
use Rattle.svr_reader.proofs.Listed.{until_gives}
use Rattle.svr_parse.specs.ScriptRules.{part, a_stmt, stmts_on}
use Rattle.svr_parse.proofs.reader.Reader.stmts.Goals as goal

pub returns : goal.returns
unfolding stmts_on
returns c = until_gives cap c.args.self.now.room (part cap c.args.self.now.room) stmt_tree (call a_stmt) (f.Word w.End) _ (λ old new q p. search rules) cap (c.args.first, c.args.first_height) _ _ _ c.until_on.ensures

pub until_on-requires-clause-takes : goal.until_on-requires-clause-takes
until_on-requires-clause-takes c = λ old new x e. stmt_takes cap c.args.self.now.room old.now (height_view stmt_tree x) new.now (search rules)
