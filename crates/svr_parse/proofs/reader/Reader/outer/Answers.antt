use Rattle.svr_decl.proofs.Local.{var_takes}
use Rattle.std.proofs.Common.{[], rules}
use Rattle.svr_token.specs.declared.Word.TheVariants as w
use Rattle.svr_tree.specs.DeclTree.{var_tree}
use Rattle.svr_reader.specs.declared.fixed.Fixed.TheVariants as f
use Rattle.svr_reader.specs.Calls.{cap, height_view}
use Rattle.svr_reader.specs.Program.{call}
use Rattle.svr_reader.specs.Lists.{until}
use Rattle.svr_reader.proofs.Listed.{until_gives}
use Rattle.svr_parse.specs.ScriptRules.{part, a_var}
use Rattle.svr_parse.proofs.reader.Reader.outer.Goals as goal

pub returns : goal.returns
unfolding until
returns c = until_gives cap c.args.self.now.room (part cap c.args.self.now.room) var_tree (call a_var) (f.Word w.Initial) _ (λ old new q p. search rules) cap ([], 0) _ _ _ c.until.ensures

pub until-requires-clause-takes : goal.until-requires-clause-takes
until-requires-clause-takes c = λ old new x e. var_takes cap c.args.self.now.room old.now (height_view var_tree x) new.now (search rules)
