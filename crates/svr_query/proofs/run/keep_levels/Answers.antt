use Rattle.std.proofs.Common.{sym}
use Rattle.svr_query.proofs.Levels.{level-kept, level-front}
use Rattle.svr_query.proofs.run.keep_levels.Goals as goal

pub returns-clause-level : goal.returns-clause-level
returns-clause-level c = level-kept c.args.search.now c.backjump.new.self c.args.levels c.requires c.backjump.ensures.back c.backjump.ensures.present

pub returns-clause-shorter : goal.returns-clause-shorter
returns-clause-shorter c = (level-front c.args.search.now c.level.ensures.kept c.backjump.new.self c.args.levels c.requires (returns-clause-level c)).0

pub returns-clause-begins : goal.returns-clause-begins
returns-clause-begins c = sym (level-front c.args.search.now c.level.ensures.kept c.backjump.new.self c.args.levels c.requires (returns-clause-level c)).1
