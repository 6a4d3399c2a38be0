use Rattle.svr_reader.specs.Calls.{cap}
use Rattle.svr_reader.proofs.Plainly.{name_behind_same}
use Rattle.svr_parse.specs.ScriptRules.{part}
use Rattle.svr_parse.proofs.reader.Reader.name_behind.Goals as goal

pub returns : goal.returns
returns c = rw (name_behind_same cap c.args.self.now.room (part cap c.args.self.now.room) c.args.fixed c.args.cursor.now) c.name_behind.ensures
