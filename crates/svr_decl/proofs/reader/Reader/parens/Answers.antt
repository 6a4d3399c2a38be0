use Rattle.svr_reader.specs.Calls.{cap}
use Rattle.svr_reader.proofs.Plainly.{parens_same}
use Rattle.svr_decl.specs.DeclRules.{part}
use Rattle.svr_decl.proofs.reader.Reader.parens.Goals as goal

pub returns : goal.returns
returns c = rw (parens_same cap c.args.self.now.room (part cap c.args.self.now.room) c.args.cursor.now) c.parens.ensures
