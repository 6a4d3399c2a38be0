use Rattle.std.proofs.Common.{arith, ◌-◌}
use Rattle.svr_reader.specs.Calls.{cap}
use Rattle.svr_reader.proofs.Turns.{deeper}
use Rattle.svr_expr.specs.ExprRules.{expr}
use Rattle.svr_expr.proofs.Anywhere.{path_on_same}
use Rattle.svr_stmt.specs.StmtRules.{a_path_on}
use Rattle.svr_stmt.proofs.reader.Reader.path_behind.Goals as goal

pub returns : goal.returns
unfolding a_path_on
returns c =
    rw (deeper (λ n. a_path_on cap n (c.args.first, c.args.kind) c.args.cursor.now) c.args.self.now.room (omega arith))
    (rw (path_on_same (c.args.self.now.room - 1) (expr cap (c.args.self.now.room - 1)) (c.args.first, c.args.kind) c.args.cursor.now) c.path_on.ensures)
