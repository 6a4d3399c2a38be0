use Rattle.std.proofs.Common.{rules, arith}
use Rattle.std.proofs.lemmas.Grind.{common_steps}
use Rattle.svr_reader.specs.Calls.{cap}
use Rattle.svr_expr.specs.ExprRules.{expr, path_expr}
use Rattle.svr_expr.proofs.Anywhere.{known_path_same}
use Rattle.svr_expr.proofs.reader.Reader.path_expr.Goals as goal

pub returns-clause-gives : goal.returns-clause-gives
unfolding path_expr
returns-clause-gives g c =
    let e = known_path_same c.args.self.now.room (expr cap c.args.self.now.room) c.args.cursor.now in
    first_of (search rules, grind (arith, common_steps))

pub returns-in_err-path-clause-gives : goal.returns-in_err-path-clause-gives
unfolding path_expr
returns-in_err-path-clause-gives g c =
    let e = known_path_same c.args.self.now.room (expr cap c.args.self.now.room) c.args.cursor.now in
    first_of (search rules, grind (arith, common_steps))
