use Rattle.std.proofs.Common.{arith, rules}
use Rattle.std.proofs.lemmas.Grind.{common_steps}
use Rattle.svr_reader.specs.Calls.{cap}
use Rattle.svr_expr.specs.ExprRules.{node, rest_of_path}
use Rattle.svr_expr.specs.Parts.{kind_view}
use Rattle.svr_expr.proofs.Deep.{deeper}
use Rattle.svr_expr.proofs.node.rest_of_path.Goals as goal

pub returns-clause-gives : goal.returns-clause-gives
unfolding node
returns-clause-gives c =
    let e = deeper (λ n. node cap n (rest_of_path c.args.at (kind_view (c.args.path, c.args.kind))) c.args.cursor.now) c.args.room (omega arith) in
    first_of (search rules, grind (arith, common_steps))

pub returns-in_err-operand-clause-gives : goal.returns-in_err-operand-clause-gives
unfolding node
returns-in_err-operand-clause-gives c =
    let e = deeper (λ n. node cap n (rest_of_path c.args.at (kind_view (c.args.path, c.args.kind))) c.args.cursor.now) c.args.room (omega arith) in
    first_of (search rules, grind (arith, common_steps))
