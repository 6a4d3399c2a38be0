use Rattle.std.proofs.Common.{◌≡◌, refl}
use Rattle.std.proofs.lemmas.Result.{err_from_is_err_and}
use Rattle.svr_token.specs.Names.{names_of}
use Rattle.svr_seq_made.specs.Refusals.{head_refusals, prod_refusals, rules_refusals}
use Rattle.svr_seq_made.specs.Tables.{found_in}
use Rattle.svr_seq_made.proofs.Walks.{first-some}
use Rattle.svr_seq_made.proofs.rules.prod_of.Goals as goal

pub returns-in_err-head : goal.returns-in_err-head
returns-in_err-head c =
    let q = err_from_is_err_and c.from_residual.result c.from_residual.ensures.1 in
    let text = names_of c.args.set.now.names in
    let find = found_in c.args.set.now.places.now.entries in
    rw (q.1, q.2)
    (first-some c.in_err-head.field-0.0 (prod_refusals text find c.args.at c.args.prod.now) (head_refusals text find c.args.at c.args.prod.now) (rules_refusals text find 0 c.args.prod.now.rules)
    refl c.in_err-head.ensures)
