use Rattle.std.specs.Prelude.{IfOk}
use Rattle.std.proofs.Common.{◌≡◌, ◌∙◌, Ok, subst}
use Rattle.svr_tree.specs.ExprTree.{expr_tree}
use Rattle.svr_tree.specs.ItemTree.{set_tree}
use Rattle.svr_elab_fault.specs.Refusals.{first_one}
use Rattle.svr_elab_names.specs.Names.{Space}
use Rattle.svr_elab_names.specs.Tables.{space_of}
use Rattle.svr_elab_part.specs.Seen.{part_of}
use Rattle.svr_elab_item.specs.Items as spec
use Rattle.svr_elab_item.specs.Seen.{item_part, items_part, else_part}
use Rattle.svr_elab_set.proofs.Forms.{implies_is, branch_is, branch_else_is, looped, foreach_is}
use Rattle.svr_elab_set.proofs.walk.+item.Goals as goal

pub implication-returns : goal.implication-returns
implication-returns t c =
    implies_is (space_of c.args.names.now) c.args.around c.under.result (item_part c.implies_item.result) (part_of c.in_ok-test.test) (items_part c.in_ok-test-2.body)
    (expr_tree c.args.test.now) (set_tree c.args.body.now) (rw c.in_ok-test-2.ensures.held at c.implies_item.ensures) c.in_ok-test.ensures c.under.ensures
    (rw c.in_ok-test-2.ensures.made at c.set-body.ensures)

pub branch-returns : goal.branch-returns
branch-returns t c =
    branch_is (space_of c.args.names.now) c.args.around c.under.result (item_part c.branch_item.result) (part_of c.in_ok-test.test) (items_part c.in_ok-test-2.yes) (else_part c.no_else.result)
    (expr_tree c.args.test.now) (set_tree c.args.yes.now) (rw c.in_ok-test-2.ensures.held at c.branch_item.ensures) c.in_ok-test.ensures c.under.ensures
    (rw c.in_ok-test-2.ensures.made at c.set-yes.ensures) c.no_else.ensures

pub branch_else-returns : goal.branch_else-returns
branch_else-returns t c =
    let met : c.set.result ≡ Ok c.in_ok-test-2.yes = rw c.in_ok-test-2.ensures.made at c.both-sets.ensures.first in
    let unmet : c.set-2.result ≡ Ok c.in_ok-test-2.no = rw c.in_ok-test-2.ensures.made at c.both-sets.ensures.second in
    branch_else_is (space_of c.args.names.now) c.args.around c.under-around.result (item_part c.branch_item.result) (part_of c.in_ok-test.test) (items_part c.in_ok-test-2.yes) (items_part c.in_ok-test-2.no)
    (else_part c.else_part.result) (expr_tree c.args.test.now) (set_tree c.args.yes.now) (set_tree c.args.no.now)
    (rw c.in_ok-test-2.ensures.held at c.branch_item.ensures) c.in_ok-test.ensures c.under-around.ensures (rw met at c.set.ensures) c.else_part.ensures (rw unmet at c.set-2.ensures)

pub foreach-returns : goal.foreach-returns
foreach-returns t c =
    foreach_is (space_of c.args.names.now) c.args.around c.over.result c.args.vars.now (item_part c.foreach_item.result) (part_of c.in_ok-array.array) (part_of c.sole.result) (items_part c.in_ok-array-2.body)
    (expr_tree c.args.array.now) (set_tree c.args.body.now)
    c.foreach_item.ensures (rw c.in_ok-array-2.ensures.held at c.sole.ensures) c.in_ok-array.ensures c.over.ensures (rw c.in_ok-array-2.ensures.made at c.in_loops-body.ensures)

pub in_loops-returns : goal.in_loops-returns
in_loops-returns t c =
    let Known : Space → Type 0 = λ n. IfOk c.set.result (λ p. items_part p ≡ spec.items_in first_one n c.args.around (set_tree c.args.body.now)) in
    subst Known (c.with_loops-inner.ensures.space ∙ looped (space_of c.args.names.now) _ c.as_slice.result.now c.in_ok-loops.loops c.as_slice.ensures c.in_ok-loops.ensures.space) c.set.ensures
