use Rattle.std.proofs.Common.{◌≡◌, Ok}
use Rattle.svr_tree.specs.ExprTree.{expr_tree}
use Rattle.svr_elab_names.specs.Tables.{space_of}
use Rattle.svr_elab_part.specs.Seen.{part_of, ranges_part_of}
use Rattle.svr_elab_part.proofs.Valued.{has_value}
use Rattle.svr_elab_expr.proofs.Walk.{unary_is, sign_is, paren_is, binary_is, choice_is, inside_is, index_is, slice_is, reduction_is}
use Rattle.svr_elab_expr.proofs.expr.+elab.Goals as goal

pub unary-returns : goal.unary-returns
unary-returns t c = unary_is c.args.at c.args.op (part_of c.in_ok-unary_part.field-0) (part_of c.in_ok-arg.arg) _ c.in_ok-unary_part.ensures (rw c.get.ensures at c.in_ok-arg.ensures)

pub conversion-returns : goal.conversion-returns
conversion-returns t c = sign_is c.args.at c.args.signed (part_of c.in_ok-sign_part.field-0) (part_of c.in_ok-arg.arg) _ c.in_ok-sign_part.ensures (rw c.get.ensures at c.in_ok-arg.ensures)

pub parenthesized-returns : goal.parenthesized-returns
parenthesized-returns t c = paren_is c.args.at (part_of c.paren_part.result) (part_of c.sole.result) (part_of c.in_ok-arg.arg) _ c.paren_part.ensures c.sole.ensures (rw c.get.ensures at c.in_ok-arg.ensures)

pub binary-returns : goal.binary-returns
binary-returns t c =
    binary_is c.args.at c.args.op (part_of c.in_ok-binary_part.field-0) (part_of c.in_ok-left.left) (part_of c.in_ok-left.right) _ _ c.in_ok-binary_part.ensures
    (rw (c.in_ok-left.ensures.first, c.get.ensures) at c.value.ensures) (rw (c.in_ok-left.ensures.second, c.get-2.ensures) at c.value-2.ensures)

pub choice-returns : goal.choice-returns
choice-returns t c =
    let test : c.value.result ≡ Ok c.in_ok-test.test = rw c.in_ok-test.ensures.first at c.both-known.ensures.first in
    let yes : c.value-2.result ≡ Ok c.in_ok-test.yes = rw c.in_ok-test.ensures.first at c.both-known.ensures.second in
    choice_is c.args.at (part_of c.in_ok-choice_part.field-0) (part_of c.in_ok-test.test) (part_of c.in_ok-test.yes) (part_of c.in_ok-test.no) _ _ _
    c.in_ok-choice_part.ensures (rw (test, c.get.ensures) at c.value.ensures) (rw (yes, c.get-2.ensures) at c.value-2.ensures) (rw (c.in_ok-test.ensures.second, c.get-3.ensures) at c.value-3.ensures)

pub membership-returns : goal.membership-returns
membership-returns t c =
    inside_is c.args.at (part_of c.in_ok-inside_part.field-0) (part_of c.in_ok-left.left) _ (ranges_part_of c.in_ok-left.set) _ c.in_ok-inside_part.ensures
    (rw (c.in_ok-left.ensures.first, c.get.ensures) at c.value-left.ensures) (rw c.in_ok-left.ensures.second at c.ranges-set.ensures)

pub index-returns : goal.index-returns
index-returns t c =
    index_is c.args.at c.args.call (part_of c.with_parens.result) (part_of c.in_ok-index_part.field-0) (part_of c.in_ok-base.base) (part_of c.in_ok-base.index) _ _
    c.with_parens.ensures c.in_ok-index_part.ensures (rw (c.in_ok-base.ensures.first, c.get.ensures) at c.elab.ensures) (rw (c.in_ok-base.ensures.second, c.get-2.ensures) at c.value.ensures)

pub slice-returns : goal.slice-returns
slice-returns t c =
    let base : c.value.result ≡ Ok c.in_ok-base.base = rw c.in_ok-base.ensures.first at c.both-known.ensures.first in
    let first : c.value-2.result ≡ Ok c.in_ok-base.first = rw c.in_ok-base.ensures.first at c.both-known.ensures.second in
    slice_is c.args.at c.args.call (part_of c.with_parens.result) (part_of c.in_ok-slice_part.field-0) (part_of c.in_ok-base.base) (part_of c.in_ok-base.first) (part_of c.in_ok-base.last) _ _ _
    c.with_parens.ensures c.in_ok-slice_part.ensures (rw (base, c.get.ensures) at c.value.ensures) (rw (first, c.get-2.ensures) at c.value-2.ensures) (rw (c.in_ok-base.ensures.second, c.get-3.ensures) at c.value-3.ensures)

pub slice-slice_part-requires-clause-first : goal.slice-slice_part-requires-clause-first
slice-slice_part-requires-clause-first t c =
    let first : c.value-2.result ≡ Ok c.in_ok-base.first = rw c.in_ok-base.ensures.first at c.both-known.ensures.second in
    has_value (part_of c.in_ok-base.first) (space_of c.args.names.now) (expr_tree c.args.first.now) (rw (first, c.get-2.ensures) at c.value-2.ensures) c.requires.members c.requires.literals.1

pub slice-slice_part-requires-clause-last : goal.slice-slice_part-requires-clause-last
slice-slice_part-requires-clause-last t c =
    has_value (part_of c.in_ok-base.last) (space_of c.args.names.now) (expr_tree c.args.last.now) (rw (c.in_ok-base.ensures.second, c.get-3.ensures) at c.value-3.ensures) c.requires.members c.requires.literals.2

pub replication-copies_part-requires : goal.replication-copies_part-requires
replication-copies_part-requires t c =
    has_value (part_of c.in_ok-count.count) (space_of c.args.names.now) (expr_tree c.args.count.now) (rw (c.in_ok-count.ensures.first, c.get.ensures) at c.value.ensures) c.requires.members c.requires.literals.0

pub reduction-returns : goal.reduction-returns
reduction-returns t c =
    reduction_is c.args.at c.args.fold (space_of c.args.names.now) (part_of c.in_ok-reduce_part.field-0) (part_of c.in_ok-array.array) (part_of c.sole.result) (part_of c.in_ok-array-2.body)
    (expr_tree c.args.array.now) (expr_tree c.args.body.now) c.args.item c.in_ok-reduce_part.ensures (rw c.in_ok-array-2.ensures.held at c.sole.ensures) (rw c.get.ensures at c.in_ok-array.ensures)
    (rw (c.in_ok-array-2.ensures.made, c.get-2.ensures) at c.reduced-body.ensures)
