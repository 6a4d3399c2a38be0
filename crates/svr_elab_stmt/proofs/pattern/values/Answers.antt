use Rattle.std.proofs.Common.{◌≡◌, ◌+◌, drop, length, subst, ap, arith}
use Rattle.svr_tree.specs.ExprTree.{ExprTrees, expr_tree, expr_trees}
use Rattle.svr_elab_fault.specs.Refusals.{first_one}
use Rattle.svr_elab_names.specs.Tables.{space_of}
use Rattle.svr_elab_part.specs.Seen.{part_of}
use Rattle.svr_elab_stmt.specs.Stmts as spec
use Rattle.svr_elab_stmt.specs.Seen.{values_part}
use Rattle.svr_elab_stmt.specs.Fits.{ValuesFit, values_in}
use Rattle.svr_elab_stmt.proofs.Forms.{rest_is, step_is}
use Rattle.svr_elab_stmt.proofs.pattern.values.Goals as goal

pub loop-e-preserved : goal.loop-e-preserved
loop-e-preserved c =
    let n = space_of c.args.names.now in
    let list = c.args.list.now in
    let i = c.loop-e.e-index in
    let x = c.e-item.result in
    let old = c.loop-e.values in
    let left = expr_trees (drop (i + 1) list) in
    let rest = rest_is list i x c.loop-e-test.true c.e-item.is in
    let count : values_in (expr_trees (drop i list)) ≡ values_in left + 1 = ap values_in rest in
    let Fits : ExprTrees → Type 0 = λ es. ValuesFit (length c.args.names.now.loops.now) es in
    let Known : ExprTrees → Type 0 = λ es. spec.values first_one n c.args.members (values_part old) es ≡ spec.values first_one n c.args.members (spec.no_values first_one) (expr_trees list) in
    record {
      many = omega (arith, c.in_ok-values.ensures.many, c.loop-e.invariant.many, count);
      fits = (subst Fits rest c.loop-e.invariant.fits).1;
      same = step_is n c.args.members (values_part old) (values_part c.in_ok-values.values) _ (part_of c.in_ok-part.part) (expr_tree x) left
          c.in_ok-values.ensures.value c.in_ok-part.ensures (subst Known rest c.loop-e.invariant.same);
    }
