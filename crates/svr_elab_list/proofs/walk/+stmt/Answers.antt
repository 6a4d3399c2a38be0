use Rattle.std.proofs.Common.{◌≡◌, ◌+◌, drop, length, subst}
use Rattle.std.proofs.lemmas.Result.{IfOk-weaker}
use Rattle.svr_tree.specs.StmtTree.{StmtTrees, stmt_tree, stmt_trees}
use Rattle.svr_elab_fault.specs.Refusals.{first_one}
use Rattle.svr_elab_names.specs.Tables.{space_of}
use Rattle.svr_elab_type.specs.Seen.{constant_part}
use Rattle.svr_elab_stmt.specs.Stmts as spec
use Rattle.svr_elab_stmt.specs.Seen.{stmt_part, stmts_part}
use Rattle.svr_elab_stmt.specs.Fits.{StmtsFit}
use Rattle.svr_elab_list.proofs.Forms.{rest_is, block_is, kept, repeat_stmt_is, all_kept, start_is, step_is, before_is}
use Rattle.svr_elab_list.proofs.walk.+stmt.Goals as goal

pub block-returns-clause-value : goal.block-returns-clause-value
block-returns-clause-value t c =
    block_is (space_of c.args.names.now) _ _ c.in_ok-part.part (stmt_trees c.args.list.now) (stmt_part c.block_stmt.result) c.block_stmt.ensures.value c.in_ok-part.ensures.value

pub block-returns-clause-made : goal.block-returns-clause-made
block-returns-clause-made t c = kept _ _ _ _ c.truncate.ensures.keys c.len-before.ensures.len c.in_ok-part.ensures.before

pub repetition-returns-clause-value : goal.repetition-returns-clause-value
repetition-returns-clause-value t c =
    IfOk-weaker c.repeat_stmt.result _ _
    (λ s h. repeat_stmt_is (constant_part c.in_ok-times.times) _ (stmt_part c.in_ok-inner.inner) _ (stmt_part s) h c.in_ok-times.ensures.value c.in_ok-inner.ensures.value)
    c.repeat_stmt.ensures.value

pub repetition-returns-clause-made : goal.repetition-returns-clause-made
repetition-returns-clause-made t c = IfOk-weaker c.repeat_stmt.result _ _ (λ s h. c.in_ok-inner.ensures.made) c.repeat_stmt.ensures.most

pub stmts-loop-each-init : goal.stmts-loop-each-init
stmts-loop-each-init t c = record {
  fits = c.requires.fits;
  most = c.no_stmts-part.ensures.most;
  still = c.requires.kept;
  before = all_kept c.args.made.now.keys;
  known = start_is (space_of c.args.names.now) _ c.args.made.now.keys (stmt_trees c.args.list.now) (c.no_stmts-part.ensures.value c.args.made.now.keys);
}

pub stmts-loop-each-preserved : goal.stmts-loop-each-preserved
stmts-loop-each-preserved t c =
    let n = space_of c.args.names.now in
    let list = c.args.list.now in
    let i = c.loop-each.each-index in
    let s = c.each-item.result in
    let p = c.loop-each.part in
    let old = c.loop-each.made.keys in
    let whole = spec.stmts first_one n (spec.no_stmts first_one c.args.made.now.keys) (stmt_trees list) in
    let rest = rest_is list i s c.loop-each-test.true c.each-item.is in
    let Fits : StmtTrees → Type 0 = λ ts. StmtsFit (length c.args.names.now.loops.now) ts in
    let Known : StmtTrees → Type 0 = λ ts. spec.stmts first_one n (stmts_part old p) ts ≡ whole in
    record {
      fits = (subst Fits rest c.loop-each.invariant.fits).1;
      most = c.in_ok-part.ensures.most;
      still = c.in_ok-next.ensures.kept;
      before = before_is c.args.made.now.keys old _ _ c.in_ok-next.next.makes c.in_ok-next.ensures.made c.in_ok-part.ensures.keys c.loop-each.invariant.before;
      known = step_is n old _ _ p c.in_ok-part.part c.in_ok-next.next (stmt_tree s) (stmt_trees (drop (i + 1) list)) whole
          c.in_ok-next.ensures.made c.in_ok-part.ensures.value c.in_ok-next.ensures.value (subst Known rest c.loop-each.invariant.known);
    }
