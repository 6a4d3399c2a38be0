use Rattle.std.proofs.Common.{◌≡◌, ◌+◌, List, map, drop, length, subst, refl}
use Rattle.svr_tree.specs.StmtTree.{StmtTree, stmt_tree}
use Rattle.svr_elab_fault.specs.Refusals.{first_one}
use Rattle.svr_elab_names.specs.Tables.{space_of}
use Rattle.svr_elab_stmt.specs.Seen.{stmt_part, stmts_part}
use Rattle.svr_elab_unit.specs.Run as spec
use Rattle.svr_elab_unit.specs.Fits.{AllStmtsFit}
use Rattle.svr_elab_unit.proofs.Forms.{rest_is}
use Rattle.svr_elab_unit.proofs.Runs.{tops_more}
use Rattle.svr_elab_unit.proofs.top.tops.Goals as goal

pub and_top-requires-clause-before : goal.and_top-requires-clause-before
and_top-requires-clause-before c = rw c.in_ok-before.ensures.held c.loop-each.invariant.most

pub and_top-requires-clause-next : goal.and_top-requires-clause-next
and_top-requires-clause-next c = rw c.in_ok-before.ensures.made at c.stmt-next.ensures.most

pub loop-each-init : goal.loop-each-init
loop-each-init c = record { fits = c.requires.fits; most = c.requires.count; still = c.new-flat.ensures (space_of c.args.names.now); same = refl }

pub loop-each-preserved : goal.loop-each-preserved
loop-each-preserved c =
    let x = c.in_ok-before in
    let n = space_of c.args.names.now in
    let list = c.args.list.now in
    let i = c.loop-each.each-index in
    let t = c.each-item.result in
    let p = c.loop-each.part in
    let old = c.loop-each.made.keys in
    let whole = spec.tops first_one n (stmts_part c.args.made.now.keys c.args.start) (map stmt_tree list) in
    let rest = rest_is stmt_tree list i t c.loop-each-test.true c.each-item.is in
    let Fits : List StmtTree → Type 0 = λ ts. AllStmtsFit (length c.args.names.now.loops.now) ts in
    let Known : List StmtTree → Type 0 = λ ts. spec.tops first_one n (stmts_part old p) ts ≡ whole in
    record {
      fits = (subst Fits rest c.loop-each.invariant.fits).1;
      most = c.in_ok-part.ensures.most;
      still = c.stmt-next.ensures.kept;
      same = tops_more n old _ _ p c.in_ok-part.part _ (stmt_part x.next) (stmt_tree t) (map stmt_tree (drop (i + 1) list)) whole
          (rw x.ensures.made at c.stmt-next.ensures.made) (rw x.ensures.held at c.in_ok-part.ensures.value) c.stmt_start.ensures (rw x.ensures.made at c.stmt-next.ensures.value) (subst Known rest c.loop-each.invariant.same);
    }
