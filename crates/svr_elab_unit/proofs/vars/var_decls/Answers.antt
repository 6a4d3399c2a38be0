use Rattle.std.proofs.Common.{◌≡◌, ◌≤◌, ◌+◌, List, map, drop, length, subst}
use Rattle.svr_tree.specs.DeclTree.{VarTree, var_tree}
use Rattle.svr_elab_fault.specs.Refusals.{first_one}
use Rattle.svr_elab_names.specs.Tables.{space_of}
use Rattle.svr_elab_unit.specs.Vars as spec
use Rattle.svr_elab_unit.specs.Seen.{vars_part}
use Rattle.svr_elab_unit.specs.Fits.{VarTypesFit, declared_in}
use Rattle.svr_elab_unit.proofs.Forms.{rest_is, decls_more, declared_more}
use Rattle.svr_elab_unit.proofs.vars.var_decls.Goals as goal

pub loop-decl-preserved : goal.loop-decl-preserved
loop-decl-preserved c =
    let n = space_of c.args.names.now in
    let list = c.args.list.now in
    let i = c.loop-decl.decl-index in
    let t = c.decl-item.result in
    let p = vars_part c.loop-decl.part in
    let count = length c.loop-decl.part.vars.entries in
    let most = length c.args.start.vars.entries + declared_in (map var_tree list) in
    let whole = spec.var_decls first_one n (vars_part c.args.start) (map var_tree list) in
    let rest = rest_is var_tree list i t c.loop-decl-test.true c.decl-item.is in
    let Fits : List VarTree → Type 0 = λ ts. VarTypesFit (length c.args.names.now.loops.now) ts in
    let Few : List VarTree → Type 0 = λ ts. count + declared_in ts ≤ most in
    let Known : List VarTree → Type 0 = λ ts. spec.var_decls first_one n p ts ≡ whole in
    record {
      fits = (subst Fits rest c.loop-decl.invariant.fits).1;
      few = declared_more count _ most t (map var_tree (drop (i + 1) list)) c.in_ok-part.ensures.length (subst Few rest c.loop-decl.invariant.few);
      same = decls_more n p (vars_part c.in_ok-part.part) whole (var_tree t) (map var_tree (drop (i + 1) list)) c.in_ok-part.ensures.value (subst Known rest c.loop-decl.invariant.same);
    }
