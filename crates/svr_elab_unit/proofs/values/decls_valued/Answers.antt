use Rattle.std.proofs.Common.{◌≡◌, ◌≤◌, ◌+◌, List, map, drop, length, subst, ap, ◌∙◌}
use Rattle.svr_tree.specs.DeclTree.{VarTree, var_tree}
use Rattle.svr_elab_fault.specs.Refusals.{first_one}
use Rattle.svr_elab_names.specs.Tables.{space_of}
use Rattle.svr_elab_unit.specs.Vars as spec
use Rattle.svr_elab_unit.specs.Seen.{valued_part}
use Rattle.svr_elab_unit.specs.Fits.{VarValuesFit, declared_in}
use Rattle.svr_elab_unit.proofs.Forms.{rest_is, declared_more, values_end}
use Rattle.svr_elab_unit.proofs.values.decls_valued.Goals as goal

pub loop-decl-preserved : goal.loop-decl-preserved
loop-decl-preserved c =
    let n = space_of c.args.names.now in
    let list = c.args.list.now in
    let i = c.loop-decl.decl-index in
    let t = c.decl-item.result in
    let at = c.loop-decl.place in
    let p = valued_part c.loop-decl.made.keys c.loop-decl.part in
    let count = length c.loop-decl.part.vars.entries in
    let most = length c.args.start.vars.entries + declared_in (map var_tree list) in
    let whole = spec.decls_valued first_one n (valued_part c.args.made.now.keys c.args.start) c.args.stands.now (map var_tree list) in
    let rest = rest_is var_tree list i t c.loop-decl-test.true c.decl-item.is in
    let Fits : List VarTree → Type 0 = λ ts. VarValuesFit (length c.args.names.now.loops.now) ts in
    let Few : List VarTree → Type 0 = λ ts. count + declared_in ts ≤ most in
    let Known : List VarTree → Type 0 = λ ts. spec.decls_valued first_one n p (drop at c.args.stands.now) ts ≡ whole in
    record {
      place = ap (λ k. k + 1) c.loop-decl.invariant.place;
      fits = (subst Fits rest c.loop-decl.invariant.fits).1;
      few = declared_more count _ most t (map var_tree (drop (i + 1) list)) c.in_ok-part.ensures.length (subst Few rest c.loop-decl.invariant.few);
      most = c.in_ok-part.ensures.most;
      same = c.in_ok-part.ensures.value (map var_tree (drop (i + 1) list)) ∙ subst Known rest c.loop-decl.invariant.same;
    }

pub returns-clause-value : goal.returns-clause-value
returns-clause-value c =
    values_end (space_of c.args.names.now) (valued_part c.loop-decl.made.keys c.loop-decl.part) _ c.args.list.now c.loop-decl.decl-index _ c.loop-decl-test.false c.loop-decl.invariant.same
