use Rattle.std.proofs.Common.{◌≡◌, ◌+◌, List, map, drop, length, subst}
use Rattle.svr_tree.specs.DeclTree.{VarDeclaratorTree, var_declarator_tree}
use Rattle.svr_elab_fault.specs.Refusals.{first_one}
use Rattle.svr_elab_names.specs.Tables.{space_of}
use Rattle.svr_elab_unit.specs.Vars as spec
use Rattle.svr_elab_unit.specs.Seen.{valued_part}
use Rattle.svr_elab_unit.specs.Fits.{InitsFit}
use Rattle.svr_elab_unit.proofs.Forms.{rest_is, valued_more, at_most_more}
use Rattle.svr_elab_unit.proofs.values.all_valued.Goals as goal

pub loop-declarator-preserved : goal.loop-declarator-preserved
loop-declarator-preserved c =
    let n = space_of c.args.names.now in
    let k = c.args.stand in
    let list = c.args.list.now in
    let i = c.loop-declarator.declarator-index in
    let t = c.declarator-item.result in
    let p = valued_part c.loop-declarator.made.keys c.loop-declarator.part in
    let whole = spec.all_valued first_one n (valued_part c.args.made.now.keys c.args.start) k (map var_declarator_tree list) in
    let rest = rest_is var_declarator_tree list i t c.loop-declarator-test.true c.declarator-item.is in
    let Fits : List VarDeclaratorTree → Type 0 = λ ts. InitsFit (length c.args.names.now.loops.now) ts in
    let Known : List VarDeclaratorTree → Type 0 = λ ts. spec.all_valued first_one n p k ts ≡ whole in
    record {
      fits = (subst Fits rest c.loop-declarator.invariant.fits).1;
      few = at_most_more _ _ _ i c.in_ok-part.ensures.length c.loop-declarator.invariant.few;
      most = c.in_ok-part.ensures.most;
      same = valued_more n k p _ whole (var_declarator_tree t) (map var_declarator_tree (drop (i + 1) list)) c.in_ok-part.ensures.value (subst Known rest c.loop-declarator.invariant.same);
    }
