use Rattle.std.proofs.Common.{◌≡◌, ◌+◌, List, map, drop, subst}
use Rattle.svr_token.specs.Names.{names_of}
use Rattle.svr_tree.specs.DeclTree.{VarDeclaratorTree, var_declarator_tree}
use Rattle.svr_elab_fault.specs.Refusals.{first_one}
use Rattle.svr_elab_unit.specs.Vars as spec
use Rattle.svr_elab_unit.specs.Seen.{vars_part}
use Rattle.svr_elab_unit.proofs.Forms.{rest_is, vars_more, at_most_more}
use Rattle.svr_elab_unit.proofs.vars.and_vars.Goals as goal

pub loop-declarator-preserved : goal.loop-declarator-preserved
loop-declarator-preserved c =
    let text = names_of c.args.names.now in
    let k = c.args.stand in
    let list = c.args.list.now in
    let i = c.loop-declarator.declarator-index in
    let t = c.declarator-item.result in
    let p = vars_part c.loop-declarator.known in
    let whole = spec.and_vars first_one text (vars_part c.args.part) k (map var_declarator_tree list) in
    let rest = rest_is var_declarator_tree list i t c.loop-declarator-test.true c.declarator-item.is in
    let Known : List VarDeclaratorTree → Type 0 = λ ts. spec.and_vars first_one text p k ts ≡ whole in
    record {
      same = vars_more text k p (vars_part c.in_ok-known.known) whole _ (var_declarator_tree t) (map var_declarator_tree (drop (i + 1) list)) c.in_ok-known.ensures.value c.name-spelled.ensures (subst Known rest c.loop-declarator.invariant.same);
      few = at_most_more _ _ _ i c.in_ok-known.ensures.length c.loop-declarator.invariant.few;
    }
