use Rattle.std.proofs.Common.{◌≡◌, ◌+◌, List, map, drop, subst}
use Rattle.svr_tree.specs.DeclTree.{DeclaratorTree, declarator_tree}
use Rattle.svr_elab_fault.specs.Refusals.{first_one}
use Rattle.svr_elab_decl.specs.Fits.{DeclaratorsFit}
use Rattle.svr_elab_decl.specs.Seen.{used_of}
use Rattle.svr_elab_class.specs.Classes as spec
use Rattle.svr_elab_class.specs.Seen.{head_of, class_part}
use Rattle.svr_elab_class.proofs.Forms.{rest_is, declarators_more}
use Rattle.svr_elab_class.proofs.property.declarators.Goals as goal

pub loop-decl-preserved : goal.loop-decl-preserved
loop-decl-preserved c =
    let h = head_of c.args.head.now in
    let r = c.args.rand in
    let u = used_of c.args.used in
    let list = c.args.list.now in
    let i = c.loop-decl.decl-index in
    let t = c.decl-item.result in
    let p = class_part c.loop-decl.part in
    let whole = spec.declarators first_one h (class_part c.args.start) r u (map declarator_tree list) in
    let rest = rest_is declarator_tree list i t c.loop-decl-test.true c.decl-item.is in
    let Fits : List DeclaratorTree → Type 0 = λ ts. DeclaratorsFit 0 ts in
    let Known : List DeclaratorTree → Type 0 = λ ts. spec.declarators first_one h p r u ts ≡ whole in
    record {
      fits = (subst Fits rest c.loop-decl.invariant.fits).1;
      known = declarators_more h r u p (class_part c.in_ok-part.part) whole (declarator_tree t) (map declarator_tree (drop (i + 1) list)) c.in_ok-part.ensures (subst Known rest c.loop-decl.invariant.known);
    }
