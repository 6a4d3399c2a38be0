use Rattle.std.proofs.Common.{◌<◌, ◌+◌, ◌-◌, ◌++◌, List, sym, ◌∙◌, ap, subst, arith}
use Rattle.std.specs.Prelude.{slice_index}
use Rattle.svr_frame.specs.Occurrences.{elements_from}
use Rattle.svr_expand.specs.declared.pairs.UniqueMember.{UniqueMember}
use Rattle.svr_expand.specs.declared.pairs.UniqueMember.TheVariants as operand
use Rattle.svr_expand.specs.Operands.{operand_exprs, AllReady}
use Rattle.svr_expand.proofs.Members.{ready_more, more_elements}
use Rattle.svr_expand.proofs.pairs.add_elements.Goals as goal

pub loop-at-preserved : goal.loop-at-preserved
loop-at-preserved c =
    let p = c.args.prop in
    let at = c.loop-at.at in
    let n = slice_index c.args.set.now.sizes.now p in
    let below : at < n = omega (arith, c.loop-at-test.true, c.size_at-at-end.ensures) in
    record {
      fine = λ a depth h.
          let P : List UniqueMember → Type 0 = λ xs. AllReady a depth xs in
          subst P (sym c.in_ok-push.ensures.ok) (ready_more a depth c.loop-at.out (operand.Element p at c.args.width c.args.signed) (c.loop-at.invariant.fine a depth h) tt);
      told = ap (λ xs. operand_exprs xs ++ elements_from p c.args.width c.args.signed (at + 1) (n - (at + 1))) c.in_ok-push.ensures.ok ∙ more_elements p c.args.width c.args.signed at n c.loop-at.out below ∙ c.loop-at.invariant.told;
    }
