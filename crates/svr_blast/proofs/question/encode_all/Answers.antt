use Rattle.std.proofs.Common.{arith, ◌∙◌, ap, map}
use Rattle.std.proofs.lemmas.List.{take_all}
use Rattle.svr_typed.specs.ExprTerm.{expr_term}
use Rattle.svr_gate.proofs.Circuits.{later, Extends-trans}
use Rattle.svr_inputs.specs.Inputs.{read_at}
use Rattle.svr_encoded.specs.Encodes.{holds}
use Rattle.svr_encoded.proofs.EncodedLemmas.{tells_more, rising_more}
use Rattle.svr_blast.proofs.question.encode_all.Goals as goal

pub returns-in_err-told-clause-extends : goal.returns-in_err-told-clause-extends
returns-in_err-told-clause-extends c = search later

pub returns-in_err-root-clause-extends : goal.returns-in_err-root-clause-extends
returns-in_err-root-clause-extends c = search later

pub returns-in_err-push-clause-extends : goal.returns-in_err-push-clause-extends
returns-in_err-push-clause-extends c = search later

pub loop-item-preserved : goal.loop-item-preserved
loop-item-preserved c = record {
  extends = Extends-trans c.loop-item.invariant.extends (Extends-trans c.encode_test.ensures.extends c.root.ensures.extends);
  roots = rw c.in_ok-push.ensures.items
      (tells_more (read_at c.args.inputs.now) c.args.items.now c.loop-item.item-index c.item-item.result c.loop-item.roots.items c.in_ok-told.told c.in_ok-root.root (omega arith) c.item-item.is
      c.encode_test.ensures.extends c.root.ensures.extends c.loop-item.invariant.roots c.in_ok-told.ensures.value c.in_ok-root.ensures.value);
  apart = rw c.in_ok-push.ensures.items
      (rising_more c.args.b.now.vars c.loop-item.b.vars c.loop-item.roots.items c.in_ok-root.root c.root.new.self.vars c.loop-item.invariant.apart
      (rw c.in_ok-root.ensures.fresh (omega (arith, c.in_ok-root.ensures.vars, c.encode_test.ensures.extends.vars))) (rw c.in_ok-root.ensures.fresh (omega arith)));
}

pub returns-clause-roots : goal.returns-clause-roots
returns-clause-roots c = λ v m. c.loop-item.invariant.roots v m ∙ ap (λ es. map (λ e. holds (read_at c.args.inputs.now v) e) (map expr_term es)) (take_all c.loop-item.item-index c.args.items.now (omega arith))
