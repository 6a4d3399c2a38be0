use Rattle.std.proofs.Common.{◌≡◌, ◌-◌, ◌++◌, List, length, replicate, ap, sym, subst, ◌∙◌}
use Rattle.svr_chain.specs.declared.clause.Lit.{Lit}
use Rattle.svr_gate.specs.Numbers.{number}
use Rattle.svr_gate.specs.Circuit.{GivesNumber}
use Rattle.svr_num.specs.Num.{extend_of}
use Rattle.svr_gate.proofs.Circuits.{AreWithin-later}
use Rattle.svr_shape.proofs.ExtensionLemmas.{extended}
use Rattle.svr_shape.proofs.extension.extend.Goals as goal

pub returns-clause-value : goal.returns-clause-value
returns-clause-value c =
    let items : c.extend_from_slice.new.self.items ≡ c.args.x.now ++ replicate (c.args.width - length c.args.x.now) c.in_ok-fill.fill
    = c.in_ok-extend_from_slice.ensures.items
    ∙ ap (λ ls. ls ++ c.deref.result.now) c.in_ok-extended.ensures.items
    ∙ ap (λ ls. c.args.x.now ++ ls) (c.deref.ensures.value ∙ c.in_ok-filled.ensures) in
    subst (λ (ls : List Lit). GivesNumber c.filler.new.b ls c.args.width (λ a. extend_of c.args.signed c.args.width (length c.args.x.now) (number a c.args.x.now))) (sym items)
    (extended c.filler.new.b c.args.x.now c.in_ok-fill.fill c.args.signed c.args.width c.requires.some c.requires.width (AreWithin-later c.args.x.now c.filler.ensures.extends c.requires.within) c.in_ok-fill.ensures.value)
