use Rattle.std.proofs.Common.{◌≡◌, ◌∙◌, ◌++◌, ◌-◌, ap, arith, length, take, List}
use Rattle.svr_chain.specs.declared.clause.Lit.{Lit}
use Rattle.svr_gate.specs.Numbers.{number}
use Rattle.svr_arith.proofs.DivisionLemmas.{short_value}
use Rattle.svr_arith.proofs.division.shortened.Goals as goal

pub returns-clause-value : goal.returns-clause-value
returns-clause-value c = λ a m h.
    let x = c.args.x.now in
    let zs = c.in_ok-zeros.zeros.items in
    let made : c.extend_from_slice.new.self.items ≡ take c.args.bits x ++ zs
    = c.in_ok-extend_from_slice.ensures.items ∙ ap (λ (ls : List Lit). ls ++ c.deref.result.now) c.in_ok-short.ensures.items ∙ ap (λ (ls : List Lit). take c.args.bits x ++ ls) c.deref.ensures.value in
    ap (number a) made
    ∙ short_value a x zs c.args.bits (length x - c.args.bits) m c.in_ok-zeros.ensures.value (omega (arith, c.if-x-bits.false)) h
