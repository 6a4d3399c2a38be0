use Rattle.std.proofs.Common.{◌≡◌, replicate, sym, subst, List}
use Rattle.std.proofs.lemmas.Result.{IfOk-weaker}
use Rattle.svr_chain.specs.declared.clause.Lit.{Lit}
use Rattle.svr_gate.specs.Circuit.{GivesNumber}
use Rattle.svr_gate.proofs.Vectors.{GivesNumber-zeros}
use Rattle.svr_arith.proofs.adder.zeros.Goals as goal

pub returns-clause-value : goal.returns-clause-value
returns-clause-value c =
    IfOk-weaker c.repeated.result
    (λ v. v.items ≡ replicate c.args.count c.in_ok-zero.zero)
    (λ v. GivesNumber c.never.new.b v.items c.args.count (λ a. 0))
    (λ v e. subst (λ (ls : List Lit). GivesNumber c.never.new.b ls c.args.count (λ a. 0)) (sym e) (GivesNumber-zeros c.args.count c.in_ok-zero.ensures.value))
    c.repeated.ensures
