use Rattle.std.proofs.Common.{ap, sym}
use Rattle.svr_chain.specs.Valuations.{lit_value}
use Rattle.svr_gate.proofs.Circuits.{Tells-same}
use Rattle.svr_gate.proofs.TableLemmas.{Tells-both, Tells-either}
use Rattle.svr_eval.specs.Operator as spec
use Rattle.svr_vector.proofs.OperatorLemmas.{Tells-implies, Tells-equivalent}
use Rattle.svr_vector.proofs.operator.connected.Goals as goal

pub returns-in_ok-define-in-And-clause-value : goal.returns-in_ok-define-in-And-clause-value
returns-in_ok-define-in-And-clause-value c =
    Tells-same (λ a. spec.connective_of c.args.op (lit_value a c.args.p) (lit_value a c.args.q)) (Tells-both c.args.p c.args.q c.in_ok-define-in-And.ensures.value)
    (λ a m. ap (λ o. spec.connective_of o (lit_value a c.args.p) (lit_value a c.args.q)) (sym c.in-And.is))

pub returns-in_ok-define-in-Or-clause-value : goal.returns-in_ok-define-in-Or-clause-value
returns-in_ok-define-in-Or-clause-value c =
    Tells-same (λ a. spec.connective_of c.args.op (lit_value a c.args.p) (lit_value a c.args.q)) (Tells-either c.args.p c.args.q c.in_ok-define-in-Or.ensures.value)
    (λ a m. ap (λ o. spec.connective_of o (lit_value a c.args.p) (lit_value a c.args.q)) (sym c.in-Or.is))

pub returns-in_ok-define-in-Implies-clause-value : goal.returns-in_ok-define-in-Implies-clause-value
returns-in_ok-define-in-Implies-clause-value c =
    Tells-same (λ a. spec.connective_of c.args.op (lit_value a c.args.p) (lit_value a c.args.q)) (Tells-implies c.args.p c.args.q c.in_ok-define-in-Implies.ensures.value)
    (λ a m. ap (λ o. spec.connective_of o (lit_value a c.args.p) (lit_value a c.args.q)) (sym c.in-Implies.is))

pub returns-in_ok-define-in-Equivalent-clause-value : goal.returns-in_ok-define-in-Equivalent-clause-value
returns-in_ok-define-in-Equivalent-clause-value c =
    Tells-same (λ a. spec.connective_of c.args.op (lit_value a c.args.p) (lit_value a c.args.q)) (Tells-equivalent c.args.p c.args.q c.in_ok-define-in-Equivalent.ensures.value)
    (λ a m. ap (λ o. spec.connective_of o (lit_value a c.args.p) (lit_value a c.args.q)) (sym c.in-Equivalent.is))
