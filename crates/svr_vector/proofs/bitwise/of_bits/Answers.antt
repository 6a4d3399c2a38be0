use Rattle.std.proofs.Common.{ap, sym}
use Rattle.svr_chain.specs.Valuations.{lit_value}
use Rattle.svr_gate.proofs.Circuits.{Tells-same}
use Rattle.svr_gate.proofs.TableLemmas.{Tells-both, Tells-either, Tells-unequal}
use Rattle.svr_vector.specs.Bitwise.{bit_gate}
use Rattle.svr_vector.proofs.bitwise.of_bits.Goals as goal

pub returns-in_ok-define-in-Both-clause-value : goal.returns-in_ok-define-in-Both-clause-value
returns-in_ok-define-in-Both-clause-value c =
    Tells-same (λ a. bit_gate c.args.op (lit_value a c.args.p) (lit_value a c.args.q)) (Tells-both c.args.p c.args.q c.in_ok-define-in-Both.ensures.value)
    (λ a m. ap (λ o. bit_gate o (lit_value a c.args.p) (lit_value a c.args.q)) (sym c.in-Both.is))

pub returns-in_ok-define-in-Either-clause-value : goal.returns-in_ok-define-in-Either-clause-value
returns-in_ok-define-in-Either-clause-value c =
    Tells-same (λ a. bit_gate c.args.op (lit_value a c.args.p) (lit_value a c.args.q)) (Tells-either c.args.p c.args.q c.in_ok-define-in-Either.ensures.value)
    (λ a m. ap (λ o. bit_gate o (lit_value a c.args.p) (lit_value a c.args.q)) (sym c.in-Either.is))

pub returns-in_ok-define-in-Unequal-clause-value : goal.returns-in_ok-define-in-Unequal-clause-value
returns-in_ok-define-in-Unequal-clause-value c =
    Tells-same (λ a. bit_gate c.args.op (lit_value a c.args.p) (lit_value a c.args.q)) (Tells-unequal c.args.p c.args.q c.in_ok-define-in-Unequal.ensures.value)
    (λ a m. ap (λ o. bit_gate o (lit_value a c.args.p) (lit_value a c.args.q)) (sym c.in-Unequal.is))
