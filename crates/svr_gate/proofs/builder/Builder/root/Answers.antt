use Rattle.std.proofs.Common.{Bool, true, false, ◌≡◌, ◌∙◌, ap, refl, [], ◌∷◌}
use Rattle.std.proofs.lemmas.Result.{IfOk-weaker}
use Rattle.svr_chain.specs.Valuations.{lit_value}
use Rattle.svr_gate.specs.Numbers.{number, bit}
use Rattle.svr_gate.specs.Gates.{table_value}
use Rattle.svr_gate.specs.Circuit.{Tells}
use Rattle.svr_gate.proofs.NumberLemmas.{number-one}
use Rattle.svr_gate.proofs.Circuits.{Tells-same}
use Rattle.svr_gate.proofs.builder.Builder.root.Goals as goal

same : (b : Bool) → table_value 2 (bit b) ≡ b
same true = refl
same false = refl

pub returns-clause-value : goal.returns-clause-value
returns-clause-value c =
    IfOk-weaker c.fresh_gate.result
    (λ l. Tells c.fresh_gate.new.self l (λ a. table_value 2 (number a (c.args.lit ∷ []))))
    (λ l. Tells c.fresh_gate.new.self l (λ a. lit_value a c.args.lit))
    (λ l t. Tells-same (λ a. lit_value a c.args.lit) t (λ a m. ap (table_value 2) (number-one a c.args.lit) ∙ same (lit_value a c.args.lit)))
    c.fresh_gate.ensures.value
