use Rattle.std.proofs.Common.{◌==◌, ◌∙◌, refl}
use Rattle.std.specs.List.{list_all}
use Rattle.svr_weight.specs.Examples.{Case, cases}
use Rattle.svr_weight.proofs.Domains.{phase_weighed}
use Rattle.svr_weight.proofs.examples.weights_are_as_worked_out.Goals as goal

pub returns : goal.returns
returns c = (λ k. list_all (λ (x : Case). phase_weighed x.frame x.part x.sizes k == x.weight) cases) ∙ refl
