use Rattle.svr_elab_lawful_laws.proofs.Declarations.{variables_are_lawful, variables_are_few}
use Rattle.svr_elab_lawful_laws.proofs.law.variables_are_lawful.Goals as goal

pub returns-clause-kinds : goal.returns-clause-kinds
returns-clause-kinds c = variables_are_lawful

pub returns-clause-few : goal.returns-clause-few
returns-clause-few c = variables_are_few
