use Rattle.std.proofs.Common.{map}
use Rattle.svr_elab_names.specs.Tables.{space_of, var_of}
use Rattle.svr_elab.proofs.Joined.{space_of_all}
use Rattle.svr_elab.proofs.whole.whole_space.Goals as goal

pub returns-clause-space : goal.returns-clause-space
returns-clause-space c =
    space_of_all (space_of c.stmt_space.result) (space_of c.declaring-outside.result) _ (map var_of c.args.vars.now.entries) c.stmt_space.ensures.space c.declaring-outside.ensures.space
