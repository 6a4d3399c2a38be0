use Rattle.svr_token.specs.Names.{name_at}
use Rattle.svr_tree.specs.ScriptTree.{script_tree}
use Rattle.svr_elab_fit_laws.proofs.ReadScript.{read_script_fits}
use Rattle.svr_elab.proofs.Told.{accepts, explains}
use Rattle.svr_elab.proofs.elab.elab_script.Goals as goal

pub script-requires : goal.script-requires
script-requires c = read_script_fits c.args.text.now c.args.tokens.now (script_tree c.args.tree.now) c.requires

pub returns-in-Ok-clause-accepted : goal.returns-in-Ok-clause-accepted
returns-in-Ok-clause-accepted c =
    accepts (name_at c.args.text.now c.args.tokens.now) (script_tree c.args.tree.now) c.in-Ok.part c.judged.result c.in-Ok.ensures c.judged.ensures.clear

pub returns-in-Ok-clause-refused : goal.returns-in-Ok-clause-refused
returns-in-Ok-clause-refused c =
    explains (name_at c.args.text.now c.args.tokens.now) (script_tree c.args.tree.now) c.in-Ok.part c.judged.result c.in-Ok.ensures c.judged.ensures.told
