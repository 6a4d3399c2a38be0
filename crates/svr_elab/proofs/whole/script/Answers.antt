use Rattle.std.proofs.Common.{refl}
use Rattle.svr_token.specs.Names.{names_of}
use Rattle.svr_tree.specs.ScriptTree.{script_tree}
use Rattle.svr_elab_type.specs.Seen.{globals_part}
use Rattle.svr_elab_unit.specs.Seen.{vars_part}
use Rattle.svr_elab.specs.Seen.{script_part}
use Rattle.svr_elab.proofs.Counted.{heads_many, heads_fit}
use Rattle.svr_elab.proofs.Joined.{script_is}
use Rattle.svr_elab.proofs.whole.script.Goals as goal

pub joined-requires-clause-blocks : goal.joined-requires-clause-blocks
joined-requires-clause-blocks c =
    let text = names_of c.args.names in
    heads_fit text (script_tree c.args.script.now) (globals_part text c.in_ok-known.known) c.requires.order c.requires.few_blocks c.in_ok-known.ensures.value

pub joined-requires-clause-classes : goal.joined-requires-clause-classes
joined-requires-clause-classes c =
    let text = names_of c.args.names in
    heads_many text (script_tree c.args.script.now) (globals_part text c.in_ok-known.known) c.args.script.now.classes c.in_ok-known.known.classes c.requires.order c.in_ok-known.ensures.value refl refl

pub returns : goal.returns
returns c =
    let text = names_of c.args.names in
    script_is text (script_tree c.args.script.now) (globals_part text c.in_ok-known.known) (vars_part c.in_ok-vars.vars) _ (script_part c.in_ok-part.part)
    c.in_ok-part.ensures c.in_ok-known.ensures.value c.in_ok-vars.ensures.value c.in_ok-homes.ensures
