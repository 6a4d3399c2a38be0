use Rattle.svr_tree.specs.DeclTree.{var_tree}
use Rattle.std.proofs.Common.{map}
use Rattle.svr_token.specs.Names.{names_of}
use Rattle.svr_elab_names.specs.Tables.{space_of}
use Rattle.svr_elab_block.specs.Seen.{bodies_part}
use Rattle.svr_elab.proofs.Joined.{as_many_as, bodies_are, bodies_there, values_there, stmts_there}
use Rattle.svr_elab.proofs.whole.walk.Goals as goal

pub class_bodies-requires-clause-classes : goal.class_bodies-requires-clause-classes
class_bodies-requires-clause-classes c = as_many_as _ c.args.script.now.classes _ c.as_slice.ensures c.requires.classes

pub class_bodies-requires-clause-fits : goal.class_bodies-requires-clause-fits
class_bodies-requires-clause-fits c = bodies_there _ _ c.args.script.now.classes c.requires.loops c.as_slice.ensures c.requires.fits.bodies

pub run-requires-clause-declared : goal.run-requires-clause-declared
run-requires-clause-declared c = c.requires.fits.the_unit.few

pub run-requires-clause-outer : goal.run-requires-clause-outer
run-requires-clause-outer c = values_there _ (map var_tree c.args.script.now.unit.outer) c.requires.loops c.requires.fits.the_unit.outer_values

pub run-requires-clause-inner : goal.run-requires-clause-inner
run-requires-clause-inner c = values_there _ (map var_tree c.args.script.now.unit.inner) c.requires.loops c.requires.fits.the_unit.inner_values

pub run-requires-clause-fits : goal.run-requires-clause-fits
run-requires-clause-fits c = stmts_there _ c.args.script.now.unit.stmts c.requires.loops c.requires.fits.the_unit.all_stmts

pub returns-clause-bodies : goal.returns-clause-bodies
returns-clause-bodies c = bodies_are (space_of c.args.names.now) (bodies_part (names_of c.args.names.now.names) c.in_ok-bodies.bodies) _ c.args.script.now.classes c.in_ok-bodies.ensures.value c.as_slice.ensures
