use Rattle.std.proofs.Common.{map}
use Rattle.svr_token.specs.Names.{names_of}
use Rattle.svr_elab_names.specs.Tables.{class_of}
use Rattle.svr_elab_target.proofs.Fitting.{blocks_below}
use Rattle.svr_elab_target.proofs.Chains.{place_is}
use Rattle.svr_elab_target.proofs.chain.class_block.Goals as goal

pub returns-in-None-clause-number : goal.returns-in-None-clause-number
returns-in-None-clause-number c = rw c.name-spelled.ensures at c.block_along.ensures.number

pub place_among-requires : goal.place_among-requires
place_among-requires c = blocks_below c.args.names.now c.args.class c.in-Some.own.now.keys c.requires.blocks c.in-Some.ensures

pub returns-in-Some-clause-number : goal.returns-in-Some-clause-number
returns-in-Some-clause-number c =
    place_is (map class_of c.args.names.now.classes.now) c.args.class (names_of c.args.names.now.names c.args.name) c.in-Some.own.now.keys _ c.in-Some.ensures
    (rw c.name-spelled.ensures at c.place_among.ensures)
