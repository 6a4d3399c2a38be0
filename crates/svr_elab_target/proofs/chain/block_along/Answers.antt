use Rattle.std.proofs.Common.{map}
use Rattle.svr_elab_names.specs.Tables.{class_of, space_of}
use Rattle.svr_elab_target.proofs.Fitting.{blocks_below}
use Rattle.svr_elab_target.proofs.Chains.{place_is}
use Rattle.svr_elab_target.proofs.Kept.{of_some}
use Rattle.svr_elab_target.proofs.chain.block_along.Goals as goal

pub place_among-requires : goal.place_among-requires
place_among-requires c =
    blocks_below c.args.names.now c.args.class c.in-Some.kept.now.keys c.requires.blocks (of_some _ c.in-Some.kept _ c.in-Some.is (c.kept_names.ensures (space_of c.args.names.now) c.requires.kept))

pub returns-in-Some-clause-number : goal.returns-in-Some-clause-number
returns-in-Some-clause-number c =
    place_is (map class_of c.args.names.now.classes.now) c.args.class c.args.name.now c.in-Some.kept.now.keys _
    (of_some _ c.in-Some.kept _ c.in-Some.is (c.kept_names.ensures (space_of c.args.names.now) c.requires.kept)) c.place_among.ensures
