use Rattle.std.proofs.Common.{map}
use Rattle.svr_elab_names.specs.Tables.{class_of, space_of}
use Rattle.svr_elab_target.proofs.Fitting.{blocks_below}
use Rattle.svr_elab_target.proofs.Chains.{place_is}
use Rattle.svr_elab_target.proofs.chain.block_made.Goals as goal

pub place_among-place-requires : goal.place_among-place-requires
place_among-place-requires c = blocks_below c.args.names.now c.args.class c.in_ok-made.made.keys c.requires.blocks c.in_ok-made.ensures

pub returns-clause-number : goal.returns-clause-number
returns-clause-number c = place_is (map class_of c.args.names.now.classes.now) c.args.class c.args.name.now c.in_ok-made.made.keys _ c.in_ok-made.ensures c.place_among-place.ensures

pub returns-clause-kept : goal.returns-clause-kept
returns-clause-kept c = c.keep.ensures (space_of c.args.names.now) c.requires.kept c.in_ok-made.ensures

pub returns-in_err-keep-clause-kept : goal.returns-in_err-keep-clause-kept
returns-in_err-keep-clause-kept c = c.keep.ensures (space_of c.args.names.now) c.requires.kept c.in_ok-made.ensures
