use Rattle.std.proofs.Common.{rules}
use Rattle.svr_token.specs.Names.{names_of}
use Rattle.svr_cover_made.proofs.OneByOne.{is-next}
use Rattle.svr_cover_made.proofs.made.put_group.Goals as goal

pub returns : goal.returns
returns c =
    is-next (names_of c.args.names) c.args.classes.now c.args.flats.now c.args.group.now c.args.made.now _ c.in_ok-plan.plan c.in_ok-one.one c.in_ok-one.named
    c.in_ok-plan.ensures c.in_ok-one.ensures.group c.in_ok-one.ensures.names (search rules) (search rules) (search rules)
