use Rattle.std.proofs.Common.{rules}
use Rattle.std.proofs.lemmas.List.{nil_from_length}
use Rattle.svr_token.specs.Names.{names_of}
use Rattle.svr_cover_made.proofs.OneByOne.{first-left, next-left, all-left}
use Rattle.svr_cover_made.proofs.made.make.Goals as goal

pub groups-init : goal.groups-init
groups-init c = first-left (names_of c.args.names) c.args.classes.now c.args.flats.now c.args.groups.now _ (search rules) (search rules) (search rules)

pub groups-preserved : goal.groups-preserved
groups-preserved c = next-left (names_of c.args.names) c.args.classes.now c.args.flats.now c.args.groups.now c.groups.left.now c.groups.made _ c.in-Some.group.now c.in-Some.others.now c.in-Some.ensures.cases.0 c.in_ok-put_group.ensures c.groups.invariant

pub returns : goal.returns
returns c = all-left (names_of c.args.names) c.args.classes.now c.args.flats.now c.args.groups.now c.groups.left.now c.groups.made (nil_from_length c.groups.left.now c.in_default.ensures.cases) c.groups.invariant
