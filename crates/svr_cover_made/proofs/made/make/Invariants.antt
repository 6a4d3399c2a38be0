use Rattle.std.proofs.Common.{length}
use Rattle.svr_token.specs.Names.{names_of}
use Rattle.svr_cover_made.proofs.OneByOne.{HasLeft}
use Rattle.svr_cover_made.proofs.made.make.Given as goal

abbrev pub invariant-groups : goal.invariant-groups
invariant-groups l = HasLeft (names_of l.names) l.classes l.flats l.groups l.left l.made

abbrev pub decreases-groups : goal.decreases-groups
decreases-groups l = length l.left
