use Rattle.std.proofs.Common.{◌≡◌, [], length}
use Rattle.svr_token.specs.Names.{names_of}
use Rattle.svr_cover_made.specs.Named.{with_all_names}
use Rattle.svr_cover_made.proofs.named.all_names.Given as goal

abbrev pub invariant-bins : goal.invariant-bins
invariant-bins l = with_all_names (names_of l.texts) l.names l.left ≡ with_all_names (names_of l.texts) [] l.bins

abbrev pub decreases-bins : goal.decreases-bins
decreases-bins l = length l.left
