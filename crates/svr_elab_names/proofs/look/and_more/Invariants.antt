use Rattle.std.proofs.Common.{◌≡◌, drop}
use Rattle.svr_token.specs.Names.{names_of}
use Rattle.svr_elab_names.specs.Names.{and_more}
use Rattle.svr_elab_names.proofs.look.and_more.Given as goal

abbrev pub invariant-loop-name : goal.invariant-loop-name
invariant-loop-name l = and_more (names_of l.names) l.meaning l.last (drop l.name-index l.rest) ≡ and_more (names_of l.names) l.fn.start l.first l.rest
