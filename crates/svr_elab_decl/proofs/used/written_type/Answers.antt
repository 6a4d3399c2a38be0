use Rattle.svr_elab_type.specs.Seen.{type_part}
use Rattle.svr_elab_decl.proofs.Forms.{numbers_are}
use Rattle.svr_elab_decl.proofs.used.written_type.Goals as goal

pub returns-clause-value : goal.returns-clause-value
returns-clause-value c = numbers_are (type_part c.in_ok-part.part) _ c.in_ok-part.ensures.value
