use Rattle.svr_elab_part.specs.Seen.{part_of}
use Rattle.svr_elab_decl.proofs.Forms.{number_is, fault_is}
use Rattle.svr_elab_decl.proofs.initial.written_value.Goals as goal

pub returns-clause-number : goal.returns-clause-number
returns-clause-number c = number_is c.args.kind c.first_value.result (part_of c.in_ok-part.part) _ c.first_value.ensures c.in_ok-part.ensures

pub returns-clause-fault : goal.returns-clause-fault
returns-clause-fault c = fault_is c.args.name c.args.dims c.args.kind c.first_fault.result (part_of c.in_ok-part.part) _ c.first_fault.ensures c.in_ok-part.ensures
