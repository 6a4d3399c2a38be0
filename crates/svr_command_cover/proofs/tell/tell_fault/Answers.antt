use Rattle.std.proofs.Common.{refl, arith}
use Rattle.std.proofs.KnownBytes.{Keeps-refl}
use Rattle.svr_command_cover.proofs.tell.tell_fault.Goals as goal

pub returns-in-Refused : goal.returns-in-Refused
returns-in-Refused g c = rw c.in-Refused.is c.refused.ensures

pub returns-in-NoMemory : goal.returns-in-NoMemory
returns-in-NoMemory g c = rw c.in-NoMemory.is (refl, Keeps-refl _, omega arith)
