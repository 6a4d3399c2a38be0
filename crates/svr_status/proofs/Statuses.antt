-- No status is another.
use Rattle.std.proofs.Common.{◌≡◌}
use Rattle.svr_status.specs.declared.status.Status.TheVariants.{AllOne, SomeZero, Usage, SomeGivenUp, Refused, Limited, ReadFault, WriteFault, NoMemory}

pub one_no_read : AllOne ≡ ReadFault → ⊥
one_no_read e = cc

pub one_no_write : AllOne ≡ WriteFault → ⊥
one_no_write e = cc

pub zero_no_read : SomeZero ≡ ReadFault → ⊥
zero_no_read e = cc

pub zero_no_write : SomeZero ≡ WriteFault → ⊥
zero_no_write e = cc

pub given_no_read : SomeGivenUp ≡ ReadFault → ⊥
given_no_read e = cc

pub given_no_write : SomeGivenUp ≡ WriteFault → ⊥
given_no_write e = cc

pub given_no_usage : SomeGivenUp ≡ Usage → ⊥
given_no_usage e = cc

pub refused_no_read : Refused ≡ ReadFault → ⊥
refused_no_read e = cc

pub refused_no_write : Refused ≡ WriteFault → ⊥
refused_no_write e = cc

pub refused_no_usage : Refused ≡ Usage → ⊥
refused_no_usage e = cc

pub limited_no_read : Limited ≡ ReadFault → ⊥
limited_no_read e = cc

pub limited_no_write : Limited ≡ WriteFault → ⊥
limited_no_write e = cc

pub limited_no_usage : Limited ≡ Usage → ⊥
limited_no_usage e = cc

pub fault_no_read : WriteFault ≡ ReadFault → ⊥
fault_no_read e = cc

pub fault_no_usage : WriteFault ≡ Usage → ⊥
fault_no_usage e = cc

pub memory_no_read : NoMemory ≡ ReadFault → ⊥
memory_no_read e = cc

pub memory_no_write : NoMemory ≡ WriteFault → ⊥
memory_no_write e = cc

pub memory_no_usage : NoMemory ≡ Usage → ⊥
memory_no_usage e = cc
