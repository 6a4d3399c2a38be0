-- The place of an encoding that stands alone.
use Rattle.svr_phase.specs.declared.proof.Proof.{Proof}

-- it names the first place
abbrev pub at_first : Proof → Proof
at_first p = record p { encoding = 0 }
