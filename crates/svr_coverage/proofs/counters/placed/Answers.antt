use Rattle.std.proofs.Common.{refl, sym, subst, ◌≡◌, Some}
use Rattle.svr_cover_checked.specs.declared.fault.CoverFault.{CoverFault}
use Rattle.svr_cover_checked.specs.declared.fault.CoverFault.TheVariants.{Refused}
use Rattle.svr_cover_checked.specs.Numbers.{first_of}
use Rattle.svr_cover_checked.specs.Refusals.{IsFirst}
use Rattle.svr_coverage.specs.declared.fault.CoverageFault.{CoverageFault}
use Rattle.svr_coverage.specs.Counters.{HaveFirst}
use Rattle.svr_coverage.proofs.counters.placed.Goals as goal

pub returns-in-Refused : goal.returns-in-Refused
returns-in-Refused c = λ rs is.
    let first : first_of rs ≡ Some (Refused c.in-Refused.number c.in-Refused.token) = subst (λ (f : CoverFault). IsFirst f rs) c.in-Refused.is is in
    subst (λ (e : CoverageFault). HaveFirst c.args.text.now c.args.tokens.now rs e) (sym c.at_token.ensures) (record { token = c.in-Refused.token; first = first; stands = refl })

pub returns-in-NoMemory : goal.returns-in-NoMemory
returns-in-NoMemory c = λ rs is. tt
