use Rattle.std.proofs.Common.{refl, sym, subst}
use Rattle.svr_cover_text.specs.Tokens.{HaveFault}
use Rattle.svr_cover_text.specs.declared.fault.GroupsFault.TheVariants.{Unexpected}
use Rattle.svr_coverage.specs.declared.fault.CoverageFault.{CoverageFault}
use Rattle.svr_coverage.specs.Front.{by_token, HasNoFront}
use Rattle.svr_coverage.proofs.front.groups_of.Goals as goal

pub returns-in-Ok-clause-groups : goal.returns-in-Ok-clause-groups
returns-in-Ok-clause-groups c = record { tokenized = c.requires.tokens; written = c.in-Ok.ensures.groups }

pub returns-in-Err-Unexpected-clause-fault : goal.returns-in-Err-Unexpected-clause-fault
returns-in-Err-Unexpected-clause-fault c =
    let first : HaveFault c.args.text.now c.args.tokens.now (Unexpected c.in-Err-Unexpected.token) = rw c.in-Err-Unexpected.field-0-is at c.in-Err-Unexpected.ensures.fault in
    subst (λ (e : CoverageFault). HasNoFront c.args.text.now e) (sym c.at_token.ensures) (by_token c.args.tokens.now c.in-Err-Unexpected.token c.requires.tokens first c.number.ensures refl)
