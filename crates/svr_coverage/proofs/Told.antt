-- What is told of groups over a design.
use Rattle.std.proofs.Common.{◌≡◌, ℕ, List, [], Result, Ok, Err, IfOk, IfErr, IsErrAnd, sym, subst}
use Rattle.svr_token.specs.declared.token.Token.{Token}
use Rattle.svr_token.specs.Names.{name_at}
use Rattle.svr_typed.specs.declared.class.TClass.{TClass}
use Rattle.svr_typed.specs.declared.class.FlatClass.{FlatClass}
use Rattle.svr_typed.specs.StmtTerm.{DesignTerm}
use Rattle.svr_cover_text.specs.declared.text.GroupText.{GroupText}
use Rattle.svr_cover_checked.specs.declared.fault.CoverFault.{CoverFault}
use Rattle.svr_cover_checked.specs.Numbers.{Spelling}
use Rattle.svr_cover_checked.specs.Refusals.{refusals}
use Rattle.svr_coverage.specs.declared.counters.Counters.{Counters as CountersType}
use Rattle.svr_coverage.specs.declared.fault.CoverageFault.{CoverageFault}
use Rattle.svr_coverage.specs.declared.fault.CoverageFault.TheVariants as fault
use Rattle.svr_coverage.specs.Counters.{HasClasses, AreMade, AreCounters, HasCounters, HaveFirst, AreRefused}

-- what is known of a fault
pub failed_as : {T E : Type 0} (r : Result T E) (P Q : E → Type 0) → IsErrAnd r P → ((y : E) → P y → Q y) → IfErr r Q
failed_as (Ok x) P Q h f = absurd h
failed_as (Err y) P Q h f = f y h

-- nothing is refused
pub fine_counters : (text : Spelling) (classes : List TClass) (flats : List FlatClass) (groups : List GroupText) (r : Result CountersType CoverageFault)
    → refusals text classes flats groups ≡ [] → IfOk r (AreMade text classes flats groups) → IfOk r (AreCounters text classes flats groups)
fine_counters text classes flats groups (Ok c) fine made = record { fine = fine; made = made }
fine_counters text classes flats groups (Err e) fine made = tt

-- memory was wanting
pub memory_refused : (text : List ℕ) (tokens : List Token) (rs : List CoverFault) (r : Result CountersType CoverageFault) → IfErr r (λ e. e ≡ fault.NoMemory) → IfErr r (HaveFirst text tokens rs)
memory_refused text tokens rs (Ok c) h = tt
memory_refused text tokens rs (Err e) h = subst (λ (x : CoverageFault). HaveFirst text tokens rs x) (sym h) tt

module _ (design : DesignTerm) (classes : List TClass) (flats : List FlatClass) (groups : List GroupText) where
  -- what is told of groups over classes is told of them over the design that has these
  pub over_design : (text : Spelling) (r : Result CountersType CoverageFault) → HasClasses design text groups classes flats
      → IfOk r (AreCounters text classes flats groups) → IfOk r (HasCounters design text groups)
  over_design text (Ok c) known are = record { classes = classes; flats = flats; known = known; are = are }
  over_design text (Err e) known are = tt

  pub refused_over_design : (text : List ℕ) (tokens : List Token) (r : Result CountersType CoverageFault) → HasClasses design (name_at text tokens) groups classes flats
      → IfErr r (HaveFirst text tokens (refusals (name_at text tokens) classes flats groups)) → IfErr r (AreRefused design text tokens groups)
  refused_over_design text tokens (Ok c) known first = tt
  refused_over_design text tokens (Err (fault.Refused number place)) known first = record { classes = classes; flats = flats; known = known; is_first = first }
  refused_over_design text tokens (Err fault.NoMemory) known first = tt
