-- The counters of cover groups over the design of a script, or why the groups are refused.
use Rattle.std.specs.Prelude.{◌≡◌, ◌<◌, ◌^◌, ⊤, ℕ, List, [], map, Some}
use Rattle.svr_token.specs.declared.token.Token.{Token}
use Rattle.svr_token.specs.Names.{name_at}
use Rattle.svr_refusal.specs.declared.place.Place.{Place}
use Rattle.svr_refusal.specs.Place.{place_of, token_start}
use Rattle.svr_typed.specs.declared.class.TClass.{TClass}
use Rattle.svr_typed.specs.declared.class.FlatClass.{FlatClass}
use Rattle.svr_typed.specs.ClassTerm.{flat_term, class_terms}
use Rattle.svr_typed.specs.StmtTerm.{DesignTerm}
use Rattle.svr_cover_text.specs.declared.text.GroupText.{GroupText}
use Rattle.svr_cover_checked.specs.declared.fault.CoverFault.{CoverFault}
use Rattle.svr_cover_checked.specs.declared.fault.CoverFault.TheVariants as e
use Rattle.svr_cover_checked.specs.Numbers.{Spelling, first_of}
use Rattle.svr_cover_checked.specs.Refusals.{refusals}
use Rattle.svr_cover_made.specs.declared.made.Made.{Made}
use Rattle.svr_cover_made.specs.Made.{IsMade}
use Rattle.svr_cover.specs.Cover.{unsampled}
use Rattle.svr_coverage.specs.Classes.{named_classes}
use Rattle.svr_coverage.specs.declared.counters.Counters.{Counters}
use Rattle.svr_coverage.specs.declared.fault.CoverageFault.{CoverageFault}
use Rattle.svr_coverage.specs.declared.fault.CoverageFault.TheVariants as fault

-- the classes of a design, and those that groups name with what they inherit
pub record HasClasses (design : DesignTerm) (text : Spelling) (groups : List GroupText) (classes : List TClass) (flats : List FlatClass) : Type 0 where
  pub same : class_terms classes ≡ design.classes
  pub inherited : map flat_term flats ≡ named_classes text classes groups

-- the counters of groups before the first sample, and what their report names
pub record AreMade (text : Spelling) (classes : List TClass) (flats : List FlatClass) (groups : List GroupText) (counters : Counters) : Type 0 where
  pub made : Made
  pub is_made : IsMade text classes flats groups made
  pub few : made.counters < 2 ^ 32
  pub cover : counters.cover ≡ unsampled made.groups made.counters
  pub names : counters.names ≡ made.names

-- nothing in the groups is refused over these classes, and these are their counters
pub record AreCounters (text : Spelling) (classes : List TClass) (flats : List FlatClass) (groups : List GroupText) (counters : Counters) : Type 0 where
  pub fine : refusals text classes flats groups ≡ []
  pub made : AreMade text classes flats groups counters

-- and over a design
pub record HasCounters (design : DesignTerm) (text : Spelling) (groups : List GroupText) (counters : Counters) : Type 0 where
  pub classes : List TClass
  pub flats : List FlatClass
  pub known : HasClasses design text groups classes flats
  pub are : AreCounters text classes flats groups counters

-- the first of these refusals has this number and this place
pub record IsFirstOf (text : List ℕ) (tokens : List Token) (rs : List CoverFault) (number : ℕ) (place : Place) : Type 0 where
  pub token : ℕ
  pub first : first_of rs ≡ Some (e.Refused number token)
  pub stands : place ≡ place_of text (token_start text tokens token)

-- that is it, or there was no memory
abbrev pub HaveFirst : List ℕ → List Token → List CoverFault → CoverageFault → Type 0
HaveFirst text tokens rs (fault.Refused number place) = IsFirstOf text tokens rs number place
HaveFirst text tokens rs fault.NoMemory = ⊤

-- the first refusal of the groups over a design has this number and this place
pub record IsFirstRefusal (design : DesignTerm) (text : List ℕ) (tokens : List Token) (groups : List GroupText) (number : ℕ) (place : Place) : Type 0 where
  pub classes : List TClass
  pub flats : List FlatClass
  pub known : HasClasses design (name_at text tokens) groups classes flats
  pub is_first : IsFirstOf text tokens (refusals (name_at text tokens) classes flats groups) number place

abbrev pub AreRefused : DesignTerm → List ℕ → List Token → List GroupText → CoverageFault → Type 0
AreRefused design text tokens groups (fault.Refused number place) = IsFirstRefusal design text tokens groups number place
AreRefused design text tokens groups fault.NoMemory = ⊤
