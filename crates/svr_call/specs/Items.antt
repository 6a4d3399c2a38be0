-- Answers in terms of the active items of a call (IEEE 1800-2017, 18.5 and 18.6.1)
use Rattle.std.specs.Prelude.{◌≡◌, ℕ, Bool, true, false, List, [], map}
use Rattle.svr_eval.specs.Reading.{Reading}
use Rattle.svr_eval.specs.Holds.{all_hold}
use Rattle.svr_frame.specs.declared.part.Part.TheVariants.{All}
use Rattle.svr_frame.specs.Occurrences.{is_true, all_true}
use Rattle.svr_frame.specs.Phases.{domain_items}
use Rattle.svr_phase.specs.Ends.{Call}
use Rattle.svr_call.specs.declared.outcome.Outcome.{Outcome}
use Rattle.svr_call.specs.declared.outcome.Outcome.TheVariants.{One, Zero, GaveUp, TooHeavy, SizeCap}
use Rattle.svr_call.specs.Call.{soft_items}

abbrev pub is_one : Outcome → Bool
is_one (One kept dropped cycles encodings) = true
is_one (Zero phase chosen sizes proofs encodings) = false
is_one (GaveUp query encoding log first) = false
is_one (TooHeavy weight) = false
is_one (SizeCap sizes proofs encodings) = false

-- An assignment meets every active hard item, and each random enum has one of its members. Of the live soft items just these are true.
pub record MeetsItems (c : Call) (sizes : List ℕ) (a : Reading) (fates : List Bool) : Type 0 where
  pub domains : all_true a (domain_items c.frame All sizes) ≡ true
  pub items : all_hold a [] c.frame.items ≡ true
  pub soft : map (is_true a) (soft_items c sizes) ≡ fates
