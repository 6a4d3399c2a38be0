-- The questions that a call comes to, and over how many bits each of them is.
use Rattle.std.specs.Prelude.{◌≡◌, ◌⊎◌, ℕ, ◌+◌, ◌≤◌, ◌^◌, false, List}
use Rattle.svr_phase.specs.declared.choice.Choice.{Choice}
use Rattle.svr_phase.specs.Sizes.{fits_preferred, within_cap, CanMeet}
use Rattle.svr_phase.specs.Ends.{Call, question_of, ReachesCyclic, ReachesSizes}
use Rattle.svr_call.specs.declared.outcome.Query.{Query}
use Rattle.svr_call.specs.declared.outcome.Query.TheVariants as query
use Rattle.svr_call.specs.Call.{AsksValues}
use Rattle.svr_budget_laws.specs.Budget.{cyclic_bits, capped_bits, uncapped_bits, value_bits}

-- no sizes within the cap meet the hard items, so that sizes beyond it are asked for
abbrev pub NoneWithinCap : Call → List Choice → Type 0
NoneWithinCap c choices = CanMeet c.frame (question_of c choices) (within_cap c.frame (question_of c choices)) → ⊥

-- the call comes to this question, over so many bits: the next value of a cyclic property; sizes, where the preferred ones do not fit; or values, where the preferred ones do not fit
abbrev pub ComesTo : Call → Query → ℕ → Type 0
ComesTo c (query.Randc prop) n = (before : List Choice) × ReachesCyclic c before prop × (n ≡ cyclic_bits c.frame)
ComesTo c query.Size n =
    (choices : List Choice) × ReachesSizes c choices × (fits_preferred c.frame (question_of c choices) ≡ false)
    × ((n ≡ capped_bits c.frame c.cap) ⊎ (NoneWithinCap c choices × (n ≡ uncapped_bits c.frame)))
ComesTo c query.Hard n = (choices : List Choice) × (sizes : List ℕ) × AsksValues c choices sizes × (n ≡ value_bits c.frame sizes)
ComesTo c (query.Soft rank) n = (choices : List Choice) × (sizes : List ℕ) × AsksValues c choices sizes × (n ≡ value_bits c.frame sizes)

-- each question is over few bits: 2 ^ (n + 1) is at most the budget
abbrev pub AsksLittle : Call → Type 0
AsksLittle c = (q : Query) (n : ℕ) → ComesTo c q n → 2 ^ (n + 1) ≤ c.budget
