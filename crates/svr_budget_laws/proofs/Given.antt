-- A question is given up only over many bits.
use Rattle.std.proofs.Common.{◌≡◌, inl, inr, ℕ, ◌+◌, ◌<◌, ◌≤◌, ◌^◌, Bool, true, false, List, refl, sym, ◌∙◌, subst, arith}
use Rattle.std.specs.Prelude.{nat_lt}
use Rattle.std.proofs.Math.Pow.{pow_mono}
use Rattle.std.proofs.lemmas.Bool.Decides.{nat_tests}
use Rattle.svr_chain.specs.Views.{RefutationView}
use Rattle.svr_world.specs.World.{WorldTerm}
use Rattle.svr_frame.specs.declared.part.Part.{Part}
use Rattle.svr_frame.specs.declared.part.Part.TheVariants.{Randc, Sizes, All as Whole}
use Rattle.svr_frame.specs.Frame.{FrameTerm}
use Rattle.svr_frame.specs.Occurrences.{Occurrence}
use Rattle.svr_encoded.specs.declared.encoded.Encoded.{Encoded}
use Rattle.svr_phase.specs.declared.choice.Choice.{Choice}
use Rattle.svr_phase.specs.declared.options.Options.{Options}
use Rattle.svr_phase.specs.Spent.{bit_count, IsSpent}
use Rattle.svr_phase.specs.Sizes.{fits_preferred, cap_bits}
use Rattle.svr_phase.specs.Ends.{Call, question_of, ReachesSizes, SizesAreSpent, with_soft, hard_alone, beyond}
use Rattle.svr_call.specs.declared.outcome.Query.{Query}
use Rattle.svr_call.specs.declared.outcome.Query.TheVariants as query
use Rattle.svr_call.specs.declared.outcome.Outcome.{Outcome}
use Rattle.svr_call.specs.declared.outcome.Outcome.TheVariants.{One, Zero, GaveUp, TooHeavy, SizeCap}
use Rattle.svr_call.specs.Call.{GivesUp, CallStep, call_of}
use Rattle.svr_budget_laws.specs.Budget.{bits_in, AreBitsOf, GivesUpOverMany}
use Rattle.svr_budget_laws.specs.Questions.{ComesTo, AsksLittle}
use Rattle.svr_budget_laws.proofs.Bits.{bits_counted, cyclic_counted, values_counted}

module _ (c : Call) where
  -- a spent question has the bits of its phase, and these are many
  spent_bits : (part : Part) (sizes : List ℕ) (k : ℕ) (asked : List Occurrence) (e : Encoded) (log : RefutationView) (first : ℕ) → IsSpent c.frame c.budget part sizes k asked e log first
      → (bits_in e ≡ bit_count c.frame part sizes k) × (c.budget < 2 ^ (bits_in e + 1))
  spent_bits part sizes k asked e log first is =
      let same = bits_counted c.frame part sizes k asked e is.encodes in
      (same, subst (λ (n : ℕ). c.budget < 2 ^ (n + 1)) (sym same) is.many)

  sizes_given_up : (choices : List Choice) (e : Encoded) (log : RefutationView) (first : ℕ) → ReachesSizes c choices → fits_preferred c.frame (question_of c choices) ≡ false
      → SizesAreSpent c.frame c.budget (question_of c choices) e log first → ComesTo c query.Size (bits_in e) × (c.budget < 2 ^ (bits_in e + 1))
  sizes_given_up choices e log first reached unfit (with_soft is) =
      let bits = spent_bits Sizes c.frame.state.sizes (cap_bits c.cap) _ e log first is in
      ((choices, reached, unfit, inl bits.0), bits.1)
  sizes_given_up choices e log first reached unfit (hard_alone is) =
      let bits = spent_bits Sizes c.frame.state.sizes (cap_bits c.cap) _ e log first is in
      ((choices, reached, unfit, inl bits.0), bits.1)
  sizes_given_up choices e log first reached unfit (beyond none is) =
      let bits = spent_bits Sizes c.frame.state.sizes 32 _ e log first is in
      ((choices, reached, unfit, inr (none, bits.0)), bits.1)

  -- what is given up is a question that the call comes to, over the bits of its encoding, which are many
  pub given_up : (q : Query) (e : Encoded) (log : RefutationView) (first : ℕ) → GivesUp c q e log first → ComesTo c q (bits_in e) × (c.budget < 2 ^ (bits_in e + 1))
  given_up (query.Randc prop) e log first is =
      let bits = spent_bits Randc c.frame.state.sizes is.size_bits _ e log first is.spent in
      ((is.before, is.reached, bits.0 ∙ cyclic_counted c.frame is.size_bits), bits.1)
  given_up query.Size e log first is = sizes_given_up is.choices e log first is.reached is.not_preferred is.spent
  given_up query.Hard e log first is =
      let bits = spent_bits Whole is.sizes is.size_bits _ e log first is.spent in
      ((is.choices, is.sizes, is.asks, bits.0 ∙ values_counted c.frame is.sizes is.size_bits), bits.1)
  given_up (query.Soft rank) e log first is =
      let bits = spent_bits Whole is.sizes is.size_bits _ e log first is.spent in
      ((is.choices, is.sizes, is.asks, bits.0 ∙ values_counted c.frame is.sizes is.size_bits), bits.1)

  -- where all questions are small, none is given up
  pub none_given_up : AsksLittle c → (q : Query) (e : Encoded) (log : RefutationView) (first : ℕ) → GivesUp c q e log first → ⊥
  none_given_up little q e log first is =
      let question = given_up q e log first is in
      let few : 2 ^ (bits_in e + 1) ≤ c.budget = little q (bits_in e) question.0 in
      let many : c.budget < 2 ^ (bits_in e + 1) = question.1 in
      absurd (omega (arith, few, many))

  -- the bits are those of the unknowns of the question
  bits_of_question : (q : Query) (n : ℕ) → ComesTo c q n → AreBitsOf c.frame c.cap q n
  bits_of_question (query.Randc prop) n comes = comes.2
  bits_of_question query.Size n comes = elim (comes.3) [
    | inl within ↦ inl within
    | inr outside ↦ inr outside.1
  ]
  bits_of_question query.Hard n comes = (comes.1, comes.3)
  bits_of_question (query.Soft rank) n comes = (comes.1, comes.3)

  pub over_many : (q : Query) (e : Encoded) (log : RefutationView) (first : ℕ) → GivesUp c q e log first → AreBitsOf c.frame c.cap q (bits_in e) × (c.budget < 2 ^ (bits_in e + 1))
  over_many q e log first is =
      let question = given_up q e log first is in
      (bits_of_question q (bits_in e) question.0, question.1)

-- so is each call
pub step_over_many : (w : WorldTerm) (o : ℕ) (f : FrameTerm) (number : ℕ) (opts : Options) (outcome : Outcome) (w2 : WorldTerm) → CallStep w o f number opts outcome w2 → GivesUpOverMany f opts outcome
step_over_many w o f number opts (One kept dropped cycles encodings) w2 step = tt
step_over_many w o f number opts (Zero phase chosen sizes proofs encodings) w2 step = tt
step_over_many w o f number opts (GaveUp q e log first) w2 step = over_many (call_of w o f number opts) q e log first step.0
step_over_many w o f number opts (TooHeavy weight) w2 step = tt
step_over_many w o f number opts (SizeCap sizes proofs encodings) w2 step = tt

-- 2 ^ 17 steps are enough for 16 bits
pub above_sixteen : (n budget : ℕ) → 131072 ≤ budget → budget < 2 ^ (n + 1) → 16 < n
above_sixteen n budget enough many = by_test (nat_lt 16 n) refl
  where
    by_test : (b : Bool) → nat_lt 16 n ≡ b → 16 < n
    by_test true more = grind (arith, nat_tests, more)
    by_test false few =
        let low : n + 1 ≤ 17 = grind (arith, nat_tests, few) in
        let most : 2 ^ (n + 1) ≤ 2 ^ 17 = pow_mono {i = n + 1} {j = 17} low in
        absurd (omega (arith, enough, many, most))
