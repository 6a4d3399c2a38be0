-- Each run that has ended has just one ending, and each of its calls is counted once.
use Rattle.std.proofs.Common.{◌≡◌, ℕ, zero, suc, ◌+◌, Bool, true, false, cond, List, [], ◌∷◌, length, refl, sym, ap, ◌∙◌, arith}
use Rattle.std.specs.List.{count_by}
use Rattle.std.proofs.lemmas.List.Sums.{sum_by-cons}
use Rattle.svr_call.specs.declared.outcome.Outcome.{Outcome}
use Rattle.svr_call.specs.declared.outcome.Outcome.TheVariants.{One, Zero, GaveUp, TooHeavy, SizeCap}
use Rattle.svr_call.specs.Items.{is_one}
use Rattle.svr_script.specs.Printed.{Event}
use Rattle.svr_script.specs.Run.{State, Counts, counts_of, is_zero, is_given_up, is_limit}
use Rattle.svr_script.specs.Ending.{Ending, AllOne, SomeZero, SomeGivenUp, Limited, HasEnding}

pub some_ending : (t : State) (n : Counts) → (e : Ending) × HasEnding t n e
some_ending t n = by_state t.limited refl n.given_up refl n.zeros refl
  where
    by_state : (b : Bool) → t.limited ≡ b → (g : ℕ) → n.given_up ≡ g → (z : ℕ) → n.zeros ≡ z → (e : Ending) × HasEnding t n e
    by_state true limited g given z zeros = (Limited, limited)
    by_state false going (suc g) given z zeros = (SomeGivenUp, (going, omega arith))
    by_state false going zero given (suc z) zeros = (SomeZero, (going, omega arith, given))
    by_state false going zero given zero zeros = (AllOne, (going, zeros, given))

both : {A : Type 0} (b : Bool) → b ≡ true → b ≡ false → A
both b p q = absurd (cc)

pub one_ending : (t : State) (n : Counts) (e r : Ending) → HasEnding t n e → HasEnding t n r → e ≡ r
one_ending t n AllOne AllOne h k = refl
one_ending t n AllOne SomeZero h k = absurd (omega (arith, h.1, k.1))
one_ending t n AllOne SomeGivenUp h k = absurd (omega (arith, h.2, k.1))
one_ending t n AllOne Limited h k = both t.limited k h.0
one_ending t n SomeZero AllOne h k = absurd (omega (arith, h.1, k.1))
one_ending t n SomeZero SomeZero h k = refl
one_ending t n SomeZero SomeGivenUp h k = absurd (omega (arith, h.2, k.1))
one_ending t n SomeZero Limited h k = both t.limited k h.0
one_ending t n SomeGivenUp AllOne h k = absurd (omega (arith, h.1, k.2))
one_ending t n SomeGivenUp SomeZero h k = absurd (omega (arith, h.1, k.2))
one_ending t n SomeGivenUp SomeGivenUp h k = refl
one_ending t n SomeGivenUp Limited h k = both t.limited k h.0
one_ending t n Limited AllOne h k = both t.limited h k.0
one_ending t n Limited SomeZero h k = both t.limited h k.0
one_ending t n Limited SomeGivenUp h k = both t.limited h k.0
one_ending t n Limited Limited h k = refl

-- an answer is one of four kinds
one_kind : (o : Outcome) → 1 ≡ cond (is_one o) 1 0 + cond (is_zero o) 1 0 + cond (is_given_up o) 1 0 + cond (is_limit o) 1 0
one_kind (One kept dropped cycles encodings) = refl
one_kind (Zero phase chosen sizes proofs encodings) = refl
one_kind (GaveUp query encoding log first) = refl
one_kind (TooHeavy weight) = refl
one_kind (SizeCap sizes proofs encodings) = refl

pub counted_once : (es : List Event) → length es ≡ (counts_of es).ones + (counts_of es).zeros + (counts_of es).given_up + count_by (λ e. is_limit e.outcome) es
counted_once [] = refl
counted_once (e ∷ es) =
    let rest = counted_once es in
    let here = one_kind e.outcome in
    let ones = sum_by-cons (λ (x : Event). cond (is_one x.outcome) 1 0) e es in
    let zeros = sum_by-cons (λ (x : Event). cond (is_zero x.outcome) 1 0) e es in
    let given_up = sum_by-cons (λ (x : Event). cond (is_given_up x.outcome) 1 0) e es in
    let limits = sum_by-cons (λ (x : Event). cond (is_limit x.outcome) 1 0) e es in
    omega arith
