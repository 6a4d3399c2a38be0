-- Who watches a run: what a watch makes of the calls that answer 1.
use Rattle.std.specs.Prelude.{ℕ, cond, List}
use Rattle.svr_call.specs.declared.outcome.Outcome.{Outcome}
use Rattle.svr_call.specs.Items.{is_one}
use Rattle.svr_script.specs.Run.{Sample}

-- what it makes of a sample
abbrev pub taken : {C : Type 0} → (C → ℕ → List (List ℕ) → C) → C → Sample → C
taken step c s = step c s.class s.values

-- what it makes of an answer: a sample more where that is 1
abbrev pub sampled : {C : Type 0} → (C → ℕ → List (List ℕ) → C) → Outcome → ℕ → List (List ℕ) → C → C
sampled step o class values c = cond (is_one o) (step c class values) c

-- how watches of a kind are read: what one tells, what a sample more makes of that, and how many samples it can still take
pub record Watcher (W C : Type 0) : Type 0 where
  pub content : W → C
  pub step : C → ℕ → List (List ℕ) → C
  pub left : W → ℕ

abbrev pub watcher : {W C : Type 0} → (W → C) → (C → ℕ → List (List ℕ) → C) → (W → ℕ) → Watcher W C
watcher content step left = record { content = content; step = step; left = left }
