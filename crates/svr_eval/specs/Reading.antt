-- What an assignment says, place by place.
use Rattle.std.specs.Prelude.{ℕ, [], slice_index, slice_index_or}
use Rattle.svr_eval.specs.declared.assign.Assign.{Assign}

-- the number of each property and element, the size of each property, the number of each script variable
pub record Reading : Type 0 where
  pub element : ℕ → ℕ → ℕ
  pub size : ℕ → ℕ
  pub script : ℕ → ℕ

-- a place that the lists do not have reads 0
abbrev pub reading_of : Assign → Reading
reading_of a = record {
  element = λ p i. slice_index (slice_index_or a.values p []) i;
  size = λ p. slice_index a.sizes p;
  script = λ v. slice_index a.script v;
}

-- no place has anything
abbrev pub blank : Reading
blank = record { element = λ p i. 0; size = λ p. 0; script = λ v. 0 }
