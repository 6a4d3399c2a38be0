-- The values of all cyclic random properties, as the phases behind theirs are given them (IEEE 1800-2017, 18.4.2)
use Rattle.std.specs.Prelude.{◌≡◌, ℕ, true, List, map}
use Rattle.std.specs.List.{All}
use Rattle.svr_frame.specs.Frame.{FrameTerm, domain_of}
use Rattle.svr_phase.specs.Cyclic.{is_among}
use Rattle.svr_phase.specs.Ends.{cyclic_props}

-- one value of its domain for each cyclic random property, in flat order
pub record AreCyclicValues (f : FrameTerm) (chosen : List (ℕ × ℕ)) : Type 0 where
  pub props : map (λ (c : ℕ × ℕ). c.0) chosen ≡ cyclic_props f
  pub members : All (λ (c : ℕ × ℕ). is_among c.1 (domain_of f c.0) ≡ true) chosen
