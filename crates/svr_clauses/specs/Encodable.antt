-- Closed expressions of a phase that can be made into clauses, and evaluated under a reading
use Rattle.std.specs.Prelude.{List, [], ◌∷◌, ⊤}
use Rattle.svr_typed.specs.ExprTerm.{ExprTerm}
use Rattle.svr_eval.specs.Reading.{Reading}
use Rattle.svr_eval.specs.Typed.{IsTyped, CanRead}
use Rattle.svr_frame.specs.declared.part.Part.{Part}
use Rattle.svr_frame.specs.Frame.{FrameTerm}
use Rattle.svr_frame.specs.Occurrences.{Occurrence, closed_of}
use Rattle.svr_frame.specs.Phases.{sought_sizes}
use Rattle.svr_encoded.specs.Fixed.{IsFixed}
use Rattle.svr_blast.specs.Standing.{StandsIn}

-- its stored sizes and signs are right, it stands in the frame or bounds a size, what the reading has for it fits, and it takes no array as a whole whose size is looked for
pub record IsEncodable (f : FrameTerm) (part : Part) (a : Reading) (e : ExprTerm) : Type 0 where
  pub typed : IsTyped e
  pub stands : StandsIn f e
  pub reads : CanRead a 0 e
  pub fixed : IsFixed (sought_sizes f part) e

-- the closed expressions of these occurrences, with the weights of this state
abbrev pub AreEncodable : FrameTerm → Part → Reading → Reading → List Occurrence → Type 0
AreEncodable f part a state [] = ⊤
AreEncodable f part a state (o ∷ os) = IsEncodable f part a (closed_of state o) × AreEncodable f part a state os
