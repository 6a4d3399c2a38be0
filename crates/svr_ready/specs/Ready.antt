-- Closed expressions that can be evaluated, and made into clauses, in a frame
use Rattle.std.specs.Prelude.{ℕ, false, List, [], ◌∷◌, ⊤}
use Rattle.svr_typed.specs.ExprTerm.{ExprTerm}
use Rattle.svr_eval.specs.Reading.{Reading}
use Rattle.svr_eval.specs.Typed.{IsTyped, CanRead}
use Rattle.svr_frame.specs.Frame.{FrameTerm}
use Rattle.svr_frame.specs.Occurrences.{Occurrence, closed_of}
use Rattle.svr_frame.specs.Sound.{ExprIsIn}

-- its stored sizes and signs are right, what the reading has for it fits, and it stands in the frame
pub record IsReady (f : FrameTerm) (a : Reading) (e : ExprTerm) : Type 0 where
  pub typed : IsTyped e
  pub reads : CanRead a 0 e
  pub is_in : ExprIsIn f false e

-- the closed expressions of these occurrences, with the weights of this state
abbrev pub AreReady : FrameTerm → Reading → Reading → List Occurrence → Type 0
AreReady f a state [] = ⊤
AreReady f a state (o ∷ os) = IsReady f a (closed_of state o) × AreReady f a state os
