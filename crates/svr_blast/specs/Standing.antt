-- Where an item stands that is made into clauses
use Rattle.std.specs.Prelude.{◌≡◌, ℕ, ◌<◌, true, false, ◌⊎◌, length}
use Rattle.svr_operator.specs.declared.BinOp.{BinOp}
use Rattle.svr_typed.specs.ExprTerm.{ExprTerm, typed, binary}
use Rattle.svr_frame.specs.Frame.{FrameTerm, is_array}
use Rattle.svr_frame.specs.Closed.{index_number}
use Rattle.svr_frame.specs.Phases.{size_expr}
use Rattle.svr_frame.specs.Sound.{ExprIsIn}

-- the size of an array beside a number, as the phase of sizes bounds it
abbrev pub IsBound : FrameTerm → ExprTerm → Type 0
IsBound f e = (op : BinOp) × (p : ℕ) × (n : ℕ) × (p < length f.class.props) × (is_array f p ≡ true) × (e ≡ typed 1 false (binary op (size_expr f p) (index_number n)))

-- it stands in the frame, or is such a bound
abbrev pub StandsIn : FrameTerm → ExprTerm → Type 0
StandsIn f e = ExprIsIn f false e ⊎ IsBound f e
