-- One turn of a loop of the code, as a turn of the program's loop.
use Rattle.std.proofs.Common.{◌≡◌, ◌≢◌, ℕ, ◌+◌, ◌-◌, ◌<◌, List, Ok, Err, ◌∙◌, ap}
use Rattle.svr_tree.specs.Tokens.{Tok}
use Rattle.svr_reader.specs.declared.fault.ReadFault.{ReadFault}
use Rattle.svr_reader.specs.declared.fault.ReadFault.TheVariants.{NoMemory}
use Rattle.svr_reader.specs.Answers.{stop_of}
use Rattle.svr_reader.specs.Outcomes.{Turn, Outcome, Parser, and_then, turned, turns}
use Rattle.svr_reader.specs.Calls.{cap}
use Rattle.svr_reader.proofs.Turns.{one_more}
use Rattle.svr_reader.proofs.Calls.{below}

module _ {S A : Type 0} (step : S → Parser (Turn S A)) (o : Outcome A) (turn : ℕ) (s : S) (i : List Tok) (left : turn < 4294967296) (inv : o ≡ turns (cap - turn) step s i) where
  one_turn : o ≡ and_then (step s i) (turned (turns (cap - (turn + 1)) step))
  one_turn = one_more (λ n. turns n step s i) cap turn (below turn left) inv

  pub turn_fails : (e : ReadFault) → (e ≢ NoMemory → step s i ≡ Err (stop_of e)) → e ≢ NoMemory → o ≡ Err (stop_of e)
  turn_fails e call ne = one_turn ∙ ap (λ v. and_then v (turned (turns (cap - (turn + 1)) step))) (call ne)

  pub turn_is : (v : Turn S A) (j : List Tok) → step s i ≡ Ok (v, j) → o ≡ turned (turns (cap - (turn + 1)) step) v j
  turn_is v j call = one_turn ∙ ap (λ v. and_then v (turned (turns (cap - (turn + 1)) step))) call
