-- The loop indexes as a list, the innermost last.
use Rattle.std.specs.Prelude.{◌≡◌, refl, ℕ, ◌-◌, ◌≤◌, List, ◌++◌, length, take}
use Rattle.std.proofs.Common.{replicate}
use Rattle.svr_limits.specs.declared.limit.TheConstants.{LOOP_LIMIT}
use Rattle.svr_eval.specs.declared.env.Env.TheInside.{Inside}

abbrev pub entries : Inside → List ℕ
entries e = take e.depth e.index

-- the places past the depth are 0
pub record IsWhole (e : Inside) : Type 0 where
  pub bound : e.depth ≤ LOOP_LIMIT
  pub long : length (take e.depth e.index) ≡ e.depth
  pub rest : take e.depth e.index ++ replicate (LOOP_LIMIT - e.depth) 0 ≡ e.index

abbrev pub filled : List ℕ → Inside
filled xs = record { depth = length xs; index = xs ++ replicate (LOOP_LIMIT - length xs) 0 }

pub filled-entries : (e : Inside) → IsWhole e → filled (entries e) ≡ e
filled-entries e h = rw (h.long, h.rest) refl
