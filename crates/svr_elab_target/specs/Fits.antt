-- What a script that was read gives of its classes.
use Rattle.std.specs.Prelude.{ℕ, ◌+◌, ◌<◌, ◌^◌, List, [], ◌∷◌, length}
use Rattle.svr_elab_names.specs.Names.{Space, ClassName}

-- how many blocks classes declare
abbrev pub blocks_declared : List ClassName → ℕ
blocks_declared [] = 0
blocks_declared (c ∷ cs) = length c.blocks + blocks_declared cs

-- the blocks of all classes together can be numbered
pub record BlocksFit (n : Space) : Type 0 where
  pub few : blocks_declared n.classes < 2 ^ 32
