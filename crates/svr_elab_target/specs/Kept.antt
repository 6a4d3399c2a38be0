-- What the code keeps of the blocks of classes from one statement to the next.
use Rattle.std.specs.Prelude.{◌≡◌, ℕ, nat_eq, ◌+◌, ◌<◌, ◌≤◌, List, [], ◌∷◌, length, map, IfSome}
use Rattle.indexmap.specs.IndexMap.{get}
use Rattle.indexmap.specs.IndexSet.{IndexSet}
use Rattle.svr_elab_names.specs.Names.{Space}
use Rattle.svr_elab_names.specs.Tables.{Key, bytes_of}
use Rattle.svr_elab_target.specs.Blocks.{class_blocks}
use Rattle.svr_elab_target.specs.declared.chain.FlatNames.{FlatNames}
use Rattle.svr_elab_target.specs.declared.chain.TheConstants.{MOST_KEPT}

-- how many names stand in a table
abbrev pub names_in : {S : Type 0} → List (ℕ × IndexSet Key S) → ℕ
names_in [] = 0
names_in (e ∷ es) = length e.1.keys + names_in es

-- what is kept of a class are the names of its blocks in flat order; they are no more than is counted, and those of several classes are not too many
pub record IsKept (n : Space) (f : FlatNames) : Type 0 where
  pub here : (k : ℕ) → IfSome (get nat_eq f.kept k) (λ s. map bytes_of s.keys ≡ class_blocks n.classes k)
  pub counted : names_in f.kept.entries ≤ f.count
  pub few : 1 < length f.kept.entries → f.count ≤ MOST_KEPT

-- so many names of one class more are counted already
pub record HasRoom (more : ℕ) (f : FlatNames) : Type 0 where
  pub counted : names_in f.kept.entries + more ≤ f.count
  pub few : 0 < length f.kept.entries → f.count ≤ MOST_KEPT
