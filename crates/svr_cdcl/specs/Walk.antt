-- The walk back over the trail
use Rattle.std.specs.Prelude.{◌≡◌, ℕ, ◌≤◌, Bool, true, false, ◌&&◌, ◌||◌, List, length, take, Ok}
use Rattle.svr_chain.specs.declared.clause.Lit.{Lit}
use Rattle.svr_chain.specs.declared.log.Link.{Link}
use Rattle.svr_chain.specs.Clauses.{has}
use Rattle.svr_chain.specs.Log.{named, started, after_links}
use Rattle.svr_trail.specs.declared.Entry.{Entry}
use Rattle.svr_trail.specs.Trail.{is_false, value_in}
use Rattle.svr_cdcl.specs.Marks.{AreFalse, is_marked}

-- the derived clause so far: what was put out, and the marked literals that are false before a place
pub record Walk (ks : List (List Lit)) (es : List Entry) (number : ℕ) (ms : List Entry) (out : List Lit) (links : List Link) (left : ℕ) : Type 0 where
  pub within : left ≤ length es
  pub marks : AreFalse es ms
  pub clause : List Lit
  pub derives : after_links ks (started (named ks number)) links ≡ Ok clause
  pub same : (x : Lit) → has clause x ≡ (has out x || (is_false (value_in (take left es) x) && is_marked ms x.var))
  pub apart : (x : Lit) → has out x ≡ true → is_false (value_in (take left es) x) ≡ false
