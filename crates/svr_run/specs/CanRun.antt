-- Scripts that can run: whatever a run has come to, its next statement stands.
use Rattle.svr_limits.specs.declared.limit.TheConstants.{ELEMENT_LIMIT}
use Rattle.std.specs.Prelude.{◌≡◌, ℕ, ◌<◌, ◌≤◌, ◌^◌, Bool, false, true, List, ◌∷◌, length}
use Rattle.svr_typed.specs.StmtTerm.{StmtTerm, make, set_var, set_prop, resize, pattern, rand_mode, constraint_mode, call, repeat, list, DesignTerm}
use Rattle.svr_world.specs.World.{WorldTerm, IsMade, object_of}
use Rattle.svr_frame_of.specs.Callable.{IsCallable}
use Rattle.svr_phase.specs.declared.options.Options.{Options}
use Rattle.svr_script.specs.Printed.{Event}
use Rattle.svr_script.specs.Statement.{flat_of_var}
use Rattle.svr_script.specs.Run.{State, IsSoFar, statements}
use Rattle.svr_effect.specs.Objects.{IsWhole}
use Rattle.svr_effect.specs.Stands.{Stands}

-- what has to hold before a statement
abbrev pub CanExecute : DesignTerm → WorldTerm → StmtTerm → Type 0
CanExecute d w (call c) = IsMade w c.object × IsCallable (flat_of_var d c.object) d.enums (object_of w c.object) w.script c
CanExecute d w x = Stands d w x

-- neither a call nor made of others
abbrev pub is_plain : StmtTerm → Bool
is_plain (make o) = true
is_plain (set_var v e) = true
is_plain (set_prop o p i e) = true
is_plain (resize o p n) = true
is_plain (pattern o p es) = true
is_plain (rand_mode o p on) = true
is_plain (constraint_mode o b on) = true
is_plain (call c) = false
is_plain (repeat n s) = false
is_plain (list ss) = false

-- a budget of some step, and a greatest size that some array may have and none may pass
abbrev pub AreAllowed : Options → Type 0
AreAllowed opts = (1 ≤ opts.budget) × (1 ≤ opts.size_cap) × (opts.size_cap ≤ ELEMENT_LIMIT)

pub record CanRun (d : DesignTerm) (opts : Options) : Type 0 where
  pub stands : (es : List Event) (t : State) (so_far : IsSoFar d opts es t) (x : StmtTerm) (rest : List StmtTerm) → so_far.left ≡ x ∷ rest → t.limited ≡ false → CanExecute d t.world x
  pub whole : (es : List Event) (t : State) → IsSoFar d opts es t → IsWhole t.world
  pub few : length (statements d) < 2 ^ 64
