-- A call that is made again: its frame is that of the last time but for the state.
use Rattle.std.specs.Prelude.{◌≡◌, ℕ}
use Rattle.svr_typed.specs.StmtTerm.{CallTerm, DesignTerm}
use Rattle.svr_world.specs.World.{WorldTerm, object_of}
use Rattle.svr_frame.specs.Frame.{FrameTerm}
use Rattle.svr_frame.specs.Making.{frame_of}
use Rattle.svr_script.specs.Statement.{flat_of_var}

-- the frame of a call in this world, whatever the state
abbrev pub IsFrameOf : DesignTerm → WorldTerm → CallTerm → FrameTerm → Type 0
IsFrameOf d w c f = f ≡ frame_of (flat_of_var d c.object) d.enums f.state (object_of w c.object).rand_modes (object_of w c.object).block_modes c

-- the object of a variable has the modes that it had
pub record SameModes (o : ℕ) (old new : WorldTerm) : Type 0 where
  pub rand_modes : (object_of new o).rand_modes ≡ (object_of old o).rand_modes
  pub block_modes : (object_of new o).block_modes ≡ (object_of old o).block_modes
