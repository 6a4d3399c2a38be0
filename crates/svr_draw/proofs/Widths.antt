-- Widths of a sound frame, and what can be read at its sizes.
use Rattle.std.proofs.Common.{◌≤◌, ◌<◌, ℕ, List, arith}
use Rattle.std.specs.Prelude.{length}
use Rattle.svr_eval.specs.Holds.{ItemsCanRead}
use Rattle.svr_frame.specs.Frame.{FrameTerm, width_of, state_at}
use Rattle.svr_frame.specs.Sound.{IsSound, SizesFit}
use Rattle.svr_draw.proofs.Parts.{any_prop}
use Rattle.svr_draw.proofs.Readable.{items_can_read, state_is_of_types}
use Rattle.svr_draw.proofs.Fits.{width_at}

pub width_fits : (f : FrameTerm) → IsSound f → (p : ℕ) → p < length f.class.props → (1 ≤ width_of f p) × (width_of f p ≤ 64)
width_fits f sound p lt =
    let same = width_at f.class.props p lt in
    let wide = (sound.props p any_prop lt).wide in
    (omega (arith, same, wide.0), omega (arith, same, wide.1))

-- the items can be read in the state at these sizes
pub state_can_read : (f : FrameTerm) (ns : List ℕ) (sound : IsSound f) (fit : SizesFit f ns) → ItemsCanRead (state_at f ns) 0 f.items
state_can_read f ns sound fit = items_can_read f (state_at f ns) (state_is_of_types f ns sound fit) sound
