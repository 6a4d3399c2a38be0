use Rattle.std.proofs.Common.{◌∙◌, ap}
use Rattle.svr_script.specs.Numbered.{reading_of_world}
use Rattle.svr_effect.specs.Objects.{placed}
use Rattle.svr_effect.proofs.Computed.{place_same}
use Rattle.svr_effect.proofs.values.place_read.Goals as goal

pub returns : goal.returns
returns c =
    c.place_of.ensures
    ∙ ap placed (place_same (reading_of_world c.args.world.now) c.args.index.now c.requires c.in_ok-value.value.width c.in_ok-value.value.value c.in_ok-value.ensures.width c.in_ok-value.ensures.value)
