use Rattle.std.proofs.Common.{◌≤◌, sym, ◌∙◌, ap, subst, map, length}
use Rattle.svr_limits.specs.declared.limit.TheConstants.{PROPERTY_LIMIT}
use Rattle.svr_typed.specs.ClassTerm.{flat_term}
use Rattle.svr_typed.specs.StmtTerm.{call_term}
use Rattle.svr_world.specs.World.{object_of}
use Rattle.svr_frame.specs.Frame.{FrameTerm, props_of}
use Rattle.svr_frame.specs.Making.{is_free}
use Rattle.svr_frame.specs.Sound.{IsSound}
use Rattle.svr_frame_of.specs.Callable.{with_free}
use Rattle.svr_frame_of.proofs.Sounding.{is_sound}
use Rattle.svr_frame_of.proofs.make.make_frame.Goals as goal

abbrev freed : FrameTerm → FrameTerm
freed g = with_free g (map (is_free g) (props_of g))

pub with_free_sizes-requires : goal.with_free_sizes-requires
with_free_sizes-requires c = subst (λ (f : FrameTerm). length f.class.props ≤ PROPERTY_LIMIT) (sym c.in_ok-frame.ensures) c.requires.callable.properties

pub returns-clause-frame : goal.returns-clause-frame
returns-clause-frame c = c.in_ok-whole.ensures ∙ ap freed c.in_ok-frame.ensures

pub returns-clause-sound : goal.returns-clause-sound
returns-clause-sound c =
    let w = c.args.world.now in
    let call = call_term c.args.call.now in
    subst IsSound (sym (c.in_ok-whole.ensures ∙ ap freed c.in_ok-frame.ensures)) (is_sound (flat_term c.args.class.now) c.args.design.now.enums (object_of w call.object) w.script call c.requires.callable)
