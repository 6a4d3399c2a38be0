use Rattle.std.proofs.Common.{None, refl}
use Rattle.svr_typed.specs.declared.class.Prop.{Prop}
use Rattle.svr_frame.proofs.Mapped.{there, missing}
use Rattle.svr_frame.proofs.frame.Frame.enum_of.Goals as goal

pub returns-in-Some : goal.returns-in-Some
returns-in-Some c =
    there (λ (x : Prop). x.kind.members) c.args.self.now.class.props c.as_slice.result.now c.args.prop None c.in-Some.declared.now _ c.as_slice.ensures c.in-Some.ensures.lookup.0 c.in-Some.ensures.lookup.1 refl

pub returns-in-None : goal.returns-in-None
returns-in-None c = missing (λ (x : Prop). x.kind.members) c.args.self.now.class.props c.as_slice.result.now c.args.prop None c.as_slice.ensures c.in-None.ensures.lookup.0
