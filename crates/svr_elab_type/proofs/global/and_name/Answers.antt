use Rattle.svr_elab_type.proofs.Added.{put_last, left_out}
use Rattle.svr_elab_type.proofs.global.and_name.Goals as goal

pub returns-then-is_some : goal.returns-then-is_some
returns-then-is_some c =
    left_out c.args.name c.args.stands c.args.globals.entries c.get.result c.is_some.result c.get.ensures.value c.is_some.ensures c.if-is_some.true

pub returns-in-Ok : goal.returns-in-Ok
returns-in-Ok c =
    put_last c.args.name c.args.stands c.args.globals.entries c.insert.new.self.entries c.get.result c.is_some.result c.get.ensures.value c.is_some.ensures c.if-is_some.false c.in-Ok.ensures.entries
