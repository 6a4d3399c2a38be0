use Rattle.svr_elab_unit.proofs.Added.{put_last, left_out}
use Rattle.svr_elab_unit.proofs.vars.and_var_name.Goals as goal

pub returns-then-is_some-clause-value : goal.returns-then-is_some-clause-value
returns-then-is_some-clause-value c =
    left_out c.args.name c.args.stand c.args.vars.entries c.get.result c.is_some.result c.get.ensures.value c.is_some.ensures c.if-is_some.true

pub returns-in-Ok-clause-value : goal.returns-in-Ok-clause-value
returns-in-Ok-clause-value c =
    put_last c.args.name c.args.stand c.args.vars.entries c.insert.new.self.entries c.get.result c.is_some.result c.get.ensures.value c.is_some.ensures c.if-is_some.false c.in-Ok.ensures.entries
