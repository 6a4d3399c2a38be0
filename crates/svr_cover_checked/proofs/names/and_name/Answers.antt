use Rattle.svr_cover_checked.proofs.Named.{put_last, left_out}
use Rattle.svr_cover_checked.proofs.names.and_name.Goals as goal

pub returns-then-is_some-clause-table : goal.returns-then-is_some-clause-table
returns-then-is_some-clause-table c = left_out c.args.name c.args.place c.args.places.entries c.get.result c.is_some.result c.get.ensures.value c.is_some.ensures c.if-is_some.true

pub returns-in-Ok-clause-table : goal.returns-in-Ok-clause-table
returns-in-Ok-clause-table c =
    put_last c.args.name c.args.place c.args.places.entries c.insert.new.self.entries c.get.result c.is_some.result c.get.ensures.value c.is_some.ensures c.if-is_some.false c.in-Ok.ensures.entries
