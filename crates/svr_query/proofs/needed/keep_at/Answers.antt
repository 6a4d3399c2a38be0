use Rattle.std.proofs.Common.{arith, rules, take}
use Rattle.svr_query.proofs.Keeping.{keep_behind}
use Rattle.svr_query.proofs.needed.keep_at.Goals as goal

pub returns : goal.returns
returns c = λ cnf e k.
    keep_behind cnf c.args.steps.now c.args.kept.now.items c.keep.new.kept.items c.args.places.now.items c.keep.new.places.items _ c.args.passed c.args.place (omega arith) (omega arith) (search rules)
    (λ l. c.in_ok-keep.ensures cnf (take c.args.place c.args.steps.now) e l) k
