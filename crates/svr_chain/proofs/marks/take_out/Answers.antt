use Rattle.std.proofs.Common.{◌<◌, ◌≤◌, length, arith}
use Rattle.svr_chain.proofs.MarkLemmas.{has-less, marked-moved, marked-last}
use Rattle.svr_chain.proofs.marks.take_out.Goals as goal

pub returns-then-is_last-clause-marked : goal.returns-then-is_last-clause-marked
returns-then-is_last-clause-marked c =
    let new = c.swap_out.new.lits.items in
    let b : length new ≤ c.args.place = omega arith in
    marked-last c.args.lits.now.items new c.args.place c.swap_out.ensures c.requires.marked.once c.args.places.now.items c.requires.marked b

pub returns-then-is_last-clause-left : goal.returns-then-is_last-clause-left
returns-then-is_last-clause-left c = λ l x e. has-less c.args.lits.now.items c.swap_out.new.lits.items c.args.place c.swap_out.ensures c.requires.marked.once l x e

pub returns-clause-marked : goal.returns-clause-marked
returns-clause-marked c =
    let new = c.swap_out.new.lits.items in
    let b : c.args.place < length new = omega arith in
    marked-moved c.args.lits.now.items new c.args.place c.swap_out.ensures c.requires.marked.once c.args.places.now.items c.note.new.places.items c.index.result.now
    c.requires.marked b c.index.ensures c.note.ensures

pub returns-clause-left : goal.returns-clause-left
returns-clause-left c = λ l x e. has-less c.args.lits.now.items c.swap_out.new.lits.items c.args.place c.swap_out.ensures c.requires.marked.once l x e
