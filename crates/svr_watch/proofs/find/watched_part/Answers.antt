use Rattle.std.proofs.Common.{◌≤◌, false, length, sym, take}
use Rattle.std.proofs.lemmas.List.{take_all}
use Rattle.std.proofs.lemmas.List.Elements.{All-more, All-nil, All-same}
use Rattle.svr_chain.specs.declared.clause.Lit.{Lit}
use Rattle.svr_watch.specs.Store.{IsPassedBy}
use Rattle.svr_watch.proofs.find.watched_part.Goals as goal

pub loop-lit-init : goal.loop-lit-init
loop-lit-init c = All-nil (IsPassedBy c.args.arena.now c.args.lits.now)

pub loop-lit-preserved : goal.loop-lit-preserved
loop-lit-preserved c =
    let d : Lit = record { var = 0; neg = false } in
    All-more (IsPassedBy c.args.arena.now c.args.lits.now) c.args.lits.now c.loop-lit.lit-index d c.loop-lit-test.true c.loop-lit.invariant c.in_default.ensures.none

pub returns-clause-none : goal.returns-clause-none
returns-clause-none c =
    let lits = c.args.lits.now in
    let i = c.loop-lit.lit-index in
    let o : length lits ≤ i = c.loop-lit-test.false in
    All-same (IsPassedBy c.args.arena.now lits) lits (take i lits) (sym (take_all i lits o)) c.loop-lit.invariant
