use Rattle.std.proofs.Common.{◌∙◌, false, get_or}
use Rattle.svr_chain.specs.declared.clause.Lit.{Lit}
use Rattle.svr_chain.proofs.Turns.{differ}
use Rattle.svr_chain.proofs.MarkLemmas.{join-none, join-more, join-left, join-done}
use Rattle.svr_chain.proofs.marks.Marks.resolve.Goals as goal
use Rattle.svr_chain.proofs.marks.Marks.resolve.Goals.{then-ne+in_ok-add, else-ne}

abbrev no_lit : Lit
no_lit = record { var = 0; neg = false }

pub loop-lit-init : goal.loop-lit-init
loop-lit-init c = join-none c.remove.new.self c.args.there.now c.flipped-other.result

pub loop-lit-preserved : goal.loop-lit-preserved
loop-lit-preserved c =
    let i = c.loop-lit.lit-index in
    let ds = c.args.there.now in
    let o = c.flipped-other.result in
    let h = c.loop-lit-test.true in
    let test = differ (get_or ds i no_lit) o c.ne.result c.ne.ensures in
    elim c.if-ne.branch [
      | then-ne+in_ok-add w ↦
          rw w.self-is (join-more c.remove.new.self c.loop-lit.self ds o i no_lit h c.loop-lit.invariant w.add.new.self (test ∙ w.if-ne.true) w.in_ok-add.ensures)
      | else-ne w ↦ rw w.self-is (join-left c.remove.new.self c.loop-lit.self ds o i no_lit h c.loop-lit.invariant (test ∙ w.if-ne.false))
    ]

pub returns : goal.returns
returns c =
    join-done c.args.self.now c.remove.new.self c.loop-lit.self c.args.there.now c.args.pivot c.flipped-other.result c.loop-lit.lit-index c.loop-lit-test.false
    c.flipped-other.ensures c.remove.ensures c.loop-lit.invariant
