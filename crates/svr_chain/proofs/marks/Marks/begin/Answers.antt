use Rattle.std.proofs.Common.{false, subst, sym, ap}
use Rattle.svr_chain.specs.declared.clause.Lit.{Lit}
use Rattle.svr_chain.specs.Clauses.{has}
use Rattle.svr_chain.specs.Marks.{AreMarked}
use Rattle.svr_chain.proofs.MarkLemmas.{marked-none, begin-more, begin-done}
use Rattle.svr_chain.proofs.marks.Marks.begin.Goals as goal

abbrev no_lit : Lit
no_lit = record { var = 0; neg = false }

pub invariant_of-self : goal.invariant_of-self
invariant_of-self c = subst (AreMarked c.self.inside.places.items) (sym c.clear.ensures.items) (marked-none c.self.inside.places.items)

pub loop-lit-init : goal.loop-lit-init
loop-lit-init c = λ x. ap (λ z. has z x) c.clear.ensures.items

pub loop-lit-preserved : goal.loop-lit-preserved
loop-lit-preserved c = begin-more c.loop-lit.self c.add.new.self c.args.lits.now c.loop-lit.lit-index no_lit c.loop-lit-test.true c.in_ok-add.ensures c.loop-lit.invariant

pub returns : goal.returns
returns c = begin-done c.loop-lit.self c.args.lits.now c.loop-lit.lit-index c.loop-lit-test.false c.loop-lit.invariant
