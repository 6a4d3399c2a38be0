use Rattle.std.proofs.Common.{◌∙◌, ◌<◌, false, length, refl}
use Rattle.svr_chain.specs.declared.clause.Lit.{Lit}
use Rattle.svr_cdcl.proofs.MarkLemmas.{besides-at, marks-none, marks-step}
use Rattle.svr_cdcl.proofs.marks.mark_lits.Goals as goal

pub loop-lit-init : goal.loop-lit-init
loop-lit-init c = record { vars = refl; lits = c.requires.lits; marked = marks-none c.args.marks.now.entries c.args.keep }

pub mark-requires-clause-falsified : goal.mark-requires-clause-falsified
mark-requires-clause-falsified c =
    let d : Lit = record { var = 0; neg = false } in
    let h : c.loop-lit.lit-index < length c.args.lits.now = c.loop-lit-test.true in
    besides-at c.args.trail.now.entries c.args.keep c.args.lits.now c.loop-lit.lit-index d h c.requires.falsified

pub loop-lit-preserved : goal.loop-lit-preserved
loop-lit-preserved c =
    let d : Lit = record { var = 0; neg = false } in
    let i = c.loop-lit.lit-index in
    let ls = c.args.lits.now in
    let h : i < length ls = c.loop-lit-test.true in
    record {
      vars = c.mark.ensures.vars ∙ c.loop-lit.invariant.vars;
      lits = c.mark.ensures.lits;
      marked = marks-step c.args.marks.now.entries c.loop-lit.marks.entries c.mark.new.marks.entries c.args.keep ls i d h c.loop-lit.invariant.marked c.mark.ensures.marked;
    }
