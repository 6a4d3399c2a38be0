use Rattle.std.proofs.Common.{◌≡◌, ◌+◌, ◌*◌, List, ap, sym, ◌∙◌, length, arith, subst, ℕ, pos, Vec, Global}
use Rattle.std.proofs.lemmas.Result.{IfOk-weaker}
use Rattle.svr_chain.specs.declared.clause.Lit.{Lit}
use Rattle.svr_gate.specs.Numbers.{number}
use Rattle.svr_gate.specs.Circuit.{GivesNumber}
use Rattle.svr_gate.proofs.Circuits.{later, AreWithin-later}
use Rattle.svr_gate.proofs.Vectors.{GivesNumber-same}
use Rattle.svr_num.specs.Num.{read_of}
use Rattle.svr_eval.specs.Value as spec
use Rattle.svr_vector.specs.Places.{rows, number_at, AreVectors}
use Rattle.svr_inputs.specs.Inputs.{read_at}
use Rattle.svr_inputs.proofs.ElementLemmas.{row_picked, row_end, as_vectors}
use Rattle.svr_inputs.proofs.elements.in_row.Goals as goal

pub returns-clause-extends : goal.returns-clause-extends
returns-clause-extends c = search later

pub returns-clause-value : goal.returns-clause-value
returns-clause-value c =
    IfOk-weaker c.picked.result (λ (ls : Vec Lit Global). GivesNumber c.picked.new.b ls.items c.args.own (λ a. number_at a (rows c.deref.result.now) (read_of c.args.column_signed (length c.args.column.now) (number a c.args.column.now)))) _
    (λ ls g. GivesNumber-same (λ v. spec.cell_at (read_at c.args.inputs.now v) c.args.prop c.args.inner (pos c.args.row) (read_of c.args.column_signed (length c.args.column.now) (number v c.args.column.now))) g
    (λ a m.
    ap (λ vs. number_at a (rows vs) (read_of c.args.column_signed (length c.args.column.now) (number a c.args.column.now))) c.deref.ensures.value
    ∙ row_picked (read_at c.args.inputs.now) c.args.prop _ c.args.inner c.args.row c.in_ok-all.ensures.value a (c.picked.ensures.extends.keeps a m)
    (read_of c.args.column_signed (length c.args.column.now) (number a c.args.column.now)) (ap (λ n. n * c.from-2.result) c.from.ensures ∙ ap (λ n. c.args.row * n) c.from-2.ensures)))
    c.picked.ensures.value

pub overflow_mul-first : goal.overflow_mul-first
overflow_mul-first c = omega (arith, row_end c.args.row c.args.inner c.from.result c.from-2.result c.from.ensures c.from-2.ensures c.ranges.row.fits c.ranges.inner.fits)

pub elements-requires-clause-first : goal.elements-requires-clause-first
elements-requires-clause-first c = row_end c.args.row c.args.inner c.from.result c.from-2.result c.from.ensures c.from-2.ensures c.ranges.row.fits c.ranges.inner.fits

pub elements-requires-clause-ready : goal.elements-requires-clause-ready
elements-requires-clause-ready c = c.requires.ready

pub picked-requires-clause-elements : goal.picked-requires-clause-elements
picked-requires-clause-elements c = subst (λ (vs : List (Vec Lit Global)). AreVectors c.elements.new.b.vars c.args.own (rows vs)) (sym c.deref.ensures.value) (as_vectors c.in_ok-all.ensures.value)

pub picked-requires-clause-index_within : goal.picked-requires-clause-index_within
picked-requires-clause-index_within c = AreWithin-later c.args.column.now c.elements.ensures.extends c.requires.column_within
