use Rattle.std.proofs.Common.{◌≡◌, ◌≤◌, ◌*◌, ap, sym, ◌∙◌, List, length, arith, subst, ℕ, pos, Vec, Global}
use Rattle.std.proofs.lemmas.Result.{IfOk-weaker}
use Rattle.svr_chain.specs.declared.clause.Lit.{Lit}
use Rattle.svr_gate.specs.Numbers.{number}
use Rattle.svr_gate.specs.Circuit.{GivesNumber}
use Rattle.svr_gate.proofs.Circuits.{later}
use Rattle.svr_gate.proofs.Vectors.{GivesNumber-same}
use Rattle.svr_num.specs.Num.{read_of}
use Rattle.svr_eval.specs.Value as spec
use Rattle.svr_vector.specs.Places.{rows, number_at, AreVectors}
use Rattle.svr_inputs.specs.Inputs.{read_at}
use Rattle.svr_inputs.proofs.ElementLemmas.{as_vectors, numbers_next, cell_picked}
use Rattle.svr_inputs.proofs.elements.some_cell.Goals as goal

pub returns-in_err-one-clause-extends : goal.returns-in_err-one-clause-extends
returns-in_err-one-clause-extends c = search later

pub returns-in_err-push-clause-extends : goal.returns-in_err-push-clause-extends
returns-in_err-push-clause-extends c = search later

pub returns-clause-extends : goal.returns-clause-extends
returns-clause-extends c = search later

pub loop-i-preserved : goal.loop-i-preserved
loop-i-preserved c = record {
  extends = search later;
  value = rw c.in_ok-push.ensures.items
      (numbers_next c.loop-i.chosen.items c.in_ok-one.one c.loop-i.i c.args.own
      (λ v k. spec.cell_at (read_at c.args.inputs.now v) c.args.prop c.args.inner (pos k) (read_of c.args.column_signed (length c.args.column.now) (number v c.args.column.now)))
      c.in_row.ensures.extends c.loop-i.invariant.value c.in_ok-one.ensures.value);
}

pub picked-requires-clause-elements : goal.picked-requires-clause-elements
picked-requires-clause-elements c = subst (λ (vs : List (Vec Lit Global)). AreVectors c.loop-i.b.vars c.args.own (rows vs)) (sym c.deref.ensures.value) (as_vectors c.loop-i.invariant.value)

pub returns-clause-value : goal.returns-clause-value
returns-clause-value c =
    let end : c.row_count-i-end.result ≡ c.loop-i.i = omega arith in
    let all : c.size.result ≤ c.loop-i.i * c.args.inner = subst (λ (n : ℕ). c.size.result ≤ n * c.args.inner) end c.row_count-i-end.ensures in
    IfOk-weaker c.picked.result (λ (ls : Vec Lit Global). GivesNumber c.picked.new.b ls.items c.args.own (λ a. number_at a (rows c.deref.result.now) (read_of c.args.row_signed (length c.args.row.now) (number a c.args.row.now)))) _
    (λ ls g. GivesNumber-same (λ v. spec.cell_at (read_at c.args.inputs.now v) c.args.prop c.args.inner (read_of c.args.row_signed (length c.args.row.now) (number v c.args.row.now)) (read_of c.args.column_signed (length c.args.column.now) (number v c.args.column.now))) g
    (λ a m.
    ap (λ vs. number_at a (rows vs) (read_of c.args.row_signed (length c.args.row.now) (number a c.args.row.now))) c.deref.ensures.value
    ∙ cell_picked c.args.inputs.now c.args.prop c.args.inner c.size.result (λ v. read_of c.args.column_signed (length c.args.column.now) (number v c.args.column.now)) c.requires.inputs c.size.ensures c.loop-i.invariant.value a
    (c.picked.ensures.extends.keeps a m) (read_of c.args.row_signed (length c.args.row.now) (number a c.args.row.now)) all))
    c.picked.ensures.value
