use Rattle.std.proofs.Common.{◌≡◌, ◌<◌, ◌∙◌, ◌++◌, ◌∷◌, [], List, ap, length, arith, false, get_or, eqb, true, drop, refl, ◌+◌, ◌/◌, ◌%◌}
use Rattle.std.specs.Prelude.{vec_len, vec_capacity}
use Rattle.std.proofs.lemmas.Bool.{eq-eqb, ne_eqb}
use Rattle.svr_chain.specs.declared.clause.Lit.{Lit}
use Rattle.svr_gate.specs.Covers.{cube_inputs}
use Rattle.svr_gate.proofs.CoverLemmas.{cube_take, cube_skip, cube_made}
use Rattle.svr_gate.proofs.row.clause.Goals as goal
use Rattle.svr_gate.proofs.row.clause.Goals.{then-mask-eq1, else-mask-eq1}

pub loop-lit-preserved : goal.loop-lit-preserved
loop-lit-preserved c =
    let d : Lit = record { var = 0; neg = false } in
    let ins = c.args.ins.now in
    let i = c.loop-lit.lit-index in
    let l : Lit = get_or ins i d in
    let lt : i < length ins = c.loop-lit-test.true in
    let row = c.loop-lit.row in
    let mask = c.loop-lit.mask in
    let all = cube_inputs ins c.args.cube.row c.args.cube.mask in
    let rest = cube_inputs (drop (i + 1) ins) (row / 2) (mask / 2) in
    elim c.if-mask-eq1.branch [
      | then-mask-eq1 w ↦ record {
        items = ap (λ (x : List Lit). x ++ rest) (ap (λ v. v.items) w.lits-is ∙ w.push_reserved.ensures.items ∙ ap (λ (x : Lit). c.loop-lit.lits.items ++ x ∷ []) w.input_of_row.ensures)
            ∙ cube_take ins c.loop-lit.lits.items i row mask l d all lt refl (eq-eqb (mask % 2) 1 w.if-mask-eq1.true) c.loop-lit.invariant.items;
        room = omega (arith, ap vec_len w.lits-is, ap vec_capacity w.lits-is, w.push_reserved.ensures.len, w.push_reserved.ensures.capacity, c.loop-lit.invariant.room);
      }
      | else-mask-eq1 w ↦ record {
        items = ap (λ (x : List Lit). x ++ rest) (ap (λ v. v.items) w.lits-is)
            ∙ cube_skip ins c.loop-lit.lits.items i row mask d all lt (ne_eqb (mask % 2) 1 w.if-mask-eq1.false) c.loop-lit.invariant.items;
        room = omega (arith, ap vec_len w.lits-is, ap vec_capacity w.lits-is, c.loop-lit.invariant.room);
      }
    ]

pub returns : goal.returns
returns c = c.new.ensures ∙ c.push_reserved-2.ensures.items ∙ cube_made c.args.table c.args.ins.now c.loop-lit.lits.items c.loop-lit.lit-index c.loop-lit.row c.loop-lit.mask c.args.out c.args.cube (omega arith) c.loop-lit.invariant.items

pub loop-lit-init : goal.loop-lit-init
loop-lit-init c = record {
  items = ap (λ (x : List Lit). x ++ cube_inputs c.args.ins.now c.args.cube.row c.args.cube.mask) c.in_ok-lits.ensures.items;
  room = omega (arith, c.in_ok-lits.ensures.len, c.in_ok-lits.ensures.capacity);
}

pub push_reserved-requires : goal.push_reserved-requires
push_reserved-requires c = omega (arith, c.loop-lit.invariant.room, c.loop-lit-test.true)

pub push_reserved-requires-2 : goal.push_reserved-requires-2
push_reserved-requires-2 c = omega (arith, c.loop-lit.invariant.room, c.loop-lit.auto.lit-index-end)
