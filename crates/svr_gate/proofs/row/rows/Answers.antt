use Rattle.std.proofs.Common.{◌≡◌, ◌∙◌, ap, sym, add-one, arith, ◌++◌, ◌∷◌, [], List, map}
use Rattle.std.proofs.lemmas.List.{map-append}
use Rattle.svr_chain.specs.declared.clause.Lit.{Lit}
use Rattle.svr_gate.specs.declared.cover.Cube.{Cube}
use Rattle.svr_gate.specs.Covers.{rows_upto, cube_clause}
use Rattle.svr_gate.proofs.CoverLemmas.{rows_upto-zero, rows_upto-suc}
use Rattle.svr_gate.proofs.row.rows.Goals as goal

pub loop-row-init : goal.loop-row-init
loop-row-init c = record {
  items = c.in_ok-clauses.ensures.items ∙ ap (map (cube_clause c.args.table c.args.ins.now c.args.out)) (sym rows_upto-zero);
  len = c.in_ok-clauses.ensures.len;
  room = c.in_ok-clauses.ensures.capacity;
}

pub loop-row-preserved : goal.loop-row-preserved
loop-row-preserved c = record {
  items = c.push_reserved.ensures.items
      ∙ ap (λ (xs : List (List Lit)). xs ++ c.in_ok-clause.field-0 ∷ []) c.loop-row.invariant.items
      ∙ ap (λ (x : List Lit). map made (rows_upto c.loop-row.row) ++ x ∷ []) c.in_ok-clause.ensures
      ∙ sym (ap (λ n. map made (rows_upto n)) (add-one c.loop-row.row) ∙ ap (map made) (rows_upto-suc c.loop-row.row) ∙ map-append made (rows_upto c.loop-row.row) (record { row = c.loop-row.row; mask = 15 } ∷ []));
  len = omega (arith, c.push_reserved.ensures.len, c.loop-row.invariant.len);
  room = omega (arith, c.push_reserved.ensures.capacity, c.loop-row.invariant.room);
} where
  made : Cube → List Lit
  made = cube_clause c.args.table c.args.ins.now c.args.out

pub push_reserved-requires : goal.push_reserved-requires
push_reserved-requires c = omega (arith, c.loop-row.invariant.len, c.loop-row.invariant.room, c.loop-row-test.true)
