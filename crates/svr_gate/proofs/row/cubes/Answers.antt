use Rattle.std.proofs.Common.{◌≡◌, ◌∙◌, ap, sym, arith, ℕ, ◌++◌, ◌∷◌, [], List, map, take, get_or}
use Rattle.std.proofs.lemmas.List.{map-append, take_more, take_all}
use Rattle.svr_chain.specs.declared.clause.Lit.{Lit}
use Rattle.svr_gate.specs.declared.cover.Cube.{Cube}
use Rattle.svr_gate.specs.Covers.{cube_clause}
use Rattle.svr_gate.proofs.row.cubes.Goals as goal

pub push_reserved-requires : goal.push_reserved-requires
push_reserved-requires c = omega (arith, c.loop-cube.invariant.len, c.loop-cube.invariant.room, c.loop-cube-test.true)

pub loop-cube-init : goal.loop-cube-init
loop-cube-init c = record {
  items = c.in_ok-clauses.ensures.items;
  len = c.in_ok-clauses.ensures.len;
  room = c.in_ok-clauses.ensures.capacity;
}

pub loop-cube-preserved : goal.loop-cube-preserved
loop-cube-preserved c = record {
  items = c.push_reserved.ensures.items
      ∙ ap (λ (xs : List (List Lit)). xs ++ c.in_ok-clause.field-0 ∷ []) c.loop-cube.invariant.items
      ∙ ap (λ (x : List Lit). map made (take i cubes) ++ x ∷ []) c.in_ok-clause.ensures
      ∙ sym (ap (map made) (take_more cubes i d c.loop-cube-test.true) ∙ map-append made (take i cubes) (get_or cubes i d ∷ []));
  len = omega (arith, c.push_reserved.ensures.len, c.loop-cube.invariant.len);
  room = omega (arith, c.push_reserved.ensures.capacity, c.loop-cube.invariant.room);
} where
  made : Cube → List Lit
  made = cube_clause c.args.table c.args.ins.now c.args.out

  cubes : List Cube
  cubes = c.args.cubes.now

  i : ℕ
  i = c.loop-cube.cube-index

  d : Cube
  d = record { row = 0; mask = 0 }

pub returns : goal.returns
returns c = c.loop-cube.invariant.items ∙ ap (map (cube_clause c.args.table c.args.ins.now c.args.out)) (take_all c.loop-cube.cube-index c.args.cubes.now (omega arith))
