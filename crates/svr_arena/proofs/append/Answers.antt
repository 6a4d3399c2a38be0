use Rattle.std.proofs.Common.{◌∙◌, ◌++◌, ◌∷◌, ap, arith, length, take, ℕ, List, length-append}
use Rattle.std.proofs.lemmas.List.{take_all, length-take-le}
use Rattle.svr_arena.proofs.append.Goals as goal

pub push_reserved-requires : goal.push_reserved-requires
push_reserved-requires c = omega (arith, c.requires)

pub push_reserved-requires-2 : goal.push_reserved-requires-2
push_reserved-requires-2 c = omega (arith, c.requires, c.push_reserved.ensures.len, c.push_reserved.ensures.capacity)

pub push_reserved-requires-3 : goal.push_reserved-requires-3
push_reserved-requires-3 c = omega (arith, c.requires, c.push_reserved.ensures.len, c.push_reserved.ensures.capacity, c.push_reserved-2.ensures.len, c.push_reserved-2.ensures.capacity)

pub push_reserved-requires-in-loop-lit : goal.push_reserved-requires-in-loop-lit
push_reserved-requires-in-loop-lit c =
    let old = c.args.words.now.items in
    let lits = c.args.lits.now in
    let seen = take c.loop-lit.lit-index lits in
    omega (
      arith,
      c.requires,
      c.loop-lit-test.true,
      c.loop-lit.words.ok.0,
      c.args.words.now.ok.0,
      c.loop-lit.invariant.1,
      ap (λ (ls : List ℕ). length ls) c.loop-lit.invariant.0,
      length-append old (length lits ∷ 0 ∷ 0 ∷ seen),
      length-take-le c.loop-lit.lit-index lits (omega arith),
    )

pub returns-clause-items : goal.returns-clause-items
returns-clause-items c =
    c.loop-lit.invariant.0 ∙ ap (λ (ls : List ℕ). c.args.words.now.items ++ length c.args.lits.now ∷ 0 ∷ 0 ∷ ls) (take_all c.loop-lit.lit-index c.args.lits.now (omega arith))
