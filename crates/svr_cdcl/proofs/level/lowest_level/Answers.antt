use Rattle.std.proofs.Common.{◌≡◌, ◌∙◌, sym, ◌-◌, ◌≤◌, take, true, false, slice_index, arith}
use Rattle.std.proofs.lemmas.Bool.{cases_eq}
use Rattle.std.proofs.Common.{inl, inr, ap}
use Rattle.svr_trail.specs.Trail.{is_false_but}
use Rattle.svr_cdcl.proofs.Asserting.{unit-lower, quiet-lower}
use Rattle.svr_cdcl.proofs.level.lowest_level.Goals as goal

pub returns-then-not-is_before-clause-quiet : goal.returns-then-not-is_before-clause-quiet
returns-then-not-is_before-clause-quiet c = λ j h.
    let es = c.args.trail.now.entries in
    let ends = c.args.ends.now in
    let level = c.down.level in
    let f : is_false_but (take (slice_index ends (level - 1)) es) c.args.pivot c.args.lits.now ≡ false = c.last_besides-last.ensures (slice_index ends (level - 1)) (omega (arith, c.requires.short (level - 1) (omega (arith, c.down.invariant.0)))) ∙ (sym c.is_before.ensures ∙ c.if-not-is_before.true) in
    let a : slice_index ends j ≤ slice_index ends (level - 1) = elim (cases_eq j (level - 1)) [
      | inl e ↦ (let z : slice_index ends j ≡ slice_index ends (level - 1) = ap (slice_index ends) e in omega arith)
      | inr n ↦ omega (arith, c.requires.rising j (level - 1) (omega arith) (omega (arith, c.down.invariant.0)))
    ] in
    let b : slice_index ends (level - 1) ≤ slice_index ends level = omega (arith, c.requires.rising (level - 1) level (omega (arith, c.down-test.true)) c.down.invariant.0) in
    quiet-lower es (slice_index ends j) (slice_index ends (level - 1)) (slice_index ends level) c.args.pivot c.args.lits.now a b c.down.invariant.1 f

pub down-preserved : goal.down-preserved
down-preserved c =
    let es = c.args.trail.now.entries in
    let ends = c.args.ends.now in
    let level = c.down.level in
    let f : is_false_but (take (slice_index ends (level - 1)) es) c.args.pivot c.args.lits.now ≡ true = c.last_besides-last.ensures (slice_index ends (level - 1)) (omega (arith, c.requires.short (level - 1) (omega (arith, c.down.invariant.0)))) ∙ (sym c.is_before.ensures ∙ c.if-not-is_before.false) in
    let b : slice_index ends (level - 1) ≤ slice_index ends level = omega (arith, c.requires.rising (level - 1) level (omega (arith, c.down-test.true)) c.down.invariant.0) in
    (omega (arith, c.down.invariant.0), unit-lower es (slice_index ends (level - 1)) (slice_index ends level) c.args.pivot c.args.lits.now b c.down.invariant.1 f)
