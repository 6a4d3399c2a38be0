use Rattle.std.proofs.Common.{◌≡◌, ◌∙◌, sym, get_or, length, take, subst, refl, ap, ◌-◌, ◌<◌, ◌≤◌, true, false, inl, arith}
use Rattle.svr_chain.specs.Clauses.{flip, has}
use Rattle.svr_trail.specs.declared.Entry.{Entry}
use Rattle.svr_trail.specs.Trail.{IsUnit, is_falsified}
use Rattle.svr_cdcl.proofs.Decisions.{down-begins, down-ends, down-unit, down-skips}
use Rattle.svr_cdcl.proofs.level.level_of_decisions.Goals as goal

pub down-init : goal.down-init
down-init c = (omega arith, down-begins c.args.trail.now.entries c.args.ends.now c.len.ensures.apart c.requires.rising c.requires.starts c.args.lits.now c.requires.explained)

pub lowest_level-requires-clause-unit : goal.lowest_level-requires-clause-unit
lowest_level-requires-clause-unit c =
    let es = c.args.trail.now.entries in
    let ends = c.args.ends.now in
    let top = c.down.top in
    let e : Entry = c.entry.result in
    let g : e ≡ get_or es (get_or ends (top - 1) 0) e = c.entry.ensures in
    let o : top ≤ length ends = c.down.invariant.0 in
    let t : 0 < top = c.down-test.true in
    let h : has c.args.lits.now (flip e.lit) ≡ true = ap (has c.args.lits.now) (sym c.flipped-pivot.ensures) ∙ (sym c.has_lit.ensures ∙ c.if-has_lit.true) in
    let u : IsUnit (take (get_or ends (top - 1) 0) es) c.args.lits.now (flip e.lit)
    = down-unit es ends c.len.ensures.apart c.requires.rising c.requires.starts top e c.args.lits.now t o g c.requires.explained c.down.invariant.1 (c.requires.short (top - 1) (omega (arith, t, o))) h in
    subst (λ z. IsUnit (take (get_or ends (top - 1) 0) es) c.args.lits.now z) (sym c.flipped-pivot.ensures) u

pub down-preserved : goal.down-preserved
down-preserved c =
    let es = c.args.trail.now.entries in
    let ends = c.args.ends.now in
    let top = c.down.top in
    let e : Entry = c.entry.result in
    let g : e ≡ get_or es (get_or ends (top - 1) 0) e = c.entry.ensures in
    let o : top ≤ length ends = c.down.invariant.0 in
    let t : 0 < top = c.down-test.true in
    let h : has c.args.lits.now (flip e.lit) ≡ false = ap (has c.args.lits.now) (sym c.flipped-pivot.ensures) ∙ (sym c.has_lit.ensures ∙ c.if-has_lit.false) in
    (omega (arith, o), down-skips es ends c.len.ensures.apart c.requires.rising c.requires.starts top e c.args.lits.now t o g c.requires.explained c.down.invariant.1 h)

pub returns : goal.returns
returns c =
    let es = c.args.trail.now.entries in
    let ends = c.args.ends.now in
    let z : c.down.top ≡ 0 = omega (arith, c.down-test.false) in
    let f : is_falsified (take (get_or ends 0 (length es)) es) c.args.lits.now ≡ true
    = subst (λ n. is_falsified (take (get_or ends n (length es)) es) c.args.lits.now ≡ true) z c.down.invariant.1 in
    inl (down-ends es ends c.len.ensures.apart c.requires.rising c.requires.starts c.args.lits.now c.requires.explained f, refl)
