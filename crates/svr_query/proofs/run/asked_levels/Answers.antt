use Rattle.std.proofs.Common.{◌≡◌, ℕ, ◌+◌, ◌<◌, ◌∙◌, None, List, true, false, length, refl, get_or, sym, ap, subst}
use Rattle.svr_chain.specs.Clauses.{has}
use Rattle.svr_trail.specs.declared.Entry.{Entry}
use Rattle.svr_query.proofs.Levels.{begun-none, begun-more, asked-front}
use Rattle.svr_query.proofs.run.asked_levels.Goals as goal

pub loop-end-init : goal.loop-end-init
loop-end-init c = (refl, begun-none c.args.search.now c.args.assume.now)

pub bounds-entries-end : goal.bounds-entries-end
bounds-entries-end c =
    let s = c.args.search.now in
    let i = c.loop-end.end-index in
    let q : c.ends-end-items.result.now ≡ s.ends = c.ends-end-items.ensures in
    let h : i < length s.ends = subst (λ (xs : List ℕ). i < length xs) q c.loop-end-test.true in
    rw (c.entries-entries.ensures, q) (c.level.ensures.kept.short i h)

pub loop-end-preserved : goal.loop-end-preserved
loop-end-preserved c =
    let s = c.args.search.now in
    let assume = c.args.assume.now in
    let i = c.loop-end.end-index in
    let v = c.loop-end.invariant in
    let d : Entry = record { lit = record { var = 0; neg = false }; reason = None } in
    let e : c.entries-entries.result.now ≡ s.entries = c.entries-entries.ensures in
    let q : c.ends-end-items.result.now ≡ s.ends = c.ends-end-items.ensures in
    let h : i < length s.ends = subst (λ (xs : List ℕ). i < length xs) q c.loop-end-test.true in
    let a : has assume (get_or s.entries (get_or s.ends i 0) d).lit ≡ true
    = ap (λ (es : List Entry). has assume (get_or es (get_or s.ends i 0) d).lit) (sym e)
    ∙ (ap (λ (xs : List ℕ). has assume (get_or c.entries-entries.result.now (get_or xs i 0) d).lit) (sym q) ∙ c.in-Some.ensures) in
    (ap (λ n. n + 1) v.0, begun-more s assume c.level.ensures.kept c.loop-end.levels v.1 d (rw v.0 h) (rw v.0 a))

pub returns-in_default-clause-asked : goal.returns-in_default-clause-asked
returns-in_default-clause-asked c = asked-front c.args.search.now c.args.assume.now c.level.ensures.kept c.loop-end.levels c.loop-end.invariant.1

pub returns-clause-asked : goal.returns-clause-asked
returns-clause-asked c = asked-front c.args.search.now c.args.assume.now c.level.ensures.kept c.loop-end.levels c.loop-end.invariant.1
