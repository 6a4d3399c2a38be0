use Rattle.std.proofs.Common.{◌≡◌, ◌∙◌, ◌<◌, ◌≤◌, ◌||◌, List, true, false, get_or, length, map, ap, sym, arith}
use Rattle.std.proofs.lemmas.List.{length-map, take_all}
use Rattle.std.proofs.lemmas.List.Folds.{list_any_at, list_any_more}
use Rattle.svr_chain.specs.declared.clause.Lit.{Lit}
use Rattle.svr_chain.specs.Clauses.{has, same_lit}
use Rattle.svr_watch.specs.Codes.{lit_of}
use Rattle.svr_watch.proofs.Named.{get_or-map}
use Rattle.svr_cdcl.proofs.marks.has_code.Goals as goal

pub loop-code-preserved : goal.loop-code-preserved
loop-code-preserved c =
    let x = c.args.lit in
    let xs = c.args.codes.now in
    let ls : List Lit = map lit_of xs in
    let i = c.loop-code.code-index in
    let d : Lit = record { var = 0; neg = false } in
    let h : i < length xs = c.loop-code-test.true in
    let l : length (map lit_of xs) ≡ length xs = length-map xs lit_of in
    let q : c.lit_of.result ≡ get_or ls i d = c.lit_of.ensures ∙ sym (get_or-map lit_of xs i 0 d h) in
    let t : same_lit (get_or ls i d) x ≡ false = ap (λ z. same_lit z x) (sym q) ∙ (sym c.is_kept.ensures ∙ c.if-is_kept.false) in
    list_any_more (λ y. same_lit y x) ls i d (omega (arith, h, l))
    ∙ (ap (λ z. z || same_lit (get_or ls i d) x) c.loop-code.invariant ∙ t)

pub returns-then-is_kept : goal.returns-then-is_kept
returns-then-is_kept c =
    let x = c.args.lit in
    let xs = c.args.codes.now in
    let ls : List Lit = map lit_of xs in
    let i = c.loop-code.code-index in
    let d : Lit = record { var = 0; neg = false } in
    let h : i < length xs = c.loop-code-test.true in
    let l : length (map lit_of xs) ≡ length xs = length-map xs lit_of in
    let q : c.lit_of.result ≡ get_or ls i d = c.lit_of.ensures ∙ sym (get_or-map lit_of xs i 0 d h) in
    let t : same_lit (get_or ls i d) x ≡ true = ap (λ z. same_lit z x) (sym q) ∙ (sym c.is_kept.ensures ∙ c.if-is_kept.true) in
    sym (list_any_at (λ y. same_lit y x) ls i d (omega (arith, h, l)) t)

pub returns : goal.returns
returns c =
    let x = c.args.lit in
    let xs = c.args.codes.now in
    let ls : List Lit = map lit_of xs in
    let i = c.loop-code.code-index in
    let l : length (map lit_of xs) ≡ length xs = length-map xs lit_of in
    let o : length ls ≤ i = omega (arith, l, c.loop-code-test.false) in
    sym (ap (λ z. has z x) (sym (take_all i ls o)) ∙ c.loop-code.invariant)
