use Rattle.std.proofs.Common.{◌≡◌, ◌∙◌, ◌<◌, ◌≤◌, List, true, false, get_or, length, map, take, ap, sym, arith}
use Rattle.std.proofs.lemmas.Bool.{and_from}
use Rattle.std.proofs.lemmas.List.{length-map, take_all}
use Rattle.std.proofs.lemmas.List.Folds.{list_all_at, list_all_more}
use Rattle.std.specs.List.{list_all}
use Rattle.svr_chain.specs.declared.clause.Lit.{Lit}
use Rattle.svr_chain.specs.Clauses.{has, is_within}
use Rattle.svr_watch.specs.Codes.{lit_of}
use Rattle.svr_watch.proofs.Named.{get_or-map}
use Rattle.svr_watch.proofs.find.are_codes_within.Goals as goal

pub loop-code-preserved : goal.loop-code-preserved
loop-code-preserved c =
    let lits = c.args.lits.now in
    let xs = c.args.codes.now in
    let ls : List Lit = map lit_of xs in
    let i = c.loop-code.code-index in
    let d : Lit = record { var = 0; neg = false } in
    let h : i < length xs = c.loop-code-test.true in
    let l : length (map lit_of xs) ≡ length xs = length-map xs lit_of in
    let q : c.lit_of.result ≡ get_or ls i d = c.lit_of.ensures ∙ sym (get_or-map lit_of xs i 0 d h) in
    let t : has lits (get_or ls i d) ≡ true = ap (has lits) (sym q) ∙ (sym c.has_lit.ensures ∙ c.if-not-has_lit.false) in
    list_all_more (λ x. has lits x) ls i d (omega (arith, h, l)) ∙ and_from (is_within (take i ls) lits) (has lits (get_or ls i d)) c.loop-code.invariant t

pub returns-then-not-has_lit : goal.returns-then-not-has_lit
returns-then-not-has_lit c =
    let lits = c.args.lits.now in
    let xs = c.args.codes.now in
    let ls : List Lit = map lit_of xs in
    let i = c.loop-code.code-index in
    let d : Lit = record { var = 0; neg = false } in
    let h : i < length xs = c.loop-code-test.true in
    let l : length (map lit_of xs) ≡ length xs = length-map xs lit_of in
    let q : c.lit_of.result ≡ get_or ls i d = c.lit_of.ensures ∙ sym (get_or-map lit_of xs i 0 d h) in
    let t : has lits (get_or ls i d) ≡ false = ap (has lits) (sym q) ∙ (sym c.has_lit.ensures ∙ c.if-not-has_lit.true) in
    sym (list_all_at (λ x. has lits x) ls i d (omega (arith, h, l)) t)

pub returns : goal.returns
returns c =
    let lits = c.args.lits.now in
    let xs = c.args.codes.now in
    let ls : List Lit = map lit_of xs in
    let i = c.loop-code.code-index in
    let l : length (map lit_of xs) ≡ length xs = length-map xs lit_of in
    let o : length ls ≤ i = omega (arith, l, c.loop-code-test.false) in
    sym (ap (list_all (λ x. has lits x)) (sym (take_all i ls o)) ∙ c.loop-code.invariant)
