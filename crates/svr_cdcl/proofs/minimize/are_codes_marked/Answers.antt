use Rattle.std.proofs.Common.{◌≡◌, ◌∙◌, ◌<◌, ◌≤◌, ◌||◌, List, Some, true, false, get_or, length, map, take, ap, sym, arith}
use Rattle.std.proofs.lemmas.Bool.{and_from}
use Rattle.std.proofs.lemmas.List.{length-map, take_all}
use Rattle.std.proofs.lemmas.List.Folds.{list_all_at, list_all_more}
use Rattle.std.specs.List.{list_all}
use Rattle.svr_chain.specs.declared.clause.Lit.{Lit}
use Rattle.svr_chain.specs.Clauses.{same_lit}
use Rattle.svr_watch.specs.Codes.{lit_of}
use Rattle.svr_watch.proofs.Named.{get_or-map}
use Rattle.svr_cdcl.specs.Marks.{are_marked, is_marked}
use Rattle.svr_cdcl.proofs.minimize.are_codes_marked.Goals as goal

pub loop-code-preserved : goal.loop-code-preserved
loop-code-preserved c =
    let ms = c.args.marks.now.entries in
    let k = c.args.keep in
    let xs = c.args.codes.now in
    let ls : List Lit = map lit_of xs in
    let i = c.loop-code.code-index in
    let d : Lit = record { var = 0; neg = false } in
    let h : i < length xs = c.loop-code-test.true in
    let l : length (map lit_of xs) ≡ length xs = length-map xs lit_of in
    let q : c.lit_of.result ≡ get_or ls i d = c.lit_of.ensures ∙ sym (get_or-map lit_of xs i 0 d h) in
    let t : (same_lit (get_or ls i d) k || is_marked ms (get_or ls i d).var) ≡ true = ap (λ (z : Lit). same_lit z k || is_marked ms z.var) (sym q) ∙ (sym c.is_seen.ensures ∙ c.if-not-is_seen.false) in
    list_all_more (λ x. same_lit x k || is_marked ms x.var) ls i d (omega (arith, h, l))
    ∙ and_from (are_marked ms (Some k) (take i ls)) (same_lit (get_or ls i d) k || is_marked ms (get_or ls i d).var) c.loop-code.invariant t

pub returns-then-not-is_seen : goal.returns-then-not-is_seen
returns-then-not-is_seen c =
    let ms = c.args.marks.now.entries in
    let k = c.args.keep in
    let xs = c.args.codes.now in
    let ls : List Lit = map lit_of xs in
    let i = c.loop-code.code-index in
    let d : Lit = record { var = 0; neg = false } in
    let h : i < length xs = c.loop-code-test.true in
    let l : length (map lit_of xs) ≡ length xs = length-map xs lit_of in
    let q : c.lit_of.result ≡ get_or ls i d = c.lit_of.ensures ∙ sym (get_or-map lit_of xs i 0 d h) in
    let t : (same_lit (get_or ls i d) k || is_marked ms (get_or ls i d).var) ≡ false = ap (λ (z : Lit). same_lit z k || is_marked ms z.var) (sym q) ∙ (sym c.is_seen.ensures ∙ c.if-not-is_seen.true) in
    sym (list_all_at (λ x. same_lit x k || is_marked ms x.var) ls i d (omega (arith, h, l)) t)

pub returns : goal.returns
returns c =
    let ms = c.args.marks.now.entries in
    let k = c.args.keep in
    let xs = c.args.codes.now in
    let ls : List Lit = map lit_of xs in
    let i = c.loop-code.code-index in
    let l : length (map lit_of xs) ≡ length xs = length-map xs lit_of in
    let o : length ls ≤ i = omega (arith, l, c.loop-code-test.false) in
    sym (ap (are_marked ms (Some k)) (sym (take_all i ls o)) ∙ c.loop-code.invariant)
