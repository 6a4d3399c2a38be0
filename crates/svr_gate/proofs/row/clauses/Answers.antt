use Rattle.std.proofs.Common.{◌≡◌, ◌∙◌, ◌*◌, ◌%◌, ◌^◌, ap, sym, subst, arith, List, length, map}
use Rattle.std.specs.Prelude.{unwrap_or}
use Rattle.std.proofs.lemmas.List.{length-map}
use Rattle.std.proofs.lemmas.Result.{IfOk-weaker}
use Rattle.svr_chain.specs.declared.clause.Lit.{Lit}
use Rattle.svr_gate.specs.Covers.{cube_clause, rows_upto, clause_count, Defines}
use Rattle.svr_gate.proofs.BitLemmas.{row_count}
use Rattle.svr_gate.proofs.CoverLemmas.{covers_define, cover_at, rows_at, length-rows_upto}
use Rattle.svr_gate.proofs.row.clauses.Goals as goal

pub returns-in-Some-clause-defines : goal.returns-in-Some-clause-defines
returns-in-Some-clause-defines c =
    let ins = c.args.ins.now in
    let cubes = c.in-Some.short.now in
    IfOk-weaker c.cubes.result
    (λ cs. cs.items ≡ map (cube_clause c.args.table ins c.args.out) cubes)
    (λ cs. Defines c.args.table ins c.args.out cs.items)
    (λ cs e. subst (λ (x : List (List Lit)). Defines c.args.table ins c.args.out x) (sym e) (covers_define c.args.table ins c.args.out cubes (cover_at (length ins) c.args.table cubes c.in-Some.ensures.cover)))
    c.cubes.ensures

pub returns-in-None-clause-defines : goal.returns-in-None-clause-defines
returns-in-None-clause-defines c =
    let ins = c.args.ins.now in
    let count = (1 * 2 ^ length ins) % 2 ^ 16 in
    IfOk-weaker c.rows.result
    (λ cs. cs.items ≡ map (cube_clause c.args.table ins c.args.out) (rows_upto count))
    (λ cs. Defines c.args.table ins c.args.out cs.items)
    (λ cs e.
    subst (λ (x : List (List Lit)). Defines c.args.table ins c.args.out x)
    (sym (e ∙ ap (λ n. map (cube_clause c.args.table ins c.args.out) (rows_upto n)) (row_count (length ins) c.requires).0))
    (covers_define c.args.table ins c.args.out (rows_upto (2 ^ length ins)) (rows_at (length ins) c.args.table c.requires)))
    c.rows.ensures

pub returns-in-None-clause-count : goal.returns-in-None-clause-count
returns-in-None-clause-count c =
    let ins = c.args.ins.now in
    let made = cube_clause c.args.table ins c.args.out in
    let count = (1 * 2 ^ length ins) % 2 ^ 16 in
    IfOk-weaker c.rows.result
    (λ cs. cs.items ≡ map made (rows_upto count))
    (λ cs. length cs.items ≡ clause_count (length ins) c.args.table)
    (λ cs e.
    ap (λ (x : List (List Lit)). length x) e
    ∙ length-map (rows_upto count) made
    ∙ length-rows_upto count
    ∙ (row_count (length ins) c.requires).0
    ∙ sym (ap (λ o. unwrap_or o (2 ^ length ins)) c.in-None.ensures.none))
    c.rows.ensures

pub overflow_cast-ins : goal.overflow_cast-ins
overflow_cast-ins c = omega (arith, c.requires)

pub overflow_shl-ins : goal.overflow_shl-ins
overflow_shl-ins c = omega (arith, c.requires)

pub rows-requires-clause-rows : goal.rows-requires-clause-rows
rows-requires-clause-rows c = (row_count (length c.args.ins.now) c.requires).1
