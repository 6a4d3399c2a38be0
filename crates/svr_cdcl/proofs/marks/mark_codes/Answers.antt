use Rattle.std.proofs.Common.{◌≡◌, ◌∙◌, ℕ, ◌<◌, ◌≤◌, ◌||◌, false, List, get_or, length, map, refl, ap, sym, subst, arith}
use Rattle.std.proofs.lemmas.List.{length-map, take_all}
use Rattle.svr_chain.specs.declared.clause.Lit.{Lit}
use Rattle.svr_watch.specs.Codes.{lit_of}
use Rattle.svr_cdcl.specs.Marks.{Marks, is_marked, is_touched}
use Rattle.svr_cdcl.proofs.MarkLemmas.{besides-at, marks-none, marks-step}
use Rattle.svr_watch.proofs.Named.{get_or-map}
use Rattle.svr_cdcl.proofs.marks.mark_codes.Goals as goal

pub loop-code-init : goal.loop-code-init
loop-code-init c = record { vars = refl; lits = c.requires.lits; marked = marks-none c.args.marks.now.entries c.args.keep }

pub mark-requires-clause-falsified : goal.mark-requires-clause-falsified
mark-requires-clause-falsified c =
    let d : Lit = record { var = 0; neg = false } in
    let es = c.args.trail.now.entries in
    let i = c.loop-code.code-index in
    let xs = c.args.codes.now in
    let h : i < length xs = c.loop-code-test.true in
    let l : length (map lit_of xs) ≡ length xs = length-map xs lit_of in
    let q : get_or (map lit_of xs) i d ≡ c.lit_of.result = get_or-map lit_of xs i 0 d h ∙ sym c.lit_of.ensures in
    rw (← q) (besides-at es c.args.keep (map lit_of xs) i d (omega (arith, h, l)) c.requires.falsified)

pub loop-code-preserved : goal.loop-code-preserved
loop-code-preserved c =
    let d : Lit = record { var = 0; neg = false } in
    let i = c.loop-code.code-index in
    let xs = c.args.codes.now in
    let ls : List Lit = map lit_of xs in
    let h : i < length xs = c.loop-code-test.true in
    let l : length (map lit_of xs) ≡ length xs = length-map xs lit_of in
    let q : c.lit_of.result ≡ get_or ls i d = c.lit_of.ensures ∙ sym (get_or-map lit_of xs i 0 d h) in
    let ms = c.loop-code.marks.entries in
    let ns = c.mark.new.marks.entries in
    let n : (v : ℕ) → is_marked ns v ≡ (is_marked ms v || is_touched c.args.keep (get_or ls i d) v)
    = λ v. c.mark.ensures.marked v ∙ ap (λ z. is_marked ms v || is_touched c.args.keep z v) q in
    record {
      vars = c.mark.ensures.vars ∙ c.loop-code.invariant.vars;
      lits = c.mark.ensures.lits;
      marked = marks-step c.args.marks.now.entries ms ns c.args.keep ls i d (omega (arith, h, l)) c.loop-code.invariant.marked n;
    }

pub returns-clause-marked : goal.returns-clause-marked
returns-clause-marked c =
    let ls : List Lit = map lit_of c.args.codes.now in
    let l : length ls ≡ length c.args.codes.now = length-map c.args.codes.now lit_of in
    let o : length ls ≤ c.loop-code.code-index = omega (arith, l, c.loop-code-test.false) in
    subst (Marks c.args.marks.now.entries c.loop-code.marks.entries c.args.keep) (take_all c.loop-code.code-index ls o) c.loop-code.invariant.marked
