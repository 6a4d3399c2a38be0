use Rattle.std.proofs.Common.{◌≡◌, ◌∙◌, ◌+◌, ◌<◌, ◌++◌, ◌∷◌, [], ℕ, List, Some, None, true, false, take, get_or, length, ap, sym, refl, subst, arith}
use Rattle.std.proofs.lemmas.List.{take_more, take_all}
use Rattle.std.proofs.lemmas.List.Elements.{All-get_or}
use Rattle.svr_chain.specs.declared.clause.Lit.{Lit}
use Rattle.svr_chain.specs.Clauses.{IsWithin, is_tautology}
use Rattle.svr_trail.specs.declared.Entry.{Entry}
use Rattle.svr_trail.specs.Trail.{value_in}
use Rattle.svr_watch.specs.Codes.{code_of}
use Rattle.svr_watch.specs.Store.{AreCodes, HasCode}
use Rattle.svr_watch.proofs.Distinct.{codes-new, codes-none}
use Rattle.svr_watch.proofs.Marked.{code-new, codes-there, marked-new, marked-none, marked-old, marked-opposite, marked-plain, neither-open, open-absent}
use Rattle.svr_watch.proofs.codes.marked_codes.Goals as goal

pub loop-lit-init : goal.loop-lit-init
loop-lit-init c = record { vars = refl; codes = rw c.new-codes.ensures.items codes-none; marked = rw c.requires.fresh marked-none }

pub loop-lit-preserved-then-is_marked : goal.loop-lit-preserved-then-is_marked
loop-lit-preserved-then-is_marked c =
    let ls = c.args.lits.now in
    let i : ℕ = c.loop-lit.lit-index in
    let d : Lit = record { var = 0; neg = false } in
    let l : Lit = get_or ls i d in
    let h : i < length ls = c.loop-lit-test.true in
    let m : take (i + 1) ls ≡ take i ls ++ l ∷ [] = take_more ls i d h in
    let inv = c.loop-lit.invariant in
    let t : value_in c.loop-lit.marks.entries l ≡ Some true = c.is_marked.ensures.yes c.if-is_marked.true in
    record {
      vars = inv.vars;
      codes = rw m (codes-there c.loop-lit.codes.items (take i ls) l inv.codes (inv.marked.back l t));
      marked = rw m (marked-old c.loop-lit.marks.entries (take i ls) l inv.marked t);
    }

pub returns-then-is_opposed : goal.returns-then-is_opposed
returns-then-is_opposed c =
    let ls = c.args.lits.now in
    let i : ℕ = c.loop-lit.lit-index in
    let d : Lit = record { var = 0; neg = false } in
    let h : i < length ls = c.loop-lit-test.true in
    marked-opposite c.loop-lit.marks.entries ls i d h c.loop-lit.invariant.marked (c.is_opposed.ensures.yes c.if-is_opposed.true)

pub put-requires-clause-within : goal.put-requires-clause-within
put-requires-clause-within c =
    let ls = c.args.lits.now in
    let i : ℕ = c.loop-lit.lit-index in
    let d : Lit = record { var = 0; neg = false } in
    let h : i < length ls = c.loop-lit-test.true in
    rw c.loop-lit.invariant.vars (All-get_or (IsWithin c.args.marks.now.vars) ls i d h c.requires.within)

pub put-requires-clause-open : goal.put-requires-clause-open
put-requires-clause-open c =
    let ls = c.args.lits.now in
    let i : ℕ = c.loop-lit.lit-index in
    let d : Lit = record { var = 0; neg = false } in
    neither-open (value_in c.loop-lit.marks.entries (get_or ls i d)) (c.is_marked.ensures.no c.if-is_marked.false) (c.is_opposed.ensures.no c.if-is_opposed.false)

pub loop-lit-preserved : goal.loop-lit-preserved
loop-lit-preserved c =
    let ls = c.args.lits.now in
    let i : ℕ = c.loop-lit.lit-index in
    let d : Lit = record { var = 0; neg = false } in
    let l : Lit = get_or ls i d in
    let h : i < length ls = c.loop-lit-test.true in
    let m : take (i + 1) ls ≡ take i ls ++ l ∷ [] = take_more ls i d h in
    let inv = c.loop-lit.invariant in
    let es : List Entry = c.loop-lit.marks.entries in
    let xs : List ℕ = c.loop-lit.codes.items in
    let e : Entry = record { lit = l; reason = None } in
    let o : value_in es l ≡ None = neither-open (value_in es l) (c.is_marked.ensures.no c.if-is_marked.false) (c.is_opposed.ensures.no c.if-is_opposed.false) in
    let p : c.put.new.self.entries ≡ es ++ e ∷ [] = ap (λ z. z.entries) c.put.ensures.put in
    let v : c.put.new.self.vars ≡ c.loop-lit.marks.vars = ap (λ z. z.vars) c.put.ensures.put in
    let q : c.push.new.self.items ≡ xs ++ code_of l ∷ [] = c.in_ok-push.ensures.items ∙ ap (λ z. xs ++ z ∷ []) c.code_of-code.ensures in
    let pos : 0 < l.var = (All-get_or HasCode ls i d h c.requires.codes).0 in
    record {
      vars = v ∙ inv.vars;
      codes = rw (q, m) (codes-new xs (take i ls) l pos inv.codes (code-new xs (take i ls) l pos inv.codes (open-absent es (take i ls) l inv.marked o)));
      marked = rw (p, m) (marked-new es (take i ls) l inv.marked o);
    }

pub returns : goal.returns
returns c =
    let ls = c.args.lits.now in
    let i : ℕ = c.loop-lit.lit-index in
    let n : i ≡ length ls = omega arith in
    let t : take i ls ≡ ls = take_all i ls (omega (arith, n)) in
    let inv = c.loop-lit.invariant in
    record {
      codes = subst (AreCodes c.loop-lit.codes.items) t inv.codes;
      plain = subst (λ z. is_tautology z ≡ false) t (marked-plain c.loop-lit.marks.entries (take i ls) inv.marked);
    }
