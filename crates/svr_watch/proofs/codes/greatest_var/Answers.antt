use Rattle.std.proofs.Common.{◌≡◌, ◌+◌, ◌<◌, ◌≤◌, ◌++◌, ◌∷◌, [], ℕ, List, length, take, get_or, subst, arith, false}
use Rattle.std.proofs.lemmas.List.{take_more, take_all}
use Rattle.std.proofs.lemmas.List.Elements.{All-get_or, All-push}
use Rattle.svr_chain.specs.declared.clause.Lit.{Lit}
use Rattle.svr_chain.specs.Clauses.{AreWithin, IsWithin}
use Rattle.svr_watch.specs.Store.{HasCode}
use Rattle.svr_watch.proofs.codes.greatest_var.Goals as goal

pub loop-lit-init : goal.loop-lit-init
loop-lit-init c = λ k d h. absurd (omega (arith, h))

pub loop-lit-preserved : goal.loop-lit-preserved
loop-lit-preserved c =
    let ls = c.args.lits.now in
    let i : ℕ = c.loop-lit.lit-index in
    let d : Lit = record { var = 0; neg = false } in
    let l : Lit = get_or ls i d in
    let h : i < length ls = c.loop-lit-test.true in
    let m : take (i + 1) ls ≡ take i ls ++ l ∷ [] = take_more ls i d h in
    let r : ℕ = c.greater-most.result in
    let w : AreWithin r (take i ls) = λ k e q. let b = c.loop-lit.invariant k e q in (b.0, omega (arith, b.1, c.greater-most.ensures.one)) in
    let p : 0 < l.var = (All-get_or HasCode ls i d h c.requires).0 in
    rw m (All-push (IsWithin r) (take i ls) l w (p, c.greater-most.ensures.other))

pub returns : goal.returns
returns c =
    let ls = c.args.lits.now in
    let i : ℕ = c.loop-lit.lit-index in
    let n : i ≡ length ls = omega arith in
    let t : take i ls ≡ ls = take_all i ls (omega (arith, n)) in
    subst (AreWithin c.loop-lit.most) t c.loop-lit.invariant
