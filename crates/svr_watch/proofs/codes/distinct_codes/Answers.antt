use Rattle.std.proofs.Common.{◌≡◌, ◌∙◌, ◌+◌, ◌<◌, ◌++◌, ◌∷◌, [], Bool, true, false, take, get_or, length, ap, sym}
use Rattle.std.proofs.lemmas.List.{take_more}
use Rattle.std.proofs.lemmas.List.Elements.{All-get_or}
use Rattle.svr_arena.specs.Layout.{is_in}
use Rattle.svr_chain.specs.declared.clause.Lit.{Lit}
use Rattle.svr_watch.specs.Codes.{code_of}
use Rattle.svr_watch.specs.Store.{HasCode}
use Rattle.svr_watch.proofs.Distinct.{codes-new, codes-old}
use Rattle.svr_watch.proofs.codes.distinct_codes.Goals as goal
use Rattle.svr_watch.proofs.codes.distinct_codes.Goals.{then-not-has_code+in_ok-push, else-not-has_code}

pub loop-lit-preserved : goal.loop-lit-preserved
loop-lit-preserved c =
    let xs = c.loop-lit.codes.items in
    let ls = c.args.lits.now in
    let i = c.loop-lit.lit-index in
    let d : Lit = record { var = 0; neg = false } in
    let l : Lit = get_or ls i d in
    let h : i < length ls = c.loop-lit-test.true in
    let ce : c.code_of-code.result ≡ code_of l = c.code_of-code.ensures in
    let pos = (All-get_or HasCode ls i d h c.requires).0 in
    let m : take (i + 1) ls ≡ take i ls ++ l ∷ [] = take_more ls i d h in
    let o : (b : Bool) → c.has_code.result ≡ b → is_in (code_of l) xs ≡ b
    = λ b e. ap (λ z. is_in z xs) (sym ce) ∙ (ap (is_in c.code_of-code.result) (sym c.as_slice.ensures.value) ∙ (sym c.has_code.ensures ∙ e)) in
    elim c.if-not-has_code.branch [
      | then-not-has_code+in_ok-push w ↦
          let q : w.push.new.self.items ≡ xs ++ code_of l ∷ [] = w.in_ok-push.ensures.items ∙ ap (λ z. xs ++ z ∷ []) ce in
          rw (w.codes-is, q, m) (codes-new xs (take i ls) l pos c.loop-lit.invariant (o false w.if-not-has_code.true))
      | else-not-has_code w ↦ rw (w.codes-is, m) (codes-old xs (take i ls) l pos c.loop-lit.invariant (o true w.if-not-has_code.false))
    ]
