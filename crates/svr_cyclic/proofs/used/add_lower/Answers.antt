use Rattle.std.proofs.Common.{◌∷◌, ◌++◌, [], ℕ, Bool, cond, List, take, get_or, sym, ap, ◌∙◌, append_assoc, append-nil, arith}
use Rattle.std.specs.Prelude.{nat_lt}
use Rattle.std.proofs.lemmas.List.{take_all}
use Rattle.std.proofs.lemmas.List.Elements.{filter_more}
use Rattle.svr_cyclic.specs.Values.{lower}
use Rattle.svr_cyclic.proofs.used.add_lower.Goals as goal
use Rattle.svr_cyclic.proofs.used.add_lower.Goals.{then-is_less+in_ok-push, else-is_less}

pub loop-one-preserved : goal.loop-one-preserved
loop-one-preserved c =
    let i = c.loop-one.one-index in
    let v = c.args.value in
    let us = c.args.used.now in
    let u : ℕ = get_or us i 0 in
    let more = filter_more (λ u. nat_lt u c.args.value) us i 0 c.loop-one-test.true in
    elim c.if-is_less.branch [
      | then-is_less+in_ok-push w ↦
          w.out-is ∙ w.in_ok-push.ensures.ok ∙ ap (λ (xs : List ℕ). xs ++ u ∷ []) c.loop-one.invariant ∙ append_assoc c.args.out.now (lower v (take i us)) (u ∷ [])
          ∙ ap (λ (xs : List ℕ). c.args.out.now ++ xs) (sym (more ∙ ap (λ (b : Bool). lower v (take i us) ++ cond b (u ∷ []) []) (sym c.is_less.ensures ∙ w.if-is_less.true)))
      | else-is_less w ↦
          w.out-is ∙ c.loop-one.invariant
          ∙ ap (λ (xs : List ℕ). c.args.out.now ++ xs) (sym (more ∙ ap (λ (b : Bool). lower v (take i us) ++ cond b (u ∷ []) []) (sym c.is_less.ensures ∙ w.if-is_less.false) ∙ append-nil (lower v (take i us))))
    ]

pub returns : goal.returns
returns c = c.loop-one.invariant ∙ ap (λ (us : List ℕ). c.args.out.now ++ lower c.args.value us) (take_all c.loop-one.one-index c.args.used.now (omega (arith, c.loop-one-test.false)))
