use Rattle.std.proofs.Common.{◌≡◌, ◌∷◌, ◌++◌, [], ℕ, Bool, not, cond, List, take, get_or, sym, ap, ◌∙◌, append-nil, arith, Vec, Global}
use Rattle.std.proofs.lemmas.List.{take_all}
use Rattle.std.proofs.lemmas.List.Elements.{filter_more}
use Rattle.svr_phase.specs.Cyclic.{is_among, unused}
use Rattle.svr_cyclic.proofs.values.unused.Goals as goal
use Rattle.svr_cyclic.proofs.values.unused.Goals.{then-is_left+in_ok-push, else-is_left}

pub loop-value-preserved : goal.loop-value-preserved
loop-value-preserved c =
    let i = c.loop-value.value-index in
    let used = c.args.used.now in
    let vs = c.args.domain.now in
    let v : ℕ = get_or vs i 0 in
    let test : c.is_left.result ≡ not (is_among (get_or c.args.domain.now c.loop-value.value-index 0) c.args.used.now) = c.is_left.ensures ∙ ap not (c.in_ok-set.ensures v) in
    let more = filter_more (λ u. not (is_among u used)) vs i 0 c.loop-value-test.true in
    elim c.if-is_left.branch [
      | then-is_left+in_ok-push w ↦
          ap (λ (x : Vec ℕ Global). x.items) w.left-is ∙ w.in_ok-push.ensures.items ∙ ap (λ (xs : List ℕ). xs ++ v ∷ []) c.loop-value.invariant
          ∙ sym (more ∙ ap (λ (b : Bool). unused used (take i vs) ++ cond b (v ∷ []) []) (sym test ∙ w.if-is_left.true))
      | else-is_left w ↦
          ap (λ (x : Vec ℕ Global). x.items) w.left-is ∙ c.loop-value.invariant
          ∙ sym (more ∙ ap (λ (b : Bool). unused used (take i vs) ++ cond b (v ∷ []) []) (sym test ∙ w.if-is_left.false) ∙ append-nil (unused used (take i vs)))
    ]

pub returns : goal.returns
returns c = c.loop-value.invariant ∙ ap (unused c.args.used.now) (take_all c.loop-value.value-index c.args.domain.now (omega (arith, c.loop-value-test.false)))
