use Rattle.std.proofs.Common.{◌∙◌, ◌++◌, ◌∷◌, [], Vec, Global, List, false, get_or, sym, ap}
use Rattle.svr_chain.specs.declared.clause.Lit.{Lit}
use Rattle.svr_chain.specs.Clauses.{has, without}
use Rattle.svr_chain.proofs.Turns.{differ, without-kept, without-left, joined-new, joined-there, joined-left}
use Rattle.svr_chain.proofs.clause.resolve.Goals as goal
use Rattle.svr_chain.proofs.clause.resolve.Goals.{then-ne+in_ok-push, else-ne}
use Rattle.svr_chain.proofs.clause.resolve.Goals.{then-ne-2+then-not-has_lit+in_ok-push-2, else-ne-2, else-ne-2-via-then-ne-2+else-not-has_lit, else-ne-2-via-else-ne-2}

pub loop-x-preserved : goal.loop-x-preserved
loop-x-preserved c =
    let p = c.args.pivot in
    let xs = c.args.here.now in
    let i = c.loop-x.x-index in
    let d : Lit = record { var = 0; neg = false } in
    let h = c.loop-x-test.true in
    let test = differ (get_or xs i d) p c.ne.result c.ne.ensures in
    elim c.if-ne.branch [
      | then-ne+in_ok-push w ↦
          ap (λ (v : Vec Lit Global). v.items) w.lits-is ∙ w.in_ok-push.ensures.items
          ∙ ap (λ (z : List Lit). z ++ get_or xs i d ∷ []) c.loop-x.invariant
          ∙ without-kept p xs i d h (test ∙ w.if-ne.true)
      | else-ne w ↦
          ap (λ (v : Vec Lit Global). v.items) w.lits-is ∙ c.loop-x.invariant
          ∙ without-left p xs i d h (test ∙ w.if-ne.false)
    ]

pub loop-y-preserved : goal.loop-y-preserved
loop-y-preserved c =
    let q = c.flipped-other.result in
    let start = without c.args.pivot c.args.here.now in
    let ys = c.args.there.now in
    let i = c.loop-y.y-index in
    let d : Lit = record { var = 0; neg = false } in
    let y = get_or ys i d in
    let lits = c.loop-y.lits.items in
    let h = c.loop-y-test.true in
    let test = differ y q c.ne-in-loop-y.result c.ne-in-loop-y.ensures in
    elim c.if-ne-2.branch [
      | then-ne-2+then-not-has_lit+in_ok-push-2 w ↦
          let t = ap (λ z. has z y) (sym w.as_slice.ensures.value) ∙ sym w.has_lit.ensures ∙ w.if-not-has_lit.true in
          ap (λ (v : Vec Lit Global). v.items) w.lits-is ∙ w.in_ok-push-2.ensures.items
          ∙ joined-new q start ys i d h lits c.loop-y.invariant (test ∙ w.if-ne-2.true) t
      | else-ne-2 w ↦
          ap (λ (v : Vec Lit Global). v.items) w.lits-is
          ∙ elim w.else-ne-2.branch [
            | else-ne-2-via-then-ne-2+else-not-has_lit v ↦
                let t = ap (λ z. has z y) (sym v.as_slice.ensures.value) ∙ sym v.has_lit.ensures ∙ v.if-not-has_lit.false in
                joined-there q start ys i d h lits c.loop-y.invariant t
            | else-ne-2-via-else-ne-2 v ↦ joined-left q start ys i d h lits c.loop-y.invariant (test ∙ v.if-ne-2.false)
          ]
    ]
