use Rattle.std.proofs.Common.{◌≡◌, ℕ, ◌+◌, ◌<◌, ◌≤◌, List, length, get_or, ap, ◌∙◌, arith, inl, inr, false}
use Rattle.std.proofs.lemmas.Bool.{cases_lt}
use Rattle.std.proofs.lemmas.List.{get_or_default}
use Rattle.svr_chain.specs.declared.clause.Lit.{Lit}
use Rattle.svr_chain.specs.Clauses.{has}
use Rattle.svr_chain.specs.Lists.{listed}
use Rattle.svr_chain.proofs.Same.{has-at}
use Rattle.svr_chain.proofs.index.Index.rarest.Goals as goal
use Rattle.svr_chain.proofs.index.Index.rarest.Goals.{then-filed, else-filed}

-- the least so far, one element later
least-more : (f : Lit → ℕ) (xs : List Lit) (i : ℕ) (d : Lit) (best old : ℕ) → i < length xs → best ≤ f (get_or xs i d) → best ≤ old
    → ((k : ℕ) (e : Lit) → k < i → old ≤ f (get_or xs k e)) → (k : ℕ) (e : Lit) → k < i + 1 → best ≤ f (get_or xs k e)
least-more f xs i d best old h b o w k e q =
    elim (cases_lt k i) [
      | inl a ↦ let r : old ≤ f (get_or xs k e) = w k e a in omega (arith, o, r)
      | inr a ↦
          let n : k ≡ i = omega (arith, a, q) in
          let g : f (get_or xs k e) ≡ f (get_or xs i d) = ap (λ z. f (get_or xs z e)) n ∙ ap f (get_or_default xs i e d h) in
          omega (arith, b, g)
    ]

pub loop-lit-preserved : goal.loop-lit-preserved
loop-lit-preserved c =
    let xs : List Lit = c.args.lits.now in
    let vs : List (List ℕ) = c.args.self.now.lists in
    let i : ℕ = c.loop-lit.lit-index in
    let d : Lit = record { var = 0; neg = false } in
    let f : Lit → ℕ = λ x. length (listed vs x) in
    let h : i < length xs = c.loop-lit-test.true in
    let g : length c.filed.result.now ≡ f (get_or xs i d) = ap (λ (z : List ℕ). length z) c.filed.ensures in
    let o : length c.filed-in-loop-lit.result.now ≡ f c.loop-lit.rarest = ap (λ (z : List ℕ). length z) c.filed-in-loop-lit.ensures in
    elim c.if-filed.branch [
      | then-filed w ↦
          let s : f c.if-filed.rarest ≡ f (get_or xs i d) = ap f w.rarest-is in
          let l : length c.filed.result.now < length c.filed-in-loop-lit.result.now = w.if-filed.true in
          record {
            among = ap (has xs) w.rarest-is ∙ has-at xs i d h;
            shortest = least-more f xs i d (f c.if-filed.rarest) (f c.loop-lit.rarest) h (omega (arith, s)) (omega (arith, s, g, o, l)) c.loop-lit.invariant.shortest;
          }
      | else-filed w ↦
          let s : f c.if-filed.rarest ≡ f c.loop-lit.rarest = ap f w.rarest-is in
          let l : length c.filed-in-loop-lit.result.now ≤ length c.filed.result.now = w.if-filed.false in
          record {
            among = ap (has xs) w.rarest-is ∙ c.loop-lit.invariant.among;
            shortest = least-more f xs i d (f c.if-filed.rarest) (f c.loop-lit.rarest) h (omega (arith, s, g, o, l)) (omega (arith, s)) c.loop-lit.invariant.shortest;
          }
    ]
