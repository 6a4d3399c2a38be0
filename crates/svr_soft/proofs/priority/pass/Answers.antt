use Rattle.std.proofs.Common.{◌≡◌, ap, sym, subst, ◌∙◌, ℕ, ◌++◌, List, [], true, length, arith}
use Rattle.std.proofs.lemmas.Bool.{eqb-true}
use Rattle.std.specs.List.{list_all}
use Rattle.svr_chain.specs.declared.clause.Lit.{Lit}
use Rattle.svr_chain.specs.Valuations.{lit_value}
use Rattle.svr_query.specs.declared.solver.Answer.TheVariants.{Satisfied, Refuted, Spent}
use Rattle.svr_query.specs.Logged.{valuation_of}
use Rattle.svr_query.specs.Answer.{IsAnswer, IsModel, IsRefutation}
use Rattle.svr_soft.specs.Kept.{with_kept, IsKept, AreDropped, ranks_to}
use Rattle.svr_chain.proofs.Sound.{no_valuation-from_accepted}
use Rattle.svr_soft.proofs.Passes.{alone, all-end-kept, all-end-dropped, all-end-true}
use Rattle.svr_soft.proofs.priority.pass.Goals as goal

pub returns-in-Satisfied-clause-end : goal.returns-in-Satisfied-clause-end
returns-in-Satisfied-clause-end c =
    let base = c.args.base.now in
    let soft = c.args.soft.now in
    let ks = c.args.solver.now.clauses in
    let vs = c.in-Satisfied.values.items in
    let kept = c.in_ok-kept-in-Satisfied.kept.items in
    let e : c.as_slice.result.now ≡ base ++ soft
    = c.as_slice.ensures.value ∙ (c.in_ok-extend_from_slice.ensures.items ∙ ap (λ (z : List Lit). z ++ soft) c.in_ok-all.ensures.items) in
    let a : IsAnswer c.args.solver.now c.as_slice.result.now c.args.budget (Satisfied c.in-Satisfied.values) = rw c.in-Satisfied.is at c.in_ok-values.ensures.answer in
    let m : IsModel ks (base ++ soft) vs = subst (λ z. IsModel ks z vs) e a.1 in
    let r : kept ≡ ranks_to (length soft) = c.in_ok-kept-in-Satisfied.ensures in (
      subst (IsKept ks base soft (length soft)) (sym r) (all-end-kept ks base soft (valuation_of vs) m.0 m.1),
      rw c.new.ensures.items (subst (λ z. AreDropped ks base soft (length soft) z []) (sym r) (all-end-dropped ks base soft (valuation_of vs) m.0 m.1)),
      a.0,
      (m.0, subst (λ z. list_all (lit_value (valuation_of vs)) (with_kept base soft z) ≡ true) (sym r) (all-end-true ks base soft (valuation_of vs) m.0 m.1)),
    )

pub returns-then-is_empty-clause-end : goal.returns-then-is_empty-clause-end
returns-then-is_empty-clause-end c =
    let base = c.args.base.now in
    let soft = c.args.soft.now in
    let e : c.as_slice.result.now ≡ base
    = c.as_slice.ensures.value ∙ (c.in_ok-extend_from_slice.ensures.items ∙ ap (λ (z : List Lit). z ++ soft) c.in_ok-all.ensures.items) ∙ alone base soft (eqb-true (length soft) 0 (sym c.is_empty.ensures ∙ c.if-is_empty.true)) in
    let a : IsAnswer c.args.solver.now c.as_slice.result.now c.args.budget (Refuted c.in-Refuted.refutation) = rw c.in-Refuted.is at c.in_ok-values.ensures.answer in
    let r : IsRefutation c.args.solver.now.clauses base c.in-Refuted.refutation = subst (λ (ls : List Lit). IsRefutation c.args.solver.now.clauses ls c.in-Refuted.refutation) e a in
    (no_valuation-from_accepted c.args.solver.now.clauses base c.in-Refuted.refutation.steps c.in-Refuted.refutation.goal r.1 r.0, r)

pub returns-then-is_empty-2-clause-end : goal.returns-then-is_empty-2-clause-end
returns-then-is_empty-2-clause-end c =
    let a : IsAnswer c.args.solver.now c.as_slice.result.now c.args.budget (Spent c.in-Spent.log c.in-Spent.first) = rw c.in-Spent.is at c.in_ok-values.ensures.answer in
    (tt, a.0, omega (arith, a.1), a.3)
