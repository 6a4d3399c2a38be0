-- How a pass ends, seen from a solver that has asked less
use Rattle.std.proofs.Common.{◌≡◌, ℕ, ◌+◌, ◌-◌, ◌<◌, ◌≤◌, ◌++◌, ◌∷◌, [], List, Bool, false, Some, length, take, get_or, refl, subst, ap, sym, ◌∙◌, arith}
use Rattle.std.proofs.lemmas.List.{take_all}
use Rattle.svr_chain.specs.declared.clause.Lit.{Lit}
use Rattle.svr_chain.specs.Views.{RefutationView}
use Rattle.svr_chain.specs.Valuations.{HaveNoValuation}
use Rattle.svr_query.specs.declared.solver.Answer.TheVariants as answer
use Rattle.svr_query.specs.Bits.{AreMany}
use Rattle.svr_query.specs.Answer.{SolverView, IsAnswer, IsModel, IsRefutation, SpendsBudget, MaySpend}
use Rattle.svr_soft.specs.declared.priority.PassEnd.{PassEnd}
use Rattle.svr_soft.specs.declared.priority.PassEnd.TheVariants.{Done, BaseRefuted, Spent}
use Rattle.svr_soft.specs.End.{IsReached, IsPassEnd}
use Rattle.svr_soft.specs.Kept.{HaveValuation, lit_at, with_kept, IsKept, AreDropped}
use Rattle.svr_soft.specs.Later.{IsLater}
use Rattle.svr_soft.proofs.Passes.{lit_at-next, begins-then, longer-from}

-- ---- a solver that is asked one question after the other

pub later_none : (s : SolverView) → IsLater s s
later_none s = record { vars = refl; clauses = refl; bits = refl; begins = take_all (length s.steps) s.steps (omega arith) }

pub later_then : {a b c : SolverView} → IsLater a b → IsLater b c → IsLater a c
later_then {a} {b} {c} h g = record { vars = g.vars ∙ h.vars; clauses = g.clauses ∙ h.clauses; bits = g.bits ∙ h.bits; begins = begins-then a.steps b.steps c.steps h.begins g.begins }

-- what is assumed with one soft literal more
pub asked_is : (base soft : List Lit) (i : ℕ) (kept : List ℕ) (assumed pushed : List Lit) → pushed ≡ assumed ++ get_or soft i (record { var = 0; neg = false }) ∷ [] → assumed ≡ with_kept base soft kept
    → pushed ≡ with_kept base soft kept ++ lit_at soft (i + 1) ∷ []
asked_is base soft i kept assumed pushed p s =
    let d : Lit = record { var = 0; neg = false } in
    p ∙ (ap (λ z. z ++ get_or soft i d ∷ []) s ∙ ap (λ z. with_kept base soft kept ++ z ∷ []) (sym (lit_at-next soft i)))

-- ---- ends

-- all soft literals were asked
pub done_end : (s : SolverView) (base soft : List Lit) (n : ℕ) (kept : List ℕ) (dropped : List (ℕ × RefutationView)) (assumed : List Lit) (values : List Bool)
    → n ≡ length soft → IsKept s.clauses base soft n kept → AreDropped s.clauses base soft n kept dropped → length values ≡ s.vars → assumed ≡ with_kept base soft kept → IsModel s.clauses assumed values
    → IsKept s.clauses base soft (length soft) kept × AreDropped s.clauses base soft (length soft) kept dropped × (length values ≡ s.vars) × IsModel s.clauses (with_kept base soft kept) values
done_end s base soft n kept dropped assumed values e k d l same m = (
  subst (λ (j : ℕ). IsKept s.clauses base soft j kept) e k,
  subst (λ (j : ℕ). AreDropped s.clauses base soft j kept dropped) e d,
  l,
  subst (λ (ls : List Lit). IsModel s.clauses ls values) same m,
)

-- the question of the next soft literal spent the budget
pub spent_end : (s t : SolverView) (base soft asked : List Lit) (budget rank n : ℕ) (kept : List ℕ) (log : RefutationView) (first : ℕ)
    → IsLater s t → rank ≡ n + 1 → n < length soft → HaveValuation s.clauses base → IsKept s.clauses base soft n kept → IsAnswer t asked budget (answer.Spent log first)
    → IsReached s.clauses base soft (Some rank) × SpendsBudget s.clauses budget first log × (length s.steps ≤ first) × MaySpend s budget
spent_end s t base soft asked budget rank n kept log first l r h v k a =
    let before : n ≡ rank - 1 = omega (arith, r) in
    let here : IsKept s.clauses base soft (rank - 1) kept = subst (λ (j : ℕ). IsKept s.clauses base soft j kept) before k in
    let long : length s.steps ≤ first = omega (arith, longer-from s.steps t.steps l.begins, a.1) in (
      (omega (arith, r), omega (arith, r, h), v, (kept, here)),
      subst (λ (ks : List (List Lit)). SpendsBudget ks budget first log) l.clauses a.0,
      long,
      subst (λ b. AreMany b budget) l.bits a.3,
    )

-- an end that a later solver reaches is one of the earlier
pub end_later : {s t : SolverView} (base soft : List Lit) (budget : ℕ) (e : PassEnd) → IsLater s t → IsPassEnd t base soft budget e → IsPassEnd s base soft budget e
end_later base soft budget (Done kept dropped values) l h = (
  subst (λ (ks : List (List Lit)). IsKept ks base soft (length soft) kept.items) l.clauses h.0,
  subst (λ (ks : List (List Lit)). AreDropped ks base soft (length soft) kept.items dropped.items) l.clauses h.1,
  h.2 ∙ l.vars,
  subst (λ (ks : List (List Lit)). IsModel ks (with_kept base soft kept.items) values.items) l.clauses h.3,
)
end_later base soft budget (BaseRefuted log) l h = (
  subst (λ (ks : List (List Lit)). HaveNoValuation ks base) l.clauses h.0,
  subst (λ (ks : List (List Lit)). IsRefutation ks base log) l.clauses h.1,
)
end_later {s} {t} base soft budget (Spent rank log first) l h =
    let long : length s.steps ≤ first = omega (arith, longer-from s.steps t.steps l.begins, h.2) in (
      subst (λ (ks : List (List Lit)). IsReached ks base soft rank) l.clauses h.0,
      subst (λ (ks : List (List Lit)). SpendsBudget ks budget first log) l.clauses h.1,
      long,
      subst (λ b. AreMany b budget) l.bits h.3,
    )
