use Rattle.std.proofs.Common.{◌≡◌, ◌<◌, ◌∙◌, ◌+◌, ⊎_elim, ℕ, List, get_or, Bool, true, false, ap, sym, subst, arith}
use Rattle.std.proofs.lemmas.Bool.{cases_eq, false≢true}
use Rattle.svr_gate.specs.declared.gate.Gate.{Gate}
use Rattle.svr_chain.specs.declared.clause.Lit.{Lit}
use Rattle.svr_chain.specs.Clauses.{flip}
use Rattle.svr_gate.specs.Keys.{no_input}
use Rattle.svr_gate.specs.Folding.{IsConstant, IsCopy, IsProper}
use Rattle.svr_gate.proofs.fold.kind_of.Goals as goal

-- inputs that are equal have the same literal at each place
nth : {xs ys : List Lit} (place : ℕ) → xs ≡ ys → get_or xs place no_input ≡ get_or ys place no_input
nth place e = ap (λ ls. get_or ls place no_input) e

pub loop-place-preserved : goal.loop-place-preserved
loop-place-preserved c = λ j h same k.
    ⊎_elim
    (λ (e : j ≡ c.loop-place.place). no_copy same (subst (λ (i : ℕ). IsCopy c.args.gate.now i same) e k))
    (λ (n : j ≡ c.loop-place.place → ⊥). c.loop-place.invariant j (omega arith) same k)
    (cases_eq j c.loop-place.place) where
      no_copy : (same : Bool) → IsCopy c.args.gate.now c.loop-place.place same → ⊥
      no_copy true k = false≢true (sym c.if-is_copy.false ∙ c.is_copy.ensures.1 k.1)
      no_copy false k = false≢true (sym c.if-is_copy-2.false ∙ c.is_copy-in-loop-place.ensures.1 k.1)

pub returns : goal.returns
returns c = record {
  constant = λ v h. no_constant v h;
  copy = λ j same k. c.loop-place.invariant j (omega (arith, k.0)) same k;
} where
  no_constant : (v : Bool) → IsConstant c.args.gate.now v → ⊥
  no_constant true h = false≢true (sym c.if-is_always-2.false ∙ c.is_always-2.ensures.1 h)
  no_constant false h = false≢true (sym c.if-is_always.false ∙ c.is_always.ensures.1 h)

pub returns-then-is_always : goal.returns-then-is_always
returns-then-is_always c = c.is_always.ensures.0 c.if-is_always.true

pub returns-then-is_always-2 : goal.returns-then-is_always-2
returns-then-is_always-2 c = c.is_always-2.ensures.0 c.if-is_always-2.true

pub offset_bounds-ins-place : goal.offset_bounds-ins-place
offset_bounds-ins-place c = omega (arith, c.requires, c.loop-place-test.true)

pub returns-then-is_copy : goal.returns-then-is_copy
returns-then-is_copy c = (c.loop-place.place, (true, ((c.loop-place-test.true, c.is_copy.ensures.0 c.if-is_copy.true), nth c.loop-place.place c.inputs-ins.ensures)))

pub returns-then-is_copy-2 : goal.returns-then-is_copy-2
returns-then-is_copy-2 c =
    (c.loop-place.place, (false, ((c.loop-place-test.true, c.is_copy-in-loop-place.ensures.0 c.if-is_copy-2.true), c.flipped.ensures ∙ ap flip (nth c.loop-place.place c.inputs-ins.ensures))))
