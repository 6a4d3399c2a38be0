use Rattle.std.proofs.Common.{◌≡◌, ◌∙◌, sym, ap, subst, take, ℕ, ◌<◌, ◌∷◌, ◌++◌, [], List, length, arith}
use Rattle.std.specs.Prelude.{slice_index}
use Rattle.std.proofs.lemmas.List.{length_push, take-append-le, take_all}
use Rattle.svr_chain.specs.Views.{StepView}
use Rattle.svr_chain.specs.Same.{SameClauses}
use Rattle.svr_trail.specs.Trail.{IsGrown}
use Rattle.svr_query.proofs.Fronts.{front-of}
use Rattle.svr_query.proofs.Logs.{logged-push}
use Rattle.svr_query.proofs.learn.learn_from.Goals as goal

pub returns-in_err-learned-clause-logged : goal.returns-in_err-learned-clause-logged
returns-in_err-learned-clause-logged c = rw c.analyse.ensures.same c.requires.logged

pub returns-in_err-reserve-clause-logged : goal.returns-in_err-reserve-clause-logged
returns-in_err-reserve-clause-logged c =
    let s = c.args.search.now in
    let back = (rw c.analyse.ensures.same at c.backjump.ensures.back) (c.in_ok-learned.ensures.level c.requires.above) in
    let k : c.backjump.new.self.clauses ≡ s.clauses = ap (λ z. z.clauses) back in
    rw (c.reserve.ensures.items, k) c.requires.logged

pub returns-in_err-learn-clause-logged : goal.returns-in_err-learn-clause-logged
returns-in_err-learn-clause-logged c =
    let s = c.args.search.now in
    let back = (rw c.analyse.ensures.same at c.backjump.ensures.back) (c.in_ok-learned.ensures.level c.requires.above) in
    let k : c.backjump.new.self.clauses ≡ s.clauses = ap (λ z. z.clauses) back in
    let l : c.learn.new.self.clauses ≡ c.backjump.new.self.clauses = ap (λ z. z.clauses) c.in_err-learn.ensures.err in
    rw (c.reserve.ensures.items, l, k) c.requires.logged

pub returns-clause-vars : goal.returns-clause-vars
returns-clause-vars c =
    let s = c.args.search.now in
    let back = (rw c.analyse.ensures.same at c.backjump.ensures.back) (c.in_ok-learned.ensures.level c.requires.above) in
    let v : c.backjump.new.self.vars ≡ s.vars = ap (λ z. z.vars) back in
    let w : c.learn.new.self.vars ≡ c.backjump.new.self.vars = ap (λ z. z.vars) c.in_ok-learn.ensures.kept in
    w ∙ v

pub returns-clause-logged : goal.returns-clause-logged
returns-clause-logged c =
    let s = c.args.search.now in
    let b = c.backjump.new.self in
    let t = c.learn.new.self in
    let a = c.in_ok-learned in
    let back = (rw c.analyse.ensures.same at c.backjump.ensures.back) (a.ensures.level c.requires.above) in
    let k2 : b.clauses ≡ s.clauses = ap (λ z. z.clauses) back in
    let k3 : SameClauses t.clauses (b.clauses ++ a.learned.lits ∷ []) = c.in_ok-learn.ensures.clauses in
    let k4 : SameClauses t.clauses (s.clauses ++ a.learned.lits ∷ []) = subst (λ z. SameClauses t.clauses (z ++ a.learned.lits ∷ [])) k2 k3 in
    let p : c.push_reserved.new.self.items ≡ c.args.steps.now.items ++ a.learned.step ∷ []
    = c.push_reserved.ensures.items ∙ ap (λ (z : List StepView). z ++ a.learned.step ∷ []) c.reserve.ensures.items in
    rw p (logged-push c.args.cnf.now c.args.steps.now.items s t a.learned.step a.learned.lits c.requires.logged (a.ensures.accepted c.requires.above) k4)

pub returns-clause-begins : goal.returns-clause-begins
returns-clause-begins c =
    let a = c.in_ok-learned in
    let xs : List StepView = c.args.steps.now.items in
    let n : ℕ = length xs in
    let p : c.push_reserved.new.self.items ≡ xs ++ a.learned.step ∷ []
    = c.push_reserved.ensures.items ∙ ap (λ (z : List StepView). z ++ a.learned.step ∷ []) c.reserve.ensures.items in
    ap (λ (z : List StepView). take n z) p ∙ (take-append-le n xs (a.learned.step ∷ []) (omega arith) ∙ take_all n xs (omega arith))

pub returns-clause-more : goal.returns-clause-more
returns-clause-more c =
    let a = c.in_ok-learned in
    let xs : List StepView = c.args.steps.now.items in
    let p : c.push_reserved.new.self.items ≡ xs ++ a.learned.step ∷ []
    = c.push_reserved.ensures.items ∙ ap (λ (z : List StepView). z ++ a.learned.step ∷ []) c.reserve.ensures.items in
    ap (λ (z : List StepView). length z) p ∙ length_push xs a.learned.step

pub returns-clause-kept : goal.returns-clause-kept
returns-clause-kept c =
    let s = c.args.search.now in
    let a = c.in_ok-learned in
    let above = a.ensures.level c.requires.above in
    let back = (rw c.analyse.ensures.same at c.backjump.ensures.back) above in
    let n : ℕ = slice_index s.ends a.learned.level in
    let short : n < length s.entries = c.level-present.ensures.kept.short a.learned.level above in
    let e : c.entries-kept.result.now ≡ take n s.entries = c.entries-kept.ensures ∙ ap (λ z. z.entries) back in
    (front-of s.entries c.entries-kept.result.now n (omega (arith, short)) e).0

pub returns-clause-grown : goal.returns-clause-grown
returns-clause-grown c =
    let s = c.args.search.now in
    let a = c.in_ok-learned in
    let above = a.ensures.level c.requires.above in
    let back = (rw c.analyse.ensures.same at c.backjump.ensures.back) above in
    let n : ℕ = slice_index s.ends a.learned.level in
    let short : n < length s.entries = c.level-present.ensures.kept.short a.learned.level above in
    let e : c.entries-kept.result.now ≡ take n s.entries = c.entries-kept.ensures ∙ ap (λ z. z.entries) back in
    let f = front-of s.entries c.entries-kept.result.now n (omega (arith, short)) e in
    let k : c.backjump.new.self.entries ≡ take (length c.entries-kept.result.now) s.entries = sym c.entries-kept.ensures ∙ f.1 in
    subst (λ z. IsGrown c.learn.new.self.clauses z c.learn.new.self.entries) k c.in_ok-learn.ensures.grown
