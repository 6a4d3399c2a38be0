use Rattle.std.proofs.Common.{◌≡◌, ◌∙◌, sym, ap, subst, take, ℕ, ◌+◌, ◌-◌, ◌<◌, ◌∷◌, ◌++◌, [], List, None, true, false, length, arith, inl, inr, refl, All}
use Rattle.std.specs.Prelude.{slice_index, IsSome}
use Rattle.std.proofs.lemmas.List.{length_push, take-append-le, take_all}
use Rattle.svr_chain.specs.declared.clause.Lit.{Lit}
use Rattle.svr_chain.specs.Views.{StepView}
use Rattle.svr_chain.specs.Clauses.{has, IsWithin, AreWithin}
use Rattle.svr_chain.specs.Log.{are_denied}
use Rattle.svr_trail.specs.declared.Entry.{Entry}
use Rattle.svr_chain.specs.Same.{SameClauses}
use Rattle.svr_trail.specs.Trail.{Each, IsClosed, sign_at}
use Rattle.svr_cdcl.specs.Search.{at_end, IsSearch}
use Rattle.svr_cdcl.specs.Learned.{IsLowest, is_explained}
use Rattle.svr_query.specs.Logged.{IsLogged, AreSet, are_true}
use Rattle.svr_query.specs.Sweep.{IsSwept, IsNextBit, open_nodes}
use Rattle.svr_query.proofs.Asked.{each-take}
use Rattle.svr_query.proofs.Complete.{all-set}
use Rattle.svr_query.proofs.Logs.{logged-same, logged-push}
use Rattle.svr_query.proofs.Nodes.{nodes-few, nodes-same}
use Rattle.svr_query.proofs.Steps.{one_node_less, one_decision_more}
use Rattle.svr_query.proofs.Swept.{swept-grown, swept-start, swept-asked, lowest-there, left-there, new-node}
use Rattle.svr_query.proofs.sweep.sweep.Goals as goal
use Rattle.svr_chain.proofs.ClauseLemmas.{All-has}
use Rattle.svr_trail.proofs.Trails.{Each-push, sign_at-open}

pub sweep-init : goal.sweep-init
sweep-init c =
    let r = c.restart.new.search in
    let xs : List StepView = c.args.steps.now.items in
    let l = c.requires.logged in
    record {
      vars = refl;
      logged = (l.0, l.1, rw c.restart.ensures.clauses l.2);
      longer = omega arith;
      begins = take_all (length xs) xs (omega arith);
      few = omega (arith, nodes-few r.clauses c.args.assume.now 0 (length c.args.prefer.now));
      swept = swept-start (length c.args.prefer.now) c.args.assume.now r c.level.ensures.kept c.restart.ensures.ends;
    }

pub returns-in_err-explained-in-Some-clause-logged : goal.returns-in_err-explained-in-Some-clause-logged
returns-in_err-explained-in-Some-clause-logged c =
    rw c.explain.ensures.same (logged-same c.args.cnf.now c.sweep.steps.items c.sweep.search c.propagate.new.search c.sweep.invariant.logged c.propagate.ensures.same)

pub returns-in_err-explained-in-Some-clause-few : goal.returns-in_err-explained-in-Some-clause-few
returns-in_err-explained-in-Some-clause-few c = omega (arith, c.sweep.invariant.few)

pub returns-then-are_denied-clause-logged : goal.returns-then-are_denied-clause-logged
returns-then-are_denied-clause-logged c =
    rw c.explain.ensures.same (logged-same c.args.cnf.now c.sweep.steps.items c.sweep.search c.propagate.new.search c.sweep.invariant.logged c.propagate.ensures.same)

pub returns-then-are_denied-clause-found : goal.returns-then-are_denied-clause-found
returns-then-are_denied-clause-found c =
    let assume = c.args.assume.now in
    let r = c.in_ok-explained-in-Some in
    rw c.explain.ensures.same (r.ensures.derives, ap (are_denied assume) (sym c.lits.ensures) ∙ (sym c.are_denied.ensures ∙ c.if-are_denied.true))

pub returns-then-are_denied-clause-few : goal.returns-then-are_denied-clause-few
returns-then-are_denied-clause-few c = omega (arith, c.sweep.invariant.few)

pub returns-in_err-reserve-in-Some-clause-logged : goal.returns-in_err-reserve-in-Some-clause-logged
returns-in_err-reserve-in-Some-clause-logged c =
    let s = c.propagate.new.search in
    let assume = c.args.assume.now in
    let e = c.in_ok-explained-in-Some.explained in
    let d : are_denied assume e.lits ≡ false = ap (are_denied assume) (sym c.lits.ensures) ∙ (sym c.are_denied.ensures ∙ c.if-are_denied.false) in
    let w : IsLowest s.entries s.ends e.lits e.level = lowest-there assume e.lits e.level s.entries s.ends d (c.in_ok-explained-in-Some.ensures.lowest refl) in
    let k : c.backjump.new.self.clauses ≡ s.clauses = ap (λ z. z.clauses) ((rw c.explain.ensures.same at c.backjump.ensures.back) w.0) in
    rw (c.reserve.ensures.items, k) (logged-same c.args.cnf.now c.sweep.steps.items c.sweep.search s c.sweep.invariant.logged c.propagate.ensures.same)

pub returns-in_err-reserve-in-Some-clause-few : goal.returns-in_err-reserve-in-Some-clause-few
returns-in_err-reserve-in-Some-clause-few c = rw c.reserve.ensures.items (omega (arith, c.sweep.invariant.few))

pub learn-requires-clause-within : goal.learn-requires-clause-within
learn-requires-clause-within c =
    let s = c.propagate.new.search in
    let assume = c.args.assume.now in
    let e = c.in_ok-explained-in-Some.explained in
    let d : are_denied assume e.lits ≡ false = ap (are_denied assume) (sym c.lits.ensures) ∙ (sym c.are_denied.ensures ∙ c.if-are_denied.false) in
    let w : IsLowest s.entries s.ends e.lits e.level = lowest-there assume e.lits e.level s.entries s.ends d (c.in_ok-explained-in-Some.ensures.lowest refl) in
    let v : c.backjump.new.self.vars ≡ s.vars = ap (λ z. z.vars) ((rw c.explain.ensures.same at c.backjump.ensures.back) w.0) in
    subst (λ z. AreWithin z e.lits) (sym v) c.in_ok-explained-in-Some.ensures.within

pub returns-in_err-learn-in-Some-clause-logged : goal.returns-in_err-learn-in-Some-clause-logged
returns-in_err-learn-in-Some-clause-logged c =
    let s = c.propagate.new.search in
    let assume = c.args.assume.now in
    let e = c.in_ok-explained-in-Some.explained in
    let d : are_denied assume e.lits ≡ false = ap (are_denied assume) (sym c.lits.ensures) ∙ (sym c.are_denied.ensures ∙ c.if-are_denied.false) in
    let w : IsLowest s.entries s.ends e.lits e.level = lowest-there assume e.lits e.level s.entries s.ends d (c.in_ok-explained-in-Some.ensures.lowest refl) in
    let k : c.backjump.new.self.clauses ≡ s.clauses = ap (λ z. z.clauses) ((rw c.explain.ensures.same at c.backjump.ensures.back) w.0) in
    let l : c.learn.new.self.clauses ≡ c.backjump.new.self.clauses = ap (λ z. z.clauses) c.in_err-learn-in-Some.ensures.err in
    rw (c.reserve.ensures.items, l, k) (logged-same c.args.cnf.now c.sweep.steps.items c.sweep.search s c.sweep.invariant.logged c.propagate.ensures.same)

pub returns-in_err-learn-in-Some-clause-few : goal.returns-in_err-learn-in-Some-clause-few
returns-in_err-learn-in-Some-clause-few c = rw c.reserve.ensures.items (omega (arith, c.sweep.invariant.few))

pub sweep-smaller-in-Some : goal.sweep-smaller-in-Some
sweep-smaller-in-Some c =
    let i = c.sweep.invariant in
    let first = c.sweep.search in
    let s = c.propagate.new.search in
    let b = c.backjump.new.self in
    let t = c.learn.new.self in
    let assume = c.args.assume.now in
    let n : ℕ = length c.args.prefer.now in
    let e = c.in_ok-explained-in-Some.explained in
    let d : are_denied assume e.lits ≡ false = ap (are_denied assume) (sym c.lits.ensures) ∙ (sym c.are_denied.ensures ∙ c.if-are_denied.false) in
    let w : IsLowest s.entries s.ends e.lits e.level = lowest-there assume e.lits e.level s.entries s.ends d (c.in_ok-explained-in-Some.ensures.lowest refl) in
    let back = (rw c.explain.ensures.same at c.backjump.ensures.back) w.0 in
    let v1 : s.vars ≡ first.vars = ap (λ z. z.vars) c.propagate.ensures.kept in
    let v2 : b.vars ≡ s.vars = ap (λ z. z.vars) back in
    let v3 : t.vars ≡ b.vars = ap (λ z. z.vars) c.in_ok-learn-in-Some.ensures.kept in
    let k2 : b.clauses ≡ s.clauses = ap (λ z. z.clauses) back in
    let k3 : SameClauses t.clauses (b.clauses ++ e.lits ∷ []) = c.in_ok-learn-in-Some.ensures.clauses in
    let k : SameClauses t.clauses (s.clauses ++ e.lits ∷ []) = subst (λ z. SameClauses t.clauses (z ++ e.lits ∷ [])) k2 k3 in
    let sw : Each (IsSwept n assume) s.entries = swept-grown n assume s.clauses first.entries s.entries i.swept c.propagate.ensures.grown in
    let x : is_explained s.entries None e.lits ≡ true = c.in_ok-explained-in-Some.ensures.explained in
    let less : open_nodes (s.clauses ++ e.lits ∷ []) assume 0 n < open_nodes s.clauses assume 0 n = new-node s c.level-in-Some.ensures.kept n assume sw e.lits x d in
    let same : open_nodes first.clauses assume 0 n ≡ open_nodes s.clauses assume 0 n = nodes-same first.clauses s.clauses assume 0 n c.propagate.ensures.same in
    let now : open_nodes t.clauses assume 0 n ≡ open_nodes (s.clauses ++ e.lits ∷ []) assume 0 n = nodes-same t.clauses (s.clauses ++ e.lits ∷ []) assume 0 n k in
    one_node_less (open_nodes t.clauses assume 0 n) (open_nodes first.clauses assume 0 n) t.vars first.vars (length t.entries) (first.vars - length first.entries)
    (omega (arith, less, same, now)) (v3 ∙ (v2 ∙ v1))

pub sweep-preserved-in-Some : goal.sweep-preserved-in-Some
sweep-preserved-in-Some c =
    let i = c.sweep.invariant in
    let first = c.sweep.search in
    let s = c.propagate.new.search in
    let b = c.backjump.new.self in
    let t = c.learn.new.self in
    let assume = c.args.assume.now in
    let n : ℕ = length c.args.prefer.now in
    let old : ℕ = length c.args.steps.now.items in
    let e = c.in_ok-explained-in-Some.explained in
    let kept : IsSearch s = c.level-in-Some.ensures.kept in
    let d : are_denied assume e.lits ≡ false = ap (are_denied assume) (sym c.lits.ensures) ∙ (sym c.are_denied.ensures ∙ c.if-are_denied.false) in
    let w : IsLowest s.entries s.ends e.lits e.level = lowest-there assume e.lits e.level s.entries s.ends d (c.in_ok-explained-in-Some.ensures.lowest refl) in
    let back = (rw c.explain.ensures.same at c.backjump.ensures.back) w.0 in
    let v1 : s.vars ≡ first.vars = ap (λ z. z.vars) c.propagate.ensures.kept in
    let v2 : b.vars ≡ s.vars = ap (λ z. z.vars) back in
    let v3 : t.vars ≡ b.vars = ap (λ z. z.vars) c.in_ok-learn-in-Some.ensures.kept in
    let k2 : b.clauses ≡ s.clauses = ap (λ z. z.clauses) back in
    let k3 : SameClauses t.clauses (b.clauses ++ e.lits ∷ []) = c.in_ok-learn-in-Some.ensures.clauses in
    let k : SameClauses t.clauses (s.clauses ++ e.lits ∷ []) = subst (λ z. SameClauses t.clauses (z ++ e.lits ∷ [])) k2 k3 in
    let sw : Each (IsSwept n assume) s.entries = swept-grown n assume s.clauses first.entries s.entries i.swept c.propagate.ensures.grown in
    let x : is_explained s.entries None e.lits ≡ true = c.in_ok-explained-in-Some.ensures.explained in
    let less : open_nodes (s.clauses ++ e.lits ∷ []) assume 0 n < open_nodes s.clauses assume 0 n = new-node s kept n assume sw e.lits x d in
    let same : open_nodes first.clauses assume 0 n ≡ open_nodes s.clauses assume 0 n = nodes-same first.clauses s.clauses assume 0 n c.propagate.ensures.same in
    let now : open_nodes t.clauses assume 0 n ≡ open_nodes (s.clauses ++ e.lits ∷ []) assume 0 n = nodes-same t.clauses (s.clauses ++ e.lits ∷ []) assume 0 n k in
    let p : c.push_reserved.new.self.items ≡ c.sweep.steps.items ++ e.step ∷ []
    = c.push_reserved.ensures.items ∙ ap (λ (z : List StepView). z ++ e.step ∷ []) c.reserve.ensures.items in
    let l : IsLogged c.args.cnf.now c.sweep.steps.items s = logged-same c.args.cnf.now c.sweep.steps.items first s i.logged c.propagate.ensures.same in
    let m : IsLogged c.args.cnf.now (c.sweep.steps.items ++ e.step ∷ []) t
    = logged-push c.args.cnf.now c.sweep.steps.items s t e.step e.lits l (c.in_ok-explained-in-Some.ensures.accepted refl (left-there assume e.lits d)) k in
    let count : length c.push_reserved.new.self.items ≡ length c.sweep.steps.items + 1 = ap (λ (z : List StepView). length z) p ∙ length_push c.sweep.steps.items e.step in
    let short : slice_index s.ends e.level < length s.entries = kept.short e.level w.0 in
    let n2 : b.entries ≡ at_end s e.level = ap (λ z. z.entries) back in
    let e2 : Each (IsSwept n assume) (at_end s e.level) = each-take (IsSwept n assume) (slice_index s.ends e.level) s.entries (omega (arith, short)) sw in
    let e3 : Each (IsSwept n assume) b.entries = subst (λ z. Each (IsSwept n assume) z) (sym n2) e2 in
    let e4 : Each (IsSwept n assume) t.entries = swept-grown n assume t.clauses b.entries t.entries e3 c.in_ok-learn-in-Some.ensures.grown in
    let begins : take old c.push_reserved.new.self.items ≡ c.args.steps.now.items
    = ap (λ (z : List StepView). take old z) p ∙ (take-append-le old c.sweep.steps.items (e.step ∷ []) i.longer ∙ i.begins) in
    record {
      vars = v3 ∙ (v2 ∙ (v1 ∙ i.vars));
      logged = rw p m;
      longer = omega (arith, count, i.longer);
      begins = begins;
      few = omega (arith, count, less, same, now, i.few);
      swept = e4;
    }

pub decide-requires-clause-within : goal.decide-requires-clause-within
decide-requires-clause-within c =
    let i = c.sweep.invariant in
    let p : c.propagate.new.search.vars ≡ c.sweep.search.vars = ap (λ z. z.vars) c.propagate.ensures.kept in
    let r : c.restart.new.search.vars ≡ c.args.search.now.vars = c.restart.ensures.vars in
    let w : All (IsWithin c.propagate.new.search.vars) c.args.assume.now = rw (p, i.vars, r) c.requires.within in
    let h : has c.args.assume.now c.in-Decide.lit ≡ true = c.in-Decide.ensures.0 in
    All-has (IsWithin c.propagate.new.search.vars) c.args.assume.now c.in-Decide.lit w h

pub sweep-smaller-in-Decide : goal.sweep-smaller-in-Decide
sweep-smaller-in-Decide c =
    let first = c.sweep.search in
    let s = c.propagate.new.search in
    let t = c.decide.new.search in
    let assume = c.args.assume.now in
    let n : ℕ = length c.args.prefer.now in
    let e : Entry = record { lit = c.in-Decide.lit; reason = None } in
    let k : t.clauses ≡ s.clauses = ap (λ z. z.clauses) c.decide.ensures.decided in
    let m : t.entries ≡ s.entries ++ e ∷ [] = ap (λ z. z.entries) c.decide.ensures.decided in
    let v : t.vars ≡ s.vars = ap (λ z. z.vars) c.decide.ensures.decided in
    let p : s.vars ≡ first.vars = ap (λ z. z.vars) c.propagate.ensures.kept in
    let same : open_nodes first.clauses assume 0 n ≡ open_nodes s.clauses assume 0 n = nodes-same first.clauses s.clauses assume 0 n c.propagate.ensures.same in
    let now : open_nodes t.clauses assume 0 n ≡ open_nodes s.clauses assume 0 n = ap (λ z. open_nodes z assume 0 n) k in
    let len : length t.entries ≡ length s.entries + 1 = ap (λ z. length z) m ∙ length_push s.entries e in
    let more : length first.entries < length t.entries = omega (arith, len, c.propagate.ensures.grown.longer) in
    one_decision_more (open_nodes t.clauses assume 0 n) (open_nodes first.clauses assume 0 n) t.vars first.vars (length t.entries) (length first.entries)
    (now ∙ sym same) (v ∙ p) more c.decide.ensures.bound

pub sweep-preserved-in-Decide : goal.sweep-preserved-in-Decide
sweep-preserved-in-Decide c =
    let i = c.sweep.invariant in
    let first = c.sweep.search in
    let s = c.propagate.new.search in
    let t = c.decide.new.search in
    let assume = c.args.assume.now in
    let n : ℕ = length c.args.prefer.now in
    let l : Lit = c.in-Decide.lit in
    let e : Entry = record { lit = l; reason = None } in
    let k : t.clauses ≡ s.clauses = ap (λ z. z.clauses) c.decide.ensures.decided in
    let m : t.entries ≡ s.entries ++ e ∷ [] = ap (λ z. z.entries) c.decide.ensures.decided in
    let v : t.vars ≡ s.vars = ap (λ z. z.vars) c.decide.ensures.decided in
    let p : s.vars ≡ first.vars = ap (λ z. z.vars) c.propagate.ensures.kept in
    let same : open_nodes first.clauses assume 0 n ≡ open_nodes s.clauses assume 0 n = nodes-same first.clauses s.clauses assume 0 n c.propagate.ensures.same in
    let now : open_nodes t.clauses assume 0 n ≡ open_nodes s.clauses assume 0 n = ap (λ z. open_nodes z assume 0 n) k in
    let a : Each (IsSwept n assume) s.entries = swept-grown n assume s.clauses first.entries s.entries i.swept c.propagate.ensures.grown in
    let h : has assume l ≡ true = c.in-Decide.ensures.0 in
    let o : sign_at s.entries l.var ≡ None = sign_at-open s.entries l c.in-Decide.ensures.1 in
    let b : Each (IsSwept n assume) (s.entries ++ e ∷ []) = Each-push (IsSwept n assume) s.entries e a (λ z. (o, inl h)) in
    record {
      vars = v ∙ (p ∙ i.vars);
      logged = rw k (logged-same c.args.cnf.now c.sweep.steps.items first s i.logged c.propagate.ensures.same);
      longer = i.longer;
      begins = i.begins;
      few = omega (arith, same, now, i.few);
      swept = rw m b;
    }

pub refuted_by-requires-clause-asked : goal.refuted_by-requires-clause-asked
refuted_by-requires-clause-asked c =
    let s = c.propagate.new.search in
    let assume = c.args.assume.now in
    let n : ℕ = length c.args.prefer.now in
    swept-asked n assume s.entries (swept-grown n assume s.clauses c.sweep.search.entries s.entries c.sweep.invariant.swept c.propagate.ensures.grown)

pub returns-in-Denied-clause-logged : goal.returns-in-Denied-clause-logged
returns-in-Denied-clause-logged c =
    rw c.refuted_by.ensures.same (logged-same c.args.cnf.now c.sweep.steps.items c.sweep.search c.propagate.new.search c.sweep.invariant.logged c.propagate.ensures.same)

pub returns-in-Denied-clause-few : goal.returns-in-Denied-clause-few
returns-in-Denied-clause-few c = omega (arith, c.sweep.invariant.few)

pub returns-in-None-first_open-clause-logged : goal.returns-in-None-first_open-clause-logged
returns-in-None-first_open-clause-logged c =
    logged-same c.args.cnf.now c.sweep.steps.items c.sweep.search c.propagate.new.search c.sweep.invariant.logged c.propagate.ensures.same

pub returns-in-None-first_open-clause-few : goal.returns-in-None-first_open-clause-few
returns-in-None-first_open-clause-few c = omega (arith, c.sweep.invariant.few)

pub returns-in-None-first_open-clause-found : goal.returns-in-None-first_open-clause-found
returns-in-None-first_open-clause-found c =
    let i = c.sweep.invariant in
    let s = c.propagate.new.search in
    let cnf = c.args.cnf.now in
    let n : ℕ = length c.args.prefer.now in
    let ys : List StepView = c.sweep.steps.items in
    let v1 : s.vars ≡ c.sweep.search.vars = ap (λ z. z.vars) c.propagate.ensures.kept in
    let v : s.vars ≡ c.args.search.now.vars = v1 ∙ (i.vars ∙ c.restart.ensures.vars) in
    let l : IsLogged cnf ys s = logged-same cnf ys c.sweep.search s i.logged c.propagate.ensures.same in
    let closed : IsClosed s.entries s.clauses = c.in-None.ensures.closed in
    let t : are_true s.entries c.args.assume.now ≡ true = c.in-Done.ensures in
    let bits : (u : ℕ) → u < n → IsSome (sign_at s.entries (u + 1)) = c.in-None-first_open.ensures.none in
    let kept : IsSearch s = c.level-in-None-first_open.ensures.kept in
    let set : AreSet s = all-set n cnf ys s (rw v c.requires.settled) l kept closed bits in
    (closed, t, set)

pub sweep-smaller : goal.sweep-smaller
sweep-smaller c =
    let first = c.sweep.search in
    let s = c.propagate.new.search in
    let t = c.decide-in-Some-first_open.new.search in
    let assume = c.args.assume.now in
    let n : ℕ = length c.args.prefer.now in
    let e : Entry = record { lit = c.in-Some-first_open.lit; reason = None } in
    let k : t.clauses ≡ s.clauses = ap (λ z. z.clauses) c.decide-in-Some-first_open.ensures.decided in
    let m : t.entries ≡ s.entries ++ e ∷ [] = ap (λ z. z.entries) c.decide-in-Some-first_open.ensures.decided in
    let v : t.vars ≡ s.vars = ap (λ z. z.vars) c.decide-in-Some-first_open.ensures.decided in
    let p : s.vars ≡ first.vars = ap (λ z. z.vars) c.propagate.ensures.kept in
    let same : open_nodes first.clauses assume 0 n ≡ open_nodes s.clauses assume 0 n = nodes-same first.clauses s.clauses assume 0 n c.propagate.ensures.same in
    let now : open_nodes t.clauses assume 0 n ≡ open_nodes s.clauses assume 0 n = ap (λ z. open_nodes z assume 0 n) k in
    let len : length t.entries ≡ length s.entries + 1 = ap (λ z. length z) m ∙ length_push s.entries e in
    let more : length first.entries < length t.entries = omega (arith, len, c.propagate.ensures.grown.longer) in
    one_decision_more (open_nodes t.clauses assume 0 n) (open_nodes first.clauses assume 0 n) t.vars first.vars (length t.entries) (length first.entries)
    (now ∙ sym same) (v ∙ p) more c.decide-in-Some-first_open.ensures.bound

pub sweep-preserved : goal.sweep-preserved
sweep-preserved c =
    let i = c.sweep.invariant in
    let first = c.sweep.search in
    let s = c.propagate.new.search in
    let t = c.decide-in-Some-first_open.new.search in
    let assume = c.args.assume.now in
    let n : ℕ = length c.args.prefer.now in
    let l : Lit = c.in-Some-first_open.lit in
    let e : Entry = record { lit = l; reason = None } in
    let k : t.clauses ≡ s.clauses = ap (λ z. z.clauses) c.decide-in-Some-first_open.ensures.decided in
    let m : t.entries ≡ s.entries ++ e ∷ [] = ap (λ z. z.entries) c.decide-in-Some-first_open.ensures.decided in
    let v : t.vars ≡ s.vars = ap (λ z. z.vars) c.decide-in-Some-first_open.ensures.decided in
    let p : s.vars ≡ first.vars = ap (λ z. z.vars) c.propagate.ensures.kept in
    let same : open_nodes first.clauses assume 0 n ≡ open_nodes s.clauses assume 0 n = nodes-same first.clauses s.clauses assume 0 n c.propagate.ensures.same in
    let now : open_nodes t.clauses assume 0 n ≡ open_nodes s.clauses assume 0 n = ap (λ z. open_nodes z assume 0 n) k in
    let a : Each (IsSwept n assume) s.entries = swept-grown n assume s.clauses first.entries s.entries i.swept c.propagate.ensures.grown in
    let o : sign_at s.entries l.var ≡ None = sign_at-open s.entries l c.in-Some-first_open.ensures.open in
    let w : IsNextBit n assume s.entries l
    = record { assumed = c.in-Done.ensures; within = c.in-Some-first_open.ensures.within; lower = c.in-Some-first_open.ensures.lower } in
    let b : Each (IsSwept n assume) (s.entries ++ e ∷ []) = Each-push (IsSwept n assume) s.entries e a (λ z. (o, inr w)) in
    record {
      vars = v ∙ (p ∙ i.vars);
      logged = rw k (logged-same c.args.cnf.now c.sweep.steps.items first s i.logged c.propagate.ensures.same);
      longer = i.longer;
      begins = i.begins;
      few = omega (arith, same, now, i.few);
      swept = rw m b;
    }
