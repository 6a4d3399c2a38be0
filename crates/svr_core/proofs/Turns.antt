-- The walk from the last group to the first, one turn at a time
use Rattle.std.proofs.Common.{◌≡◌, ℕ, zero, suc, ◌+◌, ◌<◌, ◌≤◌, Bool, true, false, not, nat_eq, List, [], ◌∷◌, ◌++◌, length, map, get_or, All, refl, ap, sym, ◌∙◌, subst, arith, inl, inr}
use Rattle.std.specs.List.Sorted.{IsStrictlyIncreasing}
use Rattle.std.proofs.lemmas.Bool.{cond-true, cond-false, ne_eqb}
use Rattle.std.proofs.lemmas.List.Elements.{All-nil, All-cons, All-head, All-tail, All-weaker}
use Rattle.svr_chain.specs.declared.clause.Lit.{Lit}
use Rattle.svr_chain.specs.Views.{RefutationView}
use Rattle.svr_chain.specs.Valuations.{HaveNoValuation}
use Rattle.svr_chain.proofs.Sound.{no_valuation-from_accepted}
use Rattle.svr_query.specs.declared.solver.Answer.TheVariants as answer
use Rattle.svr_query.specs.Logged.{valuation_of}
use Rattle.svr_query.specs.Bits.{AreMany}
use Rattle.svr_query.specs.Answer.{SolverView, IsAnswer, IsModel, IsRefutation, SpendsBudget, MaySpend}
use Rattle.svr_soft.specs.Later.{IsLater}
use Rattle.svr_soft.proofs.Passes.{longer-from}
use Rattle.svr_core.specs.declared.search.Needed.{Needed}
use Rattle.svr_core.specs.Groups.{asked, lits_of, with_groups, others}
use Rattle.svr_core.specs.Cores.{IsCore, CanHold, ArePlaces, AreNeeded, place_of, places_of}
use Rattle.svr_core.specs.declared.search.CoreEnd.{CoreEnd}
use Rattle.svr_core.specs.declared.search.CoreEnd.TheVariants as end
use Rattle.svr_core.specs.End.{IsCoreEnd}
use Rattle.svr_core.specs.Walked.{AreNeededFrom, IsWalked}
use Rattle.svr_core.proofs.Gathered.{asked_next, asked_all, asked_within, true_within, model_fewer}

-- ---- places

places_none : (n : ℕ) → ArePlaces n n []
places_none n = record { within = All-nil (λ p. (n ≤ p) × (p < n)); rising = λ k h. absurd (omega (arith, h)) }

places_lower : (p high : ℕ) (ps : List ℕ) → ArePlaces (suc p) high ps → ArePlaces p high ps
places_lower p high ps a = record {
  within = All-weaker (λ q. (suc p ≤ q) × (q < high)) (λ q. (p ≤ q) × (q < high)) (λ q b. let c : suc p ≤ q = b.0 in (omega (arith, c), b.1)) ps a.within;
  rising = a.rising;
}

rising_cons : (p high : ℕ) (ps : List ℕ) → ArePlaces (suc p) high ps → IsStrictlyIncreasing (p ∷ ps)
rising_cons p high [] a k h = absurd (omega (arith, h))
rising_cons p high (q ∷ qs) a zero h = let b : suc p ≤ q = (All-head (λ r. (suc p ≤ r) × (r < high)) q qs a.within).0 in omega (arith, b)
rising_cons p high (q ∷ qs) a (suc k) h =
    let e : suc (k + 1) ≡ suc k + 1 = omega arith in
    subst (λ (n : ℕ). get_or (p ∷ q ∷ qs) (suc k) 0 < get_or (p ∷ q ∷ qs) n 0) e (a.rising k (omega (arith, h)))

places_more : (p high : ℕ) (ps : List ℕ) → p < high → ArePlaces (suc p) high ps → ArePlaces p high (p ∷ ps)
places_more p high ps h a = record {
  within = All-cons (λ q. (p ≤ q) × (q < high)) p ps (omega arith, h) (places_lower p high ps a).within;
  rising = rising_cons p high ps a;
}

-- the places of groups that stand behind p
behind : (p high : ℕ) (core : List Needed) → ArePlaces (suc p) high (places_of core) → All (λ (c : Needed). p < c.place) core
behind p high core a = each core a.within
  where
    each : (cs : List Needed) → All (λ q. (suc p ≤ q) × (q < high)) (map place_of cs) → All (λ (c : Needed). p < c.place) cs
    each [] b = All-nil (λ (c : Needed). p < c.place)
    each (c ∷ cs) b =
        let d : suc p ≤ c.place = (All-head (λ q. (suc p ≤ q) × (q < high)) c.place (map place_of cs) b).0 in
        All-cons (λ (x : Needed). p < x.place) c cs (omega (arith, d)) (each cs (All-tail (λ q. (suc p ≤ q) × (q < high)) c.place (map place_of cs) b))

-- ---- all places but one

nat_eq_self : (n : ℕ) → nat_eq n n ≡ true
nat_eq_self n = grind arith

others_low : (p high : ℕ) (ps : List ℕ) → All (λ q. (suc p ≤ q) × (q < high)) ps → others p ps ≡ ps
others_low p high [] a = refl
others_low p high (q ∷ qs) a =
    let h : suc p ≤ q = (All-head (λ r. (suc p ≤ r) × (r < high)) q qs a).0 in
    let f : nat_eq q p ≡ false = ne_eqb q p (λ e. absurd (omega (arith, h, e))) in
    cond-true (not (nat_eq q p)) (q ∷ others p qs) (others p qs) (ap not f)
    ∙ ap (λ (rest : List ℕ). q ∷ rest) (others_low p high qs (All-tail (λ r. (suc p ≤ r) × (r < high)) q qs a))

others_self : (p high : ℕ) (ps : List ℕ) → ArePlaces (suc p) high ps → others p (p ∷ ps) ≡ ps
others_self p high ps a = cond-false (not (nat_eq p p)) (p ∷ others p ps) (others p ps) (ap not (nat_eq_self p)) ∙ others_low p high ps a.within

others_front : (p q : ℕ) (ps : List ℕ) → p < q → others q (p ∷ ps) ≡ p ∷ others q ps
others_front p q ps h =
    let f : nat_eq p q ≡ false = ne_eqb p q (λ e. absurd (omega (arith, h, e))) in
    cond-true (not (nat_eq p q)) (p ∷ others q ps) (others q ps) (ap not f)

-- ---- what is needed

module _ (vars : ℕ) (ks : List (List Lit)) (base : List Lit) (groups : List (List Lit)) (p : ℕ) (low : p < length groups) where
  needed_fewer : (core : List Needed) → AreNeededFrom vars ks base groups (suc p) core → AreNeededFrom vars ks base groups p core
  needed_fewer core a = λ k d h. let b = a k d h in let c : Needed = get_or core k d in (b.0, model_fewer ks base groups p (others c.place (places_of core)) c.values low b.1)

  needed_more : (core : List Needed) (values : List Bool) → ArePlaces (suc p) (length groups) (places_of core) → length values ≡ vars → IsModel ks (asked base groups p (places_of core)) values
      → AreNeededFrom vars ks base groups (suc p) core → AreNeededFrom vars ks base groups p (record { place = p; values = values } ∷ core)
  needed_more core values ps long model a =
      All-cons (λ (c : Needed). (length c.values ≡ vars) × IsModel ks (asked base groups p (others c.place (p ∷ places_of core))) c.values) (record { place = p; values = values }) core
      (long, subst (λ (qs : List ℕ). IsModel ks (asked base groups p qs) values) (sym (others_self p (length groups) (places_of core) ps)) model)
      (λ k d h.
      let c : Needed = get_or core k d in
      let b = a k d h in
      let lower : p < c.place = behind p (length groups) core ps k d h in
      let m : IsModel ks (asked base groups p (p ∷ others c.place (places_of core))) c.values
      = subst (λ (ls : List Lit). IsModel ks ls c.values) (asked_next base groups p (others c.place (places_of core)) low) b.1 in
      (b.0, subst (λ (qs : List ℕ). IsModel ks (asked base groups p qs) c.values) (sym (others_front p c.place (places_of core) lower)) m))

-- ---- the walk

-- a refutation shows that nothing can hold
cannot_hold : (ks : List (List Lit)) (base : List Lit) (groups : List (List Lit)) (p : ℕ) (places : List ℕ) (log : RefutationView) → IsRefutation ks (asked base groups p places) log
    → CanHold ks base groups p places → ⊥
cannot_hold ks base groups p places log r v =
    let none : HaveNoValuation ks (asked base groups p places) = no_valuation-from_accepted ks (asked base groups p places) log.steps log.goal r.1 r.0 in
    none v.0 v.1 v.2

-- where a core is refuted, all groups are
pub all_refuted : (ks : List (List Lit)) (base : List Lit) (groups : List (List Lit)) (places : List ℕ) (log : RefutationView) → IsRefutation ks (with_groups base groups places) log → HaveNoValuation ks (base ++ lits_of groups)
all_refuted ks base groups places log r a meets t =
    let none : HaveNoValuation ks (with_groups base groups places) = no_valuation-from_accepted ks (with_groups base groups places) log.steps log.goal r.1 r.0 in
    none a meets (true_within a (with_groups base groups places) (base ++ lits_of groups) (asked_within base groups 0 places) t)

-- cores of two lists that can hold alike are the same
pub core_alike : (H K : ℕ → List ℕ → Type 0) → ((p : ℕ) (places : List ℕ) → H p places → K p places) → ((p : ℕ) (places : List ℕ) → K p places → H p places) → (n : ℕ) (kept core : List ℕ) → IsCore H n kept core → IsCore K n kept core
core_alike H K to back zero kept core h = h
core_alike H K to back (suc p) kept core h =
    elim h [
      | inl q ↦ inl (λ k. q.0 (back p kept k), core_alike H K to back p kept core q.1)
      | inr q ↦ inr (to p kept q.0, core_alike H K to back p (p ∷ kept) core q.1)
    ]

module _ (s : SolverView) (base : List Lit) (groups : List (List Lit)) where
  -- no group was looked at
  pub walk_begins : (log : RefutationView) → IsRefutation s.clauses (base ++ lits_of groups) log → IsWalked s base groups (length groups) [] log
  walk_begins log r = record {
    low = omega arith;
    places = places_none (length groups);
    looked = λ all h. h;
    needed = All-nil (λ (c : Needed). (length c.values ≡ s.vars) × IsModel s.clauses (asked base groups (length groups) (others c.place [])) c.values);
    refuted = subst (λ (ls : List Lit). IsRefutation s.clauses ls log) (sym (asked_all base groups)) r;
  }

  -- a group is left out
  out : (p : ℕ) (core : List Needed) (log next : RefutationView) → IsWalked s base groups (suc p) core log → IsRefutation s.clauses (asked base groups p (places_of core)) next
      → IsWalked s base groups p core next
  out p core log next w r =
      let low : suc p ≤ length groups = w.low in
      record {
        low = omega (arith, low);
        places = places_lower p (length groups) (places_of core) w.places;
        looked = λ all h. w.looked all (inl (cannot_hold s.clauses base groups p (places_of core) next r, h));
        needed = needed_fewer s.vars s.clauses base groups p (omega (arith, low)) core w.needed;
        refuted = r;
      }

  -- a group is needed
  into : (p : ℕ) (core : List Needed) (log : RefutationView) (values : List Bool) → IsWalked s base groups (suc p) core log → length values ≡ s.vars
      → IsModel s.clauses (asked base groups p (places_of core)) values → IsWalked s base groups p (record { place = p; values = values } ∷ core) log
  into p core log values w long model =
      let low : suc p ≤ length groups = w.low in
      let below : p < length groups = omega (arith, low) in
      record {
        low = omega (arith, low);
        places = places_more p (length groups) (places_of core) below w.places;
        looked = λ all h. w.looked all (inr ((valuation_of values, model.0, model.1), h));
        needed = needed_more s.vars s.clauses base groups p below core values w.places long model w.needed;
        refuted = subst (λ (ls : List Lit). IsRefutation s.clauses ls log) (asked_next base groups p (places_of core) below) w.refuted;
      }

  pub walk_out : (n p : ℕ) (core : List Needed) (log next : RefutationView) → n ≡ suc p → IsWalked s base groups n core log → IsRefutation s.clauses (asked base groups p (places_of core)) next
      → IsWalked s base groups p core next
  walk_out n p core log next e w r = out p core log next (subst (λ (k : ℕ). IsWalked s base groups k core log) e w) r

  pub walk_into : (n p : ℕ) (core new : List Needed) (log : RefutationView) (values : List Bool) → n ≡ suc p → new ≡ record { place = p; values = values } ∷ core → IsWalked s base groups n core log
      → (length values ≡ s.vars) × IsModel s.clauses (asked base groups p (places_of core)) values → IsWalked s base groups p new log
  walk_into n p core new log values e is w m =
      subst (λ (cs : List Needed). IsWalked s base groups p cs log) (sym is) (into p core log values (subst (λ (k : ℕ). IsWalked s base groups k core log) e w) m.0 m.1)

  -- all groups were looked at
  pub walk_ends : (n : ℕ) (core : List Needed) (log : RefutationView) → n ≡ 0 → IsWalked s base groups n core log
      → ArePlaces 0 (length groups) (places_of core)
      × IsCore (CanHold s.clauses base groups) (length groups) [] (places_of core)
      × AreNeeded s.vars s.clauses base groups core
      × IsRefutation s.clauses (with_groups base groups (places_of core)) log
  walk_ends n core log e h =
      let w : IsWalked s base groups 0 core log = subst (λ (k : ℕ). IsWalked s base groups k core log) e h in
      (w.places, w.looked (places_of core) refl, w.needed, w.refuted)

-- ---- answers of a solver that has asked before

module _ (s t : SolverView) (later : IsLater s t) where
  pub values_then : (lits is : List Lit) (budget : ℕ) (values : List Bool) → lits ≡ is → (length values ≡ t.vars) × IsModel t.clauses lits values → (length values ≡ s.vars) × IsModel s.clauses is values
  values_then lits is budget values e a =
      (a.0 ∙ later.vars, subst (λ (ks : List (List Lit)). IsModel ks is values) later.clauses (subst (λ (ls : List Lit). IsModel t.clauses ls values) e a.1))

  pub refuted_then : (lits is : List Lit) (log : RefutationView) → lits ≡ is → IsRefutation t.clauses lits log → IsRefutation s.clauses is log
  refuted_then lits is log e a = subst (λ (ks : List (List Lit)). IsRefutation ks is log) later.clauses (subst (λ (ls : List Lit). IsRefutation t.clauses ls log) e a)

  pub spent_then : (lits : List Lit) (budget first : ℕ) (log : RefutationView) → IsAnswer t lits budget (answer.Spent log first) → SpendsBudget s.clauses budget first log × (length s.steps ≤ first) × MaySpend s budget
  spent_then lits budget first log a =
      let long : length s.steps ≤ length t.steps = longer-from s.steps t.steps later.begins in
      let here : first ≡ length t.steps = a.1 in (
        subst (λ (ks : List (List Lit)). SpendsBudget ks budget first log) later.clauses a.0,
        omega (arith, long, here),
        subst (λ b. AreMany b budget) later.bits a.3,
      )

-- an end that a later solver reaches is one of the earlier
pub core_then : (s t : SolverView) → IsLater s t → (base : List Lit) (groups : List (List Lit)) (budget : ℕ) (e : CoreEnd) → IsCoreEnd t base groups budget e → IsCoreEnd s base groups budget e
core_then s t later base groups budget (end.Met values) h = (h.0 ∙ later.vars, subst (λ (ks : List (List Lit)). IsModel ks (base ++ lits_of groups) values.items) later.clauses h.1)
core_then s t later base groups budget (end.Refuted core log) h = (
  h.0,
  subst (λ (ks : List (List Lit)). IsCore (CanHold ks base groups) (length groups) [] (places_of core.items)) later.clauses h.1,
  subst (λ (n : ℕ). AreNeeded n s.clauses base groups core.items) later.vars (subst (λ (ks : List (List Lit)). AreNeeded t.vars ks base groups core.items) later.clauses h.2),
  subst (λ (ks : List (List Lit)). IsRefutation ks (with_groups base groups (places_of core.items)) log) later.clauses h.3,
)
core_then s t later base groups budget (end.Spent log first) h =
    let long : length s.steps ≤ length t.steps = longer-from s.steps t.steps later.begins in
    let here : length t.steps ≤ first = h.1 in (
      subst (λ (ks : List (List Lit)). SpendsBudget ks budget first log) later.clauses h.0,
      omega (arith, long, here),
      subst (λ b. AreMany b budget) later.bits h.2,
    )
