-- A value behind the literals in front: what a question for it or for one of its literals says, and a literal that no assignment has.
use Rattle.std.proofs.Common.{◌≡◌, ℕ, ◌<◌, ◌^◌, true, false, List, [], ◌∷◌, ◌++◌, Option, Some, None, sym, ap, ◌∙◌, subst, inl, inr, append_assoc}
use Rattle.std.specs.Prelude.{IfSome, is_some}
use Rattle.std.proofs.lemmas.Bool.{or_cases, or_left, or_right}
use Rattle.std.proofs.lemmas.List.Concat.{flat_map-append}
use Rattle.svr_chain.specs.declared.clause.Lit.{Lit}
use Rattle.svr_chain.specs.Views.{RefutationView}
use Rattle.svr_chain.specs.Clauses.{same_lit, has, AreWithin, is_tautology}
use Rattle.svr_chain.proofs.Sound.{same_lit-true}
use Rattle.svr_query.specs.declared.solver.Answer.{Answer}
use Rattle.svr_query.specs.declared.solver.Answer.TheVariants as answer
use Rattle.svr_query.specs.Answer.{SolverView, IsAnswer, IsRefutation}
use Rattle.svr_frame.specs.Frame.{frame_term, width_of}
use Rattle.svr_vector.specs.Places.{rows}
use Rattle.svr_encoded.specs.declared.encoded.Encoded.{Encoded}
use Rattle.svr_phase.specs.declared.proof.ProofReason.{ProofReason}
use Rattle.svr_phase.specs.Proof.{spelling, fixed_lits}
use Rattle.svr_cyclic.specs.declared.ask.Asking.{Asking}
use Rattle.svr_cyclic.specs.declared.ask.Sought.{Sought}
use Rattle.svr_cyclic.specs.declared.ask.Tried.{Tried}
use Rattle.svr_cyclic.specs.Questions.{CanAsk, IsRowOf, IsSought, AreInFront, front_of, IsTried, over, tried_of}
use Rattle.svr_cyclic.specs.Denials.{AreOwn, IsOwn}
use Rattle.svr_cyclic.proofs.Rows.{lits_at}
use Rattle.svr_cyclic.proofs.Lists.{or_none}
use Rattle.svr_cyclic.proofs.Parts.{IsPart, both, part_within, part_apart, refutes_more}
use Rattle.svr_cyclic.proofs.Answered.{front_fit, tried_front}
use Rattle.svr_cyclic.proofs.Tries.{next_fixed}

-- what is said of an option that has something is said of what it has
pub some_of : {A : Type 0} (o : Option A) (P : A → Type 0) → IfSome o P → is_some o ≡ true → (x : A) × P x
some_of None P h e = absurd (cc)
some_of (Some x) P h e = (x, h)

-- ---- one of some literals

one_of : (front own : List Lit) (l : Lit) → has own l ≡ true → IsPart (front ++ l ∷ []) (front ++ own)
one_of front own l h x e =
    elim (or_cases (has front x) (has (l ∷ []) x) (sym (both front (l ∷ []) x) ∙ e)) [
      | inl q ↦ both front own x ∙ or_left (has front x) (has own x) q
      | inr q ↦ both front own x ∙ or_right (has front x) (has own x) (ap (has own) (sym (same_lit-true l x (sym (or_none (same_lit l x)) ∙ q))) ∙ h)
    ]

-- the value of a denied literal is refused by its refutation
pub denied_refutes : (ks : List (List Lit)) (front own : List Lit) (l : Lit) (log : RefutationView) → has own l ≡ true → IsRefutation ks (front ++ l ∷ []) log → IsRefutation ks (front ++ own) log
denied_refutes ks front own l log h r = refutes_more ks (front ++ l ∷ []) (front ++ own) log (one_of front own l h) r

-- ---- a value behind the chosen ones

value_behind : (e : Encoded) (chosen : List (ℕ × ℕ)) (prop v : ℕ) → front_of e chosen ++ fixed_lits e ((prop, v) ∷ []) ≡ front_of e (chosen ++ (prop, v) ∷ [])
value_behind e chosen prop v =
    append_assoc e.roots.items (fixed_lits e chosen) (fixed_lits e ((prop, v) ∷ []))
    ∙ ap (λ (ls : List Lit). e.roots.items ++ ls) (sym (flat_map-append (lits_at e.slots.items (rows e.bits.items)) chosen ((prop, v) ∷ [])))

-- the literals in front with those of one value more
pub front_more : (e : Encoded) (chosen next : List (ℕ × ℕ)) (prop v : ℕ) (row old new : List Lit) → IsRowOf e prop row → old ≡ front_of e chosen → new ≡ old ++ spelling row v → next ≡ chosen ++ (prop, v) ∷ [] → new ≡ front_of e next
front_more e chosen next prop v row old new is before more values =
    more ∙ (λ i. before i ++ sym (is v) i) ∙ value_behind e chosen prop v ∙ ap (λ (xs : List (ℕ × ℕ)). front_of e xs) (sym values)

spelled_behind : (e : Encoded) (chosen : List (ℕ × ℕ)) (prop v : ℕ) → fixed_lits e (chosen ++ (prop, v) ∷ []) ++ e.roots.items ≡ fixed_lits e chosen ++ fixed_lits e ((prop, v) ∷ []) ++ e.roots.items
spelled_behind e chosen prop v =
    ap (λ (ls : List Lit). ls ++ e.roots.items) (flat_map-append (lits_at e.slots.items (rows e.bits.items)) chosen ((prop, v) ∷ []))

-- ---- what a question says

module _ (a : Asking) (s : Sought) (sought : IsSought a s) where
  asked_as : (v : ℕ) (front own : List Lit) → AreInFront a s.chosen.now front → own ≡ fixed_lits a.layout.now ((s.prop, v) ∷ []) → front ++ own ≡ front_of a.layout.now (s.chosen.now ++ (s.prop, v) ∷ [])
  asked_as v front own is own_is = (λ i. is i ++ own_is i) ∙ value_behind a.layout.now s.chosen.now s.prop v

  -- what the solver asks of the literals of a value behind those in front
  pub value_fit : (solver : SolverView) → CanAsk a solver → (front own : List Lit) → AreInFront a s.chosen.now front → AreOwn a s.prop own → AreWithin solver.vars (front ++ own) × (is_tautology (front ++ own) ≡ false)
  value_fit solver can front own is are =
      front_fit (frame_term a.frame.now) can.sound a.layout.now solver can.has a.budget (s.chosen.now ++ (s.prop, are.0) ∷ []) (next_fixed (frame_term a.frame.now) s.chosen.now s.prop are.0 sought.next are.1)
      (front ++ own) (asked_as are.0 front own is are.2)

  -- and of one of them
  pub single_fit : (solver : SolverView) → CanAsk a solver → (front : List Lit) → AreInFront a s.chosen.now front → (l : Lit) → IsOwn a s.prop l → AreWithin solver.vars (front ++ l ∷ []) × (is_tautology (front ++ l ∷ []) ≡ false)
  single_fit solver can front is l own =
      let two = value_fit solver can front own.0 is own.1 in
      let p = one_of front own.0 l own.2 in
      (part_within solver.vars (front ++ l ∷ []) (front ++ own.0) p two.0, part_apart (front ++ l ∷ []) (front ++ own.0) p two.1)

  pub value_tried : (solver : SolverView) → CanAsk a solver → (v : ℕ) → v < 2 ^ width_of (frame_term a.frame.now) s.prop → (front own : List Lit) → AreInFront a s.chosen.now front → own ≡ fixed_lits a.layout.now ((s.prop, v) ∷ []) → (cause : ProofReason) (told : Answer)
      → IsAnswer solver (front ++ own) a.budget told → IsTried (over a solver.clauses) (s.chosen.now ++ (s.prop, v) ∷ []) cause (tried_of told (fixed_lits a.layout.now (s.chosen.now ++ (s.prop, v) ∷ []) ++ a.layout.now.roots.items) cause)
  value_tried solver can v lt front own is own_is cause told h =
      tried_front (frame_term a.frame.now) can.sound a.layout.now solver can.has a.budget (s.chosen.now ++ (s.prop, v) ∷ []) (next_fixed (frame_term a.frame.now) s.chosen.now s.prop v sought.next lt) cause
      (front ++ own) (asked_as v front own is own_is) told h

  around : (v : ℕ) (own : List Lit) → own ≡ fixed_lits a.layout.now ((s.prop, v) ∷ [])
      → fixed_lits a.layout.now s.chosen.now ++ own ++ a.layout.now.roots.items ≡ fixed_lits a.layout.now (s.chosen.now ++ (s.prop, v) ∷ []) ++ a.layout.now.roots.items
  around v own is = (λ i. fixed_lits a.layout.now s.chosen.now ++ is i ++ a.layout.now.roots.items) ∙ sym (spelled_behind a.layout.now s.chosen.now s.prop v)

  -- a value is refused by a refutation of its literals
  pub value_refused : (solver : SolverView) → CanAsk a solver → (v : ℕ) → v < 2 ^ width_of (frame_term a.frame.now) s.prop → (front own : List Lit) → AreInFront a s.chosen.now front → own ≡ fixed_lits a.layout.now ((s.prop, v) ∷ []) → (cause : ProofReason) (log : RefutationView)
      → IsRefutation solver.clauses (front ++ own) log → (t : Tried) → t ≡ tried_of (answer.Refuted log) (fixed_lits a.layout.now s.chosen.now ++ own ++ a.layout.now.roots.items) cause → IsTried (over a solver.clauses) (s.chosen.now ++ (s.prop, v) ∷ []) cause t
  value_refused solver can v lt front own is own_is cause log h t e =
      subst (λ (x : Tried). IsTried (over a solver.clauses) (s.chosen.now ++ (s.prop, v) ∷ []) cause x) (sym (e ∙ ap (λ (ls : List Lit). tried_of (answer.Refuted log) ls cause) (around v own own_is)))
      (value_tried solver can v lt front own is own_is cause (answer.Refuted log) h)
