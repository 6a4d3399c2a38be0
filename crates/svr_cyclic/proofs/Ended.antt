-- What is reached is how the phase ends, over the encoding that the proofs name.
use Rattle.std.proofs.Common.{◌≡◌, ◌≤◌, ℕ, List, [], ◌∷◌, ◌++◌, length, refl, sym, ap, ◌∙◌, subst, arith, append-nil}
use Rattle.std.specs.Prelude.{slice_get}
use Rattle.svr_chain.specs.declared.clause.Lit.{Lit}
use Rattle.svr_frame.specs.declared.part.Part.TheVariants.{Randc}
use Rattle.svr_frame.specs.Occurrences.{Occurrence}
use Rattle.svr_frame.specs.Weight.{weight_of}
use Rattle.svr_encoded.specs.declared.encoded.Encoded.{Encoded}
use Rattle.svr_phase.specs.declared.proof.Proof.{Proof}
use Rattle.svr_phase.specs.declared.proof.Renewed.{Renewed}
use Rattle.svr_phase.specs.declared.proof.ProofReason.{ProofReason}
use Rattle.svr_phase.specs.declared.proof.ProofReason.TheVariants as why
use Rattle.svr_phase.specs.Spent.{IsRefutation, SpendsBudget, EncodesItems}
use Rattle.svr_phase.specs.Proof.{fixed_lits, hard_roots, StandsForValue, ProveValues}
use Rattle.svr_phase.specs.Cyclic.{AreChosen}
use Rattle.svr_phase.specs.Ends.{Call, weight_limit, cyclic_props, cycles_of, refused_values, Renewal, CyclesAreProved}
use Rattle.svr_cyclic.specs.declared.phase.Reached.{Reached}
use Rattle.svr_cyclic.specs.declared.phase.Reached.TheVariants as reached
use Rattle.svr_cyclic.specs.declared.choose.Chosen.{Chosen}
use Rattle.svr_cyclic.specs.declared.choose.CyclicEnd.{CyclicEnd}
use Rattle.svr_cyclic.specs.declared.choose.CyclicEnd.TheVariants as end
use Rattle.svr_cyclic.specs.Questions.{hard_items, EncodesCyclic, Over, IsRefuted}
use Rattle.svr_cyclic.specs.Values.{AreRefuted}
use Rattle.svr_cyclic.specs.Phase.{over_call, AreRenewed, IsReached}
use Rattle.svr_cyclic.specs.Ends.{CyclicEnds, end_of, FitsIfChosen}
use Rattle.svr_cyclic.proofs.Fitting.{used_fit}

module _ (c : Call) (light : weight_of c.frame Randc c.frame.state.sizes ≤ weight_limit) (layout : Encoded) (clauses : List (List Lit)) (e : Encoded) (encodes : EncodesCyclic c.frame e) (like : e ≡ record layout { cnf = e.cnf }) (same : e.cnf.clauses.items ≡ clauses) where
  abbrev o : Over
  o = over_call c layout clauses

  lits_are : (fixed : List (ℕ × ℕ)) → fixed_lits layout fixed ++ hard_roots layout (hard_items c.frame) ≡ fixed_lits e fixed ++ hard_roots e (hard_items c.frame)
  lits_are fixed = sym (ap (λ (x : Encoded). fixed_lits x fixed ++ hard_roots x (hard_items c.frame)) like)

  stands : (chosen : List (ℕ × ℕ)) (prop v : ℕ) (cause : ProofReason) (p : Proof) → IsRefuted o (chosen ++ (prop, v) ∷ []) cause p → StandsForValue c.frame chosen prop v (e ∷ []) p
  stands chosen prop v cause p h = (
    1,
    record {
      encoding = e;
      named = ap (slice_get (e ∷ [])) h.place;
      encodes = subst (λ (os : List Occurrence). EncodesItems c.frame Randc c.frame.state.sizes 1 os e) (sym (append-nil (hard_items c.frame))) encodes;
      assumes = h.assumes ∙ lits_are (chosen ++ (prop, v) ∷ []) ∙ sym (append-nil (fixed_lits e (chosen ++ (prop, v) ∷ []) ++ hard_roots e (hard_items c.frame)));
      refutes = subst (λ (ks : List (List Lit)). IsRefutation ks p.assume p.refutation) (sym same) h.refutes;
    },
  )

  proved : (chosen : List (ℕ × ℕ)) (prop : ℕ) (cause : ℕ → ProofReason) (vs : List ℕ) (ps : List Proof) → AreRefuted o chosen prop cause vs ps → ProveValues c.frame chosen prop cause vs (e ∷ []) ps
  proved chosen prop cause [] [] h = tt
  proved chosen prop cause [] (p ∷ ps) h = absurd h
  proved chosen prop cause (v ∷ vs) [] h = absurd h
  proved chosen prop cause (v ∷ vs) (p ∷ ps) h = (h.0.reason, stands chosen prop v (cause v) p h.0, proved chosen prop cause vs ps h.1)

  cycles_proved : (xs : List Renewal) (rs : List Renewed) → AreRenewed c o xs rs → CyclesAreProved c (e ∷ []) xs rs
  cycles_proved [] [] h = tt
  cycles_proved [] (r ∷ rs) h = absurd h
  cycles_proved (x ∷ xs) [] h = absurd h
  cycles_proved (x ∷ xs) (r ∷ rs) h = (h.0, proved _ r.prop (why.Cycle r.prop) (refused_values c (length x.before) r.prop) r.proofs h.1, cycles_proved xs rs h.2)

  pub ends : (r : Reached) → IsReached c o r → CyclicEnds c (end_of e r)
  ends (reached.Done g) h = record {
    choices = h.choices;
    passed = record { light = light; chosen = h.taken };
    chosen = h.values;
    uses = h.uses;
    proved = cycles_proved _ g.cycles h.renewed;
    few = omega arith;
  }
  ends (reached.NoneFits chosen proofs) h = (
    record {
      before = h.before;
      prop = h.prop;
      reached = record { light = light; settled = h.settled; others = h.others; order = h.order; chosen = h.taken };
      none = h.none;
      choice = h.values;
      proved = proved chosen.items h.prop (why.Randc h.prop) _ proofs h.proved;
    },
    omega arith,
  )
  ends (reached.Spent prop log first) h = record {
    before = h.before;
    reached = record { light = light; settled = h.settled; others = h.others; order = h.order; chosen = h.taken };
    trying = h.trying;
    size_bits = 1;
    spent = record {
      encodes = encodes;
      spends = subst (λ (ks : List (List Lit)). SpendsBudget ks c.budget first log) (sym same) h.given_up.spends;
      many = h.given_up.many;
    };
  }

  pub fits : (r : Reached) → IsReached c o r → FitsIfChosen c.frame.class (end_of e r)
  fits (reached.Done g) h = used_fit c h.choices g.used h.taken h.uses h.rising
  fits (reached.NoneFits chosen proofs) h = tt
  fits (reached.Spent prop log first) h = tt

  -- both, of an end that is what was reached
  pub ended : (r : Reached) (x : CyclicEnd) → IsReached c o r → x ≡ end_of e r → CyclicEnds c x × FitsIfChosen c.frame.class x
  ended r x h is = subst (λ (y : CyclicEnd). CyclicEnds c y × FitsIfChosen c.frame.class y) (sym is) (ends r h, fits r h)

-- where there is nothing to choose
pub nothing_chosen : (c : Call) → weight_of c.frame Randc c.frame.state.sizes ≤ weight_limit → cyclic_props c.frame ≡ [] → (x : Chosen) → x ≡ record { values = []; cycles = []; used = []; encodings = [] }
    → CyclicEnds c (end.Chosen x) × FitsIfChosen c.frame.class (end.Chosen x)
nothing_chosen c light none x is =
    let chosen : AreChosen c.frame (cycles_of c) [] (cyclic_props c.frame) [] = subst (λ (ps : List ℕ). AreChosen c.frame (cycles_of c) [] ps []) (sym none) tt in
    subst (λ (y : Chosen). CyclicEnds c (end.Chosen y) × FitsIfChosen c.frame.class (end.Chosen y)) (sym is) (
      record { choices = []; passed = record { light = light; chosen = chosen }; chosen = refl; uses = refl; proved = tt; few = omega arith },
      used_fit c [] [] chosen refl (λ k d lt. absurd (omega (arith, lt))),
    )
