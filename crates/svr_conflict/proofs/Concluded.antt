-- What the end of the search for a core says of items
use Rattle.std.proofs.Common.{◌≡◌, ℕ, Bool, true, false, List, [], ◌∷◌, ◌++◌, length, take, drop, refl, sym, ap, ◌∙◌, subst, All, Vec, Global}
use Rattle.std.specs.List.{AllZip, list_all}
use Rattle.std.proofs.lemmas.List.Elements.{All-nil, All-cons, All-head, All-tail}
use Rattle.svr_chain.specs.declared.clause.Lit.{Lit}
use Rattle.svr_chain.specs.Valuations.{lit_value}
use Rattle.svr_chain.specs.Clauses.{AreWithin, is_tautology}
use Rattle.svr_chain.specs.Views.{RefutationView}
use Rattle.svr_query.specs.Logged.{valuation_of}
use Rattle.svr_query.specs.Answer.{SolverView, IsModel}
use Rattle.svr_eval.specs.declared.assign.Assign.{Assign}
use Rattle.svr_eval.specs.Reading.{Reading, reading_of}
use Rattle.svr_frame.specs.declared.part.Part.TheVariants.{All as Whole}
use Rattle.svr_frame.specs.Frame.{FrameTerm}
use Rattle.svr_frame.specs.Occurrences.{Occurrence, all_true}
use Rattle.svr_frame.specs.Phases.{domain_items, hard_of}
use Rattle.svr_frame.specs.Satisfaction.{IsAssignment, Sat}
use Rattle.svr_frame.specs.Sound.{IsSound, SizesFit}
use Rattle.svr_encoded.specs.declared.encoded.Encoded.{Encoded}
use Rattle.svr_encoded.proofs.BridgeLemmas.{read_of_phase}
use Rattle.svr_phase.specs.Chosen.{AreCyclicValues}
use Rattle.svr_phase.specs.Spent.{IsRefutation}
use Rattle.svr_phase.specs.Proof.{fixed_lits}
use Rattle.svr_soft.proofs.Passes.{apart-within, within-among}
use Rattle.svr_question.specs.Ends.{EncodesCall}
use Rattle.svr_question.proofs.Rooted.{roots_asked}
use Rattle.svr_counts.specs.Hard.{hard_by_item, joined, counts_of}
use Rattle.svr_core.specs.declared.search.Needed.{Needed}
use Rattle.svr_core.specs.declared.search.CoreEnd.{CoreEnd}
use Rattle.svr_core.specs.declared.search.CoreEnd.TheVariants as searched
use Rattle.svr_core.specs.Groups.{lits_of, lits_at, with_groups, others}
use Rattle.svr_core.specs.Cores.{IsCore, CanHold, ArePlaces, places_of}
use Rattle.svr_core.specs.End.{IsCoreEnd}
use Rattle.svr_core.proofs.Turns.{all_refuted, core_alike}
use Rattle.svr_conflict.specs.Cut.{cut_by}
use Rattle.svr_conflict.specs.declared.found.Member.{Member}
use Rattle.svr_conflict.specs.declared.found.Conflict.{Conflict}
use Rattle.svr_conflict.specs.declared.found.ConflictEnd.TheVariants as end
use Rattle.svr_conflict.specs.Conflicts.{items_at, CanBeMet, IsConflictSet, MeetsOthers, domain_roots, item_roots, base_lits, conflict_lits, solver_over, places_in}
use Rattle.svr_conflict.specs.Ends.{IsConflict, IsConflictEnd}
use Rattle.svr_conflict.specs.Read.{read_values, IsRead}
use Rattle.svr_conflict.proofs.Cuts.{cut_long, counts_long, cut_within}
use Rattle.svr_conflict.proofs.Told.{hard_is, read_meets, valued, asked_is, all_is, asked_alike, all_alike, can_be_met, can_hold, read_is}

-- ---- members, one for each group of the core

places_read : (f : FrameTerm) (sizes : List ℕ) (e : Encoded) (cs : List Needed) (ms : List Member) → AllZip (IsRead f sizes e) cs ms → places_in ms ≡ places_of cs
places_read f sizes e [] [] h = refl
places_read f sizes e [] (m ∷ ms) h = absurd h
places_read f sizes e (c ∷ cs) [] h = absurd h
places_read f sizes e (c ∷ cs) (m ∷ ms) h = λ i. h.0.0 i ∷ places_read f sizes e cs ms h.1 i

zip_all : (R : Needed → Member → Type 0) (P : Needed → Type 0) (Q : Member → Type 0) → ((c : Needed) (m : Member) → R c m → P c → Q m) → (cs : List Needed) (ms : List Member) → AllZip R cs ms → All P cs → All Q ms
zip_all R P Q each [] [] h a = All-nil Q
zip_all R P Q each [] (m ∷ ms) h a = absurd h
zip_all R P Q each (c ∷ cs) [] h a = absurd h
zip_all R P Q each (c ∷ cs) (m ∷ ms) h a = All-cons Q m ms (each c m h.0 (All-head P c cs a)) (zip_all R P Q each cs ms h.1 (All-tail P c cs a))

module _ (f : FrameTerm) (sizes : List ℕ) (sound : IsSound f) (fit : SizesFit f sizes) (chosen : List (ℕ × ℕ)) (cyclic : AreCyclicValues f chosen) (e : Encoded) (encodes : EncodesCall f sizes e) where
  abbrev base : List Lit
  base = base_lits f sizes chosen e

  abbrev groups : List (List Lit)
  groups = item_roots f sizes e

  abbrev view : SolverView
  view = solver_over f sizes e

  -- the end of a search with these literals
  pub turned : (budget : ℕ) (assumed : List Lit) (parts : List (List Lit)) (found is : CoreEnd) → assumed ≡ base → parts ≡ groups → found ≡ is → IsCoreEnd view assumed parts budget found → IsCoreEnd view base groups budget is
  turned budget assumed parts found is first cuts same h =
      subst (λ (x : CoreEnd). IsCoreEnd view base groups budget x) same
      (subst (λ (gs : List (List Lit)). IsCoreEnd view base gs budget found) cuts (subst (λ (ls : List Lit). IsCoreEnd view ls parts budget found) first h))

  -- values that meet everything
  pub met_end : (budget : ℕ) (values : List Bool) (a : Assign) → reading_of a ≡ read_values f sizes e values → IsModel e.cnf.clauses.items (base ++ lits_of groups) values → IsConflictEnd f sizes chosen budget (end.Meets a)
  met_end budget values a reads model =
      let v : ℕ → Bool = valuation_of values in
      let ls : List Lit = domain_roots f sizes e ++ lits_of groups in
      let os : List Occurrence = domain_items f Whole sizes ++ joined (hard_by_item f sizes) in
      let t : list_all (lit_value v) (fixed_lits e chosen ++ ls) ≡ true = ap (list_all (lit_value v)) (sym (all_is f sizes sound fit chosen cyclic e encodes)) ∙ model.1 in
      let m = read_meets f sizes sound fit chosen cyclic e encodes ls os (all_alike f sizes sound fit chosen cyclic e encodes) v model.0 t in
      let same : read_of_phase f Whole sizes 1 v ≡ reading_of a = sym (reads ∙ read_is f sizes sound fit chosen cyclic e encodes v) in
      subst (λ (r : Reading). IsAssignment f Whole sizes chosen r × (all_true r (hard_of f Whole sizes) ≡ true)) same
      (m.0, ap (all_true (read_of_phase f Whole sizes 1 v)) (hard_is f sizes) ∙ m.1)

  -- the values of a group of the core read as an assignment that meets all other items of the set
  others_met : (set : List ℕ) (c : Needed) (m : Member) → IsRead f sizes e c m → IsModel e.cnf.clauses.items (with_groups base groups (others c.place set)) c.values → MeetsOthers f sizes chosen set m.item (reading_of m.without)
  others_met set c m read model =
      let v : ℕ → Bool = valuation_of c.values in
      let places : List ℕ = others c.place set in
      let ls : List Lit = domain_roots f sizes e ++ lits_at groups places in
      let os : List Occurrence = domain_items f Whole sizes ++ items_at (hard_by_item f sizes) places in
      let t : list_all (lit_value v) (fixed_lits e chosen ++ ls) ≡ true = ap (list_all (lit_value v)) (sym (asked_is f sizes sound fit chosen cyclic e encodes 0 places)) ∙ model.1 in
      let r = read_meets f sizes sound fit chosen cyclic e encodes ls os (asked_alike f sizes sound fit chosen cyclic e encodes 0 places) v model.0 t in
      let same : read_of_phase f Whole sizes 1 v ≡ reading_of m.without = sym (read.1 ∙ read_is f sizes sound fit chosen cyclic e encodes v) in
      let told : MeetsOthers f sizes chosen set c.place (reading_of m.without)
      = subst (λ (a : Reading). IsAssignment f Whole sizes chosen a × (all_true a os ≡ true)) same (r.0, r.1) in
      subst (λ (p : ℕ). MeetsOthers f sizes chosen set p (reading_of m.without)) (sym read.0) told

  groups_long : length groups ≡ length (hard_by_item f sizes)
  groups_long = cut_long (counts_of (hard_by_item f sizes)) _ ∙ counts_long (hard_by_item f sizes)

  abbrev refuted : Encoded → List Lit → RefutationView → Type 0
  refuted x ls r = IsRefutation x.cnf.clauses.items ls r

  -- the groups of the core are the conflict set
  pub set_end : (budget : ℕ) (found : Vec Needed Global) (log : RefutationView) (c : Conflict) → IsCoreEnd view base groups budget (searched.Refuted found log) → AllZip (IsRead f sizes e) found.items c.members.items → c.encoding ≡ e
      → c.assume ≡ with_groups base groups (places_of found.items) → c.refutation ≡ log → IsConflict f sizes chosen c
  set_end budget found log c h zip is assumed logged =
      let set : List ℕ = places_of found.items in
      let same : places_in c.members.items ≡ set = places_read f sizes e found.items c.members.items zip in
      let long : length groups ≡ length (hard_by_item f sizes) = groups_long in
      let none = all_refuted e.cnf.clauses.items base groups set log h.3 in
      let chosen_set : IsConflictSet f sizes chosen set
      = core_alike (CanHold e.cnf.clauses.items base groups) (CanBeMet f sizes chosen) (λ p places k. can_be_met f sizes sound fit chosen cyclic e encodes p places k) (λ p places k. can_hold f sizes sound fit chosen cyclic e encodes p places k) (length (hard_by_item f sizes)) [] set
      (subst (λ (n : ℕ). IsCore (CanHold e.cnf.clauses.items base groups) n [] set) long h.1) in
      let needed : All (λ (m : Member). MeetsOthers f sizes chosen set m.item (reading_of m.without)) c.members.items
      = zip_all (IsRead f sizes e) (λ (n : Needed). (length n.values ≡ e.cnf.vars) × IsModel e.cnf.clauses.items (with_groups base groups (others n.place set)) n.values) (λ (m : Member). MeetsOthers f sizes chosen set m.item (reading_of m.without))
      (λ n m r k. others_met set n m r k.1) found.items c.members.items zip h.2 in
      record {
        unmet = λ sat.
            let os : List Occurrence = domain_items f Whole sizes ++ joined (hard_by_item f sizes) in
            let met : Sat f Whole sizes chosen os = subst (λ (xs : List Occurrence). Sat f Whole sizes chosen xs) (hard_is f sizes) sat in
            let v = valued f sizes sound fit chosen cyclic e encodes (domain_roots f sizes e ++ lits_of groups) os (all_alike f sizes sound fit chosen cyclic e encodes) met in
            none v.0 v.1 (ap (list_all (lit_value v.0)) (all_is f sizes sound fit chosen cyclic e encodes) ∙ v.2);
        places = subst (λ (ps : List ℕ). ArePlaces 0 (length (hard_by_item f sizes)) ps) (sym same) (subst (λ (n : ℕ). ArePlaces 0 n set) long h.0);
        set = subst (λ (ps : List ℕ). IsConflictSet f sizes chosen ps) (sym same) chosen_set;
        needed = subst (λ (ps : List ℕ). All (λ (m : Member). MeetsOthers f sizes chosen ps m.item (reading_of m.without)) c.members.items) (sym same) needed;
        encodes = subst (λ (x : Encoded). EncodesCall f sizes x) (sym is) encodes;
        assumes = assumed ∙ (λ i. conflict_lits f sizes chosen (sym is i) (sym same i));
        refutes = subst (λ (x : Encoded). refuted x c.assume c.refutation) (sym is) (subst (λ (ls : List Lit). refuted e ls c.refutation) (sym assumed) (subst (λ (r : RefutationView). refuted e (with_groups base groups set) r) (sym logged) h.3));
      }

  -- a question spent the budget
  pub spent_end : (budget : ℕ) (log : RefutationView) (first : ℕ) → IsCoreEnd view base groups budget (searched.Spent log first) → IsConflictEnd f sizes chosen budget (end.Spent e log first)
  spent_end budget log first h = record { encodes = encodes; spends = record { none = h.0.none; accepted = h.0.accepted; spent = h.0.spent }; many = h.2 }

-- ---- what the search asks of the literals

pub literals_asked : (f : FrameTerm) (sizes : List ℕ) (e : Encoded) (encodes : EncodesCall f sizes e) (chosen : List (ℕ × ℕ)) → AreCyclicValues f chosen → (n : ℕ) (counts : List ℕ) (assumed : List Lit) (parts : List (List Lit))
    → assumed ≡ fixed_lits e chosen ++ take n e.roots.items → parts ≡ cut_by counts (drop n e.roots.items) → AreWithin e.cnf.vars (assumed ++ lits_of parts) × (is_tautology (assumed ++ lits_of parts) ≡ false)
literals_asked f sizes e encodes chosen cyclic n counts assumed parts first cuts =
    let front : List Lit = fixed_lits e chosen ++ take n e.roots.items in
    let rest : List Lit = drop n e.roots.items in
    let few : List Lit = front ++ lits_of (cut_by counts rest) in
    let both = roots_asked f sizes e encodes chosen cyclic n front rest refl refl in
    let w = cut_within front counts rest in
    let same : assumed ++ lits_of parts ≡ few = λ i. first i ++ lits_of (cuts i) in
    subst (λ (ls : List Lit). AreWithin e.cnf.vars ls × (is_tautology ls ≡ false)) (sym same) (within-among e.cnf.vars few (front ++ rest) w both.0, apart-within few (front ++ rest) w both.1)
