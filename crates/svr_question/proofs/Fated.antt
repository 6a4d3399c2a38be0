-- From what a pass over soft roots keeps and drops to the fates of the soft items.
use Rattle.std.proofs.Common.{◌≡◌, ◌<◌, ◌≤◌, ◌+◌, ◌-◌, ℕ, suc, Bool, true, false, List, [], ◌∷◌, ◌++◌, map, length, take, get_or, Option, None, Some, refl, sym, ap, ◌∙◌, subst, arith, append_assoc, append-nil}
use Rattle.std.specs.List.{All, list_all}
use Rattle.std.proofs.lemmas.List.{length-append, length-drop}
use Rattle.std.proofs.lemmas.List.Elements.{All-head, All-tail}
use Rattle.svr_chain.specs.declared.clause.Lit.{Lit}
use Rattle.svr_chain.specs.Views.{RefutationView}
use Rattle.svr_chain.specs.Lists.{is_among}
use Rattle.svr_chain.specs.Valuations.{lit_value, HaveNoValuation}
use Rattle.svr_query.specs.Answer.{IsRefutation}
use Rattle.svr_frame.specs.declared.part.Part.TheVariants.{All as Whole}
use Rattle.svr_frame.specs.Frame.{FrameTerm}
use Rattle.svr_frame.specs.Occurrences.{Occurrence}
use Rattle.svr_frame.specs.Phases.{hard_of, live_of}
use Rattle.svr_frame.specs.Satisfaction.{Keeps, kept_of, kept_ranks}
use Rattle.svr_frame.specs.Sound.{IsSound, SizesFit}
use Rattle.svr_encoded.specs.declared.encoded.Encoded.{Encoded}
use Rattle.svr_phase.specs.Chosen.{AreCyclicValues}
use Rattle.svr_phase.specs.Proof.{fixed_lits, hard_roots, soft_roots, kept_lits}
use Rattle.svr_soft.specs.Kept.{HaveValuation, assumed_at, IsKept, rank_of, AreDropped}
use Rattle.svr_soft.specs.End.{IsReached}
use Rattle.svr_question.specs.Ends.{EncodesCall, CanMeet, AreProved, IsAskedFor}
use Rattle.svr_question.specs.Passed.{dropped_at}
use Rattle.svr_question.proofs.Chosen.{all_in_order, all_members}
use Rattle.svr_question.proofs.Bridge.{none_kept, met_by, unmet_by, roots_long}
use Rattle.svr_question.proofs.Ranks.{Rises, ranks_rise, fate_is, some_fates, assumed_is, assumed_next}

-- ---- each fate by what holds and what does not

pub fated : (S : List Occurrence → Type 0) (asked live : List Occurrence) (fates : List Bool)
    → ((i : ℕ) → i < length fates → get_or fates i false ≡ true → S (asked ++ kept_of live (take i fates ++ true ∷ [])))
    → ((i : ℕ) → i < length fates → get_or fates i false ≡ false → S (asked ++ kept_of live (take i fates ++ true ∷ [])) → ⊥)
    → length fates ≤ length live → Keeps S asked (take (length fates) live) fates
fated S asked live [] holds fails le = refl
fated S asked [] (b ∷ fates) holds fails le = absurd (omega (arith, le))
fated S asked (o ∷ live) (true ∷ fates) holds fails le = (
  subst S (ap (λ (os : List Occurrence). asked ++ o ∷ os) (none_kept live)) (holds 0 (omega arith) refl),
  fated S (asked ++ o ∷ []) live fates (λ i lt e. subst S (sym (append_assoc asked (o ∷ []) (kept_of live (take i fates ++ true ∷ [])))) (holds (suc i) (omega (arith, lt)) e))
      (λ i lt e s. fails (suc i) (omega (arith, lt)) e (subst S (append_assoc asked (o ∷ []) (kept_of live (take i fates ++ true ∷ []))) s))
      (omega (arith, le)),
)
fated S asked (o ∷ live) (false ∷ fates) holds fails le = (
  λ s. fails 0 (omega arith) refl (subst S (sym (ap (λ (os : List Occurrence). asked ++ o ∷ os) (none_kept live))) s),
  fated S asked live fates (λ i lt e. holds (suc i) (omega (arith, lt)) e) (λ i lt e s. fails (suc i) (omega (arith, lt)) e s) (omega (arith, le)),
)

-- ---- a pass over the soft roots of a call

module _ (f : FrameTerm) (sizes : List ℕ) (sound : IsSound f) (fit : SizesFit f sizes) (e : Encoded) (encodes : EncodesCall f sizes e) (chosen : List (ℕ × ℕ)) (cyclic : AreCyclicValues f chosen) where
  abbrev hard : List Occurrence
  hard = hard_of f Whole sizes

  abbrev live : List Occurrence
  live = live_of f Whole sizes

  abbrev pub base : List Lit
  base = fixed_lits e chosen ++ hard_roots e hard

  abbrev pub soft : List Lit
  soft = soft_roots e hard

  abbrev clauses : List (List Lit)
  clauses = e.cnf.clauses.items

  -- one root for each live soft item
  pub soft_long : length soft ≡ length live
  soft_long = omega (arith, length-drop (length hard) e.roots.items, roots_long f Whole sizes 1 (hard ++ live) e encodes, length-append hard live)

  can_meet : (fates : List Bool) → HaveValuation clauses (base ++ kept_lits fates soft) → CanMeet f sizes chosen (hard ++ kept_of live fates)
  can_meet fates v = met_by f Whole sizes 1 tt (omega arith) sound fit e encodes chosen [] (all_in_order f chosen cyclic) (all_members f chosen cyclic) v.0 v.1 fates v.2

  cannot_meet : (fates : List Bool) → HaveNoValuation clauses (base ++ kept_lits fates soft) → CanMeet f sizes chosen (hard ++ kept_of live fates) → ⊥
  cannot_meet fates none = unmet_by f Whole sizes 1 tt (omega arith) sound fit e encodes chosen [] (all_in_order f chosen cyclic) (all_members f chosen cyclic) fates none

  -- the fates of the first n soft items
  pub kept_items : (n : ℕ) (kept : List ℕ) (fates : List Bool) → n ≤ length live → IsKept clauses base soft n kept → length fates ≡ n → kept_ranks 1 fates ≡ kept → Keeps (CanMeet f sizes chosen) hard (take (length fates) live) fates
  kept_items n kept fates le is long ranks = fated (CanMeet f sizes chosen) hard live fates holds fails (omega (arith, le, long))
    where
      among : (i : ℕ) → i < length fates → is_among (i + 1) kept ≡ get_or fates i false
      among i lt =
          let up : i + 1 ≡ 1 + i = omega arith in
          ap (λ (r : ℕ). is_among r kept) up ∙ ap (is_among (1 + i)) (sym ranks) ∙ fate_is 1 fates i lt

      asked_for_next : (i : ℕ) → i < length fates → assumed_at base soft kept (i + 1) ≡ base ++ kept_lits (take i fates ++ true ∷ []) soft
      asked_for_next i lt = ap (λ (xs : List ℕ). assumed_at base soft xs (i + 1)) (sym ranks) ∙ assumed_next base soft fates i lt (omega (arith, le, long, soft_long))

      holds : (i : ℕ) → i < length fates → get_or fates i false ≡ true → CanMeet f sizes chosen (hard ++ kept_of live (take i fates ++ true ∷ []))
      holds i lt t = can_meet (take i fates ++ true ∷ []) (subst (HaveValuation clauses) (asked_for_next i lt) (is.stands (i + 1) (omega arith) (omega (arith, lt, long)) (among i lt ∙ t)))

      fails : (i : ℕ) → i < length fates → get_or fates i false ≡ false → CanMeet f sizes chosen (hard ++ kept_of live (take i fates ++ true ∷ [])) → ⊥
      fails i lt t = cannot_meet (take i fates ++ true ∷ []) (subst (HaveNoValuation clauses) (asked_for_next i lt) (is.falls (i + 1) (omega arith) (omega (arith, lt, long)) (among i lt ∙ t)))

  -- the hard items alone
  hard_met : HaveValuation clauses base → CanMeet f sizes chosen hard
  hard_met v =
      subst (CanMeet f sizes chosen) (ap (λ (os : List Occurrence). hard ++ os) (none_kept live) ∙ append-nil hard)
      (can_meet [] (v.0, v.1, ap (list_all (lit_value v.0)) (append-nil base) ∙ v.2))

  -- a dropped rank has a proof that stands
  proofs_stand : (place : ℕ) (kept : List ℕ) (fates : List Bool) → length fates ≤ length soft → kept_ranks 1 fates ≡ kept → (ds : List (ℕ × RefutationView))
      → All (λ (r : ℕ). (0 < r) × (r ≤ length soft)) (map rank_of ds) → All (λ (d : ℕ × RefutationView). (is_among (rank_of d) kept ≡ false) × IsRefutation clauses (assumed_at base soft kept (rank_of d)) d.1) ds
      → AreProved f sizes chosen fates place e (map (dropped_at place base soft kept) ds)
  proofs_stand place kept fates le ranks [] within refuted = tt
  proofs_stand place kept fates le ranks (d ∷ ds) within refuted =
      let in_list = All-head (λ (r : ℕ). (0 < r) × (r ≤ length soft)) (rank_of d) (map rank_of ds) within in
      let log = All-head (λ (x : ℕ × RefutationView). (is_among (rank_of x) kept ≡ false) × IsRefutation clauses (assumed_at base soft kept (rank_of x)) x.1) d ds refuted in
      let same = ap (λ (xs : List ℕ). assumed_at base soft xs (rank_of d)) (sym ranks) ∙ assumed_is base soft fates (rank_of d) le in_list.0 in_list.1 in (
        λ encodings named. (1, refl, record { encoding = e; named = named; encodes = encodes; assumes = same; refutes = log.1 }),
        proofs_stand place kept fates le ranks ds (All-tail (λ (r : ℕ). (0 < r) × (r ≤ length soft)) (rank_of d) (map rank_of ds) within)
            (All-tail (λ (x : ℕ × RefutationView). (is_among (rank_of x) kept ≡ false) × IsRefutation clauses (assumed_at base soft kept (rank_of x)) x.1) d ds refuted),
      )

  pub dropped_stand : (place : ℕ) (kept : List ℕ) (fates : List Bool) (ds : List (ℕ × RefutationView)) → length fates ≡ length soft → kept_ranks 1 fates ≡ kept → AreDropped clauses base soft (length soft) kept ds
      → AreProved f sizes chosen fates place e (map (dropped_at place base soft kept) ds)
  dropped_stand place kept fates ds long ranks h = proofs_stand place kept fates (omega (arith, long)) ranks ds h.ranks.within h.refuted

  -- a question that comes next
  pub reached_next : (rank : Option ℕ) → IsReached clauses base soft rank → IsAskedFor f sizes chosen rank
  reached_next None h = tt
  reached_next (Some rank) h =
      let low : 0 < rank = h.0 in
      let top : rank ≤ length soft = h.1 in
      let kept = h.3.0 in
      let e1 : suc (rank - 1) ≡ 1 + (rank - 1) = omega arith in
      let made = some_fates 1 (rank - 1) kept (subst (λ (u : ℕ). Rises 1 u kept) e1 (ranks_rise (rank - 1) kept h.3.1.ranks)) in
      record {
        hard = hard_met h.2;
        from = omega (arith, low);
        to = omega (arith, top, soft_long);
        fates = made.0;
        above = subst (λ (n : ℕ). Keeps (CanMeet f sizes chosen) hard (take n live) made.0) made.1 (kept_items (rank - 1) kept made.0 (omega (arith, top, soft_long)) h.3.1 made.1 made.2);
      }
