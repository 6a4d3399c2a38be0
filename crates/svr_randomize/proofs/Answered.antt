-- Each answer is the step of its call.
use Rattle.std.proofs.Common.{◌≡◌, ◌<◌, ◌≤◌, ◌+◌, ℕ, Bool, true, false, refl, sym, ◌∙◌, ap, subst, List, [], ◌∷◌, ◌++◌, map, length, take, ◌-◌, Option, None, Some, Result, Ok, arith}
use Rattle.std.specs.Prelude.{IfOk}
use Rattle.std.specs.List.{range_with_len}
use Rattle.std.proofs.lemmas.List.{length-append}
use Rattle.std.proofs.lemmas.List.Elements.{All-nil}
use Rattle.svr_chain.specs.Views.{RefutationView}
use Rattle.svr_eval.specs.Reading.{Reading}
use Rattle.svr_world.specs.declared.change.Replacement.{Replacement}
use Rattle.svr_frame.specs.declared.part.Part.TheVariants.{Randc, Sizes, All as Whole}
use Rattle.svr_frame.specs.Frame.{FrameTerm}
use Rattle.svr_frame.specs.Occurrences.{Occurrence}
use Rattle.svr_frame.specs.Phases.{hard_of, live_of}
use Rattle.svr_frame.specs.Satisfaction.{Keeps}
use Rattle.svr_frame.specs.Weight.{weight_of}
use Rattle.svr_encoded.specs.declared.encoded.Encoded.{Encoded}
use Rattle.svr_phase.specs.declared.proof.Proof.{Proof}
use Rattle.svr_phase.specs.Spent.{IsSpent}
use Rattle.svr_phase.specs.Proof.{StandsForHard, StandsForDrop, StandsForNoSizes, StandsForCap}
use Rattle.svr_phase.specs.Sizes.{Asked, meets_all, chooses_sizes, AreAllowed, HasNoSizes, IsBeyondCap, fits_preferred, cap_bits}
use Rattle.svr_phase.specs.Ends.{Call, renewals, weight_limit, HasSizes, kept_sizes, chosen_sizes, ReachesSizes, IsLight, question_of, IsZeroCyclic, GivesUpCyclic, SizesAreSpent}
use Rattle.svr_call.specs.declared.outcome.Dropped.{Dropped}
use Rattle.svr_call.specs.declared.outcome.Query.TheVariants as query
use Rattle.svr_call.specs.declared.outcome.Outcome.{Outcome}
use Rattle.svr_call.specs.declared.outcome.Outcome.TheVariants.{One, Zero, GaveUp, TooHeavy, SizeCap}
use Rattle.svr_call.specs.Call.{ReachesValues, AsksValues, as_preferred, as_solved, IsSolution, heavy_cyclic, heavy_sizes, heavy_values, all_kept, numbers_read, random_props, preferred, DropsAreProved, GivesUp}
use Rattle.svr_budget_laws.proofs.Named.{alone_named, stands_first, values_first, cycles_first}
use Rattle.svr_question.specs.declared.ask.Met.{Met}
use Rattle.svr_question.specs.Ends.{IsNamed, AreProved, CanMeet, IsMet, IsAskedFor}
use Rattle.svr_cyclic.specs.declared.choose.Chosen.{Chosen}
use Rattle.svr_cyclic.specs.Ends.{IsChosen}
use Rattle.svr_randomize.specs.declared.answer.Answer.{Answer}
use Rattle.svr_randomize.specs.Answers.{IsAnswer}
use Rattle.svr_randomize.specs.Placed.{at_first}
use Rattle.svr_randomize.specs.Asked.{query_of}
use Rattle.svr_randomize.proofs.Ranks.{all_ranks_from, none_dropped}
use Rattle.svr_randomize.proofs.Named.{got_last, cycles_longer, hard_alone}

-- an outcome, with what the object is to have
abbrev pub given : Outcome → List Replacement → List Replacement → Answer
given o values used = record { outcome = o; change = Some (record { values = values; used = used }) }

-- what holds of a value, where it is there
pub told_of : {A E : Type 0} (x : Result A E) (P : A → Type 0) (a : A) → IfOk x P → x ≡ Ok a → P a
told_of {A = A} {E = E} x P a h e = subst (λ (y : Result A E). IfOk y P) e h

-- ---- a phase that weighs too much, and answers of the phase of cyclic values

module _ (c : Call) where
  pub heavy_first : (weight : ℕ) → weight ≡ weight_of c.frame Randc c.frame.state.sizes → weight_limit < weight → (r : Answer) → r ≡ record { outcome = TooHeavy weight; change = None } → IsAnswer c r
  heavy_first weight is more r same = subst (IsAnswer c) (sym same) (record { steps = λ w o. (heavy_cyclic is more, refl); few = tt; shared = tt })

  pub none_cyclic : (chosen : List (ℕ × ℕ)) (proofs : List Proof) (encodings : List Encoded) → IsZeroCyclic c chosen proofs encodings → length encodings ≤ 1
      → (r : Answer) → r ≡ record { outcome = Zero Randc chosen [] proofs encodings; change = None } → IsAnswer c r
  none_cyclic chosen proofs encodings h few r same =
      subst (IsAnswer c) (sym same) (record { steps = λ w o. ((refl, h), refl); few = few; shared = (0, values_first c.frame encodings few _ _ _ _ proofs h.proved) })

  pub spent_cyclic : (prop : ℕ) (e : Encoded) (log : RefutationView) (first : ℕ) → GivesUpCyclic c prop e log first
      → (r : Answer) → r ≡ record { outcome = GaveUp (query.Randc prop) e log first; change = None } → IsAnswer c r
  spent_cyclic prop e log first h r same = subst (IsAnswer c) (sym same) (record { steps = λ w o. (h, refl); few = tt; shared = tt })

-- ---- behind the cyclic values

module _ (c : Call) (chosen : Chosen) (is : IsChosen c chosen) where
  abbrev f : FrameTerm
  f = c.frame

  -- what is asked of the phase of sizes
  abbrev asked : Asked
  asked = record { cap = c.cap; words = c.words; chosen = chosen.values }

  asked_is : question_of c is.choices ≡ asked
  asked_is = ap (λ (fixed : List (ℕ × ℕ)). record { cap = c.cap; words = c.words; chosen = fixed }) (sym is.chosen)

  pub has_kept : chooses_sizes c.frame ≡ false → HasSizes c is.choices c.frame.state.sizes
  has_kept kept = kept_sizes is.passed kept refl

  abbrev reaches : chooses_sizes c.frame ≡ true → IsLight c Sizes c.frame.state.sizes → ReachesSizes c is.choices
  reaches chooses light = record { passed = is.passed; chooses = chooses; light = light }

  pub has_chosen : chooses_sizes c.frame ≡ true → IsLight c Sizes c.frame.state.sizes → (sizes : List ℕ) → AreAllowed c.frame asked sizes → HasSizes c is.choices sizes
  has_chosen chooses light sizes allowed = chosen_sizes (reaches chooses light) (subst (λ (q : Asked). AreAllowed c.frame q sizes) (sym asked_is) allowed)

  pub heavy_second : (weight : ℕ) → chooses_sizes c.frame ≡ true → weight ≡ weight_of c.frame Sizes c.frame.state.sizes → weight_limit < weight
      → (r : Answer) → r ≡ record { outcome = TooHeavy weight; change = None } → IsAnswer c r
  heavy_second weight chooses same more r e = subst (IsAnswer c) (sym e) (record { steps = λ w o. (heavy_sizes is.choices is.passed chooses same more, refl); few = tt; shared = tt })

  pub heavy_last : (weight : ℕ) (sizes : List ℕ) → HasSizes c is.choices sizes → weight ≡ weight_of c.frame Whole sizes → weight_limit < weight
      → (r : Answer) → r ≡ record { outcome = TooHeavy weight; change = None } → IsAnswer c r
  heavy_last weight sizes has same more r e = subst (IsAnswer c) (sym e) (record { steps = λ w o. (heavy_values is.choices sizes has same more, refl); few = tt; shared = tt })

  -- ---- the phase of sizes

  module _ (chooses : chooses_sizes c.frame ≡ true) (light : IsLight c Sizes c.frame.state.sizes) where
    pub none_sized : (proof : Proof) (e : Encoded) → HasNoSizes c.frame asked → StandsForNoSizes c.frame chosen.values (e ∷ []) proof
        → (r : Answer) → r ≡ record { outcome = Zero Sizes chosen.values [] (proof ∷ []) (e ∷ []); change = None } → IsAnswer c r
    none_sized proof e none stands r same =
        subst (IsAnswer c) (sym same)
        (record {
          steps = λ w o. (
            (
              refl,
              record {
                choices = is.choices;
                reached = reaches chooses light;
                none = subst (HasNoSizes c.frame) (sym asked_is) none;
                choice = is.chosen;
                proof = proof;
                only = refl;
                stands = stands;
              },
            ),
            refl,
          );
          few = omega arith;
          shared = alone_named proof (proof ∷ []) refl (stands_first c.frame (e ∷ []) (omega arith) _ _ _ _ _ _ _ proof stands.1);
        })

    pub beyond : (sizes : List ℕ) (proof : Proof) (e : Encoded) → IsBeyondCap c.frame asked sizes → StandsForCap c.frame c.cap (cap_bits c.cap) chosen.values (e ∷ []) proof
        → (r : Answer) → r ≡ record { outcome = SizeCap sizes (proof ∷ []) (e ∷ []); change = None } → IsAnswer c r
    beyond sizes proof e over stands r same =
        subst (IsAnswer c) (sym same)
        (record {
          steps = λ w o. (
            record {
              choices = is.choices;
              reached = reaches chooses light;
              beyond = subst (λ (q : Asked). IsBeyondCap c.frame q sizes) (sym asked_is) over;
              proof = proof;
              only = refl;
              stands = subst (λ (fixed : List (ℕ × ℕ)). StandsForCap c.frame c.cap (cap_bits c.cap) fixed (e ∷ []) proof) is.chosen stands;
            },
            refl,
          );
          few = omega arith;
          shared = alone_named proof (proof ∷ []) refl (stands_first c.frame (e ∷ []) (omega arith) _ _ _ _ _ _ _ proof stands.1);
        })

    pub spent_sized : (e : Encoded) (log : RefutationView) (first : ℕ) → fits_preferred c.frame asked ≡ false → SizesAreSpent c.frame c.budget asked e log first
        → (r : Answer) → r ≡ record { outcome = GaveUp query.Size e log first; change = None } → IsAnswer c r
    spent_sized e log first unfit spent r same =
        subst (IsAnswer c) (sym same)
        (record {
          steps = λ w o. (
            record {
              choices = is.choices;
              reached = reaches chooses light;
              not_preferred = ap (fits_preferred c.frame) asked_is ∙ unfit;
              spent = subst (λ (q : Asked). SizesAreSpent c.frame c.budget q e log first) (sym asked_is) spent;
            },
            refl,
          );
          few = tt;
          shared = tt;
        })

  -- ---- the last phase

  module _ (sizes : List ℕ) where
    abbrev hard : List Occurrence
    hard = hard_of c.frame Whole sizes

    abbrev soft : List Occurrence
    soft = live_of c.frame Whole sizes

    pub one_preferred : ReachesValues c is.choices sizes → (wanted : Reading) → wanted ≡ preferred c is.choices sizes → meets_all wanted (hard_of c.frame Whole sizes ++ live_of c.frame Whole sizes) ≡ true
        → (count : ℕ) → count ≡ length (live_of c.frame Whole sizes)
        → (r : Answer) → r ≡ record { outcome = One (map (λ i. i + 1) (range_with_len 0 count)) [] chosen.cycles chosen.encodings; change = Some (record { values = numbers_read sizes wanted (random_props c.frame); used = chosen.used }) } → IsAnswer c r
    one_preferred reached wanted wish meets count long r same =
        subst (IsAnswer c) (sym same)
        (record {
          steps = λ w o. (
            record { values = numbers_read sizes wanted (random_props c.frame); used = chosen.used },
            record {
              choices = is.choices;
              sizes = sizes;
              reached = reached;
              fates = all_kept (live_of c.frame Whole sizes);
              gives =
                  as_preferred (ap (λ (a : Reading). meets_all a (hard_of c.frame Whole sizes ++ live_of c.frame Whole sizes)) (sym wish) ∙ meets) refl
                  (ap (λ (a : Reading). numbers_read sizes a (random_props c.frame)) wish);
              uses = is.uses;
              kept_ranks = ap (λ (n : ℕ). map (λ i. i + 1) (range_with_len 0 n)) long ∙ all_ranks_from 0 (live_of c.frame Whole sizes);
              dropped_ranks = sym (none_dropped 1 (live_of c.frame Whole sizes));
              drops_proved = tt;
              cycles_proved = is.proved;
            },
            refl,
          );
          few = omega (arith, is.few);
          shared = ((0, cycles_first c chosen.encodings is.few (renewals [] is.choices) chosen.cycles is.proved), (0, All-nil _));
        })

    pub asks : ReachesValues c is.choices sizes → (wanted : Reading) → wanted ≡ preferred c is.choices sizes → meets_all wanted (hard_of c.frame Whole sizes ++ live_of c.frame Whole sizes) ≡ false → AsksValues c is.choices sizes
    asks reached wanted wish fails = record {
      reached = reached;
      not_preferred = ap (λ (a : Reading). meets_all a (hard_of c.frame Whole sizes ++ live_of c.frame Whole sizes)) (sym wish) ∙ fails;
    }

    -- values that a search found, where no soft item is dropped
    pub one_alone : AsksValues c is.choices sizes → (e : Encoded) (m : Met) → IsMet c.frame sizes chosen.values (length chosen.encodings) e m → m.dropped ≡ [] → (a : Reading) → IsSolution c is.choices sizes m.fates.items a
        → (r : Answer) → r ≡ record { outcome = One m.kept [] chosen.cycles chosen.encodings; change = Some (record { values = numbers_read sizes a (random_props c.frame); used = chosen.used }) } → IsAnswer c r
    one_alone asking e m met none a solves r same =
        subst (IsAnswer c) (sym same)
        (record {
          steps = λ w o. (
            record { values = numbers_read sizes a (random_props c.frame); used = chosen.used },
            record {
              choices = is.choices;
              sizes = sizes;
              reached = asking.reached;
              fates = m.fates.items;
              gives = as_solved asking.not_preferred a solves refl;
              uses = is.uses;
              kept_ranks = met.kept;
              dropped_ranks = ap (map (λ (d : Dropped). d.rank)) (sym none) ∙ met.dropped;
              drops_proved = tt;
              cycles_proved = is.proved;
            },
            refl,
          );
          few = omega (arith, is.few);
          shared = ((0, cycles_first c chosen.encodings is.few (renewals [] is.choices) chosen.cycles is.proved), (0, All-nil _));
        })

    module _ (asking : AsksValues c is.choices sizes) (e : Encoded) where
      -- the encoding stands behind those of the cyclic values
      abbrev encodings : List Encoded
      encodings = chosen.encodings ++ e ∷ []

      named : IsNamed (length chosen.encodings) e encodings
      named = got_last chosen.encodings e

      all_proved : (fates : List Bool) (ds : List Dropped) → AreProved c.frame sizes chosen.values fates (length chosen.encodings) e ds → DropsAreProved c is.choices sizes fates encodings ds
      all_proved fates [] h = tt
      all_proved fates (d ∷ ds) h = (subst (λ (fixed : List (ℕ × ℕ)). StandsForDrop c.frame sizes fixed fates d.rank encodings d.proof) is.chosen (h.0 encodings named), all_proved fates ds h.1)

      pub one_solved : (m : Met) → IsMet c.frame sizes chosen.values (length chosen.encodings) e m → (a : Reading) → IsSolution c is.choices sizes m.fates.items a
          → (r : Answer) → r ≡ record { outcome = One m.kept m.dropped chosen.cycles encodings; change = Some (record { values = numbers_read sizes a (random_props c.frame); used = chosen.used }) } → IsAnswer c r
      one_solved m met a solves r same =
          subst (IsAnswer c) (sym same)
          (record {
            steps = λ w o. (
              record { values = numbers_read sizes a (random_props c.frame); used = chosen.used },
              record {
                choices = is.choices;
                sizes = sizes;
                reached = asking.reached;
                fates = m.fates.items;
                gives = as_solved asking.not_preferred a solves refl;
                uses = is.uses;
                kept_ranks = met.kept;
                dropped_ranks = met.dropped;
                drops_proved = all_proved m.fates.items m.dropped met.proved;
                cycles_proved = cycles_longer c chosen.encodings (e ∷ []) _ chosen.cycles is.proved;
              },
              refl,
            );
            few = omega (arith, length-append chosen.encodings (e ∷ []), is.few);
            shared = ((0, cycles_first c chosen.encodings is.few (renewals [] is.choices) chosen.cycles is.proved), (length chosen.encodings, met.places));
          })

      pub zero_proved : (proof : Proof) → (CanMeet c.frame sizes chosen.values (hard_of c.frame Whole sizes) → ⊥) → ((es : List Encoded) → IsNamed (length chosen.encodings) e es → StandsForHard c.frame sizes chosen.values es proof)
          → (r : Answer) → r ≡ record { outcome = Zero Whole chosen.values sizes (at_first proof ∷ []) (e ∷ []); change = None } → IsAnswer c r
      zero_proved proof none stands r same =
          subst (IsAnswer c) (sym same)
          (record {
            steps = λ w o. (
              record {
                choices = is.choices;
                reached = asking.reached;
                none = subst (λ (fixed : List (ℕ × ℕ)). CanMeet c.frame sizes fixed (hard_of c.frame Whole sizes) → ⊥) is.chosen none;
                choice = is.chosen;
                proof = at_first proof;
                only = refl;
                stands = hard_alone c.frame sizes chosen.values (length chosen.encodings) e proof stands;
              },
              refl,
            );
            few = omega arith;
            shared = alone_named (at_first proof) (at_first proof ∷ []) refl refl;
          })

      gives_up : (rank : Option ℕ) (log : RefutationView) (first : ℕ) → IsAskedFor c.frame sizes chosen.values rank → IsSpent c.frame c.budget Whole sizes 1 (hard_of c.frame Whole sizes ++ live_of c.frame Whole sizes) e log first
          → GivesUp c (query_of rank) e log first
      gives_up None log first asked_for spent = record { choices = is.choices; sizes = sizes; asks = asking; size_bits = 1; spent = spent }
      gives_up (Some rank) log first asked_for spent = record {
        choices = is.choices;
        sizes = sizes;
        asks = asking;
        hard = subst (λ (fixed : List (ℕ × ℕ)). CanMeet c.frame sizes fixed (hard_of c.frame Whole sizes)) is.chosen asked_for.hard;
        from = asked_for.from;
        to = asked_for.to;
        fates = asked_for.fates;
        above = subst (λ (fixed : List (ℕ × ℕ)). Keeps (CanMeet c.frame sizes fixed) (hard_of c.frame Whole sizes) (take (rank - 1) (live_of c.frame Whole sizes)) asked_for.fates) is.chosen asked_for.above;
        size_bits = 1;
        spent = spent;
      }

      pub spent_asked : (rank : Option ℕ) (log : RefutationView) (first : ℕ) → IsAskedFor c.frame sizes chosen.values rank → IsSpent c.frame c.budget Whole sizes 1 (hard_of c.frame Whole sizes ++ live_of c.frame Whole sizes) e log first
          → (r : Answer) → r ≡ record { outcome = GaveUp (query_of rank) e log first; change = None } → IsAnswer c r
      spent_asked rank log first asked_for spent r same = subst (IsAnswer c) (sym same) (record { steps = λ w o. (gives_up rank log first asked_for spent, refl); few = tt; shared = tt })
