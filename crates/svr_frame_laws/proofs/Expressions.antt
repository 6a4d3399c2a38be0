-- The closed expressions of all hard items and of all live soft items of a phase have the truths of their occurrences.
use Rattle.std.proofs.Common.{◌≡◌, ℕ, Bool, true, false, not, ◌&&◌, refl, sym, ◌∙◌, ap, List, [], ◌∷◌, ◌++◌, map, Option, None, Some}
use Rattle.std.specs.Prelude.{⊤, filter, if◌then◌else◌}
use Rattle.std.specs.List.{list_any, flat_map}
use Rattle.std.proofs.lemmas.List.Concat.{flat_map-cons}
use Rattle.svr_typed.specs.ExprTerm.{ExprTerm, NodeTerm, prop, element}
use Rattle.svr_eval.specs.Reading.{Reading}
use Rattle.svr_eval.specs.Value.{alone, is_set}
use Rattle.svr_frame.specs.declared.part.Part.{Part}
use Rattle.svr_frame.specs.declared.part.Part.TheVariants.{Randc, Sizes, All}
use Rattle.svr_frame.specs.declared.slot.Slot.{Slot}
use Rattle.svr_frame.specs.declared.slot.Slot.TheVariants.{Scalar, Element, Size}
use Rattle.svr_frame.specs.Frame.{FrameTerm, has_free_size, members_of, props_of, state_at}
use Rattle.svr_frame.specs.Closed.{index_number}
use Rattle.svr_frame.specs.Occurrences.{Occurrence, is_true, is_hard, closed_of}
use Rattle.svr_frame.specs.Phases.{unknowns_of, among_members, domain_item, domain_items, not_negative, at_most, size_items, cap_items, belongs, active_at, asked_of, hard_of, capped_hard_of, is_soft_of, removes, live, live_of}
use Rattle.svr_frame.specs.Satisfaction.{IsAssignment}
use Rattle.svr_frame.specs.Sound.{IsSound, SizesFit}
use Rattle.svr_frame_laws.proofs.Truth.{FactSameWeights, closed_is_true}
use Rattle.svr_frame_laws.proofs.Standing.{OccurrenceIsIn, AllAreIn, active_in, fact_weights}

-- the truths of closed expressions, and of occurrences
abbrev pub closed_truths : Reading → Reading → List Occurrence → List Bool
closed_truths state a os = map (λ o. is_set (alone a [] (closed_of state o))) os

abbrev pub truths : Reading → List Occurrence → List Bool
truths a os = map (is_true a) os

module _ (state a : Reading) where
  abbrev Weighed : List Occurrence → Type 0
  Weighed [] = ⊤
  Weighed (o ∷ os) = FactSameWeights state a o.place.env o.fact × Weighed os

  Weighed-append : (os ps : List Occurrence) → Weighed os → Weighed ps → Weighed (os ++ ps)
  Weighed-append [] ps h k = k
  Weighed-append (o ∷ os) ps h k = (h.0, Weighed-append os ps h.1 k)

  Weighed-filter : (t : Occurrence → Bool) (os : List Occurrence) → Weighed os → Weighed (filter t os)
  Weighed-filter t [] h = tt
  Weighed-filter t (o ∷ os) h = by_test (t o) refl (Weighed-filter t os h.1)
    where
      by_test : (b : Bool) → t o ≡ b → Weighed (filter t os) → Weighed (filter t (o ∷ os))
      by_test true e rest = rw e (h.0, rest)
      by_test false e rest = rw e rest

  same_truths : (os : List Occurrence) → Weighed os → closed_truths state a os ≡ truths a os
  same_truths [] h = refl
  same_truths (o ∷ os) h = λ k. closed_is_true state a o h.0 k ∷ same_truths os h.1 k

  module _ (f : FrameTerm) where
    among_weighed : (p : ℕ) (n : NodeTerm) (vs : Option (List ℕ)) → Weighed (among_members f p n vs)
    among_weighed p n None = tt
    among_weighed p n (Some vs) = (tt, tt)

    domain_weighed : (s : Slot) → Weighed (domain_item f s)
    domain_weighed (Scalar p) = among_weighed p (prop p) (members_of f p)
    domain_weighed (Element p i) = among_weighed p (element p (index_number i)) (members_of f p)
    domain_weighed (Size p) = tt

    domains_weighed : (ss : List Slot) → Weighed (flat_map (domain_item f) ss)
    domains_weighed [] = tt
    domains_weighed (s ∷ ss) = rw (flat_map-cons (domain_item f) s ss) (Weighed-append (domain_item f s) (flat_map (domain_item f) ss) (domain_weighed s) (domains_weighed ss))

    low_weighed : (ps : List ℕ) → Weighed (map (not_negative f) ps)
    low_weighed [] = tt
    low_weighed (p ∷ ps) = (tt, low_weighed ps)

    high_weighed : (cap : ℕ) (ps : List ℕ) → Weighed (map (at_most f cap) ps)
    high_weighed cap [] = tt
    high_weighed cap (p ∷ ps) = (tt, high_weighed cap ps)

    bounds_weighed : (part : Part) → Weighed (size_items f part)
    bounds_weighed Randc = tt
    bounds_weighed Sizes = low_weighed (filter (has_free_size f) (props_of f))
    bounds_weighed All = tt

    live_weighed : (part : Part) (ns : List ℕ) (os : List Occurrence) → Weighed os → Weighed (live f part ns os)
    live_weighed part ns [] h = tt
    live_weighed part ns (o ∷ os) h =
        Weighed-append (live f part ns os) (if is_soft_of f part ns o && not (list_any (λ d. removes f part ns d o) os) then o ∷ [] else []) (live_weighed part ns os h.1)
        (one (is_soft_of f part ns o && not (list_any (λ d. removes f part ns d o) os)))
      where
        one : (b : Bool) → Weighed (if b then o ∷ [] else [])
        one true = (h.0, tt)
        one false = tt

module _ (f : FrameTerm) (ns : List ℕ) (sound : IsSound f) (fit : SizesFit f ns) (part : Part) (fixed : List (ℕ × ℕ)) (a : Reading) (is : IsAssignment f part ns fixed a) where
  all_weighed : (os : List Occurrence) → AllAreIn f os → Weighed (state_at f ns) a os
  all_weighed [] h = tt
  all_weighed (o ∷ os) h = (fact_weights f ns sound fit part fixed a is o.place.env o.fact h.0.1, all_weighed os h.1)

  active_weighed : Weighed (state_at f ns) a (active_at f ns)
  active_weighed = all_weighed (active_at f ns) (active_in f ns sound)

  asked_weighed : (p : Part) → Weighed (state_at f ns) a (asked_of f p ns)
  asked_weighed p = Weighed-filter (state_at f ns) a (λ o. is_hard o && belongs f p ns o) (active_at f ns) active_weighed

  -- the hard items
  pub hard_truths : closed_truths (state_at f ns) a (hard_of f part ns) ≡ truths a (hard_of f part ns)
  hard_truths =
      same_truths (state_at f ns) a (hard_of f part ns)
      (Weighed-append (state_at f ns) a (domain_items f part ns ++ size_items f part) (asked_of f part ns)
      (Weighed-append (state_at f ns) a (domain_items f part ns) (size_items f part) (domains_weighed (state_at f ns) a f (unknowns_of f part ns)) (bounds_weighed (state_at f ns) a f part))
      (asked_weighed part))

  -- the live soft items
  pub live_truths : closed_truths (state_at f ns) a (live_of f part ns) ≡ truths a (live_of f part ns)
  live_truths = same_truths (state_at f ns) a (live_of f part ns) (live_weighed (state_at f ns) a f part ns (active_at f ns) active_weighed)
