-- The items of each phase can be made into clauses, and evaluated under each of its assignments.
use Rattle.std.proofs.Common.{◌≡◌, ◌<◌, ◌^◌, ℕ, Bool, true, false, inl, inr, refl, sym, ◌∙◌, subst, List, [], ◌∷◌, ◌++◌, map, length, arith}
use Rattle.std.specs.Prelude.{filter, if◌then◌else◌}
use Rattle.std.specs.List.{All}
use Rattle.std.proofs.lemmas.List.Elements.{All-nil, All-cons}
use Rattle.svr_operator.specs.declared.BinOp.TheVariants as bin
use Rattle.svr_typed.specs.declared.expr.TExpr.{TExpr}
use Rattle.svr_typed.specs.declared.class.Prop.{Prop}
use Rattle.svr_typed.specs.ExprTerm.{ExprTerm, expr_term}
use Rattle.svr_eval.specs.Reading.{Reading, reading_of}
use Rattle.svr_eval.specs.Typed.{IsTyped, CanRead}
use Rattle.svr_frame.specs.declared.part.Part.{Part}
use Rattle.svr_frame.specs.declared.part.Part.TheVariants.{Randc, Sizes, All as Whole}
use Rattle.svr_frame.specs.Frame.{FrameTerm, is_dynamic_kind, is_array, has_free_size, props_of, state_at}
use Rattle.svr_frame.specs.Occurrences.{Occurrence, closed_of}
use Rattle.svr_frame.specs.Phases.{unknowns_of, domain_items, not_negative, at_most, size_items, cap_items, asked_of, hard_of, capped_hard_of, live_of, sought_sizes}
use Rattle.svr_frame.specs.Satisfaction.{IsAssignment}
use Rattle.svr_frame.specs.Sound.{IsSound, SizesFit}
use Rattle.svr_frame_laws.proofs.Answers.{found, scalar_not_free}
use Rattle.svr_frame_laws.proofs.Readable.{size_below}
use Rattle.svr_draw.specs.Preferred.{preferred_of}
use Rattle.svr_draw.proofs.Fits.{preferred_is}
use Rattle.svr_ready.specs.Ready.{AreReady}
use Rattle.svr_ready.proofs.Domains.{domains_are_ready, asked_are_ready, live_are_ready}
use Rattle.svr_encoded.specs.Fixed.{IsFixed}
use Rattle.svr_blast.specs.Standing.{StandsIn}
use Rattle.svr_phase.proofs.Preferred.{state_sizes_fit}
use Rattle.svr_clauses.specs.Encodable.{IsEncodable, AreEncodable}
use Rattle.svr_clauses.proofs.Fixed.{AllFixed, domains_fixed, asked_fixed, live_fixed}
use Rattle.svr_clauses.proofs.OfState.{state_can_read}

-- ---- lists

module _ (f : FrameTerm) (part : Part) (a st : Reading) where
  pub both_encodable : (os ps : List Occurrence) → AreEncodable f part a st os → AreEncodable f part a st ps → AreEncodable f part a st (os ++ ps)
  both_encodable [] ps h k = k
  both_encodable (o ∷ os) ps h k = (h.0, both_encodable os ps h.1 k)

  from_ready : (os : List Occurrence) → AreReady f a st os → AllFixed (sought_sizes f part) st os → AreEncodable f part a st os
  from_ready [] h k = tt
  from_ready (o ∷ os) h k = (record { typed = h.0.typed; stands = inl h.0.is_in; reads = h.0.reads; fixed = k.0 }, from_ready os h.1 k.1)

-- ---- the bounds of sizes

-- an array whose size is free
free_array : (f : FrameTerm) → IsSound f → (p : ℕ) → has_free_size f p ≡ true → (p < length f.class.props) × (is_array f p ≡ true)
free_array f sound p h = ((found (λ (x : Prop). is_dynamic_kind x.array) f.class.props p (sound.free p h).1).0, by_kind (is_array f p) refl)
  where
    by_kind : (b : Bool) → is_array f p ≡ b → b ≡ true
    by_kind true e = refl
    by_kind false e = absurd (let c : false ≡ true = sym (scalar_not_free f f.state.sizes sound (state_sizes_fit f sound) p e) ∙ h in cc)

module _ (f : FrameTerm) (sound : IsSound f) (part : Part) (a st : Reading) (below : (p : ℕ) → a.size p < 2 ^ 32) where
  low_encodable : (p : ℕ) → has_free_size f p ≡ true → IsEncodable f part a (closed_of st (not_negative f p))
  low_encodable p h =
      let here = free_array f sound p h in
      record {
        typed = (omega arith, omega arith, refl, refl, ((omega arith, omega arith, refl, refl, omega arith), (omega arith, omega arith, refl, refl, omega arith)));
        stands = inr (bin.AtLeast, p, 0, here.0, here.1, refl);
        reads = (below p, tt);
        fixed = (tt, tt);
      }

  high_encodable : (cap : ℕ) → cap < 2 ^ 32 → (p : ℕ) → has_free_size f p ≡ true → IsEncodable f part a (closed_of st (at_most f cap p))
  high_encodable cap lt p h =
      let here = free_array f sound p h in
      record {
        typed = (omega arith, omega arith, refl, refl, ((omega arith, omega arith, refl, refl, omega arith), (omega arith, omega arith, refl, refl, lt)));
        stands = inr (bin.AtMost, p, cap, here.0, here.1, refl);
        reads = (below p, tt);
        fixed = (tt, tt);
      }

  bounds_encodable : (g : ℕ → Occurrence) → ((p : ℕ) → has_free_size f p ≡ true → IsEncodable f part a (closed_of st (g p))) → (ps : List ℕ) → AreEncodable f part a st (map g (filter (has_free_size f) ps))
  bounds_encodable g k [] = tt
  bounds_encodable g k (p ∷ ps) = by_test (has_free_size f p) refl (bounds_encodable g k ps)
    where
      by_test : (b : Bool) → has_free_size f p ≡ b → AreEncodable f part a st (map g (filter (has_free_size f) ps)) → AreEncodable f part a st (map g (filter (has_free_size f) (p ∷ ps)))
      by_test true e rest = subst (λ (c : Bool). AreEncodable f part a st (map g (if c then p ∷ filter (has_free_size f) ps else filter (has_free_size f) ps))) (sym e) (k p e, rest)
      by_test false e rest = subst (λ (c : Bool). AreEncodable f part a st (map g (if c then p ∷ filter (has_free_size f) ps else filter (has_free_size f) ps))) (sym e) rest

  lows_encodable : (p : Part) → AreEncodable f part a st (size_items f p)
  lows_encodable Randc = tt
  lows_encodable Sizes = bounds_encodable (not_negative f) low_encodable (props_of f)
  lows_encodable Whole = tt

  highs_encodable : (cap : ℕ) → cap < 2 ^ 32 → AreEncodable f part a st (cap_items f cap)
  highs_encodable cap lt = bounds_encodable (at_most f cap) (high_encodable cap lt) (props_of f)

-- ---- all items of a phase, under an assignment of it

module _ (f : FrameTerm) (part : Part) (ns : List ℕ) (sound : IsSound f) (fit : SizesFit f ns) (fixed : List (ℕ × ℕ)) (a : Reading) (is : IsAssignment f part ns fixed a) where
  abbrev st : Reading
  st = state_at f ns

  below : (p : ℕ) → a.size p < 2 ^ 32
  below = size_below f a ns sound fit part fixed is

  domains_under : AreEncodable f part a st (domain_items f part ns)
  domains_under = from_ready f part a st (domain_items f part ns) (domains_are_ready f part ns sound fit fixed a is) (domains_fixed f (sought_sizes f part) st (unknowns_of f part ns))

  asked_under : AreEncodable f part a st (asked_of f part ns)
  asked_under = from_ready f part a st (asked_of f part ns) (asked_are_ready f part ns sound fit fixed a is) (asked_fixed f sound ns st part)

  pub hard_under : AreEncodable f part a st (hard_of f part ns)
  hard_under =
      both_encodable f part a st (domain_items f part ns ++ size_items f part) (asked_of f part ns)
      (both_encodable f part a st (domain_items f part ns) (size_items f part) domains_under (lows_encodable f sound part a st below part)) asked_under

  pub live_under : AreEncodable f part a st (live_of f part ns)
  live_under = from_ready f part a st (live_of f part ns) (live_are_ready f part ns sound fit fixed a is) (live_fixed f sound ns st part)

-- in the phase of sizes also with the bounds of the cap
module _ (f : FrameTerm) (ns : List ℕ) (sound : IsSound f) (fit : SizesFit f ns) (fixed : List (ℕ × ℕ)) (a : Reading) (is : IsAssignment f Sizes ns fixed a) where
  pub capped_under : (cap : ℕ) → cap < 2 ^ 32 → AreEncodable f Sizes a (state_at f ns) (capped_hard_of f cap ns)
  capped_under cap lt =
      let low = below f Sizes ns sound fit fixed a is in
      both_encodable f Sizes a (state_at f ns) (domain_items f Sizes ns ++ size_items f Sizes ++ cap_items f cap) (asked_of f Sizes ns)
      (both_encodable f Sizes a (state_at f ns) (domain_items f Sizes ns ++ size_items f Sizes) (cap_items f cap)
      (both_encodable f Sizes a (state_at f ns) (domain_items f Sizes ns) (size_items f Sizes) (domains_under f Sizes ns sound fit fixed a is) (lows_encodable f sound Sizes a (state_at f ns) low Sizes))
      (highs_encodable f sound Sizes a (state_at f ns) low cap lt)) (asked_under f Sizes ns sound fit fixed a is)

-- ---- and in the state

module _ (f : FrameTerm) (part : Part) (ns : List ℕ) (sound : IsSound f) (fit : SizesFit f ns) where
  -- some assignment of the phase
  abbrev some : Reading
  some = preferred_of f part ns 0 (λ k. 0)

  some_is : IsAssignment f part ns [] some
  some_is = preferred_is f ns sound fit 0 (omega arith) (λ k. 0) part

  reads_there : (e : ExprTerm) → StandsIn f e → CanRead some 0 e → CanRead (reading_of f.state) 0 e
  reads_there e (inl h) k = state_can_read f some ns sound part [] some_is 0 false e h k
  reads_there e (inr b) k = subst (CanRead (reading_of f.state) 0) (sym b.5) (omega (arith, (state_sizes_fit f sound).most b.1), tt)

  in_state : (st : Reading) (os : List Occurrence) → AreEncodable f part some st os → AreEncodable f part (reading_of f.state) st os
  in_state st [] h = tt
  in_state st (o ∷ os) h =
      (record { typed = h.0.typed; stands = h.0.stands; reads = reads_there (closed_of st o) h.0.stands h.0.reads; fixed = h.0.fixed }, in_state st os h.1)

  pub hard_encodable : AreEncodable f part (reading_of f.state) (state_at f ns) (hard_of f part ns)
  hard_encodable = in_state (state_at f ns) (hard_of f part ns) (hard_under f part ns sound fit [] some some_is)

  pub live_encodable : AreEncodable f part (reading_of f.state) (state_at f ns) (live_of f part ns)
  live_encodable = in_state (state_at f ns) (live_of f part ns) (live_under f part ns sound fit [] some some_is)

pub capped_encodable : (f : FrameTerm) (ns : List ℕ) → IsSound f → SizesFit f ns → (cap : ℕ) → cap < 2 ^ 32 → AreEncodable f Sizes (reading_of f.state) (state_at f ns) (capped_hard_of f cap ns)
capped_encodable f ns sound fit cap lt =
    in_state f Sizes ns sound fit (state_at f ns) (capped_hard_of f cap ns) (capped_under f ns sound fit [] (some f Sizes ns sound fit) (some_is f Sizes ns sound fit) cap lt)

-- ---- trees that stand for such items

all_have : (P : ExprTerm → Type 0) (f : FrameTerm) (part : Part) (a st : Reading) → ((e : ExprTerm) → IsEncodable f part a e → P e) → (xs : List TExpr) (os : List Occurrence)
    → map expr_term xs ≡ map (closed_of st) os → AreEncodable f part a st os → All (λ x. P (expr_term x)) xs
all_have P f part a st k [] os e h = All-nil (λ x. P (expr_term x))
all_have P f part a st k (x ∷ xs) [] e h = absurd (cc)
all_have P f part a st k (x ∷ xs) (o ∷ os) e h =
    let first : expr_term x ≡ closed_of st o = cc in
    let rest : map expr_term xs ≡ map (closed_of st) os = cc in
    All-cons (λ y. P (expr_term y)) x xs (subst P (sym first) (k (closed_of st o) h.0)) (all_have P f part a st k xs os rest h.1)

module _ (f : FrameTerm) (part : Part) (a st : Reading) (xs : List TExpr) (os : List Occurrence) (stand : map expr_term xs ≡ map (closed_of st) os) (h : AreEncodable f part a st os) where
  pub all_typed : All (λ x. IsTyped (expr_term x)) xs
  all_typed = all_have IsTyped f part a st (λ e k. k.typed) xs os stand h

  pub all_inside : All (λ x. StandsIn f (expr_term x)) xs
  all_inside = all_have (StandsIn f) f part a st (λ e k. k.stands) xs os stand h

  pub all_readable : All (λ x. CanRead a 0 (expr_term x)) xs
  all_readable = all_have (CanRead a 0) f part a st (λ e k. k.reads) xs os stand h

  pub all_fixed : All (λ x. IsFixed (sought_sizes f part) (expr_term x)) xs
  all_fixed = all_have (IsFixed (sought_sizes f part)) f part a st (λ e k. k.fixed) xs os stand h
