-- The closed expressions of the hard items and of soft ones that are kept hold just where the items do; and where their roots are true, they hold.
use Rattle.std.proofs.Common.{◌≡◌, ℕ, Bool, true, false, ◌&&◌, List, [], ◌∷◌, ◌++◌, map, length, drop, refl, sym, ◌∙◌}
use Rattle.std.specs.List.{list_all}
use Rattle.std.proofs.lemmas.Bool.{and_parts}
use Rattle.std.proofs.lemmas.List.Folds.{list_all-append}
use Rattle.svr_chain.specs.declared.clause.Lit.{Lit}
use Rattle.svr_chain.specs.Valuations.{lit_value, Meets}
use Rattle.svr_typed.specs.ExprTerm.{ExprTerm}
use Rattle.svr_eval.specs.Reading.{Reading}
use Rattle.svr_frame.specs.declared.part.Part.{Part}
use Rattle.svr_frame.specs.Frame.{FrameTerm, state_at}
use Rattle.svr_frame.specs.Occurrences.{Occurrence, is_true, all_true, closed_of}
use Rattle.svr_frame.specs.Phases.{hard_of, live_of}
use Rattle.svr_frame.specs.Satisfaction.{IsAssignment, kept_of}
use Rattle.svr_frame.specs.Sound.{IsSound, SizesFit}
use Rattle.svr_frame_laws.proofs.Expressions.{live_truths}
use Rattle.svr_encoded.specs.declared.encoded.Encoded.{Encoded}
use Rattle.svr_encoded.specs.Encodes.{holds}
use Rattle.svr_encoded.proofs.BridgeLemmas.{read_of_phase}
use Rattle.svr_phase.specs.Spent.{EncodesItems}
use Rattle.svr_phase.specs.Proof.{soft_roots, kept_lits}
use Rattle.svr_phase.proofs.Refutes.{closed_hold}

-- ---- lists of truths

heads : {a b : Bool} {xs ys : List Bool} → a ∷ xs ≡ b ∷ ys → a ≡ b
heads e = cc

tails : {a b : Bool} {xs ys : List Bool} → a ∷ xs ≡ b ∷ ys → xs ≡ ys
tails e = cc

kept_same : (g h : Occurrence → Bool) (os : List Occurrence) (fates : List Bool) → map g os ≡ map h os → list_all g (kept_of os fates) ≡ list_all h (kept_of os fates)
kept_same g h [] fates e = refl
kept_same g h (o ∷ os) [] e = refl
kept_same g h (o ∷ os) (true ∷ fates) e = let rest = kept_same g h os fates (tails e) in λ k. heads e k && rest k
kept_same g h (o ∷ os) (false ∷ fates) e = kept_same g h os fates (tails e)

-- the literals behind the first ones
behind : (t : Lit → Bool) (g : Occurrence → Bool) (roots : List Lit) (hard soft : List Occurrence) → map t roots ≡ map g (hard ++ soft) → map t (drop (length hard) roots) ≡ map g soft
behind t g roots [] soft e = e
behind t g [] (o ∷ hard) soft e = absurd (cc)
behind t g (r ∷ roots) (o ∷ hard) soft e = behind t g roots hard soft (tails e)

-- where the literals that are kept are true, so are the items
kept_true : (t : Lit → Bool) (g : Occurrence → Bool) (roots : List Lit) (soft : List Occurrence) (fates : List Bool) → map t roots ≡ map g soft → list_all t (kept_lits fates roots) ≡ true → list_all g (kept_of soft fates) ≡ true
kept_true t g roots [] fates e h = refl
kept_true t g [] (o ∷ soft) fates e h = absurd (cc)
kept_true t g (r ∷ roots) (o ∷ soft) [] e h = refl
kept_true t g (r ∷ roots) (o ∷ soft) (true ∷ fates) e h =
    let two = and_parts (t r) (list_all t (kept_lits fates roots)) h in
    let here : g o ≡ true = sym (heads e) ∙ two.0 in
    let rest = kept_true t g roots soft fates (tails e) two.1 in
    λ k. here k && rest k
kept_true t g (r ∷ roots) (o ∷ soft) (false ∷ fates) e h = kept_true t g roots soft fates (tails e) h

map_closed : (g : Occurrence → Bool) (c : Reading) (h : ExprTerm → Bool) (os : List Occurrence) → ((o : Occurrence) → h (closed_of c o) ≡ g o) → map h (map (closed_of c) os) ≡ map g os
map_closed g c h [] same = refl
map_closed g c h (o ∷ os) same = λ i. same o i ∷ map_closed g c h os same i

-- ---- closed expressions and items

module _ (f : FrameTerm) (part : Part) (sizes : List ℕ) (sound : IsSound f) (fit : SizesFit f sizes) (fixed : List (ℕ × ℕ)) (a : Reading) (is : IsAssignment f part sizes fixed a) (fates : List Bool) where
  pub kept_hold : list_all (λ o. holds a (closed_of (state_at f sizes) o)) (kept_of (live_of f part sizes) fates) ≡ all_true a (kept_of (live_of f part sizes) fates)
  kept_hold = kept_same (λ o. holds a (closed_of (state_at f sizes) o)) (is_true a) (live_of f part sizes) fates (live_truths f sizes sound fit part fixed a is)

  -- the hard items and those that are kept
  pub both_hold : list_all (λ o. holds a (closed_of (state_at f sizes) o)) (hard_of f part sizes ++ kept_of (live_of f part sizes) fates) ≡ all_true a (hard_of f part sizes ++ kept_of (live_of f part sizes) fates)
  both_hold =
      let hard = closed_hold f part sizes sound fit fixed a is in
      list_all-append (λ o. holds a (closed_of (state_at f sizes) o)) (hard_of f part sizes) (kept_of (live_of f part sizes) fates)
      ∙ (λ k. hard k && kept_hold k)
      ∙ sym (list_all-append (is_true a) (hard_of f part sizes) (kept_of (live_of f part sizes) fates))

-- ---- what an encoding says of a valuation

module _ (f : FrameTerm) (part : Part) (sizes : List ℕ) (k : ℕ) (hard soft : List Occurrence) (e : Encoded) (encodes : EncodesItems f part sizes k (hard ++ soft) e) (v : ℕ → Bool) (meets : Meets v e.cnf.clauses.items) where
  abbrev is_closed_true : Occurrence → Bool
  is_closed_true o = holds (read_of_phase f part sizes k v) (closed_of (state_at f sizes) o)

  roots_are : map (lit_value v) e.roots.items ≡ map is_closed_true (hard ++ soft)
  roots_are = encodes.roots v meets ∙ map_closed is_closed_true (state_at f sizes) (λ x. holds (read_of_phase f part sizes k v) x) (hard ++ soft) (λ o. refl)

  -- where the roots of the soft items that are kept are true, their closed expressions hold
  pub kept_held : (fates : List Bool) → list_all (lit_value v) (kept_lits fates (soft_roots e hard)) ≡ true → list_all (λ o. holds (read_of_phase f part sizes k v) (closed_of (state_at f sizes) o)) (kept_of soft fates) ≡ true
  kept_held fates h =
      kept_true (lit_value v) is_closed_true (drop (length hard) e.roots.items) soft fates (behind (lit_value v) is_closed_true e.roots.items hard soft roots_are) h
