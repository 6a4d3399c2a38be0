-- What stands at some places, one place more, and the place of a number.
use Rattle.std.proofs.Common.{◌≡◌, ◌≤◌, ◌+◌, ℕ, Bool, true, false, cond, List, [], ◌∷◌, ◌++◌, map, length, Option, None, Some, refl, sym, ap, ◌∙◌, append_assoc, append-nil, position, arith}
use Rattle.std.specs.Prelude.{nat_lt, nat_eq, unwrap_or, slice_index, slice_index_or}
use Rattle.std.proofs.lemmas.Bool.{ltb-false}
use Rattle.svr_eval.specs.declared.assign.Assign.{Assign}
use Rattle.svr_eval.specs.Reading.{reading_of}
use Rattle.svr_world.specs.World.{WorldTerm}
use Rattle.svr_effect.specs.Objects.{numbers_in, size_in}
use Rattle.svr_effect.specs.Mentions.{Mentioned, place_among, reading_at}
use Rattle.svr_effect.proofs.Gathered.{position_more}

module _ {A : Type 0} (f : ℕ → A) where
  pub one_row : (rows longer whole : List A) (x : A) (left rest : List ℕ) (p : ℕ) → longer ≡ rows ++ x ∷ [] → x ≡ f p → left ≡ p ∷ rest
      → rows ++ map f left ≡ whole → longer ++ map f rest ≡ whole
  one_row rows longer whole x left rest p more is opened told =
      ap (λ (ys : List A). ys ++ map f rest) more
      ∙ append_assoc rows (x ∷ []) (map f rest)
      ∙ (λ k. rows ++ is k ∷ map f rest)
      ∙ ap (λ (qs : List ℕ). rows ++ map f qs) (sym opened)
      ∙ told

  pub all_rows : (rows whole : List A) (left : List ℕ) → left ≡ [] → rows ++ map f left ≡ whole → rows ≡ whole
  all_rows rows whole left ended told = sym (append-nil rows) ∙ ap (λ (qs : List ℕ). rows ++ map f qs) (sym ended) ∙ told

-- ---- the place of a number

at_most_all : (ns : List ℕ) (q : ℕ) → place_among ns q ≤ length ns
at_most_all [] q = omega arith
at_most_all (n ∷ ns) q = either (nat_eq q n) refl (at_most_all ns q)
  where
    either : (b : Bool) → nat_eq q n ≡ b → place_among ns q ≤ length ns → place_among (n ∷ ns) q ≤ length (n ∷ ns)
    either true e h = omega (arith, position_more q n ns true e)
    either false e h = omega (arith, h, position_more q n ns false e)

pub place_found : (ns : List ℕ) (q i : ℕ) → Some i ≡ position (nat_eq q) ns → i ≡ place_among ns q
place_found ns q i is = either (nat_lt (place_among ns q) (length ns)) is
  where
    either : (b : Bool) → Some i ≡ cond b (Some (place_among ns q)) None → i ≡ place_among ns q
    either true e = ap (λ (o : Option ℕ). unwrap_or o 0) e
    either false e = absurd (cc)

pub place_missing : (ns : List ℕ) (q : ℕ) → None ≡ position (nat_eq q) ns → length ns ≡ place_among ns q
place_missing ns q is = either (nat_lt (place_among ns q) (length ns)) refl is
  where
    either : (b : Bool) → nat_lt (place_among ns q) (length ns) ≡ b → None ≡ cond b (Some (place_among ns q)) None → length ns ≡ place_among ns q
    either true less e = absurd (cc)
    either false less e = omega (arith, ltb-false (place_among ns q) (length ns) less, at_most_all ns q)

-- ---- an assignment of what is named

pub all_seen : (w : WorldTerm) (m : Mentioned) (a : Assign) → a.values ≡ map (numbers_in w) m.props → a.sizes ≡ map (size_in w) m.props → a.script ≡ map (slice_index w.script) m.vars → reading_of a ≡ reading_at w m
all_seen w m a vs ss ts = λ k. record {
  element = λ p i. slice_index (slice_index_or (vs k) p []) i;
  size = λ p. slice_index (ss k) p;
  script = λ v. slice_index (ts k) v;
}
