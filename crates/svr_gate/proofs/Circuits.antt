-- Circuits that extend others. Crates above may cite these; the ruleset `later` closes the goals at `?`.
use Rattle.std.proofs.Common.{◌≡◌, ℕ, Bool, not, List, [], ◌∷◌, refl, ◌∙◌, ap, arith}
use Rattle.std.proofs.lemmas.List.Elements.{All-weaker, All-nil, All-cons}
use Rattle.svr_chain.specs.declared.clause.Lit.{Lit}
use Rattle.svr_chain.specs.Clauses.{IsWithin, AreWithin, flip}
use Rattle.svr_chain.specs.Valuations.{lit_value, Meets}
use Rattle.svr_gate.specs.Circuit.{Circuit, Extends, Tells}
use Rattle.svr_gate.proofs.NumberLemmas.{lit_value-flip}

pub Extends-refl : (c : Circuit) → Extends c c
Extends-refl c = record { inputs = refl; vars = omega arith; keeps = λ a m. m; extends = λ a m. (a, (λ v h. refl), m); one = λ l e. e; known = λ l w. refl; gates = λ g l e. e }

pub Extends-trans : {c d e : Circuit} → Extends c d → Extends d e → Extends c e
Extends-trans {c} {d} {e} p q = record {
  inputs = q.inputs ∙ p.inputs;
  vars = omega (arith, p.vars, q.vars);
  keeps = λ a m. p.keeps a (q.keeps a m);
  extends = λ a m.
      let f = p.extends a m in
      let g = q.extends f.0 f.2 in
      (g.0, (λ v h. g.1 v (omega (arith, p.vars)) ∙ f.1 v h), g.2);
  one = λ l h. q.one l (p.one l h);
  known = λ l w. q.known l (w.0, omega (arith, w.1, p.vars)) ∙ p.known l w;
  gates = λ g l h. q.gates g l (p.gates g l h);
}

pub ruleset later = (Extends-refl, Extends-trans)

pub IsWithin-later : {c d : Circuit} (l : Lit) → Extends c d → IsWithin c.vars l → IsWithin d.vars l
IsWithin-later l e w = (w.0, omega (arith, w.1, e.vars))

pub AreWithin-later : {c d : Circuit} (ls : List Lit) → Extends c d → AreWithin c.vars ls → AreWithin d.vars ls
AreWithin-later {c} {d} ls e w = All-weaker (IsWithin c.vars) (IsWithin d.vars) (λ l k. (k.0, omega (arith, e.vars))) ls w

pub AreWithin-one : {n : ℕ} (p : Lit) → IsWithin n p → AreWithin n (p ∷ [])
AreWithin-one {n} p h = All-cons (IsWithin n) p [] h (All-nil (IsWithin n))

pub AreWithin-two : {n : ℕ} (p q : Lit) → IsWithin n p → IsWithin n q → AreWithin n (p ∷ q ∷ [])
AreWithin-two {n} p q h k = All-cons (IsWithin n) p (q ∷ []) h (AreWithin-one q k)

pub AreWithin-three : {n : ℕ} (p q r : Lit) → IsWithin n p → IsWithin n q → IsWithin n r → AreWithin n (p ∷ q ∷ r ∷ [])
AreWithin-three {n} p q r h k j = All-cons (IsWithin n) p (q ∷ r ∷ []) h (AreWithin-two q r k j)

pub Tells-later : {c d : Circuit} {l : Lit} {f : (ℕ → Bool) → Bool} → Extends c d → Tells c l f → Tells d l f
Tells-later {c} {d} {l} e t = record { within = IsWithin-later {c = c} {d = d} l e t.within; value = λ a m. t.value a (e.keeps a m) }

-- the same test under another name
pub Tells-same : {c : Circuit} {l : Lit} {f : (ℕ → Bool) → Bool} (g : (ℕ → Bool) → Bool) → Tells c l f → ((a : ℕ → Bool) → Meets a c.clauses → f a ≡ g a) → Tells c l g
Tells-same g t e = record { within = t.within; value = λ a m. t.value a m ∙ e a m }

-- a literal tells itself
pub Tells-self : (c : Circuit) (l : Lit) → IsWithin c.vars l → Tells c l (λ a. lit_value a l)
Tells-self c l w = record { within = w; value = λ a m. refl }

-- the other sign tells the opposite
pub Tells-flipped : {c : Circuit} {l : Lit} {f : (ℕ → Bool) → Bool} → Tells c l f → Tells c (flip l) (λ a. not (f a))
Tells-flipped {c} {l} t = record { within = t.within; value = λ a m. lit_value-flip a l ∙ ap not (t.value a m) }
