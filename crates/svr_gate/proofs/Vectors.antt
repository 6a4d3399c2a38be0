-- Literals that give a number: how vectors are put together. Crates above may cite these.
use Rattle.std.proofs.Common.{◌≡◌, ℕ, ◌+◌, ◌-◌, ◌*◌, ◌/◌, ◌%◌, ◌^◌, ◌<◌, ◌≤◌, Bool, false, cond, eqb, List, [], ◌∷◌, ◌++◌, length, map, replicate, take, drop, get_or, refl, sym, ◌∙◌, ap, arith, length-append, length-drop}
use Rattle.std.proofs.lemmas.List.{length-take-le, length_push, length-replicate, length-map}
use Rattle.std.proofs.lemmas.List.Elements.{All-append, All-push, All-nil, All-cons, All-take, All-drop, All-replicate, All-map}
use Rattle.svr_chain.specs.declared.clause.Lit.{Lit}
use Rattle.svr_chain.specs.Clauses.{IsWithin, AreWithin, flip}
use Rattle.svr_chain.specs.Valuations.{lit_value, Meets}
use Rattle.svr_gate.specs.Numbers.{bit, number}
use Rattle.svr_gate.specs.Circuit.{Circuit, Extends, Tells, GivesNumber}
use Rattle.svr_gate.proofs.NumberLemmas.{number-nil, number-cons, number-push, number-append, number-take, number-drop, number-replicate, number-flipped, number_bit, bit_test}
use Rattle.svr_gate.proofs.Circuits.{AreWithin-later}

pub GivesNumber-later : {c d : Circuit} {ls : List Lit} {w : ℕ} {f : (ℕ → Bool) → ℕ} → Extends c d → GivesNumber c ls w f → GivesNumber d ls w f
GivesNumber-later {c} {d} {ls} e g = record { within = AreWithin-later {c = c} {d = d} ls e g.within; len = g.len; value = λ a m. g.value a (e.keeps a m) }

-- the same numbers under another name
pub GivesNumber-same : {c : Circuit} {ls : List Lit} {w : ℕ} {f : (ℕ → Bool) → ℕ} (g : (ℕ → Bool) → ℕ) → GivesNumber c ls w f → ((a : ℕ → Bool) → Meets a c.clauses → f a ≡ g a) → GivesNumber c ls w g
GivesNumber-same g h e = record { within = h.within; len = h.len; value = λ a m. h.value a m ∙ e a m }

-- the width under another name
pub GivesNumber-width : {c : Circuit} {ls : List Lit} {v w : ℕ} {f : (ℕ → Bool) → ℕ} → v ≡ w → GivesNumber c ls v f → GivesNumber c ls w f
GivesNumber-width e h = record { within = h.within; len = h.len ∙ e; value = h.value }

-- literals give their own number
pub GivesNumber-self : (c : Circuit) (ls : List Lit) → AreWithin c.vars ls → GivesNumber c ls (length ls) (λ a. number a ls)
GivesNumber-self c ls w = record { within = w; len = refl; value = λ a m. refl }

pub GivesNumber-nil : (c : Circuit) → GivesNumber c [] 0 (λ a. 0)
GivesNumber-nil c = record { within = All-nil (IsWithin c.vars); len = refl; value = λ a m. number-nil a }

-- one literal more at the high end
pub GivesNumber-push : {c d : Circuit} {v : List Lit} {i : ℕ} {f : (ℕ → Bool) → ℕ} {l : Lit} {g : (ℕ → Bool) → Bool} → Extends c d → GivesNumber c v i f → Tells d l g → GivesNumber d (v ++ l ∷ []) (i + 1) (λ a. f a + 2 ^ i * bit (g a))
GivesNumber-push {c} {d} {v} {i} {f} {l} {g} e h t = record {
  within = All-push (IsWithin d.vars) v l (AreWithin-later {c = c} {d = d} v e h.within) t.within;
  len = omega (arith, length_push v l, h.len);
  value = λ a m.
      number-push a v l
      ∙ ap (λ n. number a v + 2 ^ n * bit (lit_value a l)) h.len
      ∙ ap (λ n. n + 2 ^ i * bit (lit_value a l)) (h.value a (e.keeps a m))
      ∙ ap (λ b. f a + 2 ^ i * bit b) (t.value a m);
}

-- one literal more at the low end
pub GivesNumber-cons : {c d : Circuit} {v : List Lit} {i : ℕ} {f : (ℕ → Bool) → ℕ} {l : Lit} {g : (ℕ → Bool) → Bool} → Extends c d → GivesNumber c v i f → Tells d l g → GivesNumber d (l ∷ v) (i + 1) (λ a. bit (g a) + 2 * f a)
GivesNumber-cons {c} {d} {v} {i} {f} {l} {g} e h t = record {
  within = All-cons (IsWithin d.vars) l v t.within (AreWithin-later {c = c} {d = d} v e h.within);
  len = omega (arith, h.len);
  value = λ a m.
      number-cons a l v
      ∙ ap (λ n. bit (lit_value a l) + 2 * n) (h.value a (e.keeps a m))
      ∙ ap (λ b. bit b + 2 * f a) (t.value a m);
}

-- a low part and a high part
pub GivesNumber-append : {c : Circuit} {v w : List Lit} {i j : ℕ} {f g : (ℕ → Bool) → ℕ} → GivesNumber c v i f → GivesNumber c w j g → GivesNumber c (v ++ w) (i + j) (λ a. f a + 2 ^ i * g a)
GivesNumber-append {c} {v} {w} {i} {j} {f} {g} h k = record {
  within = All-append (IsWithin c.vars) v w h.within k.within;
  len = length-append v w ∙ ap (λ n. n + length w) h.len ∙ ap (λ n. i + n) k.len;
  value = λ a m.
      number-append a v w
      ∙ ap (λ n. number a v + 2 ^ n * number a w) h.len
      ∙ ap (λ n. n + 2 ^ i * number a w) (h.value a m)
      ∙ ap (λ n. f a + 2 ^ i * n) (k.value a m);
}

-- the low n bits
pub GivesNumber-take : {c : Circuit} {ls : List Lit} {w : ℕ} {f : (ℕ → Bool) → ℕ} (n : ℕ) → n ≤ w → GivesNumber c ls w f → GivesNumber c (take n ls) n (λ a. f a % 2 ^ n)
GivesNumber-take {c} {ls} {w} {f} n h g = record {
  within = All-take (IsWithin c.vars) n ls g.within;
  len = length-take-le n ls (omega (arith, g.len));
  value = λ a m. number-take a n ls (omega (arith, g.len)) ∙ ap (λ x. x % 2 ^ n) (g.value a m);
}

-- the bits from n on
pub GivesNumber-drop : {c : Circuit} {ls : List Lit} {w : ℕ} {f : (ℕ → Bool) → ℕ} (n : ℕ) → n ≤ w → GivesNumber c ls w f → GivesNumber c (drop n ls) (w - n) (λ a. f a / 2 ^ n)
GivesNumber-drop {c} {ls} {w} {f} n h g = record {
  within = All-drop (IsWithin c.vars) n ls g.within;
  len = length-drop n ls ∙ ap (λ k. k - n) g.len;
  value = λ a m. number-drop a n ls (omega (arith, g.len)) ∙ ap (λ x. x / 2 ^ n) (g.value a m);
}

-- copies of one literal
pub GivesNumber-replicate : {c : Circuit} {l : Lit} {g : (ℕ → Bool) → Bool} (n : ℕ) → Tells c l g → GivesNumber c (replicate n l) n (λ a. cond (g a) (2 ^ n - 1) 0)
GivesNumber-replicate {c} {l} n t = record {
  within = All-replicate (IsWithin c.vars) n l t.within;
  len = length-replicate n l;
  value = λ a m. number-replicate a l n ∙ ap (λ b. cond b (2 ^ n - 1) 0) (t.value a m);
}

pub GivesNumber-zeros : {c : Circuit} {l : Lit} (n : ℕ) → Tells c l (λ a. false) → GivesNumber c (replicate n l) n (λ a. 0)
GivesNumber-zeros n t = GivesNumber-replicate n t

-- each literal with the other sign
pub GivesNumber-flipped : {c : Circuit} {ls : List Lit} {w : ℕ} {f : (ℕ → Bool) → ℕ} → GivesNumber c ls w f → GivesNumber c (map flip ls) w (λ a. 2 ^ w - 1 - f a)
GivesNumber-flipped {c} {ls} {w} {f} g = record {
  within = All-map (IsWithin c.vars) flip ls (λ k d lt. g.within k d lt);
  len = length-map ls flip ∙ g.len;
  value = λ a m. number-flipped a ls ∙ ap (λ n. 2 ^ n - 1 - number a ls) g.len ∙ ap (λ n. 2 ^ w - 1 - n) (g.value a m);
}

-- one bit of a number
pub Tells-bit : {c : Circuit} {ls : List Lit} {w : ℕ} {f : (ℕ → Bool) → ℕ} (j : ℕ) (d : Lit) → j < w → GivesNumber c ls w f → Tells c (get_or ls j d) (λ a. eqb (f a / 2 ^ j % 2) 1)
Tells-bit {c} {ls} {w} {f} j d h g = record {
  within = g.within j d (omega (arith, g.len));
  value = λ a m. sym (bit_test (lit_value a (get_or ls j d))) ∙ ap (λ n. eqb n 1) (sym (number_bit a ls j d (omega (arith, g.len))) ∙ ap (λ n. n / 2 ^ j % 2) (g.value a m));
}
