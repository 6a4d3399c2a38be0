-- Programs that take a token at least, seen by their first steps.
use Rattle.std.proofs.Common.{◌≡◌, ℕ, ◌<◌, ◌≤◌, Bool, true, false, List, [], ◌∷◌, length, Option, Some, None, Ok, ◌⊎◌, inl, inr, sym, ◌∙◌, arith, ap, subst}
use Rattle.svr_token.specs.declared.Lexeme.{Lexeme}
use Rattle.svr_token.specs.declared.Lexeme.TheVariants as lexeme
use Rattle.svr_token.specs.declared.NameKind.{NameKind}
use Rattle.svr_tree.specs.Tokens.{Tok, Any}
use Rattle.svr_reader.specs.Outcomes.{Parser, lexeme_at, number_at, taken, entered}
use Rattle.svr_reader.specs.declared.fixed.Fixed.{Fixed}
use Rattle.svr_reader.specs.Program.{Program, pure, bind, refuse, peek, here, take, eat, enter, call, loop, either, run, expect, known_name}
use Rattle.svr_reader.specs.Steps.{fixed_lexeme, named_by, named}
use Rattle.svr_reader.proofs.Steps.{bind_ok, takes_length, expect_ok, entered_ok}
use Rattle.svr_reader.proofs.Calls.{eaten_less, eaten_same}
use Rattle.svr_reader.proofs.Local.{IsLocal}
use Rattle.svr_reader.proofs.Live.{Consumes}
use Rattle.svr_expr.proofs.Takes.{leaves_no_more}

name_by : (q : Option Lexeme) → Consumes (named_by q)
name_by (Some (lexeme.Name k)) [] y j h = absurd (cc)
name_by (Some (lexeme.Name k)) (t ∷ i) y j h = let both : ◌≡◌ {A = (ℕ × NameKind) × List Tok} ((t.at, k), i) (y, j) = cc in omega (arith, ap (λ z. length z.1) both)
name_by _ i y j h = absurd (cc)

name_takes : Consumes named
unfolding named
name_takes i y j h = name_by (lexeme_at i) i y j h

taken_less : Consumes taken
taken_less [] y j h = absurd (cc)
taken_less (t ∷ i) y j h = let both : ◌≡◌ {A = ℕ × List Tok} (t.at, i) (y, j) = cc in omega (arith, ap (λ z. length z.1) both)

entered_less : (r h : ℕ) → Consumes (entered r h)
entered_less r h i y j g = let n = entered_ok r h i y j g in omega (arith, ap length n.is)

-- a token was taken, or C holds of the answer
abbrev Took : {A : Type 0} → (A → Type 0) → List Tok → A → List Tok → Type 0
Took C i y j = (length j < length i) ⊎ (C y × j ≡ i)

behind_none : {B : Type 0} (C : B → Type 0) (i mid : List Tok) (y : B) (j : List Tok) → mid ≡ i → Took C mid y j → Took C i y j
behind_none C i mid y j s (inl less) = inl (omega (arith, less, ap length s))
behind_none C i mid y j s (inr (c, same)) = inr (c, same ∙ s)

-- one part behind another
behind : {B : Type 0} (C : B → Type 0) (P : Type 0) (i mid : List Tok) (y : B) (j : List Tok) → (length mid < length i) ⊎ (P × mid ≡ i) → length j ≤ length mid → (P → Took C mid y j) → Took C i y j
behind C P i mid y j (inl less) more f = inl (omega (arith, less, more))
behind C P i mid y j (inr (c, s)) more f = behind_none C i mid y j s (f c)

module _ {K : Type 0} {Ans : K → Type 0} (sub : (k : K) → Parser (Ans k)) where
  -- a program takes a token before it ends, or C holds of its answer
  abbrev pub TakesOr : {A : Type 0} → (A → Type 0) → Program K Ans A → Type 0
  TakesOr C (pure a) = C a
  TakesOr C (bind p f) = TakesOr (λ x. TakesOr C (f x)) p
  TakesOr C refuse = Unit {0}
  TakesOr C peek = (q : Option Lexeme) → C q
  TakesOr C here = (n : ℕ) → C n
  TakesOr C take = Unit {0}
  TakesOr C (eat k) = C false
  TakesOr C (expect k) = Unit {0}
  TakesOr C known_name = Unit {0}
  TakesOr C (either true p q) = TakesOr C p
  TakesOr C (either false p q) = TakesOr C q
  TakesOr C (enter h) = Unit {0}
  TakesOr C (call k) = Consumes (sub k)
  TakesOr C (loop body s) = ⊥

  abbrev pub TakesOne : {A : Type 0} → Program K Ans A → Type 0
  TakesOne p = TakesOr (λ _. ⊥) p

module _ {K : Type 0} {Ans : K → Type 0} (most r : ℕ) (sub : (k : K) → Parser (Ans k)) (ls : (k : K) → IsLocal (sub k)) where
  abbrev R : {A : Type 0} → Program K Ans A → Parser A
  R p = run most r sub p

  took : {A : Type 0} (C : A → Type 0) (p : Program K Ans A) → TakesOr sub C p → (i : List Tok) (y : A) (j : List Tok) → R p i ≡ Ok (y, j) → Took C i y j
  took {A} C (pure a) t i y j h = let both : ◌≡◌ {A = A × List Tok} (a, i) (y, j) = cc in inr (subst C (ap (λ z. z.0) both) t, sym (ap (λ z. z.1) both))
  took {A} C (bind p f) t i y j h = bind_ok (R p i) _ (y, j) h (λ x mid e g. behind C (TakesOr sub C (f x)) i mid y j (took (λ x2. TakesOr sub C (f x2)) p t i x mid e) (leaves_no_more most r sub ls (f x) mid y j g) (λ c. took C (f x) c mid y j g))
  took C refuse t i y j h = absurd (cc)
  took C peek t i y j h = let both : ◌≡◌ {A = Option Lexeme × List Tok} (lexeme_at i, i) (y, j) = cc in inr (t y, sym (ap (λ z. z.1) both))
  took C here t i y j h = let both : ◌≡◌ {A = ℕ × List Tok} (number_at i, i) (y, j) = cc in inr (t y, sym (ap (λ z. z.1) both))
  took C take t i y j h = inl (taken_less i y j h)
  took C (eat k) t i true j h = inl (eaten_less k i j h)
  took C (eat k) t i false j h = inr (t, eaten_same k i j h)
  took C (expect k) t i y j h = inl (omega (arith, takes_length i (Any (fixed_lexeme k) ∷ []) j (expect_ok most r sub k i (y, j) h)))
  took C known_name t i y j h = inl (name_takes i y j h)
  took C (either true p q) t i y j h = took C p t i y j h
  took C (either false p q) t i y j h = took C q t i y j h
  took C (enter d) t i y j h = inl (entered_less r d i y j h)
  took C (call k) t i y j h = inl (t i y j h)
  took C (loop body s) t i y j h = absurd t

  -- what takes one, by its first steps
  pub takes : {A : Type 0} (p : Program K Ans A) → TakesOne sub p → Consumes (R p)
  takes p t i y j h = by (took (λ _. ⊥) p t i y j h)
    where
      by : Took (λ _. ⊥) i y j → length j < length i
      by (inl less) = less
      by (inr (c, s)) = absurd c
