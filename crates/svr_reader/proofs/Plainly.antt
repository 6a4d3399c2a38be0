-- Programs that call for nothing come to the same wherever they stand.
use Rattle.std.proofs.Common.{◌≡◌, ℕ, zero, suc, Bool, true, false, List, Option, Some, None, Ok, Err, refl, ◌∙◌, ap}
use Rattle.svr_token.specs.declared.Mark.TheVariants as m
use Rattle.svr_tree.specs.Tokens.{Tok}
use Rattle.svr_reader.specs.declared.fixed.Fixed.{Fixed}
use Rattle.svr_reader.specs.declared.fixed.Fixed.TheVariants as f
use Rattle.svr_reader.specs.Outcomes.{Outcome, Parser, and_then, Turn, go, done, turned, turns}
use Rattle.svr_reader.specs.Steps.{eaten}
use Rattle.svr_reader.specs.Program.{Program, pure, bind, expect, either, run}
use Rattle.svr_reader.specs.Lists.{led, name, parens, name_behind}
use Rattle.svr_reader.specs.Answers.{plainly}

pub and_same : {A B : Type 0} (o : Outcome A) (p q : A → Parser B) → ((x : A) (j : List Tok) → p x j ≡ q x j) → and_then o p ≡ and_then o q
and_same (Ok x) p q h = h x.0 x.1
and_same (Err e) p q h = refl

-- of outcomes that are the same too
pub both_same : {A B : Type 0} (o o2 : Outcome A) (p q : A → Parser B) → o ≡ o2 → ((x : A) (j : List Tok) → p x j ≡ q x j) → and_then o p ≡ and_then o2 q
both_same o o2 p q e h = and_same o p q h ∙ ap (λ v. and_then v q) e

turned_same : {S A : Type 0} (p q : S → Parser A) → ((s : S) (i : List Tok) → p s i ≡ q s i) → (v : Turn S A) (j : List Tok) → turned p v j ≡ turned q v j
turned_same p q h (go s) j = h s j
turned_same p q h (done a) j = refl

pub turns_same : {S A : Type 0} (n : ℕ) (p q : S → Parser (Turn S A)) → ((s : S) (i : List Tok) → p s i ≡ q s i) → (s : S) (i : List Tok) → turns n p s i ≡ turns n q s i
turns_same zero p q h s i = refl
turns_same (suc n) p q h s i = both_same (p s i) (q s i) (turned (turns n p)) (turned (turns n q)) (h s i) (turned_same (turns n p) (turns n q) (turns_same n p q h))

module _ {K : Type 0} {Ans : K → Type 0} (most r : ℕ) (sub : (k : K) → Parser (Ans k)) where
  abbrev Here : {A : Type 0} → Program K Ans A → Parser A
  Here p = run most r sub p

  abbrev Alone : {A : Type 0} → Program (Unit {0}) (λ _. Unit {0}) A → Parser A
  Alone p = plainly p

  either_same : {A : Type 0} (p q : Program K Ans A) (p2 q2 : Program (Unit {0}) (λ _. Unit {0}) A) → ((j : List Tok) → Here p j ≡ Alone p2 j) → ((j : List Tok) → Here q j ≡ Alone q2 j)
      → (b : Bool) (j : List Tok) → Here (either b p q) j ≡ Alone (either b p2 q2) j
  either_same p q p2 q2 h k true j = h j
  either_same p q p2 q2 h k false j = k j

  pub led_same : {A : Type 0} (k : Fixed) (p q : Program K Ans A) (p2 q2 : Program (Unit {0}) (λ _. Unit {0}) A) → ((j : List Tok) → Here p j ≡ Alone p2 j) → ((j : List Tok) → Here q j ≡ Alone q2 j)
      → (i : List Tok) → Here (led k p q) i ≡ Alone (led k p2 q2) i
  led_same k p q p2 q2 h g i = and_same (eaten k i) (λ b. Here (either b p q)) (λ b. Alone (either b p2 q2)) (either_same p q p2 q2 h g)

  pub parens_same : (i : List Tok) → Here parens i ≡ Alone parens i
  unfolding parens
  parens_same i = led_same (f.Mark m.OpenParen) (bind (expect (f.Mark m.CloseParen)) (λ _. pure true)) (pure false) (bind (expect (f.Mark m.CloseParen)) (λ _. pure true)) (pure false) (λ j. refl) (λ j. refl) i

  pub name_behind_same : (k : Fixed) (i : List Tok) → Here (name_behind k) i ≡ Alone (name_behind k) i
  unfolding name_behind
  name_behind_same k i = led_same k (bind name (λ n. pure (Some n))) (pure None) (bind name (λ n. pure (Some n))) (pure None) (λ j. refl) (λ j. refl) i
