-- Parentheses with nothing between them, and a name behind a word or mark: laws for the programs of any construct.
use Rattle.std.proofs.Common.{◌≡◌, ℕ, ◌≤◌, Bool, true, false, List, [], ◌∷◌, ◌++◌, Option, Some, None, Ok, refl, ◌∙◌, ap, subst}
use Rattle.svr_token.specs.declared.Lexeme.{Lexeme}
use Rattle.svr_token.specs.declared.Word.TheVariants as w
use Rattle.svr_token.specs.declared.Mark.TheVariants as m
use Rattle.svr_tree.specs.Tokens.{Tok, Entry, Any, Name, FitEach, mark}
use Rattle.svr_tree.specs.ExprGrammar.{parens_spelling}
use Rattle.svr_tree.specs.DeclGrammar.{extends_spelling, label_spelling}
use Rattle.svr_reader.specs.Outcomes.{Parser}
use Rattle.svr_reader.specs.declared.fixed.Fixed.{Fixed}
use Rattle.svr_reader.specs.declared.fixed.Fixed.TheVariants as f
use Rattle.svr_reader.specs.Program.{Program, pure, bind, run, expect}
use Rattle.svr_reader.specs.Steps.{fixed_lexeme, is_fixed, sees}
use Rattle.svr_reader.specs.Lists.{◌>>◌, name, parens, name_behind}
use Rattle.svr_reader.proofs.Steps.{bind_ok, bind_is, yields, takes_append, takes_parts, expect_ok, expects, led_ok, led_no, led_takes, name_sound, name_complete}
use Rattle.svr_reader.proofs.Local.{IsLocal}
use Rattle.svr_reader.proofs.Goals.{Goal, then_goal, pure_goal}
use Rattle.svr_reader.proofs.Led.{AnyAnswer, goal_expect, opt_goal, name_goal}

-- a word or mark and a name, or none of both
abbrev pub behind_spelling : Fixed → Option ℕ → List Entry
behind_spelling k None = []
behind_spelling k (Some n) = Any (fixed_lexeme k) ∷ (Name n ∷ [])

pub extends_is : (o : Option ℕ) → behind_spelling (f.Word w.Extends) o ≡ extends_spelling o
extends_is None = refl
extends_is (Some n) = refl

pub label_is : (o : Option ℕ) → behind_spelling (f.Mark m.Colon) o ≡ label_spelling o
label_is None = refl
label_is (Some n) = refl

module _ {K : Type 0} {Ans : K → Type 0} (most r : ℕ) (sub : (k : K) → Parser (Ans k)) where
  abbrev R : {A : Type 0} → Program K Ans A → Parser A
  R p = run most r sub p

  -- ---- what is read spells it

  pub name_behind_sound : (k : Fixed) (i : List Tok) (o : Option ℕ) (j : List Tok) → R (name_behind k) i ≡ Ok (o, j) → FitEach i (behind_spelling k o) j
  unfolding name_behind
  name_behind_sound k i o j h = led_ok most r sub k _ _ i (o, j) h
      (λ mid t g. bind_ok (R name mid) _ (o, j) g (λ n j2 e g2.
      yields (λ z z2. FitEach i (behind_spelling k z) z2) _ _ (o, j) g2 (takes_append i (Any (fixed_lexeme k) ∷ []) (Name n ∷ []) mid j2 t (name_sound most r sub mid n j2 e))))
      (λ _ g. yields (λ z z2. FitEach i (behind_spelling k z) z2) _ _ (o, j) g refl)

  pub label_sound : (i : List Tok) (o : Option ℕ) (j : List Tok) → R (name_behind (f.Mark m.Colon)) i ≡ Ok (o, j) → FitEach i (label_spelling o) j
  label_sound i o j h = subst (λ es. FitEach i es j) (label_is o) (name_behind_sound (f.Mark m.Colon) i o j h)

  pub parens_sound : (i : List Tok) (b : Bool) (j : List Tok) → R parens i ≡ Ok (b, j) → FitEach i (parens_spelling b) j
  unfolding parens
  parens_sound i b j h = led_ok most r sub (f.Mark m.OpenParen) _ _ i (b, j) h
      (λ mid t g. bind_ok (R (expect (f.Mark m.CloseParen)) mid) _ (b, j) g (λ u j2 e g2.
      yields (λ z z2. FitEach i (parens_spelling z) z2) _ _ (b, j) g2 (takes_append i (mark m.OpenParen ∷ []) (mark m.CloseParen ∷ []) mid j2 t (expect_ok most r sub (f.Mark m.CloseParen) mid (u, j2) e))))
      (λ _ g. yields (λ z z2. FitEach i (parens_spelling z) z2) _ _ (b, j) g refl)

  -- ---- what spells it is read, where the word or mark does not follow

  pub name_behind_complete : (k : Fixed) (o : Option ℕ) (i rest : List Tok) → FitEach i (behind_spelling k o) rest → sees k rest ≡ false → R (name_behind k) i ≡ Ok (o, rest)
  unfolding name_behind
  name_behind_complete k None i rest h c = led_no most r sub k _ _ i (ap (sees k) h ∙ c) ∙ ap (λ z. Ok (None, z)) h
  name_behind_complete k (Some n) i rest h c =
      let a = takes_parts i (Any (fixed_lexeme k) ∷ []) (Name n ∷ []) rest h in
      led_takes most r sub k _ _ i a.0 a.1 ∙ bind_is (R name a.0) _ n rest _ (name_complete most r sub n a.0 rest a.2) refl

  pub parens_complete : (b : Bool) (i rest : List Tok) → FitEach i (parens_spelling b) rest → sees (f.Mark m.OpenParen) rest ≡ false → R parens i ≡ Ok (b, rest)
  unfolding parens
  parens_complete false i rest h c = led_no most r sub (f.Mark m.OpenParen) _ _ i (ap (sees (f.Mark m.OpenParen)) h ∙ c) ∙ ap (λ z. Ok (false, z)) h
  parens_complete true i rest h c =
      let a = takes_parts i (mark m.OpenParen ∷ []) (mark m.CloseParen ∷ []) rest h in
      led_takes most r sub (f.Mark m.OpenParen) _ _ i a.0 a.1 ∙ bind_is (R (expect (f.Mark m.CloseParen)) a.0) _ tt rest _ (expects most r sub (f.Mark m.CloseParen) a.0 rest a.2) refl

  -- ---- what was read of it can be completed

  module _ (ls : (k : K) → IsLocal (sub k)) (some : 1 ≤ most) (C : Option Lexeme → Type 0) where
    pub name_behind_goal : (k : Fixed) → ((q : Option Lexeme) → C q → is_fixed k q ≡ false) → Goal most r sub ls C C AnyAnswer (name_behind k)
    unfolding name_behind
    name_behind_goal k apart = opt_goal most r sub ls k (bind name (λ n. pure (Some n))) None C AnyAnswer apart (then_goal most r sub ls (name_goal most r sub ls tt) (λ n _. pure_goal most r sub ls tt (λ _ _. tt))) tt

    pub parens_goal : ((q : Option Lexeme) → C q → is_fixed (f.Mark m.OpenParen) q ≡ false) → Goal most r sub ls C C AnyAnswer parens
    unfolding parens
    parens_goal apart = opt_goal most r sub ls (f.Mark m.OpenParen) (expect (f.Mark m.CloseParen) >> pure true) false C AnyAnswer apart
        (then_goal most r sub ls (goal_expect most r sub ls (f.Mark m.CloseParen) tt) (λ _ _. pure_goal most r sub ls tt (λ _ _. tt))) tt
