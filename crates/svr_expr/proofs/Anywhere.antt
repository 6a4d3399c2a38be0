-- Names and paths call for no parts, so they come to the same wherever they stand.
use Rattle.std.proofs.Common.{◌≡◌, ℕ, List, [], ◌∷◌, ◌++◌, Option, Some, refl}
use Rattle.svr_token.specs.declared.Lexeme.{Lexeme}
use Rattle.svr_token.specs.declared.Lexeme.TheVariants as lexeme
use Rattle.svr_token.specs.declared.Word.TheVariants as w
use Rattle.svr_token.specs.declared.Mark.TheVariants as m
use Rattle.svr_token.specs.declared.NameKind.{NameKind}
use Rattle.svr_tree.specs.Tokens.{Tok}
use Rattle.svr_tree.specs.declared.expr.Scope.{Scope}
use Rattle.svr_tree.specs.declared.expr.Scope.TheVariants as scope
use Rattle.svr_reader.specs.declared.fixed.Fixed.TheVariants as f
use Rattle.svr_reader.specs.Outcomes.{Parser, lexeme_at, number_at, taken, go, done}
use Rattle.svr_reader.specs.Steps.{expected, named}
use Rattle.svr_reader.specs.Program.{Program, pure, bind, known_name, run}
use Rattle.svr_reader.specs.Answers.{plainly}
use Rattle.svr_reader.specs.Calls.{cap}
use Rattle.svr_reader.proofs.Plainly.{and_same, both_same, turns_same, led_same}
use Rattle.svr_expr.specs.ExprRules.{expr, within, name_step, names_on, path_from, plain_path, local_path, this_path, known_path, known_path_by, path_on, path_in}

module _ {K : Type 0} {Ans : K → Type 0} (r : ℕ) (sub : (k : K) → Parser (Ans k)) where
  abbrev Here : {A : Type 0} → Program K Ans A → Parser A
  Here p = run cap r sub p

  abbrev Names : Type 0
  Names = List ℕ × NameKind

  name_step_same : (s : Names) (i : List Tok) → Here (name_step s) i ≡ plainly (name_step s) i
  unfolding name_step
  name_step_same s i = led_same cap r sub (f.Mark m.Dot) (bind known_name (λ n. pure (go (s.0 ++ n.0 ∷ [], n.1)))) (pure (done s)) (bind known_name (λ n. pure (go (s.0 ++ n.0 ∷ [], n.1)))) (pure (done s)) (λ j. refl) (λ j. refl) i

  names_on_same : (first : ℕ × NameKind) (i : List Tok) → Here (names_on first) i ≡ plainly (names_on first) i
  unfolding names_on
  names_on_same first i = turns_same cap (λ s. Here (name_step s)) (λ s. plainly (name_step s)) name_step_same (first.0 ∷ [], first.1) i

  path_from_same : (at : ℕ) (s : Scope) (i : List Tok) → Here (path_from at s) i ≡ plainly (path_from at s) i
  unfolding path_from
  path_from_same at s i = and_same (named i) _ _ (λ first j. both_same (Here (names_on first) j) (plainly (names_on first) j) _ _ (names_on_same first j) (λ ns k. refl))

  by_path : (q : Option Lexeme) (i : List Tok) → Here (known_path_by q) i ≡ plainly (known_path_by q) i
  unfolding plain_path local_path this_path
  by_path (Some (lexeme.Word w.Local)) i = and_same (taken i) _ _ (λ at j. and_same (expected (f.Mark m.DoubleColon) j) _ _ (λ u k. path_from_same at scope.Local k))
  by_path (Some (lexeme.Word w.This)) i = and_same (taken i) _ _ (λ at j. and_same (expected (f.Mark m.Dot) j) _ _ (λ u k. path_from_same at scope.This k))
  by_path _ i = path_from_same (number_at i) scope.Plain i

  pub known_path_same : (i : List Tok) → Here known_path i ≡ plainly known_path i
  unfolding known_path
  known_path_same i = by_path (lexeme_at i) i

  pub path_on_same : (first : ℕ × NameKind) (i : List Tok) → Here (path_on first) i ≡ plainly (path_on first) i
  unfolding path_on
  path_on_same first i = both_same (Here (names_on first) i) (plainly (names_on first) i) _ _ (names_on_same first i) (λ ns j. refl)

-- a path as an expression, among parts of any height
pub path_in_same : (room : ℕ) (i : List Tok) → within cap room path_in i ≡ plainly path_in i
unfolding path_in
path_in_same room i = both_same (within cap room known_path i) (plainly known_path i) _ _ (known_path_same room (expr cap room) i) (λ p j. refl)
