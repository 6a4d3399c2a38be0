-- Readers as data: what a reader does, step by step, and what comes of it on a list of tokens.
use Rattle.std.specs.Prelude.{ℕ, Bool, true, false, List, length, Option, Ok, Err}
use Rattle.svr_token.specs.declared.Lexeme.{Lexeme}
use Rattle.svr_token.specs.declared.NameKind.{NameKind}
use Rattle.svr_tree.specs.Tokens.{Tok}
use Rattle.svr_reader.specs.declared.fixed.Fixed.{Fixed}
use Rattle.svr_reader.specs.Outcomes.{Unexpected, Parser, and_then, lexeme_at, number_at, taken, entered, Turn, turns}
use Rattle.svr_reader.specs.Steps.{eaten, expected, named}

-- `K` are the constructs that are called, and `Ans` what a call of one gives
pub data Program (K : Type 0) (Ans : K → Type 0) : Type 0 → Type 1 where
  pure : {A : Type 0} → A → Program K Ans A
  bind : {A B : Type 0} → Program K Ans A → (A → Program K Ans B) → Program K Ans B
  refuse : {A : Type 0} → Program K Ans A
  -- what the next token spells, if there is one
  peek : Program K Ans (Option Lexeme)
  -- its number
  here : Program K Ans ℕ
  take : Program K Ans ℕ
  -- takes the word or mark, if it comes next
  eat : Fixed → Program K Ans Bool
  -- takes the word or mark, which has to come next
  expect : Fixed → Program K Ans (Unit {0})
  -- takes a name, which has to come next: its number, and its kind
  known_name : Program K Ans (ℕ × NameKind)
  -- one way or the other
  either : {A : Type 0} → Bool → Program K Ans A → Program K Ans A → Program K Ans A
  -- takes the first token of a construct over a part of this height: the one place where height is tested
  enter : ℕ → Program K Ans ℕ
  -- a construct one level below
  call : (k : K) → Program K Ans (Ans k)
  loop : {S A : Type 0} → (S → Program K Ans (Turn S A)) → S → Program K Ans A

module _ {K : Type 0} {Ans : K → Type 0} (most r : ℕ) (sub : (k : K) → Parser (Ans k)) where
  -- no loop has more than `most` turns, and no part is higher than `r`
  abbrev pub run : {A : Type 0} → Program K Ans A → Parser A
  run (pure a) i = Ok (a, i)
  run (bind p f) i = and_then (run p i) (λ x. run (f x))
  run refuse i = Err (Unexpected (length i))
  run peek i = Ok (lexeme_at i, i)
  run here i = Ok (number_at i, i)
  run take i = taken i
  run (eat k) i = eaten k i
  run (expect k) i = expected k i
  run known_name i = named i
  run (either true p q) i = run p i
  run (either false p q) i = run q i
  run (enter h) i = entered r h i
  run (call k) i = sub k i
  run (loop body s) i = turns most (λ s2. run (body s2)) s i
