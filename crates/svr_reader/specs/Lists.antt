-- Productions of lists, and how programs are joined.
use Rattle.std.specs.Prelude.{ℕ, Bool, true, false, if◌then◌else◌, max, List, [], ◌∷◌, ◌++◌, length, Option, Some, None, Ok, Err}
use Rattle.svr_token.specs.declared.Lexeme.{Lexeme}
use Rattle.svr_token.specs.declared.Mark.TheVariants as m
use Rattle.svr_tree.specs.Tokens.{Tok}
use Rattle.svr_reader.specs.declared.fixed.Fixed.{Fixed}
use Rattle.svr_reader.specs.declared.fixed.Fixed.TheVariants as f
use Rattle.svr_reader.specs.Outcomes.{Unexpected, TooDeep, Outcome, Parser, and_then, lexeme_at, Turn, go, done}
use Rattle.svr_reader.specs.Steps.{named}
use Rattle.svr_reader.specs.Program.{Program, pure, bind, eat, expect, known_name, either, loop}

infixl 10 ◌>>=◌
abbrev pub ◌>>=◌ : {K : Type 0} {Ans : K → Type 0} {A B : Type 0} → Program K Ans A → (A → Program K Ans B) → Program K Ans B
p >>= g = bind p g

infixl 10 ◌>>◌
abbrev pub ◌>>◌ : {K : Type 0} {Ans : K → Type 0} {A B : Type 0} → Program K Ans A → Program K Ans B → Program K Ans B
p >> q = bind p (λ _. q)

-- a tree, or a list of trees, and its height
abbrev pub WithHeight : Type 0 → Type 0
WithHeight A = A × ℕ

abbrev pub with_last : {X : Type 0} → WithHeight (List X) → WithHeight X → WithHeight (List X)
with_last s x = (s.0 ++ x.0 ∷ [], max s.1 x.1)

-- where there is no room for a construct that begins with such a token
abbrev pub no_room : {A : Type 0} → (Option Lexeme → Bool) → Parser A
no_room begins i = if begins (lexeme_at i) then Err (TooDeep (length i)) else Err (Unexpected (length i))

-- one way or the other, told before the program runs
abbrev pub choose : {K : Type 0} {Ans : K → Type 0} {A : Type 0} → Bool → Program K Ans A → Program K Ans A → Program K Ans A
choose true p q = p
choose false p q = q

-- one way behind the word or mark, another without it
abbrev pub led : {K : Type 0} {Ans : K → Type 0} {A : Type 0} → Fixed → Program K Ans A → Program K Ans A → Program K Ans A
led k p q = do
  found ← eat k
  either found p q

-- ---- names, parentheses and labels

-- NAME
abbrev pub name : {K : Type 0} {Ans : K → Type 0} → Program K Ans ℕ
name = do
  n ← known_name
  pure n.0

-- [ "(" ")" ]
unfoldable pub parens : {K : Type 0} {Ans : K → Type 0} → Program K Ans Bool
parens = led (f.Mark m.OpenParen) (expect (f.Mark m.CloseParen) >> pure true) (pure false)

-- the name behind this word or mark, or none of both
unfoldable pub name_behind : {K : Type 0} {Ans : K → Type 0} → Fixed → Program K Ans (Option ℕ)
name_behind k = led k (do
  n ← name
  pure (Some n)) (pure None)

-- ---- lists

-- one more of a list, and whether a comma follows
unfoldable pub list_step : {K : Type 0} {Ans : K → Type 0} {X : Type 0} → Program K Ans (WithHeight X) → WithHeight (List X) → Program K Ans (Turn (WithHeight (List X)) (WithHeight (List X)))
list_step p s = do
  x ← p
  more ← eat (f.Mark m.Comma)
  pure (if more then go (with_last s x) else done (with_last s x))

-- x { "," x }, behind those that were read
unfoldable pub listing_on : {K : Type 0} {Ans : K → Type 0} {X : Type 0} → Program K Ans (WithHeight X) → WithHeight (List X) → Program K Ans (WithHeight (List X))
listing_on p s = loop (list_step p) s

-- x { "," x }
unfoldable pub listing : {K : Type 0} {Ans : K → Type 0} {X : Type 0} → Program K Ans (WithHeight X) → Program K Ans (WithHeight (List X))
listing p = listing_on p ([], 0)

-- one more of a list, or its end
unfoldable pub until_step : {K : Type 0} {Ans : K → Type 0} {X : Type 0} → Fixed → Program K Ans (WithHeight X) → WithHeight (List X) → Program K Ans (Turn (WithHeight (List X)) (WithHeight (List X)))
until_step k p s = led k (pure (done s)) (do
  x ← p
  pure (go (with_last s x)))

-- { x }, and the word or mark that ends them
unfoldable pub until : {K : Type 0} {Ans : K → Type 0} {X : Type 0} → Fixed → Program K Ans (WithHeight X) → Program K Ans (WithHeight (List X))
until k p = loop (until_step k p) ([], 0)
