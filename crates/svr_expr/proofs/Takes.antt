-- Programs that take a token at least.
use Rattle.std.proofs.Common.{◌≡◌, ℕ, ◌≤◌, List, [], ◌∷◌, length, Option, Some, Ok, arith, ap}
use Rattle.svr_token.specs.declared.Lexeme.{Lexeme}
use Rattle.svr_token.specs.declared.Lexeme.TheVariants as lexeme
use Rattle.svr_token.specs.declared.NameKind.{NameKind}
use Rattle.svr_tree.specs.Tokens.{Tok, Any}
use Rattle.svr_reader.specs.Outcomes.{Parser, lexeme_at, number_at}
use Rattle.svr_reader.specs.declared.fixed.Fixed.{Fixed}
use Rattle.svr_reader.specs.Program.{Program, bind, refuse, peek, here, take, enter, call, run, expect, known_name}
use Rattle.svr_reader.specs.Steps.{fixed_lexeme, named_by, named}
use Rattle.svr_reader.specs.Lists.{led}
use Rattle.svr_reader.proofs.Steps.{bind_ok, takes_length, expect_ok, led_cases}
use Rattle.svr_reader.proofs.Local.{IsLocal, local_run}
use Rattle.svr_reader.proofs.Live.{AnyToken, Consumes, ok_shorter, take_consumes, enter_consumes}
use Rattle.svr_reader.proofs.Led.{AnyAnswer}

name_by : (q : Option Lexeme) → Consumes (named_by q)
name_by (Some (lexeme.Name k)) [] y j h = absurd (cc)
name_by (Some (lexeme.Name k)) (t ∷ i) y j h = let both : ◌≡◌ {A = (ℕ × NameKind) × List Tok} ((t.at, k), i) (y, j) = cc in omega (arith, ap (λ z. length z.1) both)
name_by _ i y j h = absurd (cc)

name_takes : Consumes named
unfolding named
name_takes i y j h = name_by (lexeme_at i) i y j h

module _ {K : Type 0} {Ans : K → Type 0} (most r : ℕ) (sub : (k : K) → Parser (Ans k)) (ls : (k : K) → IsLocal (sub k)) where
  abbrev R : {A : Type 0} → Program K Ans A → Parser A
  R p = run most r sub p

  lo : {A : Type 0} (p : Program K Ans A) → IsLocal (R p)
  lo p = local_run most r sub ls p

  -- what is left is no more than there was
  pub leaves_no_more : {A : Type 0} (p : Program K Ans A) (i : List Tok) (y : A) (j : List Tok) → R p i ≡ Ok (y, j) → length j ≤ length i
  leaves_no_more p i y j h = ok_shorter (R p) (lo p) i y j h

  -- it takes a token at least
  pub record TakesToken {A : Type 0} (p : Program K Ans A) : Type 0 where
    pub consumes : Consumes (R p)

  -- the first of two programs takes one
  pub bind_takes : {A B : Type 0} (p : Program K Ans A) (f : A → Program K Ans B) → TakesToken p → TakesToken (bind p f)
  bind_takes p f c = record { consumes = λ i y j h. bind_ok (R p i) _ (y, j) h (λ x mid e g. let a = c.consumes i x mid e in let b = leaves_no_more (f x) mid y j g in omega (arith, a, b)) }

  pub take_takes : {B : Type 0} (f : ℕ → Program K Ans B) → TakesToken (bind take f)
  take_takes f = record { consumes = take_consumes most AnyToken AnyAnswer (λ n. R (f n)) (λ n. lo (f n)) }

  pub enter_takes : {B : Type 0} (h : ℕ) (f : ℕ → Program K Ans B) → TakesToken (bind (enter h) f)
  enter_takes h f = record { consumes = enter_consumes most AnyToken AnyAnswer r h (λ n. R (f n)) (λ n. lo (f n)) }

  pub name_then_takes : {B : Type 0} (f : ℕ × NameKind → Program K Ans B) → TakesToken (bind known_name f)
  name_then_takes f = bind_takes known_name f (record { consumes = name_takes })

  pub expect_takes : {B : Type 0} (k : Fixed) (f : Unit {0} → Program K Ans B) → TakesToken (bind (expect k) f)
  expect_takes k f = bind_takes (expect k) f (record { consumes = λ i u j h. omega (arith, takes_length i (Any (fixed_lexeme k) ∷ []) j (expect_ok most r sub k i (u, j) h)) })

  pub call_takes : (k : K) → Consumes (sub k) → TakesToken (call k)
  call_takes k c = record { consumes = c }

  -- what is done by the next token, and behind the number of the next one
  pub peek_takes : {B : Type 0} (f : Option Lexeme → Program K Ans B) → ((q : Option Lexeme) → TakesToken (f q)) → TakesToken (bind peek f)
  peek_takes f c = record { consumes = λ i y j h. (c (lexeme_at i)).consumes i y j h }

  pub here_takes : {B : Type 0} (f : ℕ → Program K Ans B) → ((n : ℕ) → TakesToken (f n)) → TakesToken (bind here f)
  here_takes f c = record { consumes = λ i y j h. (c (number_at i)).consumes i y j h }

  pub refuse_takes : {B : Type 0} → TakesToken {A = B} refuse
  refuse_takes = record { consumes = λ i y j h. absurd (cc) }

  -- behind a word or mark anything, without it what takes one
  pub led_then_takes : {B : Type 0} (k : Fixed) (p q : Program K Ans B) → TakesToken q → TakesToken (led k p q)
  led_then_takes k p q c = record {
    consumes = λ i y j h. led_cases most r sub k p q i (Ok (y, j)) h
        (λ t z is w g. let less = leaves_no_more p z y j g in omega (arith, less, ap length is))
        (λ w g. c.consumes i y j g);
  }
