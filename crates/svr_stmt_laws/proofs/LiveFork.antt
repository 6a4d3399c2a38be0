-- One way before some tokens, another before the others: where the reading fails, what was read so far can be completed.
use Rattle.std.proofs.Common.{◌≡◌, ℕ, ◌<◌, Bool, true, false, List, [], ◌∷◌, ◌++◌, length, Option, Ok, Err, ◌⊎◌, inl, inr, sym, ◌∙◌, ap, arith}
use Rattle.svr_token.specs.declared.Lexeme.{Lexeme}
use Rattle.svr_tree.specs.Tokens.{Tok}
use Rattle.svr_reader.specs.Lists.{choose}
use Rattle.svr_reader.specs.Outcomes.{Stuck, Outcome, Parser, and_then, lexeme_at}
use Rattle.svr_reader.specs.Program.{Program, bind, peek, run}
use Rattle.svr_reader.proofs.Steps.{choose_ok, choose_true, choose_false}
use Rattle.svr_reader.proofs.Local.{IsLocal}
use Rattle.svr_reader.proofs.Live.{Completes, same_front}
use Rattle.svr_reader.proofs.Goals.{Goal, Form}
use Rattle.svr_reader.proofs.Layers.{IsViable}

-- what is said of the answer may say less
pub viable_of : {X : Type 0} {most : ℕ} {C : Option Lexeme → Type 0} {P Q : X → Type 0} {p : Parser X} → IsViable most C P p → ((x : X) → P x → Q x) → IsViable most C Q p
viable_of v w = record {
  later = record {
    later = λ i e n lim h fa behind. let d = v.later.later i e n lim h fa behind in record { front = d.front; j = d.j; is = d.is; len = d.len; more = d.more; x = d.x; good = w d.x d.good; ends = d.ends };
    safe = v.later.safe;
  };
  settles = record { at = λ i x j lim h. let d = v.settles.at i x j lim h in record { good = w x d.good; front = d.front; is = d.is; closes = d.closes } };
  consumes = v.consumes;
}

-- an answer is made of another one
pub completes_map : {A B : Type 0} (C : Option Lexeme → Type 0) (P : A → Type 0) (Q : B → Type 0) (p : Parser A) (g : A → B) (i : List Tok) (n : ℕ) → ((x : A) → P x → Q (g x)) → Completes C P p i n → Completes C Q (λ k. and_then (p k) (λ x j. Ok (g x, j))) i n
completes_map C P Q p g i n w d = record { front = d.front; j = d.j; is = d.is; len = d.len; more = d.more; x = g d.x; good = w d.x d.good; ends = λ s cl. ap (λ o. and_then o (λ x j. Ok (g x, j))) (d.ends s cl) }

module _ {K : Type 0} {Ans : K → Type 0} (most r : ℕ) (sub : (k : K) → Parser (Ans k)) (ls : (k : K) → IsLocal (sub k)) where
  abbrev R : {X : Type 0} → Program K Ans X → Parser X
  R p = run most r sub p

  pub either_form : {X : Type 0} {C : Option Lexeme → Type 0} {Q : X → Type 0} {p q : Program K Ans X} (t : Bool) → Form most r sub ls C Q p → Form most r sub ls C Q q → Form most r sub ls C Q (choose t p q)
  either_form true v w = v
  either_form false v w = w

  -- `p` before tokens of f, of which it takes one; `q` before any other
  module _ {X : Type 0} (f : Option Lexeme → Bool) (p q : Program K Ans X) (D B C : Option Lexeme → Type 0) (Q : X → Type 0) (apart : (l : Option Lexeme) → D l → f l ≡ false) (v : Goal most r sub ls B C Q p) (takes : (i : List Tok) (x : X) (j : List Tok) → f (lexeme_at i) ≡ true → R p i ≡ Ok (x, j) → length j < length i)
      (u : Goal most r sub ls D C Q q) where
    abbrev forked : Program K Ans X
    forked = bind peek (λ l. choose (f l) p q)

    met : (z : List Tok) → f (lexeme_at z) ≡ true → R forked z ≡ R p z
    met z h = choose_true most r sub (f (lexeme_at z)) p q z h

    unmet : (z : List Tok) → f (lexeme_at z) ≡ false → R forked z ≡ R q z
    unmet z h = choose_false most r sub (f (lexeme_at z)) p q z h

    cases : {G : Type 0} (i : List Tok) (o : Outcome X) → R forked i ≡ o → (f (lexeme_at i) ≡ true → R p i ≡ o → G) → (f (lexeme_at i) ≡ false → R q i ≡ o → G) → G
    cases i o h a b = choose_ok most r sub (f (lexeme_at i)) p q i o h a b

    -- what takes nothing stops before what may begin it
    first_of : (i front j s : List Tok) → i ≡ front ++ j → f (lexeme_at i) ≡ false → (length j < length i) ⊎ ((l : Option Lexeme) → C l → D l) → C (lexeme_at s) → f (lexeme_at (front ++ s)) ≡ false
    first_of i [] j s is w h cl = elim h as (λ _. f (lexeme_at s) ≡ false) [ inl less ↦ absurd (omega (arith, less, ap length is)) | inr within ↦ apart (lexeme_at s) (within (lexeme_at s) cl) ]
    first_of i (t ∷ front) j s is w h cl = ap f (sym (ap lexeme_at is)) ∙ w

    pub fork_goal : Goal most r sub ls D C Q (bind peek (λ l. choose (f l) p q))
    fork_goal = record {
      alive = record {
        fin = let d = u.alive.fin in record { more = d.more; x = d.x; good = d.good; opens = d.opens; ends = λ s cl. unmet (d.more ++ s) (apart (lexeme_at (d.more ++ s)) (d.opens s cl)) ∙ d.ends s cl };
        later = record {
          later = λ i e n lim h fa below. cases i (Err e) h
              (λ w g. let d = v.alive.later.later i e n lim g fa below in record {
                front = d.front;
                j = d.j;
                is = d.is;
                len = d.len;
                more = d.more;
                x = d.x;
                good = d.good;
                ends = λ s cl. met (d.front ++ (d.more ++ s)) (ap f (same_front most C C Q i d.front d.j (d.more ++ s) d.is (omega (arith, below, d.len))) ∙ w) ∙ d.ends s cl;
              })
              (λ w g. let d = u.alive.later.later i e n lim g fa below in record {
                front = d.front;
                j = d.j;
                is = d.is;
                len = d.len;
                more = d.more;
                x = d.x;
                good = d.good;
                ends = λ s cl. unmet (d.front ++ (d.more ++ s)) (ap f (same_front most C C Q i d.front d.j (d.more ++ s) d.is (omega (arith, below, d.len))) ∙ w) ∙ d.ends s cl;
              });
          safe = λ i lim h. cases i (Err Stuck) h (λ w g. v.alive.later.safe i lim g) (λ w g. u.alive.later.safe i lim g);
        };
      };
      settles = record {
        at = λ i x j lim h. cases i (Ok (x, j)) h
            (λ w g. let d = v.settles.at i x j lim g in record {
              good = d.good;
              front = d.front;
              is = d.is;
              closes = λ s cl. met (d.front ++ s) (ap f (same_front most C C Q i d.front j s d.is (takes i x j w g)) ∙ w) ∙ d.closes s cl;
            })
            (λ w g. let d = u.settles.at i x j lim g in record {
              good = d.good;
              front = d.front;
              is = d.is;
              closes = λ s cl. unmet (d.front ++ s) (first_of i d.front j s d.is w (u.heads i x j lim g) cl) ∙ d.closes s cl;
            });
      };
      heads = λ i x j lim h. cases i (Ok (x, j)) h (λ w g. inl (takes i x j w g)) (λ w g. u.heads i x j lim g);
    }
