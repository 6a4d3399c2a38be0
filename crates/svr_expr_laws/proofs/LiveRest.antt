-- Productions that read a construct of their own before some tokens, and go on as another production does before any other.
use Rattle.std.proofs.Common.{◌≡◌, ℕ, suc, ◌+◌, ◌<◌, ◌≤◌, List, [], ◌∷◌, ◌++◌, length, length-append, Option, Ok, inr, refl, sym, ◌∙◌, ap, arith}
use Rattle.svr_token.specs.declared.Lexeme.{Lexeme}
use Rattle.svr_tree.specs.Tokens.{Tok}
use Rattle.svr_reader.specs.Outcomes.{Parser, lexeme_at}
use Rattle.svr_reader.specs.Program.{Program, bind, peek, run}
use Rattle.svr_reader.proofs.Local.{IsLocal}
use Rattle.svr_reader.proofs.Live.{Completes, Later, Settled, same_front, later_peek, split}
use Rattle.svr_reader.proofs.Goals.{Goal, Form}

module _ {K : Type 0} {Ans : K → Type 0} (most r : ℕ) (sub : (k : K) → Parser (Ans k)) (ls : (k : K) → IsLocal (sub k)) where
  abbrev R : {A : Type 0} → Program K Ans A → Parser A
  R p = run most r sub p

  -- before what spells q it reads a construct of its own, or goes on as the other one
  pub data Leads {A : Type 0} (C : Option Lexeme → Type 0) (Q : A → Type 0) (other : Program K Ans A) (p : Program K Ans A) : Type 0 where
    leads : Form most r sub ls C Q p → Leads C Q other p
    defers : ((i : List Tok) → R p i ≡ R other i) → Leads C Q other p

  as_other : {A : Type 0} (C : Option Lexeme → Type 0) (Q : A → Type 0) (p q : Parser A) → ((i : List Tok) → p i ≡ q i) → Later most C Q q → Later most C Q p
  as_other C Q p q h v = record {
    later = λ i e n lim g fa behind. let d = v.later i e n lim (sym (h i) ∙ g) fa behind in record {
      front = d.front;
      j = d.j;
      is = d.is;
      len = d.len;
      more = d.more;
      x = d.x;
      good = d.good;
      ends = λ s cl. h (d.front ++ (d.more ++ s)) ∙ d.ends s cl;
    };
    safe = λ i lim g. v.safe i lim (sym (h i) ∙ g);
  }

  module _ {A : Type 0} (C : Option Lexeme → Type 0) (Q : A → Type 0) (other : Program K Ans A) (v : Goal most r sub ls C C Q other)
      (f : Option Lexeme → Program K Ans A) (w : (q : Option Lexeme) → Leads C Q other (f q)) (ends : (q : Option Lexeme) (i : List Tok) → C q → R (f q) i ≡ R other i) where
    abbrev step : Parser A
    step i = R (f (lexeme_at i)) i

    leads_later : (p : Program K Ans A) → Leads C Q other p → Later most C Q (R p)
    leads_later p (leads u) = u.later
    leads_later p (defers h) = as_other C Q (R p) (R other) h v.alive.later

    -- the other one read these tokens, or none
    as_read : (i front j k : List Tok) → i ≡ front ++ j → ((z : List Tok) → R (f (lexeme_at i)) z ≡ R other z) → C (lexeme_at k) → step (front ++ k) ≡ R other (front ++ k)
    as_read i [] j k is h cl = ends (lexeme_at k) k cl
    as_read i (t ∷ front) j k is h cl = let same = same_front most C C Q i (t ∷ front) j k is (let n : length i ≡ length (t ∷ front) + length j = ap length is ∙ length-append (t ∷ front) j in omega (arith, n)) in
        ap (λ q. R (f q) ((t ∷ front) ++ k)) same ∙ h ((t ∷ front) ++ k)

    settled_by : (i : List Tok) (y : A) (j : List Tok) → length i < most → Leads C Q other (f (lexeme_at i)) → step i ≡ Ok (y, j) → Settled C Q step i y j
    settled_by i y j lim (leads u) h = let d = u.settles.at i y j lim h in record {
      good = d.good;
      front = d.front;
      is = d.is;
      closes = λ k cl. ap (λ q. R (f q) (d.front ++ k)) (same_front most C C Q i d.front j k d.is (u.consumes i y j h)) ∙ d.closes k cl;
    }
    settled_by i y j lim (defers g) h = let d = v.settles.at i y j lim (sym (g i) ∙ h) in record {
      good = d.good;
      front = d.front;
      is = d.is;
      closes = λ k cl. as_read i d.front j k d.is g cl ∙ d.closes k cl;
    }

    pub else_goal : Goal most r sub ls C C Q (bind peek f)
    else_goal = record {
      alive = record {
        fin = let d = v.alive.fin in record {
          more = d.more;
          x = d.x;
          good = d.good;
          opens = d.opens;
          ends = λ z cl. ends (lexeme_at (d.more ++ z)) (d.more ++ z) (d.opens z cl) ∙ d.ends z cl;
        };
        later = later_peek most C C Q (λ q. R (f q)) (λ q. leads_later (f q) (w q));
      };
      settles = record { at = λ i y j lim h. settled_by i y j lim (w (lexeme_at i)) h };
      heads = λ i y j lim h. inr (λ k c. c);
    }
