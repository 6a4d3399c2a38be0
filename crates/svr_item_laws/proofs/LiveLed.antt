-- One way behind a word or mark, another without it, which need take nothing: where the reading fails, what was read so far can be completed.
use Rattle.std.proofs.Common.{◌≡◌, ℕ, ◌<◌, false, List, [], ◌∷◌, ◌++◌, length, Option, Ok, Err, ◌⊎◌, inl, inr, sym, ◌∙◌, ap, subst, arith}
use Rattle.svr_token.specs.declared.Lexeme.{Lexeme}
use Rattle.svr_tree.specs.Tokens.{Tok}
use Rattle.svr_reader.specs.Outcomes.{Stop, Stuck, Parser, lexeme_at}
use Rattle.svr_reader.specs.declared.fixed.Fixed.{Fixed}
use Rattle.svr_reader.specs.Program.{Program, run}
use Rattle.svr_reader.specs.Steps.{fixed_lexeme, is_fixed, sees}
use Rattle.svr_reader.specs.Lists.{led}
use Rattle.svr_reader.proofs.Steps.{led_yes, led_no, led_cases}
use Rattle.svr_reader.proofs.Local.{IsLocal, local_run}
use Rattle.svr_reader.proofs.Live.{FaultsAt, AnyToken, Completes, Settled, all_of, behind_token, settled_token, same_front, ok_shorter}
use Rattle.svr_reader.proofs.Goals.{Goal}

module _ {K : Type 0} {Ans : K → Type 0} (most r : ℕ) (sub : (k : K) → Parser (Ans k)) (ls : (k : K) → IsLocal (sub k)) where
  abbrev R : {X : Type 0} → Program K Ans X → Parser X
  R p = run most r sub p

  lo : {X : Type 0} (q : Program K Ans X) → IsLocal (R q)
  lo q = local_run most r sub ls q

  module _ {X : Type 0} (k : Fixed) (p q : Program K Ans X) (D C : Option Lexeme → Type 0) (Q : X → Type 0) (apart : (l : Option Lexeme) → D l → is_fixed k l ≡ false) (v : Goal most r sub ls AnyToken C Q p) (u : Goal most r sub ls D C Q q) where
    behind : (i : List Tok) (e : Stop) (n : ℕ) (t : Tok) (z : List Tok) → length i < most → i ≡ t ∷ z → t.lexeme ≡ fixed_lexeme k → R p z ≡ Err e → FaultsAt e n → Completes C Q (R (led k p q)) i n
    behind i e n t z lim is w g fa = let few : length z < most = omega (arith, lim, ap length is) in subst (λ y. Completes C Q (R (led k p q)) y n) (sym is)
        (behind_token most C Q (R (led k p q)) (R p) t z n (λ y. led_yes most r sub k p q t y w) (all_of most AnyToken C Q (R p) (lo p) v.alive z e n few g fa))

    settled : (i : List Tok) (x : X) (j : List Tok) (t : Tok) (z : List Tok) → length i < most → i ≡ t ∷ z → t.lexeme ≡ fixed_lexeme k → R p z ≡ Ok (x, j) → Settled C Q (R (led k p q)) i x j
    settled i x j t z lim is w g = let few : length z < most = omega (arith, lim, ap length is) in subst (λ y. Settled C Q (R (led k p q)) y x j) (sym is)
        (settled_token C Q (R (led k p q)) (R p) t z x j (λ y. led_yes most r sub k p q t y w) (v.settles.at z x j few g))

    -- what takes nothing stops before what may begin it
    first_of : (i front j s : List Tok) → i ≡ front ++ j → sees k i ≡ false → (length j < length i) ⊎ ((l : Option Lexeme) → C l → D l) → C (lexeme_at s) → sees k (front ++ s) ≡ false
    first_of i [] j s is w h cl = elim h as (λ _. sees k s ≡ false) [ inl less ↦ absurd (omega (arith, less, ap length is)) | inr within ↦ apart (lexeme_at s) (within (lexeme_at s) cl) ]
    first_of i (t ∷ front) j s is w h cl = ap (is_fixed k) (sym (ap lexeme_at is)) ∙ w

    pub led_goal : Goal most r sub ls D C Q (led k p q)
    led_goal = record {
      alive = record {
        fin = let d = u.alive.fin in record {
          more = d.more;
          x = d.x;
          good = d.good;
          opens = d.opens;
          ends = λ s cl. led_no most r sub k p q (d.more ++ s) (apart (lexeme_at (d.more ++ s)) (d.opens s cl)) ∙ d.ends s cl;
        };
        later = record {
          later = λ i e n lim h fa below. led_cases most r sub k p q i (Err e) h
              (λ t z is w g. behind i e n t z lim is w g fa)
              (λ w g. let d = u.alive.later.later i e n lim g fa below in record {
                front = d.front;
                j = d.j;
                is = d.is;
                len = d.len;
                more = d.more;
                x = d.x;
                good = d.good;
                ends = λ s cl. led_no most r sub k p q (d.front ++ (d.more ++ s)) (ap (is_fixed k) (same_front most C C Q i d.front d.j (d.more ++ s) d.is (omega (arith, below, d.len))) ∙ w) ∙ d.ends s cl;
              });
          safe = λ i lim h. led_cases most r sub k p q i (Err Stuck) h
              (λ t z is w g. v.alive.later.safe z (omega (arith, lim, ap length is)) g)
              (λ w g. u.alive.later.safe i lim g);
        };
      };
      settles = record {
        at = λ i x j lim h. led_cases most r sub k p q i (Ok (x, j)) h
            (λ t z is w g. settled i x j t z lim is w g)
            (λ w g. let d = u.settles.at i x j lim g in record {
              good = d.good;
              front = d.front;
              is = d.is;
              closes = λ s cl. led_no most r sub k p q (d.front ++ s) (first_of i d.front j s d.is w (u.heads i x j lim g) cl) ∙ d.closes s cl;
            });
      };
      heads = λ i x j lim h. led_cases most r sub k p q i (Ok (x, j)) h
          (λ t z is w g. let less = ok_shorter (R p) (lo p) z x j g in inl (omega (arith, less, ap length is)))
          (λ w g. u.heads i x j lim g);
    }
