-- Productions that stop before a token which is not theirs, and read on behind any other.
use Rattle.std.proofs.Common.{◌≡◌, ℕ, ◌<◌, ◌≤◌, List, [], ◌++◌, length, Option, Ok, Err, inr, refl, sym, ◌∙◌, ap, subst}
use Rattle.svr_token.specs.declared.Lexeme.{Lexeme}
use Rattle.svr_tree.specs.Tokens.{Tok}
use Rattle.svr_reader.specs.Outcomes.{Turn, go, done, Outcome, Parser, lexeme_at}
use Rattle.svr_reader.specs.Program.{Program, bind, peek, loop, run}
use Rattle.svr_reader.proofs.Local.{IsLocal, local_run}
use Rattle.svr_reader.proofs.Live.{Later, Settled, same_front, later_peek}
use Rattle.svr_reader.proofs.LiveLoops.{Then, Done, Goes, Turns}
use Rattle.svr_reader.proofs.Goals.{Goal, Form, loop_goal}

module _ {K : Type 0} {Ans : K → Type 0} (most r : ℕ) (sub : (k : K) → Parser (Ans k)) (ls : (k : K) → IsLocal (sub k)) where
  abbrev R : {A : Type 0} → Program K Ans A → Parser A
  R p = run most r sub p

  -- before what spells q it reads on, or it stops with x and takes nothing
  pub data Peeks {A : Type 0} (C : Option Lexeme → Type 0) (Q : A → Type 0) (x : A) (p : Program K Ans A) : Type 0 where
    reads : Form most r sub ls C Q p → Peeks C Q x p
    stops : ((i : List Tok) → R p i ≡ Ok (x, i)) → Peeks C Q x p

  stop_later : {A : Type 0} (C : Option Lexeme → Type 0) (Q : A → Type 0) (x : A) (p : Parser A) → ((i : List Tok) → p i ≡ Ok (x, i)) → Later most C Q p
  stop_later C Q x p h = record {
    later = λ i e n lim g fa behind. absurd (apart (sym (h i) ∙ g));
    safe = λ i lim g. apart (sym (h i) ∙ g);
  }
    where
      apart : {A : Type 0} {y : A × List Tok} {e : _} → ◌≡◌ {A = Outcome A} (Ok y) (Err e) → ⊥
      apart f = absurd (cc)

  peeks_later : {A : Type 0} {C : Option Lexeme → Type 0} {Q : A → Type 0} {x : A} {p : Program K Ans A} → Peeks C Q x p → Later most C Q (R p)
  peeks_later (reads v) = v.later
  peeks_later {C = C} {Q = Q} {x = x} {p = p} (stops h) = stop_later C Q x (R p) h

  module _ {A : Type 0} (C : Option Lexeme → Type 0) (Q : A → Type 0) (x : A) (good : Q x) (f : Option Lexeme → Program K Ans A) (v : (q : Option Lexeme) → Peeks C Q x (f q)) (ends : (q : Option Lexeme) (i : List Tok) → C q → R (f q) i ≡ Ok (x, i)) where
    abbrev step : Parser A
    step i = R (f (lexeme_at i)) i

    settled_by : (i : List Tok) (y : A) (j : List Tok) → length i < most → Peeks C Q x (f (lexeme_at i)) → step i ≡ Ok (y, j) → Settled C Q step i y j
    settled_by i y j lim (reads w) h = let d = w.settles.at i y j lim h in record {
      good = d.good;
      front = d.front;
      is = d.is;
      closes = λ k cl. ap (λ q. R (f q) (d.front ++ k)) (same_front most C C Q i d.front j k d.is (w.consumes i y j h)) ∙ d.closes k cl;
    }
    settled_by i y j lim (stops w) h =
        let same : ◌≡◌ {A = Outcome A} (Ok (x, i)) (Ok (y, j)) = sym (w i) ∙ h in
        let both : ◌≡◌ {A = A × List Tok} (x, i) (y, j) = cc in
        subst (λ z. Settled C Q step i z.0 z.1) both (record { good = good; front = []; is = refl; closes = λ k cl. ends (lexeme_at k) k cl })

    pub peek_goal : Goal most r sub ls C C Q (bind peek f)
    peek_goal = record {
      alive = record {
        fin = record { more = []; x = x; good = good; opens = λ z cl. cl; ends = λ z cl. ends (lexeme_at z) z cl };
        later = later_peek most C C Q (λ q. R (f q)) (λ q. peeks_later (v q));
      };
      settles = record { at = λ i y j lim h. settled_by i y j lim (v (lexeme_at i)) h };
      heads = λ i y j lim h. inr (λ k c. c);
    }

  -- a loop of such turns
  module _ {S X : Type 0} (C : Option Lexeme → Type 0) (Q : X → Type 0) (Inv : S → Type 0) (by : S → Option Lexeme → Program K Ans (Turn S X)) (stop : S → X) (good : (s : S) → Inv s → Q (stop s)) where
    abbrev turn : S → Parser (Turn S X)
    turn s = R (bind peek (by s))

    abbrev pub Turned : Turn S X → Type 0
    Turned = Then most C C Q turn Inv

    abbrev Ended : Turn S X → Type 0
    Ended = Done most C C Q turn Inv

    module _ (v : (s : S) → Inv s → (q : Option Lexeme) → Peeks C Turned (done (stop s)) (by s q)) (ends : (s : S) (q : Option Lexeme) (i : List Tok) → C q → R (by s q) i ≡ Ok (done (stop s), i)) where
      goes_by : (s : S) (i : List Tok) (s2 : S) (j : List Tok) → length i < most → Peeks C Turned (done (stop s)) (by s (lexeme_at i)) → turn s i ≡ Ok (go s2, j) → Goes most C C Q turn Inv i s s2 j
      goes_by s i s2 j lim (reads w) h = let d = w.settles.at i (go s2) j lim h in record {
        inv = d.good.0;
        settled = record {
          good = tt;
          front = d.front;
          is = d.is;
          closes = λ k cl. ap (λ q. R (by s q) (d.front ++ k)) (same_front most C C Turned i d.front j k d.is (w.consumes i (go s2) j h)) ∙ d.closes k cl;
        };
        less = w.consumes i (go s2) j h;
      }
      goes_by s i s2 j lim (stops w) h = absurd (apart (sym (w i) ∙ h))
        where
          apart : {a : X} {k z : List Tok} → ◌≡◌ {A = Outcome (Turn S X)} (Ok (done a, k)) (Ok (go s2, z)) → ⊥
          apart {a} {k} {z} e =
              let both : ◌≡◌ {A = Turn S X × List Tok} (done a, k) (go s2, z) = cc in
              let first : ◌≡◌ {A = Turn S X} (done a) (go s2) = ap (λ w. w.0) both in absurd (cc)

      done_good : (s : S) (i : List Tok) (a : X) (j : List Tok) → Settled C Turned (turn s) i (done a) j → Settled C Ended (turn s) i (done a) j
      done_good s i a j d = record { good = d.good; front = d.front; is = d.is; closes = d.closes }

      pub peek_turns : Turns most C C Q turn Inv
      peek_turns = record {
        local = λ s. local_run most r sub ls (bind peek (by s));
        fin = λ s inv. record { more = []; x = done (stop s); good = good s inv; opens = λ z cl. cl; ends = λ z cl. ends s (lexeme_at z) z cl };
        later = λ s inv. later_peek most C C Turned (λ q. R (by s q)) (λ q. peeks_later (v s inv q));
        goes = λ s i s2 j inv lim h. goes_by s i s2 j lim (v s inv (lexeme_at i)) h;
        ends = λ s i a j inv lim h. done_good s i a j (settled_by C Turned (done (stop s)) (good s inv) (by s) (v s inv) (ends s) i (done a) j lim (v s inv (lexeme_at i)) h);
        within = λ q h. h;
      }

      pub peek_loop_goal : 1 ≤ most → (s : S) → Inv s → Goal most r sub ls C C Q (loop (λ s2. bind peek (by s2)) s)
      peek_loop_goal some s inv = loop_goal most r sub ls {body = λ s2. bind peek (by s2)} {s = s} some peek_turns inv
