-- Loops whose turns each stand behind a word or mark: where a turn fails, what was read so far can be completed.
use Rattle.std.proofs.Common.{◌≡◌, ℕ, ◌≤◌, false, List, [], length, Option, Ok, ap, arith}
use Rattle.svr_token.specs.declared.Lexeme.{Lexeme}
use Rattle.svr_tree.specs.Tokens.{Tok}
use Rattle.svr_reader.specs.Outcomes.{Turn, go, done, Outcome, Parser, lexeme_at}
use Rattle.svr_reader.specs.declared.fixed.Fixed.{Fixed}
use Rattle.svr_reader.specs.Program.{Program, pure, loop, run}
use Rattle.svr_reader.specs.Steps.{is_fixed}
use Rattle.svr_reader.specs.Lists.{led}
use Rattle.svr_reader.proofs.Steps.{led_no, led_cases}
use Rattle.svr_reader.proofs.Local.{IsLocal, local_run}
use Rattle.svr_reader.proofs.Live.{AnyToken, ok_shorter}
use Rattle.svr_reader.proofs.LiveLoops.{Then, Turns}
use Rattle.svr_reader.proofs.Goals.{Goal, loop_goal}
use Rattle.svr_reader.proofs.Led.{opt_goal}

not_both : {S X : Type 0} (s : S) (x : X) (i j : List Tok) → ◌≡◌ {A = Outcome (Turn S X)} (Ok (done x, i)) (Ok (go s, j)) → ⊥
not_both {S = S} {X = X} s x i j h = let both : ◌≡◌ {A = Turn S X × List Tok} (done x, i) (go s, j) = cc in let first : ◌≡◌ {A = Turn S X} (done x) (go s) = ap (λ z. z.0) both in absurd (cc)

module _ {K : Type 0} {Ans : K → Type 0} (most r : ℕ) (sub : (k : K) → Parser (Ans k)) (ls : (k : K) → IsLocal (sub k)) (some : 1 ≤ most) {S X : Type 0} (C : Option Lexeme → Type 0) (Q : X → Type 0) (Inv : S → Type 0) (e : S → X) where
  abbrev R : {A : Type 0} → Program K Ans A → Parser A
  R p = run most r sub p

  -- { k p }

  module _ (k : Fixed) (p : S → Program K Ans (Turn S X)) (apart : (q : Option Lexeme) → C q → is_fixed k q ≡ false) where
    abbrev body : S → Program K Ans (Turn S X)
    body s = led k (p s) (pure (done (e s)))

    abbrev Ends : Turn S X → Type 0
    Ends = Then most C C Q (λ s. R (body s)) Inv

    led_turns : ((s : S) → Inv s → Goal most r sub ls AnyToken C Ends (p s)) → ((s : S) → Inv s → Q (e s)) → Turns most C C Q (λ s. R (body s)) Inv
    led_turns v good = record {
      local = λ s. local_run most r sub ls (body s);
      fin = λ s inv. record { more = []; x = done (e s); good = good s inv; opens = λ z cl. cl; ends = λ z cl. led_no most r sub k (p s) (pure (done (e s))) z (apart (lexeme_at z) cl) };
      later = λ s inv. (all s inv).alive.later;
      goes = λ s i s2 j inv lim h. let d = (all s inv).settles.at i (go s2) j lim h in record {
        inv = d.good.0;
        settled = record { good = tt; front = d.front; is = d.is; closes = d.closes };
        less = led_cases most r sub k (p s) (pure (done (e s))) i (Ok (go s2, j)) h
            (λ t z is w g. let less = ok_shorter (R (p s)) (local_run most r sub ls (p s)) z (go s2) j g in omega (arith, less, ap length is))
            (λ w g. absurd (not_both s2 (e s) i j g));
      };
      ends = λ s i a j inv lim h. let d = (all s inv).settles.at i (done a) j lim h in record { good = d.good; front = d.front; is = d.is; closes = d.closes };
      within = λ q h. h;
    }
      where
        all : (s : S) → Inv s → Goal most r sub ls C C Ends (body s)
        all s inv = opt_goal most r sub ls k (p s) (done (e s)) C Ends apart (v s inv) (good s inv)

    pub led_loop_goal : ((s : S) → Inv s → Goal most r sub ls AnyToken C Ends (p s)) → ((s : S) → Inv s → Q (e s)) → (s : S) → Inv s → Goal most r sub ls C C Q (loop (λ s2. led k (p s2) (pure (done (e s2)))) s)
    led_loop_goal v good s inv = loop_goal most r sub ls {body = body} {s = s} some (led_turns v good) inv
