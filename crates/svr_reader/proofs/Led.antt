-- What is read behind a word or mark, or without it.
use Rattle.std.proofs.Common.{◌≡◌, ℕ, ◌<◌, Bool, true, false, if◌then◌else◌, List, [], ◌∷◌, ◌++◌, length, Option, Some, Ok, Err, inr, refl, sym, ◌∙◌, ap, subst, arith}
use Rattle.svr_token.specs.declared.Lexeme.{Lexeme}
use Rattle.svr_token.specs.declared.Lexeme.TheVariants as lexeme
use Rattle.svr_token.specs.declared.NameKind.TheVariants as name_kind
use Rattle.svr_tree.specs.Tokens.{Tok}
use Rattle.svr_reader.specs.Outcomes.{Stop, Unexpected, Stuck, Parser, and_then, lexeme_at, taken, Turn, go, done}
use Rattle.svr_reader.specs.declared.fixed.Fixed.{Fixed}
use Rattle.svr_reader.specs.Program.{Program, pure, expect, known_name, run}
use Rattle.svr_reader.specs.Steps.{fixed_lexeme, is_fixed, expected, named_by, named}
use Rattle.svr_reader.specs.Lists.{name, led}
use Rattle.svr_reader.proofs.Steps.{expects, led_yes, led_no, led_cases}
use Rattle.svr_reader.proofs.Local.{IsLocal, local_pure, local_run}
use Rattle.svr_reader.proofs.Live.{FaultsAt, AnyToken, Completes, Later, Finishes, Settled, Settles, Consumes, all_of, alive_pure, behind_token, settled_token, same_front, ok_shorter, later_take, later_refuse, later_peek, settles_take, take_consumes, settles_peek}
use Rattle.svr_reader.proofs.LiveLoops.{Then, Done, Turns}
use Rattle.svr_reader.proofs.Goals.{Goal, Form, goal_of, pure_goal, then_goal, then_form}

abbrev pub AnyAnswer : {X : Type 0} → X → Type 0
AnyAnswer x = Unit {0}

abbrev pub tok : Lexeme → Tok
tok q = record { at = 0; lexeme = q }

abbrev pub name_tok : Tok
name_tok = tok (lexeme.Name name_kind.Plain)

abbrev pub a_name : Option Lexeme
a_name = Some (lexeme.Name name_kind.Plain)

module _ {K : Type 0} {Ans : K → Type 0} (most r : ℕ) (sub : (k : K) → Parser (Ans k)) (ls : (k : K) → IsLocal (sub k)) where
  abbrev R : {X : Type 0} → Program K Ans X → Parser X
  R p = run most r sub p

  lo : {X : Type 0} (q : Program K Ans X) → IsLocal (R q)
  lo q = local_run most r sub ls q

  later_cond : {X : Type 0} {C : Option Lexeme → Type 0} {Q : X → Type 0} (t : Bool) (p q : Parser X) → Later most C Q p → Later most C Q q → Later most C Q (λ i. if t then p i else q i)
  later_cond true p q v w = v
  later_cond false p q v w = w

  settles_cond : {X : Type 0} {C : Option Lexeme → Type 0} {Q : X → Type 0} (t : Bool) (p q : Parser X) → Settles most C Q p → Settles most C Q q → Settles most C Q (λ i. if t then p i else q i)
  settles_cond true p q v w = v
  settles_cond false p q v w = w

  consumes_cond : {X : Type 0} (t : Bool) (p q : Parser X) → Consumes p → Consumes q → Consumes (λ i. if t then p i else q i)
  consumes_cond true p q v w = v
  consumes_cond false p q v w = w

  -- the next token is taken, for an answer
  abbrev takes : {X : Type 0} → (ℕ → X) → Parser X
  takes f i = and_then (taken i) (λ n j. Ok (f n, j))

  abbrev refuses : {X : Type 0} → Parser X
  refuses i = Err (Unexpected (length i))

  takes_later : {X : Type 0} (f : ℕ → X) → Later most AnyToken AnyAnswer (takes f)
  takes_later f = later_take most AnyToken AnyToken AnyAnswer (λ n j. Ok (f n, j)) (λ n. local_pure (f n)) (λ n. alive_pure most AnyToken AnyToken AnyAnswer (f n) tt (λ _ h. h))

  takes_settles : {X : Type 0} (f : ℕ → X) → Settles most AnyToken AnyAnswer (takes f)
  takes_settles f = settles_take most AnyToken AnyAnswer (λ n j. Ok (f n, j)) (λ n. settles_pure (f n))
    where
      settles_pure : {X : Type 0} (x : X) → Settles {A = X} most AnyToken AnyAnswer (λ j. Ok (x, j))
      settles_pure {X = X} x = record {
        at = λ i y j lim h. let both : ◌≡◌ {A = X × List Tok} (x, i) (y, j) = cc in
            subst (λ z. Settled AnyToken AnyAnswer (λ k. Ok (x, k)) i z.0 z.1) both (record { good = tt; front = []; is = refl; closes = λ k cl. refl });
      }

  takes_consumes : {X : Type 0} (f : ℕ → X) → Consumes (takes f)
  takes_consumes f = take_consumes most AnyToken AnyAnswer (λ n j. Ok (f n, j)) (λ n. local_pure (f n))

  refuses_later : {X : Type 0} → Later {A = X} most AnyToken AnyAnswer refuses
  refuses_later = later_refuse most AnyToken AnyAnswer

  refuses_settles : {X : Type 0} → Settles {A = X} most AnyToken AnyAnswer refuses
  refuses_settles = record { at = λ i y j lim h. absurd (cc) }

  refuses_consumes : {X : Type 0} → Consumes {A = X} refuses
  refuses_consumes i y j h = absurd (cc)

  abbrev expects_by : Fixed → Option Lexeme → Parser (Unit {0})
  expects_by q k i = if is_fixed q k then and_then (taken i) (λ _ j. Ok (tt, j)) else Err (Unexpected (length i))

  pub expect_form : (q : Fixed) → Form most r sub ls AnyToken AnyAnswer (expect q)
  unfolding expected
  expect_form q = record {
    later = later_peek most AnyToken AnyToken AnyAnswer (expects_by q) (λ k. later_cond (is_fixed q k) (takes (λ _. tt)) refuses (takes_later (λ _. tt)) refuses_later);
    settles = settles_peek most AnyToken AnyAnswer (expects_by q) (λ k. settles_cond (is_fixed q k) (takes (λ _. tt)) refuses (takes_settles (λ _. tt)) refuses_settles)
        (λ k. consumes_cond (is_fixed q k) (takes (λ _. tt)) refuses (takes_consumes (λ _. tt)) refuses_consumes);
    consumes = λ i y j h. consumes_cond (is_fixed q (lexeme_at i)) (takes (λ _. tt)) refuses (takes_consumes (λ _. tt)) refuses_consumes i y j h;
  }

  named_later : (q : Option Lexeme) → Later most AnyToken AnyAnswer (named_by q)
  named_later (Some (lexeme.Name k)) = takes_later (λ n. (n, k))
  named_later _ = refuses_later

  named_settles : (q : Option Lexeme) → Settles most AnyToken AnyAnswer (named_by q)
  named_settles (Some (lexeme.Name k)) = takes_settles (λ n. (n, k))
  named_settles _ = refuses_settles

  named_consumes : (q : Option Lexeme) → Consumes (named_by q)
  named_consumes (Some (lexeme.Name k)) = takes_consumes (λ n. (n, k))
  named_consumes _ = refuses_consumes

  pub known_name_form : Form most r sub ls AnyToken AnyAnswer known_name
  unfolding named
  known_name_form = record {
    later = later_peek most AnyToken AnyToken AnyAnswer named_by named_later;
    settles = settles_peek most AnyToken AnyAnswer named_by named_settles named_consumes;
    consumes = λ i y j h. named_consumes (lexeme_at i) i y j h;
  }

  pub known_name_goal : {D : Option Lexeme → Type 0} → D a_name → Goal most r sub ls D AnyToken AnyAnswer known_name
  unfolding named
  known_name_goal d = goal_of most r sub ls known_name_form (record { more = name_tok ∷ []; x = (0, name_kind.Plain); good = tt; opens = λ z cl. d; ends = λ z cl. refl })

  pub name_form : Form most r sub ls AnyToken AnyAnswer name
  name_form = then_form most r sub ls known_name_form (λ n _. pure_goal most r sub ls tt (λ _ h. h))

  pub name_goal : {D : Option Lexeme → Type 0} → D a_name → Goal most r sub ls D AnyToken AnyAnswer name
  name_goal d = then_goal most r sub ls (known_name_goal d) (λ n _. pure_goal most r sub ls tt (λ _ h. h))

  pub goal_expect : {D : Option Lexeme → Type 0} (q : Fixed) → D (Some (fixed_lexeme q)) → Goal most r sub ls D AnyToken AnyAnswer (expect q)
  goal_expect q d = goal_of most r sub ls (expect_form q) (record { more = tok (fixed_lexeme q) ∷ []; x = tt; good = tt; opens = λ z cl. d; ends = λ z cl. expects most r sub q (tok (fixed_lexeme q) ∷ z) z (refl, refl) })

  module _ {X : Type 0} (k : Fixed) (p q : Program K Ans X) where
    module _ (C : Option Lexeme → Type 0) (Q : X → Type 0) (v : Goal most r sub ls AnyToken C Q p) where
      led_behind : (i : List Tok) (e : Stop) (n : ℕ) (t : Tok) (z : List Tok) → length i < most → i ≡ t ∷ z → t.lexeme ≡ fixed_lexeme k → R p z ≡ Err e → FaultsAt e n → Completes C Q (R (led k p q)) i n
      led_behind i e n t z lim is w g fa = let few : length z < most = omega (arith, lim, ap length is) in subst (λ y. Completes C Q (R (led k p q)) y n) (sym is)
          (behind_token most C Q (R (led k p q)) (R p) t z n (λ y. led_yes most r sub k p q t y w) (all_of most AnyToken C Q (R p) (lo p) v.alive z e n few g fa))

      led_settled : (i : List Tok) (x : X) (j : List Tok) (t : Tok) (z : List Tok) → length i < most → i ≡ t ∷ z → t.lexeme ≡ fixed_lexeme k → R p z ≡ Ok (x, j) → Settled C Q (R (led k p q)) i x j
      led_settled i x j t z lim is w g = let few : length z < most = omega (arith, lim, ap length is) in subst (λ y. Settled C Q (R (led k p q)) y x j) (sym is)
          (settled_token C Q (R (led k p q)) (R p) t z x j (λ y. led_yes most r sub k p q t y w) (v.settles.at z x j few g))

      -- both ways take a token
      pub led_form : Form most r sub ls C Q q → Form most r sub ls C Q (led k p q)
      led_form u = record {
        later = record {
          later = λ i e n lim h fa behind. led_cases most r sub k p q i (Err e) h
              (λ t z is w g. led_behind i e n t z lim is w g fa)
              (λ w g. let d = u.later.later i e n lim g fa behind in record {
                front = d.front;
                j = d.j;
                is = d.is;
                len = d.len;
                more = d.more;
                x = d.x;
                good = d.good;
                ends = λ s cl. led_no most r sub k p q (d.front ++ (d.more ++ s)) (ap (is_fixed k) (same_front most C C Q i d.front d.j (d.more ++ s) d.is (omega (arith, behind, d.len))) ∙ w) ∙ d.ends s cl;
              });
          safe = λ i lim h. led_cases most r sub k p q i (Err Stuck) h
              (λ t z is w g. v.alive.later.safe z (omega (arith, lim, ap length is)) g)
              (λ w g. u.later.safe i lim g);
        };
        settles = record {
          at = λ i x j lim h. led_cases most r sub k p q i (Ok (x, j)) h
              (λ t z is w g. led_settled i x j t z lim is w g)
              (λ w g. let d = u.settles.at i x j lim g in let less = u.consumes i x j g in record {
                good = d.good;
                front = d.front;
                is = d.is;
                closes = λ s cl. led_no most r sub k p q (d.front ++ s) (ap (is_fixed k) (same_front most C C Q i d.front j s d.is less) ∙ w) ∙ d.closes s cl;
              });
        };
        consumes = λ i x j h. led_cases most r sub k p q i (Ok (x, j)) h
            (λ t z is w g. let less = ok_shorter (R p) (lo p) z x j g in omega (arith, less, ap length is))
            (λ w g. u.consumes i x j g);
      }

  -- what may stand behind a mark, or not at all
  pub opt_goal : {X : Type 0} (k : Fixed) (p : Program K Ans X) (x : X) (C : Option Lexeme → Type 0) (Q : X → Type 0) → ((q : Option Lexeme) → C q → is_fixed k q ≡ false) → Goal most r sub ls AnyToken C Q p → Q x → Goal most r sub ls C C Q (led k p (pure x))
  opt_goal {X = X} k p x C Q apart v good = record {
    alive = record {
      fin = record { more = []; x = x; good = good; opens = λ z cl. cl; ends = λ z cl. led_no most r sub k p (pure x) z (apart (lexeme_at z) cl) };
      later = record {
        later = λ i e n lim h fa behind. led_cases most r sub k p (pure x) i (Err e) h
            (λ t z is w g. led_behind k p (pure x) C Q v i e n t z lim is w g fa)
            (λ w g. absurd (cc));
        safe = λ i lim h. led_cases most r sub k p (pure x) i (Err Stuck) h
            (λ t z is w g. v.alive.later.safe z (omega (arith, lim, ap length is)) g)
            (λ w g. absurd (cc));
      };
    };
    settles = record {
      at = λ i y j lim h. led_cases most r sub k p (pure x) i (Ok (y, j)) h
          (λ t z is w g. led_settled k p (pure x) C Q v i y j t z lim is w g)
          (λ w g. let both : ◌≡◌ {A = X × List Tok} (x, i) (y, j) = cc in
          subst (λ z. Settled C Q (R (led k p (pure x))) i z.0 z.1) both (record { good = good; front = []; is = refl; closes = λ z cl. led_no most r sub k p (pure x) z (apart (lexeme_at z) cl) }));
    };
    heads = λ i y j lim h. inr (λ _ h2. h2);
  }

  -- a loop whose turns each take a token
  pub turns_of : {S X : Type 0} (C : Option Lexeme → Type 0) (Q : X → Type 0) (Inv : S → Type 0) (body : S → Program K Ans (Turn S X))
      → ((s : S) → Inv s → Form most r sub ls C (Then most C C Q (λ s2. R (body s2)) Inv) (body s)) → ((s : S) → Inv s → Finishes C C (Done most C C Q (λ s2. R (body s2)) Inv) (R (body s)))
      → Turns most C C Q (λ s2. R (body s2)) Inv
  turns_of C Q Inv body v f = record {
    local = λ s. lo (body s);
    fin = f;
    later = λ s inv. (v s inv).later;
    goes = λ s i s2 j inv lim h. let d = (v s inv).settles.at i (go s2) j lim h in record { inv = d.good.0; settled = record { good = tt; front = d.front; is = d.is; closes = d.closes }; less = (v s inv).consumes i (go s2) j h };
    ends = λ s i a j inv lim h. let d = (v s inv).settles.at i (done a) j lim h in record { good = d.good; front = d.front; is = d.is; closes = d.closes };
    within = λ q h. h;
  }
