-- Programs that can be completed wherever they fail: one line for a production.
use Rattle.std.proofs.Common.{◌≡◌, ℕ, zero, suc, ◌<◌, ◌≤◌, List, [], ◌++◌, length, Option, Ok, ◌⊎◌, inl, inr, refl, subst, arith}
use Rattle.svr_token.specs.declared.Lexeme.{Lexeme}
use Rattle.svr_tree.specs.Tokens.{Tok}
use Rattle.svr_reader.specs.Outcomes.{Turn, Outcome, Parser, lexeme_at, number_at}
use Rattle.svr_reader.specs.Program.{Program, pure, bind, refuse, peek, here, take, enter, loop, run}
use Rattle.svr_reader.proofs.Steps.{bind_ok}
use Rattle.svr_reader.proofs.Local.{IsLocal, local_run}
use Rattle.svr_reader.proofs.Live.{AnyToken, Later, Finishes, Alive, Settled, Settles, Heads, Consumes, alive_bind, alive_pure, later_bind, later_refuse, later_take, later_peek, later_here, later_enter, settles_bind, heads_bind, settles_take, take_consumes, settles_enter, enter_consumes, settles_peek, settles_here, ok_shorter}
use Rattle.svr_reader.proofs.LiveLoops.{Turns, alive_turns, settles_turns}

module _ {K : Type 0} {Ans : K → Type 0} (most r : ℕ) (sub : (k : K) → Parser (Ans k)) (ls : (k : K) → IsLocal (sub k)) where
  -- what a production is from a place on where it may be cut off
  pub record Goal {X : Type 0} (D C : Option Lexeme → Type 0) (Q : X → Type 0) (q : Program K Ans X) : Type 0 where
    pub alive : Alive most D C Q (run most r sub q)
    pub settles : Settles most C Q (run most r sub q)
    pub heads : Heads most D C (run most r sub q)

  -- what a production is whose first token may be refused
  pub record Form {X : Type 0} (C : Option Lexeme → Type 0) (Q : X → Type 0) (q : Program K Ans X) : Type 0 where
    pub later : Later most C Q (run most r sub q)
    pub settles : Settles most C Q (run most r sub q)
    pub consumes : Consumes (run most r sub q)

  lo : {X : Type 0} (q : Program K Ans X) → IsLocal (run most r sub q)
  lo q = local_run most r sub ls q

  pub then_goal : {X Y : Type 0} {D0 D C : Option Lexeme → Type 0} {G : X → Type 0} {Q : Y → Type 0} {p : Program K Ans X} {f : X → Program K Ans Y}
      → Goal D0 D G p → ((x : X) → G x → Goal D C Q (f x)) → Goal D0 C Q (bind p f)
  then_goal {D0 = D0} {D = D} {C = C} {G = G} {Q = Q} {p = p} {f = f} v a = record {
    alive = alive_bind most D0 D C G Q (run most r sub p) (λ x. run most r sub (f x)) (lo p) (λ x. lo (f x)) (record { settles = v.settles; alive = v.alive }) (λ x g. (a x g).alive);
    settles = settles_bind most D C G Q (run most r sub p) (λ x. run most r sub (f x)) (lo p) v.settles (λ x g. (a x g).settles) (λ x g. (a x g).heads);
    heads = λ i y j lim h. heads_bind most D C G Q (run most r sub p) (λ x. run most r sub (f x)) D0 (lo p) (λ x. lo (f x)) v.settles v.heads (λ x g. (a x g).heads) i y j lim h;
  }

  pub then_form : {X Y : Type 0} {D C : Option Lexeme → Type 0} {G : X → Type 0} {Q : Y → Type 0} {p : Program K Ans X} {f : X → Program K Ans Y}
      → Form D G p → ((x : X) → G x → Goal D C Q (f x)) → Form C Q (bind p f)
  then_form {D = D} {C = C} {G = G} {Q = Q} {p = p} {f = f} v a = record {
    later = later_bind most D D C G Q (run most r sub p) (λ x. run most r sub (f x)) (lo p) (λ x. lo (f x)) v.settles v.later (λ x g. (a x g).alive);
    settles = settles_bind most D C G Q (run most r sub p) (λ x. run most r sub (f x)) (lo p) v.settles (λ x g. (a x g).settles) (λ x g. (a x g).heads);
    consumes = λ i y j h. bind_ok (run most r sub p i) (λ x. run most r sub (f x)) (y, j) h (λ x j1 e g.
        let a1 = v.consumes i x j1 e in let a2 = ok_shorter (run most r sub (f x)) (lo (f x)) j1 y j g in omega (arith, a1, a2));
  }

  -- a form that can be finished with tokens of which the first is of D
  pub goal_of : {X : Type 0} {D C : Option Lexeme → Type 0} {Q : X → Type 0} {q : Program K Ans X} → Form C Q q → Finishes D C Q (run most r sub q) → Goal D C Q q
  goal_of v d = record { alive = record { fin = d; later = v.later }; settles = v.settles; heads = λ i y j lim h. inl (v.consumes i y j h) }

  pure_settled : {X : Type 0} (C : Option Lexeme → Type 0) (Q : X → Type 0) (x : X) (i : List Tok) (y : X) (j : List Tok) → ◌≡◌ {A = Outcome X} (Ok (x, i)) (Ok (y, j)) → Q x → Settled C Q (λ k. Ok (x, k)) i y j
  pure_settled {X = X} C Q x i y j h q = let both : ◌≡◌ {A = X × List Tok} (x, i) (y, j) = cc in
      subst (λ z. Settled C Q (λ k. Ok (x, k)) i z.0 z.1) both (record { good = q; front = []; is = refl; closes = λ k cl. refl })

  pub pure_goal : {X : Type 0} {D C : Option Lexeme → Type 0} {Q : X → Type 0} {x : X} → Q x → ((k : Option Lexeme) → C k → D k) → Goal D C Q (pure x)
  pure_goal {D = D} {C = C} {Q = Q} {x = x} q w = record {
    alive = alive_pure most D C Q x q w;
    settles = record { at = λ i y j lim h. pure_settled C Q x i y j h q };
    heads = λ i y j lim h. inr w;
  }

  pub take_form : {Y : Type 0} {C : Option Lexeme → Type 0} {Q : Y → Type 0} {f : ℕ → Program K Ans Y} → ((a : ℕ) → Goal AnyToken C Q (f a)) → Form C Q (bind take f)
  take_form {C = C} {Q = Q} {f = f} a = record {
    later = later_take most AnyToken C Q (λ n. run most r sub (f n)) (λ n. lo (f n)) (λ n. (a n).alive);
    settles = settles_take most C Q (λ n. run most r sub (f n)) (λ n. (a n).settles);
    consumes = take_consumes most C Q (λ n. run most r sub (f n)) (λ n. lo (f n));
  }

  pub enter_form : {Y : Type 0} {C : Option Lexeme → Type 0} {Q : Y → Type 0} {f : ℕ → Program K Ans Y} {h : ℕ} → h ≤ suc r → (h ≤ r → (a : ℕ) → Goal AnyToken C Q (f a)) → Form C Q (bind (enter h) f)
  enter_form {C = C} {Q = Q} {f = f} {h = h} low a = record {
    later = later_enter most AnyToken C Q r h low (λ n. run most r sub (f n)) (λ n. lo (f n)) (λ fits n. (a fits n).alive);
    settles = settles_enter most C Q r h (λ n. run most r sub (f n)) (λ fits n. (a fits n).settles);
    consumes = enter_consumes most C Q r h (λ n. run most r sub (f n)) (λ n. lo (f n));
  }

  pub peek_form : {Y : Type 0} {C : Option Lexeme → Type 0} {Q : Y → Type 0} {f : Option Lexeme → Program K Ans Y} → ((k : Option Lexeme) → Form C Q (f k)) → Form C Q (bind peek f)
  peek_form {C = C} {Q = Q} {f = f} a = record {
    later = later_peek most AnyToken C Q (λ k. run most r sub (f k)) (λ k. (a k).later);
    settles = settles_peek most C Q (λ k. run most r sub (f k)) (λ k. (a k).settles) (λ k. (a k).consumes);
    consumes = λ i y j h. (a (lexeme_at i)).consumes i y j h;
  }

  pub here_form : {Y : Type 0} {C : Option Lexeme → Type 0} {Q : Y → Type 0} {f : ℕ → Program K Ans Y} → ((k : ℕ) → Form C Q (f k)) → Form C Q (bind here f)
  here_form {C = C} {Q = Q} {f = f} a = record {
    later = later_here most AnyToken C Q (λ k. run most r sub (f k)) (λ k. (a k).later);
    settles = settles_here most C Q (λ k. run most r sub (f k)) (λ k. (a k).settles) (λ k. (a k).consumes);
    consumes = λ i y j h. (a (number_at i)).consumes i y j h;
  }

  pub refuse_form : {Y : Type 0} {C : Option Lexeme → Type 0} {Q : Y → Type 0} → Form {X = Y} C Q refuse
  refuse_form {C = C} {Q = Q} = record {
    later = later_refuse most C Q;
    settles = record { at = λ i y j lim h. absurd (cc) };
    consumes = λ i y j h. absurd (cc);
  }

  some_more : (n : ℕ) → 1 ≤ n → (m : ℕ) × (n ≡ suc m)
  some_more zero h = absurd (omega arith)
  some_more (suc m) h = (m, refl)

  pub loop_goal : {S X : Type 0} {E C : Option Lexeme → Type 0} {Q : X → Type 0} {Inv : S → Type 0} {body : S → Program K Ans (Turn S X)} {s : S} → 1 ≤ most → Turns most E C Q (λ s2. run most r sub (body s2)) Inv → Inv s → Goal E C Q (loop body s)
  loop_goal {E = E} {C = C} {Q = Q} {Inv = Inv} {body = body} {s = s} some t inv = let m = some_more most some in record {
    alive = alive_turns most E C Q (λ s2. run most r sub (body s2)) Inv t m.0 m.1 s inv;
    settles = settles_turns most E C Q (λ s2. run most r sub (body s2)) Inv t s inv;
    heads = λ i y j lim h. inr t.within;
  }

  pub weaken_goal : {X : Type 0} {D C : Option Lexeme → Type 0} {P Q : X → Type 0} {q : Program K Ans X} → Goal D C P q → ((x : X) → P x → Q x) → Goal D C Q q
  weaken_goal v w = record {
    alive = record {
      fin = let d = v.alive.fin in record { more = d.more; x = d.x; good = w d.x d.good; opens = d.opens; ends = d.ends };
      later = record {
        later = λ i e n lim h fa behind. let d = v.alive.later.later i e n lim h fa behind in record { front = d.front; j = d.j; is = d.is; len = d.len; more = d.more; x = d.x; good = w d.x d.good; ends = d.ends };
        safe = v.alive.later.safe;
      };
    };
    settles = record { at = λ i x j lim h. let d = v.settles.at i x j lim h in record { good = w x d.good; front = d.front; is = d.is; closes = d.closes } };
    heads = v.heads;
  }

  pub any_goal : {X : Type 0} {D C : Option Lexeme → Type 0} {Q : X → Type 0} {q : Program K Ans X} → Goal D C Q q → Goal AnyToken C Q q
  any_goal v = record {
    alive = record { fin = let d = v.alive.fin in record { more = d.more; x = d.x; good = d.good; opens = λ z cl. tt; ends = d.ends }; later = v.alive.later };
    settles = v.settles;
    heads = λ i y j lim h. inr (λ _ _. tt);
  }

  -- what is said of fewer tokens that follow
  pub narrow_goal : {X : Type 0} {D B C : Option Lexeme → Type 0} {Q : X → Type 0} {q : Program K Ans X} → Goal D B Q q → ((k : Option Lexeme) → C k → B k) → Goal D C Q q
  narrow_goal {D = D} {C = C} v w = record {
    alive = record {
      fin = let d = v.alive.fin in record { more = d.more; x = d.x; good = d.good; opens = λ z cl. d.opens z (w (lexeme_at z) cl); ends = λ z cl. d.ends z (w (lexeme_at z) cl) };
      later = record {
        later = λ i e n lim h fa behind. let d = v.alive.later.later i e n lim h fa behind in record { front = d.front; j = d.j; is = d.is; len = d.len; more = d.more; x = d.x; good = d.good; ends = λ z cl. d.ends z (w (lexeme_at z) cl) };
        safe = v.alive.later.safe;
      };
    };
    settles = record { at = λ i x j lim h. let d = v.settles.at i x j lim h in record { good = d.good; front = d.front; is = d.is; closes = λ z cl. d.closes z (w (lexeme_at z) cl) } };
    heads = λ i y j lim h. elim (v.heads i y j lim h) as (λ _. (length j < length i) ⊎ ((k : Option Lexeme) → C k → D k)) [ inl less ↦ inl less | inr u ↦ inr (λ k c. u k (w k c)) ];
  }

  pub narrow_form : {X : Type 0} {B C : Option Lexeme → Type 0} {Q : X → Type 0} {q : Program K Ans X} → Form B Q q → ((k : Option Lexeme) → C k → B k) → Form C Q q
  narrow_form v w = record {
    later = record {
      later = λ i e n lim h fa behind. let d = v.later.later i e n lim h fa behind in record { front = d.front; j = d.j; is = d.is; len = d.len; more = d.more; x = d.x; good = d.good; ends = λ z cl. d.ends z (w (lexeme_at z) cl) };
      safe = v.later.safe;
    };
    settles = record { at = λ i x j lim h. let d = v.settles.at i x j lim h in record { good = d.good; front = d.front; is = d.is; closes = λ z cl. d.closes z (w (lexeme_at z) cl) } };
    consumes = v.consumes;
  }

  pub weaken_form : {X : Type 0} {C : Option Lexeme → Type 0} {P Q : X → Type 0} {q : Program K Ans X} → Form C P q → ((x : X) → P x → Q x) → Form C Q q
  weaken_form v w = record {
    later = record {
      later = λ i e n lim h fa behind. let d = v.later.later i e n lim h fa behind in record { front = d.front; j = d.j; is = d.is; len = d.len; more = d.more; x = d.x; good = w d.x d.good; ends = d.ends };
      safe = v.later.safe;
    };
    settles = record { at = λ i x j lim h. let d = v.settles.at i x j lim h in record { good = w x d.good; front = d.front; is = d.is; closes = d.closes } };
    consumes = v.consumes;
  }

  -- more tokens may begin it
  pub wide_goal : {X : Type 0} {B D C : Option Lexeme → Type 0} {Q : X → Type 0} {q : Program K Ans X} → Goal B C Q q → ((k : Option Lexeme) → B k → D k) → Goal D C Q q
  wide_goal {D = D} {C = C} v w = record {
    alive = record { fin = let d = v.alive.fin in record { more = d.more; x = d.x; good = d.good; opens = λ z cl. w (lexeme_at (d.more ++ z)) (d.opens z cl); ends = d.ends }; later = v.alive.later };
    settles = v.settles;
    heads = λ i y j lim h. elim (v.heads i y j lim h) as (λ _. (length j < length i) ⊎ ((k : Option Lexeme) → C k → D k)) [ inl less ↦ inl less | inr u ↦ inr (λ k c. w k (u k c)) ];
  }
