-- Loops whose turns each take a token, and `{ x }` up to a word or mark: where a turn fails, what was read so far can be completed. Any token may follow such a loop.
use Rattle.std.proofs.Common.{◌≡◌, ℕ, zero, suc, ◌<◌, ◌≤◌, List, [], ◌∷◌, ◌++◌, length, Option, Some, Ok, Err, inl, refl, sym, ◌∙◌, ap, subst, arith}
use Rattle.svr_token.specs.declared.Lexeme.{Lexeme}
use Rattle.svr_tree.specs.Tokens.{Tok}
use Rattle.svr_reader.specs.Outcomes.{Stop, Stuck, Turn, go, done, Outcome, Parser, lexeme_at, turned, turns}
use Rattle.svr_reader.specs.declared.fixed.Fixed.{Fixed}
use Rattle.svr_reader.specs.Program.{Program, pure, bind, loop, run}
use Rattle.svr_reader.specs.Steps.{fixed_lexeme, is_fixed}
use Rattle.svr_reader.specs.Lists.{WithHeight, with_last, until_step, until}
use Rattle.svr_reader.proofs.Steps.{bind_ok, bind_is, turn_ok, led_yes, led_no, led_cases}
use Rattle.svr_reader.proofs.Local.{IsLocal, local_run, local_turns}
use Rattle.svr_reader.proofs.Live.{AnyToken, FaultsAt, Completes, Later, Finishes, Alive, Settled, Settles, bind_err, split, ok_stays, fault_within, later_in, later_at, later_behind, settled_behind, same_front}
use Rattle.svr_reader.proofs.Goals.{Goal, Form, then_form, pure_goal, narrow_form, wide_goal}
use Rattle.svr_reader.proofs.Led.{AnyAnswer, tok}
use Rattle.svr_reader.proofs.Layers.{Low}

-- `Inv` holds of the state where a turn begins; what follows a turn that goes on begins with one of E, what follows the loop with one of C
module _ {S A : Type 0} (most : ℕ) (E C : Option Lexeme → Type 0) (Q : A → Type 0) (step : S → Parser (Turn S A)) (Inv : S → Type 0) where
  abbrev pub Went : Turn S A → Type 0
  Went (go s) = Inv s
  Went (done a) = ⊥

  abbrev pub Ended : Turn S A → Type 0
  Ended (go s) = ⊥
  Ended (done a) = Q a

  pub record Onward (i : List Tok) (s s2 : S) (j : List Tok) : Type 0 where
    pub inv : Inv s2
    pub settled : Settled E AnyAnswer (step s) i (go s2) j
    pub less : length j < length i

  pub record AtEnd (i : List Tok) (s : S) (a : A) (j : List Tok) : Type 0 where
    pub settled : Settled C Ended (step s) i (done a) j
    pub less : length j < length i

  -- what is to be shown of one turn
  pub record Takings : Type 0 where
    pub local : (s : S) → IsLocal (step s)
    pub fin : (s : S) → Inv s → Finishes E C Ended (step s)
    pub later : (s : S) → Inv s → Later most E Went (step s)
    pub goes : (s : S) (i : List Tok) (s2 : S) (j : List Tok) → Inv s → length i < most → step s i ≡ Ok (go s2, j) → Onward i s s2 j
    pub ends : (s : S) (i : List Tok) (a : A) (j : List Tok) → Inv s → length i < most → step s i ≡ Ok (done a, j) → AtEnd i s a j

  module _ (t : Takings) where
    fin_end : (n : ℕ) (s : S) (more : List Tok) (v : Turn S A) → Ended v → ((z : List Tok) → C (lexeme_at z) → E (lexeme_at (more ++ z))) → ((z : List Tok) → C (lexeme_at z) → step s (more ++ z) ≡ Ok (v, z)) → Finishes E C Q (turns (suc n) step s)
    fin_end n s more (go s2) d o e = absurd d
    fin_end n s more (done a) d o e = record { more = more; x = a; good = d; opens = o; ends = λ z cl. bind_is (step s (more ++ z)) (turned (turns n step)) (done a) z _ (e z cl) refl }

    fin_turns : (n : ℕ) (s : S) → Inv s → Finishes E C Q (turns (suc n) step s)
    fin_turns n s inv = let d = t.fin s inv in fin_end n s d.more d.x d.good d.opens d.ends

    fin_went : (n : ℕ) (v : Turn S A) → Went v → Finishes E C Q (turned (turns (suc n) step) v)
    fin_went n (done a) q = absurd q
    fin_went n (go s) q = let d = fin_turns n s q in record { more = d.more; x = d.x; good = d.good; opens = d.opens; ends = d.ends }

    turned_local : (n : ℕ) (v : Turn S A) → IsLocal (turned (turns n step) v)
    turned_local n (go s) = local_turns n step t.local s
    turned_local n (done a) = record { at = λ i. record { front = []; is = refl; stays = λ k h. refl } }

    turn_err : {G : Type 0} (n : ℕ) (v : Turn S A) (j : List Tok) (e : Stop) → turned (turns n step) v j ≡ Err e → ((s2 : S) → v ≡ go s2 → turns n step s2 j ≡ Err e → G) → G
    turn_err n (go s) j e h g = g s refl h
    turn_err n (done a) j e h g = absurd (cc)

    later_turns : (n : ℕ) (s : S) → Inv s → (i : List Tok) (e : Stop) (k : ℕ) → length i < suc n → length i < most → turns (suc n) step s i ≡ Err e → FaultsAt e k → k < length i → Completes C Q (turns (suc n) step s) i k
    later_turns zero s inv i e k few lim h fa behind = absurd (omega arith)
    later_turns (suc n) s inv i e k few lim h fa behind = bind_err (step s i) (turned (turns (suc n) step)) e h
        (λ fails. let d = (t.later s inv).later i e k lim fails fa behind in
        later_in most E E C Went Q (step s) (turned (turns (suc n) step)) (t.local s) (turned_local (suc n)) i k d (fin_went n d.x d.good))
        (λ v j is g. turn_err (suc n) v j e g (λ s2 e2 g2.
        let is2 : step s i ≡ Ok (go s2, j) = is ∙ ap (λ z. Ok (z, j)) e2 in
        let u = t.goes s i s2 j inv lim is2 in
        let inside = fault_within (turns (suc n) step s2) (local_turns (suc n) step t.local s2) j e k g2 fa in
        split k (length j)
        (λ lt. later_behind most E E C Went Q (step s) (turned (turns (suc n) step)) (t.local s) (turned_local (suc n)) i k (go s2) j (ok_stays (step s) (t.local s) i (go s2) j is2) lt
        (later_turns n s2 u.inv j e k (omega (arith, few, u.less)) (omega (arith, lim, u.less)) g2 fa lt))
        (λ le. later_at most E E C AnyAnswer Q (step s) (turned (turns (suc n) step)) (t.local s) (turned_local (suc n)) i k (go s2) j u.settled (omega (arith, le, inside)) (fin_turns n s2 u.inv))))

    safe_turns : (n : ℕ) (s : S) → Inv s → (i : List Tok) → length i < suc n → length i < most → turns (suc n) step s i ≡ Err Stuck → ⊥
    safe_turns zero s inv i few lim h = bind_err (step s i) (turned (turns zero step)) Stuck h
        (λ fails. (t.later s inv).safe i lim fails)
        (λ v j is g. turn_err zero v j Stuck g (λ s2 e2 g2. let u = t.goes s i s2 j inv lim (is ∙ ap (λ z. Ok (z, j)) e2) in omega (arith, few, u.less)))
    safe_turns (suc n) s inv i few lim h = bind_err (step s i) (turned (turns (suc n) step)) Stuck h
        (λ fails. (t.later s inv).safe i lim fails)
        (λ v j is g. turn_err (suc n) v j Stuck g (λ s2 e2 g2. let u = t.goes s i s2 j inv lim (is ∙ ap (λ z. Ok (z, j)) e2) in
        safe_turns n s2 u.inv j (omega (arith, few, u.less)) (omega (arith, lim, u.less)) g2))

    -- the loop takes a token, since its last turn does
    turns_less : (n : ℕ) (s : S) → Inv s → (i : List Tok) (y : A) (j : List Tok) → length i < most → turns n step s i ≡ Ok (y, j) → length j < length i
    turns_less zero s inv i y j lim h = absurd (cc)
    turns_less (suc n) s inv i y j lim h = turn_ok (step s i) (turns n step) (y, j) h
        (λ s2 mid e g. let u = t.goes s i s2 mid inv lim e in let less = turns_less n s2 u.inv mid y j (omega (arith, lim, u.less)) g in omega (arith, less, u.less))
        (λ a mid e g. let u = t.ends s i a mid inv lim e in let both : ◌≡◌ {A = A × List Tok} (a, mid) (y, j) = cc in omega (arith, u.less, ap (λ z. length z.1) both))

    settled_end : (n : ℕ) (s : S) (i : List Tok) (a : A) (j : List Tok) → Settled C Ended (step s) i (done a) j → Settled C Q (turns (suc n) step s) i a j
    settled_end n s i a j d = record { good = d.good; front = d.front; is = d.is; closes = λ k cl. bind_is (step s (d.front ++ k)) (turned (turns n step)) (done a) k _ (d.closes k cl) refl }

    settled_turns : (n : ℕ) (s : S) → Inv s → (i : List Tok) (y : A) (j2 : List Tok) → length i < most → turns n step s i ≡ Ok (y, j2) → Settled C Q (turns n step s) i y j2
    settled_turns zero s inv i y j2 lim h = absurd (cc)
    settled_turns (suc n) s inv i y j2 lim h = turn_ok (step s i) (turns n step) (y, j2) h
        (λ s2 j e g.
        let u = t.goes s i s2 j inv lim e in
        let few : length j < most = omega (arith, lim, u.less) in
        settled_behind most E C AnyAnswer Q (step s) (turned (turns n step)) i j (go s2) y j2 (ok_stays (step s) (t.local s) i (go s2) j e) (turns_less n s2 u.inv j y j2 few g) (settled_turns n s2 u.inv j y j2 few g))
        (λ a j e g. let both : ◌≡◌ {A = A × List Tok} (a, j) (y, j2) = cc in subst (λ z. Settled C Q (turns (suc n) step s) i z.0 z.1) both (settled_end n s i a j (t.ends s i a j inv lim e).settled))

    alive_takings : (n : ℕ) → most ≡ suc n → (s : S) → Inv s → Alive most E C Q (turns most step s)
    alive_takings n is s inv = subst (λ z. Alive most E C Q (turns z step s)) (sym is) (record {
      fin = fin_turns n s inv;
      later = record { later = λ i e k lim h fa behind. later_turns n s inv i e k (omega (arith, lim, is)) lim h fa behind; safe = λ i lim h. safe_turns n s inv i (omega (arith, lim, is)) lim h };
    })

    some_more : (n : ℕ) → 1 ≤ n → (m : ℕ) × (n ≡ suc m)
    some_more zero h = absurd (omega arith)
    some_more (suc m) h = (m, refl)

    -- all turns of such a loop
    pub alive_loop : 1 ≤ most → (s : S) → Inv s → Alive most E C Q (turns most step s)
    alive_loop some s inv = let m = some_more most some in alive_takings m.0 m.1 s inv

    pub settles_loop : (s : S) → Inv s → Settles most C Q (turns most step s)
    settles_loop s inv = record { at = λ i y j lim h. settled_turns most s inv i y j lim h }

    pub loop_less : (s : S) → Inv s → (i : List Tok) (y : A) (j : List Tok) → length i < most → turns most step s i ≡ Ok (y, j) → length j < length i
    loop_less s inv i y j lim h = turns_less most s inv i y j lim h

-- ---- { x } and the word or mark k that ends them

module _ {K : Type 0} {Ans : K → Type 0} (most r : ℕ) (sub : (k : K) → Parser (Ans k)) (ls : (k : K) → IsLocal (sub k)) (some : 1 ≤ most)
    {X : Type 0} (b : ℕ) (D : Option Lexeme → Type 0) (k : Fixed) (dk : D (Some (fixed_lexeme k))) (p : Program K Ans (WithHeight X)) (v : Form most r sub ls D (Low b) p) where
  abbrev R : {A : Type 0} → Program K Ans A → Parser A
  R q = run most r sub q

  abbrev Lists : Type 0
  Lists = WithHeight (List X)

  abbrev step : Lists → Parser (Turn Lists Lists)
  step s = R (until_step k p s)

  -- what may follow an element: here the end
  abbrev Closing : Option Lexeme → Type 0
  Closing q = q ≡ Some (fixed_lexeme k)

  abbrev one_more : Lists → Program K Ans (Turn Lists Lists)
  one_more s = bind p (λ x. pure (go (with_last s x)))

  abbrev last : Lists → Program K Ans (Turn Lists Lists)
  last s = pure (done s)

  abbrev On : Turn Lists Lists → Type 0
  On = Went most Closing AnyToken (Low b) step (Low b)

  abbrev Over : Turn Lists Lists → Type 0
  Over = Ended most Closing AnyToken (Low b) step (Low b)

  element_form : (s : Lists) → Low b s → Form most r sub ls Closing On (one_more s)
  element_form s inv = then_form most r sub ls (narrow_form most r sub ls v (λ q is. subst D (sym is) dk)) (λ x g. let low : Low b (with_last s x) = omega (arith, inv, g) in
      pure_goal most r sub ls {Q = On} {x = go (with_last s x)} low (λ _ h. h))

  step_local : (s : Lists) → IsLocal (step s)
  step_local s = local_run most r sub ls (until_step k p s)

  not_ended : (s s2 : Lists) (i j : List Tok) → ◌≡◌ {A = Outcome (Turn Lists Lists)} (Ok (done s, i)) (Ok (go s2, j)) → ⊥
  not_ended s s2 i j h = let both : ◌≡◌ {A = Turn Lists Lists × List Tok} (done s, i) (go s2, j) = cc in let first : ◌≡◌ {A = Turn Lists Lists} (done s) (go s2) = ap (λ z. z.0) both in absurd (cc)

  not_going : (s a : Lists) (i j : List Tok) → ◌≡◌ {A = Outcome (Turn Lists Lists)} (Ok (go s, i)) (Ok (done a, j)) → ⊥
  not_going s a i j h = let both : ◌≡◌ {A = Turn Lists Lists × List Tok} (go s, i) (done a, j) = cc in let first : ◌≡◌ {A = Turn Lists Lists} (go s) (done a) = ap (λ z. z.0) both in absurd (cc)

  step_fin : (s : Lists) → Low b s → Finishes Closing AnyToken Over (step s)
  unfolding until_step
  step_fin s inv = record { more = tok (fixed_lexeme k) ∷ []; x = done s; good = inv; opens = λ z cl. refl; ends = λ z cl. led_yes most r sub k (last s) (one_more s) (tok (fixed_lexeme k)) z refl }

  step_later : (s : Lists) → Low b s → Later most Closing On (step s)
  unfolding until_step
  step_later s inv = record {
    later = λ i e n lim h fa behind. led_cases most r sub k (last s) (one_more s) i (Err e) h
        (λ t z is w g. absurd (cc))
        (λ w g. let d = (element_form s inv).later.later i e n lim g fa behind in record {
          front = d.front;
          j = d.j;
          is = d.is;
          len = d.len;
          more = d.more;
          x = d.x;
          good = d.good;
          ends = λ z cl. led_no most r sub k (last s) (one_more s) (d.front ++ (d.more ++ z)) (ap (is_fixed k) (same_front most D D (Low {X = X} b) i d.front d.j (d.more ++ z) d.is (omega (arith, behind, d.len))) ∙ w) ∙ d.ends z cl;
        });
    safe = λ i lim h. led_cases most r sub k (last s) (one_more s) i (Err Stuck) h (λ t z is w g. absurd (cc)) (λ w g. (element_form s inv).later.safe i lim g);
  }

  step_goes : (s : Lists) (i : List Tok) (s2 : Lists) (j : List Tok) → Low b s → length i < most → step s i ≡ Ok (go s2, j) → Onward most Closing AnyToken (Low b) step (Low b) i s s2 j
  unfolding until_step
  step_goes s i s2 j inv lim h = led_cases most r sub k (last s) (one_more s) i (Ok (go s2, j)) h
      (λ t z is w g. absurd (not_ended s s2 z j g))
      (λ w g. let f = element_form s inv in let d = f.settles.at i (go s2) j lim g in let less = f.consumes i (go s2) j g in record {
        inv = d.good;
        settled = record { good = tt; front = d.front; is = d.is; closes = λ z cl. led_no most r sub k (last s) (one_more s) (d.front ++ z) (ap (is_fixed k) (same_front most D D (Low {X = X} b) i d.front j z d.is less) ∙ w) ∙ d.closes z cl };
        less = less;
      })

  step_ends : (s : Lists) (i : List Tok) (a : Lists) (j : List Tok) → Low b s → length i < most → step s i ≡ Ok (done a, j) → AtEnd most Closing AnyToken (Low b) step (Low b) i s a j
  unfolding until_step
  step_ends s i a j inv lim h = led_cases most r sub k (last s) (one_more s) i (Ok (done a, j)) h
      (λ t z is w g.
      let both : ◌≡◌ {A = Turn Lists Lists × List Tok} (done s, z) (done a, j) = cc in
      let first : ◌≡◌ {A = Turn Lists Lists} (done s) (done a) = ap (λ q. q.0) both in
      let same : s ≡ a = cc in
      let at : z ≡ j = ap (λ q. q.1) both in
      record {
        settled = record {
          good = subst (Low b) same inv;
          front = t ∷ [];
          is = is ∙ ap (λ q. t ∷ q) at;
          closes = λ y cl. led_yes most r sub k (last s) (one_more s) t y w ∙ ap (λ q. Ok (done q, y)) same;
        };
        less = omega (arith, ap length is, ap length at);
      })
      (λ w g. bind_ok (R p i) _ (done a, j) g (λ x mid e g2. absurd (not_going (with_last s x) a mid j g2)))

  step_takes : Takings most Closing AnyToken (Low b) step (Low b)
  step_takes = record { local = step_local; fin = step_fin; later = step_later; goes = step_goes; ends = step_ends }

  until_closing : (s : Lists) → Low b s → Goal most r sub ls Closing AnyToken (Low b) (loop (until_step k p) s)
  until_closing s inv = record {
    alive = alive_loop most Closing AnyToken (Low b) step (Low b) step_takes some s inv;
    settles = settles_loop most Closing AnyToken (Low b) step (Low b) step_takes s inv;
    heads = λ i y j lim h. inl (loop_less most Closing AnyToken (Low b) step (Low b) step_takes s inv i y j lim h);
  }

  -- elements and the end of them can be completed by that end, and any token may follow
  pub until_any_goal : {D0 : Option Lexeme → Type 0} → D0 (Some (fixed_lexeme k)) → Goal most r sub ls D0 AnyToken (Low b) (until k p)
  unfolding until
  until_any_goal {D0 = D0} d = wide_goal most r sub ls (until_closing ([], 0) (omega arith)) (λ q is. subst D0 (sym is) d)
