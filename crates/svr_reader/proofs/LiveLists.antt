-- Lists: where a reading fails, what was read so far can be completed.
use Rattle.std.proofs.Common.{◌≡◌, ℕ, zero, suc, ◌<◌, ◌≤◌, true, false, List, [], ◌∷◌, ◌++◌, length, Option, Some, None, Ok, Err, cond, refl, sym, ◌∙◌, ap, subst, arith}
use Rattle.svr_token.specs.declared.Lexeme.{Lexeme}
use Rattle.svr_token.specs.declared.Mark.TheVariants as m
use Rattle.svr_tree.specs.Tokens.{Tok, Any, FitEach}
use Rattle.svr_reader.specs.Outcomes.{Stop, Stuck, Turn, go, done, Parser, lexeme_at, turned, turns}
use Rattle.svr_reader.specs.declared.fixed.Fixed.{Fixed}
use Rattle.svr_reader.specs.declared.fixed.Fixed.TheVariants as f
use Rattle.svr_reader.specs.Program.{Program, pure, bind, take, loop, run, eat}
use Rattle.svr_reader.specs.Steps.{fixed_lexeme, is_fixed, sees}
use Rattle.svr_reader.specs.Lists.{WithHeight, with_last, list_step, listing_on, listing, until_step, until}
use Rattle.svr_reader.proofs.Steps.{bind_ok, bind_is, turn_ok, when, Saw, eat_ok, eat_never, eats, eat_not, led_yes}
use Rattle.svr_reader.proofs.Local.{IsLocal, local_run, local_turns}
use Rattle.svr_reader.proofs.Live.{AnyToken, Finishes, Alive, Settled, bind_err, finishes_bind, later_bind, settled_behind, settled_here, ok_stays, ok_shorter}
use Rattle.svr_reader.proofs.LiveLoops.{Then, Done, Goes, Turns}
use Rattle.svr_reader.proofs.Goals.{Goal, Form, goal_of, pure_goal, then_form, loop_goal}
use Rattle.svr_reader.proofs.Led.{AnyAnswer, tok, led_form, turns_of}
use Rattle.svr_reader.proofs.Layers.{Low}

module _ {K : Type 0} {Ans : K → Type 0} (most r : ℕ) (sub : (k : K) → Parser (Ans k)) (ls : (k : K) → IsLocal (sub k)) (some : 1 ≤ most) where
  abbrev R : {X : Type 0} → Program K Ans X → Parser X
  R p = run most r sub p

  abbrev G : {X : Type 0} → (D C : Option Lexeme → Type 0) → (X → Type 0) → Program K Ans X → Type 0
  G D C Q q = Goal most r sub ls D C Q q

  abbrev F : {X : Type 0} → (C : Option Lexeme → Type 0) → (X → Type 0) → Program K Ans X → Type 0
  F C Q q = Form most r sub ls C Q q

  abbrev comma : Fixed
  comma = f.Mark m.Comma

  -- ---- x { "," x }: what follows the list, of C, is no comma

  module _ {X : Type 0} (b : ℕ) (D C : Option Lexeme → Type 0) (within : (q : Option Lexeme) → C q → D q) (apart : (q : Option Lexeme) → C q → is_fixed comma q ≡ false) (p : Program K Ans (WithHeight X)) (v : F D (Low b) p) where
    abbrev Lists : Type 0
    Lists = WithHeight (List X)

    abbrev tail : Lists → WithHeight X → Program K Ans (Turn Lists Lists)
    tail s x = bind (eat comma) (λ more. pure (cond more (go (with_last s x)) (done (with_last s x))))

    abbrev step : Lists → Parser (Turn Lists Lists)
    step s = R (list_step p s)

    abbrev Ends : Turn Lists Lists → Type 0
    Ends = Then most AnyToken C (Low b) step (Low b)

    abbrev Ended : Turn Lists Lists → Type 0
    Ended = Done most AnyToken C (Low b) step (Low b)

    tail_never : (s : Lists) (x : WithHeight X) (i : List Tok) (e : Stop) → R (tail s x) i ≡ Err e → ⊥
    tail_never s x i e h = bind_err (R (eat comma) i) _ e h (λ g. eat_never most r sub comma i e g) (λ more j is g. absurd (cc))

    tail_end : (s : Lists) (x : WithHeight X) (z : List Tok) → sees comma z ≡ false → R (tail s x) z ≡ Ok (done (with_last s x), z)
    tail_end s x z h = bind_is (R (eat comma) z) _ false z _ (eat_not most r sub comma z h) refl

    tail_fin : (P : Turn Lists Lists → Type 0) (s : Lists) (x : WithHeight X) → P (done (with_last s x)) → Finishes D C P (R (tail s x))
    tail_fin P s x g = record { more = []; x = done (with_last s x); good = g; opens = λ z cl. within (lexeme_at z) cl; ends = λ z cl. tail_end s x z (apart (lexeme_at z) cl) }

    tail_alive : (s : Lists) (x : WithHeight X) → Low b s → Low b x → Alive most D C Ends (R (tail s x))
    tail_alive s x a e = record {
      fin = tail_fin Ends s x (omega (arith, a, e));
      later = record { later = λ i g n lim h. absurd (tail_never s x i g h); safe = λ i lim h. tail_never s x i Stuck h };
    }

    tail_go : (s : Lists) (x : WithHeight X) (mid j : List Tok) → FitEach mid (Any (fixed_lexeme comma) ∷ []) j → Settled AnyToken AnyAnswer (R (tail s x)) mid (go (with_last s x)) j
    tail_go s x [] j h = absurd h
    tail_go s x (t ∷ i) j h = record { good = tt; front = t ∷ []; is = ap (λ z. t ∷ z) h.1; closes = λ z _. bind_is (R (eat comma) (t ∷ z)) _ true z _ (eats most r sub comma (t ∷ z) z (h.0, refl)) refl }

    one_less : (mid j : List Tok) → FitEach mid (Any (fixed_lexeme comma) ∷ []) j → length j < length mid
    one_less [] j h = absurd h
    one_less (t ∷ i) j h = omega (arith, ap length h.1)

    one_local : IsLocal (R p)
    one_local = local_run most r sub ls p

    list_goes : (s : Lists) (i : List Tok) (s2 : Lists) (j : List Tok) → Low b s → length i < most → step s i ≡ Ok (go s2, j) → Goes most AnyToken C (Low b) step (Low b) i s s2 j
    unfolding list_step
    list_goes s i s2 j inv lim h = bind_ok (R p i) _ (go s2, j) h (λ x mid e g. bind_ok (R (eat comma) mid) _ (go s2, j) g (λ more j2 e2 g2.
        let d = v.settles.at i x mid lim e in
        let both : ◌≡◌ {A = Turn Lists Lists × List Tok} (cond more (go (with_last s x)) (done (with_last s x)), j2) (go s2, j) = cc in
        when more (go (with_last s x)) (done (with_last s x)) (go s2) (ap (λ z. z.0) both)
        (λ w is.
        let eaten : FitEach mid (Any (fixed_lexeme comma) ∷ []) j = subst (λ z. FitEach mid (Any (fixed_lexeme comma) ∷ []) z) (ap (λ z. z.1) both) (subst (λ t. Saw comma mid t j2) w (eat_ok most r sub comma mid (more, j2) e2)) in
        let same : with_last s x ≡ s2 = cc in
        let less = one_less mid j eaten in
        let less2 = ok_shorter (R p) one_local i x mid e in
        subst (λ z. Goes most AnyToken C (Low b) step (Low b) i s z j) same (record {
          inv = omega (arith, inv, d.good);
          settled = settled_behind most D AnyToken (Low b) AnyAnswer (R p) (λ y. R (tail s y)) i mid x (go (with_last s x)) j (ok_stays (R p) one_local i x mid e) less (tail_go s x mid j eaten);
          less = omega (arith, less, less2);
        }))
        (λ w is. absurd (cc))))

    list_ends : (s : Lists) (i : List Tok) (a : Lists) (j : List Tok) → Low b s → length i < most → step s i ≡ Ok (done a, j) → Settled C Ended (step s) i (done a) j
    unfolding list_step
    list_ends s i a j inv lim h = bind_ok (R p i) _ (done a, j) h (λ x mid e g. bind_ok (R (eat comma) mid) _ (done a, j) g (λ more j2 e2 g2.
        let d = v.settles.at i x mid lim e in
        let both : ◌≡◌ {A = Turn Lists Lists × List Tok} (cond more (go (with_last s x)) (done (with_last s x)), j2) (done a, j) = cc in
        when more (go (with_last s x)) (done (with_last s x)) (done a) (ap (λ z. z.0) both)
        (λ w is. absurd (cc))
        (λ w is.
        let none = subst (λ t. Saw comma mid t j2) w (eat_ok most r sub comma mid (more, j2) e2) in
        let same : with_last s x ≡ a = cc in
        let at : mid ≡ j = sym none.0 ∙ ap (λ z. z.1) both in
        subst (λ z. Settled C Ended (step s) i (done z) j) same
        (subst (λ z. Settled C Ended (step s) i (done (with_last s x)) z) at
        (settled_here most D C (Low b) Ended (R p) (λ y. R (tail s y)) i mid x (done (with_last s x)) mid d (omega arith) within
        (record { good = omega (arith, inv, d.good); front = []; is = refl; closes = λ z cl. tail_end s x z (apart (lexeme_at z) cl) }))))))

    list_turns : Finishes AnyToken D (Low b) (R p) → Turns most AnyToken C (Low b) step (Low b)
    unfolding list_step
    list_turns d = record {
      local = λ s. local_run most r sub ls (list_step p s);
      fin = λ s inv. finishes_bind most AnyToken D C (Low b) Ended (R p) (λ x. R (tail s x)) one_local (λ x. local_run most r sub ls (tail s x)) d (tail_fin Ended s d.x (omega (arith, inv, d.good)));
      later = λ s inv. later_bind most AnyToken D C (Low b) Ends (R p) (λ x. R (tail s x)) one_local (λ x. local_run most r sub ls (tail s x)) v.settles v.later (λ x g. tail_alive s x inv g);
      goes = list_goes;
      ends = list_ends;
      within = λ q h. tt;
    }

    local_list : (n : ℕ) (s : Lists) → IsLocal (turns n step s)
    local_list n s = local_turns n step (λ s2. local_run most r sub ls (list_step p s2)) s

    -- the list takes a token, since its first element does
    first_consumes : (s : Lists) (i : List Tok) (u : Turn Lists Lists) (mid : List Tok) → step s i ≡ Ok (u, mid) → length mid < length i
    unfolding list_step
    first_consumes s i u mid e = bind_ok (R p i) _ (u, mid) e (λ x z e2 g. let less = v.consumes i x z e2 in let less2 = ok_shorter (R (tail s x)) (local_run most r sub ls (tail s x)) z u mid g in omega (arith, less, less2))

    list_consumes : (n : ℕ) (s : Lists) (i : List Tok) (y : Lists) (j : List Tok) → turns n step s i ≡ Ok (y, j) → length j < length i
    list_consumes zero s i y j h = absurd (cc)
    list_consumes (suc n) s i y j h = turn_ok (step s i) (turns n step) (y, j) h
        (λ s2 mid e g. let less = first_consumes s i (go s2) mid e in let less2 = ok_shorter (turns n step s2) (local_list n s2) mid y j g in omega (arith, less, less2))
        (λ a mid e g. let less = first_consumes s i (done a) mid e in let both : ◌≡◌ {A = Lists × List Tok} (a, mid) (y, j) = cc in omega (arith, less, ap (λ z. length z.1) both))

    one_turn : (n : ℕ) → 1 ≤ n → (s a : Lists) (i z : List Tok) → step s i ≡ Ok (done a, z) → turns n step s i ≡ Ok (a, z)
    one_turn zero h s a i z e = absurd (omega arith)
    one_turn (suc n) h s a i z e = bind_is (step s i) (turned (turns n step)) (done a) z _ e refl

    list_finish : {E : Option Lexeme → Type 0} → Finishes E D (Low b) (R p) → (s : Lists) → Low b s → Finishes E C (Low b) (turns most step s)
    unfolding list_step
    list_finish d s inv = record {
      more = d.more;
      x = with_last s d.x;
      good = omega (arith, inv, d.good);
      opens = λ z cl. d.opens z (within (lexeme_at z) cl);
      ends = λ z cl. one_turn most some s (with_last s d.x) (d.more ++ z) z (bind_is (R p (d.more ++ z)) _ d.x z _ (d.ends z (within (lexeme_at z) cl)) (tail_end s d.x z (apart (lexeme_at z) cl)));
    }

    pub listing_on_form : {E : Option Lexeme → Type 0} → Finishes E D (Low b) (R p) → (s : Lists) → Low b s → F C (Low b) (listing_on p s)
    unfolding listing_on
    listing_on_form d s inv =
        let t = loop_goal most r sub ls {body = list_step p} {s = s} some (list_turns (record { more = d.more; x = d.x; good = d.good; opens = λ z cl. tt; ends = d.ends })) inv in
        record { later = t.alive.later; settles = t.settles; consumes = λ i y j h. list_consumes most s i y j h }

    pub listing_on_goal : {E : Option Lexeme → Type 0} → Finishes E D (Low b) (R p) → (s : Lists) → Low b s → G E C (Low b) (listing_on p s)
    unfolding listing_on
    listing_on_goal d s inv = goal_of most r sub ls (listing_on_form d s inv) (list_finish d s inv)

    pub listing_form : {E : Option Lexeme → Type 0} → Finishes E D (Low b) (R p) → F C (Low b) (listing p)
    unfolding listing
    listing_form d = listing_on_form d ([], 0) (omega arith)

    pub listing_goal : {E : Option Lexeme → Type 0} → Finishes E D (Low b) (R p) → G E C (Low b) (listing p)
    unfolding listing
    listing_goal d = listing_on_goal d ([], 0) (omega arith)

  -- ---- { x } and the word or mark k that ends them, which may follow an element

  module _ {X : Type 0} (b : ℕ) (D : Option Lexeme → Type 0) (k : Fixed) (dk : D (Some (fixed_lexeme k))) (p : Program K Ans (WithHeight X)) (v : F D (Low b) p) where
    abbrev UntilEnds : Turn (WithHeight (List X)) (WithHeight (List X)) → Type 0
    UntilEnds = Then most D D (Low b) (λ s. R (until_step k p s)) (Low b)

    abbrev one_more : WithHeight (List X) → Program K Ans (Turn (WithHeight (List X)) (WithHeight (List X)))
    one_more s = bind p (λ x. pure (go (with_last s x)))

    goes_form : (s : WithHeight (List X)) → Low b s → F D UntilEnds (one_more s)
    goes_form s inv = then_form most r sub ls v (λ x g. let low : Low b (with_last s x) = omega (arith, inv, g) in
        pure_goal most r sub ls {Q = UntilEnds} {x = go (with_last s x)} (low, λ _ h. h) (λ _ h. h))

    step_form : (s : WithHeight (List X)) → Low b s → F D UntilEnds (until_step k p s)
    unfolding until_step
    step_form s inv = led_form most r sub ls k (pure (done s)) (one_more s) D UntilEnds (pure_goal most r sub ls {Q = UntilEnds} {x = done s} inv (λ _ _. tt)) (goes_form s inv)

    step_ends : (s : WithHeight (List X)) (z : List Tok) → R (until_step k p s) (tok (fixed_lexeme k) ∷ z) ≡ Ok (done s, z)
    unfolding until_step
    step_ends s z = led_yes most r sub k (pure (done s)) (one_more s) (tok (fixed_lexeme k)) z refl

    -- behind elements that were read
    pub until_on_goal : (s : WithHeight (List X)) → Low b s → G D D (Low b) (loop (until_step k p) s)
    until_on_goal s low = loop_goal most r sub ls some
        (turns_of most r sub ls D (Low b) (Low b) (until_step k p) step_form (λ s inv. record { more = tok (fixed_lexeme k) ∷ []; x = done s; good = inv; opens = λ z cl. dk; ends = λ z cl. step_ends s z }))
        low

    pub until_goal : G D D (Low b) (until k p)
    unfolding until
    until_goal = until_on_goal ([], 0) (omega arith)
