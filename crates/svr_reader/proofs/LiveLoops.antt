-- Loops: where a turn fails, what was read so far can be completed.
use Rattle.std.proofs.Common.{◌≡◌, ℕ, zero, suc, ◌<◌, List, [], ◌++◌, length, Option, Ok, Err, refl, sym, ◌∙◌, ap, subst, arith}
use Rattle.svr_token.specs.declared.Lexeme.{Lexeme}
use Rattle.svr_tree.specs.Tokens.{Tok}
use Rattle.svr_reader.specs.Outcomes.{Stop, Stuck, Turn, go, done, Parser, lexeme_at, turned, turns}
use Rattle.svr_reader.proofs.Steps.{bind_is, turn_ok}
use Rattle.svr_reader.proofs.Local.{IsLocal, local_turns}
use Rattle.svr_reader.proofs.Live.{FaultsAt, Completes, Later, Finishes, Alive, Settled, Settles, bind_err, split, ok_stays, fault_within, later_in, later_at, later_behind, settled_behind, settled_here}

-- `Inv` holds of the state where a turn begins; what follows a turn that goes on begins with one of E, what follows the loop with one of C
module _ {S A : Type 0} (most : ℕ) (E C : Option Lexeme → Type 0) (Q : A → Type 0) (step : S → Parser (Turn S A)) (Inv : S → Type 0) where
  -- how a turn may end that is completed after a fault
  abbrev pub Then : Turn S A → Type 0
  Then (done a) = Q a
  Then (go s) = Inv s × ((k : Option Lexeme) → E k → C k)

  abbrev pub Done : Turn S A → Type 0
  Done (done a) = Q a
  Done (go s) = ⊥

  pub record Goes (i : List Tok) (s s2 : S) (j : List Tok) : Type 0 where
    pub inv : Inv s2
    pub settled : Settled E (λ _. Unit {0}) (step s) i (go s2) j
    pub less : length j < length i

  -- what is to be shown of one turn
  pub record Turns : Type 0 where
    pub local : (s : S) → IsLocal (step s)
    pub fin : (s : S) → Inv s → Finishes E C Done (step s)
    pub later : (s : S) → Inv s → Later most C Then (step s)
    pub goes : (s : S) (i : List Tok) (s2 : S) (j : List Tok) → Inv s → length i < most → step s i ≡ Ok (go s2, j) → Goes i s s2 j
    pub ends : (s : S) (i : List Tok) (a : A) (j : List Tok) → Inv s → length i < most → step s i ≡ Ok (done a, j) → Settled C Done (step s) i (done a) j
    pub within : (k : Option Lexeme) → C k → E k

  module _ (t : Turns) where
    fin_done : (n : ℕ) (s : S) (more : List Tok) (v : Turn S A) → Done v → ((z : List Tok) → C (lexeme_at z) → E (lexeme_at (more ++ z))) → ((z : List Tok) → C (lexeme_at z) → step s (more ++ z) ≡ Ok (v, z)) → Finishes E C Q (turns (suc n) step s)
    fin_done n s more (go s2) d o e = absurd d
    fin_done n s more (done a) d o e = record { more = more; x = a; good = d; opens = o; ends = λ z cl. bind_is (step s (more ++ z)) (turned (turns n step)) (done a) z _ (e z cl) refl }

    fin_turns : (n : ℕ) (s : S) → Inv s → Finishes E C Q (turns (suc n) step s)
    fin_turns n s inv = let d = t.fin s inv in fin_done n s d.more d.x d.good d.opens d.ends

    fin_then : (n : ℕ) (v : Turn S A) → Then v → Finishes C C Q (turned (turns (suc n) step) v)
    fin_then n (done a) q = record { more = []; x = a; good = q; opens = λ z cl. cl; ends = λ z cl. refl }
    fin_then n (go s) q = let d = fin_turns n s q.0 in record { more = d.more; x = d.x; good = d.good; opens = λ z cl. q.1 (lexeme_at (d.more ++ z)) (d.opens z cl); ends = d.ends }

    turned_local : (n : ℕ) (v : Turn S A) → IsLocal (turned (turns n step) v)
    turned_local n (go s) = local_turns n step t.local s
    turned_local n (done a) = record { at = λ i. record { front = []; is = refl; stays = λ k h. refl } }

    turn_err : {G : Type 0} (n : ℕ) (v : Turn S A) (j : List Tok) (e : Stop) → turned (turns n step) v j ≡ Err e → ((s2 : S) → v ≡ go s2 → turns n step s2 j ≡ Err e → G) → G
    turn_err n (go s) j e h g = g s refl h
    turn_err n (done a) j e h g = absurd (cc)

    later_turns : (n : ℕ) (s : S) → Inv s → (i : List Tok) (e : Stop) (k : ℕ) → length i < suc n → length i < most → turns (suc n) step s i ≡ Err e → FaultsAt e k → k < length i → Completes C Q (turns (suc n) step s) i k
    later_turns zero s inv i e k few lim h fa behind = absurd (omega arith)
    later_turns (suc n) s inv i e k few lim h fa behind = bind_err (step s i) (turned (turns (suc n) step)) e h
        (λ fails. let d = (t.later s inv).later i e k lim fails fa behind in
        later_in most E C C Then Q (step s) (turned (turns (suc n) step)) (t.local s) (turned_local (suc n)) i k d (fin_then n d.x d.good))
        (λ v j is g. turn_err (suc n) v j e g (λ s2 e2 g2.
        let is2 : step s i ≡ Ok (go s2, j) = is ∙ ap (λ z. Ok (z, j)) e2 in
        let u = t.goes s i s2 j inv lim is2 in
        let inside = fault_within (turns (suc n) step s2) (local_turns (suc n) step t.local s2) j e k g2 fa in
        split k (length j)
        (λ lt. later_behind most E C C Then Q (step s) (turned (turns (suc n) step)) (t.local s) (turned_local (suc n)) i k (go s2) j (ok_stays (step s) (t.local s) i (go s2) j is2) lt
        (later_turns n s2 u.inv j e k (omega (arith, few, u.less)) (omega (arith, lim, u.less)) g2 fa lt))
        (λ le. later_at most E E C (λ _. Unit {0}) Q (step s) (turned (turns (suc n) step)) (t.local s) (turned_local (suc n)) i k (go s2) j u.settled (omega (arith, le, inside)) (fin_turns n s2 u.inv))))

    safe_turns : (n : ℕ) (s : S) → Inv s → (i : List Tok) → length i < suc n → length i < most → turns (suc n) step s i ≡ Err Stuck → ⊥
    safe_turns zero s inv i few lim h = bind_err (step s i) (turned (turns zero step)) Stuck h
        (λ fails. (t.later s inv).safe i lim fails)
        (λ v j is g. turn_err zero v j Stuck g (λ s2 e2 g2. let u = t.goes s i s2 j inv lim (is ∙ ap (λ z. Ok (z, j)) e2) in omega (arith, few, u.less)))
    safe_turns (suc n) s inv i few lim h = bind_err (step s i) (turned (turns (suc n) step)) Stuck h
        (λ fails. (t.later s inv).safe i lim fails)
        (λ v j is g. turn_err (suc n) v j Stuck g (λ s2 e2 g2. let u = t.goes s i s2 j inv lim (is ∙ ap (λ z. Ok (z, j)) e2) in
        safe_turns n s2 u.inv j (omega (arith, few, u.less)) (omega (arith, lim, u.less)) g2))

    settled_end : (n : ℕ) (s : S) (i : List Tok) (a : A) (j : List Tok) → Settled C Done (step s) i (done a) j → Settled C Q (turns (suc n) step s) i a j
    settled_end n s i a j d = record { good = d.good; front = d.front; is = d.is; closes = λ k cl. bind_is (step s (d.front ++ k)) (turned (turns n step)) (done a) k _ (d.closes k cl) refl }

    settled_turns : (n : ℕ) (s : S) → Inv s → (i : List Tok) (y : A) (j2 : List Tok) → length i < most → turns n step s i ≡ Ok (y, j2) → Settled C Q (turns n step s) i y j2
    settled_turns zero s inv i y j2 lim h = absurd (cc)
    settled_turns (suc n) s inv i y j2 lim h = turn_ok (step s i) (turns n step) (y, j2) h
        (λ s2 j e g.
        let u = t.goes s i s2 j inv lim e in
        let d = settled_turns n s2 u.inv j y j2 (omega (arith, lim, u.less)) g in
        split (length j2) (length j)
        (λ lt. settled_behind most E C (λ _. Unit {0}) Q (step s) (turned (turns n step)) i j (go s2) y j2 (ok_stays (step s) (t.local s) i (go s2) j e) lt d)
        (λ le. settled_here most E C (λ _. Unit {0}) Q (step s) (turned (turns n step)) i j (go s2) y j2 u.settled le t.within d))
        (λ a j e g. let both : ◌≡◌ {A = A × List Tok} (a, j) (y, j2) = cc in subst (λ z. Settled C Q (turns (suc n) step s) i z.0 z.1) both (settled_end n s i a j (t.ends s i a j inv lim e)))

    -- all turns of a loop
    pub alive_turns : (n : ℕ) → most ≡ suc n → (s : S) → Inv s → Alive most E C Q (turns most step s)
    alive_turns n is s inv = subst (λ z. Alive most E C Q (turns z step s)) (sym is) (record {
      fin = fin_turns n s inv;
      later = record { later = λ i e k lim h fa behind. later_turns n s inv i e k (omega (arith, lim, is)) lim h fa behind; safe = λ i lim h. safe_turns n s inv i (omega (arith, lim, is)) lim h };
    })

    pub settles_turns : (s : S) → Inv s → Settles most C Q (turns most step s)
    settles_turns s inv = record { at = λ i y j lim h. settled_turns most s inv i y j lim h }
