-- A parser that is sound, complete, local and viable, and grows with room and turns, tells the exact place of a fault.
use Rattle.std.proofs.Common.{◌≡◌, ℕ, suc, ◌+◌, ◌<◌, ◌≤◌, Bool, true, false, List, [], ◌∷◌, ◌++◌, length, Option, None, Ok, Err, cond, refl, sym, ◌∙◌, ap, subst, arith, length-append}
use Rattle.std.specs.Prelude.{◌==◌}
use Rattle.std.proofs.lemmas.Bool.Decides.{nat_tests}
use Rattle.svr_token.specs.declared.Lexeme.{Lexeme}
use Rattle.svr_tree.specs.Tokens.{Tok}
use Rattle.svr_reader.specs.Outcomes.{Stop, Stuck, Unexpected, TooDeep, Outcome, Parser, and_then}
use Rattle.svr_reader.specs.Lists.{WithHeight}
use Rattle.svr_reader.specs.Fronts.{IsFront, IsOutcome, whole}
use Rattle.svr_reader.proofs.Local.{IsLocal, StaysFor}
use Rattle.svr_reader.proofs.Growth.{Past, Grown, Rooms}
use Rattle.svr_reader.proofs.Live.{FaultsAt, Completes, split, ok_stays, fault_within}
use Rattle.svr_reader.proofs.Layers.{IsViable, IsGrowing}
use Rattle.svr_reader.proofs.Fronts.{With, unexpected_is, deep_is, same_fronts, going, longer_front}

-- what is to be shown of a parser, a family by the number of turns and the room for height: `C` are the tokens that may follow (the end among them), `least` is the least room with which something can be read
pub record IsParser {X : Type 0} (IsReading : ℕ → List Tok → X → Type 0) (p : ℕ → ℕ → Parser (WithHeight X)) (C : Option Lexeme → Type 0) (Q : ℕ → WithHeight X → Type 0) (least : ℕ) : Type 0 where
  pub local : (most r : ℕ) → IsLocal (p most r)
  pub grows : IsGrowing p
  pub sound : (most r : ℕ) (i : List Tok) (x : WithHeight X) → p most r i ≡ Ok (x, []) → IsReading r i x.0
  pub complete : (most r h : ℕ) (i : List Tok) (t : X) → IsReading h i t → h ≤ r → r ≤ most → length i ≤ most → (n : ℕ) × (p most r i ≡ Ok ((t, n), []))
  pub viable : (most r : ℕ) → least ≤ r → r < most → IsViable most C (Q r) (p most r)
  pub ending : C None
  pub nothing : (limit : ℕ) → least ≤ limit → IsFront IsReading limit []

nonzero : (n : ℕ) → (suc n == 0) ≡ false
nonzero n = grind (arith, nat_tests)

count : (i front rest : List Tok) (k : ℕ) → i ≡ front ++ rest → k ≡ length rest → length i ≡ length front + k
count i front rest k e h = let f : length i ≡ length front + length rest = ap length e ∙ length-append front rest in omega arith

module _ {X : Type 0} (IsReading : ℕ → List Tok → X → Type 0) (p : ℕ → ℕ → Parser (WithHeight X)) (C : Option Lexeme → Type 0) (Q : ℕ → WithHeight X → Type 0) (least : ℕ) (laws : IsParser IsReading p C Q least)
    (most limit : ℕ) (some : least ≤ limit) (roomy : limit + 4 < most) where
  abbrev Front : ℕ → List Tok → Type 0
  Front = IsFront IsReading

  abbrev Goes : ℕ → List Tok → List Tok → Type 0
  Goes = With IsReading

  form : IsViable most C (Q limit) (p most limit)
  form = laws.viable most limit some (omega arith)

  front_of : (r : ℕ) (i : List Tok) (x : WithHeight X) (more : List Tok) → p most r (i ++ more) ≡ Ok (x, []) → Front r i
  front_of r i x more h = record { more = more; tree = x.0; reading = laws.sound most r (i ++ more) x h }

  completed : (r : ℕ) (i : List Tok) (n : ℕ) (d : Completes C (Q r) (p most r) i n) → Front r d.front
  completed r i n d = front_of r d.front d.x (d.more ++ []) (d.ends [] laws.ending)

  -- the tokens before a fault
  before_fault : (i : List Tok) (e : Stop) (n : ℕ) (front rest : List Tok) → length i < most → p most limit i ≡ Err e → FaultsAt e n → i ≡ front ++ rest → n ≡ length rest → Front limit front
  before_fault i e n front rest lim h fa is len = split n (length i)
      (λ lt. let d = form.later.later i e n lim h fa lt in
      subst (Front limit) (same_fronts d.front front d.j rest (sym d.is ∙ is) (sym d.len ∙ len)) (completed limit i n d))
      (λ le. let none : [] ≡ front = same_fronts [] front i rest is (let within = fault_within (p most limit) (laws.local most limit) i e n h fa in omega (arith, le, within, len)) in subst (Front limit) none (laws.nothing limit some))

  -- what is read with more turns, and the same room or more
  grown : (wider : Bool) (n2 r2 : ℕ) → most ≤ n2 → Rooms wider limit r2 → (i : List Tok) → Grown wider (p most limit i) (p n2 r2 i)
  grown wider n2 r2 more rooms i = (laws.grows wider most n2 limit r2 more rooms).at i

  -- no tree of any height goes on where a token is unexpected
  none_by : (h : ℕ) (i : List Tok) (t : X) (n : ℕ) → IsReading h i t → p most limit i ≡ Err (Unexpected n) → ⊥
  none_by h i t n d e =
      let r2 : ℕ = limit + 4 + h in
      let n2 : ℕ = most + length i + limit + 4 + h in
      let a = laws.complete n2 r2 h i t d (omega arith) (omega arith) (omega arith) in
      let g = grown true n2 r2 (omega arith) (omega arith) i in
      let g2 : p n2 r2 i ≡ Err (Unexpected n) = subst (λ o. Grown true o (p n2 r2 i)) e g in
      apart (sym a.1 ∙ g2)
    where
      apart : {y : WithHeight X × List Tok} → ◌≡◌ {A = Outcome (WithHeight X)} (Ok y) (Err (Unexpected n)) → ⊥
      apart f = absurd (cc)

  -- nor one within the limit where the room ends
  low_by : (i : List Tok) (t : X) (n : ℕ) → IsReading limit i t → p most limit i ≡ Err (TooDeep n) → ⊥
  low_by i t n d e =
      let n2 : ℕ = most + length i in
      let a = laws.complete n2 limit limit i t d (omega arith) (omega arith) (omega arith) in
      let g = grown false n2 limit (omega arith) refl i in
      let g2 : p n2 limit i ≡ Err (TooDeep n) = subst (λ o. Grown false o (p n2 limit i)) e g in
      apart (sym a.1 ∙ g2)
    where
      apart : {y : WithHeight X × List Tok} → ◌≡◌ {A = Outcome (WithHeight X)} (Ok y) (Err (TooDeep n)) → ⊥
      apart f = absurd (cc)

  -- what was read is all that a tree with the same tokens spells
  end_by : (h : ℕ) (i k : List Tok) (t : X) (x : WithHeight X) → IsReading h i t → p most limit i ≡ Ok (x, k) → k ≡ []
  end_by h i k t x d e =
      let r2 : ℕ = limit + 4 + h in
      let n2 : ℕ = most + length i + limit + 4 + h in
      let a = laws.complete n2 r2 h i t d (omega arith) (omega arith) (omega arith) in
      let g = grown true n2 r2 (omega arith) (omega arith) i in
      let g2 : p n2 r2 i ≡ Ok (x, k) = subst (λ o. Grown true o (p n2 r2 i)) e g in
      let both : ◌≡◌ {A = Outcome (WithHeight X)} (Ok ((t, a.0), [])) (Ok (x, k)) = sym a.1 ∙ g2 in
      let pair : ◌≡◌ {A = WithHeight X × List Tok} ((t, a.0), []) (x, k) = cc in sym (ap (λ z. z.1) pair)

  pub unexpected : (i : List Tok) (n : ℕ) → length i < most → p most limit i ≡ Err (Unexpected n) → IsOutcome IsReading limit i (Err (Unexpected n))
  unexpected i n lim h =
      let s = subst (λ o. StaysFor (p most limit) i o) h ((laws.local most limit).at i) in (
        length s.2.front,
        count i s.2.front s.0 n s.2.is s.1,
        unexpected_is IsReading limit i (length s.2.front) (record {
          front = s.2.front;
          rest = s.0;
          all = s.2.is;
          place = refl;
          before = before_fault i (Unexpected n) n s.2.front s.0 lim h refl s.2.is s.1;
          none = λ height f. let g = going IsReading height s.2.front s.0 f in none_by height (s.2.front ++ g.k) g.tree (length g.k) g.reading (s.2.stays g.k g.same);
        }),
      )

  -- the parser stopped before the end
  pub early : (i : List Tok) (x : WithHeight X) (t : Tok) (j : List Tok) → length i < most → p most limit i ≡ Ok (x, t ∷ j) → IsOutcome IsReading limit i (Err (Unexpected (length (t ∷ j))))
  early i x t j lim h =
      let s = ok_stays (p most limit) (laws.local most limit) i x (t ∷ j) h in
      let d = form.settles.at i x (t ∷ j) lim h in
      let same = same_fronts d.front s.front (t ∷ j) (t ∷ j) (sym d.is ∙ s.is) refl in (
        length s.front,
        count i s.front (t ∷ j) (length (t ∷ j)) s.is refl,
        unexpected_is IsReading limit i (length s.front) (record {
          front = s.front;
          rest = t ∷ j;
          all = s.is;
          place = refl;
          before = subst (Front limit) same (front_of limit d.front x [] (d.closes [] laws.ending));
          none = λ height f. let g = going IsReading height s.front (t ∷ j) f in
              let stop = end_by height (s.front ++ g.k) g.k g.tree x g.reading (s.stays g.k g.same) in
              let some_left = g.same.1 in absurd (cc);
        }),
      )

  -- ---- with more room a longer front is read

  wider_form : IsViable most C (Q (limit + 4)) (p most (limit + 4))
  wider_form = laws.viable most (limit + 4) (omega (arith, some)) roomy

  higher_by : (i front rest : List Tok) (n : ℕ) (o : Outcome (WithHeight X)) → length i < most → i ≡ front ++ rest → n ≡ length rest → n ≤ length i → p most (limit + 4) i ≡ o → Past n o → Goes (limit + 4) front rest
  higher_by i front rest n (Ok y) lim is len within h past =
      let d = wider_form.settles.at i y.0 y.1 lim h in
      longer_front IsReading (limit + 4) front rest d.front y.1 (sym is ∙ d.is) (omega (arith, past, len)) (front_of (limit + 4) d.front y.0 [] (d.closes [] laws.ending))
  higher_by i front rest n (Err Stuck) lim is len within h past = absurd (wider_form.later.safe i lim h)
  higher_by i front rest n (Err (Unexpected k)) lim is len within h past =
      let d = wider_form.later.later i (Unexpected k) k lim h refl (omega (arith, past, within)) in
      longer_front IsReading (limit + 4) front rest d.front d.j (sym is ∙ d.is) (omega (arith, past, d.len, len)) (completed (limit + 4) i k d)
  higher_by i front rest n (Err (TooDeep k)) lim is len within h past =
      let d = wider_form.later.later i (TooDeep k) k lim h refl (omega (arith, past, within)) in
      longer_front IsReading (limit + 4) front rest d.front d.j (sym is ∙ d.is) (omega (arith, past, d.len, len)) (completed (limit + 4) i k d)

  pub too_deep : (i : List Tok) (n : ℕ) → length i < most → p most limit i ≡ Err (TooDeep n) → IsOutcome IsReading limit i (Err (TooDeep n))
  too_deep i n lim h =
      let s = subst (λ o. StaysFor (p most limit) i o) h ((laws.local most limit).at i) in
      let within = fault_within (p most limit) (laws.local most limit) i (TooDeep n) n h refl in
      let past : Past n (p most (limit + 4) i) = subst (λ o. Grown true o (p most (limit + 4) i)) h (grown true most (limit + 4) (omega arith) (omega arith) i) in (
        length s.2.front,
        count i s.2.front s.0 n s.2.is s.1,
        deep_is IsReading limit i (length s.2.front) (record {
          front = s.2.front;
          rest = s.0;
          all = s.2.is;
          place = refl;
          before = before_fault i (TooDeep n) n s.2.front s.0 lim h refl s.2.is s.1;
          none = λ f. let g = going IsReading limit s.2.front s.0 f in low_by (s.2.front ++ g.k) g.tree (length g.k) g.reading (s.2.stays g.k g.same);
          higher = (limit + 4, higher_by i s.2.front s.0 n (p most (limit + 4) i) lim s.2.is s.1 within refl past);
        }),
      )

  pub never_stuck : (i : List Tok) → length i < most → p most limit i ≡ Err Stuck → ⊥
  never_stuck i lim h = form.later.safe i lim h

  ended : (i j : List Tok) (x : WithHeight X) → length i < most → p most limit i ≡ Ok (x, j) → IsOutcome IsReading limit i (cond (length j == 0) (Ok (x.0, j)) (Err (Unexpected (length j))))
  ended i [] x lim h = laws.sound most limit i x h
  ended i (t ∷ j) x lim h = rw (nonzero (length j)) (early i x t j lim h)

  outcome : (i : List Tok) (o : Outcome (WithHeight X)) → length i < most → p most limit i ≡ o → IsOutcome IsReading limit i (and_then o (λ x j. cond (length j == 0) (Ok (x.0, j)) (Err (Unexpected (length j)))))
  outcome i (Ok y) lim h = ended i y.1 y.0 lim h
  outcome i (Err Stuck) lim h = never_stuck i lim h
  outcome i (Err (Unexpected n)) lim h = unexpected i n lim h
  outcome i (Err (TooDeep n)) lim h = too_deep i n lim h

  -- the main law
  pub exact : (i : List Tok) → length i < most → IsOutcome IsReading limit i (whole (p most limit) i)
  unfolding whole
  exact i lim = outcome i (p most limit i) lim refl
