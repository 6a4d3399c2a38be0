-- Where the reader stops, the groups end or the first fault stands
use Rattle.std.proofs.Common.{◌≡◌, ℕ, suc, Bool, true, false, List, [], ◌∷◌, ◌++◌, length, Option, None, Some, option_map, refl, sym, ap, ◌∙◌, arith, append-nil}
use Rattle.std.specs.Prelude.{◌+◌, is_some}
use Rattle.svr_cover_text.specs.declared.word.Word.{Word}
use Rattle.svr_cover_text.specs.declared.place.Place.{Place}
use Rattle.svr_cover_text.specs.declared.place.Place.TheVariants as p
use Rattle.svr_cover_text.specs.declared.place.Deed.TheVariants as d
use Rattle.svr_cover_text.specs.declared.place.Move.{Move}
use Rattle.svr_cover_text.specs.declared.reading.Reading.{Reading}
use Rattle.svr_cover_text.specs.Words.{is_covergroup}
use Rattle.svr_cover_text.specs.Tree.{GroupTree, list_text}
use Rattle.svr_cover_text.specs.Spelled.{groups_words, begins_group}
use Rattle.svr_cover_text.specs.Fronts.{BeginWith, IsFront, IsUnexpected}
use Rattle.svr_cover_text.specs.Machine.{begin, step, goes, only, moved_to, after, stop, is_between}
use Rattle.svr_cover_text.proofs.Runs.{run, run-step, run-append, run-front, accepts, accepts-append, fill, fill-run, through}
use Rattle.svr_cover_text.proofs.Rests.{groups-from}

none_some : {A : Type 0} (x : A) → None ≡ Some x → ⊥
none_some x h = cc

some_none : {A : Type 0} (x : A) → Some x ≡ None → ⊥
some_none x h = cc

some_same : {A : Type 0} (x y : A) → Some x ≡ Some y → x ≡ y
some_same x y h = cc

-- ---- fronts are what is run through

front-of-run : (ws : List Word) (q : Reading) → run begin ws ≡ Some q → IsFront ws
front-of-run ws q h =
    let t = groups-from (ws ++ fill q.place) (accepts-append ws (fill q.place) begin q h ∙ fill-run q.place q.made) in
    record { groups = t.0; rest = fill q.place; whole = sym t.1 }

run-of-front : (ws : List Word) → IsFront ws → (q : Reading) × (run begin ws ≡ Some q)
run-of-front ws x = let s = through x.groups in run-front ws x.rest begin s.to (ap (run begin) (sym x.whole) ∙ s.ran)

-- a front with one more word takes a step from where the front led
one-more : (front : List Word) (x : Word) (q : Reading) → run begin front ≡ Some q → IsFront (front ++ x ∷ []) → is_some (step q x) ≡ true
one-more front x q h f =
    let r = run-of-front (front ++ x ∷ []) f in
    let e : run q (x ∷ []) ≡ Some r.0 = sym (run-append front (x ∷ []) begin q h) ∙ r.1 in
    go (step q x) r.0 e
  where
    go : (o : Option Reading) (r : Reading) → elim o [ Some s ↦ Some s | None ↦ None ] ≡ Some r → is_some o ≡ true
    go None r e = absurd (none_some r e)
    go (Some s) r e = refl

with-step : (front : List Word) (x : Word) (q : Reading) → run begin front ≡ Some q → is_some (step q x) ≡ true → IsFront (front ++ x ∷ [])
with-step front x q h s = go (step q x) refl s
  where
    go : (o : Option Reading) → step q x ≡ o → is_some o ≡ true → IsFront (front ++ x ∷ [])
    go None e s = absurd (let z : false ≡ true = s in cc)
    go (Some r) e s = front-of-run (front ++ x ∷ []) r (run-append front (x ∷ []) begin q h ∙ run-step q r x [] e)

none-or : {A : Type 0} (o : Option A) → (is_some o ≡ true → ⊥) → o ≡ None
none-or None h = refl
none-or (Some x) h = absurd (h refl)

not-some : {A : Type 0} (o : Option A) → o ≡ None → is_some o ≡ true → ⊥
not-some None h s = let z : false ≡ true = s in cc
not-some (Some x) h s = let z : Some x ≡ None = h in cc

not-true : (b : Bool) → (b ≡ true → ⊥) → b ≡ false
not-true true h = absurd (h refl)
not-true false h = refl

true-false : (b : Bool) → b ≡ true → b ≡ false → ⊥
true-false true h k = let z : true ≡ false = k in cc
true-false false h k = let z : false ≡ true = h in cc

-- ---- between two groups `covergroup` alone goes on

group-step : (r : Reading) (x : Word) → is_between r.place ≡ true → step r x ≡ None → is_covergroup x ≡ false
group-step r x b h = go r.place b (no-move (goes r.place x) h)
  where
    no-move : (o : Option Move) → option_map (moved_to r x) o ≡ None → o ≡ None
    no-move None h = refl
    no-move (Some m) h = absurd (some_none (moved_to r x m) h)

    no-group : (v : Bool) → only v p.GroupName d.Skip ≡ None → v ≡ false
    no-group true h = absurd (some_none (record { place = p.GroupName; deed = d.Skip }) h)
    no-group false h = refl

    go : (place : Place) → is_between place ≡ true → goes place x ≡ None → is_covergroup x ≡ false
    go p.Between b h = no-group (is_covergroup x) h
    go _ b h = absurd (let z : false ≡ true = b in cc)

no_group-step : (r : Reading) (x : Word) → is_between r.place ≡ true → is_covergroup x ≡ false → step r x ≡ None
no_group-step r x b h = ap (option_map (moved_to r x)) (go r.place b)
  where
    go : (place : Place) → is_between place ≡ true → goes place x ≡ None
    go p.Between b = ap (λ z. only z p.GroupName d.Skip) h
    go _ b = absurd (let z : false ≡ true = b in cc)

-- ---- one word of the way

pub after-some : (r q : Reading) (at : ℕ) (x : Word) (ws : List Word) → step r x ≡ Some q → after r at (x ∷ ws) ≡ after q (suc at) ws
unfolding after
after-some r q at x ws h = rw (h, after) refl

pub after-none : (r : Reading) (at : ℕ) (x : Word) (ws : List Word) → step r x ≡ None → after r at (x ∷ ws) ≡ stop r at
unfolding after
after-none r at x ws h = rw (h, after) refl

after-nil : (r : Reading) (at : ℕ) → after r at [] ≡ stop r at
unfolding after
after-nil r at = refl

-- behind a front
after-front : (xs ys : List Word) (r q : Reading) (at : ℕ) → run r xs ≡ Some q → after r at (xs ++ ys) ≡ after q (length xs + at) ys
unfolding after
after-front [] ys r q at h = ap (λ z. after z at ys) (some_same r q h) ∙ ap (λ n. after q n ys) (let e : at ≡ 0 + at = omega arith in e)
after-front (x ∷ xs) ys r q at h = go (step r x) (λ s k. after-front xs ys s q (suc at) k) h
  where
    go : (o : Option Reading) → ((s : Reading) → run s xs ≡ Some q → after s (suc at) (xs ++ ys) ≡ after q (length xs + suc at) ys)
        → elim o [ Some s ↦ run s xs | None ↦ None ] ≡ Some q
        → elim o [ Some s ↦ after s (suc at) (xs ++ ys) | None ↦ stop r at ] ≡ after q (suc (length xs) + at) ys
    go None k h = absurd (none_some q h)
    go (Some s) k h = k s h ∙ ap (λ n. after q n ys) (let e : length xs + suc at ≡ suc (length xs) + at = omega arith in e)

-- ---- where the reader stops

-- the first word of what is left may not stand there
abbrev Stuck : Reading → List Word → Type 0
Stuck q [] = Unit {0}
Stuck q (x ∷ ws) = step q x ≡ None

record Found (r : Reading) (at : ℕ) (ws : List Word) (q : Reading) (n : ℕ) : Type 0 where
  pub front : List Word
  pub rest : List Word
  pub whole : ws ≡ front ++ rest
  pub at_is : length front + at ≡ n
  pub ran : run r front ≡ Some q
  pub stuck : Stuck q rest

pub same-reading : (r q : Reading) (at n : ℕ) → stop r at ≡ stop q n → r ≡ q
same-reading r q at n h = cc

pub same-number : (r q : Reading) (at n : ℕ) → stop r at ≡ stop q n → at ≡ n
same-number r q at n h = cc

found : (ws : List Word) (r q : Reading) (at n : ℕ) → after r at ws ≡ stop q n → Found r at ws q n
unfolding after
found [] r q at n h =
    let same : at ≡ n = same-number r q at n h in
    record { front = []; rest = []; whole = refl; at_is = (let s : 0 + at ≡ n = omega arith in s); ran = ap (λ z. Some z) (same-reading r q at n h); stuck = tt }
found (x ∷ ws) r q at n h = go (step r x) refl (λ s k. found ws s q (suc at) n k) h
  where
    go : (o : Option Reading) → step r x ≡ o → ((s : Reading) → after s (suc at) ws ≡ stop q n → Found s (suc at) ws q n)
        → elim o [ Some s ↦ after s (suc at) ws | None ↦ stop r at ] ≡ stop q n → Found r at (x ∷ ws) q n
    go None e k h =
        let same : r ≡ q = same-reading r q at n h in
        let place : at ≡ n = same-number r q at n h in
        record {
          front = [];
          rest = x ∷ ws;
          whole = refl;
          at_is = (let s : 0 + at ≡ n = omega arith in s);
          ran = ap (λ z. Some z) same;
          stuck = ap (λ z. step z x) (sym same) ∙ e;
        }
    go (Some s) e k h =
        let f = k s h in
        let l : length f.front + suc at ≡ n = f.at_is in
        record {
          front = x ∷ f.front;
          rest = f.rest;
          whole = ap (λ z. x ∷ z) f.whole;
          at_is = (let m : suc (length f.front) + at ≡ n = omega arith in m);
          ran = run-step r s x f.front e ∙ f.ran;
          stuck = f.stuck;
        }

-- ---- groups

run-accepts : (ws : List Word) (r q : Reading) → run r ws ≡ Some q → is_between q.place ≡ true → accepts r ws ≡ true
run-accepts [] r q h l = ap (λ z. is_between z.place) (some_same r q h) ∙ l
run-accepts (x ∷ ws) r q h l = go (step r x) (λ s k. run-accepts ws s q k l) h
  where
    go : (o : Option Reading) → ((s : Reading) → run s ws ≡ Some q → accepts s ws ≡ true)
        → elim o [ Some s ↦ run s ws | None ↦ None ] ≡ Some q → elim o [ Some s ↦ accepts s ws | None ↦ false ] ≡ true
    go None k h = absurd (none_some q h)
    go (Some s) k h = k s h

last-of : (q : Reading) (ws : List Word) → is_between q.place ≡ true → Stuck q ws → begins_group ws ≡ false
last-of q [] b h = refl
last-of q (x ∷ ws) b h = group-step q x b h

-- the words begin with groups, which are those that are read
pub record Ended (ws : List Word) (q : Reading) (n : ℕ) : Type 0 where
  pub groups : List GroupTree
  pub begin_with : BeginWith ws groups
  pub list : list_text groups ≡ q.made.groups
  pub used : length (groups_words groups) ≡ n

pub groups-end : (ws : List Word) (q : Reading) (n : ℕ) → after begin 0 ws ≡ stop q n → is_between q.place ≡ true → Ended ws q n
groups-end ws q n h b =
    let f = found ws begin q 0 n h in
    let t = groups-from f.front (run-accepts f.front begin q f.ran b) in
    let s = through t.0 in
    let same : s.to ≡ q = some_same s.to q (sym s.ran ∙ ap (run begin) (sym t.1) ∙ f.ran) in
    let l : length f.front + 0 ≡ n = f.at_is in
    let m : length f.front ≡ n = omega arith in
    record {
      groups = t.0;
      begin_with = record { rest = f.rest; whole = f.whole ∙ ap (λ z. z ++ f.rest) t.1; last = last-of q f.rest b f.stuck };
      list = sym s.groups ∙ ap (λ z. z.made.groups) same;
      used = ap length (sym t.1) ∙ m;
    }

stops-after : (q : Reading) (at : ℕ) (ws : List Word) → is_between q.place ≡ true → begins_group ws ≡ false → after q at ws ≡ stop q at
stops-after q at [] b h = after-nil q at
stops-after q at (x ∷ ws) b h = after-none q at x ws (no_group-step q x b h)

-- behind the groups with which words begin the reader stops
pub groups-stop : (groups : List GroupTree) (ws : List Word) → BeginWith ws groups → (q : Reading) × (after begin 0 ws ≡ stop q (length (groups_words groups))) × (is_between q.place ≡ true) × (q.made.groups ≡ list_text groups)
groups-stop groups ws h =
    let s = through groups in
    let n : length (groups_words groups) + 0 ≡ length (groups_words groups) = omega arith in (
      s.to,
      ap (after begin 0) h.whole ∙ after-front (groups_words groups) h.rest begin s.to 0 s.ran ∙ stops-after s.to (length (groups_words groups) + 0) h.rest s.place h.last ∙ ap (stop s.to) n,
      s.place,
      s.groups,
    )

-- ---- faults

-- no word is left only where all have been taken
abbrev pub NeverThrough : List Word → Type 0
NeverThrough ws = (q : Reading) → run begin ws ≡ Some q → ⊥

inside-of : (front : List Word) (q : Reading) → run begin front ≡ Some q → is_between q.place ≡ false → (groups : List GroupTree) → front ≡ groups_words groups → ⊥
inside-of front q h b groups e =
    let s = through groups in
    let same : s.to ≡ q = some_same s.to q (sym s.ran ∙ ap (run begin) (sym e) ∙ h) in
    true-false (is_between q.place) (ap (λ z. is_between z.place) (sym same) ∙ s.place) b

pub fault-is : (ws : List Word) (q : Reading) (n : ℕ) → after begin 0 ws ≡ stop q n → is_between q.place ≡ false → NeverThrough ws → IsUnexpected ws n
fault-is ws q n h b never =
    let f = found ws begin q 0 n h in
    go f.front f.rest f.whole f.at_is f.ran f.stuck
  where
    go : (front rest : List Word) → ws ≡ front ++ rest → length front + 0 ≡ n → run begin front ≡ Some q → Stuck q rest → IsUnexpected ws n
    go front [] whole at_is ran stuck = absurd (never q (ap (run begin) (whole ∙ append-nil front) ∙ ran))
    go front (x ∷ rest) whole at_is ran stuck =
        let l : length front + 0 ≡ n = at_is in
        record {
          front = front;
          word = x;
          rest = rest;
          whole = whole;
          place = (let m : length front ≡ n = omega arith in m);
          is_front = front-of-run front q ran;
          inside = inside-of front q ran b;
          none = λ z. not-some (step q x) stuck (one-more front x q ran z);
        }

-- and nowhere else
pub stops-there : (ws : List Word) (n : ℕ) → IsUnexpected ws n → (q : Reading) × (after begin 0 ws ≡ stop q n) × (is_between q.place ≡ false)
stops-there ws n h =
    let r = run-of-front h.front h.is_front in
    let e : step r.0 h.word ≡ None = none-or (step r.0 h.word) (λ x. h.none (with-step h.front h.word r.0 r.1 x)) in
    let l : length h.front ≡ n = h.place in
    let m : length h.front + 0 ≡ n = omega arith in (
      r.0,
      ap (after begin 0) h.whole ∙ after-front h.front (h.word ∷ h.rest) begin r.0 0 r.1 ∙ after-none r.0 (length h.front + 0) h.word h.rest e ∙ ap (stop r.0) m,
      not-true (is_between r.0.place) (λ b. let t = groups-from h.front (run-accepts h.front begin r.0 r.1 b) in h.inside t.0 t.1),
    )
