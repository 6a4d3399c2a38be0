-- The place at which the reader stops is that of the first fault
use Rattle.std.proofs.Common.{◌≡◌, ℕ, suc, true, false, List, [], ◌∷◌, ◌++◌, length, Option, None, Some, refl, sym, ap, ◌∙◌, arith}
use Rattle.std.specs.Prelude.{◌+◌, is_some}
use Rattle.svr_seq_text.specs.declared.word.Word.{Word}
use Rattle.svr_seq_text.specs.declared.reading.Reading.{Reading}
use Rattle.svr_seq_text.specs.Tree.{SeqTree, text_of}
use Rattle.svr_seq_text.specs.Spelled.{seq_words}
use Rattle.svr_seq_text.specs.Fronts.{IsTextOf, IsFront, IsUnexpected}
use Rattle.svr_seq_text.specs.Machine.{begin, step, after, reads, stuck, text_in}
use Rattle.svr_seq_text.proofs.Runs.{run, run-step, run-append, run-front, accepts, accepts-append, fill, fill-run, seq-run, is_last}
use Rattle.svr_seq_text.proofs.Rests.{tree-from}

none_some : {A : Type 0} (x : A) → None ≡ Some x → ⊥
none_some x h = cc

some_same : {A : Type 0} (x y : A) → Some x ≡ Some y → x ≡ y
some_same x y h = cc

-- ---- fronts are what is run through

front-of-run : (ws : List Word) (q : Reading) → run begin ws ≡ Some q → IsFront ws
front-of-run ws q h =
    let t = tree-from (ws ++ fill q.place q.depth) (accepts-append ws (fill q.place q.depth) begin q h ∙ fill-run q.place q.depth q.made) in
    record { tree = t.0; rest = fill q.place q.depth; whole = t.1 }

run-of-front : (ws : List Word) → IsFront ws → (q : Reading) × (run begin ws ≡ Some q)
run-of-front ws x = let s = seq-run x.tree in run-front ws x.rest begin s.to (ap (run begin) (sym x.whole) ∙ s.ran)

-- a front with one more word takes a step from where the front led
one-more : (front : List Word) (x : Word) (q : Reading) → run begin front ≡ Some q → IsFront (front ++ x ∷ []) → is_some (step q x) ≡ true
one-more front x q h f =
    let r = run-of-front (front ++ x ∷ []) f in
    let e : run q (x ∷ []) ≡ Some r.0 = sym (run-append front (x ∷ []) begin q h) ∙ r.1 in
    go (step q x) r.0 e
  where
    go : (o : Option Reading) (r : Reading) → elim o [ Some s ↦ Some s | None ↦ None ] ≡ Some r → is_some o ≡ true
    go None r e = absurd (none_some r e)
    go (Some s) r e = refl

with-step : (front : List Word) (x : Word) (q : Reading) → run begin front ≡ Some q → is_some (step q x) ≡ true → IsFront (front ++ x ∷ [])
with-step front x q h s = go (step q x) refl s
  where
    go : (o : Option Reading) → step q x ≡ o → is_some o ≡ true → IsFront (front ++ x ∷ [])
    go None e s = absurd (let z : false ≡ true = s in cc)
    go (Some r) e s = front-of-run (front ++ x ∷ []) r (run-append front (x ∷ []) begin q h ∙ run-step q r x [] e)

none-or : {A : Type 0} (o : Option A) → (is_some o ≡ true → ⊥) → o ≡ None
none-or None h = refl
none-or (Some x) h = absurd (h refl)

not-some : {A : Type 0} (o : Option A) → o ≡ None → is_some o ≡ true → ⊥
not-some None h s = let z : false ≡ true = s in cc
not-some (Some x) h s = let z : Some x ≡ None = h in cc

-- ---- where the reader stops

record Found (r : Reading) (at : ℕ) (ws : List Word) (n : ℕ) : Type 0 where
  pub front : List Word
  pub word : Word
  pub rest : List Word
  pub place : Reading
  pub whole : ws ≡ front ++ word ∷ rest
  pub at_is : length front + at ≡ n
  pub ran : run r front ≡ Some place
  pub none : step place word ≡ None

found : (ws : List Word) (r : Reading) (at n : ℕ) → after r at ws ≡ stuck n → Found r at ws n
unfolding after
found [] r at n h = absurd (let z : reads r ≡ stuck n = h in cc)
found (x ∷ ws) r at n h = go (step r x) refl (λ q k. found ws q (suc at) n k) h
  where
    go : (o : Option Reading) → step r x ≡ o → ((q : Reading) → after q (suc at) ws ≡ stuck n → Found q (suc at) ws n)
        → elim o [ Some q ↦ after q (suc at) ws | None ↦ stuck at ] ≡ stuck n → Found r at (x ∷ ws) n
    go None e k h =
        let same : at ≡ n = let z : stuck at ≡ stuck n = h in cc in
        let s : 0 + at ≡ n = omega arith in
        record { front = []; word = x; rest = ws; place = r; whole = refl; at_is = s; ran = refl; none = e }
    go (Some q) e k h =
        let f = k q h in
        let l : length f.front + suc at ≡ n = f.at_is in
        record {
          front = x ∷ f.front;
          word = f.word;
          rest = f.rest;
          place = f.place;
          whole = ap (λ z. x ∷ z) f.whole;
          at_is = (let m : suc (length f.front) + at ≡ n = omega arith in m);
          ran = run-step r q x f.front e ∙ f.ran;
          none = f.none;
        }

pub fault-is : (ws : List Word) (n : ℕ) → after begin 0 ws ≡ stuck n → IsUnexpected ws n
fault-is ws n h =
    let f = found ws begin 0 n h in
    let l : length f.front + 0 ≡ n = f.at_is in
    record {
      front = f.front;
      word = f.word;
      rest = f.rest;
      whole = f.whole;
      place = (let m : length f.front ≡ n = omega arith in m);
      is_front = front-of-run f.front f.place f.ran;
      none = λ x. not-some (step f.place f.word) f.none (one-more f.front f.word f.place f.ran x);
    }

-- ---- and nowhere else

pub after-some : (r q : Reading) (at : ℕ) (x : Word) (ws : List Word) → step r x ≡ Some q → after r at (x ∷ ws) ≡ after q (suc at) ws
unfolding after
after-some r q at x ws h = rw (h, after) refl

pub after-none : (r : Reading) (at : ℕ) (x : Word) (ws : List Word) → step r x ≡ None → after r at (x ∷ ws) ≡ stuck at
unfolding after
after-none r at x ws h = rw (h, after) refl

pub after-nil : (r : Reading) (at : ℕ) → after r at [] ≡ reads r
unfolding after
after-nil r at = refl

-- behind a front
pub after-front : (xs ys : List Word) (r q : Reading) (at : ℕ) → run r xs ≡ Some q → after r at (xs ++ ys) ≡ after q (length xs + at) ys
unfolding after
after-front [] ys r q at h = ap (λ z. after z at ys) (some_same r q h) ∙ ap (λ n. after q n ys) (let e : at ≡ 0 + at = omega arith in e)
after-front (x ∷ xs) ys r q at h = go (step r x) (λ s k. after-front xs ys s q (suc at) k) h
  where
    go : (o : Option Reading) → ((s : Reading) → run s xs ≡ Some q → after s (suc at) (xs ++ ys) ≡ after q (length xs + suc at) ys)
        → elim o [ Some s ↦ run s xs | None ↦ None ] ≡ Some q
        → elim o [ Some s ↦ after s (suc at) (xs ++ ys) | None ↦ stuck at ] ≡ after q (suc (length xs) + at) ys
    go None k h = absurd (none_some q h)
    go (Some s) k h = k s h ∙ ap (λ n. after q n ys) (let e : length xs + suc at ≡ suc (length xs) + at = omega arith in e)

pub stops-there : (ws : List Word) (n : ℕ) → IsUnexpected ws n → after begin 0 ws ≡ stuck n
stops-there ws n h =
    let r = run-of-front h.front h.is_front in
    let e : step r.0 h.word ≡ None = none-or (step r.0 h.word) (λ x. h.none (with-step h.front h.word r.0 r.1 x)) in
    let l : length h.front ≡ n = h.place in
    ap (after begin 0) h.whole ∙ after-front h.front (h.word ∷ h.rest) begin r.0 0 r.1 ∙ after-none r.0 (length h.front + 0) h.word h.rest e
    ∙ ap (λ z. stuck z) (let m : length h.front + 0 ≡ n = omega arith in m)

-- ---- texts that are read

reads-run : (ws : List Word) (r q : Reading) (at : ℕ) → after r at ws ≡ reads q → run r ws ≡ Some q
unfolding after
reads-run [] r q at h = ap (λ z. Some z) (let z : reads r ≡ reads q = h in let s : r ≡ q = cc in s)
reads-run (x ∷ ws) r q at h = go (step r x) (λ s k. reads-run ws s q (suc at) k) h
  where
    go : (o : Option Reading) → ((s : Reading) → after s (suc at) ws ≡ reads q → run s ws ≡ Some q)
        → elim o [ Some s ↦ after s (suc at) ws | None ↦ stuck at ] ≡ reads q → elim o [ Some s ↦ run s ws | None ↦ None ] ≡ Some q
    go None k h = absurd (let z : stuck at ≡ reads q = h in cc)
    go (Some s) k h = k s h

run-accepts : (ws : List Word) (r q : Reading) → run r ws ≡ Some q → is_last q.place ≡ true → accepts r ws ≡ true
run-accepts [] r q h l = ap (λ z. is_last z.place) (some_same r q h) ∙ l
run-accepts (x ∷ ws) r q h l = go (step r x) (λ s k. run-accepts ws s q k l) h
  where
    go : (o : Option Reading) → ((s : Reading) → run s ws ≡ Some q → accepts s ws ≡ true)
        → elim o [ Some s ↦ run s ws | None ↦ None ] ≡ Some q → elim o [ Some s ↦ accepts s ws | None ↦ false ] ≡ true
    go None k h = absurd (none_some q h)
    go (Some s) k h = k s h

-- a tree is read to its text
pub tree-reads : (t : SeqTree) (ws : List Word) (q : Reading) → ws ≡ seq_words t → after begin 0 ws ≡ reads q → text_in q.made ≡ text_of t
tree-reads t ws q e h =
    let s = seq-run t in
    let r : run begin ws ≡ Some q = reads-run ws begin q 0 h in
    let same : q ≡ s.to = some_same q s.to (sym r ∙ ap (run begin) e ∙ s.ran) in
    ap (λ z. text_in z.made) same ∙ s.text

-- a tree has no fault
pub tree-no-fault : (t : SeqTree) (ws : List Word) (n : ℕ) → ws ≡ seq_words t → after begin 0 ws ≡ stuck n → ⊥
tree-no-fault t ws n e h =
    let f = found ws begin 0 n h in
    let s = seq-run t in
    let r : run f.place (f.word ∷ f.rest) ≡ Some s.to = sym (run-append f.front (f.word ∷ f.rest) begin f.place f.ran) ∙ ap (run begin) (sym f.whole ∙ e) ∙ s.ran in
    go (step f.place f.word) s.to f.rest f.none r
  where
    go : (o : Option Reading) (to : Reading) (ws : List Word) → o ≡ None → elim o [ Some s ↦ run s ws | None ↦ None ] ≡ Some to → ⊥
    go None to ws e h = none_some to h
    go (Some s) to ws e h = let z : Some s ≡ None = e in cc

pub text-is : (ws : List Word) (q : Reading) → after begin 0 ws ≡ reads q → is_last q.place ≡ true → IsTextOf ws (text_in q.made)
text-is ws q h l =
    let t = tree-from ws (run-accepts ws begin q (reads-run ws begin q 0 h) l) in
    (t.0, sym t.1, sym (tree-reads t.0 ws q (sym t.1) h))
