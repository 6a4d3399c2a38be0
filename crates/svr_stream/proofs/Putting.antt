-- Texts that go to a sink one behind the other.
use Rattle.std.proofs.Common.{◌≡◌, ◌≤◌, ◌+◌, ℕ, zero, suc, Bool, true, false, refl, sym, ◌∙◌, ap, subst, List, [], ◌∷◌, ◌++◌, length, take, append-nil, append_assoc, Option, Result, Ok, Err, OnOk, OnErr, is_err, arith}
use Rattle.std.specs.Io.KnownBytes.{Appends, Keeps}
use Rattle.std.proofs.KnownBytes.{Appends-nil, Appends-trans, Appends-kept, Keeps-refl, Keeps-trans}
use Rattle.std.proofs.Math.Seq.{take-append-add}
use Rattle.svr_edge.specs.Known.{AppendsFront}
use Rattle.svr_edge.specs.Causes.{Rose, HasCause}
use Rattle.svr_stream.specs.Waiting.{Waiting}
use Rattle.svr_stream.specs.Puts.{Place, place, place_at, Grows, Breaks, Stays, PutsFrom, Puts}

-- ---- fronts

-- a front of a text is one of a longer text
front_of_longer : (xs ys : List ℕ) (n : ℕ) → (m : ℕ) × (take m (xs ++ ys) ≡ take n xs)
front_of_longer [] ys zero = (0, refl)
front_of_longer [] ys (suc n) = (0, refl)
front_of_longer (x ∷ xs) ys zero = (0, refl)
front_of_longer (x ∷ xs) ys (suc n) =
    let rest = front_of_longer xs ys n in
    (suc rest.0, ap (λ (l : List ℕ). x ∷ l) rest.1)

front_grown : (a b : Option (List ℕ)) (xs ys : List ℕ) → AppendsFront a b xs → AppendsFront a b (xs ++ ys)
front_grown a b xs ys (n, h) =
    let longer = front_of_longer xs ys n in
    (longer.0, subst (λ (l : List ℕ). Appends a b l) (sym longer.1) h)

front_behind : (a b c : Option (List ℕ)) (xs ys : List ℕ) → Appends a b xs → AppendsFront b c ys → AppendsFront a c (xs ++ ys)
front_behind a b c xs ys h (n, k) = (length xs + n, subst (λ (t : List ℕ). Appends a c t) (sym (take-append-add xs ys n)) (Appends-trans a b c xs (take n ys) h k))

front_kept : (a b c : Option (List ℕ)) (xs : List ℕ) → AppendsFront a b xs → Keeps b c → AppendsFront a c xs
front_kept a b c xs (n, h) k = (n, Appends-kept a b c (take n xs) h k)

-- ---- one text behind another

-- what waited and both texts
both_behind : (old s t front middle : List ℕ) → old ++ s ≡ front ++ middle → old ++ (s ++ t) ≡ front ++ (middle ++ t)
both_behind old s t front middle h = sym (append_assoc old s t) ∙ ap (λ (l : List ℕ). l ++ t) h ∙ append_assoc front middle t

none_from : (x : Bool) (a : Place) → PutsFrom x x a a []
none_from false a = record { front = []; written = Appends-nil a.written; rest = append-nil a.waiting; kept = refl }
none_from true a = record { written = Keeps-refl a.written; kept = refl }

behind_from : (x y z : Bool) (a b c : Place) (s t : List ℕ) → PutsFrom x y a b s → PutsFrom y z b c t → PutsFrom x z a c (s ++ t)
behind_from false false false a b c s t h k = record {
  front = h.front ++ k.front;
  written = Appends-trans a.written b.written c.written h.front k.front h.written k.written;
  rest = both_behind a.waiting s t h.front b.waiting h.rest ∙ ap (λ (l : List ℕ). h.front ++ l) k.rest ∙ sym (append_assoc h.front k.front c.waiting);
  kept = k.kept ∙ h.kept;
}
behind_from false false true a b c s t h k = record {
  written = subst (λ (l : List ℕ). AppendsFront a.written c.written l) (sym (both_behind a.waiting s t h.front b.waiting h.rest))
      (front_behind a.written b.written c.written h.front (b.waiting ++ t) h.written k.written);
  later = subst (λ (n : ℕ). n ≤ c.faults) h.kept k.later;
  rose = subst (λ (n : ℕ). Rose n c.faults) h.kept k.rose;
}
behind_from false true false a b c s t h k = absurd k
behind_from false true true a b c s t h k = record {
  written = subst (λ (l : List ℕ). AppendsFront a.written c.written l) (append_assoc a.waiting s t)
      (front_grown a.written c.written (a.waiting ++ s) t (front_kept a.written b.written c.written (a.waiting ++ s) h.written k.written));
  later = subst (λ (n : ℕ). a.faults ≤ n) (sym k.kept) h.later;
  rose = subst (λ (n : ℕ). Rose a.faults n) (sym k.kept) h.rose;
}
behind_from true false z a b c s t h k = absurd h
behind_from true true false a b c s t h k = absurd k
behind_from true true true a b c s t h k = record {
  written = Keeps-trans a.written b.written c.written h.written k.written;
  kept = k.kept ∙ h.kept;
}

pub puts_none : {a : Place} → Puts a a []
puts_none {a = a} = record { puts = none_from a.failed a }

pub puts_then : {a b c : Place} {s t : List ℕ} → Puts a b s → Puts b c t → Puts a c (s ++ t)
puts_then {a = a} {b = b} {c = c} {s = s} {t = t} h k = record { puts = behind_from a.failed b.failed c.failed a b c s t h.puts k.puts }

-- the last text of a row
pub puts_last : {a b : Place} {s : List ℕ} → Puts a b s → Puts a b (s ++ [])
puts_last {a = a} {b = b} {s = s} h = subst (λ (l : List ℕ). Puts a b l) (sym (append-nil s)) h

-- the same text
pub puts_as : {a b : Place} {s t : List ℕ} → Puts a b s → s ≡ t → Puts a b t
puts_as {a = a} {b = b} h same = subst (λ (l : List ℕ). Puts a b l) same h

-- nothing more behind a text
pub puts_end : {a b c : Place} {s : List ℕ} → Puts a b s → Puts b c [] → Puts a c s
puts_end {s = s} h k = puts_as (puts_then h k) (append-nil s)

-- ---- the pieces of the code

held_from : (x : Bool) (written : Option (List ℕ)) (faults : ℕ) (xs piece : List ℕ)
    → PutsFrom x x (place written faults (record { bytes = xs; failed = x })) (place written faults (record { bytes = xs ++ piece; failed = x })) piece
held_from false written faults xs piece = record { front = []; written = Appends-nil written; rest = refl; kept = refl }
held_from true written faults xs piece = record { written = Keeps-refl written; kept = refl }

-- a piece that waits with the others
pub held : (written : Option (List ℕ)) (faults : ℕ) (w v : Waiting) (piece : List ℕ) → v ≡ record { bytes = w.bytes ++ piece; failed = w.failed } → Puts (place written faults w) (place written faults v) piece
held written faults w v piece e =
    subst (λ (u : Waiting). Puts (place written faults w) (place written faults u) piece) (sym e) (record { puts = held_from w.failed written faults w.bytes piece })

-- the same by its parts
pub puts_parts : (a b : Option (List ℕ)) (m n : ℕ) (w v : Waiting) (xs ys : List ℕ) (x y : Bool) (text : List ℕ) → w.bytes ≡ xs → w.failed ≡ x → v.bytes ≡ ys → v.failed ≡ y
    → Puts (place a m (record { bytes = xs; failed = x })) (place b n (record { bytes = ys; failed = y })) text → Puts (place a m w) (place b n v) text
puts_parts a b m n w v xs ys x y text is_xs is_x is_ys is_y h =
    subst (λ (l : List ℕ). Puts (place a m (record { bytes = l; failed = w.failed })) (place b n v) text) (sym is_xs)
    (subst (λ (t : Bool). Puts (place a m (record { bytes = xs; failed = t })) (place b n v) text) (sym is_x)
    (subst (λ (l : List ℕ). Puts (place a m (record { bytes = xs; failed = x })) (place b n (record { bytes = l; failed = v.failed })) text) (sym is_ys)
    (subst (λ (t : Bool). Puts (place a m (record { bytes = xs; failed = x })) (place b n (record { bytes = ys; failed = t })) text) (sym is_y) h)))

flushed_from : (x y : Bool) (a b : Option (List ℕ)) (m n : ℕ) (xs : List ℕ) → PutsFrom x y (place_at a m x) (place_at b n y) xs
    → PutsFrom x y (place a m (record { bytes = xs; failed = x })) (place_at b n y) []
flushed_from false false a b m n xs h = record { front = h.front; written = h.written; rest = append-nil xs ∙ h.rest; kept = h.kept }
flushed_from false true a b m n xs h = record {
  written = subst (λ (l : List ℕ). AppendsFront a b l) (sym (append-nil xs)) h.written;
  later = h.later;
  rose = h.rose;
}
flushed_from true false a b m n xs h = absurd h
flushed_from true true a b m n xs h = record { written = h.written; kept = h.kept }

-- what waited is written
pub flushed : (a b : Option (List ℕ)) (m n : ℕ) (xs : List ℕ) (x y : Bool) → Puts (place_at a m x) (place_at b n y) xs → Puts (place a m (record { bytes = xs; failed = x })) (place_at b n y) []
flushed a b m n xs x y h = record { puts = flushed_from x y a b m n xs h.puts }

-- a write of a piece
written_on : {T E : Type 0} (r : Result T E) (a b : Option (List ℕ)) (m n : ℕ) (piece : List ℕ)
    → OnOk r (Appends a b piece) → OnErr r (AppendsFront a b piece) → HasCause m n r → Puts (place_at a m false) (place_at b n (is_err r)) piece
written_on (Ok x) a b m n piece whole front cause = record { puts = record { front = piece; written = whole; rest = sym (append-nil piece); kept = cause.kept } }
written_on (Err e) a b m n piece whole front cause = record { puts = record { written = front; later = cause.later; rose = cause.failed } }

-- where the sink has failed before
pub stays : (x : Bool) (a : Option (List ℕ)) (m : ℕ) (piece : List ℕ) → x ≡ true → Puts (place_at a m x) (place_at a m true) piece
stays x a m piece e = subst (λ (t : Bool). Puts (place_at a m t) (place_at a m true) piece) (sym e) (record { puts = record { written = Keeps-refl a; kept = refl } })

pub written_so : {T E : Type 0} (r : Result T E) (x y : Bool) (a b : Option (List ℕ)) (m n : ℕ) (piece : List ℕ)
    → OnOk r (Appends a b piece) → OnErr r (AppendsFront a b piece) → HasCause m n r → x ≡ false → y ≡ is_err r → Puts (place_at a m x) (place_at b n y) piece
written_so r x y a b m n piece whole front cause is_x is_y =
    subst (λ (t : Bool). Puts (place_at a m t) (place_at b n y) piece) (sym is_x)
    (subst (λ (t : Bool). Puts (place_at a m false) (place_at b n t) piece) (sym is_y) (written_on r a b m n piece whole front cause))

-- what waited is written, and so it is told
pub finished : (a b : Option (List ℕ)) (m n : ℕ) (w : Waiting) (xs : List ℕ) (x y z : Bool) → w.bytes ≡ xs → w.failed ≡ x → y ≡ z
    → Puts (place_at a m x) (place_at b n y) xs → Puts (place a m w) (place_at b n z) []
finished a b m n w xs x y z is_xs is_x is_y h =
    puts_parts a b m n w (record { bytes = []; failed = z }) xs [] x y [] is_xs is_x refl (sym is_y) (flushed a b m n xs x y h)

-- ---- a whole text

-- a text that was put where nothing waited, and of which nothing waits any more
pub puts_whole : {T E : Type 0} (r : Result T E) {a b : Option (List ℕ)} {m n : ℕ} {w : Waiting} {middle : Place} {text : List ℕ} → w ≡ record { bytes = []; failed = false }
    → Puts (place a m w) middle text → Puts middle (place_at b n (is_err r)) [] → Puts (place_at a m false) (place_at b n (is_err r)) text
puts_whole r {a = a} {m = m} {middle = middle} {text = text} begun h k = puts_end (subst (λ (v : Waiting). Puts (place a m v) middle text) begun h) k

whole_of : (a b : Option (List ℕ)) (m n : ℕ) (text : List ℕ) → Grows (place_at a m false) (place_at b n false) text → Appends a b text
whole_of a b m n text h = subst (λ (l : List ℕ). Appends a b l) (sym (h.rest ∙ append-nil h.front)) h.written

-- a text of which nothing waits any more is written, or a front of it where the sink failed
pub all_written : {T E : Type 0} (r : Result T E) (a b : Option (List ℕ)) (m n : ℕ) (text : List ℕ) → Puts (place_at a m false) (place_at b n (is_err r)) text → OnOk r (Appends a b text)
all_written (Ok x) a b m n text h = whole_of a b m n text h.puts
all_written (Err e) a b m n text h = tt

pub front_written : {T E : Type 0} (r : Result T E) (a b : Option (List ℕ)) (m n : ℕ) (text : List ℕ) → Puts (place_at a m false) (place_at b n (is_err r)) text → OnErr r (AppendsFront a b text)
front_written (Ok x) a b m n text h = tt
front_written (Err e) a b m n text h = h.puts.written

no_less : (m n : ℕ) → n ≡ m → m ≤ n
no_less m n e = subst (λ (k : ℕ). m ≤ k) (sym e) (omega arith)

pub cause_of : {T E : Type 0} (r : Result T E) (a b : Option (List ℕ)) (m n : ℕ) (text : List ℕ) → Puts (place_at a m false) (place_at b n (is_err r)) text → HasCause m n r
cause_of (Ok x) a b m n text h = record { later = no_less m n h.puts.kept; kept = h.puts.kept; failed = tt }
cause_of (Err e) a b m n text h = record { later = h.puts.later; kept = tt; failed = h.puts.rose }
