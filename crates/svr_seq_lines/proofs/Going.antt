-- Lines that are written one behind the other, up to one that needs too many units.
use Rattle.std.proofs.Common.{◌≡◌, ◌≤◌, ◌<◌, ◌+◌, ◌-◌, ℕ, zero, suc, Bool, true, false, refl, sym, ◌∙◌, ap, subst, List, [], ◌∷◌, ◌++◌, length, take, append-nil, append_assoc, Option, arith}
use Rattle.std.specs.Prelude.{if◌then◌else◌}
use Rattle.std.specs.Io.KnownBytes.{Appends}
use Rattle.std.proofs.KnownBytes.{Appends-nil, Appends-trans}
use Rattle.std.proofs.Math.Seq.{take-append-add}
use Rattle.svr_edge.specs.Known.{AppendsFront}
use Rattle.svr_seq_lines.specs.Lines.{SequenceTerm, line_of, is_long, lines_from, some_long}

-- ---- fronts

-- a front of a text is one of a longer text
front_of_longer : (xs ys : List ℕ) (n : ℕ) → (m : ℕ) × (take m (xs ++ ys) ≡ take n xs)
front_of_longer [] ys zero = (0, refl)
front_of_longer [] ys (suc n) = (0, refl)
front_of_longer (x ∷ xs) ys zero = (0, refl)
front_of_longer (x ∷ xs) ys (suc n) =
    let rest = front_of_longer xs ys n in
    (suc rest.0, ap (λ (l : List ℕ). x ∷ l) rest.1)

front_grown : (a b : Option (List ℕ)) (xs ys : List ℕ) → AppendsFront a b xs → AppendsFront a b (xs ++ ys)
front_grown a b xs ys (n, h) =
    let longer = front_of_longer xs ys n in
    (longer.0, subst (λ (l : List ℕ). Appends a b l) (sym longer.1) h)

front_behind : (a b c : Option (List ℕ)) (xs ys : List ℕ) → Appends a b xs → AppendsFront b c ys → AppendsFront a c (xs ++ ys)
front_behind a b c xs ys h (n, k) = (length xs + n, subst (λ (t : List ℕ). Appends a c t) (sym (take-append-add xs ys n)) (Appends-trans a b c xs (take n ys) h k))

pub front_of_none : (a : Option (List ℕ)) (text : List ℕ) → AppendsFront a a text
front_of_none a text = (0, Appends-nil a)

-- ---- on the way

-- So many lines were written, none of which needs too many units: what is left makes them all.
pub record HasGone (x : SequenceTerm) (count gone : ℕ) (first : Option (List ℕ)) (was : ℕ) (now : Option (List ℕ)) (faults : ℕ) : Type 0 where
  pub front : List ℕ
  pub written : Appends first now front
  pub whole : lines_from x 1 count ≡ front ++ lines_from x (gone + 1) (count - gone)
  pub long : some_long x 1 count ≡ some_long x (gone + 1) (count - gone)
  pub kept : faults ≡ was

pub none_gone : (x : SequenceTerm) (count : ℕ) (a : Option (List ℕ)) (m : ℕ) → HasGone x count 0 a m a m
none_gone x count a m =
    let all : count ≡ count - 0 = omega arith in
    record {
      front = [];
      written = Appends-nil a;
      whole = ap (λ (k : ℕ). lines_from x 1 k) all;
      long = ap (λ (k : ℕ). some_long x 1 k) all;
      kept = refl;
    }

one_left : (count gone : ℕ) → gone < count → count - gone ≡ suc (count - (gone + 1))
one_left count gone less = omega (arith, less)

module _ (x : SequenceTerm) (count gone : ℕ) where
  -- what is left begins with the next line
  next_line : gone < count → lines_from x (gone + 1) (count - gone) ≡ line_of x (gone + 1) ++ (if is_long x (gone + 1) then [] else lines_from x (gone + 1 + 1) (count - (gone + 1)))
  next_line less = ap (λ (k : ℕ). lines_from x (gone + 1) k) (one_left count gone less)

  next_long : gone < count → some_long x (gone + 1) (count - gone) ≡ if is_long x (gone + 1) then true else some_long x (gone + 1 + 1) (count - (gone + 1))
  next_long less = ap (λ (k : ℕ). some_long x (gone + 1) k) (one_left count gone less)

  -- a line that is not the last
  pub one_gone : (a b c : Option (List ℕ)) (m n p : ℕ) (long : Bool) → gone < count → HasGone x count gone a m b n → long ≡ is_long x (gone + 1) → long ≡ false
      → Appends b c (line_of x (gone + 1)) → p ≡ n → HasGone x count (gone + 1) a m c p
  one_gone a b c m n p long less h is short line kept =
      let here = line_of x (gone + 1) in
      let behind = lines_from x (gone + 1 + 1) (count - (gone + 1)) in
      let so : is_long x (gone + 1) ≡ false = sym is ∙ short in
      record {
        front = h.front ++ here;
        written = Appends-trans a b c h.front here h.written line;
        whole = h.whole ∙ ap (λ (l : List ℕ). h.front ++ l) (next_line less ∙ ap (λ (t : Bool). here ++ (if t then [] else behind)) so) ∙ sym (append_assoc h.front here behind);
        long = h.long ∙ next_long less ∙ ap (λ (t : Bool). if t then true else some_long x (gone + 1 + 1) (count - (gone + 1))) so;
        kept = kept ∙ h.kept;
      }

  -- one that needs too many units is the last
  pub last_written : (a b c : Option (List ℕ)) (m n : ℕ) (long : Bool) → gone < count → HasGone x count gone a m b n → long ≡ is_long x (gone + 1) → long ≡ true
      → Appends b c (line_of x (gone + 1)) → Appends a c (lines_from x 1 count)
  last_written a b c m n long less h is so line =
      let here = line_of x (gone + 1) in
      let behind = lines_from x (gone + 1 + 1) (count - (gone + 1)) in
      subst (λ (l : List ℕ). Appends a c l)
      (sym (h.whole ∙ ap (λ (l : List ℕ). h.front ++ l) (next_line less ∙ ap (λ (t : Bool). here ++ (if t then [] else behind)) (sym is ∙ so) ∙ append-nil here)))
      (Appends-trans a b c h.front here h.written line)

  pub last_is_long : (a b : Option (List ℕ)) (m n : ℕ) (long : Bool) → gone < count → HasGone x count gone a m b n → long ≡ is_long x (gone + 1) → long ≡ true → some_long x 1 count ≡ true
  last_is_long a b m n long less h is so = h.long ∙ next_long less ∙ ap (λ (t : Bool). if t then true else some_long x (gone + 1 + 1) (count - (gone + 1))) (sym is ∙ so)

  -- a front of the next line is a front of them all
  pub cut_off : (a b c : Option (List ℕ)) (m n : ℕ) → gone < count → HasGone x count gone a m b n → AppendsFront b c (line_of x (gone + 1)) → AppendsFront a c (lines_from x 1 count)
  cut_off a b c m n less h line =
      let here = line_of x (gone + 1) in
      let rest = if is_long x (gone + 1) then [] else lines_from x (gone + 1 + 1) (count - (gone + 1)) in
      subst (λ (l : List ℕ). AppendsFront a c l)
      (sym (h.whole ∙ ap (λ (l : List ℕ). h.front ++ l) (next_line less)))
      (front_behind a b c h.front (here ++ rest) h.written (front_grown b c here rest line))

-- all have gone
pub all_written : (x : SequenceTerm) (count gone : ℕ) (a b : Option (List ℕ)) (m n : ℕ) → count ≤ gone → HasGone x count gone a m b n → Appends a b (lines_from x 1 count)
all_written x count gone a b m n most h =
    let none : count - gone ≡ 0 = omega (arith, most) in
    subst (λ (l : List ℕ). Appends a b l)
    (sym (h.whole ∙ ap (λ (k : ℕ). h.front ++ lines_from x (gone + 1) k) none ∙ append-nil h.front))
    h.written

pub none_is_long : (x : SequenceTerm) (count gone : ℕ) (a b : Option (List ℕ)) (m n : ℕ) → count ≤ gone → HasGone x count gone a m b n → some_long x 1 count ≡ false
none_is_long x count gone a b m n most h =
    let none : count - gone ≡ 0 = omega (arith, most) in
    h.long ∙ ap (λ (k : ℕ). some_long x (gone + 1) k) none
