-- Fronts of texts, and what stands before and behind them.
use Rattle.std.proofs.Common.{◌≡◌, ◌<◌, ◌≤◌, ◌+◌, ℕ, zero, suc, refl, sym, ap, ◌∙◌, List, [], ◌∷◌, ◌++◌, length, get_or, take, drop, append-nil, append_assoc, Result, Ok, Err, OnErr, arith}
use Rattle.std.proofs.Math.Seq.{take-append-add}
use Rattle.std.proofs.lemmas.List.{at_drop_all, take_all}
use Rattle.svr_stream.specs.Puts.{Place, Puts}
use Rattle.svr_stream.proofs.Putting.{puts_none, puts_then, puts_as}
use Rattle.svr_stream.proofs.Rows.{front_at}
use Rattle.svr_derived.specs.Fronts.{PutsFront}

-- ---- fronts

pub front_none : {a : Place} {text : List ℕ} → PutsFront a a text
front_none = record { count = 0; puts = puts_none }

-- all of it is a front
pub front_all : {a b : Place} {text : List ℕ} → Puts a b text → PutsFront a b text
front_all {text = text} h = record { count = length text; puts = puts_as h (sym (take_all (length text) text (omega arith))) }

-- the same text
pub front_as : {a b : Place} {s t : List ℕ} → PutsFront a b s → s ≡ t → PutsFront a b t
front_as h same = record { count = h.count; puts = puts_as h.puts (ap (λ (l : List ℕ). take h.count l) same) }

-- behind a text that has gone
pub front_then : {a b c : Place} {s t : List ℕ} → Puts a b s → PutsFront b c t → PutsFront a c (s ++ t)
front_then {s = s} {t = t} h k = record { count = length s + k.count; puts = puts_as (puts_then h k.puts) (sym (take-append-add s t k.count)) }

-- a front of a text is one of a longer text
front_of_longer : (xs ys : List ℕ) (n : ℕ) → (m : ℕ) × (take m (xs ++ ys) ≡ take n xs)
front_of_longer [] ys zero = (0, refl)
front_of_longer [] ys (suc n) = (0, refl)
front_of_longer (x ∷ xs) ys zero = (0, refl)
front_of_longer (x ∷ xs) ys (suc n) =
    let rest = front_of_longer xs ys n in
    (suc rest.0, ap (λ (l : List ℕ). x ∷ l) rest.1)

pub front_longer : {a b : Place} {s : List ℕ} (t : List ℕ) → PutsFront a b s → PutsFront a b (s ++ t)
front_longer {s = s} t h =
    let longer = front_of_longer s t h.count in
    record { count = longer.0; puts = puts_as h.puts (sym longer.1) }

pub failed_with : {T E : Type 0} (r : Result T E) (Q : Type 0) → Q → OnErr r Q
failed_with (Ok x) Q q = tt
failed_with (Err e) Q q = q

-- ---- rows of texts, of which the first have gone

-- Of a text this front has gone from the first place to this one, and this is left.
pub record HasGone (first now : Place) (all left : List ℕ) : Type 0 where
  pub gone : List ℕ
  pub puts : Puts first now gone
  pub split : all ≡ gone ++ left

pub gone_none : {a : Place} {text : List ℕ} → HasGone a a text text
gone_none = record { gone = []; puts = puts_none; split = refl }

-- one text of the row more
gone_more : {a b c : Place} {all left s t : List ℕ} → HasGone a b all left → Puts b c s → left ≡ s ++ t → HasGone a c all t
gone_more {s = s} {t = t} h k split = record {
  gone = h.gone ++ s;
  puts = puts_then h.puts k;
  split = h.split ∙ ap (λ (l : List ℕ). h.gone ++ l) split ∙ sym (append_assoc h.gone s t);
}

-- none is left
gone_all : {a b : Place} {all left : List ℕ} → HasGone a b all left → left ≡ [] → Puts a b all
gone_all h none = puts_as h.puts (sym (append-nil h.gone) ∙ ap (λ (l : List ℕ). h.gone ++ l) (sym none) ∙ sym h.split)

-- a front of one text of the row, and no more
gone_front : {a b c : Place} {all left s : List ℕ} (t : List ℕ) → HasGone a b all left → PutsFront b c s → left ≡ s ++ t → PutsFront a c all
gone_front t h k split = front_as (front_then h.puts (front_longer t k)) (ap (λ (l : List ℕ). h.gone ++ l) (sym split) ∙ sym h.split)

-- the same of a row that is made of the elements of a list
pub row_gone : {A : Type 0} (F : List A → List ℕ) {a b c : Place} {all s : List ℕ} (xs : List A) (i : ℕ) (x : A) → HasGone a b all (F (drop i xs)) → Puts b c s
    → i < length xs → x ≡ get_or xs i x → F (x ∷ drop (i + 1) xs) ≡ s ++ F (drop (i + 1) xs) → HasGone a c all (F (drop (i + 1) xs))
row_gone F xs i x h k less is split = gone_more h k (ap F (front_at xs i x less is) ∙ split)

pub row_all : {A : Type 0} (F : List A → List ℕ) {a b : Place} {all : List ℕ} (xs : List A) (i : ℕ) → HasGone a b all (F (drop i xs)) → length xs ≤ i → F [] ≡ [] → Puts a b all
row_all F xs i h end none = gone_all h (at_drop_all F xs i end ∙ none)

pub row_front : {A : Type 0} (F : List A → List ℕ) {a b c : Place} {all s : List ℕ} (xs : List A) (i : ℕ) (x : A) → HasGone a b all (F (drop i xs)) → PutsFront b c s
    → i < length xs → x ≡ get_or xs i x → F (x ∷ drop (i + 1) xs) ≡ s ++ F (drop (i + 1) xs) → PutsFront a c all
row_front F xs i x h k less is split = gone_front (F (drop (i + 1) xs)) h k (ap F (front_at xs i x less is) ∙ split)
