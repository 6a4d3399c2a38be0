-- The digits of a number, as a reader sees them
use Rattle.std.proofs.Common.{◌≡◌, ℕ, ◌+◌, ◌-◌, ◌*◌, ◌/◌, ◌%◌, ◌<◌, ◌≤◌, ◌^◌, min, Bool, true, false, ◌&&◌, ◌||◌, ◌==◌, nat_eq, nat_le, List, [], ◌∷◌, ◌++◌, length, get_or, fold, decimal, refl, ap, ◌∙◌, arith}
use Rattle.std.specs.List.{list_all}
use Rattle.std.proofs.lemmas.Bool.{and_parts, and_from, and_left, or_from, le-leb, leb-true, ne_eqb, not_from_false}
use Rattle.std.proofs.lemmas.Fmt.{decimal_by_steps}
use Rattle.std.proofs.lemmas.List.{length-append}
use Rattle.std.proofs.lemmas.List.Folds.{list_all-append}
use Rattle.svr_lrat_text.specs.declared.limits.TheConstants.{MOST_SIZE}
use Rattle.svr_lrat_text.specs.Words.{is_blank, is_of_kind, is_digit, is_numeral, with_digit, value_of, signed_number, signed_word, number_word, word_of, is_same}
use Rattle.svr_lrat_text.specs.File.{plain, list_words}

-- digits that write a number
pub record IsWritten (n : ℕ) (ds : List ℕ) : Type 0 where
  pub digits : list_all is_digit ds ≡ true
  pub value : value_of ds ≡ n
  pub some : 0 < length ds

digit-is : (n : ℕ) → n < 10 → is_digit (48 + n) ≡ true
digit-is n h = and_from (nat_le 48 (48 + n)) (nat_le (48 + n) 57) (le-leb 48 (48 + n) (omega arith)) (le-leb (48 + n) 57 (omega arith))

value-push : (ds : List ℕ) (a d : ℕ) → fold with_digit a (ds ++ d ∷ []) ≡ with_digit (fold with_digit a ds) d
value-push [] a d = refl
value-push (x ∷ ds) a d = value-push ds (with_digit a x) d

written-one : (n : ℕ) → n < 10 → IsWritten n ((48 + n) ∷ [])
written-one n h = record {
  digits = and_from (is_digit (48 + n)) true (digit-is n h) refl;
  value = let e : 0 * 10 + (48 + n - 48) ≡ n = omega arith in e;
  some = omega arith;
}

written-more : (n : ℕ) (ds : List ℕ) → 10 ≤ n → IsWritten (n / 10) ds → IsWritten n (ds ++ ((48 + n % 10) ∷ []))
written-more n ds h r = record {
  digits = list_all-append is_digit ds ((48 + n % 10) ∷ []) ∙ and_from (list_all is_digit ds) (is_digit (48 + n % 10) && true) r.digits (and_from (is_digit (48 + n % 10)) true (digit-is (n % 10) (omega arith)) refl);
  value = value-push ds 0 (48 + n % 10) ∙ (let v : fold with_digit 0 ds ≡ n / 10 = r.value in let e : fold with_digit 0 ds * 10 + (48 + n % 10 - 48) ≡ n = omega arith in e);
  some = let s : 0 < length ds = r.some in let e : length (ds ++ ((48 + n % 10) ∷ [])) ≡ length ds + 1 = length-append ds ((48 + n % 10) ∷ []) in omega arith;
}

pub written : (n : ℕ) → n < 2 ^ 64 → IsWritten n (decimal n)
written n h = decimal_by_steps IsWritten written-one written-more n h

-- ---- digits are not blank

digit-low : (b : ℕ) → is_digit b ≡ true → 48 ≤ b
digit-low b e = leb-true 48 b (and_parts (nat_le 48 b) (nat_le b 57) e).0

digit-high : (b : ℕ) → is_digit b ≡ true → b ≤ 57
digit-high b e = leb-true b 57 (and_parts (nat_le 48 b) (nat_le b 57) e).1

digit-solid : (b : ℕ) → is_digit b ≡ true → is_of_kind false b ≡ true
digit-solid b e =
    let l : 48 ≤ b = digit-low b e in
    not_from_false (is_blank b)
    (or_from (b == 32) ((b == 9) || ((b == 10) || ((b == 13) || false))) (ne_eqb b 32 (λ q. absurd (omega arith)))
    (or_from (b == 9) ((b == 10) || ((b == 13) || false)) (ne_eqb b 9 (λ q. absurd (omega arith)))
    (or_from (b == 10) ((b == 13) || false) (ne_eqb b 10 (λ q. absurd (omega arith)))
    (or_from (b == 13) false (ne_eqb b 13 (λ q. absurd (omega arith))) refl))))

pub digits-solid : (ds : List ℕ) → list_all is_digit ds ≡ true → list_all (is_of_kind false) ds ≡ true
digits-solid [] e = refl
digits-solid (b ∷ ds) e =
    let p = and_parts (is_digit b) (list_all is_digit ds) e in
    and_from (is_of_kind false b) (list_all (is_of_kind false) ds) (digit-solid b p.0) (digits-solid ds p.1)

-- ---- the word that they are

-- bytes that are no letter
letterless : (bs : List ℕ) → is_same bs (112 ∷ []) ≡ false → is_same bs (99 ∷ 110 ∷ 102 ∷ []) ≡ false → is_same bs (100 ∷ []) ≡ false → word_of bs ≡ number_word bs
letterless bs p q r = rw (p, q, r, word_of) refl

unsigned-word : (b : ℕ) (ds : List ℕ) → (b == 45) ≡ false → number_word (b ∷ ds) ≡ signed_word false (b ∷ ds)
unsigned-word b ds e = rw (e, number_word) refl

numeral-word : (negative : Bool) (ds : List ℕ) → is_numeral ds ≡ true → signed_word negative ds ≡ get_or (list_words (signed_number negative (min (value_of ds) MOST_SIZE) ∷ [])) 0 (plain 0)
numeral-word negative ds e = rw (e, signed_word) refl

numeral-is : (ds : List ℕ) → list_all is_digit ds ≡ true → 0 < length ds → is_numeral ds ≡ true
numeral-is [] e h = absurd (omega arith)
numeral-is (b ∷ ds) e h = e

sized : (n : ℕ) (ds : List ℕ) → n ≤ MOST_SIZE → IsWritten n ds → min (value_of ds) MOST_SIZE ≡ n
sized n ds h r = let v : value_of ds ≡ n = r.value in ap (λ k. min k MOST_SIZE) v ∙ (let e : min n MOST_SIZE ≡ n = omega arith in e)

signed-is : (negative : Bool) (n : ℕ) (ds : List ℕ) → n ≤ MOST_SIZE → IsWritten n ds → signed_word negative ds ≡ get_or (list_words (signed_number negative n ∷ [])) 0 (plain 0)
signed-is negative n ds h r = numeral-word negative ds (numeral-is ds r.digits r.some) ∙ ap (λ k. get_or (list_words (signed_number negative k ∷ [])) 0 (plain 0)) (sized n ds h r)

not-letter : (b c : ℕ) (bs cs : List ℕ) → is_digit b ≡ true → 57 < c → is_same (b ∷ bs) (c ∷ cs) ≡ false
not-letter b c bs cs e h = let k : b ≤ 57 = digit-high b e in and_left (nat_eq b c) (is_same bs cs) (ne_eqb b c (λ q. absurd (omega arith)))

pub plain-word : (n : ℕ) (ds : List ℕ) → n ≤ MOST_SIZE → IsWritten n ds → word_of ds ≡ plain n
plain-word n [] h r = absurd (let s = r.some in omega arith)
plain-word n (b ∷ ds) h r =
    let d : is_digit b ≡ true = (and_parts (is_digit b) (list_all is_digit ds) r.digits).0 in
    let low : 48 ≤ b = digit-low b d in
    letterless (b ∷ ds) (not-letter b 112 ds [] d (omega arith)) (not-letter b 99 ds (110 ∷ 102 ∷ []) d (omega arith)) (not-letter b 100 ds [] d (omega arith))
    ∙ unsigned-word b ds (ne_eqb b 45 (λ q. absurd (omega arith)))
    ∙ signed-is false n (b ∷ ds) h r

pub negative-word : (n : ℕ) (ds : List ℕ) → n ≤ MOST_SIZE → 0 < n → IsWritten n ds → word_of (45 ∷ ds) ≡ get_or (list_words (record { negative = true; size = n } ∷ [])) 0 (plain 0)
negative-word n ds h p r =
    signed-is true n ds h r ∙ ap (λ (b : Bool). get_or (list_words (record { negative = b; size = n } ∷ [])) 0 (plain 0)) (not_from_false (n == 0) (ne_eqb n 0 (λ q. absurd (omega arith))))
