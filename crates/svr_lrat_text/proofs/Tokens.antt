-- Tokens one by one
use Rattle.std.proofs.Common.{◌≡◌, ℕ, suc, zero, ◌+◌, ◌≤◌, Bool, true, false, not, ◌==◌, List, [], ◌∷◌, length, take, drop, refl, sym, ap, ◌∙◌, arith, subst, min}
use Rattle.std.proofs.lemmas.List.{length-take-le}
use Rattle.std.specs.List.{list_all}
use Rattle.std.proofs.lemmas.Bool.{and_parts, not-true, cond_both, both_ways}
use Rattle.svr_lrat_text.specs.declared.word.Word.{Word}
use Rattle.svr_lrat_text.specs.declared.word.Word.TheVariants as w
use Rattle.svr_lrat_text.specs.declared.cursor.Token.{Token}
use Rattle.svr_lrat_text.specs.declared.header.Part.{Part}
use Rattle.svr_lrat_text.specs.Words.{is_blank, is_of_kind, Ends, run, tokens, tokens_in, after_byte, is_header, word_of, token_word, number_word, signed_word, signed_number, is_numeral, value_of, is_same}
use Rattle.svr_lrat_text.specs.declared.limits.TheConstants.{MOST_SIZE}
use Rattle.svr_lrat_text.specs.Reading.{behind}

-- ---- before the header

pub in_more : (p : Part) (at b : ℕ) (bs : List ℕ) → is_header (after_byte p b) ≡ false → tokens_in p at (b ∷ bs) ≡ tokens_in (after_byte p b) (at + 1) bs
unfolding tokens_in
in_more p at b bs h = rw (h, tokens_in) refl

pub in_found : (p : Part) (at b : ℕ) (bs : List ℕ) → is_header (after_byte p b) ≡ true → tokens_in p at (b ∷ bs) ≡ tokens true at (b ∷ bs)
unfolding tokens_in
in_found p at b bs h = rw (h, tokens_in) refl

pub in_end : (p : Part) (at : ℕ) → tokens_in p at [] ≡ tokens true at []
unfolding tokens_in
in_end p at = refl

-- ---- one token

further : (at n : ℕ) → at + 1 + n ≡ at + suc n
further at n = omega arith

none_further : (at : ℕ) → at + 0 ≡ at
none_further at = omega arith

-- blanks are passed
pub gap_read : (at n : ℕ) (text : List ℕ) → n ≤ length text → list_all (is_of_kind true) (take n text) ≡ true → tokens true at text ≡ tokens true (at + n) (drop n text)
unfolding tokens
gap_read at zero text h p = ap (λ z. tokens true z text) (sym (none_further at))
gap_read at (suc n) [] h p = absurd (omega arith)
gap_read at (suc n) (b ∷ bs) h p =
    let q = and_parts (is_blank b) (list_all (is_of_kind true) (take n bs)) p in
    let e : tokens true at (b ∷ bs) ≡ tokens true (at + 1) bs = rw q.0 refl in
    let r : tokens true (at + 1) bs ≡ tokens true (at + 1 + n) (drop n bs) = gap_read (at + 1) n bs (omega arith) q.1 in
    e ∙ r ∙ ap (λ z. tokens true z (drop n bs)) (further at n)

run_is : (n : ℕ) (bs : List ℕ) → n ≤ length bs → list_all (is_of_kind false) (take n bs) ≡ true → Ends false (drop n bs) → run bs ≡ take n bs
run_is zero [] h p s = refl
run_is zero (b ∷ bs) h p s = let e : is_blank b ≡ true = blank (is_blank b) s in rw e refl
  where
    blank : (t : Bool) → not t ≡ false → t ≡ true
    blank true e = refl
    blank false e = sym e
run_is (suc n) [] h p s = absurd (omega arith)
run_is (suc n) (b ∷ bs) h p s =
    let q = and_parts (not (is_blank b)) (list_all (is_of_kind false) (take n bs)) p in
    let e : is_blank b ≡ false = not-true (is_blank b) q.0 in
    let r : run bs ≡ take n bs = run_is n bs (omega arith) q.1 s in
    rw e (ap (λ z. b ∷ z) r)

-- where no token starts, it matters not what stands before
stopped_same : (at : ℕ) (bs : List ℕ) → Ends false bs → tokens false at bs ≡ tokens true at bs
unfolding tokens
stopped_same at [] s = refl
stopped_same at (b ∷ bs) s = let e : not (is_blank b) ≡ false = s in rw e refl

word_passed : (at n : ℕ) (bs : List ℕ) → n ≤ length bs → list_all (is_of_kind false) (take n bs) ≡ true → Ends false (drop n bs) → tokens false at bs ≡ tokens true (at + n) (drop n bs)
unfolding tokens
word_passed at zero bs h p s = stopped_same at bs s ∙ ap (λ z. tokens true z bs) (sym (none_further at))
word_passed at (suc n) [] h p s = absurd (omega arith)
word_passed at (suc n) (b ∷ bs) h p s =
    let q = and_parts (not (is_blank b)) (list_all (is_of_kind false) (take n bs)) p in
    let e : is_blank b ≡ false = not-true (is_blank b) q.0 in
    let f : tokens false at (b ∷ bs) ≡ tokens false (at + 1) bs = rw e refl in
    let r : tokens false (at + 1) bs ≡ tokens true (at + 1 + n) (drop n bs) = word_passed (at + 1) n bs (omega arith) q.1 s in
    f ∙ r ∙ ap (λ z. tokens true z (drop n bs)) (further at n)

-- a token is not the end of the text
behind_signed : (negative : Bool) (bs : List ℕ) (ts : List Token) → behind (signed_word negative bs) ts ≡ ts
behind_signed negative bs ts = cond_both (is_numeral bs) (w.Number (signed_number negative (min (value_of bs) MOST_SIZE))) w.Other (λ x. behind x ts ≡ ts) (λ e. refl) (λ e. refl)

behind_number : (bs : List ℕ) (ts : List Token) → behind (number_word bs) ts ≡ ts
behind_number [] ts = refl
behind_number (b ∷ bs) ts = cond_both (b == 45) (signed_word true bs) (signed_word false (b ∷ bs)) (λ x. behind x ts ≡ ts) (λ e. behind_signed true bs ts) (λ e. behind_signed false (b ∷ bs) ts)

pub behind_word : (bs : List ℕ) (ts : List Token) → behind (word_of bs) ts ≡ ts
behind_word bs ts =
    cond_both (is_same bs (112 ∷ [])) w.Problem _ (λ x. behind x ts ≡ ts) (λ e. refl)
    (λ e. cond_both (is_same bs (99 ∷ 110 ∷ 102 ∷ [])) w.Cnf _ (λ x. behind x ts ≡ ts) (λ f. refl)
    (λ f. cond_both (is_same bs (100 ∷ [])) w.Delete (number_word bs) (λ x. behind x ts ≡ ts) (λ g. refl) (λ g. behind_number bs ts)))

blank_ends : (b : ℕ) → is_blank b ≡ false → not (is_blank b) ≡ false → ⊥
blank_ends b e f = both_ways (not (is_blank b)) f (ap not e)

-- the token that begins where no blank stands
pub one_token : (at n : ℕ) (from : List ℕ) → Ends true from → n ≤ length from → list_all (is_of_kind false) (take n from) ≡ true → Ends false (drop n from)
    → tokens true at from ≡ record { at = at; word = token_word (take n from) } ∷ behind (token_word (take n from)) (tokens true (at + n) (drop n from))
unfolding tokens
one_token at zero [] g h p s = refl
one_token at (suc n) [] g h p s = refl
one_token at zero (b ∷ bs) g h p s = absurd (blank_ends b g s)
one_token at (suc n) (b ∷ bs) g h p s =
    let e : is_blank b ≡ false = g in
    let q = and_parts (not (is_blank b)) (list_all (is_of_kind false) (take n bs)) p in
    let r : run bs ≡ take n bs = run_is n bs (omega arith) q.1 s in
    let t : tokens false (at + 1) bs ≡ tokens true (at + suc n) (drop n bs) = word_passed (at + 1) n bs (omega arith) q.1 s ∙ ap (λ z. tokens true z (drop n bs)) (further at n) in
    let first : tokens true at (b ∷ bs) ≡ record { at = at; word = word_of (b ∷ run bs) } ∷ tokens false (at + 1) bs = rw e refl in
    first
    ∙ ap (λ z. record { at = at; word = word_of (b ∷ z) } ∷ tokens false (at + 1) bs) r
    ∙ ap (λ z. record { at = at; word = word_of (b ∷ take n bs) } ∷ z) (t ∙ sym (behind_word (b ∷ take n bs) (tokens true (at + suc n) (drop n bs))))

-- the token behind a gap, as the reader cuts it off
pub next_read : (at n m : ℕ) (text gap from bytes rest : List ℕ) (word : Word) → n ≤ length text → list_all (is_of_kind true) (take n text) ≡ true → Ends true (drop n text)
    → gap ≡ take n text → from ≡ drop n text → m ≤ length from → list_all (is_of_kind false) (take m from) ≡ true → Ends false (drop m from) → bytes ≡ take m from → rest ≡ drop m from
    → word ≡ token_word bytes → tokens true at text ≡ record { at = at + length gap; word = word } ∷ behind word (tokens true (at + length gap + length bytes) rest)
next_read at n m text gap from bytes rest word h p s g f k q t b r e =
    let long : n ≡ length gap = sym (ap length g ∙ length-take-le n text h) in
    let wide : m ≡ length bytes = sym (ap length b ∙ length-take-le m from k) in
    let same : token_word (take m from) ≡ word = ap token_word (sym b) ∙ sym e in
    let left : drop m from ≡ rest = sym r in
    gap_read at n text h p ∙ ap (tokens true (at + n)) (sym f) ∙ one_token (at + n) m from (subst (Ends true) (sym f) s) k q t
    ∙ (λ i. record { at = at + long i; word = same i } ∷ behind (same i) (tokens true (at + long i + wide i) (left i)))
