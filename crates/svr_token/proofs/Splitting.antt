-- A text is cut in one way only where bytes of a class end.
use Rattle.std.proofs.Common.{◌≡◌, ◌≤◌, ◌<◌, ◌-◌, ℕ, suc, List, [], ◌∷◌, ◌++◌, length, take, drop, get_or, ap, Bool, true, false, ◌&&◌, refl, sym, ◌∙◌, subst, arith, ◌==◌}
use Rattle.std.proofs.lemmas.Bool.Decides.{nat_tests}
use Rattle.std.proofs.lemmas.List.{take_rest}
use Rattle.std.specs.List.{list_all}
use Rattle.std.specs.Char.{is_digit}
use Rattle.svr_token.specs.Bytes.{Stops, is_digit_or_underscore}
use Rattle.svr_token.specs.Lexemes.{IsDigits, IsSize}
use Rattle.svr_token.specs.Literals.{SplitsDigits}

pub and_left : (a b : Bool) → (a && b) ≡ true → a ≡ true
and_left true b e = refl
and_left false b e = e

pub and_right : (a b : Bool) → (a && b) ≡ true → b ≡ true
and_right true b e = e
and_right false b e = absurd (cc)

pub and_both : (a b : Bool) → a ≡ true → b ≡ true → (a && b) ≡ true
and_both true b e f = f
and_both false b e f = absurd (cc)

pub nothing_left : (xs : List ℕ) → length xs ≡ 0 → xs ≡ []
nothing_left [] e = refl
nothing_left (x ∷ xs) e = absurd (omega arith)

pub no_byte : (xs : List ℕ) → length xs < 1 → xs ≡ []
no_byte [] none = refl
no_byte (x ∷ xs) none = absurd (omega arith)

-- the first byte, and what stands behind it
pub first_byte : (xs : List ℕ) (b : ℕ) → 1 ≤ length xs → get_or xs 0 0 ≡ b → xs ≡ b ∷ take (length xs - 1) (drop 1 xs)
first_byte [] b some is = absurd (omega arith)
first_byte (y ∷ ys) b some is = ap (λ z. z ∷ ys) is ∙ ap (λ zs. b ∷ zs) (sym (take_rest (y ∷ ys) 1))

pub empty_is : (xs : List ℕ) (b : Bool) → b ≡ (length xs == 0) → b ≡ true → xs ≡ []
empty_is [] b e t = refl
empty_is (x ∷ xs) b e t = absurd (none (length xs) (sym t ∙ e))
  where
    none : (n : ℕ) → true ≡ (suc n == 0) → ⊥
    none n e = grind (arith, nat_tests)

pub empty_not : (xs : List ℕ) (b : Bool) → b ≡ (length xs == 0) → b ≡ false → xs ≡ [] → ⊥
empty_not [] b e t same = let none : false ≡ true = sym t ∙ e in absurd (cc (none))
empty_not (x ∷ xs) b e t same = absurd (cc (same))

-- a byte that stops a run is no byte of it
pub stops_not : (test : ℕ → Bool) (b c : ℕ) (bs cs : List ℕ) → Stops test (b ∷ bs) → b ∷ bs ≡ c ∷ cs → test c ≡ true → ⊥
stops_not test b c bs cs stops e pass =
    let same : b ≡ c = cc in
    let not : test c ≡ false = subst (λ x. test x ≡ false) same stops in
    absurd (cc)

pub split_one : (test : ℕ → Bool) (front rest other more : List ℕ) → list_all test front ≡ true → Stops test rest → list_all test other ≡ true → Stops test more
    → front ++ rest ≡ other ++ more → (front ≡ other) × (rest ≡ more)
split_one test [] rest [] more p s q t e = (refl, e)
split_one test [] [] (c ∷ cs) more p s q t e = absurd (cc)
split_one test [] (b ∷ bs) (c ∷ cs) more p s q t e = absurd (stops_not test b c bs (cs ++ more) s e (and_left _ _ q))
split_one test (b ∷ bs) rest [] [] p s q t e = absurd (cc)
split_one test (b ∷ bs) rest [] (c ∷ cs) p s q t e = absurd (stops_not test c b cs (bs ++ rest) t (sym e) (and_left _ _ p))
split_one test (b ∷ bs) rest (c ∷ cs) more p s q t e =
    let same : b ≡ c = cc in
    let tail : bs ++ rest ≡ cs ++ more = cc in
    let both : (bs ≡ cs) × (rest ≡ more) = split_one test bs rest cs more (and_right _ _ p) s (and_right _ _ q) t tail in
    let whole : b ∷ bs ≡ c ∷ cs = cc (same, both.0) in
    (whole, both.1)

-- no front that passes is longer than one behind which the run stops
pub split_most : (test : ℕ → Bool) (front rest other more : List ℕ) → Stops test rest → list_all test other ≡ true → front ++ rest ≡ other ++ more → length other ≤ length front
split_most test front rest [] more s q e = omega arith
split_most test [] [] (c ∷ cs) more s q e = absurd (cc)
split_most test [] (b ∷ bs) (c ∷ cs) more s q e = absurd (stops_not test b c bs (cs ++ more) s e (and_left _ _ q))
split_most test (b ∷ bs) rest (c ∷ cs) more s q e =
    let tail : bs ++ rest ≡ cs ++ more = cc in
    more_of (split_most test bs rest cs more s (and_right _ _ q) tail)
  where
    more_of : length cs ≤ length bs → length (c ∷ cs) ≤ length (b ∷ bs)
    more_of most = omega arith

digit_passes : (base b : ℕ) → is_digit b base ≡ true → is_digit_or_underscore base b ≡ true
digit_passes base b p = rw p refl

-- digits pass as digits or underscores
pub digits_pass : (base : ℕ) (bs : List ℕ) → IsDigits base bs → list_all (is_digit_or_underscore base) bs ≡ true
digits_pass base [] d = absurd d
digits_pass base (b ∷ bs) d = and_both _ _ (digit_passes base b d.0) d.1

pub size_passes : (bs : List ℕ) → IsSize bs → list_all (is_digit_or_underscore 10) bs ≡ true
size_passes [] d = refl
size_passes (b ∷ bs) d = digits_pass 10 (b ∷ bs) d

-- digits that go as far as they can are at least as long as any
pub digits_most : (base : ℕ) (text front rest other more : List ℕ) → SplitsDigits base text front rest → IsDigits base other → text ≡ other ++ more → length other ≤ length front
digits_most base text front rest [] more split d e = absurd d
digits_most base text [] [] (c ∷ cs) more split d e = absurd (cc (split.whole, e))
digits_most base text [] (b ∷ bs) (c ∷ cs) more split d e = absurd (stops_not (λ x. is_digit x base) b c bs (cs ++ more) split.ends (sym split.whole ∙ e) d.0)
digits_most base text (b ∷ bs) rest (c ∷ cs) more split d e = split_most (is_digit_or_underscore base) (b ∷ bs) rest (c ∷ cs) more split.ends.1 (digits_pass base (c ∷ cs) d) (sym split.whole ∙ e)

-- a size before a quote is all the digits that the text begins with
pub size_one : (text front rest size tail : List ℕ) → SplitsDigits 10 text front rest → IsSize size → text ≡ size ++ (39 ∷ tail) → (front ≡ size) × (rest ≡ 39 ∷ tail)
size_one text [] rest [] tail split d e = (refl, sym split.whole ∙ e)
size_one text [] [] (c ∷ cs) tail split d e = absurd (cc (split.whole, e))
size_one text [] (b ∷ bs) (c ∷ cs) tail split d e = absurd (stops_not (λ x. is_digit x 10) b c bs (cs ++ (39 ∷ tail)) split.ends (sym split.whole ∙ e) d.0)
size_one text (b ∷ bs) rest [] tail split d e = absurd (quote_no_digit b (split.ends.0.0) (head (sym split.whole ∙ e)))
  where
    quote_no_digit : (b : ℕ) → is_digit b 10 ≡ true → b ≡ 39 → ⊥
    quote_no_digit b p same = let no : false ≡ true = subst (λ x. is_digit x 10 ≡ true) same p in absurd (cc)

    head : b ∷ (bs ++ rest) ≡ 39 ∷ tail → b ≡ 39
    head e = cc
size_one text (b ∷ bs) rest (c ∷ cs) tail split d e =
    split_one (is_digit_or_underscore 10) (b ∷ bs) rest (c ∷ cs) (39 ∷ tail) (digits_pass 10 (b ∷ bs) split.ends.0) split.ends.1 (digits_pass 10 (c ∷ cs) d) refl (sym split.whole ∙ e)
