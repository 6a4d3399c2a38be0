-- The longest literal that a text begins with.
use Rattle.std.proofs.Common.{◌≡◌, ◌≤◌, ◌+◌, ℕ, List, [], ◌∷◌, ◌++◌, length, Bool, true, false, Some, None, refl, sym, ap, ◌∙◌, subst, append_assoc, arith, codes, length-append, inl, inr}
use Rattle.std.specs.Char.{is_digit}
use Rattle.svr_token.specs.Bytes.{Stops, base_of}
use Rattle.svr_token.specs.Lexemes.{IsHead, IsDigits, IsSign, Literal, decimal, based, unbased, Writes, radix_of}
use Rattle.svr_token.specs.Faults.{BeginsWithHead, LacksDigit}
use Rattle.svr_token.specs.Literals.{SplitsDigits, HasLiteral, HasNoLiteral}
use Rattle.svr_token.specs.declared.radix.Radix.{Radix}
use Rattle.svr_token.proofs.Splitting.{digits_most}
use Rattle.svr_token.proofs.Heads.{head_one, head_splits, head_tail, SameHead}

-- what a based literal that the text begins with says of the text
abbrev pub head_of : (text bytes more size digits head : List ℕ) (signed : Bool) (radix : Radix) → IsHead size signed radix head → bytes ≡ head ++ digits → text ≡ bytes ++ more
    → BeginsWithHead text size signed radix (digits ++ more)
head_of text bytes more size digits head signed radix is e w = record {
  head = head;
  is_head = is;
  whole = w ∙ ap (λ t. t ++ more) e ∙ append_assoc head digits more;
}

-- digits are no longer than the size in front of a quote
size_most : (text size tail digits more : List ℕ) → SplitsDigits 10 text size tail → IsDigits 10 digits → text ≡ digits ++ more → length digits ≤ length size
size_most text size tail digits more split d e = digits_most 10 text size tail digits more split d e

-- no head is '0 or '1
pub unbased_no_head : (text size after rest : List ℕ) (signed : Bool) (radix : Radix) (b : ℕ) → text ≡ 39 ∷ (b ∷ rest) → is_digit b 10 ≡ true → (radix_of b ≡ None) × (b ≡ 115 → ⊥) × (b ≡ 83 → ⊥)
    → BeginsWithHead text size signed radix after → ⊥
unbased_no_head text size after rest signed radix b e d apart h =
    let split : SplitsDigits 10 text [] text = record { whole = refl; ends = subst (Stops (λ x. is_digit x 10)) (sym e) refl } in
    let tails = head_tail text size [] text signed radix after split h in
    let tail : b ∷ rest ≡ h.is_head.sign ++ (h.is_head.letter ∷ after) = same (sym e ∙ tails.1) in
    clash signed h.is_head.sign h.is_head.letter h.is_head.signs h.is_head.names tail
  where
    same : {xs ys : List ℕ} → 39 ∷ xs ≡ 39 ∷ ys → xs ≡ ys
    same p = cc

    clash : (signed : Bool) (sign : List ℕ) (letter : ℕ) → IsSign signed sign → radix_of letter ≡ Some radix → b ∷ rest ≡ sign ++ (letter ∷ after) → ⊥
    clash false sign letter is named e =
        let same : b ≡ letter = cc in
        let bad : None ≡ Some radix = sym apart.0 ∙ ap radix_of same ∙ named in
        absurd (cc (bad))
    clash true sign letter (inl is) named e = apart.1 (cc)
    clash true sign letter (inr is) named e = apart.2 (cc)

-- the based literal of a head and of the digits behind it is the longest
based_longest : (text size rest digits behind : List ℕ) (signed : Bool) (radix : Radix) (h : BeginsWithHead text size signed radix rest)
    → SplitsDigits (base_of radix) rest digits behind
    → (other : Literal) (front more : List ℕ) → Writes other front → text ≡ front ++ more → length front ≤ length h.head + length digits
based_longest text size rest digits behind signed radix h split (decimal ds) front more (d, is) e =
    let most : length ds ≤ length size = size_most text size _ ds more (head_splits text size signed radix rest h) d (e ∙ ap (λ t. t ++ more) is) in
    let len : length h.head ≡ length size + length (39 ∷ (h.is_head.sign ++ (h.is_head.letter ∷ []))) = ap length h.is_head.whole ∙ length-append size _ in
    let same : length front ≡ length ds = ap length is in
    omega arith
based_longest text size rest digits behind signed radix h split (based sz sg rx ds) front more (head, is, d, w) e =
    let g : BeginsWithHead text sz sg rx (ds ++ more) = head_of text front more sz ds head sg rx is w e in
    let one : SameHead size sz signed sg radix rx rest (ds ++ more) = head_one text size sz signed sg radix rx rest (ds ++ more) h g in
    let d' : IsDigits (base_of radix) ds = subst (λ r. IsDigits (base_of r) ds) (sym one.radices) d in
    let most : length ds ≤ length digits = digits_most (base_of radix) rest digits behind ds more split d' one.rests in
    let whole : h.head ++ rest ≡ head ++ (ds ++ more) = sym h.whole ∙ g.whole in
    let lens : length h.head + length rest ≡ length head + length (ds ++ more) = sym (length-append h.head rest) ∙ ap length whole ∙ length-append head (ds ++ more) in
    let rests : length rest ≡ length (ds ++ more) = ap length one.rests in
    let len : length front ≡ length head + length ds = ap length w ∙ length-append head ds in
    omega arith
based_longest text size rest digits behind signed radix h split (unbased false) front more is e =
    absurd (unbased_no_head text size rest more signed radix 48 (e ∙ ap (λ t. t ++ more) is) refl (refl, (λ q. omega arith), (λ q. omega arith)) h)
based_longest text size rest digits behind signed radix h split (unbased true) front more is e =
    absurd (unbased_no_head text size rest more signed radix 49 (e ∙ ap (λ t. t ++ more) is) refl (refl, (λ q. omega arith), (λ q. omega arith)) h)

pub based_found : (text size rest digits behind : List ℕ) (signed : Bool) (radix : Radix) → BeginsWithHead text size signed radix rest
    → SplitsDigits (base_of radix) rest digits behind → (digits ≡ [] → ⊥) → HasLiteral text (based size signed radix digits) behind
based_found text size rest [] behind signed radix h split some = absurd (some refl)
based_found text size rest (d ∷ ds) behind signed radix h split some = record {
  begins = record {
    bytes = h.head ++ (d ∷ ds);
    writes = (h.head, h.is_head, split.ends.0, refl);
    whole = h.whole ∙ ap (λ t. h.head ++ t) split.whole ∙ sym (append_assoc h.head (d ∷ ds) behind);
    longest = λ other front more w e. subst (λ n. length front ≤ n) (sym (length-append h.head (d ∷ ds))) (based_longest text size rest (d ∷ ds) behind signed radix h split other front more w e);
  };
  digits = λ lacks.
      let one : SameHead size lacks.size signed lacks.signed radix lacks.radix rest lacks.rest = head_one text size lacks.size signed lacks.signed radix lacks.radix rest lacks.rest h lacks.begins in
      no_stop ds radix lacks.radix lacks.rest one.radices (sym one.rests ∙ split.whole) lacks.stops split.ends.0.0;
}
  where
    no_stop : (ds : List ℕ) (radix base : Radix) (rest : List ℕ) → radix ≡ base → rest ≡ d ∷ (ds ++ behind) → Stops (λ b. is_digit b (base_of base)) rest → is_digit d (base_of radix) ≡ true → ⊥
    no_stop ds radix base rest r e stops pass =
        let here : is_digit d (base_of base) ≡ false = subst (Stops (λ b. is_digit b (base_of base))) e stops in
        let yes_here : is_digit d (base_of base) ≡ true = subst (λ x. is_digit d (base_of x) ≡ true) r pass in
        absurd (cc (here, yes_here))

pub digit_lacking : (text size rest behind : List ℕ) (signed : Bool) (radix : Radix) → BeginsWithHead text size signed radix rest
    → (digits : List ℕ) → digits ≡ [] → SplitsDigits (base_of radix) rest digits behind → LacksDigit text
digit_lacking text size rest behind signed radix h [] e split = record {
  size = size;
  signed = signed;
  radix = radix;
  rest = rest;
  begins = h;
  stops = subst (Stops (λ b. is_digit b (base_of radix))) (sym split.whole) split.ends;
}
digit_lacking text size rest behind signed radix h (d ∷ ds) e split = absurd (cc (e))

-- no head begins the text
abbrev pub NoHead : List ℕ → Type 0
NoHead text = (size : List ℕ) (signed : Bool) (radix : Radix) (rest : List ℕ) → BeginsWithHead text size signed radix rest → ⊥

no_lack : (text : List ℕ) → NoHead text → LacksDigit text → ⊥
no_lack text none lacks = none lacks.size lacks.signed lacks.radix lacks.rest lacks.begins

no_based : (text bytes more size digits : List ℕ) (signed : Bool) (radix : Radix) → NoHead text → Writes (based size signed radix digits) bytes → text ≡ bytes ++ more → ⊥
no_based text bytes more size digits signed radix none (head, is, d, w) e =
    none size signed radix (digits ++ more) (head_of text bytes more size digits head signed radix is w e)

pub decimal_found : (text digits rest : List ℕ) → NoHead text → SplitsDigits 10 text digits rest → (digits ≡ [] → ⊥) → HasLiteral text (decimal digits) rest
decimal_found text [] rest none split some = absurd (some refl)
decimal_found text (d ∷ ds) rest none split some = record {
  begins = record { bytes = d ∷ ds; writes = (split.ends.0, refl); whole = split.whole; longest = longest };
  digits = no_lack text none;
}
  where
    no_quote : (b : ℕ) (bs more : List ℕ) → text ≡ 39 ∷ more → ⊥
    no_quote b bs more e =
        let same : d ≡ 39 = cc (split.whole, e) in
        let bad : false ≡ true = subst (λ x. is_digit x 10 ≡ true) same split.ends.0.0 in
        absurd (cc (bad))

    longest : (other : Literal) (front more : List ℕ) → Writes other front → text ≡ front ++ more → length front ≤ length (d ∷ ds)
    longest (decimal es) front more (p, is) e = subst (λ t. length t ≤ length (d ∷ ds)) (sym is) (digits_most 10 text (d ∷ ds) rest es more split p (e ∙ ap (λ t. t ++ more) is))
    longest (based sz sg rx es) front more w e = absurd (no_based text front more sz es sg rx none w e)
    longest (unbased false) front more is e = absurd (no_quote d ds _ (e ∙ ap (λ t. t ++ more) is))
    longest (unbased true) front more is e = absurd (no_quote d ds _ (e ∙ ap (λ t. t ++ more) is))

-- no digits stand in front of a quote
quote_no_digits : (text tail digits more : List ℕ) → SplitsDigits 10 text [] tail → IsDigits 10 digits → text ≡ digits ++ more → ⊥
quote_no_digits text tail [] more split d e = d
quote_no_digits text tail (b ∷ bs) more split d e =
    let most : length (b ∷ bs) ≤ length {A = ℕ} [] = digits_most 10 text [] tail (b ∷ bs) more split d e in
    omega arith

pub unbased_found : (text digits behind rest : List ℕ) (bit : Bool) (bytes : List ℕ) → NoHead text → SplitsDigits 10 text digits behind → digits ≡ [] → Writes (unbased bit) bytes → length bytes ≡ 2
    → text ≡ bytes ++ rest → HasLiteral text (unbased bit) rest
unbased_found text (d ∷ ds) behind rest bit bytes none split e w two is = absurd (cc (e))
unbased_found text [] behind rest bit bytes none split e w two is = record {
  begins = record { bytes = bytes; writes = w; whole = is; longest = longest };
  digits = no_lack text none;
}
  where
    longest : (other : Literal) (front more : List ℕ) → Writes other front → text ≡ front ++ more → length front ≤ length bytes
    longest (decimal es) front more (p, is) e = absurd (quote_no_digits text behind es more split p (e ∙ ap (λ t. t ++ more) is))
    longest (based sz sg rx es) front more w e = absurd (no_based text front more sz es sg rx none w e)
    longest (unbased false) front more is e = let len : length front ≡ 2 = ap length is in omega arith
    longest (unbased true) front more is e = let len : length front ≡ 2 = ap length is in omega arith

pub literal_absent : (text digits behind : List ℕ) → NoHead text → SplitsDigits 10 text digits behind → digits ≡ []
    → ((rest : List ℕ) → text ≡ codes "'0" ++ rest → ⊥) → ((rest : List ℕ) → text ≡ codes "'1" ++ rest → ⊥) → HasNoLiteral text
literal_absent text (d ∷ ds) behind none split e zeros ones = absurd (cc (e))
literal_absent text [] behind none split e zeros ones = record { none = absent; no_head = no_lack text none }
  where
    absent : (literal : Literal) (bytes rest : List ℕ) → Writes literal bytes → text ≡ bytes ++ rest → ⊥
    absent (decimal es) bytes rest (p, is) e = quote_no_digits text behind es rest split p (e ∙ ap (λ t. t ++ rest) is)
    absent (based sz sg rx es) bytes rest w e = no_based text bytes rest sz es sg rx none w e
    absent (unbased false) bytes rest is e = zeros rest (e ∙ ap (λ t. t ++ rest) is)
    absent (unbased true) bytes rest is e = ones rest (e ∙ ap (λ t. t ++ rest) is)
