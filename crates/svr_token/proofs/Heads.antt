-- A text begins with the head of one based literal at most.
use Rattle.std.proofs.Common.{◌≡◌, ℕ, List, [], ◌∷◌, ◌++◌, Bool, true, false, Some, None, refl, sym, ap, ◌∙◌, subst, inl, inr, append_assoc, arith, ◌⊎◌, ◌||◌, ◌==◌}
use Rattle.std.proofs.lemmas.Bool.Decides.{nat_tests}
use Rattle.svr_token.specs.Bytes.{Stops}
use Rattle.svr_token.specs.Lexemes.{IsSign, IsSize, radix_of}
use Rattle.svr_token.specs.Faults.{BeginsWithHead}
use Rattle.svr_token.specs.Literals.{DigitsEnd, SplitsDigits, SplitsSign, is_sign}
use Rattle.svr_token.specs.declared.radix.Radix.{Radix}
use Rattle.svr_token.proofs.Splitting.{size_one}

-- the letter of a radix is no sign
pub letter_no_sign : (letter : ℕ) (radix : Radix) → radix_of letter ≡ Some radix → is_sign letter ≡ false
letter_no_sign letter radix e = go (is_sign letter) refl
  where
    sign_no_radix : is_sign letter ≡ true → radix_of letter ≡ None
    sign_no_radix p = grind (arith, nat_tests)

    go : (v : Bool) → is_sign letter ≡ v → v ≡ false
    go false p = refl
    go true p = absurd (cc (sign_no_radix p, e))

-- what stands behind the sign of a head
pub sign_one : (text rest sign after : List ℕ) (signed other : Bool) (letter : ℕ) (radix : Radix)
    → SplitsSign text signed rest → IsSign other sign → radix_of letter ≡ Some radix → text ≡ sign ++ (letter ∷ after)
    → (signed ≡ other) × (rest ≡ letter ∷ after)
sign_one text rest sign after false false letter radix split is named e =
    let plain : text ≡ rest = split.whole ∙ ap (λ t. t ++ rest) split.signs in
    let bare : text ≡ letter ∷ after = e ∙ ap (λ t. t ++ (letter ∷ after)) is in
    (refl, sym plain ∙ bare)
sign_one text rest sign after true false letter radix split is named e =
    let bare : text ≡ letter ∷ after = e ∙ ap (λ t. t ++ (letter ∷ after)) is in
    absurd (no_sign letter after rest text split.sign (letter_no_sign letter radix named) split.signs bare split.whole)
  where
    no_sign : (letter : ℕ) (after rest text sign : List ℕ) → is_sign letter ≡ false → IsSign true sign → text ≡ letter ∷ after → text ≡ sign ++ rest → ⊥
    no_sign letter after rest text sign plain (inl s) e w =
        let same : letter ≡ 115 = cc in
        let yes : false ≡ true = sym plain ∙ ap is_sign same in
        absurd (cc)
    no_sign letter after rest text sign plain (inr s) e w =
        let same : letter ≡ 83 = cc in
        let yes : false ≡ true = sym plain ∙ ap is_sign same in
        absurd (cc)
sign_one text rest sign after false true letter radix split is named e = absurd (stopped rest sign (letter ∷ after) (split.stops refl) is (sym (split.whole ∙ ap (λ t. t ++ rest) split.signs) ∙ e))
  where
    stopped : (rest sign after : List ℕ) → Stops is_sign rest → IsSign true sign → rest ≡ sign ++ after → ⊥
    stopped rest sign after stops (inl s) e =
        let wrong : is_sign 115 ≡ false = subst (Stops is_sign) (e ∙ ap (λ t. t ++ after) s) stops in
        absurd (cc)
    stopped rest sign after stops (inr s) e =
        let wrong : is_sign 83 ≡ false = subst (Stops is_sign) (e ∙ ap (λ t. t ++ after) s) stops in
        absurd (cc)
sign_one text rest sign after true true letter radix split is named e = (refl, same text rest split.sign sign (letter ∷ after) split.signs is split.whole e)
  where
    same : (text rest sign other after : List ℕ) → IsSign true sign → IsSign true other → text ≡ sign ++ rest → text ≡ other ++ after → rest ≡ after
    same text rest sign other after (inl s) (inl t) e f = cc
    same text rest sign other after (inl s) (inr t) e f = let wrong : ◌≡◌ {A = ℕ} 115 83 = cc in absurd (omega arith)
    same text rest sign other after (inr s) (inl t) e f = let wrong : ◌≡◌ {A = ℕ} 83 115 = cc in absurd (omega arith)
    same text rest sign other after (inr s) (inr t) e f = cc

size_ends : (size tail : List ℕ) → IsSize size → DigitsEnd 10 size (39 ∷ tail)
size_ends [] tail d = refl
size_ends (b ∷ bs) tail d = (d, refl)

-- the head written out, and what follows it
pub head_shape : (text size : List ℕ) (signed : Bool) (radix : Radix) (after : List ℕ) → (h : BeginsWithHead text size signed radix after)
    → text ≡ size ++ (39 ∷ (h.is_head.sign ++ (h.is_head.letter ∷ after)))
head_shape text size signed radix after h =
    let sign = h.is_head.sign in
    let letter = h.is_head.letter in
    let shape : (size ++ (39 ∷ (sign ++ (letter ∷ [])))) ++ after ≡ size ++ (39 ∷ (sign ++ (letter ∷ after))) =
    append_assoc size (39 ∷ (sign ++ (letter ∷ []))) after ∙ ap (λ t. size ++ (39 ∷ t)) (append_assoc sign (letter ∷ []) after) in
    h.whole ∙ ap (λ t. t ++ after) h.is_head.whole ∙ shape

-- what stands behind the size of a head
pub head_tail : (text size front rest : List ℕ) (signed : Bool) (radix : Radix) (after : List ℕ)
    → SplitsDigits 10 text front rest → (h : BeginsWithHead text size signed radix after)
    → (front ≡ size) × (rest ≡ 39 ∷ (h.is_head.sign ++ (h.is_head.letter ∷ after)))
head_tail text size front rest signed radix after split h =
    size_one text front rest size (h.is_head.sign ++ (h.is_head.letter ∷ after)) split h.is_head.sized (head_shape text size signed radix after h)

-- a head as a split of digits
pub head_splits : (text size : List ℕ) (signed : Bool) (radix : Radix) (after : List ℕ) → (h : BeginsWithHead text size signed radix after)
    → SplitsDigits 10 text size (39 ∷ (h.is_head.sign ++ (h.is_head.letter ∷ after)))
head_splits text size signed radix after h = record {
  whole = head_shape text size signed radix after h;
  ends = size_ends size _ h.is_head.sized;
}

pub record SameHead (size other : List ℕ) (signed sign : Bool) (radix base : Radix) (rest more : List ℕ) : Type 0 where
  pub sizes : size ≡ other
  pub signs : signed ≡ sign
  pub radices : radix ≡ base
  pub rests : rest ≡ more

pub head_one : (text size other : List ℕ) (signed sign : Bool) (radix base : Radix) (rest more : List ℕ)
    → BeginsWithHead text size signed radix rest → BeginsWithHead text other sign base more → SameHead size other signed sign radix base rest more
head_one text size other signed sign radix base rest more h g =
    let (sizes, tails) = head_tail text other size _ sign base more (head_splits text size signed radix rest h) g in
    let split : SplitsSign (h.is_head.sign ++ (h.is_head.letter ∷ rest)) signed (h.is_head.letter ∷ rest) = record {
      sign = h.is_head.sign;
      signs = h.is_head.signs;
      whole = refl;
      stops = λ _. letter_no_sign h.is_head.letter radix h.is_head.names;
    } in
    let same : h.is_head.sign ++ (h.is_head.letter ∷ rest) ≡ g.is_head.sign ++ (g.is_head.letter ∷ more) = cc (tails) in
    let (signs, ends) = sign_one _ _ g.is_head.sign more signed sign g.is_head.letter base split g.is_head.signs g.is_head.names same in
    let letters : h.is_head.letter ≡ g.is_head.letter = cc (ends) in
    let named : Some radix ≡ Some base = sym h.is_head.names ∙ ap radix_of letters ∙ g.is_head.names in
    record { sizes = sizes; signs = signs; radices = cc (named); rests = cc (ends) }

-- a sign is taken off
pub sign_taken : (text rest : List ℕ) (b : ℕ) → text ≡ b ∷ rest → is_sign b ≡ true → SplitsSign text true rest
sign_taken text rest b e p = record {
  sign = b ∷ [];
  signs = letter b p;
  whole = e;
  stops = λ e. absurd (cc (e));
}
  where
    split : (a c : Bool) → (a || c) ≡ true → (a ≡ true) ⊎ (c ≡ true)
    split true c p = inl refl
    split false c p = inr p

    letter : (b : ℕ) → is_sign b ≡ true → IsSign true (b ∷ [])
    letter b p = elim (split (b == 115) (b == 83) p) [ inl q ↦ inl (ap (λ x. x ∷ []) (grind (arith, nat_tests))) | inr q ↦ inr (ap (λ x. x ∷ []) (grind (arith, nat_tests))) ]

-- no head where no quote follows the digits, or no letter of a radix the sign
pub no_quote : (text front rest more size after : List ℕ) (quote : ℕ) (signed : Bool) (radix : Radix) → SplitsDigits 10 text front rest → rest ≡ quote ∷ more → (quote ≡ 39 → ⊥)
    → BeginsWithHead text size signed radix after → ⊥
no_quote text front rest more size after quote signed radix split e other h =
    let (l, r) = head_tail text size front rest signed radix after split h in
    other (cc (e, r))

pub nothing_behind : (text front rest size after : List ℕ) (signed : Bool) (radix : Radix) → SplitsDigits 10 text front rest → rest ≡ [] → BeginsWithHead text size signed radix after → ⊥
nothing_behind text front rest size after signed radix split e h =
    let (l, r) = head_tail text size front rest signed radix after split h in
    absurd (cc (e, r))

-- what stands behind the quote and a sign is the letter
pub letter_behind : (text front rest more behind size after : List ℕ) (sign signed : Bool) (radix : Radix) → SplitsDigits 10 text front rest → rest ≡ 39 ∷ more
    → SplitsSign more sign behind → (h : BeginsWithHead text size signed radix after) → behind ≡ h.is_head.letter ∷ after
letter_behind text front rest more behind size after sign signed radix split e cut h =
    let (l, r) = head_tail text size front rest signed radix after split h in
    let tail : more ≡ h.is_head.sign ++ (h.is_head.letter ∷ after) = cc (e, r) in
    (sign_one more behind h.is_head.sign after sign signed h.is_head.letter radix cut h.is_head.signs h.is_head.names tail).1

pub no_letter : (text front rest more behind size after : List ℕ) (sign signed : Bool) (radix : Radix) → SplitsDigits 10 text front rest → rest ≡ 39 ∷ more
    → SplitsSign more sign behind → behind ≡ [] → BeginsWithHead text size signed radix after → ⊥
no_letter text front rest more behind size after sign signed radix split e cut end h =
    absurd (cc (end, letter_behind text front rest more behind size after sign signed radix split e cut h))

pub no_radix : (text front rest more behind last size after : List ℕ) (sign signed : Bool) (letter : ℕ) (radix : Radix) → SplitsDigits 10 text front rest → rest ≡ 39 ∷ more
    → SplitsSign more sign behind → behind ≡ letter ∷ last → radix_of letter ≡ None → BeginsWithHead text size signed radix after → ⊥
no_radix text front rest more behind last size after sign signed letter radix split e cut end absent h =
    let same : letter ≡ h.is_head.letter = cc (end, letter_behind text front rest more behind size after sign signed radix split e cut h) in
    let bad : None ≡ Some radix = sym absent ∙ ap radix_of same ∙ h.is_head.names in
    absurd (cc (bad))

-- digits that end at a quote are a size
size_from : (front tail : List ℕ) → DigitsEnd 10 front tail → IsSize front
size_from [] tail d = tt
size_from (b ∷ bs) tail d = d.0

-- the head from its parts
pub head_made : (text front rest more behind last : List ℕ) (signed : Bool) (letter : ℕ) (radix : Radix) → SplitsDigits 10 text front rest → rest ≡ 39 ∷ more
    → SplitsSign more signed behind → behind ≡ letter ∷ last → radix_of letter ≡ Some radix → BeginsWithHead text front signed radix last
head_made text front rest more behind last signed letter radix split e cut end names = record {
  head = front ++ (39 ∷ (cut.sign ++ (letter ∷ [])));
  is_head = record {
    sign = cut.sign;
    letter = letter;
    sized = size_from front rest split.ends;
    signs = cut.signs;
    names = names;
    whole = refl;
  };
  whole = split.whole ∙ ap (λ t. front ++ t) (e ∙ ap (λ t. 39 ∷ t) (cut.whole ∙ ap (λ t. cut.sign ++ t) end))
      ∙ sym (append_assoc front (39 ∷ (cut.sign ++ (letter ∷ []))) last ∙ ap (λ t. front ++ (39 ∷ t)) (append_assoc cut.sign (letter ∷ []) last));
}
