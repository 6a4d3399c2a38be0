-- What the first byte of a text says of what begins there.
use Rattle.std.proofs.Common.{◌≡◌, ℕ, List, [], ◌∷◌, ◌++◌, Bool, true, false, ◌||◌, ◌&&◌, ◌==◌, ◌⊎◌, inl, inr, refl, sym, ap, ◌∙◌, subst, arith}
use Rattle.std.proofs.lemmas.Bool.Decides.{nat_tests}
use Rattle.std.specs.Char.{is_digit}
use Rattle.svr_token.specs.Bytes.{is_blank, is_name_start}
use Rattle.svr_token.specs.Spellings.{system_text}
use Rattle.svr_token.specs.Lexemes.{IsName, IsSize, Literal, decimal, Writes}
use Rattle.svr_token.specs.Gaps.{BeginsWithGap, IsBlank, IsLineComment, IsBlockComment}
use Rattle.svr_token.specs.Faults.{BeginsWithHead, BeginsNothing, BeginsUnknownSystemName, IsBadByte, IsOpenComment, IsBadLiteral, IsTooWide, bad_byte, open_comment, bad_literal, literal_too_wide, IsSound}
use Rattle.svr_token.specs.Literals.{HasNoLiteral}
use Rattle.svr_token.specs.declared.radix.Radix.{Radix}
use Rattle.svr_token.specs.declared.lexeme.SystemName.{SystemName}
use Rattle.svr_token.specs.declared.lexeme.SystemName.TheVariants as s
use Rattle.svr_token.specs.declared.token.Kind.TheVariants as k
use Rattle.svr_token.specs.declared.lexeme.Mark.TheVariants as m
use Rattle.svr_token.proofs.Fixed.{starts_literal, second_of_literal}
use Rattle.svr_token.proofs.Exact.{literal_starts}
use Rattle.svr_token.proofs.Heads.{head_shape}

-- a digit or a quote
abbrev pub may_start_literal : ℕ → Bool
may_start_literal b = is_digit b 10 || (b == 39)

or_first : (a b c : Bool) → (a || (b && c)) ≡ true → (a || b) ≡ true
or_first true b c e = refl
or_first false true c e = refl
or_first false false c e = absurd (cc (e))

or_left : (a b : Bool) → a ≡ true → (a || b) ≡ true
or_left a b e = rw e refl

pub literal_byte : (text bytes rest more : List ℕ) (b : ℕ) (literal : Literal) → text ≡ b ∷ more → Writes literal bytes → text ≡ bytes ++ rest → may_start_literal b ≡ true
literal_byte text bytes rest more b literal e w is = go bytes (literal_starts literal bytes w) is
  where
    go : (bytes : List ℕ) → starts_literal bytes ≡ true → text ≡ bytes ++ rest → may_start_literal b ≡ true
    go [] p is = absurd (cc (p))
    go (c ∷ cs) p is = let same : c ≡ b = cc (e, is) in subst (λ x. may_start_literal x ≡ true) same (or_first (is_digit c 10) (c == 39) (second_of_literal cs) p)

pub head_byte : (text size rest more : List ℕ) (b : ℕ) (signed : Bool) (radix : Radix) → text ≡ b ∷ more → BeginsWithHead text size signed radix rest → may_start_literal b ≡ true
head_byte text size rest more b signed radix e h = go size _ h.is_head.sized (head_shape text size signed radix rest h)
  where
    go : (size tail : List ℕ) → IsSize size → text ≡ size ++ (39 ∷ tail) → may_start_literal b ≡ true
    go [] tail sized is = let same : ◌≡◌ {A = ℕ} 39 b = cc (e, is) in subst (λ x. may_start_literal x ≡ true) same refl
    go (c ∷ cs) tail sized is = let same : c ≡ b = cc (e, is) in subst (λ x. may_start_literal x ≡ true) same (or_left _ _ sized.0)

-- no literal begins with any other byte
pub no_literal_at : (text more : List ℕ) (b : ℕ) → text ≡ b ∷ more → may_start_literal b ≡ false → HasNoLiteral text
no_literal_at text more b e apart = record {
  none = λ literal bytes rest w is. clash (literal_byte text bytes rest more b literal e w is);
  no_head = λ lacks. clash (head_byte text lacks.size lacks.rest more b lacks.signed lacks.radix e lacks.begins);
}
  where
    clash : may_start_literal b ≡ true → ⊥
    clash p = let bad : true ≡ false = sym p ∙ apart in absurd (cc (bad))

pub unknown_byte : (text more : List ℕ) (b : ℕ) → text ≡ b ∷ more → BeginsUnknownSystemName text → b ≡ 36
unknown_byte text more b e u = cc (e, u.whole)

pub comment_byte : (text more : List ℕ) (b : ℕ) → text ≡ b ∷ more → IsOpenComment text → b ≡ 47
comment_byte text more b e o = cc (e, o.opens)

pub gap_byte : (text more gap rest : List ℕ) (b : ℕ) → text ≡ b ∷ more → BeginsWithGap text gap rest → (is_blank b ≡ true) ⊎ (b ≡ 47)
gap_byte text more gap rest b e g = go g.kind
  where
    blank : IsBlank gap → is_blank b ≡ true
    blank k = let same : k.byte ≡ b = cc (e, g.whole, k.whole) in subst (λ x. is_blank x ≡ true) same k.blank

    line : IsLineComment gap rest → b ≡ 47
    line k = cc (e, g.whole, k.whole)

    block : IsBlockComment gap → b ≡ 47
    block k = cc (e, g.whole, k.whole)

    go : IsBlank gap ⊎ IsLineComment gap rest ⊎ IsBlockComment gap → (is_blank b ≡ true) ⊎ (b ≡ 47)
    go (inl k) = inl (blank k)
    go (inr (inl k)) = inr (line k)
    go (inr (inr k)) = inr (block k)

pub name_byte : (text bytes rest more : List ℕ) (b : ℕ) → text ≡ b ∷ more → IsName bytes → text ≡ bytes ++ rest → is_name_start b ≡ true
name_byte text [] rest more b e name is = absurd name
name_byte text (c ∷ cs) rest more b e name is = let same : c ≡ b = cc (e, is) in subst (λ x. is_name_start x ≡ true) same name.0

pub system_byte : (text rest more : List ℕ) (b : ℕ) (name : SystemName) → text ≡ b ∷ more → text ≡ system_text name ++ rest → b ≡ 36
system_byte text rest more b s.Signed e is = cc (e, is)
system_byte text rest more b s.Unsigned e is = cc (e, is)

-- no fault stands where none of the three groups does
pub sound_from : (text : List ℕ) → (IsBadByte text → ⊥) → (IsOpenComment text → ⊥) → (IsBadLiteral text → ⊥) → (IsTooWide text → ⊥) → IsSound text
sound_from text a b c d bad_byte h = a h
sound_from text a b c d open_comment h = b h
sound_from text a b c d bad_literal h = c h
sound_from text a b c d literal_too_wide h = d h

pub no_bad_byte : (text more : List ℕ) (b : ℕ) → text ≡ b ∷ more → (BeginsNothing b → ⊥) → (BeginsUnknownSystemName text → ⊥) → IsBadByte text → ⊥
no_bad_byte [] more b e nothing unknown bad = bad
no_bad_byte (c ∷ cs) more b e nothing unknown (inl n) = let same : c ≡ b = cc (e) in nothing (subst BeginsNothing same n)
no_bad_byte (c ∷ cs) more b e nothing unknown (inr u) = unknown u

pub no_bad_literal : (text : List ℕ) → HasNoLiteral text → IsBadLiteral text → ⊥
no_bad_literal text none (inl lacks) = none.no_head lacks
no_bad_literal text none (inr ill) = none.none ill.literal ill.begins.bytes ill.rest ill.begins.writes ill.begins.whole

pub no_too_wide : (text : List ℕ) → HasNoLiteral text → IsTooWide text → ⊥
no_too_wide text none wide = none.none wide.literal wide.begins.bytes wide.rest wide.begins.writes wide.begins.whole

-- a text that no literal begins, nor an open comment
pub sound_without_literal : (text more : List ℕ) (b : ℕ) → text ≡ b ∷ more → (BeginsNothing b → ⊥) → (BeginsUnknownSystemName text → ⊥) → (IsOpenComment text → ⊥) → HasNoLiteral text → IsSound text
sound_without_literal text more b e nothing unknown closed none =
    sound_from text (no_bad_byte text more b e nothing unknown) closed (no_bad_literal text none) (no_too_wide text none)

-- BLANKS

blank_apart : (b : ℕ) → is_blank b ≡ true → (may_start_literal b ≡ false) × (b ≡ 36 → ⊥) × (b ≡ 47 → ⊥)
blank_apart b p = (grind (arith, nat_tests), (λ e. grind (arith, nat_tests)), (λ e. grind (arith, nat_tests)))

pub blank_sound : (text more : List ℕ) (b : ℕ) → text ≡ b ∷ more → is_blank b ≡ true → IsSound text
blank_sound text more b e p =
    let apart = blank_apart b p in
    sound_without_literal text more b e (λ n. let bad : true ≡ false = sym p ∙ n.no_blank in absurd (cc (bad)))
    (λ u. apart.1 (unknown_byte text more b e u)) (λ o. apart.2 (comment_byte text more b e o)) (no_literal_at text more b e apart.0)

pub blank_gap : (text more gap rest : List ℕ) (b : ℕ) → text ≡ b ∷ more → is_blank b ≡ true → gap ≡ b ∷ [] → rest ≡ more → BeginsWithGap text gap rest
blank_gap text more gap rest b e p g r = record {
  whole = rw (e, g, r) refl;
  kind = inl (record { byte = b; blank = p; whole = g });
}

-- WHAT MAY BEGIN

pub or_cases : (a b : Bool) → (a || b) ≡ true → (a ≡ true) ⊎ (b ≡ true)
or_cases true b e = inl refl
or_cases false b e = inr e

pub quote_is : (b : ℕ) → (b == 39) ≡ true → b ≡ 39
quote_is b p = grind (arith, nat_tests)

-- a byte with which a literal may begin begins a literal or a mark
pub may_start_begins : (b : ℕ) → may_start_literal b ≡ true → BeginsNothing b → ⊥
may_start_begins b p n = elim (or_cases (is_digit b 10) (b == 39) p) [
  | inl digit ↦ n.no_lexeme k.Literal [] (decimal (b ∷ []), ((digit, refl), refl))
  | inr quote ↦ n.no_lexeme k.Mark [] (m.Apostrophe, ap (λ x. x ∷ []) (quote_is b quote))
]
