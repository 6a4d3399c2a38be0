-- What every mark's text is like.
use Rattle.std.proofs.Common.{◌≡◌, ◌≤◌, ℕ, List, [], ◌∷◌, ◌++◌, length, take, Bool, true, false, ◌&&◌, ◌==◌, refl, sym, ap, ◌∙◌, subst, arith}
use Rattle.std.proofs.lemmas.Bool.Decides.{nat_tests}
use Rattle.std.specs.Prelude.{nat_le, nat_lt, is_some}
use Rattle.std.specs.Char.{is_digit}
use Rattle.svr_token.specs.Bytes.{is_name_start}
use Rattle.svr_token.specs.Spellings.{mark_text}
use Rattle.svr_token.specs.Tables.{mark_of}
use Rattle.svr_token.specs.declared.lexeme.Mark.{Mark}
use Rattle.svr_token.specs.declared.lexeme.Mark.TheVariants as m
use Rattle.svr_token.proofs.Exact.{mark_yes}

-- the first byte passes
abbrev pub first_is : (ℕ → Bool) → List ℕ → Bool
first_is test [] = false
first_is test (b ∷ bs) = test b

pub mark_length : (mark : Mark) → (nat_le 1 (length (mark_text mark)) && nat_le (length (mark_text mark)) 3) ≡ true
mark_length m.OpenParen = refl
mark_length m.CloseParen = refl
mark_length m.OpenBracket = refl
mark_length m.CloseBracket = refl
mark_length m.OpenBrace = refl
mark_length m.CloseBrace = refl
mark_length m.OpenPattern = refl
mark_length m.Apostrophe = refl
mark_length m.Semicolon = refl
mark_length m.Comma = refl
mark_length m.Dot = refl
mark_length m.Colon = refl
mark_length m.DoubleColon = refl
mark_length m.ColonEqual = refl
mark_length m.ColonSlash = refl
mark_length m.Question = refl
mark_length m.Assign = refl
mark_length m.Plus = refl
mark_length m.Minus = refl
mark_length m.Star = refl
mark_length m.Slash = refl
mark_length m.Percent = refl
mark_length m.Tilde = refl
mark_length m.Bang = refl
mark_length m.And = refl
mark_length m.Or = refl
mark_length m.Xor = refl
mark_length m.AndAnd = refl
mark_length m.OrOr = refl
mark_length m.Nand = refl
mark_length m.Nor = refl
mark_length m.TildeXor = refl
mark_length m.XorTilde = refl
mark_length m.Less = refl
mark_length m.Greater = refl
mark_length m.AtMost = refl
mark_length m.AtLeast = refl
mark_length m.Equal = refl
mark_length m.NotEqual = refl
mark_length m.CaseEqual = refl
mark_length m.CaseNotEqual = refl
mark_length m.ShiftLeft = refl
mark_length m.ShiftRight = refl
mark_length m.ShiftLeftArith = refl
mark_length m.ShiftRightArith = refl
mark_length m.Arrow = refl
mark_length m.DoubleArrow = refl
mark_length m.Dollar = refl

pub mark_first_listed : (mark : Mark) → is_some (mark_of (take 1 (mark_text mark))) ≡ true
unfolding mark_of
mark_first_listed m.OpenParen = refl
mark_first_listed m.CloseParen = refl
mark_first_listed m.OpenBracket = refl
mark_first_listed m.CloseBracket = refl
mark_first_listed m.OpenBrace = refl
mark_first_listed m.CloseBrace = refl
mark_first_listed m.OpenPattern = refl
mark_first_listed m.Apostrophe = refl
mark_first_listed m.Semicolon = refl
mark_first_listed m.Comma = refl
mark_first_listed m.Dot = refl
mark_first_listed m.Colon = refl
mark_first_listed m.DoubleColon = refl
mark_first_listed m.ColonEqual = refl
mark_first_listed m.ColonSlash = refl
mark_first_listed m.Question = refl
mark_first_listed m.Assign = refl
mark_first_listed m.Plus = refl
mark_first_listed m.Minus = refl
mark_first_listed m.Star = refl
mark_first_listed m.Slash = refl
mark_first_listed m.Percent = refl
mark_first_listed m.Tilde = refl
mark_first_listed m.Bang = refl
mark_first_listed m.And = refl
mark_first_listed m.Or = refl
mark_first_listed m.Xor = refl
mark_first_listed m.AndAnd = refl
mark_first_listed m.OrOr = refl
mark_first_listed m.Nand = refl
mark_first_listed m.Nor = refl
mark_first_listed m.TildeXor = refl
mark_first_listed m.XorTilde = refl
mark_first_listed m.Less = refl
mark_first_listed m.Greater = refl
mark_first_listed m.AtMost = refl
mark_first_listed m.AtLeast = refl
mark_first_listed m.Equal = refl
mark_first_listed m.NotEqual = refl
mark_first_listed m.CaseEqual = refl
mark_first_listed m.CaseNotEqual = refl
mark_first_listed m.ShiftLeft = refl
mark_first_listed m.ShiftRight = refl
mark_first_listed m.ShiftLeftArith = refl
mark_first_listed m.ShiftRightArith = refl
mark_first_listed m.Arrow = refl
mark_first_listed m.DoubleArrow = refl
mark_first_listed m.Dollar = refl

pub quote_mark : (mark : Mark) → (first_is (λ b. b == 39) (mark_text mark) && nat_lt 2 (length (mark_text mark))) ≡ false
quote_mark m.OpenParen = refl
quote_mark m.CloseParen = refl
quote_mark m.OpenBracket = refl
quote_mark m.CloseBracket = refl
quote_mark m.OpenBrace = refl
quote_mark m.CloseBrace = refl
quote_mark m.OpenPattern = refl
quote_mark m.Apostrophe = refl
quote_mark m.Semicolon = refl
quote_mark m.Comma = refl
quote_mark m.Dot = refl
quote_mark m.Colon = refl
quote_mark m.DoubleColon = refl
quote_mark m.ColonEqual = refl
quote_mark m.ColonSlash = refl
quote_mark m.Question = refl
quote_mark m.Assign = refl
quote_mark m.Plus = refl
quote_mark m.Minus = refl
quote_mark m.Star = refl
quote_mark m.Slash = refl
quote_mark m.Percent = refl
quote_mark m.Tilde = refl
quote_mark m.Bang = refl
quote_mark m.And = refl
quote_mark m.Or = refl
quote_mark m.Xor = refl
quote_mark m.AndAnd = refl
quote_mark m.OrOr = refl
quote_mark m.Nand = refl
quote_mark m.Nor = refl
quote_mark m.TildeXor = refl
quote_mark m.XorTilde = refl
quote_mark m.Less = refl
quote_mark m.Greater = refl
quote_mark m.AtMost = refl
quote_mark m.AtLeast = refl
quote_mark m.Equal = refl
quote_mark m.NotEqual = refl
quote_mark m.CaseEqual = refl
quote_mark m.CaseNotEqual = refl
quote_mark m.ShiftLeft = refl
quote_mark m.ShiftRight = refl
quote_mark m.ShiftLeftArith = refl
quote_mark m.ShiftRightArith = refl
quote_mark m.Arrow = refl
quote_mark m.DoubleArrow = refl
quote_mark m.Dollar = refl

pub dollar_mark : (mark : Mark) → (first_is (λ b. b == 36) (mark_text mark) && nat_lt 1 (length (mark_text mark))) ≡ false
dollar_mark m.OpenParen = refl
dollar_mark m.CloseParen = refl
dollar_mark m.OpenBracket = refl
dollar_mark m.CloseBracket = refl
dollar_mark m.OpenBrace = refl
dollar_mark m.CloseBrace = refl
dollar_mark m.OpenPattern = refl
dollar_mark m.Apostrophe = refl
dollar_mark m.Semicolon = refl
dollar_mark m.Comma = refl
dollar_mark m.Dot = refl
dollar_mark m.Colon = refl
dollar_mark m.DoubleColon = refl
dollar_mark m.ColonEqual = refl
dollar_mark m.ColonSlash = refl
dollar_mark m.Question = refl
dollar_mark m.Assign = refl
dollar_mark m.Plus = refl
dollar_mark m.Minus = refl
dollar_mark m.Star = refl
dollar_mark m.Slash = refl
dollar_mark m.Percent = refl
dollar_mark m.Tilde = refl
dollar_mark m.Bang = refl
dollar_mark m.And = refl
dollar_mark m.Or = refl
dollar_mark m.Xor = refl
dollar_mark m.AndAnd = refl
dollar_mark m.OrOr = refl
dollar_mark m.Nand = refl
dollar_mark m.Nor = refl
dollar_mark m.TildeXor = refl
dollar_mark m.XorTilde = refl
dollar_mark m.Less = refl
dollar_mark m.Greater = refl
dollar_mark m.AtMost = refl
dollar_mark m.AtLeast = refl
dollar_mark m.Equal = refl
dollar_mark m.NotEqual = refl
dollar_mark m.CaseEqual = refl
dollar_mark m.CaseNotEqual = refl
dollar_mark m.ShiftLeft = refl
dollar_mark m.ShiftRight = refl
dollar_mark m.ShiftLeftArith = refl
dollar_mark m.ShiftRightArith = refl
dollar_mark m.Arrow = refl
dollar_mark m.DoubleArrow = refl
dollar_mark m.Dollar = refl

pub mark_no_digit : (mark : Mark) → first_is (λ b. is_digit b 10) (mark_text mark) ≡ false
mark_no_digit m.OpenParen = refl
mark_no_digit m.CloseParen = refl
mark_no_digit m.OpenBracket = refl
mark_no_digit m.CloseBracket = refl
mark_no_digit m.OpenBrace = refl
mark_no_digit m.CloseBrace = refl
mark_no_digit m.OpenPattern = refl
mark_no_digit m.Apostrophe = refl
mark_no_digit m.Semicolon = refl
mark_no_digit m.Comma = refl
mark_no_digit m.Dot = refl
mark_no_digit m.Colon = refl
mark_no_digit m.DoubleColon = refl
mark_no_digit m.ColonEqual = refl
mark_no_digit m.ColonSlash = refl
mark_no_digit m.Question = refl
mark_no_digit m.Assign = refl
mark_no_digit m.Plus = refl
mark_no_digit m.Minus = refl
mark_no_digit m.Star = refl
mark_no_digit m.Slash = refl
mark_no_digit m.Percent = refl
mark_no_digit m.Tilde = refl
mark_no_digit m.Bang = refl
mark_no_digit m.And = refl
mark_no_digit m.Or = refl
mark_no_digit m.Xor = refl
mark_no_digit m.AndAnd = refl
mark_no_digit m.OrOr = refl
mark_no_digit m.Nand = refl
mark_no_digit m.Nor = refl
mark_no_digit m.TildeXor = refl
mark_no_digit m.XorTilde = refl
mark_no_digit m.Less = refl
mark_no_digit m.Greater = refl
mark_no_digit m.AtMost = refl
mark_no_digit m.AtLeast = refl
mark_no_digit m.Equal = refl
mark_no_digit m.NotEqual = refl
mark_no_digit m.CaseEqual = refl
mark_no_digit m.CaseNotEqual = refl
mark_no_digit m.ShiftLeft = refl
mark_no_digit m.ShiftRight = refl
mark_no_digit m.ShiftLeftArith = refl
mark_no_digit m.ShiftRightArith = refl
mark_no_digit m.Arrow = refl
mark_no_digit m.DoubleArrow = refl
mark_no_digit m.Dollar = refl

pub mark_no_start : (mark : Mark) → first_is is_name_start (mark_text mark) ≡ false
mark_no_start m.OpenParen = refl
mark_no_start m.CloseParen = refl
mark_no_start m.OpenBracket = refl
mark_no_start m.CloseBracket = refl
mark_no_start m.OpenBrace = refl
mark_no_start m.CloseBrace = refl
mark_no_start m.OpenPattern = refl
mark_no_start m.Apostrophe = refl
mark_no_start m.Semicolon = refl
mark_no_start m.Comma = refl
mark_no_start m.Dot = refl
mark_no_start m.Colon = refl
mark_no_start m.DoubleColon = refl
mark_no_start m.ColonEqual = refl
mark_no_start m.ColonSlash = refl
mark_no_start m.Question = refl
mark_no_start m.Assign = refl
mark_no_start m.Plus = refl
mark_no_start m.Minus = refl
mark_no_start m.Star = refl
mark_no_start m.Slash = refl
mark_no_start m.Percent = refl
mark_no_start m.Tilde = refl
mark_no_start m.Bang = refl
mark_no_start m.And = refl
mark_no_start m.Or = refl
mark_no_start m.Xor = refl
mark_no_start m.AndAnd = refl
mark_no_start m.OrOr = refl
mark_no_start m.Nand = refl
mark_no_start m.Nor = refl
mark_no_start m.TildeXor = refl
mark_no_start m.XorTilde = refl
mark_no_start m.Less = refl
mark_no_start m.Greater = refl
mark_no_start m.AtMost = refl
mark_no_start m.AtLeast = refl
mark_no_start m.Equal = refl
mark_no_start m.NotEqual = refl
mark_no_start m.CaseEqual = refl
mark_no_start m.CaseNotEqual = refl
mark_no_start m.ShiftLeft = refl
mark_no_start m.ShiftRight = refl
mark_no_start m.ShiftLeftArith = refl
mark_no_start m.ShiftRightArith = refl
mark_no_start m.Arrow = refl
mark_no_start m.DoubleArrow = refl
mark_no_start m.Dollar = refl

-- of 1 to 3 bytes
pub mark_sizes : (mark : Mark) → (1 ≤ length (mark_text mark)) × (length (mark_text mark) ≤ 3)
mark_sizes mark = go (length (mark_text mark)) (mark_length mark)
  where
    go : (n : ℕ) → (nat_le 1 n && nat_le n 3) ≡ true → (1 ≤ n) × (n ≤ 3)
    go n p = (grind (arith, nat_tests), grind (arith, nat_tests))

-- a first byte that passes, of a mark that the text begins with
first_of : (test : ℕ → Bool) (text bytes rest more : List ℕ) (b : ℕ) → text ≡ b ∷ more → text ≡ bytes ++ rest → 1 ≤ length bytes → test b ≡ true → first_is test bytes ≡ true
first_of test text [] rest more b e w some p = absurd (omega arith)
first_of test text (c ∷ cs) rest more b e w some p = let same : b ≡ c = cc (e, w) in subst (λ x. test x ≡ true) same p

pub mark_passes : (test : ℕ → Bool) (text rest more : List ℕ) (b : ℕ) (mark : Mark) → text ≡ b ∷ more → text ≡ mark_text mark ++ rest → test b ≡ true → first_is test (mark_text mark) ≡ true
mark_passes test text rest more b mark e w p = first_of test text (mark_text mark) rest more b e w (mark_sizes mark).0 p

pub mark_not_digit : (text rest more : List ℕ) (b : ℕ) (mark : Mark) → text ≡ b ∷ more → text ≡ mark_text mark ++ rest → is_digit b 10 ≡ true → ⊥
mark_not_digit text rest more b mark e w p = let bad : true ≡ false = sym (mark_passes (λ x. is_digit x 10) text rest more b mark e w p) ∙ mark_no_digit mark in absurd (cc (bad))

pub mark_not_start : (text rest more : List ℕ) (b : ℕ) (mark : Mark) → text ≡ b ∷ more → text ≡ mark_text mark ++ rest → is_name_start b ≡ true → ⊥
mark_not_start text rest more b mark e w p = let bad : true ≡ false = sym (mark_passes is_name_start text rest more b mark e w p) ∙ mark_no_start mark in absurd (cc (bad))

short : (test : Bool) (n k : ℕ) → (test && nat_lt k n) ≡ false → test ≡ true → n ≤ k
short true n k e p = grind (arith, nat_tests)
short false n k e p = absurd (cc (p))

-- a mark that begins with a quote has two bytes at most, and with a dollar sign one
pub quote_mark_short : (text rest more : List ℕ) (mark : Mark) → text ≡ 39 ∷ more → text ≡ mark_text mark ++ rest → length (mark_text mark) ≤ 2
quote_mark_short text rest more mark e w = short (first_is (λ b. b == 39) (mark_text mark)) (length (mark_text mark)) 2 (quote_mark mark) (mark_passes (λ b. b == 39) text rest more 39 mark e w refl)

pub dollar_mark_short : (text rest more : List ℕ) (mark : Mark) → text ≡ 36 ∷ more → text ≡ mark_text mark ++ rest → length (mark_text mark) ≤ 1
dollar_mark_short text rest more mark e w = short (first_is (λ b. b == 36) (mark_text mark)) (length (mark_text mark)) 1 (dollar_mark mark) (mark_passes (λ b. b == 36) text rest more 36 mark e w refl)

-- the first byte of a mark is itself a mark
pub first_byte_mark : (b : ℕ) (bs : List ℕ) (mark : Mark) → b ∷ bs ≡ mark_text mark → (other : Mark) × (b ∷ [] ≡ mark_text other)
first_byte_mark b bs mark e =
    let one : b ∷ [] ≡ take 1 (mark_text mark) = ap (take 1) e in
    mark_yes (b ∷ []) (mark_of (b ∷ [])) (is_some (mark_of (b ∷ []))) refl refl (ap (λ x. is_some (mark_of x)) one ∙ mark_first_listed mark)
