-- Bytes spell one lexeme at most.
use Rattle.std.proofs.Common.{◌≡◌, ◌≤◌, ◌+◌, ℕ, List, [], ◌∷◌, ◌++◌, length, Bool, true, false, ◌==◌, Option, Some, None, refl, sym, ap, ◌∙◌, subst, append-nil, arith, inl, inr, IfSome, length-append, ◌⊎◌, slice_index, Result, Ok, Err, ◌%◌, ◌^◌}
use Rattle.std.proofs.lemmas.Bool.Decides.{nat_tests}
use Rattle.std.specs.Prelude.{unwrap_or, is_some, IfOk, IsTrue}
use Rattle.std.specs.Result.{result_ok}
use Rattle.std.specs.Char.{is_digit}
use Rattle.svr_token.specs.Bytes.{Stops, base_of, is_name_start, is_name_byte}
use Rattle.svr_token.specs.Spellings.{mark_text, system_text}
use Rattle.svr_token.specs.Lexemes.{number_of, IsName, IsHead, IsSize, IsSign, IsDigits, radix_of, Literal, decimal, based, unbased, Writes, IsPlainName, Spells, IsLawfulLiteral, HasZeroSize, IsOverWide, value_of, width_of, is_signed}
use Rattle.svr_token.specs.Faults.{BeginsWithHead, BeginsWithLiteral, LacksDigit}
use Rattle.svr_token.specs.Literals.{SplitsDigits, IsFrontLiteral}
use Rattle.svr_token.specs.declared.literal.Literal.{Literal as CodeLiteral}
use Rattle.svr_token.specs.declared.literal.FrontLiteral.{FrontLiteral}
use Rattle.svr_token.specs.declared.literal.FrontLiteral.TheVariants as f
use Rattle.svr_token.specs.declared.literal.LiteralFault.{LiteralFault}
use Rattle.svr_token.specs.declared.literal.LiteralFault.TheVariants as g
use Rattle.svr_token.proofs.Numbers.{cut_twice}
use denote.Ref.{Bor}
use Rattle.svr_token.specs.Tables.{word_of, mark_of, system_of}
use Rattle.svr_token.specs.declared.radix.Radix.{Radix}
use Rattle.svr_token.specs.declared.lexeme.Lexeme.{Lexeme}
use Rattle.svr_token.specs.declared.lexeme.Lexeme.TheVariants as l
use Rattle.svr_token.specs.declared.lexeme.Mark.{Mark}
use Rattle.svr_token.specs.declared.lexeme.SystemName.{SystemName}
use Rattle.svr_token.specs.declared.lexeme.NameKind.{NameKind}
use Rattle.svr_token.specs.declared.lexeme.NameKind.TheVariants as n
use Rattle.svr_token.proofs.Splitting.{nothing_left}
use Rattle.svr_token.proofs.Heads.{SameHead, head_one, head_tail, head_shape}
use Rattle.svr_token.proofs.Fronts.{head_of, unbased_no_head}
use Rattle.svr_token.proofs.Fixed.{IsWordText, IsMarkText, IsSystemText, word_fixed, mark_fixed, system_fixed, starts_name, starts_literal, word_listed, method_listed, mark_listed, system_listed, system_no_mark, word_is_name, method_is_name, mark_no_name, mark_no_literal, system_no_name, system_no_literal}

-- how a literal begins
digit_starts : (b : ℕ) (bs : List ℕ) → is_digit b 10 ≡ true → starts_literal (b ∷ bs) ≡ true
digit_starts b bs p = rw p refl

letter_name : (letter : ℕ) (radix : Radix) → radix_of letter ≡ Some radix → is_name_byte letter ≡ true
letter_name letter radix e = go (is_name_byte letter) refl
  where
    other_no_radix : is_name_byte letter ≡ false → radix_of letter ≡ None
    other_no_radix p = grind (arith, nat_tests)

    go : (v : Bool) → is_name_byte letter ≡ v → v ≡ true
    go true p = refl
    go false p = let bad : None ≡ Some radix = sym (other_no_radix p) ∙ e in absurd (cc (bad))

quote_starts : (b : ℕ) (bs : List ℕ) → is_name_byte b ≡ true → starts_literal (39 ∷ (b ∷ bs)) ≡ true
quote_starts b bs p = rw p refl

head_starts : (size sign tail : List ℕ) (signed : Bool) (letter : ℕ) (radix : Radix) → IsSize size → IsSign signed sign → radix_of letter ≡ Some radix
    → starts_literal (size ++ (39 ∷ (sign ++ (letter ∷ tail)))) ≡ true
head_starts (b ∷ bs) sign tail signed letter radix sized is named = digit_starts b (bs ++ (39 ∷ (sign ++ (letter ∷ tail)))) sized.0
head_starts [] sign tail false letter radix sized is named =
    subst (λ s. starts_literal (39 ∷ (s ++ (letter ∷ tail))) ≡ true) (sym is) (quote_starts letter tail (letter_name letter radix named))
head_starts [] sign tail true letter radix sized (inl is) named = subst (λ s. starts_literal (39 ∷ (s ++ (letter ∷ tail))) ≡ true) (sym is) refl
head_starts [] sign tail true letter radix sized (inr is) named = subst (λ s. starts_literal (39 ∷ (s ++ (letter ∷ tail))) ≡ true) (sym is) refl

pub literal_starts : (literal : Literal) (bytes : List ℕ) → Writes literal bytes → starts_literal bytes ≡ true
literal_starts (decimal []) bytes (d, is) = absurd d
literal_starts (decimal (b ∷ bs)) bytes (d, is) = subst (λ x. starts_literal x ≡ true) (sym is) (digit_starts b bs d.0)
literal_starts (based size signed radix digits) bytes (head, h, d, is) =
    let begins : BeginsWithHead bytes size signed radix (digits ++ []) = head_of bytes bytes [] size digits head signed radix h is (sym (append-nil bytes)) in
    subst (λ x. starts_literal x ≡ true) (sym (head_shape bytes size signed radix (digits ++ []) begins)) (head_starts size h.sign (digits ++ []) signed h.letter radix h.sized h.signs h.names)
literal_starts (unbased false) bytes is = subst (λ x. starts_literal x ≡ true) (sym is) refl
literal_starts (unbased true) bytes is = subst (λ x. starts_literal x ≡ true) (sym is) refl

name_starts : (bytes : List ℕ) → IsName bytes → starts_name bytes ≡ true
name_starts [] name = absurd name
name_starts (b ∷ bs) name = name.0

start_no_digit : (b : ℕ) → is_name_start b ≡ true → (is_digit b 10 ≡ false) × ((b == 39) ≡ false)
start_no_digit b p = (grind (arith, nat_tests), grind (arith, nat_tests))

name_no_literal : (bytes : List ℕ) → starts_name bytes ≡ true → starts_literal bytes ≡ false
name_no_literal [] p = refl
name_no_literal (b ∷ bs) p = let (d, q) = start_no_digit b p in rw (d, q) refl

-- the lexemes of names are no others
pub name_no_mark : (bytes : List ℕ) (mark : Mark) → IsName bytes → bytes ≡ mark_text mark → ⊥
name_no_mark bytes mark name is =
    let bad : true ≡ false = sym (name_starts bytes name) ∙ ap starts_name is ∙ mark_no_name mark in
    absurd (cc (bad))

pub name_no_system : (bytes : List ℕ) (name : SystemName) → IsName bytes → bytes ≡ system_text name → ⊥
name_no_system bytes system name is =
    let bad : true ≡ false = sym (name_starts bytes name) ∙ ap starts_name is ∙ system_no_name system in
    absurd (cc (bad))

pub name_not_literal : (bytes : List ℕ) (literal : Literal) → IsName bytes → Writes literal bytes → ⊥
name_not_literal bytes literal name w =
    let bad : true ≡ false = sym (literal_starts literal bytes w) ∙ name_no_literal bytes (name_starts bytes name) in
    absurd (cc (bad))

pub mark_not_literal : (bytes : List ℕ) (mark : Mark) (literal : Literal) → bytes ≡ mark_text mark → Writes literal bytes → ⊥
mark_not_literal bytes mark literal is w =
    let bad : true ≡ false = sym (literal_starts literal bytes w) ∙ ap starts_literal is ∙ mark_no_literal mark in
    absurd (cc (bad))

pub system_not_literal : (bytes : List ℕ) (system : SystemName) (literal : Literal) → bytes ≡ system_text system → Writes literal bytes → ⊥
system_not_literal bytes system literal is w =
    let bad : true ≡ false = sym (literal_starts literal bytes w) ∙ ap starts_literal is ∙ system_no_literal system in
    absurd (cc (bad))

-- NAMES

fixed_name : (bytes : List ℕ) (lexeme : Lexeme) → IsWordText lexeme bytes → Spells lexeme bytes
fixed_name bytes (l.Word word) f = f
fixed_name bytes (l.Name n.Plain) f = absurd (cc (f))
fixed_name bytes (l.Name n.Sum) f = cc (f)
fixed_name bytes (l.Name n.Product) f = cc (f)
fixed_name bytes (l.Name n.And) f = cc (f)
fixed_name bytes (l.Name n.Or) f = cc (f)
fixed_name bytes (l.Name n.Xor) f = cc (f)
fixed_name bytes (l.Name n.Randomize) f = cc (f)
fixed_name bytes (l.Name n.RandMode) f = cc (f)
fixed_name bytes (l.Name n.ConstraintMode) f = cc (f)
fixed_name bytes (l.System system) f = absurd f
fixed_name bytes (l.Literal v w s) f = absurd f
fixed_name bytes (l.Mark mark) f = absurd f

pub word_spelled : (bytes : List ℕ) (lexeme : Lexeme) → word_of bytes ≡ Some lexeme → Spells lexeme bytes
word_spelled bytes lexeme e = fixed_name bytes lexeme (word_fixed bytes lexeme e)

pub plain_spelled : (bytes : List ℕ) → IsName bytes → word_of bytes ≡ None → IsPlainName bytes
plain_spelled bytes name e = record {
  name = name;
  no_word = λ word is. let bad : None ≡ Some (l.Word word) = sym e ∙ ap word_of is ∙ word_listed word in absurd (cc (bad));
  no_method = λ kind is. let bad : None ≡ Some (l.Name kind) = sym e ∙ method_listed kind bytes is in absurd (cc (bad));
}

plain_none : (bytes : List ℕ) → IsPlainName bytes → (found : Option Lexeme) → word_of bytes ≡ found → found ≡ None
plain_none bytes plain None e = refl
plain_none bytes plain (Some lexeme) e = absurd (fixed_not lexeme (word_fixed bytes lexeme e))
  where
    fixed_not : (lexeme : Lexeme) → IsWordText lexeme bytes → ⊥
    fixed_not (l.Word word) f = plain.no_word word f
    fixed_not (l.Name kind) f = plain.no_method kind f
    fixed_not (l.System system) f = f
    fixed_not (l.Literal v w s) f = f
    fixed_not (l.Mark mark) f = f

-- what the table says of each lexeme that a name spells
pub name_looked_up : (bytes : List ℕ) (lexeme : Lexeme) → IsName bytes → Spells lexeme bytes → (word_of bytes ≡ Some lexeme) ⊎ ((word_of bytes ≡ None) × (lexeme ≡ l.Name n.Plain))
name_looked_up bytes (l.Word word) name s = inl (ap word_of s ∙ word_listed word)
name_looked_up bytes (l.Name n.Plain) name s = inr (plain_none bytes s (word_of bytes) refl, refl)
name_looked_up bytes (l.Name n.Sum) name s = inl (method_listed n.Sum bytes (ap Some (sym s)))
name_looked_up bytes (l.Name n.Product) name s = inl (method_listed n.Product bytes (ap Some (sym s)))
name_looked_up bytes (l.Name n.And) name s = inl (method_listed n.And bytes (ap Some (sym s)))
name_looked_up bytes (l.Name n.Or) name s = inl (method_listed n.Or bytes (ap Some (sym s)))
name_looked_up bytes (l.Name n.Xor) name s = inl (method_listed n.Xor bytes (ap Some (sym s)))
name_looked_up bytes (l.Name n.Randomize) name s = inl (method_listed n.Randomize bytes (ap Some (sym s)))
name_looked_up bytes (l.Name n.RandMode) name s = inl (method_listed n.RandMode bytes (ap Some (sym s)))
name_looked_up bytes (l.Name n.ConstraintMode) name s = inl (method_listed n.ConstraintMode bytes (ap Some (sym s)))
name_looked_up bytes (l.System system) name s = absurd (name_no_system bytes system name s)
name_looked_up bytes (l.Literal v w s) name (literal, lawful, _, _, _) = absurd (name_not_literal bytes literal name lawful.writes)
name_looked_up bytes (l.Mark mark) name s = absurd (name_no_mark bytes mark name s)

pub named_exact : (bytes : List ℕ) (lexeme result : Lexeme) → IsName bytes → (found : Option Lexeme) → found ≡ word_of bytes → result ≡ unwrap_or found (l.Name n.Plain) → Spells lexeme bytes → result ≡ lexeme
named_exact bytes lexeme result name found e r s = go (name_looked_up bytes lexeme name s)
  where
    go : (word_of bytes ≡ Some lexeme) ⊎ ((word_of bytes ≡ None) × (lexeme ≡ l.Name n.Plain)) → result ≡ lexeme
    go (inl here) = r ∙ ap (λ o. unwrap_or o (l.Name n.Plain)) (e ∙ here)
    go (inr (none, plain)) = r ∙ ap (λ o. unwrap_or o (l.Name n.Plain)) (e ∙ none) ∙ sym plain

pub named_spells : (bytes : List ℕ) (result : Lexeme) → IsName bytes → (found : Option Lexeme) → found ≡ word_of bytes → result ≡ unwrap_or found (l.Name n.Plain) → Spells result bytes
named_spells bytes result name None e r = subst (λ x. Spells x bytes) (sym r) (plain_spelled bytes name (sym e))
named_spells bytes result name (Some lexeme) e r = subst (λ x. Spells x bytes) (sym r) (word_spelled bytes lexeme (sym e))

-- what a name spells is a name
pub spelled_name : (bytes : List ℕ) (kind : NameKind) → Spells (l.Name kind) bytes → IsName bytes
spelled_name bytes n.Plain s = s.name
spelled_name bytes n.Sum s = method_is_name n.Sum bytes (ap Some (sym s))
spelled_name bytes n.Product s = method_is_name n.Product bytes (ap Some (sym s))
spelled_name bytes n.And s = method_is_name n.And bytes (ap Some (sym s))
spelled_name bytes n.Or s = method_is_name n.Or bytes (ap Some (sym s))
spelled_name bytes n.Xor s = method_is_name n.Xor bytes (ap Some (sym s))
spelled_name bytes n.Randomize s = method_is_name n.Randomize bytes (ap Some (sym s))
spelled_name bytes n.RandMode s = method_is_name n.RandMode bytes (ap Some (sym s))
spelled_name bytes n.ConstraintMode s = method_is_name n.ConstraintMode bytes (ap Some (sym s))

-- MARKS AND SYSTEM NAMES

mark_text_spells : (bytes : List ℕ) (lexeme : Lexeme) → IsMarkText lexeme bytes → Spells lexeme bytes
mark_text_spells bytes (l.Word word) f = absurd f
mark_text_spells bytes (l.Name kind) f = absurd f
mark_text_spells bytes (l.System system) f = absurd f
mark_text_spells bytes (l.Literal v w s) f = absurd f
mark_text_spells bytes (l.Mark mark) f = f

system_text_spells : (bytes : List ℕ) (lexeme : Lexeme) → IsSystemText lexeme bytes → Spells lexeme bytes
system_text_spells bytes (l.Word word) f = absurd f
system_text_spells bytes (l.Name kind) f = absurd f
system_text_spells bytes (l.System system) f = f
system_text_spells bytes (l.Literal v w s) f = absurd f
system_text_spells bytes (l.Mark mark) f = absurd f

pub mark_spelled : (bytes : List ℕ) (lexeme : Lexeme) (found : Option Lexeme) → found ≡ mark_of bytes → found ≡ Some lexeme → Spells lexeme bytes
mark_spelled bytes lexeme found e is = mark_text_spells bytes lexeme (mark_fixed bytes lexeme (sym e ∙ is))

pub system_spelled : (bytes : List ℕ) (lexeme : Lexeme) (found : Option Lexeme) → found ≡ system_of bytes → found ≡ Some lexeme → Spells lexeme bytes
system_spelled bytes lexeme found e is = system_text_spells bytes lexeme (system_fixed bytes lexeme (sym e ∙ is))

mark_from_text : (bytes : List ℕ) (lexeme : Lexeme) → IsMarkText lexeme bytes → (mark : Mark) × (bytes ≡ mark_text mark)
mark_from_text bytes (l.Word word) f = absurd f
mark_from_text bytes (l.Name kind) f = absurd f
mark_from_text bytes (l.System system) f = absurd f
mark_from_text bytes (l.Literal v w s) f = absurd f
mark_from_text bytes (l.Mark mark) f = (mark, f)

system_from_text : (bytes : List ℕ) (lexeme : Lexeme) → IsSystemText lexeme bytes → (name : SystemName) × (bytes ≡ system_text name)
system_from_text bytes (l.Word word) f = absurd f
system_from_text bytes (l.Name kind) f = absurd f
system_from_text bytes (l.System system) f = (system, f)
system_from_text bytes (l.Literal v w s) f = absurd f
system_from_text bytes (l.Mark mark) f = absurd f

pub mark_yes : (bytes : List ℕ) (found : Option Lexeme) (test : Bool) → found ≡ mark_of bytes → test ≡ is_some found → test ≡ true → (mark : Mark) × (bytes ≡ mark_text mark)
mark_yes bytes None test e t yes_it_is = let bad : false ≡ true = sym t ∙ yes_it_is in absurd (cc (bad))
mark_yes bytes (Some lexeme) test e t yes_it_is = mark_from_text bytes lexeme (mark_fixed bytes lexeme (sym e))

pub mark_no : (bytes : List ℕ) (found : Option Lexeme) (test : Bool) → found ≡ mark_of bytes → test ≡ is_some found → (mark : Mark) → bytes ≡ mark_text mark → test ≡ true
mark_no bytes found test e t mark is = t ∙ ap is_some (e ∙ ap mark_of is ∙ mark_listed mark)

pub system_yes : (bytes : List ℕ) (found : Option Lexeme) (test : Bool) → found ≡ system_of bytes → test ≡ is_some found → test ≡ true → (name : SystemName) × (bytes ≡ system_text name)
system_yes bytes None test e t yes_it_is = let bad : false ≡ true = sym t ∙ yes_it_is in absurd (cc (bad))
system_yes bytes (Some lexeme) test e t yes_it_is = system_from_text bytes lexeme (system_fixed bytes lexeme (sym e))

pub system_no : (bytes : List ℕ) (found : Option Lexeme) (test : Bool) → found ≡ system_of bytes → test ≡ is_some found → (name : SystemName) → bytes ≡ system_text name → test ≡ true
system_no bytes found test e t system is = t ∙ ap is_some (e ∙ ap system_of is ∙ system_listed system)

-- bytes that are no name spell a mark, a system name or a literal
pub record IsNoName (bytes : List ℕ) : Type 0 where
  pub refused : IsName bytes → ⊥

-- what a mark spells is the mark alone
pub mark_exact : (bytes : List ℕ) (found lexeme : Lexeme) → IsNoName bytes → mark_of bytes ≡ Some found → Spells lexeme bytes → found ≡ lexeme
mark_exact bytes found (l.Word word) none e s = absurd (none.refused (subst IsName (sym s) (word_is_name word)))
mark_exact bytes found (l.Name kind) none e s = absurd (none.refused (spelled_name bytes kind s))
mark_exact bytes found (l.System system) none e s = let bad : Some found ≡ None = sym e ∙ ap mark_of s ∙ system_no_mark system in absurd (cc (bad))
mark_exact bytes found (l.Literal v w s) none e (literal, lawful, _, _, _) = absurd (go found (mark_fixed bytes found e))
  where
    go : (found : Lexeme) → IsMarkText found bytes → ⊥
    go (l.Word word) f = f
    go (l.Name kind) f = f
    go (l.System system) f = f
    go (l.Literal v w s) f = f
    go (l.Mark mark) f = mark_not_literal bytes mark literal f lawful.writes
mark_exact bytes found (l.Mark mark) none e s = let both : Some found ≡ Some (l.Mark mark) = sym e ∙ ap mark_of s ∙ mark_listed mark in cc (both)

pub system_exact : (bytes : List ℕ) (found lexeme : Lexeme) → IsNoName bytes → mark_of bytes ≡ None → system_of bytes ≡ Some found → Spells lexeme bytes → found ≡ lexeme
system_exact bytes found (l.Word word) none no_mark e s = absurd (none.refused (subst IsName (sym s) (word_is_name word)))
system_exact bytes found (l.Name kind) none no_mark e s = absurd (none.refused (spelled_name bytes kind s))
system_exact bytes found (l.System system) none no_mark e s = let both : Some found ≡ Some (l.System system) = sym e ∙ ap system_of s ∙ system_listed system in cc (both)
system_exact bytes found (l.Literal v w s) none no_mark e (literal, lawful, _, _, _) = absurd (go found (system_fixed bytes found e))
  where
    go : (found : Lexeme) → IsSystemText found bytes → ⊥
    go (l.Word word) f = f
    go (l.Name kind) f = f
    go (l.System system) f = system_not_literal bytes system literal f lawful.writes
    go (l.Literal v w s) f = f
    go (l.Mark mark) f = f
system_exact bytes found (l.Mark mark) none no_mark e s = let bad : None ≡ Some (l.Mark mark) = sym no_mark ∙ ap mark_of s ∙ mark_listed mark in absurd (cc (bad))

-- bytes that are no name, no mark and no system name spell a literal
pub literal_left : (bytes : List ℕ) (lexeme : Lexeme) (result : Option Lexeme) → IsNoName bytes → mark_of bytes ≡ None → system_of bytes ≡ None
    → ((v w : ℕ) (s : Bool) → Spells (l.Literal v w s) bytes → result ≡ Some (l.Literal v w s)) → Spells lexeme bytes → result ≡ Some lexeme
literal_left bytes (l.Word word) result none no_mark no_system exact s = absurd (none.refused (subst IsName (sym s) (word_is_name word)))
literal_left bytes (l.Name kind) result none no_mark no_system exact s = absurd (none.refused (spelled_name bytes kind s))
literal_left bytes (l.System system) result none no_mark no_system exact s = let bad : None ≡ Some (l.System system) = sym no_system ∙ ap system_of s ∙ system_listed system in absurd (cc (bad))
literal_left bytes (l.Literal v w g) result none no_mark no_system exact s = exact v w g s
literal_left bytes (l.Mark mark) result none no_mark no_system exact s = let bad : None ≡ Some (l.Mark mark) = sym no_mark ∙ ap mark_of s ∙ mark_listed mark in absurd (cc (bad))

-- LITERALS

-- a head that bytes end with their digits begins
begun : (bytes size digits head : List ℕ) (signed : Bool) (radix : Radix) → IsHead size signed radix head → bytes ≡ head ++ digits → BeginsWithHead bytes size signed radix digits
begun bytes size digits head signed radix is e = record { head = head; is_head = is; whole = e }

decimal_no_head : (bytes size rest : List ℕ) (signed : Bool) (radix : Radix) → IsDigits 10 bytes → BeginsWithHead bytes size signed radix rest → ⊥
decimal_no_head [] size rest signed radix d h = d
decimal_no_head (b ∷ bs) size rest signed radix d h =
    let split : SplitsDigits 10 (b ∷ bs) (b ∷ bs) [] = record { whole = sym (append-nil (b ∷ bs)); ends = (d, tt) } in
    let tails = head_tail (b ∷ bs) size (b ∷ bs) [] signed radix rest split h in
    clash tails.1
  where
    clash : {xs : List ℕ} → [] ≡ 39 ∷ xs → ⊥
    clash e = absurd (cc (e))

unbased_has_no_head : (bytes size rest : List ℕ) (bit signed : Bool) (radix : Radix) → Writes (unbased bit) bytes → BeginsWithHead bytes size signed radix rest → ⊥
unbased_has_no_head bytes size rest false signed radix is h = unbased_no_head bytes size rest [] signed radix 48 is refl (refl, (λ q. omega arith), (λ q. omega arith)) h
unbased_has_no_head bytes size rest true signed radix is h = unbased_no_head bytes size rest [] signed radix 49 is refl (refl, (λ q. omega arith), (λ q. omega arith)) h

decimal_not_unbased : (bytes : List ℕ) (bit : Bool) → IsDigits 10 bytes → Writes (unbased bit) bytes → ⊥
decimal_not_unbased bytes false d is = let bad : false ≡ true = (subst (IsDigits 10) is d).0 in absurd (cc (bad))
decimal_not_unbased bytes true d is = let bad : false ≡ true = (subst (IsDigits 10) is d).0 in absurd (cc (bad))

-- bytes write one literal at most
pub literal_one : (bytes : List ℕ) (m n : Literal) → Writes m bytes → Writes n bytes → m ≡ n
literal_one bytes (decimal ds) (decimal es) (d, is) (e, are) = ap decimal (sym is ∙ are)
literal_one bytes (decimal ds) (based size signed radix digits) (d, is) (head, h, e, w) = absurd (decimal_no_head bytes size digits signed radix (subst (IsDigits 10) (sym is) d) (begun bytes size digits head signed radix h w))
literal_one bytes (decimal ds) (unbased bit) (d, is) w = absurd (decimal_not_unbased bytes bit (subst (IsDigits 10) (sym is) d) w)
literal_one bytes (based size signed radix digits) (decimal es) (head, h, e, w) (d, is) = absurd (decimal_no_head bytes size digits signed radix (subst (IsDigits 10) (sym is) d) (begun bytes size digits head signed radix h w))
literal_one bytes (based size signed radix digits) (based sz sg rx ds) (head, h, e, w) (other, g, f, v) =
    let one : SameHead size sz signed sg radix rx digits ds = head_one bytes size sz signed sg radix rx digits ds (begun bytes size digits head signed radix h w) (begun bytes sz ds other sg rx g v) in
    rw (one.sizes, one.signs, one.radices, one.rests) refl
literal_one bytes (based size signed radix digits) (unbased bit) (head, h, e, w) v = absurd (unbased_has_no_head bytes size digits bit signed radix v (begun bytes size digits head signed radix h w))
literal_one bytes (unbased bit) (decimal es) v (d, is) = absurd (decimal_not_unbased bytes bit (subst (IsDigits 10) (sym is) d) v)
literal_one bytes (unbased bit) (based size signed radix digits) v (head, h, e, w) = absurd (unbased_has_no_head bytes size digits bit signed radix v (begun bytes size digits head signed radix h w))
literal_one bytes (unbased false) (unbased false) v w = refl
literal_one bytes (unbased false) (unbased true) v w = let bad : ◌≡◌ {A = ℕ} 48 49 = same_last (sym v ∙ w) in absurd (omega arith)
  where
    same_last : ◌≡◌ {A = List ℕ} (39 ∷ (48 ∷ [])) (39 ∷ (49 ∷ [])) → ◌≡◌ {A = ℕ} 48 49
    same_last e = ap (λ xs. slice_index xs 1) e
literal_one bytes (unbased true) (unbased false) v w = let bad : ◌≡◌ {A = ℕ} 49 48 = same_last (sym v ∙ w) in absurd (omega arith)
  where
    same_last : ◌≡◌ {A = List ℕ} (39 ∷ (49 ∷ [])) (39 ∷ (48 ∷ [])) → ◌≡◌ {A = ℕ} 49 48
    same_last e = ap (λ xs. slice_index xs 1) e
literal_one bytes (unbased true) (unbased true) v w = refl

-- a whole literal lacks no digit
pub whole_no_lack : (bytes : List ℕ) (literal : Literal) → Writes literal bytes → LacksDigit bytes → ⊥
whole_no_lack bytes (decimal ds) (d, is) lacks = decimal_no_head bytes lacks.size lacks.rest lacks.signed lacks.radix (subst (IsDigits 10) (sym is) d) lacks.begins
whole_no_lack bytes (based size signed radix []) (head, h, e, w) lacks = e
whole_no_lack bytes (based size signed radix (b ∷ bs)) (head, h, e, w) lacks =
    let one : SameHead size lacks.size signed lacks.signed radix lacks.radix (b ∷ bs) lacks.rest =
    head_one bytes size lacks.size signed lacks.signed radix lacks.radix (b ∷ bs) lacks.rest (begun bytes size (b ∷ bs) head signed radix h w) lacks.begins in
    clash radix lacks.radix one.radices e.0 (subst (Stops (λ x. is_digit x (base_of lacks.radix))) (sym one.rests) lacks.stops)
  where
    clash : (radix base : Radix) → radix ≡ base → is_digit b (base_of radix) ≡ true → is_digit b (base_of base) ≡ false → ⊥
    clash radix base r p q = let here : is_digit b (base_of base) ≡ true = subst (λ x. is_digit b (base_of x) ≡ true) r p in absurd (cc (here, q))
whole_no_lack bytes (unbased bit) w lacks = unbased_has_no_head bytes lacks.size lacks.rest bit lacks.signed lacks.radix w lacks.begins

pub no_name : (bytes : List ℕ) (test : Bool) → (IsName bytes → IsTrue test) → test ≡ false → IsNoName bytes
no_name bytes test told is = record { refused = λ name. absurd (cc (told name, is)) }

-- what a literal of all the bytes spells
pub whole_writes : (text rest : List ℕ) (literal : Literal) → BeginsWithLiteral text literal rest → rest ≡ [] → Writes literal text
whole_writes text rest literal begins e = subst (Writes literal) (sym (begins.whole ∙ ap (λ t. begins.bytes ++ t) e ∙ append-nil begins.bytes)) begins.writes

pub whole_left : (text rest : List ℕ) (literal other : Literal) → BeginsWithLiteral text literal rest → (rest ≡ [] → ⊥) → Writes other text → ⊥
whole_left text rest literal other begins some w =
    let long : length text ≤ length begins.bytes = begins.longest other text [] w (sym (append-nil text)) in
    let sum : length text ≡ length begins.bytes + length rest = ap length begins.whole ∙ length-append begins.bytes rest in
    let none : length rest ≡ 0 = omega arith in
    some (nothing_left rest none)

pub not_found : (text : List ℕ) (front : FrontLiteral) → IsFrontLiteral text front → ((literal : CodeLiteral) (rest : Bor (List ℕ)) → front ≡ f.Found literal rest → ⊥) → (other : Literal) → Writes other text → ⊥
not_found text f.Absent is none other w = is.none other text [] w (sym (append-nil text))
not_found text f.LacksDigit is none other w = whole_no_lack text other w is
not_found text (f.Found literal rest) is none other w = none literal rest refl

abbrev LexemeFrom : Literal → Lexeme
LexemeFrom m = l.Literal (value_of m) (width_of m) (is_signed m)

pub literal_spells : (bytes : List ℕ) (m : Literal) (r : Result Lexeme LiteralFault) (o : Option Lexeme) → Writes m bytes → o ≡ result_ok r
    → IfOk r (λ x. x ≡ l.Literal (value_of m) (width_of m) (is_signed m)) → IfOk r (λ x. (HasZeroSize m → ⊥) × (IsOverWide m → ⊥)) → IfSome o (λ x. Spells x bytes)
literal_spells bytes m (Err e) o w is value lawful = subst (λ x. IfSome x (λ y. Spells y bytes)) (sym is) tt
literal_spells bytes m (Ok x) o w is value lawful =
    let lawful' : IsLawfulLiteral m bytes = record { writes = w; has_size = lawful.0; narrow = lawful.1 } in
    let spelled : Spells (LexemeFrom m) bytes = (m, lawful', refl, refl, refl) in
    subst (λ z. IfSome z (λ y. Spells y bytes)) (sym is) (subst (λ y. Spells y bytes) (sym value) spelled)

pub literal_exact : (bytes : List ℕ) (m : Literal) (r : Result Lexeme LiteralFault) (o : Option Lexeme) → Writes m bytes → o ≡ result_ok r
    → IfOk r (λ x. x ≡ l.Literal (value_of m) (width_of m) (is_signed m)) → (r ≡ Err g.ZeroSize → HasZeroSize m) → (r ≡ Err g.TooWide → IsOverWide m × (HasZeroSize m → ⊥))
    → (v w : ℕ) (s : Bool) → Spells (l.Literal v w s) bytes → o ≡ Some (l.Literal v w s)
literal_exact bytes m r o writes is value zeros wides v w s (n, lawful, values, widths, signs) =
    let same : n ≡ m = literal_one bytes n m lawful.writes writes in
    go r is value zeros wides same
  where
    go : (r : Result Lexeme LiteralFault) → o ≡ result_ok r → IfOk r (λ x. x ≡ l.Literal (value_of m) (width_of m) (is_signed m)) → (r ≡ Err g.ZeroSize → HasZeroSize m)
        → (r ≡ Err g.TooWide → IsOverWide m × (HasZeroSize m → ⊥)) → n ≡ m → o ≡ Some (l.Literal v w s)
    go (Err g.ZeroSize) is value zeros wides same = absurd (lawful.has_size (subst HasZeroSize (sym same) (zeros refl)))
    go (Err g.TooWide) is value zeros wides same = absurd (lawful.narrow (subst IsOverWide (sym same) (wides refl).0))
    go (Ok x) is value zeros wides same =
        let vs : value_of m ≡ v = ap value_of (sym same) ∙ values in
        let ws : width_of m ≡ w = ap width_of (sym same) ∙ widths in
        let ss : is_signed m ≡ s = ap is_signed (sym same) ∙ signs in
        is ∙ ap Some (value ∙ all vs ws ss)
      where
        all : {a b : ℕ} {c : Bool} → a ≡ v → b ≡ w → c ≡ s → l.Literal a b c ≡ l.Literal v w s
        all p q t = rw (p, q, t) refl

pub none_exact : (bytes : List ℕ) → ((other : Literal) → Writes other bytes → ⊥) → (v w : ℕ) (s : Bool) → Spells (l.Literal v w s) bytes → (result : Option Lexeme) → result ≡ Some (l.Literal v w s)
none_exact bytes none v w s (n, lawful, _, _, _) result = absurd (none n lawful.writes)

-- the value of a literal with a size, cut twice
pub sized_value : (size digits : List ℕ) (signed : Bool) (radix : Radix) (v w n : ℕ) → (size ≡ [] → ⊥) → v ≡ n % 2 ^ w → n ≡ number_of (base_of radix) digits % 2 ^ 64 → w ≡ number_of 10 size → w ≤ 64
    → l.Literal v w signed ≡ l.Literal (value_of (based size signed radix digits)) (width_of (based size signed radix digits)) signed
sized_value [] digits signed radix v w n some e f g small = absurd (some refl)
sized_value (b ∷ bs) digits signed radix v w n some e f g small =
    let cut : v ≡ number_of (base_of radix) digits % 2 ^ number_of 10 (b ∷ bs) =
    e ∙ ap (λ x. x % 2 ^ w) f ∙ cut_twice (number_of (base_of radix) digits) w small ∙ ap (λ x. number_of (base_of radix) digits % 2 ^ x) g in
    both cut g
  where
    both : {a c : ℕ} → v ≡ a → w ≡ c → l.Literal v w signed ≡ l.Literal a c signed
    both p q = rw (p, q) refl
