-- Numbers at their places, by the word that stands there
use Rattle.std.proofs.Common.{◌≡◌, ℕ, Bool, true, false, ◌&&◌, cond, Option, None, Some, Result, Ok, Err, refl, sym, ap, ◌∙◌}
use Rattle.std.specs.Prelude.{is_some, MatchResult, nat_le}
use Rattle.svr_lrat_text.specs.declared.limits.TheConstants.{MOST_ID}
use Rattle.svr_lrat_file.specs.declared.file.Number.{Number}
use Rattle.svr_lrat_text.specs.declared.word.Word.{Word}
use Rattle.svr_lrat_text.specs.declared.word.Word.TheVariants as w
use Rattle.svr_lrat_text.specs.declared.cursor.Token.{Token}
use Rattle.svr_lrat_text.specs.declared.fault.LratFault.{LratFault}
use Rattle.svr_lrat_text.specs.declared.fault.LratFault.TheVariants as e
use Rattle.svr_lrat_text.specs.Words.{number_in, is_zero}
use Rattle.svr_lrat_text.specs.File.{is_form}
use Rattle.svr_lrat_text.specs.Reading.{count_number, count_of, entry_number, entry_of, id_of, id_entry, IsTokenFault}
use Rattle.svr_lrat_text.proofs.Machine.{entry-weaker}

nothing : {A : Type 0} (x : A) → None ≡ Some x → ⊥
nothing x h = cc

count-by : (b : Bool) (word : Word) (o : Option Number) → number_in word ≡ o → count_of b word ≡ elim o [ None ↦ None | Some n ↦ count_number b n ]
count-by b word o h = λ i. elim (h i) [ None ↦ None | Some n ↦ count_number b n ]

entry-by : (b : Bool) (most : ℕ) (signed : Bool) (word : Word) (o : Option Number) → number_in word ≡ o → entry_of b most signed word ≡ elim o [ None ↦ None | Some n ↦ entry_number b most signed n ]
entry-by b most signed word o h = λ i. elim (h i) [ None ↦ None | Some n ↦ entry_number b most signed n ]

pub count-none : (t : Token) → number_in t.word ≡ None → IsTokenFault count_of t (e.Bad t.at)
count-none t h = (refl, count-by true t.word None h, count-by false t.word None h)

pub entry-none : (most : ℕ) (signed : Bool) (t : Token) → number_in t.word ≡ None → IsTokenFault (λ b. entry_of b most signed) t (e.Bad t.at)
entry-none most signed t h = (refl, entry-by true most signed t.word None h, entry-by false most signed t.word None h)

-- the same fault, where the same is read
fault-same : {A : Type 0} (read other : Bool → Word → Option A) (t : Token) (x : LratFault) → ((b : Bool) → other b t.word ≡ read b t.word) → IsTokenFault read t x → IsTokenFault other t x
fault-same read other t (e.Bad at) s h = (h.0, s true ∙ h.1, s false ∙ h.2)
fault-same read other t (e.TooLarge at) s h = (h.0, s true ∙ h.1, ap is_some (s false) ∙ h.2)
fault-same read other t e.NoMemory s h = h

pub count-some : (t : Token) (n : Number) (r : Result ℕ LratFault) → number_in t.word ≡ Some n → MatchResult r (λ m. count_number true n ≡ Some m) (λ x. IsTokenFault (λ b word. count_number b n) t x)
    → MatchResult r (λ m. count_of true t.word ≡ Some m) (λ x. IsTokenFault count_of t x)
count-some t n (Ok m) h k = count-by true t.word (Some n) h ∙ k
count-some t n (Err x) h k = fault-same (λ b word. count_number b n) count_of t x (λ b. count-by b t.word (Some n) h) k

pub entry-some-in : (most : ℕ) (signed : Bool) (t : Token) (n : Number) (r : Result (Option Number) LratFault) → number_in t.word ≡ Some n
    → MatchResult r (λ o. entry_number true most signed n ≡ Some o) (λ x. IsTokenFault (λ b word. entry_number b most signed n) t x)
    → MatchResult r (λ o. entry_of true most signed t.word ≡ Some o) (λ x. IsTokenFault (λ b. entry_of b most signed) t x)
entry-some-in most signed t n (Ok o) h k = entry-by true most signed t.word (Some n) h ∙ k
entry-some-in most signed t n (Err x) h k = fault-same (λ b word. entry_number b most signed n) (λ b. entry_of b most signed) t x (λ b. entry-by b most signed t.word (Some n) h) k

-- ---- identifiers

pub id-some : (t : Token) (n : Number) → entry_of true MOST_ID false t.word ≡ Some (Some n) → id_of true t.word ≡ Some n.size
id-some t n h = ap id_entry h

pub id-zero : (t : Token) → entry_of true MOST_ID false t.word ≡ Some None → IsTokenFault id_of t (e.Bad t.at)
id-zero t h = (refl, ap id_entry h, ap id_entry (entry-weaker MOST_ID false t.word None h))

-- a 0 stands there whatever the limits
zero-limited : (most : ℕ) (signed : Bool) (word : Word) → entry_of false most signed word ≡ Some None → entry_of true most signed word ≡ Some None
zero-limited most signed w.Problem h = h
zero-limited most signed w.Cnf h = h
zero-limited most signed w.Delete h = h
zero-limited most signed (w.Number m) h = go (is_zero m) (is_form signed m) (nat_le m.size most) h
  where
    go : (z a c : Bool) → cond z (Some None) (cond (a && true) (Some (Some m)) None) ≡ Some None → cond z (Some None) (cond (a && c) (Some (Some m)) None) ≡ Some None
    go true a c h = refl
    go false true c h = absurd (let k : Some (Some m) ≡ Some None = h in cc)
    go false false c h = absurd (nothing None h)
zero-limited most signed w.Other h = h
zero-limited most signed w.End h = h

id-there : (o : Option (Option Number)) → is_some o ≡ true → (o ≡ Some None → ⊥) → is_some (id_entry o) ≡ true
id-there None h k = h
id-there (Some None) h k = absurd (k refl)
id-there (Some (Some n)) h k = refl

pub id-fault : (t : Token) (x : LratFault) → IsTokenFault (λ b. entry_of b MOST_ID false) t x → IsTokenFault id_of t x
id-fault t (e.Bad at) h = (h.0, ap id_entry h.1, ap id_entry h.2)
id-fault t (e.TooLarge at) h =
    (h.0, ap id_entry h.1, id-there (entry_of false MOST_ID false t.word) h.2 (λ z. nothing None (sym h.1 ∙ zero-limited MOST_ID false t.word z)))
id-fault t e.NoMemory h = h
