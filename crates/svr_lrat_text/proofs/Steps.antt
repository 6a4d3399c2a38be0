-- How reading goes on behind one token
use Rattle.std.proofs.Common.{◌≡◌, ℕ, Bool, true, false, not, ◌==◌, List, [], ◌∷◌, Option, None, Some, option_map, refl, sym, ap, ◌∙◌, subst}
use Rattle.std.specs.Prelude.{is_some}
use Rattle.std.proofs.lemmas.Bool.{and_parts, cond_both, not-true, eqb-true}
use Rattle.svr_lrat_file.specs.declared.file.Number.{Number}
use Rattle.svr_lrat_text.specs.declared.word.Word.{Word}
use Rattle.svr_lrat_text.specs.declared.word.Word.TheVariants as w
use Rattle.svr_lrat_text.specs.declared.cursor.Token.{Token}
use Rattle.svr_lrat_text.specs.declared.fault.LratFault.{LratFault}
use Rattle.svr_lrat_text.specs.declared.fault.LratFault.TheVariants as e
use Rattle.svr_lrat_text.specs.Words.{is_zero, number_in}
use Rattle.svr_lrat_text.specs.File.{plain, is_entry}
use Rattle.svr_lrat_text.specs.Reading.{Place, reads, is_bad, is_large, stopped, step, after, entry_of, entry_number, IsStop, IsTokenFault}

pub after-some : (p q : Place) (t : Token) (ts : List Token) → step true p t.word ≡ Some q → after p (t ∷ ts) ≡ after q ts
unfolding after
after-some p q t ts h = rw (h, after) refl

pub after-none : (p : Place) (t : Token) (ts : List Token) → step true p t.word ≡ None → after p (t ∷ ts) ≡ stopped (step false p t.word) t.at
unfolding after
after-none p t ts h = rw (h, after) refl

pub after-bad : (p : Place) (t : Token) (ts : List Token) → step true p t.word ≡ None → step false p t.word ≡ None → after p (t ∷ ts) ≡ is_bad t.at
after-bad p t ts h k = after-none p t ts h ∙ ap (λ o. stopped o t.at) k

pub after-large : (p : Place) (t : Token) (ts : List Token) → step true p t.word ≡ None → is_some (step false p t.word) ≡ true → after p (t ∷ ts) ≡ is_large t.at
after-large p t ts h k = after-none p t ts h ∙ large (step false p t.word) k
  where
    large : (o : Option Place) → is_some o ≡ true → stopped o t.at ≡ is_large t.at
    large None k = cc
    large (Some q) k = refl

pub after-nil : (p : Place) → after p [] ≡ reads p
unfolding after
after-nil p = refl

map-none : {A B : Type 0} (f : A → B) (o : Option A) → o ≡ None → option_map f o ≡ None
map-none f o h = rw h refl

map-some : {A B : Type 0} (f : A → B) (o : Option A) → is_some o ≡ true → is_some (option_map f o) ≡ true
map-some f None h = h
map-some f (Some x) h = refl

-- a token at fault stops the reader
pub stops-at : {A : Type 0} (read : Bool → Word → Option A) (f : A → Place) (p : Place) (t : Token) (ts : List Token) (e : LratFault)
    → ((b : Bool) → step b p t.word ≡ option_map f (read b t.word)) → IsTokenFault read t e → IsStop p (t ∷ ts) e
stops-at read f p t ts (e.Bad at) s h =
    after-bad p t ts (s true ∙ map-none f (read true t.word) h.1) (s false ∙ map-none f (read false t.word) h.2) ∙ ap (λ z. is_bad z) (sym h.0)
stops-at read f p t ts (e.TooLarge at) s h =
    after-large p t ts (s true ∙ map-none f (read true t.word) h.1) (ap is_some (s false) ∙ map-some f (read false t.word) h.2) ∙ ap (λ z. is_large z) (sym h.0)
stops-at read f p t ts e.NoMemory s h = absurd h

-- the same fault, as seen from an earlier place
pub stop-before : (p q : Place) (old now : List Token) (e : LratFault) → after p old ≡ after q now → IsStop q now e → IsStop p old e
stop-before p q old now (e.Bad at) g h = g ∙ h
stop-before p q old now (e.TooLarge at) g h = g ∙ h
stop-before p q old now e.NoMemory g h = tt

-- ---- which words were read

pub number-found : (word : Word) (n : Number) → number_in word ≡ Some n → word ≡ w.Number n
number-found w.Problem n h = cc
number-found w.Cnf n h = cc
number-found w.Delete n h = cc
number-found (w.Number m) n h = ap (λ z. w.Number z) (let s : m ≡ n = cc in s)
number-found w.Other n h = cc
number-found w.End n h = cc

zero-number : (n : Number) → is_zero n ≡ true → w.Number n ≡ plain 0
zero-number n h =
    let p = and_parts (not n.negative) (n.size == 0) h in
    let s : n.negative ≡ false = not-true n.negative p.0 in
    let z : n.size ≡ 0 = eqb-true n.size 0 p.1 in
    λ i. w.Number (record { negative = s i; size = z i })

-- what an entry can be
pub data Entry (limited : Bool) (most : ℕ) (signed : Bool) (n : Number) : Option (Option Number) → Type 0 where
  is_last : is_zero n ≡ true → Entry limited most signed n (Some None)
  is_more : is_entry limited most signed n ≡ true → Entry limited most signed n (Some (Some n))
  is_none : Entry limited most signed n None

pub entry-cases : (limited : Bool) (most : ℕ) (signed : Bool) (n : Number) → Entry limited most signed n (entry_number limited most signed n)
entry-cases limited most signed n =
    cond_both (is_zero n) (Some None) _ (Entry limited most signed n)
    (λ h. is_last h)
    (λ h. cond_both (is_entry limited most signed n) (Some (Some n)) None (Entry limited most signed n) (λ k. is_more k) (λ k. is_none))

number-zero : (limited : Bool) (most : ℕ) (signed : Bool) (n : Number) (o : Option (Option Number)) → Entry limited most signed n o → o ≡ Some None → w.Number n ≡ plain 0
number-zero limited most signed n (Some None) (is_last z) h = zero-number n z
number-zero limited most signed n (Some (Some m)) (is_more k) h = cc
number-zero limited most signed n None is_none h = cc

pub entry-zero : (limited : Bool) (most : ℕ) (signed : Bool) (word : Word) → entry_of limited most signed word ≡ Some None → word ≡ plain 0
entry-zero limited most signed w.Problem h = cc
entry-zero limited most signed w.Cnf h = cc
entry-zero limited most signed w.Delete h = cc
entry-zero limited most signed (w.Number n) h = number-zero limited most signed n _ (entry-cases limited most signed n) h
entry-zero limited most signed w.Other h = cc
entry-zero limited most signed w.End h = cc

-- the word is this number, which may stand there
pub record IsEntry (limited : Bool) (most : ℕ) (signed : Bool) (word : Word) (n : Number) : Type 0 where
  pub is : word ≡ w.Number n
  pub may : is_entry limited most signed n ≡ true

number-some : (limited : Bool) (most : ℕ) (signed : Bool) (n m : Number) (o : Option (Option Number)) → Entry limited most signed n o → o ≡ Some (Some m) → IsEntry limited most signed (w.Number n) m
number-some limited most signed n m (Some None) (is_last z) h = cc
number-some limited most signed n m (Some (Some k)) (is_more may) h =
    let s : n ≡ m = cc in
    record { is = ap (λ z. w.Number z) s; may = subst (λ z. is_entry limited most signed z ≡ true) s may }
number-some limited most signed n m None is_none h = cc

pub entry-some : (limited : Bool) (most : ℕ) (signed : Bool) (word : Word) (n : Number) → entry_of limited most signed word ≡ Some (Some n) → IsEntry limited most signed word n
entry-some limited most signed w.Problem n h = absurd (let z : None ≡ Some (Some n) = h in cc)
entry-some limited most signed w.Cnf n h = absurd (let z : None ≡ Some (Some n) = h in cc)
entry-some limited most signed w.Delete n h = absurd (let z : None ≡ Some (Some n) = h in cc)
entry-some limited most signed (w.Number m) n h = number-some limited most signed m n _ (entry-cases limited most signed m) h
entry-some limited most signed w.Other n h = absurd (let z : None ≡ Some (Some n) = h in cc)
entry-some limited most signed w.End n h = absurd (let z : None ≡ Some (Some n) = h in cc)

-- want of memory is no fault of the text
pub memory-stops : (p : Place) (ts : List Token) (x : LratFault) → x ≡ e.NoMemory → IsStop p ts x
memory-stops p ts x h = subst (λ z. IsStop p ts z) (sym h) tt
