-- A file within the limits is read back from its text
use Rattle.std.proofs.Common.{◌≡◌, ℕ, ◌+◌, ◌<◌, ◌≤◌, ◌^◌, Bool, true, false, not, ◌&&◌, ◌||◌, nat_lt, List, [], ◌∷◌, ◌++◌, length, map, flat_map, take, drop, get_or, decimal, codes, refl, sym, ap, ◌∙◌, subst, arith, append_assoc, append-nil, take_at, drop_at}
use Rattle.std.specs.List.{list_all}
use Rattle.std.proofs.lemmas.Bool.{and_parts, and_from, leb-true, ltb-true, not-true, not_from_true}
use Rattle.std.proofs.lemmas.List.{length-append}
use Rattle.svr_chain.specs.declared.clause.Lit.{Lit}
use Rattle.svr_lrat_file.specs.declared.file.Number.{Number}
use Rattle.svr_lrat_file.specs.declared.file.Line.{Line}
use Rattle.svr_lrat_file.specs.declared.file.Line.TheVariants as l
use Rattle.svr_lrat_file.specs.Views.{FileView}
use Rattle.svr_lrat_text.specs.declared.limits.TheConstants.{MOST_COUNT, MOST_ID, MOST_SIZE}
use Rattle.svr_lrat_text.specs.Words.{is_blank, is_of_kind, Ends, tokens, tokens_in, tokens_of, words, word_of, token_word}
use Rattle.svr_lrat_text.specs.File.{unsigned, plain, lit_number, list_words, clause_words, line_words, file_words, fits, is_form, is_entry, is_lit, is_clause, is_id, is_line, is_file}
use Rattle.svr_lrat_text.specs.Faults.{IsFileOf}
use Rattle.svr_lrat_text.specs.Reading.{behind}
use Rattle.svr_lrat_text.proofs.Tokens.{gap_read, one_token, behind_word}
use Rattle.svr_lrat_printed.specs.Text.{sign_text, item_text, lit_text, lits_text, last_text, clause_text, line_text, header_text, text_of}
use Rattle.svr_lrat_printed.proofs.Digits.{IsWritten, written, digits-solid, plain-word, negative-word}

-- ---- texts that are read as these words, wherever they stand

module _ {W : Type 0} (read : ℕ → List ℕ → List W) where
  abbrev pub Reads : List ℕ → List W → Type 0
  Reads text ws = (at : ℕ) (rest : List ℕ) → (next : ℕ) × (read at (text ++ rest) ≡ ws ++ read next rest)

  pub reads-none : Reads [] []
  reads-none at rest = (at, refl)

  pub reads-both : (a b : List ℕ) (u v : List W) → Reads a u → Reads b v → Reads (a ++ b) (u ++ v)
  reads-both a b u v r q at rest =
      let x = r at (b ++ rest) in
      let y = q x.0 rest in
      (y.0, ap (read at) (append_assoc a b rest) ∙ x.1 ∙ ap (λ z. u ++ z) y.1 ∙ sym (append_assoc u v (read y.0 rest)))

  pub reads-each : {A : Type 0} (f : A → List ℕ) (g : A → List W) (good : A → Bool) → ((x : A) → good x ≡ true → Reads (f x) (g x)) → (xs : List A) → list_all good xs ≡ true → Reads (flat_map f xs) (flat_map g xs)
  reads-each f g good r [] e = reads-none
  reads-each f g good r (x ∷ xs) e =
      let p = and_parts (good x) (list_all good xs) e in
      reads-both (f x) (flat_map f xs) (g x) (flat_map g xs) (r x p.0) (reads-each f g good r xs p.1)

-- ---- one token

-- bytes that are not blank, and a blank
module _ (b : ℕ) (bs : List ℕ) (gap at : ℕ) (rest : List ℕ) where
  token-read : list_all (is_of_kind false) (b ∷ bs) ≡ true → is_blank gap ≡ true
      → tokens true at ((b ∷ bs) ++ gap ∷ rest) ≡ record { at = at; word = word_of (b ∷ bs) } ∷ tokens true (at + length (b ∷ bs) + 1) rest
  token-read s g =
      let front : take (length (b ∷ bs)) ((b ∷ bs) ++ gap ∷ rest) ≡ b ∷ bs = take_at (b ∷ bs) (gap ∷ rest) (length (b ∷ bs)) refl in
      let back : drop (length (b ∷ bs)) ((b ∷ bs) ++ gap ∷ rest) ≡ gap ∷ rest = drop_at (b ∷ bs) (gap ∷ rest) (length (b ∷ bs)) refl in
      let long : length ((b ∷ bs) ++ gap ∷ rest) ≡ length (b ∷ bs) + length (gap ∷ rest) = length-append (b ∷ bs) (gap ∷ rest) in
      let begins : is_blank b ≡ false = not-true (is_blank b) (and_parts (not (is_blank b)) (list_all (is_of_kind false) bs) s).0 in
      let past : tokens true (at + length (b ∷ bs)) (gap ∷ rest) ≡ tokens true (at + length (b ∷ bs) + 1) rest = gap_read (at + length (b ∷ bs)) 1 (gap ∷ rest) (omega arith) (and_from (is_blank gap) true g refl) in
      one_token at (length (b ∷ bs)) ((b ∷ bs) ++ gap ∷ rest) begins (omega arith) (ap (list_all (is_of_kind false)) front ∙ s) (subst (Ends false) (sym back) (not_from_true (is_blank gap) g))
      ∙ ap (λ z. record { at = at; word = token_word z } ∷ behind (token_word z) (tokens true (at + length (b ∷ bs)) (drop (length (b ∷ bs)) ((b ∷ bs) ++ gap ∷ rest)))) front
      ∙ ap (λ z. record { at = at; word = word_of (b ∷ bs) } ∷ z) (behind_word (b ∷ bs) (tokens true (at + length (b ∷ bs)) (drop (length (b ∷ bs)) ((b ∷ bs) ++ gap ∷ rest))) ∙ ap (tokens true (at + length (b ∷ bs))) back ∙ past)

reads-token : (bs : List ℕ) (gap : ℕ) → list_all (is_of_kind false) bs ≡ true → 0 < length bs → is_blank gap ≡ true → Reads (λ at text. words (tokens true at text)) (bs ++ gap ∷ []) (word_of bs ∷ [])
reads-token [] gap s h g at rest = absurd (omega arith)
reads-token (b ∷ bs) gap s h g at rest =
    (at + length (b ∷ bs) + 1, ap (λ z. words (tokens true at z)) (append_assoc (b ∷ bs) (gap ∷ []) rest) ∙ ap words (token-read b bs gap at rest s g))

-- ---- numbers

most-64 : (n : ℕ) → n ≤ MOST_SIZE → n < 2 ^ 64
most-64 n h = omega arith

reads-plain : (n gap : ℕ) → n ≤ MOST_SIZE → is_blank gap ≡ true → Reads (λ at text. words (tokens true at text)) (decimal n ++ gap ∷ []) (plain n ∷ [])
reads-plain n gap h g =
    let r : IsWritten n (decimal n) = written n (most-64 n h) in
    subst (λ z. Reads (λ at text. words (tokens true at text)) (decimal n ++ gap ∷ []) (z ∷ [])) (plain-word n (decimal n) h r) (reads-token (decimal n) gap (digits-solid (decimal n) r.digits) r.some g)

reads-negative : (n gap : ℕ) → n ≤ MOST_SIZE → 0 < n → is_blank gap ≡ true → Reads (λ at text. words (tokens true at text)) ((45 ∷ decimal n) ++ gap ∷ []) (get_or (list_words (record { negative = true; size = n } ∷ [])) 0 (plain 0) ∷ [])
reads-negative n gap h p g =
    let r : IsWritten n (decimal n) = written n (most-64 n h) in
    subst (λ z. Reads (λ at text. words (tokens true at text)) ((45 ∷ decimal n) ++ gap ∷ []) (z ∷ [])) (negative-word n (decimal n) h p r) (reads-token (45 ∷ decimal n) gap (digits-solid (decimal n) r.digits) (omega arith) g)

-- a number that a list can hold
abbrev Fits : Number → Type 0
Fits n = (0 < n.size) × (n.size ≤ MOST_SIZE)

reads-item : (n : Number) → Fits n → Reads (λ at text. words (tokens true at text)) (item_text n) (get_or (list_words (n ∷ [])) 0 (plain 0) ∷ [])
reads-item n f = by-sign n.negative n.size f.1 f.0
  where
    by-sign : (negative : Bool) (size : ℕ) → size ≤ MOST_SIZE → 0 < size → Reads (λ at text. words (tokens true at text)) (sign_text negative ++ (decimal size ++ codes " ")) (get_or (list_words (record { negative = negative; size = size } ∷ [])) 0 (plain 0) ∷ [])
    by-sign true size h p = reads-negative size 32 h p refl
    by-sign false size h p = reads-plain size 32 h refl

abbrev EachFits : List Number → Type 0
EachFits [] = Unit {0}
EachFits (n ∷ ns) = Fits n × EachFits ns

reads-zero : (gap : ℕ) → is_blank gap ≡ true → Reads (λ at text. words (tokens true at text)) (48 ∷ gap ∷ []) (plain 0 ∷ [])
reads-zero gap g = reads-token (48 ∷ []) gap refl (omega arith) g

reads-last : (ns : List Number) → EachFits ns → Reads (λ at text. words (tokens true at text)) (last_text ns) (list_words ns)
reads-last [] f = reads-zero 10 refl
reads-last (n ∷ ns) f = λ at rest.
    let x = reads-item n f.0 at ((flat_map item_text ns ++ codes "0\n") ++ rest) in
    let y = reads-last ns f.1 x.0 rest in (
      y.0,
      ap (λ z. words (tokens true at (z ++ rest))) (append_assoc (item_text n) (flat_map item_text ns) (codes "0\n"))
          ∙ ap (λ z. words (tokens true at z)) (append_assoc (item_text n) (flat_map item_text ns ++ codes "0\n") rest)
          ∙ x.1 ∙ ap (λ z. get_or (list_words (n ∷ [])) 0 (plain 0) ∷ z) y.1,
    )

-- ---- literals

module _ (ending : List ℕ) (zero-read : Reads (λ at text. words (tokens true at text)) ending (plain 0 ∷ [])) where
  reads-lits : (c : List Lit) → EachFits (map lit_number c) → Reads (λ at text. words (tokens true at text)) (flat_map lit_text c ++ ending) (clause_words c)
  reads-lits [] f = zero-read
  reads-lits (x ∷ c) f = λ at rest.
      let u = reads-item (lit_number x) f.0 at ((flat_map lit_text c ++ ending) ++ rest) in
      let y = reads-lits c f.1 u.0 rest in (
        y.0,
        ap (λ z. words (tokens true at (z ++ rest))) (append_assoc (lit_text x) (flat_map lit_text c) ending)
            ∙ ap (λ z. words (tokens true at z)) (append_assoc (lit_text x) (flat_map lit_text c ++ ending) rest)
            ∙ u.1 ∙ ap (λ z. get_or (list_words (lit_number x ∷ [])) 0 (plain 0) ∷ z) y.1,
      )

-- ---- limits

fits-below : (n most : ℕ) → fits true n most ≡ true → most ≤ MOST_SIZE → n ≤ MOST_SIZE
fits-below n most e h = let k : n ≤ most = leb-true n most e in omega arith

entry-fits : (most : ℕ) (signed : Bool) (n : Number) → most ≤ MOST_SIZE → is_entry true most signed n ≡ true → Fits n
entry-fits most signed n h e =
    let p = and_parts (is_form signed n) (fits true n.size most) e in
    let q = and_parts (nat_lt 0 n.size) (signed || not n.negative) p.0 in
    (ltb-true 0 n.size q.0, fits-below n.size most p.1 h)

entries-fit : (most : ℕ) (signed : Bool) (ns : List Number) → most ≤ MOST_SIZE → list_all (is_entry true most signed) ns ≡ true → EachFits ns
entries-fit most signed [] h e = tt
entries-fit most signed (n ∷ ns) h e =
    let p = and_parts (is_entry true most signed n) (list_all (is_entry true most signed) ns) e in
    (entry-fits most signed n h p.0, entries-fit most signed ns h p.1)

lits-fit : (vars : ℕ) (c : List Lit) → vars ≤ MOST_SIZE → is_clause true vars c ≡ true → EachFits (map lit_number c)
lits-fit vars [] h e = tt
lits-fit vars (x ∷ c) h e =
    let p = and_parts (is_lit true vars x) (is_clause true vars c) e in
    (entry-fits vars true (lit_number x) h p.0, lits-fit vars c h p.1)

-- ---- lines

reads-clause : (vars : ℕ) (c : List Lit) → vars ≤ MOST_SIZE → is_clause true vars c ≡ true → Reads (λ at text. words (tokens true at text)) (clause_text c) (clause_words c)
reads-clause vars c h e = reads-lits (codes "0\n") (reads-zero 10 refl) c (lits-fit vars c h e)

reads-lemma : (vars : ℕ) (c : List Lit) → vars ≤ MOST_SIZE → is_clause true vars c ≡ true → Reads (λ at text. words (tokens true at text)) (lits_text c) (clause_words c)
reads-lemma vars c h e = reads-lits (codes "0 ") (reads-zero 32 refl) c (lits-fit vars c h e)

id-most : MOST_ID ≤ MOST_SIZE
id-most = omega arith

reads-id : (id : ℕ) → is_id true id ≡ true → Reads (λ at text. words (tokens true at text)) (item_text (unsigned id)) (plain id ∷ [])
reads-id id e = reads-item (unsigned id) (entry-fits MOST_ID false (unsigned id) id-most e)

reads-line : (vars : ℕ) (x : Line) → vars ≤ MOST_SIZE → is_line true vars x ≡ true → Reads (λ at text. words (tokens true at text)) (line_text x) (line_words x)
reads-line vars (l.Lemma id lits hints) h e =
    let p = and_parts (is_id true id) (is_clause true vars lits && list_all (is_entry true MOST_ID true) hints) e in
    let q = and_parts (is_clause true vars lits) (list_all (is_entry true MOST_ID true) hints) p.1 in
    reads-both (λ at text. words (tokens true at text)) (item_text (unsigned id)) (lits_text lits ++ last_text hints) (plain id ∷ []) (clause_words lits ++ list_words hints) (reads-id id p.0)
    (reads-both (λ at text. words (tokens true at text)) (lits_text lits) (last_text hints) (clause_words lits) (list_words hints) (reads-lemma vars lits h q.0) (reads-last hints (entries-fit MOST_ID true hints id-most q.1)))
reads-line vars (l.Delete id ids) h e =
    let p = and_parts (is_id true id) (list_all (is_entry true MOST_ID false) ids) e in
    reads-both (λ at text. words (tokens true at text)) (item_text (unsigned id)) (codes "d " ++ last_text ids) (plain id ∷ []) (word_of (100 ∷ []) ∷ list_words ids) (reads-id id p.0)
    (reads-both (λ at text. words (tokens true at text)) (codes "d ") (last_text ids) (word_of (100 ∷ []) ∷ []) (list_words ids) (reads-token (100 ∷ []) 32 refl (omega arith) refl) (reads-last ids (entries-fit MOST_ID false ids id-most p.1)))

-- ---- files

reads-header : (vars count : ℕ) → vars ≤ MOST_SIZE → count ≤ MOST_SIZE
    → Reads (λ at text. words (tokens true at text)) (header_text vars count) (word_of (112 ∷ []) ∷ (word_of (99 ∷ 110 ∷ 102 ∷ []) ∷ (plain vars ∷ (plain count ∷ []))))
reads-header vars count h k =
    reads-both (λ at text. words (tokens true at text)) (codes "p ") (codes "cnf " ++ (item_text (unsigned vars) ++ (decimal count ++ codes "\n"))) (word_of (112 ∷ []) ∷ []) (word_of (99 ∷ 110 ∷ 102 ∷ []) ∷ (plain vars ∷ (plain count ∷ []))) (reads-token (112 ∷ []) 32 refl (omega arith) refl)
    (reads-both (λ at text. words (tokens true at text)) (codes "cnf ") (item_text (unsigned vars) ++ (decimal count ++ codes "\n")) (word_of (99 ∷ 110 ∷ 102 ∷ []) ∷ []) (plain vars ∷ (plain count ∷ [])) (reads-token (99 ∷ 110 ∷ 102 ∷ []) 32 refl (omega arith) refl)
    (reads-both (λ at text. words (tokens true at text)) (item_text (unsigned vars)) (decimal count ++ codes "\n") (plain vars ∷ []) (plain count ∷ []) (reads-plain vars 32 h refl) (reads-plain count 10 k refl)))

-- the header stands at the begin of the text
header-first : (bs : List ℕ) → tokens_of (112 ∷ bs) ≡ tokens true 0 (112 ∷ bs)
unfolding tokens_in
header-first bs = refl

ended : (at : ℕ) → words (tokens true at []) ≡ token_word [] ∷ []
unfolding tokens
ended at = refl

module _ (f : FileView) where
  reads-body : f.vars ≤ MOST_SIZE → list_all (is_clause true f.vars) f.clauses ≡ true → list_all (is_line true f.vars) f.lines ≡ true
      → Reads (λ at text. words (tokens true at text)) (flat_map clause_text f.clauses ++ flat_map line_text f.lines) (flat_map clause_words f.clauses ++ flat_map line_words f.lines)
  reads-body h c x =
      reads-both (λ at text. words (tokens true at text)) (flat_map clause_text f.clauses) (flat_map line_text f.lines) (flat_map clause_words f.clauses) (flat_map line_words f.lines)
      (reads-each (λ at text. words (tokens true at text)) clause_text clause_words (is_clause true f.vars) (λ y e. reads-clause f.vars y h e) f.clauses c)
      (reads-each (λ at text. words (tokens true at text)) line_text line_words (is_line true f.vars) (λ y e. reads-line f.vars y h e) f.lines x)

  written-file : is_file true f ≡ true → words (tokens_of (text_of f)) ≡ file_words f
  written-file e =
      let p = and_parts (fits true f.vars MOST_COUNT && fits true (length f.clauses) MOST_COUNT) (list_all (is_clause true f.vars) f.clauses && list_all (is_line true f.vars) f.lines) e in
      let q = and_parts (fits true f.vars MOST_COUNT) (fits true (length f.clauses) MOST_COUNT) p.0 in
      let r = and_parts (list_all (is_clause true f.vars) f.clauses) (list_all (is_line true f.vars) f.lines) p.1 in
      let most : MOST_COUNT ≤ MOST_SIZE = omega arith in
      let h : f.vars ≤ MOST_SIZE = fits-below f.vars MOST_COUNT q.0 most in
      let k : length f.clauses ≤ MOST_SIZE = fits-below (length f.clauses) MOST_COUNT q.1 most in
      let x = reads-header f.vars (length f.clauses) h k 0 (flat_map clause_text f.clauses ++ flat_map line_text f.lines) in
      let y = reads-body h r.0 r.1 x.0 [] in
      ap words (header-first (drop 1 (text_of f)))
      ∙ x.1
      ∙ ap (λ z. word_of (112 ∷ []) ∷ (word_of (99 ∷ 110 ∷ 102 ∷ []) ∷ (plain f.vars ∷ (plain (length f.clauses) ∷ z))))
      (ap (λ z. words (tokens true x.0 z)) (sym (append-nil (flat_map clause_text f.clauses ++ flat_map line_text f.lines)))
      ∙ y.1
      ∙ ap (λ z. (flat_map clause_words f.clauses ++ flat_map line_words f.lines) ++ z) (ended y.0)
      ∙ append_assoc (flat_map clause_words f.clauses) (flat_map line_words f.lines) (token_word [] ∷ []))

  pub read_back : is_file true f ≡ true → IsFileOf (text_of f) f
  read_back e = record { written = written-file e; within = e }
