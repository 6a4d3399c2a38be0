-- What taking one token does, at each place
use Rattle.std.proofs.Common.{◌≡◌, ℕ, suc, ◌+◌, ◌-◌, ◌<◌, ◌≤◌, Bool, true, false, List, [], ◌∷◌, ◌++◌, length, map, None, Some, option_map, refl, sym, ap, ◌∙◌, arith, subst, append_assoc, length-append, Result, Ok, Err, IfOk}
use Rattle.std.specs.Prelude.{MatchResult}
use Rattle.std.proofs.lemmas.List.{map-append, length-map, flat_map_more}
use Rattle.std.specs.List.{list_all, flat_map}
use Rattle.std.proofs.lemmas.Bool.{and_from, leb-true, le-leb}
use Rattle.std.proofs.lemmas.List.Folds.{list_all-append, list_all-map}
use Rattle.svr_chain.specs.declared.clause.Lit.{Lit}
use Rattle.svr_lrat_text.specs.declared.limits.TheConstants.{MOST_COUNT}
use Rattle.svr_lrat_file.specs.declared.file.Number.{Number}
use Rattle.svr_lrat_file.specs.declared.file.Line.{Line}
use Rattle.svr_lrat_file.specs.declared.file.Line.TheVariants as l
use Rattle.svr_lrat_text.specs.declared.word.Word.{Word}
use Rattle.svr_lrat_text.specs.declared.word.Word.TheVariants as w
use Rattle.svr_lrat_text.specs.declared.cursor.Token.{Token}
use Rattle.svr_lrat_text.specs.declared.fault.LratFault.{LratFault}
use Rattle.svr_lrat_text.specs.declared.fault.LratFault.TheVariants as e
use Rattle.svr_lrat_text.specs.Words.{words, is_problem, is_cnf, is_delete, is_end}
use Rattle.svr_lrat_text.specs.File.{plain, lit_number, list_words, clause_words, line_words, file_words, is_entry, is_clause, is_id, is_line, is_file}
use Rattle.svr_lrat_text.specs.Reading.{Place, stopped, at_problem, at_cnf, at_vars, at_count, in_list, at_line, at_second, at_clauses, in_delete, in_hints, step, after, entry_of, behind_entry, count_of, id_of, behind, IsStop, IsTokenFault, TakesDelete, HasNoDelete, Took}
use Rattle.svr_lrat_text.proofs.Steps.{after-some, after-bad, stops-at, entry-zero, entry-some, IsEntry}
use Rattle.svr_lrat_text.proofs.Files.{count-found, id-found}

-- the words of the tokens before, from what the token says
words-taken : (old new : List Token) (t : Token) (x : Word) → old ≡ t ∷ behind t.word new → t.word ≡ x → ((ts : List Token) → behind x ts ≡ ts) → words old ≡ x ∷ words new
words-taken old new t x o h b = ap words o ∙ (λ i. h i ∷ words (behind (h i) new)) ∙ ap (λ z. x ∷ words z) (b new)

goes-taken : (p q : Place) (old new : List Token) (t : Token) (x : Word) → old ≡ t ∷ behind t.word new → t.word ≡ x → ((ts : List Token) → behind x ts ≡ ts) → step true p t.word ≡ Some q → after p old ≡ after q new
goes-taken p q old new t x o h b s =
    ap (after p) o ∙ after-some p q t (behind t.word new) s ∙ (λ i. after q (behind (h i) new)) ∙ ap (after q) (b new)

shorter-taken : (old new : List Token) (t : Token) (x : Word) → old ≡ t ∷ behind t.word new → t.word ≡ x → ((ts : List Token) → behind x ts ≡ ts) → length old ≡ length new + 1
shorter-taken old new t x o h b =
    let s : length old ≡ length (t ∷ new) = ap length o ∙ (λ i. length (t ∷ behind (h i) new)) ∙ ap (λ z. length (t ∷ z)) (b new) in
    omega (arith, s)

-- ---- numbers of a list

pub record TookEntry (most : ℕ) (signed : Bool) (old new : List Token) (n : Number) : Type 0 where
  pub written : words old ≡ w.Number n ∷ words new
  pub may : is_entry true most signed n ≡ true
  pub goes : (next : Place) → after (in_list most signed next) old ≡ after (in_list most signed next) new
  pub shorter : length new < length old

pub took-entry : (most : ℕ) (signed : Bool) (old new : List Token) (t : Token) (n : Number) → old ≡ t ∷ behind t.word new → entry_of true most signed t.word ≡ Some (Some n) → TookEntry most signed old new n
took-entry most signed old new t n o h =
    let x : IsEntry true most signed t.word n = entry-some true most signed t.word n h in
    record {
      written = words-taken old new t (w.Number n) o x.is (λ ts. refl);
      may = x.may;
      goes = λ next. goes-taken (in_list most signed next) (in_list most signed next) old new t (w.Number n) o x.is (λ ts. refl) (ap (option_map (behind_entry most signed next)) h);
      shorter = (let s = shorter-taken old new t (w.Number n) o x.is (λ ts. refl) in omega arith);
    }

pub record TookZero (most : ℕ) (signed : Bool) (old new : List Token) : Type 0 where
  pub written : words old ≡ plain 0 ∷ words new
  pub goes : (next : Place) → after (in_list most signed next) old ≡ after next new

pub took-zero : (most : ℕ) (signed : Bool) (old new : List Token) (t : Token) → old ≡ t ∷ behind t.word new → entry_of true most signed t.word ≡ Some None → TookZero most signed old new
took-zero most signed old new t o h =
    let x : t.word ≡ plain 0 = entry-zero true most signed t.word h in
    record {
      written = words-taken old new t (plain 0) o x (λ ts. refl);
      goes = λ next. goes-taken (in_list most signed next) next old new t (plain 0) o x (λ ts. refl) (ap (option_map (behind_entry most signed next)) h);
    }

pub entry-stops : (most : ℕ) (signed : Bool) (next : Place) (old new : List Token) (t : Token) (x : LratFault) → old ≡ t ∷ behind t.word new → IsTokenFault (λ limited. entry_of limited most signed) t x
    → IsStop (in_list most signed next) old x
entry-stops most signed next old new t x o h =
    subst (λ z. IsStop (in_list most signed next) z x) (sym o)
    (stops-at (λ limited. entry_of limited most signed) (behind_entry most signed next) (in_list most signed next) t (behind t.word new) x (λ b. refl) h)

abbrev number_words : List Number → List Word
number_words ns = map (λ n. w.Number n) ns

pub written-more : (ns : List Number) (n : Number) (all ws vs : List Word) → all ≡ number_words ns ++ ws → ws ≡ w.Number n ∷ vs → all ≡ number_words (ns ++ n ∷ []) ++ vs
written-more ns n all ws vs h k =
    h ∙ ap (λ z. number_words ns ++ z) k ∙ sym (append_assoc (number_words ns) (w.Number n ∷ []) vs) ∙ ap (λ z. z ++ vs) (sym (map-append (λ m. w.Number m) ns (n ∷ [])))

pub written-end : (ns : List Number) (all ws vs : List Word) → all ≡ number_words ns ++ ws → ws ≡ plain 0 ∷ vs → all ≡ list_words ns ++ vs
written-end ns all ws vs h k = h ∙ ap (λ z. number_words ns ++ z) k ∙ sym (append_assoc (number_words ns) (plain 0 ∷ []) vs)

pub all-more : {A : Type 0} (p : A → Bool) (xs : List A) (x : A) → list_all p xs ≡ true → p x ≡ true → list_all p (xs ++ x ∷ []) ≡ true
all-more p xs x h k = list_all-append p xs (x ∷ []) ∙ and_from _ _ h (and_from (p x) true k refl)

-- ---- lines

pub record TookDelete (old new : List Token) : Type 0 where
  pub written : words old ≡ w.Delete ∷ words new
  pub goes : (vars : ℕ) → after (at_second vars) old ≡ after (in_delete vars) new

pub took-delete : (old new : List Token) → TakesDelete old new → TookDelete old new
took-delete old new h = record {
  written = ap words h.taken;
  goes = λ vars. ap (after (at_second vars)) h.taken ∙ after-some (at_second vars) (in_delete vars) (record { at = h.at; word = w.Delete }) new refl;
}

second-step : (b : Bool) (vars : ℕ) (x : Word) → is_delete x ≡ false → step b (at_second vars) x ≡ step b (in_list vars true (in_hints vars)) x
second-step b vars x h = rw h refl

same-after : (p q : Place) (t : Token) (ts : List Token) → ((b : Bool) → step b p t.word ≡ step b q t.word) → after p (t ∷ ts) ≡ after q (t ∷ ts)
unfolding after
same-after p q t ts h = λ i. elim (h true i) [ Some r ↦ after r ts | None ↦ stopped (h false i) t.at ]

pub other-second : (vars : ℕ) (ts : List Token) → HasNoDelete ts → after (at_second vars) ts ≡ after (in_list vars true (in_hints vars)) ts
other-second vars ts h =
    ap (after (at_second vars)) h.whole
    ∙ same-after (at_second vars) (in_list vars true (in_hints vars)) h.first h.rest (λ b. second-step b vars h.first.word h.other)
    ∙ sym (ap (after (in_list vars true (in_hints vars))) h.whole)

word-delete : (x : Word) → is_delete x ≡ true → x ≡ w.Delete
word-delete w.Problem h = cc
word-delete w.Cnf h = cc
word-delete w.Delete h = refl
word-delete (w.Number n) h = cc
word-delete w.Other h = cc
word-delete w.End h = cc

pub delete-taken : (old new : List Token) (t : Token) → old ≡ t ∷ behind t.word new → is_delete t.word ≡ true → TakesDelete old new
delete-taken old new t o h =
    let x = word-delete t.word h in
    record { at = t.at; taken = o ∙ (λ i. record { at = t.at; word = x i } ∷ behind (x i) new) }

pub record TookId (vars : ℕ) (old new : List Token) (id : ℕ) : Type 0 where
  pub written : words old ≡ plain id ∷ words new
  pub may : is_id true id ≡ true
  pub goes : after (at_line vars) old ≡ after (at_second vars) new

line-step : (b : Bool) (vars : ℕ) (x : Word) → is_end x ≡ false → step b (at_line vars) x ≡ option_map (λ n. at_second vars) (id_of b x)
line-step b vars x h = rw h refl

pub took-id : (vars : ℕ) (old new : List Token) (t : Token) (id : ℕ) → old ≡ t ∷ behind t.word new → is_end t.word ≡ false → id_of true t.word ≡ Some id → TookId vars old new id
took-id vars old new t id o n h =
    let x = id-found true t.word id h in
    record {
      written = words-taken old new t (plain id) o x.is (λ ts. refl);
      may = x.id;
      goes = goes-taken (at_line vars) (at_second vars) old new t (plain id) o x.is (λ ts. refl) (line-step true vars t.word n ∙ ap (option_map (λ m. at_second vars)) h);
    }

pub id-stops : (vars : ℕ) (old new : List Token) (t : Token) (x : LratFault) → old ≡ t ∷ behind t.word new → is_end t.word ≡ false → IsTokenFault id_of t x → IsStop (at_line vars) old x
id-stops vars old new t x o n h =
    subst (λ z. IsStop (at_line vars) z x) (sym o)
    (stops-at id_of (λ m. at_second vars) (at_line vars) t (behind t.word new) x (λ b. line-step b vars t.word n) h)

word-end : (x : Word) → is_end x ≡ true → x ≡ w.End
word-end w.Problem h = cc
word-end w.Cnf h = cc
word-end w.Delete h = cc
word-end (w.Number n) h = cc
word-end w.Other h = cc
word-end w.End h = refl

pub took-end : (old new : List Token) (t : Token) → old ≡ t ∷ behind t.word new → is_end t.word ≡ true → words old ≡ w.End ∷ []
took-end old new t o h = let x = word-end t.word h in ap words o ∙ (λ i. x i ∷ words (behind (x i) new))

-- a line takes a token
pub line-shorter : (x : Line) (old new : List Token) → words old ≡ line_words x ++ words new → length new < length old
line-shorter x old new h =
    let a : length (words old) ≡ length old = length-map old (λ t. t.word) in
    let b : length (words new) ≡ length new = length-map new (λ t. t.word) in
    let c : length (words old) ≡ length (line_words x) + length (words new) = ap length h ∙ length-append (line_words x) (words new) in
    let d : 0 < length (line_words x) = some x in
    omega (arith, a, b, c, d)
  where
    some : (x : Line) → 0 < length (line_words x)
    some (l.Lemma id lits hints) = omega arith
    some (l.Delete id ids) = omega arith

-- ---- the header

word-problem : (x : Word) → is_problem x ≡ true → x ≡ w.Problem
word-problem w.Problem h = refl
word-problem w.Cnf h = cc
word-problem w.Delete h = cc
word-problem (w.Number n) h = cc
word-problem w.Other h = cc
word-problem w.End h = cc

word-cnf : (x : Word) → is_cnf x ≡ true → x ≡ w.Cnf
word-cnf w.Problem h = cc
word-cnf w.Cnf h = refl
word-cnf w.Delete h = cc
word-cnf (w.Number n) h = cc
word-cnf w.Other h = cc
word-cnf w.End h = cc

pub took-problem : (old new : List Token) (t : Token) → old ≡ t ∷ behind t.word new → is_problem t.word ≡ true → Took at_problem at_cnf old new w.Problem
took-problem old new t o h =
    let x = word-problem t.word h in
    record { written = words-taken old new t w.Problem o x (λ ts. refl); goes = goes-taken at_problem at_cnf old new t w.Problem o x (λ ts. refl) (rw h refl) }

pub problem-stops : (old new : List Token) (t : Token) → old ≡ t ∷ behind t.word new → is_problem t.word ≡ false → IsStop at_problem old (e.Bad t.at)
problem-stops old new t o h = ap (after at_problem) o ∙ after-bad at_problem t (behind t.word new) (rw h refl) (rw h refl)

pub took-cnf : (old new : List Token) (t : Token) → old ≡ t ∷ behind t.word new → is_cnf t.word ≡ true → Took at_cnf at_vars old new w.Cnf
took-cnf old new t o h =
    let x = word-cnf t.word h in
    record { written = words-taken old new t w.Cnf o x (λ ts. refl); goes = goes-taken at_cnf at_vars old new t w.Cnf o x (λ ts. refl) (rw h refl) }

pub cnf-stops : (old new : List Token) (t : Token) → old ≡ t ∷ behind t.word new → is_cnf t.word ≡ false → IsStop at_cnf old (e.Bad t.at)
cnf-stops old new t o h = ap (after at_cnf) o ∙ after-bad at_cnf t (behind t.word new) (rw h refl) (rw h refl)

pub took-vars : (old new : List Token) (t : Token) (n : ℕ) → old ≡ t ∷ behind t.word new → count_of true t.word ≡ Some n → Took at_vars (at_count n) old new (plain n) × (n ≤ MOST_COUNT)
took-vars old new t n o h =
    let x = count-found true t.word n h in (
      record { written = words-taken old new t (plain n) o x.is (λ ts. refl); goes = goes-taken at_vars (at_count n) old new t (plain n) o x.is (λ ts. refl) (ap (option_map (λ m. at_count m)) h) },
      leb-true n MOST_COUNT x.fit,
    )

pub vars-stops : (old new : List Token) (t : Token) (x : LratFault) → old ≡ t ∷ behind t.word new → IsTokenFault count_of t x → IsStop at_vars old x
vars-stops old new t x o h = subst (λ z. IsStop at_vars z x) (sym o) (stops-at count_of (λ m. at_count m) at_vars t (behind t.word new) x (λ b. refl) h)

pub took-count : (vars : ℕ) (old new : List Token) (t : Token) (n : ℕ) → old ≡ t ∷ behind t.word new → count_of true t.word ≡ Some n → Took (at_count vars) (at_clauses vars n) old new (plain n) × (n ≤ MOST_COUNT)
took-count vars old new t n o h =
    let x = count-found true t.word n h in (
      record { written = words-taken old new t (plain n) o x.is (λ ts. refl); goes = goes-taken (at_count vars) (at_clauses vars n) old new t (plain n) o x.is (λ ts. refl) (ap (option_map (λ m. at_clauses vars m)) h) },
      leb-true n MOST_COUNT x.fit,
    )

pub count-stops : (vars : ℕ) (old new : List Token) (t : Token) (x : LratFault) → old ≡ t ∷ behind t.word new → IsTokenFault count_of t x → IsStop (at_count vars) old x
count-stops vars old new t x o h =
    subst (λ z. IsStop (at_count vars) z x) (sym o) (stops-at count_of (λ m. at_clauses vars m) (at_count vars) t (behind t.word new) x (λ b. refl) h)

-- ---- clauses

pub clauses-next : (vars count i : ℕ) → i < count → at_clauses vars (count - i) ≡ in_list vars true (at_clauses vars (count - (i + 1)))
clauses-next vars count i h = let s : count - i ≡ suc (count - (i + 1)) = omega arith in ap (at_clauses vars) s

pub clauses-none : (vars count i : ℕ) → count ≤ i → at_clauses vars (count - i) ≡ at_line vars
clauses-none vars count i h = let s : count - i ≡ 0 = omega arith in ap (at_clauses vars) s

pub clauses-written : {A : Type 0} (f : A → List Word) (xs : List A) (x : A) (all ws vs : List Word) → all ≡ flat_map f xs ++ ws → ws ≡ f x ++ vs → all ≡ flat_map f (xs ++ x ∷ []) ++ vs
clauses-written {A = A} f xs x all ws vs h k =
    h ∙ ap (λ z. flat_map f xs ++ z) k ∙ sym (append_assoc (flat_map f xs) (f x) vs) ∙ ap (λ z. z ++ vs) (more xs)
  where
    more : (xs : List A) → flat_map f xs ++ f x ≡ flat_map f (xs ++ x ∷ [])
    more xs = flat_map_more f [] xs x

pub clause-within : (vars : ℕ) (ns : List Number) (r : Result (List Lit) LratFault) → MatchResult r (λ c. map lit_number c ≡ ns) (λ x. x ≡ e.NoMemory) → list_all (is_entry true vars true) ns ≡ true
    → IfOk r (λ c. is_clause true vars c ≡ true)
clause-within vars ns (Ok c) h k = sym (list_all-map (is_entry true vars true) lit_number c) ∙ ap (list_all (is_entry true vars true)) h ∙ k
clause-within vars ns (Err x) h k = tt

-- ---- the whole file

pub file-written : (vars count : ℕ) (cs : List (List Lit)) (ls : List Line) (c0 c1 c2 : List Word) → c0 ≡ w.Problem ∷ (w.Cnf ∷ (plain vars ∷ (plain count ∷ c1))) → length cs ≡ count
    → c1 ≡ flat_map clause_words cs ++ c2 → c2 ≡ flat_map line_words ls ++ w.End ∷ [] → c0 ≡ file_words (record { vars = vars; clauses = cs; lines = ls })
file-written vars count cs ls c0 c1 c2 h n k m =
    let r : c1 ≡ flat_map clause_words cs ++ (flat_map line_words ls ++ w.End ∷ []) = k ∙ ap (λ z. flat_map clause_words cs ++ z) m in
    h ∙ (λ i. w.Problem ∷ (w.Cnf ∷ (plain vars ∷ (plain (sym n i) ∷ r i))))

pub file-within : (vars count : ℕ) (cs : List (List Lit)) (ls : List Line) → (vars ≤ MOST_COUNT) × (count ≤ MOST_COUNT) → length cs ≡ count → list_all (is_clause true vars) cs ≡ true → list_all (is_line true vars) ls ≡ true
    → is_file true (record { vars = vars; clauses = cs; lines = ls }) ≡ true
file-within vars count cs ls h n k m =
    let few : length cs ≤ MOST_COUNT = subst (λ z. z ≤ MOST_COUNT) (sym n) h.1 in
    and_from _ _ (and_from _ _ (le-leb vars MOST_COUNT h.0) (le-leb (length cs) MOST_COUNT few)) (and_from _ _ k m)
