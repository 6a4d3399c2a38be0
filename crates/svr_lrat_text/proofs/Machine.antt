-- Reading as a machine over words: what it has run through is the front of a file, and every front is run through
use Rattle.std.proofs.Common.{◌≡◌, ℕ, ◌<◌, Bool, true, false, not, ◌==◌, ◌&&◌, ◌||◌, cond, List, [], ◌∷◌, ◌++◌, length, map, Option, None, Some, option_map, refl, ap, ◌∙◌, arith, append_assoc}
use Rattle.std.specs.Prelude.{nat_lt, nat_le}
use Rattle.std.specs.List.{list_all, flat_map}
use Rattle.std.proofs.lemmas.Bool.{and_parts, and_right, ltb-true, ne_eqb}
use Rattle.std.proofs.lemmas.List.Folds.{list_all-map}
use Rattle.svr_chain.specs.declared.clause.Lit.{Lit}
use Rattle.svr_lrat_text.specs.declared.limits.TheConstants.{MOST_COUNT, MOST_ID}
use Rattle.svr_lrat_file.specs.declared.file.Number.{Number}
use Rattle.svr_lrat_text.specs.declared.word.Word.{Word}
use Rattle.svr_lrat_text.specs.declared.word.Word.TheVariants as w
use Rattle.svr_lrat_file.specs.declared.file.Line.{Line}
use Rattle.svr_lrat_file.specs.declared.file.Line.TheVariants as l
use Rattle.svr_lrat_file.specs.Views.{FileView}
use Rattle.svr_lrat_text.specs.Words.{is_zero, is_end, is_delete}
use Rattle.svr_lrat_text.specs.File.{plain, unsigned, lit_number, list_words, clause_words, line_words, file_words, fits, is_form, is_entry, is_clause, is_id, is_line, is_file}
use Rattle.svr_lrat_text.specs.Reading.{Place, at_problem, at_cnf, at_vars, at_count, in_list, at_line, at_second, at_end, at_clauses, in_delete, in_hints, step, count_of, count_number, entry_of, entry_number, id_of, id_entry, behind_entry}

abbrev pub run : Bool → Place → List Word → Option Place
run b p [] = Some p
run b p (x ∷ ws) = elim (step b p x) [ Some q ↦ run b q ws | None ↦ None ]

pub run-step : (b : Bool) (p q : Place) (x : Word) (ws : List Word) → step b p x ≡ Some q → run b p (x ∷ ws) ≡ run b q ws
run-step b p q x ws h = rw (h, run) refl

nothing : {A : Type 0} (x : A) → None ≡ Some x → ⊥
nothing x h = cc

same_some : {A : Type 0} (x y : A) → Some x ≡ Some y → x ≡ y
same_some x y h = cc

pub run-append : (b : Bool) (xs ys : List Word) (p q : Place) → run b p xs ≡ Some q → run b p (xs ++ ys) ≡ run b q ys
run-append b [] ys p q h = ap (λ z. run b z ys) (same_some p q h)
run-append b (x ∷ xs) ys p q h = go (step b p x) (λ r k. run-append b xs ys r q k) h
  where
    go : (o : Option Place) → ((r : Place) → run b r xs ≡ Some q → run b r (xs ++ ys) ≡ run b q ys)
        → elim o [ Some r ↦ run b r xs | None ↦ None ] ≡ Some q → elim o [ Some r ↦ run b r (xs ++ ys) | None ↦ None ] ≡ run b q ys
    go None k h = absurd (nothing q h)
    go (Some r) k h = k r h

pub run-front : (b : Bool) (xs ys : List Word) (p r : Place) → run b p (xs ++ ys) ≡ Some r → (q : Place) × (run b p xs ≡ Some q)
run-front b [] ys p r h = (p, refl)
run-front b (x ∷ xs) ys p r h = go (step b p x) (λ s k. run-front b xs ys s r k) h
  where
    go : (o : Option Place) → ((s : Place) → run b s (xs ++ ys) ≡ Some r → (q : Place) × (run b s xs ≡ Some q))
        → elim o [ Some s ↦ run b s (xs ++ ys) | None ↦ None ] ≡ Some r → (q : Place) × (elim o [ Some s ↦ run b s xs | None ↦ None ] ≡ Some q)
    go None k h = absurd (nothing r h)
    go (Some s) k h = k s h

-- ---- what stands within the limits stands without them

map-weaker : {A : Type 0} (f : A → Place) (o u : Option A) (q : Place) → ((x : A) → o ≡ Some x → u ≡ Some x) → option_map f o ≡ Some q → option_map f u ≡ Some q
map-weaker f None u q k h = absurd (nothing q h)
map-weaker f (Some x) u q k h = rw (k x refl) h

count-weaker : (word : Word) (n : ℕ) → count_of true word ≡ Some n → count_of false word ≡ Some n
count-weaker w.Problem n h = h
count-weaker w.Cnf n h = h
count-weaker w.Delete n h = h
count-weaker (w.Number m) n h = go (not m.negative) (nat_le m.size MOST_COUNT) h
  where
    go : (a c : Bool) → cond (a && c) (Some m.size) None ≡ Some n → cond (a && true) (Some m.size) None ≡ Some n
    go true true h = h
    go true false h = absurd (nothing n h)
    go false c h = absurd (nothing n h)
count-weaker w.Other n h = h
count-weaker w.End n h = h

pub entry-weaker : (most : ℕ) (signed : Bool) (word : Word) (o : Option Number) → entry_of true most signed word ≡ Some o → entry_of false most signed word ≡ Some o
entry-weaker most signed w.Problem o h = h
entry-weaker most signed w.Cnf o h = h
entry-weaker most signed w.Delete o h = h
entry-weaker most signed (w.Number m) o h = go (is_zero m) (is_form signed m) (nat_le m.size most) h
  where
    go : (z a c : Bool) → cond z (Some None) (cond (a && c) (Some (Some m)) None) ≡ Some o → cond z (Some None) (cond (a && true) (Some (Some m)) None) ≡ Some o
    go true a c h = h
    go false true true h = h
    go false true false h = absurd (nothing o h)
    go false false c h = absurd (nothing o h)
entry-weaker most signed w.Other o h = h
entry-weaker most signed w.End o h = h

id-weaker : (word : Word) (n : ℕ) → id_of true word ≡ Some n → id_of false word ≡ Some n
id-weaker word n h = go (entry_of true MOST_ID false word) refl h
  where
    go : (o : Option (Option Number)) → entry_of true MOST_ID false word ≡ o → id_entry o ≡ Some n → id_of false word ≡ Some n
    go None e h = absurd (nothing n h)
    go (Some None) e h = absurd (nothing n h)
    go (Some (Some m)) e h = ap id_entry (entry-weaker MOST_ID false word (Some m) e) ∙ h

cond-weaker : (t : Bool) (x o u : Option Place) (q : Place) → (o ≡ Some q → u ≡ Some q) → cond t x o ≡ Some q → cond t x u ≡ Some q
cond-weaker true x o u q k h = h
cond-weaker false x o u q k h = k h

step-weaker : (p q : Place) (word : Word) → step true p word ≡ Some q → step false p word ≡ Some q
step-weaker at_problem q word h = h
step-weaker at_cnf q word h = h
step-weaker at_vars q word h = map-weaker _ _ _ q (count-weaker word) h
step-weaker (at_count vars) q word h = map-weaker _ _ _ q (count-weaker word) h
step-weaker (in_list most signed next) q word h = map-weaker _ _ _ q (entry-weaker most signed word) h
step-weaker (at_line vars) q word h = cond-weaker (is_end word) (Some at_end) _ _ q (map-weaker (λ n. at_second vars) _ _ q (id-weaker word)) h
step-weaker (at_second vars) q word h = cond-weaker (is_delete word) (Some (in_delete vars)) _ _ q (map-weaker (behind_entry vars true (in_hints vars)) _ _ q (entry-weaker vars true word)) h
step-weaker at_end q word h = h

pub run-weaker : (ws : List Word) (p q : Place) → run true p ws ≡ Some q → run false p ws ≡ Some q
run-weaker [] p q h = h
run-weaker (x ∷ ws) p q h = go (step true p x) refl (λ r k. run-weaker ws r q k) h
  where
    go : (o : Option Place) → step true p x ≡ o → ((r : Place) → run true r ws ≡ Some q → run false r ws ≡ Some q)
        → elim o [ Some r ↦ run true r ws | None ↦ None ] ≡ Some q → run false p (x ∷ ws) ≡ Some q
    go None e k h = absurd (nothing q h)
    go (Some r) e k h = run-step false p r x ws (step-weaker p r x e) ∙ k r h

-- ---- a file is run through

count-is : (b : Bool) (n : ℕ) → fits b n MOST_COUNT ≡ true → count_number b (unsigned n) ≡ Some n
count-is b n h = rw h refl

zero-not : (a : Bool) (s : ℕ) → nat_lt 0 s ≡ true → (a && (s == 0)) ≡ false
zero-not a s h = let less : 0 < s = ltb-true 0 s h in and_right a (s == 0) (ne_eqb s 0 (λ e. omega arith))

entry-is : (b : Bool) (most : ℕ) (signed : Bool) (n : Number) → is_entry b most signed n ≡ true → entry_number b most signed n ≡ Some (Some n)
entry-is b most signed n h =
    let p = and_parts (is_form signed n) (fits b n.size most) h in
    let q = and_parts (nat_lt 0 n.size) (signed || not n.negative) p.0 in
    let z : is_zero n ≡ false = zero-not (not n.negative) n.size q.0 in
    rw z (rw h refl)

list-run : (b : Bool) (most : ℕ) (signed : Bool) (next : Place) (ns : List Number) (ws : List Word) → list_all (is_entry b most signed) ns ≡ true
    → run b (in_list most signed next) (list_words ns ++ ws) ≡ run b next ws
list-run b most signed next [] ws h = refl
list-run b most signed next (n ∷ ns) ws h =
    let p = and_parts (is_entry b most signed n) (list_all (is_entry b most signed) ns) h in
    let s : step b (in_list most signed next) (w.Number n) ≡ Some (in_list most signed next) = ap (option_map (behind_entry most signed next)) (entry-is b most signed n p.0) in
    run-step b (in_list most signed next) (in_list most signed next) (w.Number n) (list_words ns ++ ws) s ∙ list-run b most signed next ns ws p.1

clause-run : (b : Bool) (vars : ℕ) (next : Place) (c : List Lit) (ws : List Word) → is_clause b vars c ≡ true → run b (in_list vars true next) (clause_words c ++ ws) ≡ run b next ws
clause-run b vars next c ws h = list-run b vars true next (map lit_number c) ws (list_all-map (is_entry b vars true) lit_number c ∙ h)

clauses-run : (b : Bool) (vars : ℕ) (cs : List (List Lit)) (ws : List Word) → list_all (is_clause b vars) cs ≡ true
    → run b (at_clauses vars (length cs)) (flat_map clause_words cs ++ ws) ≡ run b (at_line vars) ws
clauses-run b vars [] ws h = refl
clauses-run b vars (c ∷ cs) ws h =
    let p = and_parts (is_clause b vars c) (list_all (is_clause b vars) cs) h in
    ap (run b (at_clauses vars (length (c ∷ cs)))) (append_assoc (clause_words c) (flat_map clause_words cs) ws)
    ∙ clause-run b vars (at_clauses vars (length cs)) c (flat_map clause_words cs ++ ws) p.0
    ∙ clauses-run b vars cs ws p.1

-- where no `d` stands, a lemma's literals do
second-run : (b : Bool) (vars : ℕ) (ns : List Number) (ws : List Word) → run b (at_second vars) (list_words ns ++ ws) ≡ run b (in_list vars true (in_hints vars)) (list_words ns ++ ws)
second-run b vars [] ws = refl
second-run b vars (n ∷ ns) ws = refl

id-step : (b : Bool) (vars id : ℕ) → is_id b id ≡ true → step b (at_line vars) (plain id) ≡ Some (at_second vars)
id-step b vars id h = ap (λ o. option_map (λ n. at_second vars) (id_entry o)) (entry-is b MOST_ID false (unsigned id) h)

line-run : (b : Bool) (vars : ℕ) (line : Line) (ws : List Word) → is_line b vars line ≡ true → run b (at_line vars) (line_words line ++ ws) ≡ run b (at_line vars) ws
line-run b vars (l.Lemma id lits hints) ws h =
    let p = and_parts (is_id b id) (is_clause b vars lits && list_all (is_entry b MOST_ID true) hints) h in
    let q = and_parts (is_clause b vars lits) (list_all (is_entry b MOST_ID true) hints) p.1 in
    run-step b (at_line vars) (at_second vars) (plain id) ((clause_words lits ++ list_words hints) ++ ws) (id-step b vars id p.0)
    ∙ ap (run b (at_second vars)) (append_assoc (clause_words lits) (list_words hints) ws)
    ∙ second-run b vars (map lit_number lits) (list_words hints ++ ws)
    ∙ clause-run b vars (in_hints vars) lits (list_words hints ++ ws) q.0
    ∙ list-run b MOST_ID true (at_line vars) hints ws q.1
line-run b vars (l.Delete id ids) ws h =
    let p = and_parts (is_id b id) (list_all (is_entry b MOST_ID false) ids) h in
    run-step b (at_line vars) (at_second vars) (plain id) (w.Delete ∷ (list_words ids ++ ws)) (id-step b vars id p.0)
    ∙ list-run b MOST_ID false (at_line vars) ids ws p.1

lines-run : (b : Bool) (vars : ℕ) (ls : List Line) → list_all (is_line b vars) ls ≡ true → run b (at_line vars) (flat_map line_words ls ++ w.End ∷ []) ≡ Some at_end
lines-run b vars [] h = refl
lines-run b vars (x ∷ ls) h =
    let p = and_parts (is_line b vars x) (list_all (is_line b vars) ls) h in
    ap (run b (at_line vars)) (append_assoc (line_words x) (flat_map line_words ls) (w.End ∷ []))
    ∙ line-run b vars x (flat_map line_words ls ++ w.End ∷ []) p.0
    ∙ lines-run b vars ls p.1

pub file-run : (b : Bool) (f : FileView) → is_file b f ≡ true → run b at_problem (file_words f) ≡ Some at_end
file-run b f h =
    let p = and_parts (fits b f.vars MOST_COUNT && fits b (length f.clauses) MOST_COUNT) _ h in
    let q = and_parts (fits b f.vars MOST_COUNT) (fits b (length f.clauses) MOST_COUNT) p.0 in
    let r = and_parts (list_all (is_clause b f.vars) f.clauses) (list_all (is_line b f.vars) f.lines) p.1 in
    let more : List Word = flat_map clause_words f.clauses ++ (flat_map line_words f.lines ++ w.End ∷ []) in
    let s : step b at_vars (plain f.vars) ≡ Some (at_count f.vars) = ap (option_map (λ n. at_count n)) (count-is b f.vars q.0) in
    let t : step b (at_count f.vars) (plain (length f.clauses)) ≡ Some (at_clauses f.vars (length f.clauses)) = ap (option_map (λ n. at_clauses f.vars n)) (count-is b (length f.clauses) q.1) in
    run-step b at_vars (at_count f.vars) (plain f.vars) (plain (length f.clauses) ∷ more) s
    ∙ run-step b (at_count f.vars) (at_clauses f.vars (length f.clauses)) (plain (length f.clauses)) more t
    ∙ clauses-run b f.vars f.clauses (flat_map line_words f.lines ++ w.End ∷ []) r.0
    ∙ lines-run b f.vars f.lines r.1

-- ---- from each place a file can be completed

pub fill : Place → List Word
fill at_problem = w.Problem ∷ (w.Cnf ∷ (plain 0 ∷ (plain 0 ∷ w.End ∷ [])))
fill at_cnf = w.Cnf ∷ (plain 0 ∷ (plain 0 ∷ w.End ∷ []))
fill at_vars = plain 0 ∷ (plain 0 ∷ w.End ∷ [])
fill (at_count vars) = plain 0 ∷ w.End ∷ []
fill (in_list most signed next) = plain 0 ∷ fill next
fill (at_line vars) = w.End ∷ []
fill (at_second vars) = plain 0 ∷ (plain 0 ∷ w.End ∷ [])
fill at_end = []

pub fill-run : (b : Bool) (p : Place) → run b p (fill p) ≡ Some at_end
unfolding fill
fill-run true at_problem = refl
fill-run false at_problem = refl
fill-run true at_cnf = refl
fill-run false at_cnf = refl
fill-run true at_vars = refl
fill-run false at_vars = refl
fill-run true (at_count vars) = refl
fill-run false (at_count vars) = refl
fill-run b (in_list most signed next) = fill-run b next
fill-run b (at_line vars) = refl
fill-run b (at_second vars) = refl
fill-run b at_end = refl
