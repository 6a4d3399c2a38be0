-- What the machine has run through is a file
use Rattle.std.proofs.Common.{◌≡◌, ℕ, suc, zero, Bool, true, false, not, ◌&&◌, cond, List, [], ◌∷◌, ◌++◌, length, map, Option, None, Some, option_map, refl, sym, ap, ◌∙◌, subst, append_assoc}
use Rattle.std.specs.Prelude.{nat_lt}
use Rattle.std.specs.List.{list_all, flat_map}
use Rattle.std.proofs.lemmas.Bool.{and_parts, and_from, not-true}
use Rattle.std.proofs.lemmas.List.Folds.{list_all-map}
use Rattle.svr_chain.specs.declared.clause.Lit.{Lit}
use Rattle.svr_lrat_text.specs.declared.limits.TheConstants.{MOST_COUNT, MOST_ID}
use Rattle.svr_lrat_file.specs.declared.file.Number.{Number}
use Rattle.svr_lrat_text.specs.declared.word.Word.{Word}
use Rattle.svr_lrat_text.specs.declared.word.Word.TheVariants as w
use Rattle.svr_lrat_file.specs.declared.file.Line.{Line}
use Rattle.svr_lrat_file.specs.declared.file.Line.TheVariants as l
use Rattle.svr_lrat_file.specs.Views.{FileView}
use Rattle.svr_lrat_text.specs.File.{plain, unsigned, lit_number, list_words, clause_words, line_words, file_words, fits, is_form, is_entry, is_clause, is_id, is_line, is_file}
use Rattle.svr_lrat_text.specs.Reading.{Place, at_problem, at_cnf, at_vars, at_count, in_list, at_line, at_second, at_end, at_clauses, in_delete, in_hints, step, count_of, entry_of, entry_step, id_of, id_entry, behind_entry}
use Rattle.svr_lrat_text.proofs.Steps.{entry-zero, entry-some, IsEntry}
use Rattle.svr_lrat_text.proofs.Machine.{run}

nothing : {A : Type 0} (x : A) → None ≡ Some x → ⊥
nothing x h = cc

same_some : {A : Type 0} (x y : A) → Some x ≡ Some y → x ≡ y
same_some x y h = cc

record LinesFrom (b : Bool) (vars : ℕ) (ws : List Word) : Type 0 where
  pub lines : List Line
  pub are : list_all (is_line b vars) lines ≡ true
  pub whole : ws ≡ flat_map line_words lines ++ w.End ∷ []

record FileFrom (b : Bool) (ws : List Word) : Type 0 where
  pub file : FileView
  pub is : is_file b file ≡ true
  pub whole : file_words file ≡ ws

-- what the words behind a place are
Rest : Bool → Place → List Word → Type 0
Rest b at_problem ws = FileFrom b ws
Rest b at_cnf ws = FileFrom b (w.Problem ∷ ws)
Rest b at_vars ws = FileFrom b (w.Problem ∷ (w.Cnf ∷ ws))
Rest b (at_count vars) ws = fits b vars MOST_COUNT ≡ true → FileFrom b (w.Problem ∷ (w.Cnf ∷ (plain vars ∷ ws)))
Rest b (in_list most signed next) ws = (ns : List Number) × (more : List Word) × (list_all (is_entry b most signed) ns ≡ true) × (ws ≡ list_words ns ++ more) × Rest b next more
Rest b (at_line vars) ws = LinesFrom b vars ws
Rest b (at_second vars) ws = (id : ℕ) → is_id b id ≡ true → LinesFrom b vars (plain id ∷ ws)
Rest b at_end ws = ws ≡ []

-- ---- numbers as literals

lit_of : Number → Lit
lit_of n = record { var = n.size; neg = n.negative }

numbers-back : (ns : List Number) → map lit_number (map lit_of ns) ≡ ns
unfolding lit_of
numbers-back [] = refl
numbers-back (n ∷ ns) = ap (λ z. n ∷ z) (numbers-back ns)

clause-back : (ns : List Number) → clause_words (map lit_of ns) ≡ list_words ns
clause-back ns = ap list_words (numbers-back ns)

clause-is : (b : Bool) (vars : ℕ) (ns : List Number) → list_all (is_entry b vars true) ns ≡ true → is_clause b vars (map lit_of ns) ≡ true
clause-is b vars ns h = sym (list_all-map (is_entry b vars true) lit_number (map lit_of ns)) ∙ ap (list_all (is_entry b vars true)) (numbers-back ns) ∙ h

-- ---- one step back

record Mapped {A : Type 0} (f : A → Place) (o : Option A) (q : Place) : Type 0 where
  pub from : A
  pub was : o ≡ Some from
  pub gives : f from ≡ q

mapped : {A : Type 0} (f : A → Place) (o : Option A) (q : Place) → option_map f o ≡ Some q → Mapped f o q
mapped f None q h = absurd (nothing q h)
mapped f (Some x) q h = record { from = x; was = refl; gives = same_some (f x) q h }

pub record Counted (b : Bool) (word : Word) (n : ℕ) : Type 0 where
  pub is : word ≡ plain n
  pub fit : fits b n MOST_COUNT ≡ true

pub count-found : (b : Bool) (word : Word) (n : ℕ) → count_of b word ≡ Some n → Counted b word n
count-found b w.Problem n h = absurd (nothing n h)
count-found b w.Cnf n h = absurd (nothing n h)
count-found b w.Delete n h = absurd (nothing n h)
count-found b (w.Number m) n h = go m.negative (fits b m.size MOST_COUNT) refl refl h
  where
    go : (s c : Bool) → m.negative ≡ s → fits b m.size MOST_COUNT ≡ c → cond (not s && c) (Some m.size) None ≡ Some n → Counted b (w.Number m) n
    go false true s c h =
        let e : m.size ≡ n = same_some m.size n h in
        record { is = λ i. w.Number (record { negative = s i; size = e i }); fit = subst (λ z. fits b z MOST_COUNT ≡ true) e c }
    go false false s c h = absurd (nothing n h)
    go true t s c h = absurd (nothing n h)
count-found b w.Other n h = absurd (nothing n h)
count-found b w.End n h = absurd (nothing n h)

pub record Identified (b : Bool) (word : Word) (n : ℕ) : Type 0 where
  pub is : word ≡ plain n
  pub id : is_id b n ≡ true

unsigned-is : (b : Bool) (most : ℕ) (m : Number) → is_entry b most false m ≡ true → m ≡ unsigned m.size
unsigned-is b most m h =
    let p = and_parts (is_form false m) (fits b m.size most) h in
    let q = and_parts (nat_lt 0 m.size) (not m.negative) p.0 in
    let s : m.negative ≡ false = not-true m.negative q.1 in
    λ i. record { negative = s i; size = m.size }

pub id-found : (b : Bool) (word : Word) (n : ℕ) → id_of b word ≡ Some n → Identified b word n
id-found b word n h = go (entry_of b MOST_ID false word) refl h
  where
    go : (o : Option (Option Number)) → entry_of b MOST_ID false word ≡ o → id_entry o ≡ Some n → Identified b word n
    go None e h = absurd (nothing n h)
    go (Some None) e h = absurd (nothing n h)
    go (Some (Some m)) e h =
        let s : m.size ≡ n = same_some m.size n h in
        let x : IsEntry b MOST_ID false word m = entry-some b MOST_ID false word m e in
        let u : m ≡ unsigned n = unsigned-is b MOST_ID m x.may ∙ ap unsigned s in
        record { is = x.is ∙ ap (λ z. w.Number z) u; id = subst (λ z. is_entry b MOST_ID false z ≡ true) u x.may }

entry-back : (b : Bool) (most : ℕ) (signed : Bool) (next q : Place) (word : Word) (ws : List Word) → entry_step b most signed next word ≡ Some q → Rest b q ws → Rest b (in_list most signed next) (word ∷ ws)
unfolding Rest
entry-back b most signed next q word ws h r =
    let m = mapped (behind_entry most signed next) (entry_of b most signed word) q h in
    go m.from m.was (subst (λ z. Rest b z ws) (sym m.gives) r)
  where
    go : (o : Option Number) → entry_of b most signed word ≡ Some o → Rest b (behind_entry most signed next o) ws → Rest b (in_list most signed next) (word ∷ ws)
    go None e r = ([], ws, refl, ap (λ z. z ∷ ws) (entry-zero b most signed word e), r)
    go (Some n) e r =
        let x : IsEntry b most signed word n = entry-some b most signed word n e in
        (n ∷ r.0, r.1, and_from _ _ x.may r.2, (λ i. x.is i ∷ r.3 i), r.4)

-- the clauses and lines behind a header
record BodyFrom (b : Bool) (vars n : ℕ) (ws : List Word) : Type 0 where
  pub clauses : List (List Lit)
  pub lines : List Line
  pub count : length clauses ≡ n
  pub are_clauses : list_all (is_clause b vars) clauses ≡ true
  pub are_lines : list_all (is_line b vars) lines ≡ true
  pub whole : ws ≡ flat_map clause_words clauses ++ (flat_map line_words lines ++ w.End ∷ [])

body-from : (b : Bool) (vars n : ℕ) (ws : List Word) → Rest b (at_clauses vars n) ws → BodyFrom b vars n ws
unfolding Rest
body-from b vars zero ws r = record { clauses = []; lines = r.lines; count = refl; are_clauses = refl; are_lines = r.are; whole = r.whole }
body-from b vars (suc n) ws r =
    let t = body-from b vars n r.1 r.4 in
    record {
      clauses = map lit_of r.0 ∷ t.clauses;
      lines = t.lines;
      count = ap suc t.count;
      are_clauses = and_from _ _ (clause-is b vars r.0 r.2) t.are_clauses;
      are_lines = t.are_lines;
      whole =
          r.3 ∙ ap (λ z. z ++ r.1) (sym (clause-back r.0)) ∙ ap (λ z. clause_words (map lit_of r.0) ++ z) t.whole
          ∙ sym (append_assoc (clause_words (map lit_of r.0)) (flat_map clause_words t.clauses) (flat_map line_words t.lines ++ w.End ∷ []));
    }

line-more : (b : Bool) (vars : ℕ) (x : Line) (ws more : List Word) → is_line b vars x ≡ true → ws ≡ line_words x ++ more → LinesFrom b vars more → LinesFrom b vars ws
line-more b vars x ws more h e r = record {
  lines = x ∷ r.lines;
  are = and_from _ _ h r.are;
  whole = e ∙ ap (λ z. line_words x ++ z) r.whole ∙ sym (append_assoc (line_words x) (flat_map line_words r.lines) (w.End ∷ []));
}

lemma-back : (b : Bool) (vars id : ℕ) (ws : List Word) → is_id b id ≡ true → Rest b (in_list vars true (in_hints vars)) ws → LinesFrom b vars (plain id ∷ ws)
unfolding Rest
lemma-back b vars id ws h r =
    let more = r.4 in
    line-more b vars (l.Lemma id (map lit_of r.0) more.0) (plain id ∷ ws) more.1
    (and_from _ _ h (and_from _ _ (clause-is b vars r.0 r.2) more.2))
    (ap (λ z. plain id ∷ z)
    (r.3 ∙ ap (λ z. list_words r.0 ++ z) more.3 ∙ ap (λ z. z ++ (list_words more.0 ++ more.1)) (sym (clause-back r.0))
    ∙ sym (append_assoc (clause_words (map lit_of r.0)) (list_words more.0) more.1)))
    more.4

delete-back : (b : Bool) (vars id : ℕ) (ws : List Word) → is_id b id ≡ true → Rest b (in_delete vars) ws → LinesFrom b vars (plain id ∷ (w.Delete ∷ ws))
unfolding Rest
delete-back b vars id ws h r =
    line-more b vars (l.Delete id r.0) (plain id ∷ (w.Delete ∷ ws)) r.1 (and_from _ _ h r.2) (ap (λ z. plain id ∷ (w.Delete ∷ z)) r.3) r.4

problem-back : (b : Bool) (q : Place) (word : Word) (ws : List Word) → step b at_problem word ≡ Some q → Rest b q ws → Rest b at_problem (word ∷ ws)
unfolding Rest
problem-back b q w.Problem ws h r = subst (λ z. Rest b z ws) (sym (same_some at_cnf q h)) r
problem-back b q w.Cnf ws h r = absurd (nothing q h)
problem-back b q w.Delete ws h r = absurd (nothing q h)
problem-back b q (w.Number n) ws h r = absurd (nothing q h)
problem-back b q w.Other ws h r = absurd (nothing q h)
problem-back b q w.End ws h r = absurd (nothing q h)

cnf-back : (b : Bool) (q : Place) (word : Word) (ws : List Word) → step b at_cnf word ≡ Some q → Rest b q ws → Rest b at_cnf (word ∷ ws)
unfolding Rest
cnf-back b q w.Problem ws h r = absurd (nothing q h)
cnf-back b q w.Cnf ws h r = subst (λ z. Rest b z ws) (sym (same_some at_vars q h)) r
cnf-back b q w.Delete ws h r = absurd (nothing q h)
cnf-back b q (w.Number n) ws h r = absurd (nothing q h)
cnf-back b q w.Other ws h r = absurd (nothing q h)
cnf-back b q w.End ws h r = absurd (nothing q h)

vars-back : (b : Bool) (q : Place) (word : Word) (ws : List Word) → step b at_vars word ≡ Some q → Rest b q ws → Rest b at_vars (word ∷ ws)
unfolding Rest
vars-back b q word ws h r =
    let m = mapped (λ n. at_count n) (count_of b word) q h in
    let k = count-found b word m.from m.was in
    let s : Rest b (at_count m.from) ws = subst (λ z. Rest b z ws) (sym m.gives) r in
    subst (λ z. FileFrom b (w.Problem ∷ (w.Cnf ∷ (z ∷ ws)))) (sym k.is) (s k.fit)

count-back : (b : Bool) (vars : ℕ) (q : Place) (word : Word) (ws : List Word) → step b (at_count vars) word ≡ Some q → Rest b q ws → Rest b (at_count vars) (word ∷ ws)
unfolding Rest
count-back b vars q word ws h r = λ fit.
    let m = mapped (λ n. at_clauses vars n) (count_of b word) q h in
    let k = count-found b word m.from m.was in
    let t = body-from b vars m.from ws (subst (λ z. Rest b z ws) (sym m.gives) r) in
    let counted : fits b (length t.clauses) MOST_COUNT ≡ true = subst (λ z. fits b z MOST_COUNT ≡ true) (sym t.count) k.fit in
    let first : plain (length t.clauses) ≡ word = ap plain t.count ∙ sym k.is in
    record {
      file = record { vars = vars; clauses = t.clauses; lines = t.lines };
      is = and_from _ _ (and_from _ _ fit counted) (and_from _ _ t.are_clauses t.are_lines);
      whole = λ i. w.Problem ∷ (w.Cnf ∷ (plain vars ∷ (first i ∷ sym t.whole i)));
    }

line-id : (b : Bool) (vars : ℕ) (q : Place) (word : Word) (ws : List Word) → option_map (λ n. at_second vars) (id_of b word) ≡ Some q → Rest b q ws → LinesFrom b vars (word ∷ ws)
unfolding Rest
line-id b vars q word ws h r =
    let m = mapped (λ n. at_second vars) (id_of b word) q h in
    let k = id-found b word m.from m.was in
    let s : Rest b (at_second vars) ws = subst (λ z. Rest b z ws) (sym m.gives) r in
    subst (λ z. LinesFrom b vars (z ∷ ws)) (sym k.is) (s m.from k.id)

line-back : (b : Bool) (vars : ℕ) (q : Place) (word : Word) (ws : List Word) → step b (at_line vars) word ≡ Some q → Rest b q ws → Rest b (at_line vars) (word ∷ ws)
unfolding Rest
line-back b vars q w.Problem ws h r = line-id b vars q w.Problem ws h r
line-back b vars q w.Cnf ws h r = line-id b vars q w.Cnf ws h r
line-back b vars q w.Delete ws h r = line-id b vars q w.Delete ws h r
line-back b vars q (w.Number n) ws h r = line-id b vars q (w.Number n) ws h r
line-back b vars q w.Other ws h r = line-id b vars q w.Other ws h r
line-back b vars q w.End ws h r =
    let s : Rest b at_end ws = subst (λ z. Rest b z ws) (sym (same_some at_end q h)) r in
    record { lines = []; are = refl; whole = ap (λ z. w.End ∷ z) s }

second-back : (b : Bool) (vars : ℕ) (q : Place) (word : Word) (ws : List Word) → step b (at_second vars) word ≡ Some q → Rest b q ws → Rest b (at_second vars) (word ∷ ws)
unfolding Rest
second-back b vars q w.Problem ws h r = λ id is. lemma-back b vars id (w.Problem ∷ ws) is (entry-back b vars true (in_hints vars) q w.Problem ws h r)
second-back b vars q w.Cnf ws h r = λ id is. lemma-back b vars id (w.Cnf ∷ ws) is (entry-back b vars true (in_hints vars) q w.Cnf ws h r)
second-back b vars q w.Delete ws h r = λ id is. delete-back b vars id ws is (subst (λ z. Rest b z ws) (sym (same_some (in_delete vars) q h)) r)
second-back b vars q (w.Number n) ws h r = λ id is. lemma-back b vars id (w.Number n ∷ ws) is (entry-back b vars true (in_hints vars) q (w.Number n) ws h r)
second-back b vars q w.Other ws h r = λ id is. lemma-back b vars id (w.Other ∷ ws) is (entry-back b vars true (in_hints vars) q w.Other ws h r)
second-back b vars q w.End ws h r = λ id is. lemma-back b vars id (w.End ∷ ws) is (entry-back b vars true (in_hints vars) q w.End ws h r)

back : (b : Bool) (p q : Place) (word : Word) (ws : List Word) → step b p word ≡ Some q → Rest b q ws → Rest b p (word ∷ ws)
back b at_problem q word ws h r = problem-back b q word ws h r
back b at_cnf q word ws h r = cnf-back b q word ws h r
back b at_vars q word ws h r = vars-back b q word ws h r
back b (at_count vars) q word ws h r = count-back b vars q word ws h r
back b (in_list most signed next) q word ws h r = entry-back b most signed next q word ws h r
back b (at_line vars) q word ws h r = line-back b vars q word ws h r
back b (at_second vars) q word ws h r = second-back b vars q word ws h r
back b at_end q word ws h r = absurd (nothing q h)

rest : (b : Bool) (ws : List Word) (p : Place) → run b p ws ≡ Some at_end → Rest b p ws
unfolding Rest
rest b [] p h = subst (λ z. Rest b z []) (sym (same_some p at_end h)) refl
rest b (x ∷ ws) p h = go (step b p x) refl (λ r k. rest b ws r k) h
  where
    go : (o : Option Place) → step b p x ≡ o → ((r : Place) → run b r ws ≡ Some at_end → Rest b r ws)
        → elim o [ Some r ↦ run b r ws | None ↦ None ] ≡ Some at_end → Rest b p (x ∷ ws)
    go None e k h = absurd (nothing at_end h)
    go (Some r) e k h = back b p r x ws e (k r h)

pub file-from : (b : Bool) (ws : List Word) → run b at_problem ws ≡ Some at_end → (f : FileView) × (is_file b f ≡ true) × (file_words f ≡ ws)
unfolding Rest
file-from b ws h = let r : FileFrom b ws = rest b ws at_problem h in (r.file, r.is, r.whole)
