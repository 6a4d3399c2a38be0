-- Words write one file only
use Rattle.std.proofs.Common.{◌≡◌, ℕ, ◌<◌, Bool, true, false, not, ◌||◌, List, [], ◌∷◌, ◌++◌, length, map, refl, sym, ap, ◌∙◌, arith, append_assoc}
use Rattle.std.specs.Prelude.{nat_lt}
use Rattle.std.specs.List.{list_all, flat_map}
use Rattle.std.proofs.lemmas.Bool.{and_parts, ltb-true}
use Rattle.std.proofs.lemmas.List.Folds.{list_all-map}
use Rattle.svr_chain.specs.declared.clause.Lit.{Lit}
use Rattle.svr_lrat_text.specs.declared.limits.TheConstants.{MOST_ID}
use Rattle.svr_lrat_file.specs.declared.file.Number.{Number}
use Rattle.svr_lrat_text.specs.declared.word.Word.{Word}
use Rattle.svr_lrat_text.specs.declared.word.Word.TheVariants as w
use Rattle.svr_lrat_file.specs.declared.file.Line.{Line}
use Rattle.svr_lrat_file.specs.declared.file.Line.TheVariants as l
use Rattle.svr_lrat_file.specs.Views.{FileView}
use Rattle.svr_lrat_text.specs.File.{plain, unsigned, lit_number, list_words, clause_words, line_words, file_words, fits, is_form, is_entry, is_clause, is_line, is_file}

not-zero : (b : Bool) (most : ℕ) (signed : Bool) (n : Number) → is_entry b most signed n ≡ true → n.size ≡ 0 → ⊥
not-zero b most signed n h e =
    let p = and_parts (is_form signed n) (fits b n.size most) h in
    let q = and_parts (nat_lt 0 n.size) (signed || not n.negative) p.0 in
    let less : 0 < n.size = ltb-true 0 n.size q.0 in
    absurd (omega arith)

number-one : (n m : Number) → w.Number n ≡ w.Number m → n ≡ m
number-one n m e = cc

head-one : (x y : Word) (xs ys : List Word) → x ∷ xs ≡ y ∷ ys → x ≡ y
head-one x y xs ys e = cc

tail-one : (x y : Word) (xs ys : List Word) → x ∷ xs ≡ y ∷ ys → xs ≡ ys
tail-one x y xs ys e = cc

zero-size : (n : Number) → n ≡ unsigned 0 → n.size ≡ 0
zero-size n e = ap (λ z. z.size) e

list-one : (b : Bool) (most : ℕ) (signed : Bool) (ns ms : List Number) (ws vs : List Word) → list_all (is_entry b most signed) ns ≡ true → list_all (is_entry b most signed) ms ≡ true
    → list_words ns ++ ws ≡ list_words ms ++ vs → (ns ≡ ms) × (ws ≡ vs)
list-one b most signed [] [] ws vs h k e = (refl, tail-one _ _ _ _ e)
list-one b most signed [] (m ∷ ms) ws vs h k e =
    absurd (not-zero b most signed m (and_parts _ _ k).0 (zero-size m (sym (number-one (unsigned 0) m (head-one _ _ _ _ e)))))
list-one b most signed (n ∷ ns) [] ws vs h k e =
    absurd (not-zero b most signed n (and_parts _ _ h).0 (zero-size n (number-one n (unsigned 0) (head-one _ _ _ _ e))))
list-one b most signed (n ∷ ns) (m ∷ ms) ws vs h k e =
    let r = list-one b most signed ns ms ws vs (and_parts _ _ h).1 (and_parts _ _ k).1 (tail-one _ _ _ _ e) in
    let s : n ≡ m = number-one n m (head-one _ _ _ _ e) in
    ((λ i. s i ∷ r.0 i), r.1)

lits-one : (c d : List Lit) → map lit_number c ≡ map lit_number d → c ≡ d
lits-one [] [] e = refl
lits-one [] (y ∷ d) e = absurd (let z : [] ≡ lit_number y ∷ map lit_number d = e in cc)
lits-one (x ∷ c) [] e = absurd (let z : lit_number x ∷ map lit_number c ≡ [] = e in cc)
lits-one (x ∷ c) (y ∷ d) e =
    let s : lit_number x ≡ lit_number y = cc in
    let r = lits-one c d (let z : map lit_number c ≡ map lit_number d = cc in z) in
    λ i. record { var = (s i).size; neg = (s i).negative } ∷ r i

clause-one : (b : Bool) (vars : ℕ) (c d : List Lit) (ws vs : List Word) → is_clause b vars c ≡ true → is_clause b vars d ≡ true → clause_words c ++ ws ≡ clause_words d ++ vs → (c ≡ d) × (ws ≡ vs)
clause-one b vars c d ws vs h k e =
    let r = list-one b vars true (map lit_number c) (map lit_number d) ws vs (list_all-map (is_entry b vars true) lit_number c ∙ h) (list_all-map (is_entry b vars true) lit_number d ∙ k) e in
    (lits-one c d r.0, r.1)

clauses-one : (b : Bool) (vars : ℕ) (cs ds : List (List Lit)) (ws vs : List Word) → length cs ≡ length ds → list_all (is_clause b vars) cs ≡ true → list_all (is_clause b vars) ds ≡ true
    → flat_map clause_words cs ++ ws ≡ flat_map clause_words ds ++ vs → (cs ≡ ds) × (ws ≡ vs)
clauses-one b vars [] [] ws vs n h k e = (refl, e)
clauses-one b vars [] (d ∷ ds) ws vs n h k e = absurd (omega (arith, n))
clauses-one b vars (c ∷ cs) [] ws vs n h k e = absurd (omega (arith, n))
clauses-one b vars (c ∷ cs) (d ∷ ds) ws vs n h k e =
    let f = sym (append_assoc (clause_words c) (flat_map clause_words cs) ws) ∙ e ∙ append_assoc (clause_words d) (flat_map clause_words ds) vs in
    let r = clause-one b vars c d (flat_map clause_words cs ++ ws) (flat_map clause_words ds ++ vs) (and_parts _ _ h).0 (and_parts _ _ k).0 f in
    let m : length cs ≡ length ds = omega (arith, n) in
    let t = clauses-one b vars cs ds ws vs m (and_parts _ _ h).1 (and_parts _ _ k).1 r.1 in
    ((λ i. r.0 i ∷ t.0 i), t.1)

no-delete : (ns : List Number) (ws vs : List Word) → list_words ns ++ ws ≡ w.Delete ∷ vs → ⊥
no-delete [] ws vs e = absurd (let z : plain 0 ≡ w.Delete = head-one _ _ _ _ e in cc)
no-delete (n ∷ ns) ws vs e = absurd (let z : w.Number n ≡ w.Delete = head-one _ _ _ _ e in cc)

plain-one : (n m : ℕ) → plain n ≡ plain m → n ≡ m
plain-one n m e = ap (λ z. z.size) (number-one (unsigned n) (unsigned m) e)

line-one : (b : Bool) (vars : ℕ) (x y : Line) (ws vs : List Word) → is_line b vars x ≡ true → is_line b vars y ≡ true → line_words x ++ ws ≡ line_words y ++ vs → (x ≡ y) × (ws ≡ vs)
line-one b vars (l.Lemma id c hs) (l.Lemma jd d ks) ws vs h k e =
    let p = and_parts _ _ (and_parts _ _ h).1 in
    let q = and_parts _ _ (and_parts _ _ k).1 in
    let s : id ≡ jd = plain-one id jd (head-one _ _ _ _ e) in
    let f = sym (append_assoc (clause_words c) (list_words hs) ws) ∙ tail-one _ _ _ _ e ∙ append_assoc (clause_words d) (list_words ks) vs in
    let r = clause-one b vars c d (list_words hs ++ ws) (list_words ks ++ vs) p.0 q.0 f in
    let t = list-one b MOST_ID true hs ks ws vs p.1 q.1 r.1 in
    ((λ i. l.Lemma (s i) (r.0 i) (t.0 i)), t.1)
line-one b vars (l.Delete id ns) (l.Delete jd ms) ws vs h k e =
    let s : id ≡ jd = plain-one id jd (head-one _ _ _ _ e) in
    let r = list-one b MOST_ID false ns ms ws vs (and_parts _ _ h).1 (and_parts _ _ k).1 (tail-one _ _ _ _ (tail-one _ _ _ _ e)) in
    ((λ i. l.Delete (s i) (r.0 i)), r.1)
line-one b vars (l.Lemma id c hs) (l.Delete jd ms) ws vs h k e =
    absurd (no-delete (map lit_number c) (list_words hs ++ ws) (list_words ms ++ vs) (sym (append_assoc (clause_words c) (list_words hs) ws) ∙ tail-one _ _ _ _ e))
line-one b vars (l.Delete id ns) (l.Lemma jd d ks) ws vs h k e =
    absurd (no-delete (map lit_number d) (list_words ks ++ vs) (list_words ns ++ ws) (sym (append_assoc (clause_words d) (list_words ks) vs) ∙ sym (tail-one _ _ _ _ e)))

-- a line begins with a number
starts-line : (x : Line) (ws vs : List Word) → line_words x ++ ws ≡ w.End ∷ vs → ⊥
starts-line (l.Lemma id c hs) ws vs e = absurd (let z : plain id ≡ w.End = head-one _ _ _ _ e in cc)
starts-line (l.Delete id ns) ws vs e = absurd (let z : plain id ≡ w.End = head-one _ _ _ _ e in cc)

lines-one : (b : Bool) (vars : ℕ) (xs ys : List Line) → list_all (is_line b vars) xs ≡ true → list_all (is_line b vars) ys ≡ true
    → flat_map line_words xs ++ w.End ∷ [] ≡ flat_map line_words ys ++ w.End ∷ [] → xs ≡ ys
lines-one b vars [] [] h k e = refl
lines-one b vars [] (y ∷ ys) h k e = absurd (starts-line y (flat_map line_words ys ++ w.End ∷ []) [] (sym (append_assoc (line_words y) (flat_map line_words ys) (w.End ∷ [])) ∙ sym e))
lines-one b vars (x ∷ xs) [] h k e = absurd (starts-line x (flat_map line_words xs ++ w.End ∷ []) [] (sym (append_assoc (line_words x) (flat_map line_words xs) (w.End ∷ [])) ∙ e))
lines-one b vars (x ∷ xs) (y ∷ ys) h k e =
    let f = sym (append_assoc (line_words x) (flat_map line_words xs) (w.End ∷ [])) ∙ e ∙ append_assoc (line_words y) (flat_map line_words ys) (w.End ∷ []) in
    let r = line-one b vars x y (flat_map line_words xs ++ w.End ∷ []) (flat_map line_words ys ++ w.End ∷ []) (and_parts _ _ h).0 (and_parts _ _ k).0 f in
    let t = lines-one b vars xs ys (and_parts _ _ h).1 (and_parts _ _ k).1 r.1 in
    λ i. r.0 i ∷ t i

pub file-one : (b : Bool) (f g : FileView) → is_file b f ≡ true → is_file b g ≡ true → file_words f ≡ file_words g → f ≡ g
file-one b f g h k e =
    let p = and_parts _ _ (and_parts _ _ h).1 in
    let q = and_parts _ _ (and_parts _ _ k).1 in
    let e1 = tail-one _ _ _ _ (tail-one _ _ _ _ e) in
    let vars : f.vars ≡ g.vars = plain-one f.vars g.vars (head-one _ _ _ _ e1) in
    let e2 = tail-one _ _ _ _ e1 in
    let count : length f.clauses ≡ length g.clauses = plain-one _ _ (head-one _ _ _ _ e2) in
    let cs : list_all (is_clause b f.vars) g.clauses ≡ true = ap (λ v. list_all (is_clause b v) g.clauses) vars ∙ q.0 in
    let ls : list_all (is_line b f.vars) g.lines ≡ true = ap (λ v. list_all (is_line b v) g.lines) vars ∙ q.1 in
    let r = clauses-one b f.vars f.clauses g.clauses (flat_map line_words f.lines ++ w.End ∷ []) (flat_map line_words g.lines ++ w.End ∷ []) count p.0 cs (tail-one _ _ _ _ e2) in
    let t = lines-one b f.vars f.lines g.lines p.1 ls r.1 in
    λ i. record { vars = vars i; clauses = r.0 i; lines = t i }
