-- Parts of a concatenation and bodies of a reduction, one after another
use Rattle.std.proofs.Common.{◌≡◌, ℕ, zero, suc, ◌+◌, ◌*◌, ◌/◌, ◌<◌, ◌≤◌, Bool, false, List, [], ◌∷◌, ◌++◌, length, drop, get_or, refl, sym, ap, ◌∙◌, arith, subst, add-one, add_comm, ⊎_elim}
use Rattle.std.proofs.lemmas.Bool.{cases_lt}
use Rattle.std.proofs.Math.Nat.{mul-div_left}
use Rattle.svr_operator.specs.declared.Fold.{Fold}
use Rattle.svr_typed.specs.declared.expr.TExpr.{TExpr}
use Rattle.svr_typed.specs.ExprTerm.{ExprTerm, expr_term, expr_terms}
use Rattle.svr_chain.specs.declared.clause.Lit.{Lit}
use Rattle.svr_chain.specs.Clauses.{AreWithin}
use Rattle.svr_gate.specs.Numbers.{number}
use Rattle.svr_gate.specs.Circuit.{Circuit, Extends, GivesNumber}
use Rattle.svr_gate.proofs.Vectors.{GivesNumber-later, GivesNumber-nil, GivesNumber-self, GivesNumber-same, GivesNumber-width, GivesNumber-append}
use Rattle.svr_vector.specs.Literals.{copies_of}
use Rattle.svr_vector.proofs.LiteralLemmas.{copies_give}
use Rattle.svr_num.specs.Num.{extend_of}
use Rattle.svr_eval.specs.Reading.{Reading}
use Rattle.svr_eval.specs.declared.operator.Arithmetic.{Arithmetic}
use Rattle.svr_eval.specs.Operator.{arithmetic_of, fold_of, fold_operator}
use Rattle.svr_eval.specs.Value.{size_of, sizes, joined, alone, copied}
use Rattle.svr_encode.specs.Parts.{PartTerm, alone_part, alone_parts, body_part, body_parts}
use Rattle.svr_encode.specs.Given.{GiveParts}
use Rattle.svr_eval.specs.Typed.{IsTyped}
use Rattle.svr_encode.proofs.TreeLemmas.{own_width}
use Rattle.svr_encode.proofs.GivenLemmas.{Gives, given_at}

-- the expression at a place, as what is left from there on, and as a part
cut_at : (k : ℕ) (es : List TExpr) → k < length es → (x : TExpr) × (drop k es ≡ x ∷ drop (suc k) es) × ((d : PartTerm) → get_or (alone_parts (expr_terms es)) k d ≡ alone_part (expr_term x))
cut_at k [] h = absurd (omega arith)
cut_at zero (x ∷ es) h = (x, refl, λ d. refl)
cut_at (suc k) (y ∷ es) h = let r = cut_at k es (omega arith) in (r.0, r.1, r.2)

pub alone_len : (es : List TExpr) → length (alone_parts (expr_terms es)) ≡ length es
alone_len [] = refl
alone_len (x ∷ es) = ap suc (alone_len es)

-- one more part above those behind it
pub joined_more : (c : Circuit) (xs : List (List Lit)) (read : (ℕ → Bool) → Reading) (env : List ℕ) (whole : List Lit) (k : ℕ) (es : List TExpr) → k < length es → GiveParts c xs read env 0 (alone_parts (expr_terms es))
    → GivesNumber c whole (sizes (expr_terms (drop (suc k) es))) (λ v. joined (read v) env (expr_terms (drop (suc k) es)))
    → GivesNumber c (whole ++ get_or xs k []) (sizes (expr_terms (drop k es))) (λ v. joined (read v) env (expr_terms (drop k es)))
joined_more c xs read env whole k es lt given g =
    let r = cut_at k es lt in
    let x : ExprTerm = expr_term r.0 in
    let n : ℕ = sizes (expr_terms (drop (suc k) es)) in
    let at = given_at xs read env c 0 (alone_parts (expr_terms es)) given k (alone_part x) (omega (arith, lt, alone_len es)) in
    let part : GivesNumber c (get_or xs k []) (size_of x) (λ v. alone (read v) env x) =
    subst (λ (j : ℕ). Gives xs read env c j (alone_part x)) (let e : 0 + k ≡ k = omega arith in e) (subst (Gives xs read env c (0 + k)) (r.2 (alone_part x)) at) in
    subst (λ (ys : List TExpr). GivesNumber c (whole ++ get_or xs k []) (sizes (expr_terms ys)) (λ v. joined (read v) env (expr_terms ys))) (sym r.1)
    (GivesNumber-same (λ v. joined (read v) env (expr_terms (r.0 ∷ drop (suc k) es)))
    (GivesNumber-width (add_comm n (size_of x)) (GivesNumber-append g part))
    (λ v m. omega arith))

longer : (xs : List PartTerm) (x : PartTerm) → length (xs ++ x ∷ []) ≡ suc (length xs)
longer [] x = refl
longer (y ∷ xs) x = ap suc (longer xs x)

pub bodies_len : (n : ℕ) (e : ExprTerm) → length (body_parts n e) ≡ n
bodies_len zero e = refl
bodies_len (suc n) e = longer (body_parts n e) (body_part e n) ∙ ap suc (bodies_len n e)

front : (xs : List PartTerm) (x d : PartTerm) (k : ℕ) → k < length xs → get_or (xs ++ x ∷ []) k d ≡ get_or xs k d
front [] x d k h = absurd (omega arith)
front (y ∷ xs) x d zero h = refl
front (y ∷ xs) x d (suc k) h = front xs x d k (omega arith)

last : (xs : List PartTerm) (x d : PartTerm) → get_or (xs ++ x ∷ []) (length xs) d ≡ x
last [] x d = refl
last (y ∷ xs) x d = last xs x d

body_at : (n k : ℕ) (e : ExprTerm) (d : PartTerm) → k < n → get_or (body_parts n e) k d ≡ body_part e k
body_at zero k e d h = absurd (omega arith)
body_at (suc n) k e d h =
    ⊎_elim
    (λ (l : k < n). front (body_parts n e) (body_part e n) d k (omega (arith, bodies_len n e)) ∙ body_at n k e d l)
    (λ (g : n ≤ k).
    let at : k ≡ length (body_parts n e) = omega (arith, bodies_len n e) in
    let same : n ≡ k = omega arith in
    ap (λ j. get_or (body_parts n e ++ body_part e n ∷ []) j d) at ∙ last (body_parts n e) (body_part e n) d ∙ ap (body_part e) same)
    (cases_lt k n)

pub body_given : (c : Circuit) (xs : List (List Lit)) (read : (ℕ → Bool) → Reading) (env : List ℕ) (n k : ℕ) (e : ExprTerm) → GiveParts c xs read env 0 (body_parts n e) → k < n
    → GivesNumber c (get_or xs k []) (size_of e) (λ v. alone (read v) (env ++ k ∷ []) e)
body_given c xs read env n k e given lt =
    subst (λ (j : ℕ). Gives xs read env c j (body_part e k)) (let z : 0 + k ≡ k = omega arith in z)
    (subst (Gives xs read env c (0 + k)) (body_at n k e (body_part e k) lt) (given_at xs read env c 0 (body_parts n e) given k (body_part e k) (omega (arith, lt, bodies_len n e))))

-- one more step of a reduction
pub reduced_more : {c d : Circuit} (op : Fold) (o : Arithmetic) (w i : ℕ) (total one next : List Lit) (f : (ℕ → Bool) → ℕ → ℕ) → o ≡ fold_operator op → Extends c d → GivesNumber c total w (λ v. fold_of op w i (f v)) → GivesNumber c one w (λ v. f v i)
    → GivesNumber d next (length total) (λ a. arithmetic_of o (length total) false (number a total) (number a one)) → GivesNumber d next w (λ v. fold_of op w (i + 1) (f v))
reduced_more op o w i total one next f same x t u g =
    GivesNumber-width t.len
    (GivesNumber-same (λ v. fold_of op w (i + 1) (f v)) g
    (λ v m.
    ap (λ n. arithmetic_of o n false (number v total) (number v one)) t.len
    ∙ ap (λ n. arithmetic_of o w false n (number v one)) (t.value v (x.keeps v m))
    ∙ ap (arithmetic_of o w false (fold_of op w i (f v))) (u.value v (x.keeps v m))
    ∙ ap (λ k. arithmetic_of k w false (fold_of op w i (f v)) (f v i)) same
    ∙ ap (λ n. fold_of op w n (f v)) (sym (add-one i))))

-- no part
pub joined_none : (c : Circuit) (read : (ℕ → Bool) → Reading) (env : List ℕ) (k : ℕ) (es : List TExpr) → length es ≤ k → GivesNumber c [] (sizes (expr_terms (drop k es))) (λ v. joined (read v) env (expr_terms (drop k es)))
joined_none c read env zero [] h = GivesNumber-nil c
joined_none c read env zero (x ∷ es) h = absurd (omega arith)
joined_none c read env (suc k) [] h = GivesNumber-nil c
joined_none c read env (suc k) (x ∷ es) h = joined_none c read env k es (omega arith)

-- all parts
pub joined_all : (c : Circuit) (read : (ℕ → Bool) → Reading) (env : List ℕ) (whole : List Lit) (k : ℕ) (es : List TExpr) → k ≡ 0 → GivesNumber c whole (sizes (expr_terms (drop k es))) (λ v. joined (read v) env (expr_terms (drop k es)))
    → GivesNumber c whole (sizes (expr_terms es)) (λ v. joined (read v) env (expr_terms es))
joined_all c read env whole k es z g =
    subst (λ (ys : List TExpr). GivesNumber c whole (sizes (expr_terms ys)) (λ v. joined (read v) env (expr_terms ys))) (ap (λ n. drop n es) z ∙ all es) g where
      all : (ys : List TExpr) → drop 0 ys ≡ ys
      all [] = refl
      all (y ∷ ys) = refl

-- the whole reduction
pub reduced_whole : {c d : Circuit} (read : (ℕ → Bool) → Reading) (op : Fold) (w n k width : ℕ) (s : Bool) (p : ℕ) (total out : List Lit) (f : (ℕ → Bool) → ℕ → ℕ) → Extends c d → GivesNumber c total n (λ v. fold_of op n k (f v)) → n ≡ w → ((v : ℕ → Bool) → (read v).size p ≡ k)
    → GivesNumber d out width (λ a. extend_of s width (length total) (number a total)) → GivesNumber d out width (λ v. extend_of s width w (fold_of op w ((read v).size p) (f v)))
reduced_whole read op w n k width s p total out f x t own all g =
    GivesNumber-same (λ v. extend_of s width w (fold_of op w ((read v).size p) (f v))) g
    (λ v m.
    ap (λ j. extend_of s width j (number v total)) t.len
    ∙ ap (extend_of s width n) (t.value v (x.keeps v m))
    ∙ ap (λ j. extend_of s width j (fold_of op j k (f v))) own
    ∙ ap (λ j. extend_of s width w (fold_of op w j (f v))) (sym (all v)))

-- how many copies make up a replication
pub copies_count : (k n own : ℕ) → k * n ≡ own → 1 ≤ n → own / n ≡ k
copies_count k n own e h = ap (λ w. w / n) (sym e) ∙ mul-div_left k (let l : 0 < n = omega arith in l)

-- the vector of a body, later and at the width that stands at it
pub one_given : (c d : Circuit) (xs : List (List Lit)) (read : (ℕ → Bool) → Reading) (env : List ℕ) (n k : ℕ) (t : TExpr) (ls : List Lit) → IsTyped (expr_term t) → GiveParts c xs read env 0 (body_parts n (expr_term t)) → k < n → Extends c d → ls ≡ get_or xs k []
    → GivesNumber d ls t.width (λ v. alone (read v) (env ++ k ∷ []) (expr_term t))
one_given c d xs read env n k t ls typed given lt x is =
    subst (λ (ys : List Lit). GivesNumber d ys t.width (λ v. alone (read v) (env ++ k ∷ []) (expr_term t))) (sym is)
    (GivesNumber-width (own_width t typed) (GivesNumber-later x (body_given c xs read env n k (expr_term t) given lt)))

-- copies of a vector that have so many bits
pub whole_given : (c : Circuit) (part whole : List Lit) (n own : ℕ) → AreWithin c.vars part → whole ≡ copies_of n part → n ≡ own / length part → own / length part * length part ≡ own
    → GivesNumber c whole own (λ a. copied (own / length part) (length part) (number a part))
whole_given c part whole n own within is count all =
    subst (λ (ls : List Lit). GivesNumber c ls own (λ a. copied (own / length part) (length part) (number a part))) (sym (is ∙ ap (λ k. copies_of k part) count))
    (GivesNumber-width all (copies_give (own / length part) (GivesNumber-self c part within)))
