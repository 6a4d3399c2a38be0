-- What is known of variables and of their values, put together of what is known of their parts.
use Rattle.std.proofs.Common.{◌≡◌, ℕ, ◌+◌, ◌<◌, ◌≤◌, Bool, false, not, List, [], ◌∷◌, ◌++◌, map, length, get_or, drop, Option, Some, None, Result, Ok, Err, refl, sym, ap, subst, ◌∙◌, arith}
use Rattle.std.specs.Prelude.{IfOk}
use Rattle.std.proofs.lemmas.List.{at_drop_more, drop_all, length-map}
use Rattle.svr_tree.specs.declared.VarDeclarator.{VarDeclarator}
use Rattle.svr_tree.specs.declared.VarDecl.{VarDecl}
use Rattle.svr_tree.specs.DeclTree.{DataTypeTree, VarInitTree, VarDeclaratorTree, VarTree, var_declarator_tree, var_tree}
use Rattle.svr_elab_fault.specs.declared.Fault.{Fault}
use Rattle.svr_elab_fault.specs.Refusals.{first_one, earlier}
use Rattle.svr_elab_names.specs.declared.Found.{Found}
use Rattle.svr_elab_names.specs.declared.VarStand.{VarStand}
use Rattle.svr_elab_names.specs.Names.{Space, VarName}
use Rattle.svr_elab_part.specs.Elab.{Elab, path_part}
use Rattle.svr_elab_decl.specs.Properties.{UsedElab, data_type}
use Rattle.svr_elab_stmt.specs.Stmts.{StmtElab, StmtsElab, and_stmt}
use Rattle.svr_elab_unit.specs.Vars as spec
use Rattle.svr_elab_unit.specs.Vars.{VarsElab, ValuedElab, stmt_space}
use Rattle.svr_elab_unit.specs.Fits.{declared_in}

abbrev Vars : Type 0
Vars = VarsElab (Option Fault)

abbrev Valued : Type 0
Valued = ValuedElab (Option Fault)

abbrev Part : Type 0
Part = Elab (Option Fault)

abbrev One : Type 0
One = StmtElab (Option Fault)

abbrev Many : Type 0
Many = StmtsElab (Option Fault)

-- what the last call answers, told in other words
pub told_as : {A B E : Type 0} (f : A → B) (r : Result A E) (x y : B) → IfOk r (λ s. f s ≡ x) → x ≡ y → IfOk r (λ s. f s ≡ y)
told_as f (Ok s) x y h e = h ∙ e
told_as f (Err v) x y h e = tt

-- the first of what is left of a list
pub rest_is : {A B : Type 0} (f : A → B) (xs : List A) (i : ℕ) (x : A) → i < length xs → x ≡ get_or xs i x → map f (drop i xs) ≡ f x ∷ map f (drop (i + 1) xs)
rest_is {A = A} f xs i x h e = at_drop_more (map f) xs i x h ∙ ap (λ (x : A). f x ∷ map f (drop (i + 1) xs)) (sym e)

-- ---- how many there are

pub at_most_more : (next now start i : ℕ) → next ≤ now + 1 → now ≤ start + i → next ≤ start + (i + 1)
at_most_more next now start i h k = omega (arith, h, k)

declared_rest : (next now most many rest : ℕ) → next ≤ now + many → now + (many + rest) ≤ most → next + rest ≤ most
declared_rest next now most many rest h k = omega (arith, h, k)

pub declared_more : (now next most : ℕ) (d : VarDecl) (vs : List VarTree) → next ≤ now + length d.vars → now + declared_in (var_tree d ∷ vs) ≤ most → next + declared_in vs ≤ most
declared_more now next most d vs h k =
    let Few : ℕ → Type 0 = λ n. now + (n + declared_in vs) ≤ most in
    declared_rest next now most (length d.vars) (declared_in vs) h (subst Few (length-map d.vars var_declarator_tree) k)

-- ---- variables

pub var_is : (s : Vars) (name : ℕ) (q : List ℕ) (k : VarStand) (object : Bool) (before objects others : ℕ) (refused fault : Option Fault) (vs : List VarName)
    → object ≡ spec.is_object_stand k → before ≡ spec.of_sort object s.objects s.others → refused ≡ spec.name_faults first_one s.vars before name q
    → objects ≡ spec.one_more s.objects object → others ≡ spec.one_more s.others (not object) → fault ≡ earlier s.faults refused → vs ≡ spec.and_var_name s.vars q k
    → (let r : Vars = record { vars = vs; stands = s.stands; objects = objects; others = others; faults = fault } in r) ≡ spec.and_var first_one s name q k
var_is s name q k object before objects others refused fault vs is_object is_before is_refused is_objects is_others is_fault is_vs =
    rw (is_vs, is_fault, is_others, is_objects, is_refused, is_before, is_object) refl

pub vars_more : (text : ℕ → List ℕ) (k : VarStand) (s r whole : Vars) (q : List ℕ) (d : VarDeclaratorTree) (ds : List VarDeclaratorTree)
    → r ≡ spec.and_var first_one s d.name q k → q ≡ text d.name → spec.and_vars first_one text s k (d ∷ ds) ≡ whole → spec.and_vars first_one text r k ds ≡ whole
vars_more text k s r whole q d ds h e known =
    ap (λ (r : Vars). spec.and_vars first_one text r k ds) (h ∙ ap (λ (q : List ℕ). spec.and_var first_one s d.name q k) e) ∙ known

pub type_is : (s : Vars) (u : UsedElab (Option Fault)) (k : VarStand) (fault : Option Fault) (ks : List VarStand)
    → k ≡ spec.stand_of u.used → fault ≡ earlier s.faults u.faults → ks ≡ s.stands ++ k ∷ []
    → (let r : Vars = record { vars = s.vars; stands = ks; objects = s.objects; others = s.others; faults = fault } in r) ≡ spec.and_type first_one s u
type_is s u k fault ks is_k is_fault is_ks = rw (is_ks, is_fault, is_k) refl

pub used_is : (m n : Space) (t : DataTypeTree) (r : UsedElab (Option Fault)) → r ≡ data_type first_one m t → m ≡ n → r ≡ data_type first_one n t
used_is m n t r h e = h ∙ ap (λ (m : Space). data_type first_one m t) e

abbrev declared : Space → Vars → UsedElab (Option Fault) → List VarDeclaratorTree → Vars
declared n s u ds = spec.and_vars first_one n.text (spec.and_type first_one s u) (spec.stand_of u.used) ds

pub decl_is : (n : Space) (s t r : Vars) (u : UsedElab (Option Fault)) (k : VarStand) (kind : DataTypeTree) (ds es : List VarDeclaratorTree)
    → r ≡ spec.and_vars first_one n.text t k es → t ≡ spec.and_type first_one s u → k ≡ spec.stand_of u.used → u ≡ data_type first_one (stmt_space n s.vars) kind → es ≡ ds
    → r ≡ spec.var_decl first_one n s (record { kind = kind; vars = ds })
decl_is n s t r u k kind ds es h is_t is_k is_u is_es =
    h ∙ ap (λ (t : Vars). spec.and_vars first_one n.text t k es) is_t ∙ ap (λ (k : VarStand). spec.and_vars first_one n.text (spec.and_type first_one s u) k es) is_k
    ∙ ap (declared n s u) is_es ∙ ap (λ (u : UsedElab (Option Fault)). declared n s u ds) is_u

pub decls_more : (n : Space) (s r whole : Vars) (v : VarTree) (vs : List VarTree)
    → r ≡ spec.var_decl first_one n s v → spec.var_decls first_one n s (v ∷ vs) ≡ whole → spec.var_decls first_one n r vs ≡ whole
decls_more n s r whole v vs h known = ap (λ (r : Vars). spec.var_decls first_one n r vs) h ∙ known

-- ---- values

pub left_is : (name number : ℕ) (k : VarStand) (f : Found) (r : Part) → r ≡ path_part first_one name name false f → f ≡ spec.left_found number k → r ≡ spec.left_side first_one name number k
left_is name number k f r h e = h ∙ ap (λ (f : Found). path_part first_one name name false f) e

pub init_is : (m n : Space) (x y : Part) (i : VarInitTree) (r : One) → r ≡ spec.initialized first_one m x i → m ≡ n → x ≡ y → r ≡ spec.initialized first_one n y i
init_is m n x y i r h e f = h ∙ ap (λ (m : Space). spec.initialized first_one m x i) e ∙ ap (λ (x : Part). spec.initialized first_one n x i) f

pub next_stmt : (ss : Many) (s t : One) (r : Many) → r ≡ and_stmt first_one ss s → s ≡ t → r ≡ and_stmt first_one ss t
next_stmt ss s t r h e = h ∙ ap (λ (s : One). and_stmt first_one ss s) e

pub value_is : (m n : Space) (ss : Many) (name number : ℕ) (k : VarStand) (i : Option VarInitTree) (r : Many)
    → r ≡ spec.and_value first_one m ss name number k i → m ≡ n → r ≡ spec.and_value first_one n ss name number k i
value_is m n ss name number k i r h e = h ∙ ap (λ (m : Space). spec.and_value first_one m ss name number k i) e

pub valued_is : (n : Space) (s : Valued) (k : VarStand) (d : VarDeclaratorTree) (q : List ℕ) (number : ℕ) (vs : List VarName) (ss : Many)
    → q ≡ n.text d.name → number ≡ length s.vars → vs ≡ spec.and_var_name s.vars q k → ss ≡ spec.and_value first_one (stmt_space n vs) s.stmts d.name number k d.init
    → (let r : Valued = record { vars = vs; stmts = ss } in r) ≡ spec.valued first_one n s k d
valued_is n s k d q number vs ss is_q is_number is_vs is_ss = rw (is_ss, is_vs, is_number, is_q) refl

pub valued_more : (n : Space) (k : VarStand) (s r whole : Valued) (d : VarDeclaratorTree) (ds : List VarDeclaratorTree)
    → r ≡ spec.valued first_one n s k d → spec.all_valued first_one n s k (d ∷ ds) ≡ whole → spec.all_valued first_one n r k ds ≡ whole
valued_more n k s r whole d ds h known = ap (λ (r : Valued). spec.all_valued first_one n r k ds) h ∙ known

-- ---- values of declarations, of each of which it is known what its variables are

there : {A : Type 0} (xs : List A) (i : ℕ) (x : A) → i < length xs → x ≡ get_or xs i x → drop i xs ≡ x ∷ drop (i + 1) xs
there {A = A} xs i x h e = at_drop_more (λ (xs : List A). xs) xs i x h ∙ ap (λ (x : A). x ∷ drop (i + 1) xs) (sym e)

none_known : (n : Space) (s : Valued) (ks : List VarStand) → spec.decls_valued first_one n s ks [] ≡ s
none_known n s [] = refl
none_known n s (k ∷ ks) = refl

pub no_stand : (n : Space) (s : Valued) (ks : List VarStand) (i : ℕ) (v : VarTree) (vs : List VarTree) → length ks ≤ i
    → spec.decls_valued first_one n s (drop (i + 1) ks) vs ≡ spec.decls_valued first_one n s (drop i ks) (v ∷ vs)
no_stand n s ks i v vs h =
    ap (λ (ks : List VarStand). spec.decls_valued first_one n s ks vs) (drop_all (i + 1) ks (omega (arith, h)))
    ∙ sym (ap (λ (ks : List VarStand). spec.decls_valued first_one n s ks (v ∷ vs)) (drop_all i ks h))

pub stand_turn : (n : Space) (s r : Valued) (ks : List VarStand) (i : ℕ) (k : VarStand) (v : VarTree) (ds : List VarDeclaratorTree) (vs : List VarTree)
    → i < length ks → k ≡ get_or ks i k → r ≡ spec.all_valued first_one n s k ds → ds ≡ v.vars
    → spec.decls_valued first_one n r (drop (i + 1) ks) vs ≡ spec.decls_valued first_one n s (drop i ks) (v ∷ vs)
stand_turn n s r ks i k v ds vs h e is_r is_ds =
    ap (λ (r : Valued). spec.decls_valued first_one n r (drop (i + 1) ks) vs) (is_r ∙ ap (spec.all_valued first_one n s k) is_ds)
    ∙ sym (ap (λ (ks : List VarStand). spec.decls_valued first_one n s ks (v ∷ vs)) (there ks i k h e))

pub values_end : (n : Space) (s : Valued) (ks : List VarStand) (ds : List VarDecl) (i : ℕ) (whole : Valued) → length ds ≤ i
    → spec.decls_valued first_one n s ks (map var_tree (drop i ds)) ≡ whole → s ≡ whole
values_end n s ks ds i whole h known =
    sym (ap (λ (ds : List VarDecl). spec.decls_valued first_one n s ks (map var_tree ds)) (drop_all i ds h) ∙ none_known n s ks) ∙ known
