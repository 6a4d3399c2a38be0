-- The passes over variables and statements that keep the first refusal give the first of all that the others give, and the same of everything else.
use Rattle.std.proofs.Common.{◌≡◌, ℕ, Bool, true, false, List, [], ◌∷◌, ◌++◌, Option, None, Some, length, refl, ap, ◌∙◌}
use Rattle.svr_tree.specs.ExprTree.{ExprTree}
use Rattle.svr_tree.specs.DeclTree as decl
use Rattle.svr_tree.specs.DeclTree.{PackedRangeTree, IntegerTypeTree, DataTypeTree, VarInitTree, VarDeclaratorTree, VarTree}
use Rattle.svr_tree.specs.StmtTree.{StmtTree}
use Rattle.svr_tree.specs.ScriptTree.{UnitTree}
use Rattle.svr_elab_fault.specs.declared.Fault.{Fault}
use Rattle.svr_elab_fault.specs.Refusals.{all, first_one, least}
use Rattle.svr_elab_fault.proofs.Least.{least_append, least_when}
use Rattle.svr_elab_names.specs.declared.VarStand.{VarStand}
use Rattle.svr_elab_names.specs.Names.{Space, VarName}
use Rattle.svr_elab_part.specs.Elab.{Elab, elab}
use Rattle.svr_elab_form.specs.Gathered.{shown}
use Rattle.svr_elab_form.proofs.Shown.{elab_shown, path_shown}
use Rattle.svr_elab_type.specs.Types.{Constant, TypeElab, constant_at, range_type, packed_type, integer_type, bits_type, is_signed}
use Rattle.svr_elab_decl.specs.Properties.{Used, UsedElab, data_type, named_type, numbers_use}
use Rattle.svr_elab_stmt.specs.Stmts.{StmtElab, StmtsElab, with_made, given, and_stmt, stmt}
use Rattle.svr_elab_list.specs.Gathered.{shown_stmt, shown_stmts, shown_constant}
use Rattle.svr_elab_list.proofs.Shown.{constant_at_shown, given_shown, made_shown, stmt_shown, and_stmt_shown}
use Rattle.svr_elab_unit.specs.Vars as vars
use Rattle.svr_elab_unit.specs.Vars.{VarsElab, ValuedElab, stmt_space, stand_of, and_var_name}
use Rattle.svr_elab_unit.specs.Run as run
use Rattle.svr_elab_unit.specs.Gathered.{shown_type, shown_used, shown_vars, shown_valued, KeepsTheFirstOfVars, KeepsTheFirstOfStmts}

-- ---- types as they are used

range_shown : (at : ℕ) (s : Bool) (b : ℕ) (m l : Constant (List Fault)) → shown_type (range_type all at s b m l) ≡ range_type first_one at s b (shown_constant m) (shown_constant l)
range_shown at s b m l = simp (least_append, least_when) refl

packed_shown : (n : Space) (at : ℕ) (s : Bool) (r : PackedRangeTree) → shown_type (packed_type all n at s r) ≡ packed_type first_one n at s r
packed_shown n at s r =
    range_shown at s r.at (constant_at all n r.msb) (constant_at all n r.lsb)
    ∙ ap (λ (u : Constant (Option Fault)). range_type first_one at s r.at u (shown_constant (constant_at all n r.lsb))) (constant_at_shown n r.msb)
    ∙ ap (λ (u : Constant (Option Fault)). range_type first_one at s r.at (constant_at first_one n r.msb) u) (constant_at_shown n r.lsb)

integer_shown : (n : Space) (t : IntegerTypeTree) → shown_type (integer_type all n t) ≡ integer_type first_one n t
integer_shown n (decl.vector at kind s None) = refl
integer_shown n (decl.vector at kind s (Some r)) = packed_shown n at (is_signed false s) r
integer_shown n (decl.atom at kind s) = refl

data_type_shown : (n : Space) (t : DataTypeTree) → shown_used (data_type all n t) ≡ data_type first_one n t
data_type_shown n (decl.integer t) = ap (numbers_use first_one) (integer_shown n t)
data_type_shown n (decl.named name) = simp least_when refl

-- ---- variables

and_var_shown : (s : VarsElab (List Fault)) (name : ℕ) (q : List ℕ) (k : VarStand) → shown_vars (vars.and_var all s name q k) ≡ vars.and_var first_one (shown_vars s) name q k
and_var_shown s name q k = simp (least_append, least_when) refl

and_vars_shown : (text : ℕ → List ℕ) (s : VarsElab (List Fault)) (k : VarStand) (ds : List VarDeclaratorTree)
    → shown_vars (vars.and_vars all text s k ds) ≡ vars.and_vars first_one text (shown_vars s) k ds
and_vars_shown text s k [] = refl
and_vars_shown text s k (d ∷ ds) =
    and_vars_shown text (vars.and_var all s d.name (text d.name) k) k ds
    ∙ ap (λ (u : VarsElab (Option Fault)). vars.and_vars first_one text u k ds) (and_var_shown s d.name (text d.name) k)

and_type_shown : (s : VarsElab (List Fault)) (u : UsedElab (List Fault)) → shown_vars (vars.and_type all s u) ≡ vars.and_type first_one (shown_vars s) (shown_used u)
and_type_shown s u = simp least_append refl

abbrev declared : (ℕ → List ℕ) → VarsElab (Option Fault) → UsedElab (Option Fault) → List VarDeclaratorTree → VarsElab (Option Fault)
declared text s u ds = vars.and_vars first_one text (vars.and_type first_one s u) (stand_of u.used) ds

var_decl_shown : (n : Space) (s : VarsElab (List Fault)) (v : VarTree) → shown_vars (vars.var_decl all n s v) ≡ vars.var_decl first_one n (shown_vars s) v
var_decl_shown n s v =
    let u : UsedElab (List Fault) = data_type all (stmt_space n s.vars) v.kind in
    and_vars_shown n.text (vars.and_type all s u) (stand_of u.used) v.vars
    ∙ ap (λ (x : VarsElab (Option Fault)). vars.and_vars first_one n.text x (stand_of u.used) v.vars) (and_type_shown s u)
    ∙ ap (λ (x : UsedElab (Option Fault)). declared n.text (shown_vars s) x v.vars) (data_type_shown (stmt_space n s.vars) v.kind)

var_decls_shown : (n : Space) (s : VarsElab (List Fault)) (vs : List VarTree) → shown_vars (vars.var_decls all n s vs) ≡ vars.var_decls first_one n (shown_vars s) vs
var_decls_shown n s [] = refl
var_decls_shown n s (v ∷ vs) =
    var_decls_shown n (vars.var_decl all n s v) vs ∙ ap (λ (u : VarsElab (Option Fault)). vars.var_decls first_one n u vs) (var_decl_shown n s v)

pub kept_vars : KeepsTheFirstOfVars
kept_vars n vs = var_decls_shown n (vars.no_vars all) vs

-- ---- values

left_shown : (name number : ℕ) (k : VarStand) → shown (vars.left_side all name number k) ≡ vars.left_side first_one name number k
left_shown name number k = path_shown name name false (vars.left_found number k)

initialized_shown : (n : Space) (x : Elab (List Fault)) (i : VarInitTree) → shown_stmt (vars.initialized all n x i) ≡ vars.initialized first_one n (shown x) i
initialized_shown n x (decl.value e) = given_shown x (elab all n e) ∙ ap (given first_one (shown x)) (elab_shown n e)
initialized_shown n x (decl.new parens) = made_shown x

and_value_shown : (n : Space) (ss : StmtsElab (List Fault)) (name number : ℕ) (k : VarStand) (i : Option VarInitTree)
    → shown_stmts (vars.and_value all n ss name number k i) ≡ vars.and_value first_one n (shown_stmts ss) name number k i
and_value_shown n ss name number k None = refl
and_value_shown n ss name number k (Some i) =
    and_stmt_shown ss (vars.initialized all (with_made n ss.made) (vars.left_side all name number k) i)
    ∙ ap (and_stmt first_one (shown_stmts ss))
    (initialized_shown (with_made n ss.made) (vars.left_side all name number k) i
    ∙ ap (λ (x : Elab (Option Fault)). vars.initialized first_one (with_made n ss.made) x i) (left_shown name number k))

abbrev behind : List VarName → StmtsElab (Option Fault) → ValuedElab (Option Fault)
behind vs ss = record { vars = vs; stmts = ss }

valued_shown : (n : Space) (s : ValuedElab (List Fault)) (k : VarStand) (d : VarDeclaratorTree) → shown_valued (vars.valued all n s k d) ≡ vars.valued first_one n (shown_valued s) k d
valued_shown n s k d =
    let vs : List VarName = and_var_name s.vars (n.text d.name) k in
    ap (behind vs) (and_value_shown (stmt_space n vs) s.stmts d.name (length s.vars) k d.init)

all_valued_shown : (n : Space) (s : ValuedElab (List Fault)) (k : VarStand) (ds : List VarDeclaratorTree)
    → shown_valued (vars.all_valued all n s k ds) ≡ vars.all_valued first_one n (shown_valued s) k ds
all_valued_shown n s k [] = refl
all_valued_shown n s k (d ∷ ds) =
    all_valued_shown n (vars.valued all n s k d) k ds ∙ ap (λ (u : ValuedElab (Option Fault)). vars.all_valued first_one n u k ds) (valued_shown n s k d)

decls_valued_shown : (n : Space) (s : ValuedElab (List Fault)) (ks : List VarStand) (vs : List VarTree)
    → shown_valued (vars.decls_valued all n s ks vs) ≡ vars.decls_valued first_one n (shown_valued s) ks vs
decls_valued_shown n s [] vs = refl
decls_valued_shown n s (k ∷ ks) [] = refl
decls_valued_shown n s (k ∷ ks) (v ∷ vs) =
    decls_valued_shown n (vars.all_valued all n s k v.vars) ks vs ∙ ap (λ (u : ValuedElab (Option Fault)). vars.decls_valued first_one n u ks vs) (all_valued_shown n s k v.vars)

-- ---- the initial block

limit_shown : (at before : ℕ) (s : StmtElab (List Fault)) → shown_stmt (run.with_limit all at before s) ≡ run.with_limit first_one at before (shown_stmt s)
limit_shown at before s = simp (least_append, least_when) refl

top_shown : (ss : StmtsElab (List Fault)) (at : ℕ) (s : StmtElab (List Fault)) → shown_stmts (run.and_top all ss at s) ≡ run.and_top first_one (shown_stmts ss) at (shown_stmt s)
top_shown ss at s = and_stmt_shown ss (run.with_limit all at ss.count s) ∙ ap (and_stmt first_one (shown_stmts ss)) (limit_shown at ss.count s)

tops_shown : (n : Space) (ss : StmtsElab (List Fault)) (rest : List StmtTree) → shown_stmts (run.tops all n ss rest) ≡ run.tops first_one n (shown_stmts ss) rest
tops_shown n ss [] = refl
tops_shown n ss (s ∷ rest) =
    tops_shown n (run.and_top all ss (run.stmt_start s) (stmt all (with_made n ss.made) s)) rest
    ∙ ap (λ (u : StmtsElab (Option Fault)). run.tops first_one n u rest)
    (top_shown ss (run.stmt_start s) (stmt all (with_made n ss.made) s) ∙ ap (run.and_top first_one (shown_stmts ss) (run.stmt_start s)) (stmt_shown (with_made n ss.made) s))

pub kept_stmts : KeepsTheFirstOfStmts
kept_stmts n ks u =
    tops_shown n (vars.decls_valued all n (vars.no_values all []) ks (u.outer ++ u.inner)).stmts u.stmts
    ∙ ap (λ (v : ValuedElab (Option Fault)). run.tops first_one n v.stmts u.stmts) (decls_valued_shown n (vars.no_values all []) ks (u.outer ++ u.inner))
