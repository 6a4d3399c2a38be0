-- No more statements of a design run than are counted.
use Rattle.std.proofs.Common.{◌≡◌, ℕ, zero, suc, ◌+◌, ◌*◌, ◌≤◌, ℤ, Bool, true, false, if◌then◌else◌, List, [], ◌∷◌, ◌++◌, length, Option, None, Some, option_map, refl, sym, ap, subst, ◌∙◌, mul-le-mul, arith}
use Rattle.std.specs.Prelude.{⊤, MatchOption}
use Rattle.std.proofs.lemmas.Bool.Decides.{nat_tests}
use Rattle.svr_typed.specs.declared.CallList.{CallList}
use Rattle.svr_typed.specs.ExprTerm.{ExprTerm, exprs_of}
use Rattle.svr_typed.specs.ItemTerm.{ItemTerm}
use Rattle.svr_typed.specs.StmtTerm as stmt_term
use Rattle.svr_typed.specs.StmtTerm.{StmtTerm, DesignTerm}
use Rattle.svr_tree.specs.declared.RandomizeArgs.{RandomizeArgs}
use Rattle.svr_tree.specs.declared.ModeKind.{ModeKind}
use Rattle.svr_tree.specs.declared.ModeKind.TheVariants as mode_kind
use Rattle.svr_tree.specs.DeclTree as decl
use Rattle.svr_tree.specs.DeclTree.{VarTree, VarDeclaratorTree, VarInitTree}
use Rattle.svr_tree.specs.ItemTree.{ItemTrees}
use Rattle.svr_tree.specs.StmtTree as tree
use Rattle.svr_tree.specs.StmtTree.{StmtTree, StmtTrees, RightTree, RandomizeTree}
use Rattle.svr_refusal.specs.declared.Refusal.TheVariants as refusal
use Rattle.svr_design.specs.Statements.{runs, all_run}
use Rattle.svr_elab_fault.specs.declared.Fault.{Fault}
use Rattle.svr_elab_fault.specs.Refusals.{first_one}
use Rattle.svr_elab_names.specs.declared.VarStand.{VarStand}
use Rattle.svr_elab_names.specs.Names.{Space, VarName, is_name}
use Rattle.svr_elab_part.specs.Elab.{Elab, elab, plain, value}
use Rattle.svr_elab_part.specs.Shapes.{both_known, and_more, count_of}
use Rattle.svr_elab_part.proofs.Valued.{none_left, none_right, not_when}
use Rattle.svr_elab_type.specs.Types.{Constant, constant_at, elements}
use Rattle.svr_elab_target.specs.declared.target.Target.{Target}
use Rattle.svr_elab_target.specs.declared.target.Target.TheVariants as target
use Rattle.svr_elab_target.specs.Targets as targets
use Rattle.svr_elab_target.specs.Targets.{target_of}
use Rattle.svr_elab_target.specs.Named.{ObjectPath, object_path, with_made}
use Rattle.svr_elab_stmt.specs.Stmts as spec
use Rattle.svr_elab_stmt.specs.Stmts.{StmtElab, StmtsElab, ValuesElab, capped, times}
use Rattle.svr_elab_unit.specs.Vars as vars
use Rattle.svr_elab_unit.specs.Vars.{VarsElab, ValuedElab}
use Rattle.svr_elab_unit.specs.Fits.{declared_in}
use Rattle.svr_elab_unit.specs.Run as run
use Rattle.svr_elab_lawful_laws.specs.Lawful.{StatementsAreFew}
use Rattle.svr_elab_lawful_laws.proofs.Enums.{length_last}
use Rattle.svr_elab_lawful_laws.proofs.Vars.{objects_of, others_of, together}
use Rattle.svr_elab_lawful_laws.proofs.Whole.{the_heads, the_vars, the_space, the_stmts, IsClear, script_clear, of_design}
use Rattle.svr_elab_lawful_laws.proofs.Declarations.{the_vars_are, some_same}

-- ---- statements that run once

abbrev RunsOnce : Option StmtTerm → Type 0
RunsOnce t = MatchOption t ⊤ (λ t. runs t ≡ 1)

map_once : {A : Type 0} (f : A → StmtTerm) (h : (x : A) → runs (f x) ≡ 1) (x : Option A) → RunsOnce (option_map f x)
map_once f h None = tt
map_once f h (Some x) = h x

both_once : {A B : Type 0} (f : A → B → StmtTerm) (h : (x : A) (y : B) → runs (f x y) ≡ 1) (x : Option A) (y : Option B) → RunsOnce (both_known f x y)
both_once f h None y = tt
both_once f h (Some x) None = tt
both_once f h (Some x) (Some y) = h x y

set_once : (t : Target) (x e : Option ExprTerm) → RunsOnce (spec.set_tree t x e)
set_once target.Nothing x e = tt
set_once (target.Object o) x e = tt
set_once (target.Variable v) x e = map_once (stmt_term.set_var v) (λ e. refl) e
set_once (target.Place o p) x e = both_once (spec.set_property o p.number) (λ x e. refl) x e
set_once (target.Array o p) x e = tt

make_once : (t : Target) → RunsOnce (spec.make_tree t)
make_once target.Nothing = tt
make_once (target.Object o) = refl
make_once (target.Variable v) = tt
make_once (target.Place o p) = tt
make_once (target.Array o p) = tt

resize_once : (t : Target) (c : Option ℤ) → RunsOnce (spec.resize_tree t c)
resize_once target.Nothing c = tt
resize_once (target.Object o) c = tt
resize_once (target.Variable v) c = tt
resize_once (target.Place o p) c = tt
resize_once (target.Array o p) c = map_once (λ c. stmt_term.resize o p.number (elements c)) (λ c. refl) c

pattern_once : (t : Target) (vs : Option (List ExprTerm)) → RunsOnce (spec.pattern_tree t vs)
pattern_once target.Nothing vs = tt
pattern_once (target.Object o) vs = tt
pattern_once (target.Variable v) vs = tt
pattern_once (target.Place o p) vs = tt
pattern_once (target.Array o p) vs = map_once (λ (vs : List ExprTerm). stmt_term.pattern o p.number (exprs_of vs)) (λ vs. refl) vs

call_once : (o : ℕ) (l : CallList) (answer : Option ℕ) (is : Option (List ItemTerm)) → RunsOnce (spec.call_tree o l answer is)
call_once o l answer None = tt
call_once o l answer (Some is) = refl

mode_once : (k : ModeKind) (o : ℕ) (m : Option ℕ) (t : Option ExprTerm) → RunsOnce (option_map (spec.mode_term k o m) t)
mode_once mode_kind.Rand o m t = map_once (spec.mode_term mode_kind.Rand o m) (λ t. refl) t
mode_once mode_kind.Constraint o m t = map_once (spec.mode_term mode_kind.Constraint o m) (λ t. refl) t

-- ---- counts that are not over the limit

abbrev Counted : StmtElab (Option Fault) → Type 0
Counted s = s.count ≤ 100000 → MatchOption s.tree ⊤ (λ t. runs t ≤ s.count)

abbrev AllCounted : StmtsElab (Option Fault) → Type 0
AllCounted ss = ss.count ≤ 100000 → MatchOption ss.trees ⊤ (λ ts. all_run (stmt_term.stmts_of ts) ≤ ss.count)

match_to : {A : Type 0} (P Q : A → Type 0) (f : (x : A) → P x → Q x) (x : Option A) → MatchOption x ⊤ P → MatchOption x ⊤ Q
match_to P Q f None h = tt
match_to P Q f (Some x) h = f x h

once : (t : Option StmtTerm) → RunsOnce t → MatchOption t ⊤ (λ t. runs t ≤ 1)
once t h = match_to (λ t. runs t ≡ 1) (λ t. runs t ≤ 1) (λ t e. (let n : runs t ≡ 1 = e in omega (arith, n))) t h

below_cap : (n : ℕ) → capped n ≤ 100000 → capped n ≡ n
below_cap n h = omega (arith, h)

elements_few : (z : ℤ) → elements z ≤ count_of z
elements_few z = omega arith

product_few : (a b c d : ℕ) → a ≤ b → c ≤ d → a * c ≤ b * d
product_few a b c d h k = mul-le-mul h k

repeated_few : (b n r m : ℕ) → n ≤ b → (1 ≤ b → r ≤ m) → 1 + n * r ≤ 1 + b * m
repeated_few zero n r m h k = let e : n ≡ 0 = omega (arith, h) in subst (λ n. 1 + n * r ≤ 1 + 0 * m) (sym e) (nothing r m)
  where
    nothing : (r m : ℕ) → 1 + 0 * r ≤ 1 + 0 * m
    nothing r m = omega arith
repeated_few (suc b) n r m h k = let p : n * r ≤ suc b * m = product_few n (suc b) r m h (k (omega arith)) in omega (arith, p)

part_few : (b m : ℕ) → 1 + b * m ≤ 100000 → 1 ≤ b → m ≤ 100000
part_few zero m h k = absurd (omega (arith, k))
part_few (suc b) m h k = let p : 1 * m ≤ suc b * m = product_few 1 (suc b) m m (omega arith) (omega arith) in omega (arith, p, h)

repeat_counted : (c : Option ℤ) (t : Option StmtTerm) (m : ℕ) → (m ≤ 100000 → MatchOption t ⊤ (λ t. runs t ≤ m)) → 1 + times c * m ≤ 100000 → MatchOption (spec.repeat_tree c t) ⊤ (λ t. runs t ≤ 1 + times c * m)
repeat_counted None t m h k = tt
repeat_counted (Some z) None m h k = tt
repeat_counted (Some z) (Some t) m h k = repeated_few (count_of z) (elements z) (runs t) m (elements_few z) (λ some. h (part_few (count_of z) m k some))

list_counted : (ts : Option (List StmtTerm)) (m : ℕ) → MatchOption ts ⊤ (λ ts. all_run (stmt_term.stmts_of ts) ≤ m) → MatchOption (spec.list_tree ts) ⊤ (λ t. runs t ≤ 1 + m)
list_counted None m h = tt
list_counted (Some ts) m h = grown (all_run (stmt_term.stmts_of ts)) m h
  where
    grown : (a m : ℕ) → a ≤ m → 1 + a ≤ 1 + m
    grown a m h = omega (arith, h)

all_run_last : (ts : List StmtTerm) (t : StmtTerm) → all_run (stmt_term.stmts_of (ts ++ t ∷ [])) ≡ all_run (stmt_term.stmts_of ts) + runs t
all_run_last [] t = let e : runs t + 0 ≡ 0 + runs t = omega arith in e
all_run_last (u ∷ ts) t =
    ap (λ n. runs u + n) (all_run_last ts t) ∙ moved (runs u) (all_run (stmt_term.stmts_of ts)) (runs t)
  where
    moved : (a b c : ℕ) → a + (b + c) ≡ (a + b) + c
    moved a b c = omega arith

more_counted : (ts : Option (List StmtTerm)) (t : Option StmtTerm) (a b : ℕ) → MatchOption ts ⊤ (λ ts. all_run (stmt_term.stmts_of ts) ≤ a) → MatchOption t ⊤ (λ t. runs t ≤ b)
    → MatchOption (and_more ts t) ⊤ (λ ts. all_run (stmt_term.stmts_of ts) ≤ a + b)
more_counted None t a b h k = tt
more_counted (Some ts) None a b h k = tt
more_counted (Some ts) (Some t) a b h k = subst (λ n. n ≤ a + b) (sym (all_run_last ts t)) (sum (all_run (stmt_term.stmts_of ts)) (runs t) a b h k)
  where
    sum : (x y a b : ℕ) → x ≤ a → y ≤ b → x + y ≤ a + b
    sum x y a b h k = omega (arith, h, k)

first_few : (a b : ℕ) → a + b ≤ 100000 → a ≤ 100000
first_few a b h = omega (arith, h)

second_few : (a b : ℕ) → a + b ≤ 100000 → b ≤ 100000
second_few a b h = omega (arith, h)

and_counted : (ss : StmtsElab (Option Fault)) (s : StmtElab (Option Fault)) → AllCounted ss → Counted s → AllCounted (spec.and_stmt first_one ss s)
and_counted ss s h k few =
    let e : capped (ss.count + s.count) ≡ ss.count + s.count = below_cap (ss.count + s.count) few in
    let sum : ss.count + s.count ≤ 100000 = subst (λ n. n ≤ 100000) e few in
    subst (λ n. MatchOption (and_more ss.trees s.tree) ⊤ (λ ts. all_run (stmt_term.stmts_of ts) ≤ n)) (sym e)
    (more_counted ss.trees s.tree ss.count s.count (h (first_few ss.count s.count sum)) (k (second_few ss.count s.count sum)))

-- ---- statements

given_counted : (x v : Elab (Option Fault)) → Counted (spec.given first_one x v)
given_counted x v = either (targets.is_object (target_of v.form))
  where
    either : (b : Bool) → Counted (if b then spec.copied first_one x v else spec.assigned first_one x (plain first_one v))
    either true = λ h. tt
    either false = λ h. once (spec.set_tree (target_of x.form) x.tree v.tree) (set_once (target_of x.form) x.tree v.tree)

call_counted : (n : Space) (p : ObjectPath) (answer : Option ℕ) (a : RandomizeArgs) (is : Option ItemTrees) (o : Option (ℕ × ℕ)) → Counted (spec.call_of first_one n p answer a is o)
call_counted n p answer a is None = λ h. tt
call_counted n p answer a is (Some x) = λ h. once _ (call_once x.0 _ answer (spec.in_line_items first_one n x.1 is).trees)

mode_counted : (n : Space) (p : ObjectPath) (k : ModeKind) (on : Elab (Option Fault)) (o : Option (ℕ × ℕ)) → Counted (spec.mode_of first_one n p k on o)
mode_counted n p k on None = λ h. tt
mode_counted n p k on (Some x) = λ h. once _ (mode_once k x.0 _ on.tree)

made_counted : (x : Elab (Option Fault)) → Counted (spec.made_new first_one x)
made_counted x = λ h. once (spec.make_tree (target_of x.form)) (make_once (target_of x.form))

right_counted : (n : Space) (x : Elab (Option Fault)) (r : RightTree) → Counted (spec.assignment first_one n x r)
right_counted n x (tree.value e) = given_counted x (elab first_one n e)
right_counted n x (tree.new parens) = made_counted x
right_counted n x (tree.new_array e) = λ h. once (spec.resize_tree (target_of x.form) (constant_at first_one n e).number) (resize_once (target_of x.form) (constant_at first_one n e).number)
right_counted n x (tree.pattern at vs) = λ h. once _ (pattern_once (target_of x.form) (spec.values first_one n x.form.members (spec.no_values first_one) vs).trees)
right_counted n x (tree.answer c) = call_counted n (object_path n c.path) (targets.answer_number (target_of x.form)) c.args c.items (object_path n c.path).object

none_run : 0 ≤ 0
none_run = omega arith

mutual
  stmt_counted : (n : Space) (s : StmtTree) → Counted (spec.stmt first_one n s)
  stmt_counted n (tree.empty at) = λ h. (let e : 1 + 0 ≤ 1 = omega arith in e)
  stmt_counted n (tree.block at ss) =
      let t : StmtsElab (Option Fault) = spec.stmts first_one n (spec.no_stmts first_one n.made) ss in
      λ h. let e : capped (1 + t.count) ≡ 1 + t.count = below_cap (1 + t.count) h in
      let few : t.count ≤ 100000 = second_few 1 t.count (subst (λ n. n ≤ 100000) e h) in
      subst (λ n. MatchOption (spec.list_tree t.trees) ⊤ (λ t. runs t ≤ n)) (sym e) (list_counted t.trees t.count (stmts_counted n ss (spec.no_stmts first_one n.made) (λ k. none_run) few))
  stmt_counted n (tree.repeat at e s) =
      let c : Constant (Option Fault) = constant_at first_one n e in
      let t : StmtElab (Option Fault) = spec.stmt first_one n s in
      λ h. let e : capped (1 + times c.number * t.count) ≡ 1 + times c.number * t.count = below_cap (1 + times c.number * t.count) h in
      subst (λ n. MatchOption (spec.repeat_tree c.number t.tree) ⊤ (λ t. runs t ≤ n)) (sym e) (repeat_counted c.number t.tree t.count (stmt_counted n s) (subst (λ n. n ≤ 100000) e h))
  stmt_counted n (tree.assign at x r) = right_counted n (elab first_one n x) r
  stmt_counted n (tree.call at form c) = call_counted n (object_path n c.path) None c.args c.items (object_path n c.path).object
  stmt_counted n (tree.mode at m) = mode_counted n (object_path n m.path) m.kind (value first_one n m.on) (object_path n m.path).object

  stmts_counted : (n : Space) (ss : StmtTrees) (t : StmtsElab (Option Fault)) → AllCounted t → AllCounted (spec.stmts first_one n t ss)
  stmts_counted n tree.no_stmts t h = h
  stmts_counted n (tree.more_stmts s ss) t h = stmts_counted n ss (spec.and_stmt first_one t (spec.stmt first_one (with_made n t.made) s)) (and_counted t (spec.stmt first_one (with_made n t.made) s) h (stmt_counted (with_made n t.made) s))

-- ---- the values of variables

-- at most so many, of which each is a statement
record Values (m : ℕ) (t : StmtsElab (Option Fault)) : Type 0 where
  pub few : t.count ≤ m
  pub all : AllCounted t

init_counted : (n : Space) (x : Elab (Option Fault)) (i : VarInitTree) → Counted (vars.initialized first_one n x i)
init_counted n x (decl.value e) = given_counted x (elab first_one n e)
init_counted n x (decl.new parens) = made_counted x

init_once : (n : Space) (x : Elab (Option Fault)) (i : VarInitTree) → (vars.initialized first_one n x i).count ≡ 1
init_once n x (decl.value e) = either (targets.is_object (target_of (elab first_one n e).form))
  where
    either : (b : Bool) → (if b then spec.copied first_one x (elab first_one n e) else spec.assigned first_one x (plain first_one (elab first_one n e))).count ≡ 1
    either true = refl
    either false = refl
init_once n x (decl.new parens) = refl

value_counted : (n : Space) (t : StmtsElab (Option Fault)) (name number : ℕ) (k : VarStand) (i : Option VarInitTree) (m : ℕ) → Values m t → Values (suc m) (vars.and_value first_one n t name number k i)
value_counted n t name number k None m h = record { few = up t.count m h.few; all = h.all }
  where
    up : (a m : ℕ) → a ≤ m → a ≤ suc m
    up a m h = omega (arith, h)
value_counted n t name number k (Some i) m h =
    let x : Elab (Option Fault) = vars.left_side first_one name number k in
    let s : StmtElab (Option Fault) = vars.initialized first_one (with_made n t.made) x i in
    record {
      few = capped_few t.count s.count m h.few (init_once (with_made n t.made) x i);
      all = and_counted t s h.all (init_counted (with_made n t.made) x i);
    }
  where
    capped_few : (a b m : ℕ) → a ≤ m → b ≡ 1 → capped (a + b) ≤ suc m
    capped_few a b m h e = omega (arith, h, e)

all_values_counted : (n : Space) (s : ValuedElab (Option Fault)) (k : VarStand) (ds : List VarDeclaratorTree) (m : ℕ) → Values m s.stmts → Values (m + length ds) (vars.all_valued first_one n s k ds).stmts
all_values_counted n s k [] m h = let e : m ≡ m + 0 = omega arith in subst (λ m. Values m s.stmts) e h
all_values_counted n s k (d ∷ ds) m h =
    let next : ValuedElab (Option Fault) = vars.valued first_one n s k d in
    let more : Values (suc m) next.stmts = value_counted (vars.stmt_space n next.vars) s.stmts d.name (length s.vars) k d.init m h in
    subst (λ j. Values j (vars.all_valued first_one n s k (d ∷ ds)).stmts) (moved m (length ds)) (all_values_counted n next k ds (suc m) more)
  where
    moved : (m k : ℕ) → suc m + k ≡ m + suc k
    moved m k = omega arith

values_up : (m j : ℕ) (t : StmtsElab (Option Fault)) → Values m t → Values (m + j) t
values_up m j t h = record { few = up t.count m j h.few; all = h.all }
  where
    up : (a m j : ℕ) → a ≤ m → a ≤ m + j
    up a m j h = omega (arith, h)

decls_counted : (n : Space) (s : ValuedElab (Option Fault)) (ks : List VarStand) (vs : List VarTree) (m : ℕ) → Values m s.stmts → Values (m + declared_in vs) (vars.decls_valued first_one n s ks vs).stmts
decls_counted n s [] vs m h = values_up m (declared_in vs) s.stmts h
decls_counted n s (k ∷ ks) [] m h = values_up m 0 s.stmts h
decls_counted n s (k ∷ ks) (v ∷ vs) m h =
    let next : ValuedElab (Option Fault) = vars.all_valued first_one n s k v.vars in
    subst (λ j. Values j (vars.decls_valued first_one n next ks vs).stmts) (moved m (length v.vars) (declared_in vs)) (decls_counted n next ks vs (m + length v.vars) (all_values_counted n s k v.vars m h))
  where
    moved : (m a b : ℕ) → (m + a) + b ≡ m + (a + b)
    moved m a b = omega arith

-- ---- as many variables as are declared

one_var_counted : (s : VarsElab (Option Fault)) (name : ℕ) (q : List ℕ) (k : VarStand) → (vars.and_var first_one s name q k).faults ≡ None → length (vars.and_var first_one s name q k).vars ≡ suc (length s.vars)
one_var_counted s name q k f =
    let x : VarName = record { name = q; stands = k } in
    let new : is_name (λ (v : VarName). v.name) q s.vars ≡ false =
    not_when (is_name (λ (v : VarName). v.name) q s.vars) name refusal.DoubleName (none_left _ _ (none_right s.faults (vars.name_faults first_one s.vars (vars.of_sort (vars.is_object_stand k) s.objects s.others) name q) f)) in
    ap (λ (b : Bool). length (if b then s.vars else s.vars ++ x ∷ [])) new ∙ length_last s.vars x

and_vars_clear : (text : ℕ → List ℕ) (s : VarsElab (Option Fault)) (k : VarStand) (ds : List VarDeclaratorTree) → (vars.and_vars first_one text s k ds).faults ≡ None → s.faults ≡ None
and_vars_clear text s k [] f = f
and_vars_clear text s k (d ∷ ds) f = none_left _ _ (and_vars_clear text (vars.and_var first_one s d.name (text d.name) k) k ds f)

and_vars_counted : (text : ℕ → List ℕ) (s : VarsElab (Option Fault)) (k : VarStand) (ds : List VarDeclaratorTree) → (vars.and_vars first_one text s k ds).faults ≡ None → length (vars.and_vars first_one text s k ds).vars ≡ length s.vars + length ds
and_vars_counted text s k [] f = let e : length s.vars ≡ length s.vars + 0 = omega arith in e
and_vars_counted text s k (d ∷ ds) f =
    let t : VarsElab (Option Fault) = vars.and_var first_one s d.name (text d.name) k in
    and_vars_counted text t k ds f ∙ one_more (length s.vars) (length t.vars) (length ds) (one_var_counted s d.name (text d.name) k (and_vars_clear text t k ds f))
  where
    one_more : (a b c : ℕ) → b ≡ suc a → b + c ≡ a + suc c
    one_more a b c e = omega (arith, e)

decls_clear : (n : Space) (s : VarsElab (Option Fault)) (vs : List VarTree) → (vars.var_decls first_one n s vs).faults ≡ None → s.faults ≡ None
decls_clear n s [] f = f
decls_clear n s (v ∷ vs) f = none_left _ _ (and_vars_clear n.text _ _ v.vars (decls_clear n (vars.var_decl first_one n s v) vs f))

vars_counted : (n : Space) (s : VarsElab (Option Fault)) (vs : List VarTree) → (vars.var_decls first_one n s vs).faults ≡ None → length (vars.var_decls first_one n s vs).vars ≡ length s.vars + declared_in vs
vars_counted n s [] f = let e : length s.vars ≡ length s.vars + 0 = omega arith in e
vars_counted n s (v ∷ vs) f =
    let t : VarsElab (Option Fault) = vars.var_decl first_one n s v in
    vars_counted n t vs f ∙ moved (length s.vars) (length t.vars) (length v.vars) (declared_in vs) (and_vars_counted n.text _ _ v.vars (decls_clear n t vs f))
  where
    moved : (a b c d : ℕ) → b ≡ a + c → b + d ≡ a + (c + d)
    moved a b c d e = omega (arith, e)

-- ---- the initial block

record Tops (t : StmtsElab (Option Fault)) : Type 0 where
  pub few : t.count ≤ 100000
  pub all : AllCounted t

within_limit : (a b : ℕ) → a ≤ 100000 → run.passes_limit a b ≡ false → a + b ≤ 100000
within_limit a b h f = grind (arith, nat_tests, h, f)

tops_counted : (n : Space) (t : StmtsElab (Option Fault)) (ss : List StmtTree) → (t.faults ≡ None → Tops t) → (run.tops first_one n t ss).faults ≡ None → Tops (run.tops first_one n t ss)
tops_counted n t [] h f = h f
tops_counted n t (s ∷ ss) h f =
    let one : StmtElab (Option Fault) = spec.stmt first_one (with_made n t.made) s in
    let at : ℕ = run.stmt_start s in
    let limited : StmtElab (Option Fault) = run.with_limit first_one at t.count one in
    tops_counted n (run.and_top first_one t at one) ss
    (λ g.
    let before : Tops t = h (none_left t.faults limited.faults g) in
    let sum : t.count + one.count ≤ 100000 = within_limit t.count one.count before.few (not_when (run.passes_limit t.count one.count) at refusal.TooMany (none_right one.faults _ (none_right t.faults limited.faults g))) in
    record { few = small (t.count + one.count) sum; all = and_counted t limited before.all (stmt_counted (with_made n t.made) s) }) f
  where
    small : (n : ℕ) → n ≤ 100000 → capped n ≤ 100000
    small n h = omega (arith, h)

-- ---- the whole

values_few : (a b n m : ℕ) → a ≤ 4096 → b ≤ 4096 → n ≡ a + b → n ≡ 0 + m → 0 + m ≤ 100000
values_few a b n m h k e f = omega (arith, h, k, e, f)

counted_trees : (ts : Option (List StmtTerm)) (t : List StmtTerm) (n : ℕ) → ts ≡ Some t → n ≤ 100000 → MatchOption ts ⊤ (λ ts. all_run (stmt_term.stmts_of ts) ≤ n) → all_run (stmt_term.stmts_of t) ≤ 100000
counted_trees None t n e h k = absurd (let f : None ≡ Some t = e in cc)
counted_trees (Some u) t n e h k =
    subst (λ (t : List StmtTerm). all_run (stmt_term.stmts_of t) ≤ 100000) (some_same u t e) (below (all_run (stmt_term.stmts_of u)) n k h)
  where
    below : (a n : ℕ) → a ≤ n → n ≤ 100000 → a ≤ 100000
    below a n h k = omega (arith, h, k)

at_most : (a m n : ℕ) → a ≤ m → m ≤ n → a ≤ n
at_most a m n h k = omega (arith, h, k)

pub statements_are_few : StatementsAreFew
statements_are_few text s is f =
    let clear : IsClear text s = script_clear text s f in
    let n : Space = the_space text s in
    let v = the_vars_are text s is clear in
    let all : List VarTree = s.unit.outer ++ s.unit.inner in
    let vs : List VarName = (the_vars text s).vars in
    let many : length vs ≡ 0 + declared_in all = vars_counted (the_heads text s).names (vars.no_vars first_one) all clear.vars in
    let few : 0 + declared_in all ≤ 100000 = values_few (objects_of vs) (others_of vs) (length vs) (declared_in all) v.few_objects v.few_others (together vs) many in
    let values : Values (0 + declared_in all) (vars.decls_valued first_one n (vars.no_values first_one []) (the_vars text s).stands all).stmts =
    decls_counted n (vars.no_values first_one []) (the_vars text s).stands all 0 (record { few = none_run; all = λ h. none_run }) in
    let tops : Tops (the_stmts text s) = tops_counted n _ s.unit.stmts (λ g. record { few = at_most _ _ _ values.few few; all = values.all }) clear.stmts in
    of_design (λ (d : DesignTerm). all_run d.stmts ≤ 100000) text s
    (λ c w t a b e. counted_trees (the_stmts text s).trees t (the_stmts text s).count e tops.few (tops.all tops.few))
