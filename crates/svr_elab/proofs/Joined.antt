-- What is known of a script, put together of what is known of its parts.
use Rattle.std.proofs.Common.{◌≡◌, ℕ, ◌+◌, ◌<◌, ◌≤◌, ◌^◌, List, [], ◌∷◌, ◌++◌, length, map, Option, None, refl, sym, ap, subst, ◌∙◌, arith}
use Rattle.std.proofs.lemmas.List.{length-map}
use Rattle.svr_typed.specs.declared.EnumType.{EnumType}
use Rattle.svr_typed.specs.StmtTerm.{DesignTerm}
use Rattle.svr_tree.specs.declared.Top.{Top}
use Rattle.svr_tree.specs.declared.Stmt.{Stmt}
use Rattle.svr_tree.specs.declared.VarDecl.{VarDecl}
use Rattle.svr_tree.specs.declared.ClassDecl.{ClassDecl}
use Rattle.svr_tree.specs.declared.TypeDecl.{TypeDecl}
use Rattle.svr_tree.specs.DeclTree.{TypeTree, ClassTree, VarTree, type_decl_tree, class_tree, var_tree}
use Rattle.svr_tree.specs.StmtTree.{StmtTrees, stmt_tree, stmt_trees, stmts_of}
use Rattle.svr_tree.specs.ScriptTree.{UnitTree, ScriptTree}
use Rattle.svr_elab_fault.specs.declared.Fault.{Fault}
use Rattle.svr_elab_fault.specs.Refusals.{first_one}
use Rattle.svr_elab_names.specs.declared.ClassNames.{ClassNames}
use Rattle.svr_elab_names.specs.declared.Global.{Global}
use Rattle.svr_elab_names.specs.declared.NameSpace.{NameSpace}
use Rattle.svr_elab_names.specs.declared.VarStand.{VarStand}
use Rattle.svr_elab_names.specs.Names.{Space, GlobalName, ClassName, VarName}
use Rattle.svr_elab_names.specs.Tables.{Key, global_of, class_of, space_of}
use Rattle.svr_elab_part.specs.Fits.{MembersFit}
use Rattle.svr_elab_type.specs.Types.{GlobalsElab, declaring}
use Rattle.svr_elab_class.specs.Classes.{label_faults}
use Rattle.svr_elab_tops.specs.InOrder.{TypesFit, ClassesFit, types_and_classes}
use Rattle.svr_elab_random.specs.declared.Home.{Home}
use Rattle.svr_elab_random.specs.Random.{with_lists, classes_with}
use Rattle.svr_elab_block.specs.Blocks.{BodiesElab, bodies, no_bodies}
use Rattle.svr_elab_block.specs.Fits.{BodiesFit}
use Rattle.svr_elab_target.specs.Fits.{BlocksFit}
use Rattle.svr_elab_stmt.specs.declared.StmtsPart.{StmtsPart}
use Rattle.svr_elab_stmt.specs.Seen.{stmts_part}
use Rattle.svr_elab_stmt.specs.Stmts.{StmtsElab}
use Rattle.svr_elab_unit.specs.Listed.{all_listed}
use Rattle.svr_elab_unit.specs.Vars.{VarsElab, no_vars, var_decls, var_decl, stmt_space}
use Rattle.svr_elab_unit.specs.Run.{run}
use Rattle.svr_elab_unit.specs.Fits.{VarTypesFit, VarValuesFit, AllStmtsFit, declared_in}
use Rattle.svr_elab.specs.Script as spec
use Rattle.svr_elab.specs.Script.{ScriptElab}

abbrev Known : Type 0
Known = GlobalsElab (Option Fault)

abbrev Vars : Type 0
Vars = VarsElab (Option Fault)

abbrev Whole : Type 0
Whole = ScriptElab (Option Fault)

-- ---- types and classes

-- nothing is declared
pub nothing_known : (text : ℕ → List ℕ) (ns : List (Key × Global)) (cs : List ClassNames) (es : List EnumType) → ns ≡ [] → cs ≡ [] → es ≡ []
    → (let k : Known = record { names = declaring text (map global_of ns) (map class_of cs); enums = es; faults = None } in k) ≡ spec.no_globals first_one text
nothing_known text ns cs es is_ns is_cs is_es = rw (is_es, is_cs, is_ns) refl

pub nothing_fits : (text : ℕ → List ℕ) (ns : List (Key × Global)) (cs : List ClassName) → ns ≡ [] → MembersFit (declaring text (map global_of ns) cs)
nothing_fits text ns cs e =
    let P : List (Key × Global) → Type 0 = λ ns. MembersFit (declaring text (map global_of ns) cs) in
    subst P (sym e) (record { globals = tt })

pub heads_are : (text : ℕ → List ℕ) (start r : Known) (s : ScriptTree) (os : List Top) (ts : List TypeTree) (cs : List ClassTree)
    → r ≡ types_and_classes first_one start os ts cs → start ≡ spec.no_globals first_one text → os ≡ s.order → ts ≡ s.types → cs ≡ s.classes → r ≡ spec.heads first_one text s
heads_are text start r s os ts cs h is_start is_os is_ts is_cs =
    h ∙ ap (λ (k : Known). types_and_classes first_one k os ts cs) is_start
    ∙ ap (λ (os : List Top). types_and_classes first_one (spec.no_globals first_one text) os ts cs) is_os
    ∙ ap (λ (ts : List TypeTree). types_and_classes first_one (spec.no_globals first_one text) s.order ts cs) is_ts
    ∙ ap (λ (cs : List ClassTree). types_and_classes first_one (spec.no_globals first_one text) s.order s.types cs) is_cs

-- none so far, and few to come
pub few_types : (n : ℕ) (xs ys : List TypeDecl) → n ≡ 0 → xs ≡ ys → length (map type_decl_tree ys) < 2 ^ 32 → n + length xs < 2 ^ 32
few_types n xs ys z e h = few n (length xs) (length ys) (length (map type_decl_tree ys)) z (ap length e) (length-map ys type_decl_tree) h
  where
    few : (n k m t : ℕ) → n ≡ 0 → k ≡ m → t ≡ m → t < 2 ^ 32 → n + k < 2 ^ 32
    few n k m t z e f h = omega (arith, z, e, f, h)

pub few_classes : (n : ℕ) (xs ys : List ClassDecl) → n ≡ 0 → xs ≡ ys → length (map class_tree ys) < 2 ^ 32 → n + length xs < 2 ^ 32
few_classes n xs ys z e h = few n (length xs) (length ys) (length (map class_tree ys)) z (ap length e) (length-map ys class_tree) h
  where
    few : (n k m t : ℕ) → n ≡ 0 → k ≡ m → t ≡ m → t < 2 ^ 32 → n + k < 2 ^ 32
    few n k m t z e f h = omega (arith, z, e, f, h)

pub types_there : (xs ys : List TypeDecl) → xs ≡ ys → TypesFit 0 (map type_decl_tree ys) → TypesFit 0 (map type_decl_tree xs)
types_there xs ys e h = let P : List TypeDecl → Type 0 = λ ts. TypesFit 0 (map type_decl_tree ts) in subst P (sym e) h

pub classes_there : (xs ys : List ClassDecl) → xs ≡ ys → ClassesFit 0 (map class_tree ys) → ClassesFit 0 (map class_tree xs)
classes_there xs ys e h = let P : List ClassDecl → Type 0 = λ cs. ClassesFit 0 (map class_tree cs) in subst P (sym e) h

-- ---- variables

vars_joined : (n : Space) (s : Vars) (xs ys : List VarTree) → var_decls first_one n s (xs ++ ys) ≡ var_decls first_one n (var_decls first_one n s xs) ys
vars_joined n s [] ys = refl
vars_joined n s (x ∷ xs) ys = vars_joined n (var_decl first_one n s x) xs ys

pub vars_are : (n : Space) (start s r : Vars) (u : UnitTree) (xs ys : List VarTree)
    → start ≡ no_vars first_one → s ≡ var_decls first_one n start xs → r ≡ var_decls first_one n s ys → xs ≡ u.outer → ys ≡ u.inner → r ≡ spec.unit_vars first_one n u
vars_are n start s r u xs ys is_start is_s is_r is_xs is_ys =
    is_r ∙ ap (λ (s : Vars). var_decls first_one n s ys) (is_s ∙ ap (λ (s : Vars). var_decls first_one n s xs) is_start ∙ ap (λ (xs : List VarTree). var_decls first_one n (no_vars first_one) xs) is_xs)
    ∙ ap (λ (ys : List VarTree). var_decls first_one n (var_decls first_one n (no_vars first_one) u.outer) ys) is_ys
    ∙ sym (vars_joined n (no_vars first_one) u.outer u.inner)

pub var_types_there : (d : ℕ) (xs ys : List VarDecl) → d ≡ 0 → xs ≡ ys → VarTypesFit 0 (map var_tree ys) → VarTypesFit d (map var_tree xs)
var_types_there d xs ys z e h =
    let P : List VarDecl → Type 0 = λ vs. VarTypesFit 0 (map var_tree vs) in
    let Q : ℕ → Type 0 = λ k. VarTypesFit k (map var_tree xs) in
    subst Q (sym z) (subst P (sym e) h)

-- so many so far, and the others to come
pub few_vars : (n a b : ℕ) (xs ys : List VarDecl) → n ≤ a → xs ≡ ys → a + b < 2 ^ 32 → declared_in (map var_tree ys) ≡ b → n + declared_in (map var_tree xs) < 2 ^ 32
few_vars n a b xs ys h e few is = fewer n a b (declared_in (map var_tree xs)) h few (ap (λ (vs : List VarDecl). declared_in (map var_tree vs)) e ∙ is)
  where
    fewer : (n a b k : ℕ) → n ≤ a → a + b < 2 ^ 32 → k ≡ b → n + k < 2 ^ 32
    fewer n a b k h few e = omega (arith, h, few, e)

pub none_yet : (n : ℕ) → n ≡ 0 → n ≤ 0
none_yet n h = omega (arith, h)

pub few_after : (a b : ℕ) → a + b < 2 ^ 32 → 0 + a < 2 ^ 32
few_after a b h = omega (arith, h)

-- no more than are declared
pub length_after : (start n : ℕ) (xs ys : List VarDecl) → start ≡ 0 → n ≤ start + declared_in (map var_tree xs) → xs ≡ ys → n ≤ declared_in (map var_tree ys)
length_after start n xs ys z h e = most start n _ _ z h (ap (λ (vs : List VarDecl). declared_in (map var_tree vs)) e)
  where
    most : (start n a b : ℕ) → start ≡ 0 → n ≤ start + a → a ≡ b → n ≤ b
    most start n a b z h e = omega (arith, z, h, e)

pub vars_there : (m n : Space) (u : UnitTree) (r : Vars) → r ≡ spec.unit_vars first_one m u → m ≡ n → r ≡ spec.unit_vars first_one n u
vars_there m n u r h e = h ∙ ap (λ (m : Space). spec.unit_vars first_one m u) e

-- ---- every name

pub same_classes : (m : Space) (text : ℕ → List ℕ) (gs : List GlobalName) (xs ys : List ClassNames) → m ≡ declaring text gs (map class_of xs) → xs ≡ ys → m ≡ declaring text gs (map class_of ys)
same_classes m text gs xs ys h e = h ∙ ap (λ (cs : List ClassNames). declaring text gs (map class_of cs)) e

pub same_space : (m : Space) (text : ℕ → List ℕ) (gs : List GlobalName) (xs ys : List ClassNames) (vs : List VarName)
    → m ≡ stmt_space (declaring text gs (map class_of xs)) vs → xs ≡ ys → m ≡ stmt_space (declaring text gs (map class_of ys)) vs
same_space m text gs xs ys vs h e = h ∙ ap (λ (cs : List ClassNames). stmt_space (declaring text gs (map class_of cs)) vs) e

pub space_of_all : (m k n : Space) (vs : List VarName) → m ≡ stmt_space k vs → k ≡ n → m ≡ stmt_space n vs
space_of_all m k n vs h e = h ∙ ap (λ (k : Space). stmt_space k vs) e

pub members_fit : (m : Space) (text : ℕ → List ℕ) (gs : List GlobalName) (cs ds : List ClassName) → m ≡ declaring text gs cs → MembersFit (declaring text gs ds) → MembersFit m
members_fit m text gs cs ds e h = subst MembersFit (sym e) (record { globals = h.globals })

pub members_whole : (m : Space) (text : ℕ → List ℕ) (gs : List GlobalName) (cs ds : List ClassName) (vs : List VarName) → m ≡ stmt_space (declaring text gs cs) vs → MembersFit (declaring text gs ds) → MembersFit m
members_whole m text gs cs ds vs e h = subst MembersFit (sym e) (record { globals = h.globals })

-- where properties are marked
pub marked_space : (m : Space) (text : ℕ → List ℕ) (gs : List GlobalName) (cs ds : List ClassName) (vs : List VarName) → m ≡ stmt_space (declaring text gs cs) vs → cs ≡ ds → m ≡ stmt_space (declaring text gs ds) vs
marked_space m text gs cs ds vs h e = h ∙ ap (λ (cs : List ClassName). stmt_space (declaring text gs cs) vs) e

pub classes_in : (m : Space) (text : ℕ → List ℕ) (gs : List GlobalName) (cs ds : List ClassName) (vs : List VarName) → m ≡ stmt_space (declaring text gs cs) vs → cs ≡ ds → m.classes ≡ ds
classes_in m text gs cs ds vs h e = ap (λ (m : Space). m.classes) h ∙ e

pub marked_many : (hs : List Home) (old names : List ClassNames) (n : ℕ) → map class_of names ≡ classes_with hs (map class_of old) → n ≤ length old → n ≤ length names
marked_many hs old names n h few =
    let same : length names ≡ length old = sym (length-map names class_of) ∙ ap length h ∙ length-map (map class_of old) (with_lists hs) ∙ length-map old class_of in
    as_many n (length old) (length names) few same
  where
    as_many : (n a b : ℕ) → n ≤ a → b ≡ a → n ≤ b
    as_many n a b h e = omega (arith, h, e)

-- ---- what calls list

pub listed_are : (n : Space) (start hs : List Home) (xs ys : List Stmt) → hs ≡ all_listed n start (stmt_trees xs) → start ≡ [] → xs ≡ ys → hs ≡ all_listed n [] (stmt_trees ys)
listed_are n start hs xs ys h e f =
    h ∙ ap (λ (start : List Home). all_listed n start (stmt_trees xs)) e ∙ ap (λ (xs : List Stmt). all_listed n [] (stmt_trees xs)) f

pub listed_there : (m n : Space) (hs : List Home) (ss : StmtTrees) → hs ≡ all_listed m [] ss → m ≡ n → hs ≡ all_listed n [] ss
listed_there m n hs ss h e = h ∙ ap (λ (m : Space). all_listed m [] ss) e

-- ---- blocks and statements

pub as_many_as : (xs ys : List ClassDecl) (n : ℕ) → xs ≡ ys → length ys ≤ n → length xs ≤ n
as_many_as xs ys n e h = let P : List ClassDecl → Type 0 = λ cs. length cs ≤ n in subst P (sym e) h

pub bodies_are : (n : Space) (r : BodiesElab (Option Fault)) (xs ys : List ClassDecl) → r ≡ bodies first_one n (no_bodies first_one) 0 (map class_tree xs) → xs ≡ ys
    → r ≡ bodies first_one n (no_bodies first_one) 0 (map class_tree ys)
bodies_are n r xs ys h e = h ∙ ap (λ (cs : List ClassDecl). bodies first_one n (no_bodies first_one) 0 (map class_tree cs)) e

pub bodies_there : (d : ℕ) (xs ys : List ClassDecl) → d ≡ 0 → xs ≡ ys → BodiesFit 0 (map class_tree ys) → BodiesFit d (map class_tree xs)
bodies_there d xs ys z e h =
    let P : List ClassDecl → Type 0 = λ cs. BodiesFit 0 (map class_tree cs) in
    let Q : ℕ → Type 0 = λ k. BodiesFit k (map class_tree xs) in
    subst Q (sym z) (subst P (sym e) h)

pub values_there : (d : ℕ) (vs : List VarTree) → d ≡ 0 → VarValuesFit 0 vs → VarValuesFit d vs
values_there d vs z h = let Q : ℕ → Type 0 = λ k. VarValuesFit k vs in subst Q (sym z) h

pub stmts_there : (d : ℕ) (ss : List Stmt) → d ≡ 0 → AllStmtsFit 0 (map stmt_tree ss) → AllStmtsFit d (map stmt_tree ss)
stmts_there d ss z h = let Q : ℕ → Type 0 = λ k. AllStmtsFit k (map stmt_tree ss) in subst Q (sym z) h

-- ---- the same where every name is put together

pub members_here : (m n : Space) → m ≡ n → MembersFit n → MembersFit m
members_here m n e h = subst MembersFit (sym e) h

pub blocks_here : (m n : Space) → m ≡ n → BlocksFit n → BlocksFit m
blocks_here m n e h = subst BlocksFit (sym e) h

pub many_here : (m : NameSpace) (text : ℕ → List ℕ) (gs : List GlobalName) (cs : List ClassNames) (vs : List VarName) (n : ℕ)
    → space_of m ≡ stmt_space (declaring text gs (map class_of cs)) vs → n ≤ length cs → n ≤ length m.classes.now
many_here m text gs cs vs n e few =
    as_many n (length cs) (length m.classes.now) few (sym (length-map m.classes.now class_of) ∙ ap (λ (s : Space). length s.classes) e ∙ length-map cs class_of)
  where
    as_many : (n a b : ℕ) → n ≤ a → b ≡ a → n ≤ b
    as_many n a b h e = omega (arith, h, e)

pub bodies_here : (m n : Space) (s : ScriptTree) (r : (ℕ → List ℕ) → BodiesElab (Option Fault)) → r m.text ≡ bodies first_one m (no_bodies first_one) 0 s.classes → m ≡ n
    → r n.text ≡ bodies first_one n (no_bodies first_one) 0 s.classes
bodies_here m n s r h e =
    let P : Space → Type 0 = λ n. r n.text ≡ bodies first_one n (no_bodies first_one) 0 s.classes in
    subst P e h

abbrev Ran : Space → List VarStand → UnitTree → StmtsPart → Type 0
Ran m ks u p = stmts_part (run first_one m ks u).made p ≡ run first_one m ks u

pub stmts_here : (m n : Space) (ks js : List VarStand) (s : ScriptTree) (p : StmtsPart) → Ran m ks s.unit p → m ≡ n → ks ≡ js → Ran n js s.unit p
stmts_here m n ks js s p h e f =
    let P : Space → Type 0 = λ m. Ran m ks s.unit p in
    let Q : List VarStand → Type 0 = λ ks. Ran n ks s.unit p in
    subst Q f (subst P e h)

-- ---- the whole

pub whole_is : (m n : Space) (h : Known) (v : Vars) (s : ScriptTree) (ks : List VarStand) (b : BodiesElab (Option Fault)) (r : StmtsElab (Option Fault)) (label fault : Option Fault) (cs : List ClassName) (d : Option DesignTerm)
    → m ≡ n → ks ≡ v.stands → b ≡ bodies first_one m (no_bodies first_one) 0 s.classes → r ≡ run first_one m ks s.unit → label ≡ label_faults first_one n.text s.unit.name s.unit.label
    → fault ≡ spec.all_faults first_one h.faults v.faults b.faults r.faults label → cs ≡ n.classes → d ≡ spec.design_of h.enums (spec.all_classes cs b.blocks) (spec.variables v.vars) r.trees
    → (let w : Whole = record { design = d; faults = fault } in w) ≡ spec.within first_one n h v s
whole_is m n h v s ks b r label fault cs d is_m is_ks is_b is_r is_label is_fault is_cs is_d = rw (is_d, is_cs, is_fault, is_label, is_r, is_b, is_ks, is_m) refl

pub script_is : (text : ℕ → List ℕ) (s : ScriptTree) (h : Known) (v : Vars) (hs : List Home) (r : Whole)
    → r ≡ spec.within first_one (record (stmt_space h.names v.vars) { classes = classes_with hs h.names.classes }) h v s
    → h ≡ spec.heads first_one text s → v ≡ spec.unit_vars first_one h.names s.unit → hs ≡ all_listed (stmt_space h.names v.vars) [] (stmts_of s.unit.stmts)
    → r ≡ spec.script first_one text s
script_is text s h v hs r is_r is_h is_v is_hs =
    is_r ∙ ap (λ (hs : List Home). spec.within first_one (record (stmt_space h.names v.vars) { classes = classes_with hs h.names.classes }) h v s) is_hs
    ∙ ap (λ (v : Vars). spec.joined first_one h v s) is_v ∙ ap (λ (h : Known). spec.behind_heads first_one h s) is_h
