-- The statements of a script in which nothing is refused stand in its design: the values of its variables, and those of its initial block.
use Rattle.std.proofs.Common.{◌≡◌, ℕ, zero, suc, Bool, true, false, if◌then◌else◌, List, [], ◌∷◌, ◌++◌, length, Option, None, Some, refl, sym, ap, subst, ◌∙◌, true≢false}
use Rattle.std.specs.Prelude.{⊤, slice_get, MatchOption, nat_le}
use Rattle.svr_typed.specs.StmtTerm as stmt_term
use Rattle.svr_typed.specs.StmtTerm.{StmtTerm, DesignTerm}
use Rattle.svr_tree.specs.DeclTree as decl
use Rattle.svr_tree.specs.DeclTree.{VarInitTree, VarDeclaratorTree, VarTree}
use Rattle.svr_tree.specs.StmtTree.{StmtTree}
use Rattle.svr_refusal.specs.declared.Refusal.TheVariants as refusal
use Rattle.svr_design.specs.Statements.{IsSomeClass, AllStmtsStand}
use Rattle.svr_elab_fault.specs.declared.Fault.{Fault}
use Rattle.svr_elab_fault.specs.Refusals.{first_one, when, earlier}
use Rattle.svr_elab_names.specs.declared.Meaning.TheVariants.{VariableOf, ObjectOf}
use Rattle.svr_elab_names.specs.declared.VarStand.{VarStand}
use Rattle.svr_elab_names.specs.declared.VarStand.TheVariants as stand
use Rattle.svr_elab_names.specs.Names.{Space, VarName, is_name, class_props}
use Rattle.svr_elab_part.specs.Fits.{Each, NamesFit, StandFits}
use Rattle.svr_elab_part.specs.Elab.{Elab, elab}
use Rattle.svr_elab_part.proofs.Valued.{none_left, none_right, not_when}
use Rattle.svr_elab_part.proofs.Looked.{OptionIs}
use Rattle.svr_elab_decl.specs.Properties.{UsedElab, data_type}
use Rattle.svr_elab_target.specs.declared.target.Target.TheVariants as target
use Rattle.svr_elab_target.specs.Targets.{target_of}
use Rattle.svr_elab_target.specs.Named.{with_made}
use Rattle.svr_elab_stmt.specs.Stmts as stmts
use Rattle.svr_elab_stmt.specs.Stmts.{StmtElab, StmtsElab}
use Rattle.svr_elab_unit.specs.Fits.{InitFits, InitsFit, VarValuesFit, AllStmtsFit}
use Rattle.svr_elab_unit.specs.Run as run
use Rattle.svr_elab_unit.specs.Vars as spec
use Rattle.svr_elab_unit.specs.Vars.{VarsElab, ValuedElab, stmt_space}
use Rattle.svr_elab.specs.Script as script
use Rattle.svr_elab.specs.Script.{design_in}
use Rattle.svr_elab_lawful_laws.specs.Declared.{PlacedFrom}
use Rattle.svr_elab_lawful_laws.specs.Reads.{VarIs, KindAt, InStatement}
use Rattle.svr_elab_lawful_laws.specs.Walks.{TopsAre, StatementPlace, SetsStand, BlocksNamed, StatementsStand}
use Rattle.svr_elab_lawful_laws.proofs.Whole.{the_heads, the_vars, the_space, the_stmts, IsClear, script_clear, of_design}
use Rattle.svr_elab_lawful_laws.proofs.Declarations.{DesignClasses, design_classes}
use Rattle.svr_elab_lawful_laws.proofs.Places.{moved, placed_props}
use Rattle.svr_elab_lawful_laws.proofs.Lefts.{kind_number, meaning_plain, answer_is}
use Rattle.svr_elab_lawful_laws.proofs.Walks.{LeftSide, StandsThere, SoFar, and_stands, made_place, made_sets, value_good, given_stands, make_stands, stmt_stands}
use Rattle.svr_elab_lawful_laws.proofs.Statements.{statement_places_stand}

-- ---- the first of some variables

abbrev IsPrefix : List VarName → List VarName → Type 0
IsPrefix [] ws = ⊤
IsPrefix (v ∷ vs) [] = ⊥
IsPrefix (v ∷ vs) (w ∷ ws) = (v ≡ w) × IsPrefix vs ws

prefix_self : (vs : List VarName) → IsPrefix vs vs
prefix_self [] = tt
prefix_self (v ∷ vs) = (refl, prefix_self vs)

prefix_before : (vs : List VarName) (x : VarName) (ws : List VarName) → IsPrefix (vs ++ x ∷ []) ws → IsPrefix vs ws
prefix_before [] x ws h = tt
prefix_before (v ∷ vs) x [] h = absurd h
prefix_before (v ∷ vs) x (w ∷ ws) h = (h.0, prefix_before vs x ws h.1)

prefix_get : (vs ws : List VarName) → IsPrefix vs ws → (k : ℕ) (s : VarStand) → VarIs vs k s → VarIs ws k s
prefix_get [] ws h k s i = absurd i
prefix_get (v ∷ vs) [] h k s i = absurd h
prefix_get (v ∷ vs) (w ∷ ws) h zero s i = ap (λ (v : VarName). v.stands) (sym h.0) ∙ i
prefix_get (v ∷ vs) (w ∷ ws) h (suc k) s i = prefix_get vs ws h.1 k s i

prefix_fits : (vs ws : List VarName) → IsPrefix vs ws → Each (λ (v : VarName). StandFits v.stands) ws → Each (λ (v : VarName). StandFits v.stands) vs
prefix_fits [] ws h f = tt
prefix_fits (v ∷ vs) [] h f = absurd h
prefix_fits (v ∷ vs) (w ∷ ws) h f = (subst (λ (v : VarName). StandFits v.stands) (sym h.0) f.0, prefix_fits vs ws h.1 f.1)

last_at : (vs : List VarName) (x : VarName) (ws : List VarName) → IsPrefix (vs ++ x ∷ []) ws → VarIs ws (length vs) x.stands
last_at [] x [] h = absurd h
last_at [] x (w ∷ ws) h = ap (λ (v : VarName). v.stands) (sym h.0)
last_at (v ∷ vs) x [] h = absurd h
last_at (v ∷ vs) x (w ∷ ws) h = last_at vs x ws h.1

-- ---- declarations in turn

-- the variables behind a declaration
abbrev after : (ℕ → List ℕ) → List VarName → VarStand → List VarDeclaratorTree → List VarName
after text vs k [] = vs
after text vs k (d ∷ ds) = after text (spec.and_var_name vs (text d.name) k) k ds

-- each has a new name
abbrev AllNew : (ℕ → List ℕ) → List VarName → VarStand → List VarDeclaratorTree → Type 0
AllNew text vs k [] = ⊤
AllNew text vs k (d ∷ ds) = (is_name (λ (v : VarName). v.name) (text d.name) vs ≡ false) × AllNew text (spec.and_var_name vs (text d.name) k) k ds

-- these declarations of these sorts, behind `vs`, give `ws`
abbrev Declares : (ℕ → List ℕ) → List VarName → List VarStand → List VarTree → List VarName → Type 0
Declares text vs [] [] ws = vs ≡ ws
Declares text vs [] (t ∷ ts) ws = ⊥
Declares text vs (k ∷ ks) [] ws = ⊥
Declares text vs (k ∷ ks) (t ∷ ts) ws = AllNew text vs k t.vars × Declares text (after text vs k t.vars) ks ts ws

named_prefix : (b : Bool) (vs : List VarName) (x : VarName) (ws : List VarName) → IsPrefix (if b then vs else vs ++ x ∷ []) ws → IsPrefix vs ws
named_prefix true vs x ws h = h
named_prefix false vs x ws h = prefix_before vs x ws h

after_prefix : (text : ℕ → List ℕ) (vs : List VarName) (k : VarStand) (ds : List VarDeclaratorTree) (ws : List VarName) → IsPrefix (after text vs k ds) ws → IsPrefix vs ws
after_prefix text vs k [] ws h = h
after_prefix text vs k (d ∷ ds) ws h =
    named_prefix (is_name (λ (v : VarName). v.name) (text d.name) vs) vs (record { name = text d.name; stands = k }) ws (after_prefix text (spec.and_var_name vs (text d.name) k) k ds ws h)

declares_prefix : (text : ℕ → List ℕ) (vs : List VarName) (ks : List VarStand) (ts : List VarTree) (ws : List VarName) → Declares text vs ks ts ws → IsPrefix vs ws
declares_prefix text vs [] [] ws h = subst (IsPrefix vs) h (prefix_self vs)
declares_prefix text vs [] (t ∷ ts) ws h = absurd h
declares_prefix text vs (k ∷ ks) [] ws h = absurd h
declares_prefix text vs (k ∷ ks) (t ∷ ts) ws h = after_prefix text vs k t.vars ws (declares_prefix text (after text vs k t.vars) ks ts ws h.1)

-- ---- what is declared is so

abbrev Vars : Type 0
Vars = VarsElab (Option Fault)

vars_clear : (text : ℕ → List ℕ) (s : Vars) (k : VarStand) (ds : List VarDeclaratorTree) → (spec.and_vars first_one text s k ds).faults ≡ None → s.faults ≡ None
vars_clear text s k [] f = f
vars_clear text s k (d ∷ ds) f = none_left s.faults _ (vars_clear text (spec.and_var first_one s d.name (text d.name) k) k ds f)

all_new : (text : ℕ → List ℕ) (s : Vars) (k : VarStand) (ds : List VarDeclaratorTree) → (spec.and_vars first_one text s k ds).faults ≡ None → AllNew text s.vars k ds
all_new text s k [] f = tt
all_new text s k (d ∷ ds) f =
    let one : Vars = spec.and_var first_one s d.name (text d.name) k in
    let w1 : Option Fault = when first_one (is_name (λ (v : VarName). v.name) (text d.name) s.vars) d.name refusal.DoubleName in
    let w2 : Option Fault = when first_one (nat_le 4096 (spec.of_sort (spec.is_object_stand k) s.objects s.others)) d.name refusal.TooMany in
    (not_when (is_name (λ (v : VarName). v.name) (text d.name) s.vars) d.name refusal.DoubleName (none_left w1 w2 (none_right s.faults (earlier w1 w2) (vars_clear text one k ds f))), all_new text one k ds f)

stands_kept : (text : ℕ → List ℕ) (s : Vars) (k : VarStand) (ds : List VarDeclaratorTree) → (spec.and_vars first_one text s k ds).stands ≡ s.stands
stands_kept text s k [] = refl
stands_kept text s k (d ∷ ds) = stands_kept text (spec.and_var first_one s d.name (text d.name) k) k ds

vars_after : (text : ℕ → List ℕ) (s : Vars) (k : VarStand) (ds : List VarDeclaratorTree) → (spec.and_vars first_one text s k ds).vars ≡ after text s.vars k ds
vars_after text s k [] = refl
vars_after text s k (d ∷ ds) = vars_after text (spec.and_var first_one s d.name (text d.name) k) k ds

decls_clear : (n : Space) (ts : List VarTree) (s : Vars) → (spec.var_decls first_one n s ts).faults ≡ None → s.faults ≡ None
decls_clear n [] s f = f
decls_clear n (t ∷ ts) s f =
    let u : UsedElab (Option Fault) = data_type first_one (stmt_space n s.vars) t.kind in
    none_left s.faults u.faults (vars_clear n.text (spec.and_type first_one s u) (spec.stand_of u.used) t.vars (decls_clear n ts (spec.var_decl first_one n s t) f))

nothing_behind : (ks : List VarStand) → ks ≡ ks ++ []
nothing_behind [] = refl
nothing_behind (k ∷ ks) = ap (λ xs. k ∷ xs) (nothing_behind ks)

record InTurn (text : ℕ → List ℕ) (vs : List VarName) (before : List VarStand) (ts : List VarTree) (behind : List VarStand) (ws : List VarName) : Type 0 where
  pub sorts : List VarStand
  pub same : behind ≡ before ++ sorts
  pub declared : Declares text vs sorts ts ws

declares : (n : Space) (ts : List VarTree) (s : Vars) → (spec.var_decls first_one n s ts).faults ≡ None → InTurn n.text s.vars s.stands ts (spec.var_decls first_one n s ts).stands (spec.var_decls first_one n s ts).vars
declares n [] s f = record { sorts = []; same = nothing_behind s.stands; declared = refl }
declares n (t ∷ ts) s f =
    let u : UsedElab (Option Fault) = data_type first_one (stmt_space n s.vars) t.kind in
    let k : VarStand = spec.stand_of u.used in
    let typed : Vars = spec.and_type first_one s u in
    let next : Vars = spec.var_decl first_one n s t in
    let all : Vars = spec.var_decls first_one n next ts in
    let rest : InTurn n.text next.vars next.stands ts all.stands all.vars = declares n ts next f in
    record {
      sorts = k ∷ rest.sorts;
      same = rest.same ∙ ap (λ xs. xs ++ rest.sorts) (stands_kept n.text typed k t.vars) ∙ sym (moved s.stands k rest.sorts);
      declared = (all_new n.text typed k t.vars (decls_clear n ts next f), subst (λ vs. Declares n.text vs rest.sorts ts all.vars) (vars_after n.text typed k t.vars) rest.declared);
    }

-- ---- values

module _ (d : DesignTerm) (n : Space) (h : StatementPlace d n) where
  here : (vs : List VarName) → IsPrefix vs n.vars → StatementPlace d (stmt_space n vs)
  here vs p = record {
    stands = record {
      props = h.stands.props;
      later = h.stands.later;
      loops = h.stands.loops;
      classes = h.stands.classes;
      numbers = λ v kind i. h.stands.numbers v kind (prefix_get vs n.vars p v (stand.OfNumber kind) i);
      objects = λ o c i. h.stands.objects o c (prefix_get vs n.vars p o (stand.OfObject c) i);
    };
    fits = record { globals = h.fits.globals; props = h.fits.props; classes = h.fits.classes; loops = h.fits.loops; vars = prefix_fits vs n.vars p h.fits.vars };
    places = h.places;
    blocks = h.blocks;
  }

  left_good : (name number : ℕ) (k : VarStand) → VarIs n.vars number k → LeftSide d (spec.left_side first_one name number k)
  left_good name number (stand.OfNumber kind) i =
      let at : KindAt kind (slice_get d.vars number) = h.stands.numbers number kind i in
      record {
        rooted = λ r f. true≢false (sym r);
        meant = λ f. kind_number d kind (slice_get d.vars number) at;
        place = λ o p t f. absurd (let e : target.Variable number ≡ target.Place o p = t in cc);
        answer = λ a. answer_is d (spec.left_side first_one name number (stand.OfNumber kind)) (meaning_plain d name name false None (VariableOf number kind) at) a;
      }
  left_good name number (stand.OfObject c) i =
      let e = h.stands.objects number c i in
      record {
        rooted = λ r f. true≢false (sym r);
        meant = λ f. subst IsSomeClass (sym e) tt;
        place = λ o p t f. absurd (let e : target.Object number ≡ target.Place o p = t in cc);
        answer = λ a. answer_is d (spec.left_side first_one name number (stand.OfObject c)) (meaning_plain d name name false None (ObjectOf number c) e) a;
      }

  init_stands : (m : Space) → StatementPlace d m → (x : Elab (Option Fault)) (i : VarInitTree) → LeftSide d x → InitFits 0 (Some i) → (spec.initialized first_one m x i).faults ≡ None → StandsThere d (spec.initialized first_one m x i).tree
  init_stands m w x (decl.value e) l fit f = given_stands d x (elab first_one m e) l (value_good d m w e fit.1) f
  init_stands m w x (decl.new parens) l fit f = make_stands d (target_of x.form) (l.meant (none_left x.faults _ f))

  one_stands : (vs : List VarName) → IsPrefix vs n.vars → (st : StmtsElab (Option Fault)) (name number : ℕ) (k : VarStand) (i : Option VarInitTree) → VarIs n.vars number k → InitFits 0 i → SoFar d st → SoFar d (spec.and_value first_one (stmt_space n vs) st name number k i)
  one_stands vs p st name number k None v fit t = t
  one_stands vs p st name number k (Some i) v fit t =
      let m : Space = with_made (stmt_space n vs) st.made in
      let x : Elab (Option Fault) = spec.left_side first_one name number k in
      and_stands d st (spec.initialized first_one m x i) t (λ g. init_stands m (made_place d (stmt_space n vs) st.made (here vs p)) x i (left_good name number k v) fit g)

  all_stand : (s : ValuedElab (Option Fault)) (k : VarStand) (ds : List VarDeclaratorTree) → AllNew n.text s.vars k ds → IsPrefix (after n.text s.vars k ds) n.vars → InitsFit 0 ds → SoFar d s.stmts → SoFar d (spec.all_valued first_one n s k ds).stmts
  all_stand s k [] new p fit t = t
  all_stand s k (v ∷ ds) new p fit t =
      let vs : List VarName = spec.and_var_name s.vars (n.text v.name) k in
      let x : VarName = record { name = n.text v.name; stands = k } in
      let first : IsPrefix vs n.vars = after_prefix n.text vs k ds n.vars p in
      let grown : vs ≡ s.vars ++ x ∷ [] = ap (λ (b : Bool). if b then s.vars else s.vars ++ x ∷ []) new.0 in
      let at : VarIs n.vars (length s.vars) k = last_at s.vars x n.vars (subst (λ (vs : List VarName). IsPrefix vs n.vars) grown first) in
      all_stand (spec.valued first_one n s k v) k ds new.1 p fit.1 (one_stands vs first s.stmts v.name (length s.vars) k v.init at fit.0 t)

  valued_after : (s : ValuedElab (Option Fault)) (k : VarStand) (ds : List VarDeclaratorTree) → (spec.all_valued first_one n s k ds).vars ≡ after n.text s.vars k ds
  valued_after s k [] = refl
  valued_after s k (v ∷ ds) = valued_after (spec.valued first_one n s k v) k ds

  decls_stand : (s : ValuedElab (Option Fault)) (ks : List VarStand) (ts : List VarTree) → Declares n.text s.vars ks ts n.vars → VarValuesFit 0 ts → SoFar d s.stmts → SoFar d (spec.decls_valued first_one n s ks ts).stmts
  decls_stand s [] ts e fit t = t
  decls_stand s (k ∷ ks) [] e fit t = t
  decls_stand s (k ∷ ks) (v ∷ ts) e fit t =
      let next : ValuedElab (Option Fault) = spec.all_valued first_one n s k v.vars in
      let first : IsPrefix (after n.text s.vars k v.vars) n.vars = declares_prefix n.text (after n.text s.vars k v.vars) ks ts n.vars e.1 in
      decls_stand next ks ts (subst (λ (vs : List VarName). Declares n.text vs ks ts n.vars) (sym (valued_after s k v.vars)) e.1) fit.1 (all_stand s k v.vars e.0 first fit.0 t)

  -- ---- the initial block

  tops_stand : SetsStand d n → (st : StmtsElab (Option Fault)) (ss : List StmtTree) → AllStmtsFit 0 ss → TopsAre ss → SoFar d st → SoFar d (run.tops first_one n st ss)
  tops_stand sets st [] fit is t = t
  tops_stand sets st (s ∷ ss) fit is t =
      let m : Space = with_made n st.made in
      let one : StmtElab (Option Fault) = stmts.stmt first_one m s in
      let limited : StmtElab (Option Fault) = run.with_limit first_one (run.stmt_start s) st.count one in
      tops_stand sets (run.and_top first_one st (run.stmt_start s) one) ss fit.1 is.1
      (and_stands d st limited t (λ g. stmt_stands d m s (made_place d n st.made h) (made_sets d n st.made sets) fit.0 is.0 (none_left one.faults _ g)))

-- ---- the whole

values_joined : (xs ys : List VarTree) → VarValuesFit 0 xs → VarValuesFit 0 ys → VarValuesFit 0 (xs ++ ys)
values_joined [] ys h k = k
values_joined (x ∷ xs) ys h k = (h.0, values_joined xs ys h.1 k)

abbrev TreesAre : DesignTerm → Option (List StmtTerm) → Type 0
TreesAre d None = ⊥
TreesAre d (Some ts) = d.stmts ≡ stmt_term.stmts_of ts

of_trees : (d : DesignTerm) (o : Option (List StmtTerm)) → TreesAre d o → OptionIs (λ ts. AllStmtsStand d (stmt_term.stmts_of ts)) o → AllStmtsStand d d.stmts
of_trees d None e h = absurd e
of_trees d (Some ts) e h = subst (λ ss. AllStmtsStand d ss) (sym e) h

pub two : (P Q R : DesignTerm → Type 0) → ((d : DesignTerm) → P d → Q d → R d) → (o : Option DesignTerm) → MatchOption o ⊤ P → MatchOption o ⊤ Q → MatchOption o ⊤ R
two P Q R f None h k = tt
two P Q R f (Some d) h k = f d h k

pub statements_stand : StatementsStand
statements_stand text s is fit f =
    let clear : IsClear text s = script_clear text s f in
    let n : Space = the_space text s in
    let decls : List VarTree = s.unit.outer ++ s.unit.inner in
    let turn : InTurn n.text [] [] decls (the_vars text s).stands n.vars = declares (the_heads text s).names decls (spec.no_vars first_one) clear.vars in
    let Placed : DesignTerm → Type 0 = λ d. TreesAre d (the_stmts text s).trees × ((c : ℕ) → PlacedFrom 0 (class_props n.classes c)) in
    two (λ d. InStatement d n × NamesFit n) Placed (λ d. BlocksNamed d n → SetsStand d n → AllStmtsStand d d.stmts)
    (λ d p q b sets.
    let h : StatementPlace d n = record { stands = p.0; fits = p.1; places = q.1; blocks = b } in
    let values : SoFar d (spec.decls_valued first_one n (spec.no_values first_one []) (the_vars text s).stands decls).stmts =
    decls_stand d n h (spec.no_values first_one []) (the_vars text s).stands decls (subst (λ (ks : List VarStand). Declares n.text [] ks decls n.vars) (sym turn.same) turn.declared) (values_joined s.unit.outer s.unit.inner fit.0 fit.1) (λ g. tt) in
    of_trees d (the_stmts text s).trees q.0 (tops_stand d n h sets (spec.decls_valued first_one n (spec.no_values first_one []) (the_vars text s).stands decls).stmts s.unit.stmts fit.2 fit.3 values clear.stmts))
    (design_in text s) (statement_places_stand text s is f)
    (of_design Placed text s (λ c v t a b e.
    let dc : DesignClasses text s c = design_classes text s c is clear a in
    (subst (TreesAre (script.design (the_heads text s).enums c v t)) (sym e) refl, λ k. placed_props (the_heads text s).enums n.classes dc.names k)))
