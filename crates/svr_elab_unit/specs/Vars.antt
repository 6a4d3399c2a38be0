-- The variables of a script: their types, and then their values as statements (IEEE 1800-2017, 6.8 and 8.3).
use Rattle.std.specs.Prelude.{ℕ, ◌+◌, Bool, true, false, nat_le, min, not, if◌then◌else◌, List, [], ◌∷◌, ◌++◌, length, Option, Some, None}
use Rattle.svr_limits.specs.declared.limit.TheConstants.{VARIABLE_LIMIT}
use Rattle.svr_tree.specs.DeclTree as decl
use Rattle.svr_tree.specs.DeclTree.{VarInitTree, VarDeclaratorTree, VarTree}
use Rattle.svr_refusal.specs.declared.Refusal.TheVariants as refusal
use Rattle.svr_elab_fault.specs.Refusals.{Gather, when}
use Rattle.svr_elab_names.specs.declared.Found.{Found}
use Rattle.svr_elab_names.specs.declared.Region.TheVariants as region
use Rattle.svr_elab_names.specs.declared.VarStand.{VarStand}
use Rattle.svr_elab_names.specs.declared.VarStand.TheVariants as stand
use Rattle.svr_elab_names.specs.Names.{Space, VarName, is_name, stand_meaning}
use Rattle.svr_elab_part.specs.Elab.{Elab, elab, path_part}
use Rattle.svr_elab_decl.specs.Properties.{Used, UsedElab, numbers, objects, unnamed, data_type}
use Rattle.svr_elab_stmt.specs.Stmts.{StmtElab, StmtsElab, with_made, given, made_new, no_stmts, and_stmt}

-- the variables so far, each name once; what the variables of each declaration are; how many object variables there are, and how many others, where more than `VARIABLE_LIMIT` count as that
pub record VarsElab (F : Type 0) : Type 0 where
  pub vars : List VarName
  pub stands : List VarStand
  pub objects : ℕ
  pub others : ℕ
  pub faults : F

abbrev pub stand_of : Used → VarStand
stand_of (numbers kind) = stand.OfNumber kind
stand_of (objects c) = stand.OfObject c
stand_of unnamed = stand.OfNumber None

abbrev pub is_object_stand : VarStand → Bool
is_object_stand (stand.OfNumber kind) = false
is_object_stand (stand.OfObject c) = true

-- one more variable, unless its name is there
abbrev pub and_var_name : List VarName → List ℕ → VarStand → List VarName
and_var_name vs q s = if is_name (λ v. v.name) q vs then vs else vs ++ (record { name = q; stands = s }) ∷ []

-- where a statement stands, behind these variables
abbrev pub stmt_space : Space → List VarName → Space
stmt_space n vs = record n { region = region.Statement; vars = vs }

-- how many variables of its sort stand before
abbrev pub of_sort : Bool → ℕ → ℕ → ℕ
of_sort is_object firsts seconds = if is_object then firsts else seconds

-- and one more, where it is of this sort
abbrev pub one_more : ℕ → Bool → ℕ
one_more count is_one = min VARIABLE_LIMIT (if is_one then count + 1 else count)

-- values so far: the variables that are declared, and the assignments of their values
pub record ValuedElab (F : Type 0) : Type 0 where
  pub vars : List VarName
  pub stmts : StmtsElab F

abbrev pub left_found : ℕ → VarStand → Found
left_found number k = record { meaning = stand_meaning number k; unmade = None }

module _ {F : Type 0} (g : Gather F) where
  -- `before`: how many variables of its sort there are
  abbrev pub name_faults : List VarName → ℕ → ℕ → List ℕ → F
  name_faults vs before name q = g.both (when g (is_name (λ v. v.name) q vs) name refusal.DoubleName) (when g (nat_le VARIABLE_LIMIT before) name refusal.TooMany)

  -- one more variable of the declaration
  abbrev pub and_var : VarsElab F → ℕ → List ℕ → VarStand → VarsElab F
  and_var s name q k = record {
    vars = and_var_name s.vars q k;
    stands = s.stands;
    objects = one_more s.objects (is_object_stand k);
    others = one_more s.others (not (is_object_stand k));
    faults = g.both s.faults (name_faults s.vars (of_sort (is_object_stand k) s.objects s.others) name q);
  }

  abbrev pub and_vars : (ℕ → List ℕ) → VarsElab F → VarStand → List VarDeclaratorTree → VarsElab F
  and_vars text s k [] = s
  and_vars text s k (d ∷ ds) = and_vars text (and_var s d.name (text d.name) k) k ds

  abbrev pub and_type : VarsElab F → UsedElab F → VarsElab F
  and_type s u = record { vars = s.vars; stands = s.stands ++ stand_of u.used ∷ []; objects = s.objects; others = s.others; faults = g.both s.faults u.faults }

  abbrev pub var_decl : Space → VarsElab F → VarTree → VarsElab F
  var_decl n s v =
      let u = data_type g (stmt_space n s.vars) v.kind in
      and_vars n.text (and_type s u) (stand_of u.used) v.vars

  abbrev pub var_decls : Space → VarsElab F → List VarTree → VarsElab F
  var_decls n s [] = s
  var_decls n s (v ∷ vs) = var_decls n (var_decl n s v) vs

  abbrev pub no_vars : VarsElab F
  no_vars = record { vars = []; stands = []; objects = 0; others = 0; faults = g.nothing }

  -- ---- values

  -- a variable as a left side, by its name, its number and what it is
  abbrev pub left_side : ℕ → ℕ → VarStand → Elab F
  left_side name number k = path_part g name name false (left_found number k)

  -- `= value`, and `= new`
  abbrev pub initialized : Space → Elab F → VarInitTree → StmtElab F
  initialized n x (decl.value e) = given g x (elab g n e)
  initialized n x (decl.new parens) = made_new g x

  -- `n` has the variable itself
  abbrev pub and_value : Space → StmtsElab F → ℕ → ℕ → VarStand → Option VarInitTree → StmtsElab F
  and_value n ss name number k None = ss
  and_value n ss name number k (Some i) = and_stmt g ss (initialized (with_made n ss.made) (left_side name number k) i)

  abbrev pub valued : Space → ValuedElab F → VarStand → VarDeclaratorTree → ValuedElab F
  valued n s k d =
      let vs = and_var_name s.vars (n.text d.name) k in
      record { vars = vs; stmts = and_value (stmt_space n vs) s.stmts d.name (length s.vars) k d.init }

  abbrev pub all_valued : Space → ValuedElab F → VarStand → List VarDeclaratorTree → ValuedElab F
  all_valued n s k [] = s
  all_valued n s k (d ∷ ds) = all_valued n (valued n s k d) k ds

  -- declarations, of each of which it is known what its variables are
  abbrev pub decls_valued : Space → ValuedElab F → List VarStand → List VarTree → ValuedElab F
  decls_valued n s [] vs = s
  decls_valued n s (k ∷ ks) [] = s
  decls_valued n s (k ∷ ks) (v ∷ vs) = decls_valued n (all_valued n s k v.vars) ks vs

  -- no values behind these objects
  abbrev pub no_values : List ℕ → ValuedElab F
  no_values made = record { vars = []; stmts = no_stmts g made }
