-- The classes of a script with what they inherit, as the code holds them, and which of them its statements want.
use Rattle.std.specs.Prelude.{◌≡◌, ℕ, Bool, true, List, ◌∷◌, ◌++◌, Option, None, Some, map, slice_set, slice_index_or, if◌then◌else◌}
use Rattle.svr_typed.specs.ClassTerm.{FlatTerm, ClassTerm, flat_term}
use Rattle.svr_typed.specs.StmtTerm.{StmtTerm, make, set_var, set_prop, resize, pattern, rand_mode, constraint_mode, call, repeat, list, StmtTerms, no_stmts, more_stmts, DesignTerm}
use Rattle.svr_flat.specs.Flat.{no_class, flat_class_of}
use Rattle.svr_script.specs.Statement.{class_of_var, flat_of_var, all_in_order}
use Rattle.svr_effect.specs.declared.classes.Classes.{Classes}

-- ---- the objects that statements name

-- the object variable that a statement names itself, if it names one
abbrev pub named_by : StmtTerm → Option ℕ
named_by (make o) = Some o
named_by (set_var v e) = None
named_by (set_prop o p i e) = Some o
named_by (resize o p n) = Some o
named_by (pattern o p es) = Some o
named_by (rand_mode o p on) = Some o
named_by (constraint_mode o b on) = Some o
named_by (call c) = Some c.object
named_by (repeat n s) = None
named_by (list ss) = None

-- one of the statements of a design, in the order in which they are executed
abbrev pub IsStatement : DesignTerm → StmtTerm → Type 0
IsStatement d x = (done : List StmtTerm) × (left : List StmtTerm) × (all_in_order d.stmts ≡ done ++ x ∷ left)

-- some statement of a design names this object variable
abbrev pub IsNamed : DesignTerm → ℕ → Type 0
IsNamed d o = (x : StmtTerm) × IsStatement d x × (named_by x ≡ Some o)

-- ---- the classes of these

-- each variable that a statement names finds its class with what it inherits
abbrev pub AreClasses : DesignTerm → Classes → Type 0
AreClasses d x = (o : ℕ) → IsNamed d o → slice_index_or (map flat_term x.flats) (class_of_var d o) (flat_term x.none) ≡ flat_of_var d o

-- classes that are wanted, with those of the variables that statements name
abbrev mutual
  pub with_named : DesignTerm → List Bool → StmtTerm → List Bool
  with_named d wanted (make o) = slice_set wanted (class_of_var d o) true
  with_named d wanted (set_var v e) = wanted
  with_named d wanted (set_prop o p i e) = slice_set wanted (class_of_var d o) true
  with_named d wanted (resize o p n) = slice_set wanted (class_of_var d o) true
  with_named d wanted (pattern o p es) = slice_set wanted (class_of_var d o) true
  with_named d wanted (rand_mode o p on) = slice_set wanted (class_of_var d o) true
  with_named d wanted (constraint_mode o b on) = slice_set wanted (class_of_var d o) true
  with_named d wanted (call c) = slice_set wanted (class_of_var d c.object) true
  with_named d wanted (repeat n s) = with_named d wanted s
  with_named d wanted (list ss) = with_all_named d wanted ss

  pub with_all_named : DesignTerm → List Bool → StmtTerms → List Bool
  with_all_named d wanted no_stmts = wanted
  with_all_named d wanted (more_stmts s ss) = with_all_named d (with_named d wanted s) ss

-- what was wanted still is
abbrev pub KeepsWanted : List Bool → List Bool → Type 0
KeepsWanted old new = (k : ℕ) → slice_index_or old k true ≡ true → slice_index_or new k true ≡ true

-- what is made of a class
abbrev pub wanted_class : List Bool → List ClassTerm → ℕ → FlatTerm
wanted_class wanted cs k = if slice_index_or wanted k true then flat_class_of cs k else no_class
