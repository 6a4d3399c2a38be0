-- What statements name: objects, and the properties and blocks of their classes (IEEE 1800-2017, 8.7, 18.6.1, 18.7, 18.8, 18.9 and 18.11).
use Rattle.std.specs.Prelude.{ℕ, nat_eq, Bool, true, not, ◌&&◌, if◌then◌else◌, List, [], ◌∷◌, ◌++◌, Option, Some, None, is_none, option_map}
use Rattle.std.specs.List.{list_any}
use Rattle.svr_typed.specs.declared.CallList.{CallList}
use Rattle.svr_typed.specs.declared.CallList.TheVariants as call_list
use Rattle.svr_tree.specs.declared.Scope.{Scope}
use Rattle.svr_tree.specs.declared.Scope.TheVariants as scope
use Rattle.svr_tree.specs.declared.ModeKind.{ModeKind}
use Rattle.svr_tree.specs.declared.ModeKind.TheVariants as mode_kind
use Rattle.svr_tree.specs.declared.RandomizeArgs.{RandomizeArgs}
use Rattle.svr_tree.specs.declared.RandomizeArgs.TheVariants as args
use Rattle.svr_tree.specs.ExprTree as raw
use Rattle.svr_tree.specs.ExprTree.{ExprTree}
use Rattle.svr_refusal.specs.declared.Refusal.TheVariants as refusal
use Rattle.svr_elab_fault.specs.Refusals.{Gather, when}
use Rattle.svr_elab_names.specs.declared.Property.{Property}
use Rattle.svr_elab_names.specs.declared.Meaning.{Meaning}
use Rattle.svr_elab_names.specs.declared.Meaning.TheVariants.{Wrong, LoopOf, ItemOf, MemberOf, PropertyOf, SizeOf, FoldOf, VariableOf, ObjectOf}
use Rattle.svr_elab_names.specs.declared.Region.TheVariants as region
use Rattle.svr_elab_names.specs.Names.{Space, PropName, is_same, look, class_props, property_named}
use Rattle.svr_elab_part.specs.declared.Form.{Form}
use Rattle.svr_elab_part.specs.Elab.{Elab}
use Rattle.svr_elab_part.specs.Forms.{is_refused}
use Rattle.svr_elab_target.specs.Targets.{target_of, is_answer}
use Rattle.svr_elab_target.specs.Blocks.{block_number}

-- ---- which object variables have an object

abbrev pub and_made : List ℕ → Option ℕ → List ℕ
and_made made None = made
and_made made (Some o) = if list_any (nat_eq o) made then made else made ++ o ∷ []

abbrev pub with_made : Space → List ℕ → Space
with_made n made = record n { made = made }

-- ---- a path that begins with an object variable: its first name, the names behind it, the variable and its class

pub record ObjectPath : Type 0 where
  pub first : ℕ
  pub rest : List ℕ
  pub object : Option (ℕ × ℕ)

abbrev pub object_meant : Meaning → Option (ℕ × ℕ)
object_meant (Wrong w) = None
object_meant (LoopOf k) = None
object_meant (ItemOf k p) = None
object_meant (MemberOf v kind) = None
object_meant (PropertyOf p o) = None
object_meant (SizeOf p o) = None
object_meant (FoldOf p o f array) = None
object_meant (VariableOf v kind) = None
object_meant (ObjectOf o c) = Some (o, c)

abbrev pub path_from : Space → Scope → List ℕ → ObjectPath
path_from n s [] = record { first = 0; rest = []; object = None }
path_from n s (name ∷ rest) = record { first = name; rest = rest; object = object_meant (look n s (name ∷ [])).meaning }

abbrev pub path_names : ExprTree → List ℕ
path_names (raw.path at s names call) = names
path_names e = []

abbrev pub path_scope : ExprTree → Scope
path_scope (raw.path at s names call) = s
path_scope e = scope.Plain

abbrev pub object_path : Space → ExprTree → ObjectPath
object_path n e = path_from n (path_scope e) (path_names e)

-- ---- what a call names

abbrev pub and_number : Option Property → List ℕ → List ℕ
and_number None ns = ns
and_number (Some p) ns = ns ++ p.number ∷ []

-- the numbers of the listed properties, behind those before
abbrev pub numbers_of : (ℕ → List ℕ) → List PropName → List ℕ → List ℕ → List ℕ
numbers_of text ps before [] = before
numbers_of text ps before (name ∷ names) = numbers_of text ps (and_number (property_named ps (text name)) before) names

abbrev pub call_list_of : Space → ℕ → RandomizeArgs → CallList
call_list_of n c args.Empty = call_list.All
call_list_of n c args.Null = call_list.Null
call_list_of n c (args.Names names) = call_list.Listed (numbers_of n.text (class_props n.classes c) [] names)

-- in an in-line set for an object of this class (18.7)
abbrev pub in_line_with : Space → List PropName → Space
in_line_with n ps = record n { region = region.InLine; props = ps }

abbrev pub in_line_space : Space → ℕ → Space
in_line_space n c = in_line_with n (class_props n.classes c)

-- one more of some different names
abbrev pub and_listed : List (List ℕ) → List ℕ → List (List ℕ)
and_listed before q = if list_any (is_same q) before then before else before ++ q ∷ []

-- ---- what a mode names: a property, or a block

abbrev pub property_number : List PropName → List ℕ → Option ℕ
property_number ps q = option_map (λ p. p.number) (property_named ps q)

abbrev pub member_number : ModeKind → Space → ℕ → List ℕ → Option ℕ
member_number mode_kind.Rand n c q = property_number (class_props n.classes c) q
member_number mode_kind.Constraint n c q = block_number n.classes c q

-- the property or block that stands behind the object variable
abbrev pub mode_member : ModeKind → Space → ℕ → List ℕ → Option ℕ
mode_member k n c [] = None
mode_member k n c (name ∷ rest) = member_number k n c (n.text name)

-- the name with which the path can't be that of a mode any more
abbrev pub wrong_member : Option ℕ → List ℕ → Option ℕ
wrong_member found [] = None
wrong_member None (name ∷ rest) = Some name
wrong_member (Some k) (name ∷ []) = None
wrong_member (Some k) (name ∷ next ∷ rest) = Some next

abbrev pub wrong_rest : List ℕ → Option ℕ
wrong_rest [] = None
wrong_rest (name ∷ rest) = Some name

module _ {F : Type 0} (g : Gather F) where
  abbrev pub unknown_at : Option ℕ → F
  unknown_at None = g.nothing
  unknown_at (Some name) = when g true name refusal.UnknownName

  -- a left side that may not stand there, unless its path is refused already
  abbrev pub misplaced : Form → Bool → F
  misplaced f fits = when g (not fits && not (is_refused f.root)) f.name refusal.UnknownName

  -- a first name that is no object variable, or one that has no object
  abbrev pub use_faults : List ℕ → ℕ → Option (ℕ × ℕ) → F
  use_faults made first None = when g true first refusal.UnknownName
  use_faults made first (Some x) = when g (not (list_any (nat_eq x.0) made)) first refusal.NullObject

  abbrev pub name_faults : List PropName → List (List ℕ) → ℕ → List ℕ → F
  name_faults ps before name q = g.both (when g (is_none (property_named ps q)) name refusal.UnknownName) (when g (list_any (is_same q) before) name refusal.DoubleName)

  -- each name is a property, and listed once; `before` are the names before, of which `start` is refused
  abbrev pub names_faults : (ℕ → List ℕ) → List PropName → List (List ℕ) → F → List ℕ → F
  names_faults text ps before start [] = start
  names_faults text ps before start (name ∷ names) =
      names_faults text ps (and_listed before (text name)) (g.both start (name_faults ps before name (text name))) names

  abbrev pub list_faults : Space → ℕ → RandomizeArgs → F
  list_faults n c args.Empty = g.nothing
  list_faults n c args.Null = g.nothing
  list_faults n c (args.Names names) = names_faults n.text (class_props n.classes c) [] g.nothing names

  abbrev pub answer_faults : Elab F → F
  answer_faults x = g.both x.faults (misplaced x.form (is_answer (target_of x.form) x.form.members))
