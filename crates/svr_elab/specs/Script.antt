-- A whole script: its design, and every refusal (IEEE 1800-2017, clauses 3, 6, 8 and 18).
use Rattle.std.specs.Prelude.{ℕ, ◌*◌, nat_lt, if◌then◌else◌, List, [], ◌∷◌, ◌++◌, drop, Option, Some, None, option_map}
use Rattle.svr_limits.specs.declared.limit.TheConstants.{ELEMENT_LIMIT}
use Rattle.svr_typed.specs.declared.ArrayKind.{ArrayKind}
use Rattle.svr_typed.specs.declared.ArrayKind.TheVariants as array
use Rattle.svr_typed.specs.declared.Prop.{Prop}
use Rattle.svr_typed.specs.declared.EnumType.{EnumType}
use Rattle.svr_typed.specs.declared.TVar.{TVar}
use Rattle.svr_typed.specs.declared.VarKind.{VarKind}
use Rattle.svr_typed.specs.declared.VarKind.TheVariants as var_kind
use Rattle.svr_typed.specs.ClassTerm.{BlockTerm, ClassTerm}
use Rattle.svr_typed.specs.StmtTerm as stmt_term
use Rattle.svr_typed.specs.StmtTerm.{StmtTerm, DesignTerm}
use Rattle.svr_tree.specs.StmtTree.{stmts_of}
use Rattle.svr_tree.specs.ScriptTree.{UnitTree, ScriptTree}
use Rattle.svr_elab_fault.specs.declared.Fault.{Fault}
use Rattle.svr_elab_fault.specs.Refusals.{Gather, all}
use Rattle.svr_elab_names.specs.declared.Vector.{Vector}
use Rattle.svr_elab_names.specs.declared.Dims.{Dims}
use Rattle.svr_elab_names.specs.declared.Dims.TheVariants as dims
use Rattle.svr_elab_names.specs.declared.VarStand.{VarStand}
use Rattle.svr_elab_names.specs.declared.VarStand.TheVariants as stand
use Rattle.svr_elab_names.specs.Names.{Space, PropName, ClassName, VarName}
use Rattle.svr_elab_part.specs.Shapes.{all_known, and_more, inner_of}
use Rattle.svr_elab_type.specs.Types.{GlobalsElab, declaring}
use Rattle.svr_elab_class.specs.Classes.{label_faults}
use Rattle.svr_elab_tops.specs.InOrder.{types_and_classes}
use Rattle.svr_elab_random.specs.Random.{classes_with}
use Rattle.svr_elab_block.specs.Blocks.{BodiesElab, no_bodies, bodies}
use Rattle.svr_elab_stmt.specs.Stmts.{StmtsElab}
use Rattle.svr_elab_unit.specs.Listed.{all_listed}
use Rattle.svr_elab_unit.specs.Vars.{VarsElab, no_vars, var_decls, stmt_space}
use Rattle.svr_elab_unit.specs.Run.{run}

-- what is known of a script: its design, where each part has one
pub record ScriptElab (F : Type 0) : Type 0 where
  pub design : Option DesignTerm
  pub faults : F

-- ---- what stands in the design

-- each of a list behind those before, where all are known
abbrev pub each_known : {A B : Type 0} → (A → Option B) → Option (List B) → List A → Option (List B)
each_known f known [] = known
each_known f known (x ∷ xs) = each_known f (and_more known (f x)) xs

-- a fixed array of more elements is refused
abbrev pub fixed : ℕ → Option ArrayKind
fixed n = if nat_lt ELEMENT_LIMIT n then None else Some (array.Fixed n)

abbrev pub fixed_of : Option ℕ → Option ArrayKind
fixed_of None = None
fixed_of (Some n) = fixed n

abbrev pub rows_of : Option ℕ → Option ℕ → Option ArrayKind
rows_of None m = None
rows_of (Some n) None = None
rows_of (Some n) (Some m) = fixed (n * m)

abbrev pub array_kind : Dims → Option ArrayKind
array_kind dims.Scalar = Some array.Scalar
array_kind (dims.Fixed n) = fixed_of n
array_kind (dims.Rows n m) = rows_of n m
array_kind dims.Dynamic = Some array.Dynamic

abbrev pub property_term : PropName → Vector → ArrayKind → ℕ → Prop
property_term p k a m = record { name = p.name; kind = k.kind; rand = p.property.rand; array = a; first = p.first; low = k.low; can = p.property.random; inner = m }

abbrev pub property : PropName → Option Prop
property p = all_known (property_term p) p.property.kind (array_kind p.property.dims) (inner_of p.property.dims)

abbrev pub class_of : ClassName → List BlockTerm → List Prop → ClassTerm
class_of c bs ps = record { name = c.name; base = c.base; props = ps; blocks = bs }

-- a class with its own properties and blocks
abbrev pub class : ClassName → List BlockTerm → Option ClassTerm
class c bs = option_map (class_of c bs) (each_known property (Some []) (drop c.inherited c.props))

-- classes behind those before, with the blocks that each declares itself
abbrev pub classes : Option (List ClassTerm) → List ClassName → List (List BlockTerm) → Option (List ClassTerm)
classes known cs [] = known
classes known [] (b ∷ bs) = known
classes known (c ∷ cs) (b ∷ bs) = classes (and_more known (class c b)) cs bs

abbrev pub all_classes : List ClassName → Option (List (List BlockTerm)) → Option (List ClassTerm)
all_classes cs None = None
all_classes cs (Some bs) = classes (Some []) cs bs

abbrev pub number_kind : Vector → VarKind
number_kind k = var_kind.Number k.kind

abbrev pub kind_of : VarStand → Option VarKind
kind_of (stand.OfNumber kind) = option_map number_kind kind
kind_of (stand.OfObject c) = Some (var_kind.Object c)

abbrev pub named : List ℕ → VarKind → TVar
named name kind = record { name = name; kind = kind }

abbrev pub variable : VarName → Option TVar
variable v = option_map (named v.name) (kind_of v.stands)

abbrev pub variables : List VarName → Option (List TVar)
variables vs = each_known variable (Some []) vs

abbrev pub design : List EnumType → List ClassTerm → List TVar → List StmtTerm → DesignTerm
design enums cs vs ss = record { enums = enums; classes = cs; vars = vs; stmts = stmt_term.stmts_of ss }

abbrev pub design_of : List EnumType → Option (List ClassTerm) → Option (List TVar) → Option (List StmtTerm) → Option DesignTerm
design_of enums cs vs ss = all_known (design enums) cs vs ss

-- every name of the script, where calls say which properties can be random besides
abbrev pub with_calls : Space → UnitTree → Space
with_calls n u = record n { classes = classes_with (all_listed n [] (stmts_of u.stmts)) n.classes }

module _ {F : Type 0} (g : Gather F) where
  -- nothing is declared
  abbrev pub no_globals : (ℕ → List ℕ) → GlobalsElab F
  no_globals text = record { names = declaring text [] []; enums = []; faults = g.nothing }

  -- types and classes, in the order of the text
  abbrev pub heads : (ℕ → List ℕ) → ScriptTree → GlobalsElab F
  heads text s = types_and_classes g (no_globals text) s.order s.types s.classes

  abbrev pub unit_vars : Space → UnitTree → VarsElab F
  unit_vars n u = var_decls g n (no_vars g) (u.outer ++ u.inner)

  abbrev pub all_faults : F → F → F → F → F → F
  all_faults heads vars bodies stmts label = g.both heads (g.both vars (g.both bodies (g.both stmts label)))

  -- `n` has every name of the script
  abbrev pub whole : Space → GlobalsElab F → VarsElab F → BodiesElab F → StmtsElab F → UnitTree → ScriptElab F
  whole n h v b r u = record {
    design = design_of h.enums (all_classes n.classes b.blocks) (variables v.vars) r.trees;
    faults = all_faults h.faults v.faults b.faults r.faults (label_faults g n.text u.name u.label);
  }

  abbrev pub within : Space → GlobalsElab F → VarsElab F → ScriptTree → ScriptElab F
  within n h v s = whole n h v (bodies g n (no_bodies g) 0 s.classes) (run g n v.stands s.unit) s.unit

  abbrev pub joined : GlobalsElab F → VarsElab F → ScriptTree → ScriptElab F
  joined h v s = within (with_calls (stmt_space h.names v.vars) s.unit) h v s

  abbrev pub behind_heads : GlobalsElab F → ScriptTree → ScriptElab F
  behind_heads h s = joined h (unit_vars h.names s.unit) s

  -- `text`: what each token spells
  abbrev pub script : (ℕ → List ℕ) → ScriptTree → ScriptElab F
  script text s = behind_heads (heads text s) s

-- every refusal of a script, and its design
abbrev pub faults_of : (ℕ → List ℕ) → ScriptTree → List Fault
faults_of text s = (script all text s).faults

abbrev pub design_in : (ℕ → List ℕ) → ScriptTree → Option DesignTerm
design_in text s = (script all text s).design
