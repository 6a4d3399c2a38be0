-- Types, classes and variables as plain data, and those that the code's stand for (IEEE 1800-2017, A.1.9, A.1.10 and A.2).
use Rattle.std.specs.Prelude.{ℕ, Bool, List, Option, map, option_map}
use Rattle.svr_operator.specs.declared.Rand.{Rand}
use Rattle.svr_tree.specs.declared.decl.VectorKind.{VectorKind}
use Rattle.svr_tree.specs.declared.decl.AtomKind.{AtomKind}
use Rattle.svr_tree.specs.declared.decl.Signing.{Signing}
use Rattle.svr_tree.specs.declared.decl.PackedRange.{PackedRange}
use Rattle.svr_tree.specs.declared.decl.IntegerType.{IntegerType}
use Rattle.svr_tree.specs.declared.decl.IntegerType.TheVariants as integer_type
use Rattle.svr_tree.specs.declared.decl.DataType.{DataType}
use Rattle.svr_tree.specs.declared.decl.DataType.TheVariants as data_type
use Rattle.svr_tree.specs.declared.decl.MemberDecl.{MemberDecl}
use Rattle.svr_tree.specs.declared.decl.EnumDecl.{EnumDecl}
use Rattle.svr_tree.specs.declared.decl.TypeDefinition.{TypeDefinition}
use Rattle.svr_tree.specs.declared.decl.TypeDefinition.TheVariants as definition
use Rattle.svr_tree.specs.declared.decl.TypeDecl.{TypeDecl}
use Rattle.svr_tree.specs.declared.decl.Dimension.{Dimension}
use Rattle.svr_tree.specs.declared.decl.Dimension.TheVariants as dimension
use Rattle.svr_tree.specs.declared.decl.Declarator.{Declarator}
use Rattle.svr_tree.specs.declared.decl.PropertyDecl.{PropertyDecl}
use Rattle.svr_tree.specs.declared.decl.ConstraintBlock.{ConstraintBlock}
use Rattle.svr_tree.specs.declared.decl.ClassItem.{ClassItem}
use Rattle.svr_tree.specs.declared.decl.ClassItem.TheVariants as class_item
use Rattle.svr_tree.specs.declared.decl.ClassDecl.{ClassDecl}
use Rattle.svr_tree.specs.declared.decl.VarInit.{VarInit}
use Rattle.svr_tree.specs.declared.decl.VarInit.TheVariants as var_init
use Rattle.svr_tree.specs.declared.decl.VarDeclarator.{VarDeclarator}
use Rattle.svr_tree.specs.declared.decl.VarDecl.{VarDecl}
use Rattle.svr_tree.specs.ExprTree.{ExprTree, expr_tree}
use Rattle.svr_tree.specs.ItemTree.{ItemTrees, item_trees}

-- `at` is the token `[`
pub record PackedRangeTree : Type 0 where
  pub at : ℕ
  pub msb : ExprTree
  pub lsb : ExprTree

-- the number is that of the first token
pub data IntegerTypeTree : Type 0 where
  vector : ℕ → VectorKind → Option Signing → Option PackedRangeTree → IntegerTypeTree
  atom : ℕ → AtomKind → Option Signing → IntegerTypeTree

pub data DataTypeTree : Type 0 where
  integer : IntegerTypeTree → DataTypeTree
  named : ℕ → DataTypeTree

pub record MemberTree : Type 0 where
  pub name : ℕ
  pub value : Option ExprTree

pub record EnumTree : Type 0 where
  pub base : Option IntegerTypeTree
  pub members : List MemberTree

pub data DefinitionTree : Type 0 where
  enum : EnumTree → DefinitionTree
  plain : IntegerTypeTree → DefinitionTree

pub record TypeTree : Type 0 where
  pub definition : DefinitionTree
  pub name : ℕ

pub data DimensionTree : Type 0 where
  dynamic : DimensionTree
  queue : DimensionTree
  size : ExprTree → DimensionTree
  bounds : ExprTree → ExprTree → DimensionTree

pub record DeclaratorTree : Type 0 where
  pub name : ℕ
  pub dims : List DimensionTree
  pub value : Option ExprTree

pub record PropertyTree : Type 0 where
  pub rand : Rand
  pub kind : DataTypeTree
  pub decls : List DeclaratorTree

pub record BlockTree : Type 0 where
  pub name : ℕ
  pub items : ItemTrees

pub data ClassItemTree : Type 0 where
  property : PropertyTree → ClassItemTree
  block : BlockTree → ClassItemTree

pub record ClassTree : Type 0 where
  pub name : ℕ
  pub base : Option ℕ
  pub items : List ClassItemTree
  pub label : Option ℕ

-- a value, or `new` and whether `()` follows
pub data VarInitTree : Type 0 where
  value : ExprTree → VarInitTree
  new : Bool → VarInitTree

pub record VarDeclaratorTree : Type 0 where
  pub name : ℕ
  pub init : Option VarInitTree

pub record VarTree : Type 0 where
  pub kind : DataTypeTree
  pub vars : List VarDeclaratorTree

abbrev pub packed_tree : PackedRange → PackedRangeTree
packed_tree r = record { at = r.at; msb = expr_tree r.msb; lsb = expr_tree r.lsb }

abbrev pub integer_tree : IntegerType → IntegerTypeTree
integer_tree (integer_type.Vector at kind signing range) = vector at kind signing (option_map packed_tree range)
integer_tree (integer_type.Atom at kind signing) = atom at kind signing

abbrev pub type_tree : DataType → DataTypeTree
type_tree (data_type.Integer t) = integer (integer_tree t)
type_tree (data_type.Named n) = named n

abbrev pub member_tree : MemberDecl → MemberTree
member_tree m = record { name = m.name; value = option_map expr_tree m.value }

abbrev pub enum_tree : EnumDecl → EnumTree
enum_tree d = record { base = option_map integer_tree d.base; members = map member_tree d.members }

abbrev pub definition_tree : TypeDefinition → DefinitionTree
definition_tree (definition.Enum d) = enum (enum_tree d)
definition_tree (definition.Integer t) = plain (integer_tree t)

abbrev pub type_decl_tree : TypeDecl → TypeTree
type_decl_tree d = record { definition = definition_tree d.definition; name = d.name }

abbrev pub dimension_tree : Dimension → DimensionTree
dimension_tree dimension.Dynamic = dynamic
dimension_tree dimension.Queue = queue
dimension_tree (dimension.Size e) = size (expr_tree e)
dimension_tree (dimension.Bounds first last) = bounds (expr_tree first) (expr_tree last)

abbrev pub declarator_tree : Declarator → DeclaratorTree
declarator_tree d = record { name = d.name; dims = map dimension_tree d.dims; value = option_map expr_tree d.value }

abbrev pub property_tree : PropertyDecl → PropertyTree
property_tree p = record { rand = p.rand; kind = type_tree p.kind; decls = map declarator_tree p.decls }

abbrev pub block_tree : ConstraintBlock → BlockTree
block_tree b = record { name = b.name; items = item_trees b.items }

abbrev pub class_item_tree : ClassItem → ClassItemTree
class_item_tree (class_item.Property p) = property (property_tree p)
class_item_tree (class_item.Constraint b) = block (block_tree b)

abbrev pub class_tree : ClassDecl → ClassTree
class_tree c = record { name = c.name; base = c.base; items = map class_item_tree c.items; label = c.label }

abbrev pub var_init_tree : VarInit → VarInitTree
var_init_tree (var_init.Value e) = value (expr_tree e)
var_init_tree (var_init.New parens) = new parens

abbrev pub var_declarator_tree : VarDeclarator → VarDeclaratorTree
var_declarator_tree v = record { name = v.name; init = option_map var_init_tree v.init }

abbrev pub var_tree : VarDecl → VarTree
var_tree v = record { kind = type_tree v.kind; vars = map var_declarator_tree v.vars }
