-- Types, classes and variables: what they spell, which may stand under which, how high their expressions are (IEEE 1800-2017, A.1.9, A.1.10 and A.2).
use Rattle.std.specs.Prelude.{ℕ, ◌≤◌, max, List, [], ◌∷◌, ◌++◌, length, Option, Some, None}
use Rattle.svr_token.specs.declared.Word.{Word}
use Rattle.svr_token.specs.declared.Word.TheVariants as w
use Rattle.svr_token.specs.declared.Mark.TheVariants as m
use Rattle.svr_operator.specs.declared.Rand.{Rand}
use Rattle.svr_operator.specs.declared.Rand.TheVariants as rand
use Rattle.svr_tree.specs.declared.decl.VectorKind.{VectorKind}
use Rattle.svr_tree.specs.declared.decl.VectorKind.TheVariants as vector_kind
use Rattle.svr_tree.specs.declared.decl.AtomKind.{AtomKind}
use Rattle.svr_tree.specs.declared.decl.AtomKind.TheVariants as atom_kind
use Rattle.svr_tree.specs.declared.decl.Signing.{Signing}
use Rattle.svr_tree.specs.declared.decl.Signing.TheVariants as signing
use Rattle.svr_tree.specs.ExprTree.{ExprTree}
use Rattle.svr_tree.specs.DeclTree.{PackedRangeTree, IntegerTypeTree, vector, atom, DataTypeTree, integer, named, MemberTree, DefinitionTree, enum, plain, TypeTree, DimensionTree, dynamic, queue, size, bounds, DeclaratorTree, PropertyTree, BlockTree, ClassItemTree, property, block, ClassTree, VarInitTree, value, new, VarDeclaratorTree, VarTree}
use Rattle.svr_tree.specs.Tokens.{Entry, Name, word, word_on, mark, mark_on, each_spelling, listed, Each, OneOrMore}
use Rattle.svr_tree.specs.ExprGrammar.{parens_spelling, expr_spelling, IsExpr, expr_height}
use Rattle.svr_tree.specs.ItemGrammar.{items_spelling, AreBlockItems, items_height}

-- ---- what a tree spells

abbrev pub vector_word : VectorKind → Word
vector_word vector_kind.Bit = w.Bit
vector_word vector_kind.Logic = w.Logic
vector_word vector_kind.Reg = w.Reg

abbrev pub atom_word : AtomKind → Word
atom_word atom_kind.Byte = w.Byte
atom_word atom_kind.ShortInt = w.ShortInt
atom_word atom_kind.Int = w.Int
atom_word atom_kind.LongInt = w.LongInt
atom_word atom_kind.Integer = w.Integer

-- [ signing ]
abbrev pub signing_spelling : Option Signing → List Entry
signing_spelling None = []
signing_spelling (Some signing.Signed) = word w.Signed ∷ []
signing_spelling (Some signing.Unsigned) = word w.Unsigned ∷ []

-- [ packed_dimension ]
abbrev pub packed_spelling : Option PackedRangeTree → List Entry
packed_spelling None = []
packed_spelling (Some r) = mark_on r.at m.OpenBracket ∷ (expr_spelling r.msb ++ mark m.Colon ∷ (expr_spelling r.lsb ++ mark m.CloseBracket ∷ []))

-- A.2.2.1: integer_type
abbrev pub integer_spelling : IntegerTypeTree → List Entry
integer_spelling (vector at k s r) = word_on at (vector_word k) ∷ (signing_spelling s ++ packed_spelling r)
integer_spelling (atom at k s) = word_on at (atom_word k) ∷ signing_spelling s

-- A.2.2.1: data_type
abbrev pub type_spelling : DataTypeTree → List Entry
type_spelling (integer t) = integer_spelling t
type_spelling (named n) = Name n ∷ []

-- [ "=" expr ]
abbrev pub initial_spelling : Option ExprTree → List Entry
initial_spelling None = []
initial_spelling (Some e) = mark m.Assign ∷ expr_spelling e

-- A.2.2.1: enum_name_declaration
abbrev pub member_spelling : MemberTree → List Entry
member_spelling d = Name d.name ∷ initial_spelling d.value

-- [ enum_base_type ]
abbrev pub base_spelling : Option IntegerTypeTree → List Entry
base_spelling None = []
base_spelling (Some t) = integer_spelling t

abbrev pub definition_spelling : DefinitionTree → List Entry
definition_spelling (enum d) = word w.Enum ∷ (base_spelling d.base ++ mark m.OpenBrace ∷ (listed member_spelling d.members ++ mark m.CloseBrace ∷ []))
definition_spelling (plain t) = integer_spelling t

-- A.2.1.3: type_declaration
abbrev pub typedef_spelling : TypeTree → List Entry
typedef_spelling d = word w.TypeDef ∷ (definition_spelling d.definition ++ Name d.name ∷ (mark m.Semicolon ∷ []))

-- A.2.5: unsized_dimension, queue_dimension, unpacked_dimension
abbrev pub dimension_spelling : DimensionTree → List Entry
dimension_spelling dynamic = mark m.OpenBracket ∷ (mark m.CloseBracket ∷ [])
dimension_spelling queue = mark m.OpenBracket ∷ (mark m.Dollar ∷ (mark m.CloseBracket ∷ []))
dimension_spelling (size e) = mark m.OpenBracket ∷ (expr_spelling e ++ mark m.CloseBracket ∷ [])
dimension_spelling (bounds first last) = mark m.OpenBracket ∷ (expr_spelling first ++ mark m.Colon ∷ (expr_spelling last ++ mark m.CloseBracket ∷ []))

-- A.2.4: variable_decl_assignment
abbrev pub declarator_spelling : DeclaratorTree → List Entry
declarator_spelling d = Name d.name ∷ (each_spelling dimension_spelling d.dims ++ initial_spelling d.value)

-- [ random_qualifier ]
abbrev pub rand_spelling : Rand → List Entry
rand_spelling rand.State = []
rand_spelling rand.Rand = word w.Rand ∷ []
rand_spelling rand.Randc = word w.Randc ∷ []

-- A.1.9: class_property
abbrev pub property_spelling : PropertyTree → List Entry
property_spelling p = rand_spelling p.rand ++ (type_spelling p.kind ++ (listed declarator_spelling p.decls ++ mark m.Semicolon ∷ []))

-- A.1.10: constraint_declaration
abbrev pub block_spelling : BlockTree → List Entry
block_spelling c = word w.Constraint ∷ (Name c.name ∷ (mark m.OpenBrace ∷ (items_spelling c.items ++ mark m.CloseBrace ∷ [])))

-- A.1.9: class_item
abbrev pub class_item_spelling : ClassItemTree → List Entry
class_item_spelling (property p) = property_spelling p
class_item_spelling (block c) = block_spelling c

-- [ "extends" NAME ]
abbrev pub extends_spelling : Option ℕ → List Entry
extends_spelling None = []
extends_spelling (Some n) = word w.Extends ∷ (Name n ∷ [])

-- [ ":" NAME ]
abbrev pub label_spelling : Option ℕ → List Entry
label_spelling None = []
label_spelling (Some n) = mark m.Colon ∷ (Name n ∷ [])

-- A.1.2: class_declaration
abbrev pub class_spelling : ClassTree → List Entry
class_spelling c = word w.Class ∷ (Name c.name ∷ (extends_spelling c.base ++ mark m.Semicolon ∷ (each_spelling class_item_spelling c.items ++ word w.EndClass ∷ label_spelling c.label)))

-- [ "=" ( expr | "new" [ "(" ")" ] ) ]
abbrev pub var_init_spelling : Option VarInitTree → List Entry
var_init_spelling None = []
var_init_spelling (Some (value e)) = mark m.Assign ∷ expr_spelling e
var_init_spelling (Some (new parens)) = mark m.Assign ∷ (word w.New ∷ parens_spelling parens)

abbrev pub var_declarator_spelling : VarDeclaratorTree → List Entry
var_declarator_spelling v = Name v.name ∷ var_init_spelling v.init

-- A.2.1.3: data_declaration
abbrev pub var_spelling : VarTree → List Entry
var_spelling v = type_spelling v.kind ++ (listed var_declarator_spelling v.vars ++ mark m.Semicolon ∷ [])

-- ---- which tree may stand under which: any expression where the grammar has one, and lists of one or more

abbrev pub IsOptionalExpr : Option ExprTree → Type 0
IsOptionalExpr None = Unit {0}
IsOptionalExpr (Some e) = IsExpr e

abbrev pub IsPacked : Option PackedRangeTree → Type 0
IsPacked None = Unit {0}
IsPacked (Some r) = IsExpr r.msb × IsExpr r.lsb

abbrev pub IsInteger : IntegerTypeTree → Type 0
IsInteger (vector at k s r) = IsPacked r
IsInteger (atom at k s) = Unit {0}

abbrev pub IsType : DataTypeTree → Type 0
IsType (integer t) = IsInteger t
IsType (named n) = Unit {0}

abbrev pub IsEnumMember : MemberTree → Type 0
IsEnumMember d = IsOptionalExpr d.value

abbrev pub IsBase : Option IntegerTypeTree → Type 0
IsBase None = Unit {0}
IsBase (Some t) = IsInteger t

abbrev pub IsDefinition : DefinitionTree → Type 0
IsDefinition (enum d) = IsBase d.base × OneOrMore IsEnumMember d.members
IsDefinition (plain t) = IsInteger t

abbrev pub IsTypedef : TypeTree → Type 0
IsTypedef d = IsDefinition d.definition

abbrev pub IsDimension : DimensionTree → Type 0
IsDimension dynamic = Unit {0}
IsDimension queue = Unit {0}
IsDimension (size e) = IsExpr e
IsDimension (bounds first last) = IsExpr first × IsExpr last

-- two dimensions at most
abbrev pub AreDimensions : List DimensionTree → Type 0
AreDimensions dims = Each IsDimension dims × (length dims ≤ 2)

abbrev pub IsDeclarator : DeclaratorTree → Type 0
IsDeclarator d = AreDimensions d.dims × IsOptionalExpr d.value

abbrev pub IsProperty : PropertyTree → Type 0
IsProperty p = IsType p.kind × OneOrMore IsDeclarator p.decls

abbrev pub IsClassItem : ClassItemTree → Type 0
IsClassItem (property p) = IsProperty p
IsClassItem (block c) = AreBlockItems c.items

abbrev pub IsClass : ClassTree → Type 0
IsClass c = Each IsClassItem c.items

abbrev pub IsVarInit : Option VarInitTree → Type 0
IsVarInit None = Unit {0}
IsVarInit (Some (value e)) = IsExpr e
IsVarInit (Some (new parens)) = Unit {0}

abbrev pub IsVarDeclarator : VarDeclaratorTree → Type 0
IsVarDeclarator v = IsVarInit v.init

abbrev pub IsVar : VarTree → Type 0
IsVar v = IsType v.kind × OneOrMore IsVarDeclarator v.vars

-- ---- the greatest height of an expression or of an item of a block in it

abbrev pub greatest : {A : Type 0} → (A → ℕ) → List A → ℕ
greatest f [] = 0
greatest f (x ∷ xs) = max (f x) (greatest f xs)

abbrev pub optional_height : Option ExprTree → ℕ
optional_height None = 0
optional_height (Some e) = expr_height e

abbrev pub packed_height : Option PackedRangeTree → ℕ
packed_height None = 0
packed_height (Some r) = max (expr_height r.msb) (expr_height r.lsb)

abbrev pub integer_height : IntegerTypeTree → ℕ
integer_height (vector at k s r) = packed_height r
integer_height (atom at k s) = 0

abbrev pub type_height : DataTypeTree → ℕ
type_height (integer t) = integer_height t
type_height (named n) = 0

abbrev pub member_height : MemberTree → ℕ
member_height d = optional_height d.value

abbrev pub base_height : Option IntegerTypeTree → ℕ
base_height None = 0
base_height (Some t) = integer_height t

abbrev pub typedef_height : DefinitionTree → ℕ
typedef_height (enum d) = max (base_height d.base) (greatest member_height d.members)
typedef_height (plain t) = integer_height t

abbrev pub dimension_height : DimensionTree → ℕ
dimension_height dynamic = 0
dimension_height queue = 0
dimension_height (size e) = expr_height e
dimension_height (bounds first last) = max (expr_height first) (expr_height last)

abbrev pub declarator_height : DeclaratorTree → ℕ
declarator_height d = max (greatest dimension_height d.dims) (optional_height d.value)

abbrev pub class_item_height : ClassItemTree → ℕ
class_item_height (property p) = max (type_height p.kind) (greatest declarator_height p.decls)
class_item_height (block c) = items_height c.items

abbrev pub class_height : ClassTree → ℕ
class_height c = greatest class_item_height c.items

abbrev pub var_init_height : Option VarInitTree → ℕ
var_init_height None = 0
var_init_height (Some (value e)) = expr_height e
var_init_height (Some (new parens)) = 0

abbrev pub var_declarator_height : VarDeclaratorTree → ℕ
var_declarator_height v = var_init_height v.init

abbrev pub var_height : VarTree → ℕ
var_height v = max (type_height v.kind) (greatest var_declarator_height v.vars)
